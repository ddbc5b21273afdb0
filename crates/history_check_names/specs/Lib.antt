pub mod Stored
pub mod Logs
pub mod Packed
pub mod PackedRead
pub mod Sound
pub mod Parts
pub mod Causes
pub mod Joined
pub use Rattle.gix_ref_file.specs.Calls
pub use Rattle.gix_ref_file.specs.Tree
pub use Rattle.history_check_objects.specs.Stored as CheckObjectsStored
pub use Rattle.history_model.specs.Places
pub use Rattle.history_model.specs.Repository
pub use Rattle.history_store.specs.NamesFace
pub use Rattle.history_store.specs.Packing
