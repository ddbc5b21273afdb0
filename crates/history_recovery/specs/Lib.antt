pub mod Changes
pub mod Clearing
pub mod Recovering
pub use Rattle.gix_ref_file.specs.Calls
pub use Rattle.history_model.specs.Places
pub use Rattle.history_model.specs.Recovery
