pub mod Values
pub use Rattle.gix_hash.specs.Views
pub use Rattle.gix_object_any.specs.Readers
pub use Rattle.gix_object_lookup.specs.Existing
pub use Rattle.gix_object_lookup.specs.Table
