pub mod Table
pub mod Cases
pub mod Existing
pub mod Path
pub use Rattle.gix_hash.specs.Views
pub use Rattle.gix_object_tree.specs.Entry
