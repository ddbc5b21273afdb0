pub mod Halts
pub mod Ways
pub use Rattle.gix_ref_file.specs.Calls
pub use Rattle.gix_ref_file.specs.Changes
pub use Rattle.gix_ref_file.specs.History
pub use Rattle.gix_ref_file.specs.Tree
