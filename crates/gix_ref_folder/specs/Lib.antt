pub mod Disks
pub mod Errors
pub mod Folders
pub mod Parts
pub mod Systems
pub use Rattle.gix_ref_file.specs.Changes
pub use Rattle.gix_ref_file.specs.History
pub use Rattle.gix_ref_file.specs.Tree
