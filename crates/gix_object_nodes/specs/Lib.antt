pub mod Files
pub mod Nodes
pub mod Marks
pub mod Writing
pub mod Written
pub mod Below
pub use Rattle.gix_object_tree.specs.Entry
