pub mod Below
pub mod Calls
pub mod Changes
pub mod History
pub mod Nodes
pub mod Past
pub mod Tree
