pub mod Spelled
pub mod OneEntry
pub mod Octals
pub mod Keys
pub mod Written
pub mod Twins
pub mod Searched
pub mod TreeLaws
