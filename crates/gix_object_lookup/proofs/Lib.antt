pub mod Named
pub mod Followed
