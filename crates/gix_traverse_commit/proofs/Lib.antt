pub mod Over
pub mod Awaited
pub mod ByTime
pub mod Counting
pub mod Rest
