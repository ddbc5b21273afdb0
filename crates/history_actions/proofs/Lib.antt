pub mod Entered
pub mod Foreign
pub mod Looked
pub mod Noted
pub mod Opened
pub mod Refused
pub mod Writing
