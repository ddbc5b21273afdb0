pub mod OverFiles
pub mod Reports
