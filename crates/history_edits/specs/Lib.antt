pub mod Bridges
pub mod EditChanges
pub mod EditCommits
pub mod EditFaults
pub mod EditPlans
pub mod PackPlans
pub mod SwitchPlans
