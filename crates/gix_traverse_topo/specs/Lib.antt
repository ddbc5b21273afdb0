pub mod Faults
pub mod Turns
pub mod Nodes
pub mod Meeting
pub mod Walking
pub mod Waiting
pub mod Exploring
pub mod Standing
pub mod Giving
pub mod Asking
pub use Rattle.gix_traverse_commit_known.specs.Fetching
pub use Rattle.gix_traverse_commit_known.specs.Meeting as CommitKnownMeeting
pub use Rattle.gix_traverse_commit_known.specs.Told
pub use Rattle.gix_traverse_graph.specs.Commits
pub use Rattle.gix_traverse_graph.specs.Order
pub use Rattle.gix_traverse_graph.specs.Rows
pub use Rattle.gix_traverse_graph.specs.Walks
