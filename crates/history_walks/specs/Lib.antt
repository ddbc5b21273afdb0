pub mod Asking
pub mod Faults
pub mod Naming
pub mod ReadCommits
pub mod Rows
pub mod Simply
pub mod Sorted
pub mod Telling
pub use Rattle.gix_hash.specs.Id
pub use Rattle.gix_object_lookup.specs.Existing
pub use Rattle.gix_object_lookup.specs.Table
pub use Rattle.gix_traverse_commit_known.specs.Told
pub use Rattle.gix_traverse_graph.specs.Rows as GraphRows
pub use Rattle.gix_traverse_topo.specs.Standing
pub use Rattle.history_model.specs.Answers
pub use Rattle.history_model.specs.Repository
