pub mod Indexing
pub mod Logs
pub mod Seen
pub mod Shown
pub mod Walked
pub use Rattle.gix_traverse_graph.specs.Rows
pub use Rattle.history_model.specs.Answers
pub use Rattle.history_model.specs.Bytes
pub use Rattle.history_model.specs.Commands
pub use Rattle.history_model.specs.Repository
pub use Rattle.history_repository.specs.Reads
pub use Rattle.history_repository.specs.Stands
pub use Rattle.history_walks.specs.Rows as WalksRows
pub use Rattle.history_word.specs.Commands as WordCommands
