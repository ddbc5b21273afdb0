pub mod Joined
pub use Rattle.history.specs.Runs
pub use Rattle.history_model.specs.Places
pub use Rattle.history_model.specs.Repository
pub use Rattle.history_model.specs.Rounds
pub use Rattle.history_model.specs.StandsFor
pub use Rattle.history_repository.specs.Causes
pub use Rattle.history_repository.specs.Opened
