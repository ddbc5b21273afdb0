pub mod Object
pub mod Loose
pub mod Views
pub mod Readers
pub mod Checks
pub mod Owned
pub mod Format
pub use Rattle.gix_hash.specs.Hasher
pub use Rattle.gix_hash.specs.Id
pub use Rattle.gix_hash.specs.Views as HashViews
