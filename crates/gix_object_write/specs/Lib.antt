pub mod Keeping
pub mod Streams
pub use Rattle.gix_hash.specs.Hasher
pub use Rattle.gix_hash.specs.Id
pub use Rattle.gix_object_any.specs.Loose
pub use Rattle.gix_object_lines.specs.Writes
