pub use Rattle.gix_hash.specs.Faults
pub use Rattle.gix_hash.specs.Hasher
pub use Rattle.gix_hash.specs.Id
pub use Rattle.gix_hash.specs.Pieces
pub use Rattle.gix_object_lines.specs.Header
