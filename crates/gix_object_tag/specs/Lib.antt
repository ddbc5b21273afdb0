pub mod Signature
pub mod Tag
pub mod Views
pub mod Faults
pub mod TokenFaults
pub mod Tokens
pub mod ReadingOn
pub mod NameTest
pub mod BodyTest
pub mod Pieces
pub mod TagText
pub mod Format
pub mod Owned
pub mod OwnedText
pub mod Whole
pub mod Signing
pub mod Writable
pub use Rattle.bstr.specs.BStr
pub use Rattle.gix_hash.specs.Id
pub use Rattle.gix_hash.specs.Kind
pub use Rattle.gix_hash.specs.Views as HashViews
pub use Rattle.gix_object_lines.specs.HexLine
pub use Rattle.gix_object_lines.specs.NameTest as LinesNameTest
pub use Rattle.gix_object_lines.specs.PartialName
pub use Rattle.gix_object_lines.specs.Writes
pub use Rattle.gix_object_signature.specs.Run
