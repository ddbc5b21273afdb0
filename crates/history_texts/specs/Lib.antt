pub mod Actors
pub mod Commits
pub mod Formats
pub mod IdLists
pub mod Malformed
pub mod ObjectTexts
pub mod OpenErrors
pub mod Parts
pub mod Tags
pub mod Written
pub use Rattle.gix_hash.specs.Id
pub use Rattle.gix_hash.specs.Kind
pub use Rattle.gix_hash.specs.Order
pub use Rattle.gix_object_commit.specs.Commit
pub use Rattle.gix_object_commit.specs.OwnedText
pub use Rattle.gix_object_commit.specs.Tokens
pub use Rattle.gix_object_lines.specs.Bytes
pub use Rattle.gix_object_tag.specs.Tokens as TagTokens
pub use Rattle.gix_object_tree.specs.Entry
pub use Rattle.gix_ref_file.specs.Calls
pub use Rattle.history_model.specs.Bytes as ModelBytes
pub use Rattle.history_model.specs.Forms
pub use Rattle.history_model.specs.Objects
pub use Rattle.history_model.specs.Places
