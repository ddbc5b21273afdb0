pub use Rattle.gix_object_any.specs.Checks
pub use Rattle.gix_object_any.specs.Format
pub use Rattle.gix_object_any.specs.Loose
pub use Rattle.gix_object_any.specs.Object
pub use Rattle.gix_object_any.specs.Owned
pub use Rattle.gix_object_any.specs.Readers
pub use Rattle.gix_object_any.specs.Views
pub use Rattle.gix_object_commit.specs.Commit
pub use Rattle.gix_object_commit.specs.Faults
pub use Rattle.gix_object_commit.specs.HeaderViews
pub use Rattle.gix_object_commit.specs.Headers
pub use Rattle.gix_object_commit.specs.LineViews
pub use Rattle.gix_object_commit.specs.Messages
pub use Rattle.gix_object_commit.specs.Owned as CommitOwned
pub use Rattle.gix_object_commit.specs.OwnedText
pub use Rattle.gix_object_commit.specs.Parents
pub use Rattle.gix_object_commit.specs.Reading
pub use Rattle.gix_object_commit.specs.ReadingOn
pub use Rattle.gix_object_commit.specs.Signature
pub use Rattle.gix_object_commit.specs.SignedCommit
pub use Rattle.gix_object_commit.specs.Signing
pub use Rattle.gix_object_commit.specs.Tokens
pub use Rattle.gix_object_commit.specs.Views as CommitViews
pub use Rattle.gix_object_commit.specs.Whole
pub use Rattle.gix_object_commit.specs.Writable
pub use Rattle.gix_object_commit.specs.Writing
pub use Rattle.gix_object_editor.specs.Asked
pub use Rattle.gix_object_editor.specs.Cursor
pub use Rattle.gix_object_editor.specs.Editor
pub use Rattle.gix_object_editor.specs.Entries
pub use Rattle.gix_object_editor.specs.Lending
pub use Rattle.gix_object_editor.specs.Outcomes
pub use Rattle.gix_object_editor.specs.Stored
pub use Rattle.gix_object_editor.specs.Written
pub use Rattle.gix_object_find.specs.Values
pub use Rattle.gix_object_lines.specs.Actor
pub use Rattle.gix_object_lines.specs.Bytes
pub use Rattle.gix_object_lines.specs.Decimal
pub use Rattle.gix_object_lines.specs.FullName
pub use Rattle.gix_object_lines.specs.Header
pub use Rattle.gix_object_lines.specs.HexLine
pub use Rattle.gix_object_lines.specs.Kind
pub use Rattle.gix_object_lines.specs.LineWrites
pub use Rattle.gix_object_lines.specs.NameTest
pub use Rattle.gix_object_lines.specs.PartialName
pub use Rattle.gix_object_lines.specs.Pieces
pub use Rattle.gix_object_lines.specs.Time
pub use Rattle.gix_object_lines.specs.TimeTest
pub use Rattle.gix_object_lines.specs.Writes
pub use Rattle.gix_object_lookup.specs.Existing
pub use Rattle.gix_object_lookup.specs.Path
pub use Rattle.gix_object_lookup.specs.Table
pub use Rattle.gix_object_message.specs.Attribution
pub use Rattle.gix_object_message.specs.Blocks
pub use Rattle.gix_object_message.specs.BodyViews
pub use Rattle.gix_object_message.specs.Borrowed
pub use Rattle.gix_object_message.specs.Paragraphs
pub use Rattle.gix_object_message.specs.Selected
pub use Rattle.gix_object_message.specs.Title
pub use Rattle.gix_object_message.specs.Trailer
pub use Rattle.gix_object_message.specs.Views as MessageViews
pub use Rattle.gix_object_message.specs.White
pub use Rattle.gix_object_signature.specs.Armor
pub use Rattle.gix_object_signature.specs.Run
pub use Rattle.gix_object_signature.specs.Signed
pub use Rattle.gix_object_signature.specs.Signing as SignatureSigning
pub use Rattle.gix_object_signature.specs.Trust
pub use Rattle.gix_object_signature.specs.Verifying
pub use Rattle.gix_object_tag.specs.BodyTest
pub use Rattle.gix_object_tag.specs.Faults as TagFaults
pub use Rattle.gix_object_tag.specs.Format as TagFormat
pub use Rattle.gix_object_tag.specs.Owned as TagOwned
pub use Rattle.gix_object_tag.specs.OwnedText as TagOwnedText
pub use Rattle.gix_object_tag.specs.ReadingOn as TagReadingOn
pub use Rattle.gix_object_tag.specs.Signature as TagSignature
pub use Rattle.gix_object_tag.specs.Signing as TagSigning
pub use Rattle.gix_object_tag.specs.Tag
pub use Rattle.gix_object_tag.specs.TagText
pub use Rattle.gix_object_tag.specs.Tokens as TagTokens
pub use Rattle.gix_object_tag.specs.Views as TagViews
pub use Rattle.gix_object_tag.specs.Whole as TagWhole
pub use Rattle.gix_object_tag.specs.Writable as TagWritable
pub use Rattle.gix_object_tree.specs.Entry
pub use Rattle.gix_object_tree.specs.Hashing
pub use Rattle.gix_object_tree.specs.Mode
pub use Rattle.gix_object_tree.specs.ModeText
pub use Rattle.gix_object_tree.specs.Order
pub use Rattle.gix_object_tree.specs.OrderLaws
pub use Rattle.gix_object_tree.specs.Reading as TreeReading
pub use Rattle.gix_object_tree.specs.WellFormed
pub use Rattle.gix_object_tree.specs.Writing as TreeWriting
pub use Rattle.gix_object_write.specs.Keeping
pub use Rattle.gix_object_write.specs.Streams
