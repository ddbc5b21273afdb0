-- Objects that are read again as they were written, and written again as they were read
-- (git-cat-file prints what git-hash-object stored).
use Rattle.std.specs.Prelude.{ℕ, ◌≡◌, ◌≢◌, ⊤, false, None, List, [], length, IfSome, All, map}
use Rattle.gix_hash.specs.Id.{id_of}
use Rattle.gix_hash.specs.Kind.{hex_len}
use Rattle.gix_hash.specs.LetterCase.{IsLowerCase}
use Rattle.gix_hash.specs.declared.kind.Kind as hash
use Rattle.gix_object_lines.specs.Time.{SpellsTime, time_text}
use Rattle.gix_object_lines.specs.declared.lines.time.Time.{Time}
use Rattle.gix_object_commit.specs.Commit as commit
use Rattle.gix_object_commit.specs.Writable as writable
use Rattle.gix_object_tag.specs.NameTest.{name_fault}
use Rattle.gix_object_tag.specs.Tag as tag_parts
use Rattle.gix_object_tag.specs.TagText.{is_marked_tagger}
use Rattle.gix_object_tree.specs.Entry.{own_item}
use Rattle.gix_object_tree.specs.Writing as tree
use Rattle.gix_object_any.specs.Object.{Value, Blob, Tree, Commit, Tag}
use Rattle.gix_object_any.specs.declared.owned.Object.{Object}
use Rattle.gix_object_any.specs.declared.owned.Object.TheVariants as object

-- the ids of a tree, or the first id of a commit or a tag, are of this hash function
abbrev pub HasIds : hash.Kind → Value → Type 0
HasIds ids (Blob bytes) = ⊤
HasIds ids (Tree items) = tree.HasIds ids items
HasIds ids (Commit parts) = length parts.tree ≡ hex_len ids
HasIds ids (Tag parts) = length parts.target ≡ hex_len ids

-- the same for an object that owns its parts
abbrev pub HasOwnIds : hash.Kind → Object → Type 0
HasOwnIds ids (object.Blob blob) = ⊤
HasOwnIds ids (object.Tree own) = tree.HasIds ids (map own_item own.entries.items)
HasOwnIds ids (object.Commit commit) = (id_of commit.tree).kind ≡ ids
HasOwnIds ids (object.Tag tag) = (id_of tag.target).kind ≡ ids

-- no part is one that is read and never written: a commit's actors are plain and its encoding has a
-- name; a tag's name is one that Git makes, and its tagger plain
abbrev pub IsWritable : Value → Type 0
IsWritable (Blob bytes) = ⊤
IsWritable (Tree items) = ⊤
IsWritable (Commit parts) = writable.IsWritable parts
IsWritable (Tag parts) = (name_fault parts.name ≡ None) × (is_marked_tagger parts.tagger ≡ false)

-- the content is what is written of the value. But a tree's mode may have more zeros there; and a
-- tag's empty message may be left out with its empty line, or precede a signature with or without a
-- line feed
abbrev pub IsSpelledAsWritten : hash.Kind → List ℕ → Value → Type 0
IsSpelledAsWritten ids content (Blob bytes) = ⊤
IsSpelledAsWritten ids content (Tree items) = tree.SpellsAsWritten ids content items
IsSpelledAsWritten ids content (Commit parts) = ⊤
IsSpelledAsWritten ids content (Tag parts) = parts.message ≢ []

-- ---- what an object that owns its parts keeps of their texts

-- the time that the text spells is written as this text
abbrev pub IsTimeText : List ℕ → Type 0
IsTimeText text = (time : Time) × SpellsTime text time × (text ≡ time_text time)

pub record HasOwnTexts (parts : commit.Parts) : Type 0 where
  pub tree : IsLowerCase parts.tree
  pub parents : All IsLowerCase parts.parents
  pub author : IsTimeText parts.author.time
  pub committer : IsTimeText parts.committer.time

pub record HasOwnTagTexts (parts : tag_parts.Parts) : Type 0 where
  pub target : IsLowerCase parts.target
  pub tagger : IfSome parts.tagger (λ tagger. IsTimeText tagger.time)

-- ids are in lower case, and times as they are written
abbrev pub IsKeptWhole : Value → Type 0
IsKeptWhole (Blob bytes) = ⊤
IsKeptWhole (Tree items) = ⊤
IsKeptWhole (Commit parts) = HasOwnTexts parts
IsKeptWhole (Tag parts) = HasOwnTagTexts parts
