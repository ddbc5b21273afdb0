-- What objects hold, and how it is spelled: by the grammars of their kinds.
use Rattle.std.specs.Prelude.{ℕ, ◌≡◌, List, Option, None}
use Rattle.gix_hash.specs.Kind.{hex_len}
use Rattle.gix_hash.specs.declared.kind.Kind as hash
use Rattle.gix_object_lines.specs.Writes.{Refusal}
use Rattle.gix_object_lines.specs.declared.kind.Kind.{Kind}
use Rattle.gix_object_lines.specs.declared.kind.Kind.TheVariants as kinds
use Rattle.gix_object_lines.specs.declared.decode.Error.{Error}
use Rattle.gix_object_tree.specs.Entry.{Item, SpellsTree, TreeFault}
use Rattle.gix_object_tree.specs.Writing.{tree_text, tree_refusal}
use Rattle.gix_object_commit.specs.Commit as commit
use Rattle.gix_object_commit.specs.Commit.{SpellsCommit, commit_text}
use Rattle.gix_object_commit.specs.Faults.{CommitFault}
use Rattle.gix_object_commit.specs.Writing.{commit_refusal}
use Rattle.gix_object_tag.specs.Faults.{TagFault}
use Rattle.gix_object_tag.specs.Tag as tag
use Rattle.gix_object_tag.specs.Tag.{SpellsTag}
use Rattle.gix_object_tag.specs.TagText.{tag_text, tag_refusal, is_bad_tagger}

-- what an object holds: a file's bytes, the entries of a tree, or the parts of a commit or a tag
pub data Value : Type 0 where
  Blob : List ℕ → Value
  Tree : List Item → Value
  Commit : commit.Parts → Value
  Tag : tag.Parts → Value

abbrev pub kind_of : Value → Kind
kind_of (Blob _) = kinds.Blob
kind_of (Tree _) = kinds.Tree
kind_of (Commit _) = kinds.Commit
kind_of (Tag _) = kinds.Tag

-- the content spells the value, its ids of this hash function
abbrev pub SpellsValue : hash.Kind → List ℕ → Value → Type 0
SpellsValue ids content (Blob bytes) = content ≡ bytes
SpellsValue ids content (Tree items) = SpellsTree ids content items
SpellsValue ids content (Commit parts) = SpellsCommit (hex_len ids) content parts
SpellsValue ids content (Tag parts) = SpellsTag ids content parts

-- an object of this kind and content holds the value
pub record Tells (ids : hash.Kind) (kind : Kind) (content : List ℕ) (value : Value) : Type 0 where
  pub of_kind : kind ≡ kind_of value
  pub spelled : SpellsValue ids content value

-- why content of a kind isn't read: a blob's always is; of the others, the first part that fails is
-- named
abbrev pub ContentFault : hash.Kind → Kind → List ℕ → Error → Type 0
ContentFault ids kinds.Tree content error = TreeFault ids content error
ContentFault ids kinds.Blob content error = ⊥
ContentFault ids kinds.Commit content error = CommitFault (hex_len ids) content error
ContentFault ids kinds.Tag content error = TagFault ids content error

-- ---- what is written

abbrev pub value_text : Value → List ℕ
value_text (Blob bytes) = bytes
value_text (Tree items) = tree_text items
value_text (Commit parts) = commit_text parts
value_text (Tag parts) = tag_text parts

abbrev pub value_refusal : Value → Option Refusal
value_refusal (Blob _) = None
value_refusal (Tree items) = tree_refusal items
value_refusal (Commit parts) = commit_refusal parts
value_refusal (Tag parts) = tag_refusal parts (is_bad_tagger parts.tagger)
