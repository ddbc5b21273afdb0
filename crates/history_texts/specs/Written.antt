-- What a store takes: the contents of objects in written form, and the objects that they name
-- (git-fsck reports other trees; git-mktree, git-commit-tree and git-mktag write these).
use Rattle.std.specs.Prelude.{◌≡◌, ◌≢◌, ◌≤◌, List, [], ◌∷◌, ◌++◌, codes, length, map, IsTrue, IsFalse, if◌then◌else◌}
use Rattle.std.specs.List.{All}
use Rattle.gix_hash.specs.Id.{Id, id_of}
use Rattle.gix_hash.specs.declared.kind.Kind.{Kind}
use Rattle.gix_object_lines.specs.Bytes.{Lacks}
use Rattle.gix_object_lines.specs.declared.kind.Kind.{Kind as ObjectKind}
use Rattle.gix_object_lines.specs.declared.kind.Kind.TheVariants as kinds
use Rattle.gix_object_tree.specs.Entry.{Item, SpellsTree}
use Rattle.gix_object_tree.specs.Mode.{kind_of, kind_word}
use Rattle.gix_object_tree.specs.ModeText.{Mode, mode_text}
use Rattle.gix_object_tree.specs.Order.{is_tree}
use Rattle.gix_object_tree.specs.WellFormed.{IsWellFormed}
use Rattle.gix_object_tree.specs.Writing.{tree_text}
use Rattle.gix_object_tree.specs.declared.tree.mode.EntryKind.TheVariants as modes
use Rattle.gix_object_commit.specs.Commit.{Parts, commit_text}
use Rattle.history_model.specs.Bytes.{Bytes, is_empty}
use Rattle.history_model.specs.Forms.{is_id, is_actor, is_commit_form, is_tag_form, is_tag_name, title, max_title}
use Rattle.history_model.specs.Objects.{Actor, CommitValue, TagValue, actor_text, empty_tree_id, tag_content}
use Rattle.history_texts.specs.Formats.{plain_parts}
use Rattle.history_texts.specs.declared.written.Named.{Named}
use Rattle.history_texts.specs.declared.written.tags.TagTexts.{TagTexts}

-- an object that is named, and the kind that it must be of
abbrev pub Naming : Type 0
Naming = Id × ObjectKind

abbrev pub naming_of : Named → Naming
naming_of named = (id_of named.id, named.kind)

-- ---- trees

-- a folder's mode, a file's, a program's or a link's, in the digits that Git writes
pub record IsWrittenMode (mode : Mode) : Type 0 where
  pub digits : mode_text mode ≡ kind_word (kind_of mode.value)
  pub no_commit : kind_of mode.value ≢ modes.Commit

-- no folder is empty
pub record IsWrittenEntry (digests : Kind) (item : Item) : Type 0 where
  pub mode : IsWrittenMode item.mode
  pub some : item.id ≢ empty_tree_id digests

-- the content is the text of these entries, which are in Git's order, each name once
pub record AreWritten (digests : Kind) (content : Bytes) (items : List Item) : Type 0 where
  pub text : content ≡ tree_text items
  pub well_formed : IsWellFormed items
  pub entries : All (IsWrittenEntry digests) items

abbrev pub IsWrittenTree : Kind → Bytes → List Item → Type 0
IsWrittenTree digests content items =
    SpellsTree digests content items × AreWritten digests content items

-- the kind of the object that an entry names
abbrev pub entry_kind : Item → ObjectKind
entry_kind item = if is_tree item then kinds.Tree else kinds.Blob

abbrev pub named_by_item : Item → Naming
named_by_item item = (item.id, entry_kind item)

-- ---- commits

-- the parts of a commit of this tree, with all else as the value has it
abbrev pub commit_parts : Id → CommitValue → Parts
commit_parts tree value = plain_parts tree value.parents value.author value.committer value.message

-- The parts are those of a commit in written form. (The tree's id determines the value's files.)
pub record AreCommitParts (digests : Kind) (parts : Parts) (tree : Id)
    (value : CommitValue) : Type 0 where
  pub tree_is : IsTrue (is_id digests tree)
  pub form : IsTrue (is_commit_form digests value)
  pub told : parts ≡ commit_parts tree value

abbrev pub named_by_commit : Id → CommitValue → List Naming
named_by_commit tree value =
    (tree, kinds.Tree) ∷ map (λ parent. (parent, kinds.Commit)) value.parents

-- the parts are those of such a commit, and name these objects
pub record NamesByParts (digests : Kind) (parts : Parts) (named : List Naming) : Type 0 where
  pub tree : Id
  pub value : CommitValue
  pub parts_are : AreCommitParts digests parts tree value
  pub named_are : named ≡ named_by_commit tree value

pub record NamesByCommit (digests : Kind) (content : Bytes) (named : List Naming) : Type 0 where
  pub parts : Parts
  pub text : content ≡ commit_text parts
  pub names : NamesByParts digests parts named

-- ---- tags

pub record NamesByTag (digests : Kind) (content : Bytes) (named : List Naming) : Type 0 where
  pub tag : TagValue
  pub form : IsTrue (is_tag_form digests tag)
  pub text : content ≡ tag_content tag
  pub named_are : named ≡ (tag.target, kinds.Commit) ∷ []

-- ---- all

pub record NamesByTree (digests : Kind) (content : Bytes) (named : List Naming) : Type 0 where
  pub items : List Item
  pub written : IsWrittenTree digests content items
  pub named_are : named ≡ map named_by_item items

-- the content is one of this kind in written form, and names these objects
abbrev pub NamesObjects : Kind → ObjectKind → Bytes → List Naming → Type 0
NamesObjects digests kinds.Tree content named = NamesByTree digests content named
NamesObjects digests kinds.Blob content named = named ≡ []
NamesObjects digests kinds.Commit content named = NamesByCommit digests content named
NamesObjects digests kinds.Tag content named = NamesByTag digests content named

-- the content is none of this kind in written form
abbrev pub IsMalformed : Kind → ObjectKind → Bytes → Type 0
IsMalformed digests kind content =
    (named : List Naming) → NamesObjects digests kind content named → ⊥

-- ---- the parts of a tag

-- what is on the lines of a tag of a commit, and after them
pub record TagParts : Type 0 where
  pub target : Bytes
  pub name : Bytes
  pub tagger : Bytes
  pub message : Bytes

abbrev pub tag_lines : TagParts → Bytes
tag_lines parts =
    codes "object "
    ++ (parts.target ++ 10 ∷ (codes "type commit\n" ++ (codes "tag " ++ (parts.name ++ 10 ∷
    (codes "tagger " ++ (parts.tagger ++ 10 ∷ (10 ∷ parts.message)))))))

-- no line has a line feed in it
pub record AreLines (parts : TagParts) : Type 0 where
  pub target : Lacks 10 parts.target
  pub name : Lacks 10 parts.name
  pub tagger : Lacks 10 parts.tagger

abbrev pub parts_of_tag : TagTexts → TagParts
parts_of_tag texts =
    record {
      target =
          texts.target.now;
      name =
          texts.name.now;
      tagger = texts.tagger.now;
      message = texts.message.now;
    }

-- name, tagger and message are a tag's in written form
pub record AreTagParts (parts : TagParts) : Type 0 where
  pub actor : Actor
  pub actor_is : IsTrue (is_actor actor)
  pub tagger : parts.tagger ≡ actor_text actor
  pub name : IsTrue (is_tag_name parts.name)
  pub some : IsFalse (is_empty parts.message)
  pub titled : length (title parts.message) ≤ max_title
