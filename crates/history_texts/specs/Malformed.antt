-- Why a commit or a tag in no written form is refused: its time is before 1970, or it is no
-- commit's tag.
use Rattle.std.specs.Prelude.{◌≡◌, Bool, ◌||◌, ◌∷◌, ◌++◌, codes, IsTrue}
use Rattle.gix_hash.specs.Kind.{hex_len}
use Rattle.gix_hash.specs.declared.kind.Kind.{Kind}
use Rattle.gix_object_commit.specs.Commit.{Parts, SpellsCommit}
use Rattle.gix_object_lines.specs.Actor.{SpellsActor}
use Rattle.gix_object_lines.specs.Bytes.{Lacks}
use Rattle.gix_object_lines.specs.declared.kind.Kind.{Kind as ObjectKind}
use Rattle.gix_object_lines.specs.declared.kind.Kind.TheVariants as kinds
use Rattle.history_model.specs.Bytes.{Bytes, begins}
use Rattle.history_texts.specs.Written.{AreLines, IsMalformed, TagParts, tag_lines}

-- ---- a time before 1970

-- the seconds of the time have a minus
abbrev pub is_before : Bytes → Bool
is_before time = begins (codes "-") time

-- the content spells a commit, and its author's or its committer's time is such a one
pub record IsCommitBefore1970 (digests : Kind) (content : Bytes) : Type 0 where
  pub parts : Parts
  pub spelled : SpellsCommit (hex_len digests) content parts
  pub before : IsTrue (is_before (parts.author).time || is_before (parts.committer).time)

-- the content has the lines of a commit's tag, and its tagger's time is such a one
pub record IsTagBefore1970 (content : Bytes) : Type 0 where
  pub parts : TagParts
  pub are_lines : AreLines parts
  pub text : content ≡ tag_lines parts
  pub name : Bytes
  pub email : Bytes
  pub time : Bytes
  pub tagger : SpellsActor parts.tagger name email time
  pub before : IsTrue (is_before time)

-- the content of an object of this kind has a time before 1970
abbrev pub IsBefore1970 : Kind → ObjectKind → Bytes → Type 0
IsBefore1970 digests kinds.Tree content = ⊥
IsBefore1970 digests kinds.Blob content = ⊥
IsBefore1970 digests kinds.Commit content = IsCommitBefore1970 digests content
IsBefore1970 digests kinds.Tag content = IsTagBefore1970 content

-- ---- a tag of something else

-- the text begins with the line of another type than a commit's
abbrev pub is_type_of_other : Bytes → Bool
is_type_of_other text =
    begins (codes "type blob\n") text || begins (codes "type tree\n") text
    || begins (codes "type tag\n") text

-- the content begins with a tag's first two lines, and its object isn't a commit
pub record IsTagOfOther (content : Bytes) : Type 0 where
  pub target : Bytes
  pub in_line : Lacks 10 target
  pub rest : Bytes
  pub text_is : content ≡ codes "object " ++ (target ++ 10 ∷ rest)
  pub typed : IsTrue (is_type_of_other rest)

-- ---- laws

-- an object with a time before 1970 is in no written form
abbrev pub BeforeIsMalformed : Type 0
BeforeIsMalformed = (digests : Kind) (kind : ObjectKind) (content : Bytes)
    → IsBefore1970 digests kind content → IsMalformed digests kind content

-- nor is a tag of something other than a commit
abbrev pub OfOtherIsMalformed : Type 0
OfOtherIsMalformed =
    (digests : Kind) (content : Bytes) → IsTagOfOther content → IsMalformed digests kinds.Tag content
