-- The parts of a tag one after another, and what each is read from.
use Rattle.std.specs.Prelude.{ℕ, ◌≡◌, ◌≢◌, List, [], ◌∷◌, Option, None, Some, Result, Ok, Err}
use Rattle.bstr.specs.BStr.{bstr_bytes}
use Rattle.gix_hash.specs.Id.{Id, id_of}
use Rattle.gix_hash.specs.Views.{IsHexOfId}
use Rattle.gix_hash.specs.declared.kind.Kind as hash
use Rattle.gix_object_lines.specs.declared.decode.Error.{Error}
use Rattle.gix_object_lines.specs.declared.kind.Kind.{Kind}
use Rattle.gix_object_lines.specs.Person.{Person}
use Rattle.gix_object_tag.specs.Tag.{SpellsTarget, SpellsKind, SpellsName, SpellsTagger, SpellsRest}
use Rattle.gix_object_tag.specs.TokenFaults.{IsFaultAt}
use Rattle.gix_object_tag.specs.Views.{tagger_of, text_of}
use Rattle.gix_object_tag.specs.declared.tag.ref_iter.Stage.{Stage}
use Rattle.gix_object_tag.specs.declared.tag.ref_iter.Stage.TheVariants as at
use Rattle.gix_object_tag.specs.declared.tag.ref_iter.TagRefIter.{TagRefIter}
use Rattle.gix_object_tag.specs.declared.tag.ref_iter.Token.{Token}
use Rattle.gix_object_tag.specs.declared.tag.ref_iter.Token.TheVariants as token

-- a part of a tag
pub data Part : Type 0 where
  Target : Id → Part
  TargetKind : Kind → Part
  Name : List ℕ → Part
  Tagger : Option Person → Part
  Body : List ℕ → Option (List ℕ) → Part

abbrev pub part_of : Token → Part
part_of (token.Target id) = Target (id_of id)
part_of (token.TargetKind kind) = TargetKind kind
part_of (token.Name name) = Name (bstr_bytes name)
part_of (token.Tagger tagger) = Tagger (tagger_of tagger)
part_of (token.Body message signature) = Body (bstr_bytes message) (text_of signature)

-- the id that a part holds
abbrev pub id_told : Part → Option Id
id_told (Target id) = Some id
id_told (TargetKind _) = None
id_told (Name _) = None
id_told (Tagger _) = None
id_told (Body _ _) = None

-- the line of the target begins the input
pub record IsIdLine (kind : hash.Kind) (input : List ℕ) (id : Id) (rest : List ℕ) : Type 0 where
  pub digits : List ℕ
  pub spelled : SpellsTarget kind input digits rest
  pub id_spelled : IsHexOfId digits id

-- the part may come next and begins the input, and the rest follows it
abbrev pub IsPartAt : hash.Kind → Stage → List ℕ → Part → List ℕ → Type 0
IsPartAt kind stage input (Target id) rest = (stage ≡ at.Target) × IsIdLine kind input id rest
IsPartAt kind stage input (TargetKind target) rest =
    (stage ≡ at.TargetKind) × SpellsKind input target rest
IsPartAt kind stage input (Name name) rest = (stage ≡ at.Name) × SpellsName input name rest
IsPartAt kind stage input (Tagger tagger) rest =
    (stage ≡ at.Tagger) × SpellsTagger input tagger rest
IsPartAt kind stage input (Body message signature) rest =
    (stage ≡ at.Body) × SpellsRest input message signature × (rest ≡ [])

-- where the reader is once it has given the part
abbrev pub stage_after : Part → Stage
stage_after (Target _) = at.TargetKind
stage_after (TargetKind _) = at.Name
stage_after (Name _) = at.Tagger
stage_after (Tagger _) = at.Body
stage_after (Body _ _) = at.Body

-- where a reader is: what may come next, and the input from there on
pub record Place : Type 0 where
  pub kind : hash.Kind
  pub stage : Stage
  pub input : List ℕ

abbrev pub place_of : TagRefIter → Place
place_of reader = record { kind = reader.hash_kind; stage = reader.stage; input = reader.rest.now }

-- at the start of a tag
abbrev pub start : hash.Kind → List ℕ → Place
start kind input = record { kind = kind; stage = at.Target; input = input }

-- the input isn't empty, the part is next, and the reader moves past it
abbrev pub IsNext : Place → Part → Place → Type 0
IsNext before part after =
    (before.input ≢ []) × IsPartAt before.kind before.stage before.input part after.input
    × (after.stage ≡ stage_after part) × (after.kind ≡ before.kind)

-- the input isn't empty, and no part is next
abbrev pub LacksPart : Place → Type 0
LacksPart place =
    (place.input ≢ [])
    × ((part : Part) (rest : List ℕ) → ¬ IsPartAt place.kind place.stage place.input part rest)

-- the reader is at the end, where no part but a body may come
abbrev pub IsAtEnd : Place → Place → Type 0
IsAtEnd before after = (after.input ≡ []) × (after.stage ≡ at.Body) × (after.kind ≡ before.kind)

-- the reader gives the part that is next, nothing if its input has ended, and otherwise why none is
-- next, and then nothing
abbrev pub GivesToken : Place → Option (Result Token Error) → Place → Type 0
GivesToken before None after = (before.input ≡ []) × (after ≡ before)
GivesToken before (Some (Ok token)) after = IsNext before (part_of token) after
GivesToken before (Some (Err error)) after =
    LacksPart before × IsFaultAt before.kind before.stage before.input error
    × IsAtEnd before after

-- how many tokens come at most
abbrev pub stages_left : Stage → ℕ
stages_left at.Target = 5
stages_left at.TargetKind = 4
stages_left at.Name = 3
stages_left at.Tagger = 2
stages_left at.Body = 1

abbrev pub left_of : Stage → List ℕ → ℕ
left_of stage [] = 0
left_of stage (byte ∷ rest) = stages_left stage

abbrev pub tokens_left : Place → ℕ
tokens_left place = left_of place.stage place.input
