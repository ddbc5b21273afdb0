-- The parts of a commit one after another, and what each is read from.
use Rattle.std.specs.Prelude.{ℕ, ◌≡◌, ◌≢◌, List, [], ◌∷◌, ◌++◌, ◌⊎◌, codes, Option, None, Some, Result, Ok, Err}
use Rattle.gix_hash.specs.declared.kind.Kind.{Kind}
use Rattle.gix_hash.specs.Id.{Id, id_of}
use Rattle.gix_hash.specs.Kind.{hex_len}
use Rattle.gix_hash.specs.Views.{IsHexOfId}
use Rattle.bstr.specs.BStr.{bstr_bytes}
use Rattle.gix_object_lines.specs.Bytes.{Lacks}
use Rattle.gix_object_lines.specs.HexLine.{hex_line, IsHex}
use Rattle.gix_object_lines.specs.declared.decode.Error.{Error}
use Rattle.gix_object_lines.specs.Person.{Person, actor_line, person_of}
use Rattle.gix_object_commit.specs.declared.ref_iter.Stage.{Stage}
use Rattle.gix_object_commit.specs.declared.ref_iter.Stage.TheVariants as at
use Rattle.gix_object_commit.specs.declared.ref_iter.Token.{Token}
use Rattle.gix_object_commit.specs.declared.ref_iter.Token.TheVariants as token
use Rattle.gix_object_commit.specs.declared.ref_iter.CommitRefIter.{CommitRefIter}
use Rattle.gix_object_commit.specs.Commit.{Field, line, field_text, IsPerson, IsField}
use Rattle.gix_object_commit.specs.Reading.{IsUnspaced}
use Rattle.gix_object_commit.specs.TokenFaults.{IsFaultAt}
use Rattle.gix_object_commit.specs.LineViews.{field_of}

-- a part of a commit
pub data Part : Type 0 where
  Tree : Id → Part
  Parent : Id → Part
  Author : Person → Part
  Committer : Person → Part
  Encoding : List ℕ → Part
  Header : Field → Part
  Message : List ℕ → Part

abbrev pub part_of : Token → Part
part_of (token.Tree id) = Tree (id_of id)
part_of (token.Parent id) = Parent (id_of id)
part_of (token.Author signature) = Author (person_of signature)
part_of (token.Committer signature) = Committer (person_of signature)
part_of (token.Encoding name) = Encoding (bstr_bytes name)
part_of (token.ExtraHeader header) = Header (field_of header)
part_of (token.Message message) = Message (bstr_bytes message)

-- the id that a part holds
abbrev pub id_told : Part → Option Id
id_told (Tree id) = Some id
id_told (Parent id) = Some id
id_told (Author _) = None
id_told (Committer _) = None
id_told (Encoding _) = None
id_told (Header _) = None
id_told (Message _) = None

-- a line of this word for the id begins the input
pub record IsIdLine (kind : Kind) (word input : List ℕ) (id : Id) (rest : List ℕ) : Type 0 where
  pub digits : List ℕ
  pub hex : IsHex (hex_len kind) digits
  pub id_spelled : IsHexOfId digits id
  pub spelled : input ≡ hex_line word digits ++ rest

-- the part may come next and begins the input, and the rest follows it
abbrev pub IsPartAt : Kind → Stage → List ℕ → Part → List ℕ → Type 0
IsPartAt kind stage input (Tree id) rest =
    (stage ≡ at.Tree) × IsIdLine kind (codes "tree") input id rest
IsPartAt kind stage input (Parent id) rest =
    (stage ≡ at.Parents) × IsIdLine kind (codes "parent") input id rest
IsPartAt kind stage input (Author person) rest =
    (stage ≡ at.Parents) × IsPerson person
    × (input ≡ line (codes "author") (actor_line person) ++ rest)
IsPartAt kind stage input (Committer person) rest =
    (stage ≡ at.Committer) × IsPerson person
    × (input ≡ line (codes "committer") (actor_line person) ++ rest)
IsPartAt kind stage input (Encoding name) rest =
    (stage ≡ at.Encoding) × Lacks 10 name × (input ≡ line (codes "encoding") name ++ rest)
IsPartAt kind stage input (Header field) rest =
    ((stage ≡ at.Headers) ⊎ ((stage ≡ at.Encoding) × (field.name ≢ codes "encoding")))
    × IsField field × IsUnspaced rest × (input ≡ field_text field ++ rest)
IsPartAt kind stage input (Message message) rest =
    ((stage ≡ at.Encoding) ⊎ (stage ≡ at.Headers)) × (input ≡ 10 ∷ message) × (rest ≡ [])

-- where the reader is once it has given the part
abbrev pub stage_after : Part → Stage
stage_after (Tree _) = at.Parents
stage_after (Parent _) = at.Parents
stage_after (Author _) = at.Committer
stage_after (Committer _) = at.Encoding
stage_after (Encoding _) = at.Headers
stage_after (Header _) = at.Headers
stage_after (Message _) = at.Headers

-- where a reader is: what may come next, and the input from there on
pub record Place : Type 0 where
  pub kind : Kind
  pub stage : Stage
  pub input : List ℕ

abbrev pub place_of : CommitRefIter → Place
place_of reader = record { kind = reader.hash_kind; stage = reader.stage; input = reader.rest.now }

-- at the start of a commit
abbrev pub start : Kind → List ℕ → Place
start kind input = record { kind = kind; stage = at.Tree; input = input }

-- the part is next, and the reader moves past it
abbrev pub IsNext : Place → Part → Place → Type 0
IsNext before part after =
    IsPartAt before.kind before.stage before.input part after.input
    × (after.stage ≡ stage_after part) × (after.kind ≡ before.kind)

-- the input isn't empty, and no part is next
abbrev pub LacksPart : Place → Type 0
LacksPart place =
    (place.input ≢ [])
    × ((part : Part) (rest : List ℕ) → ¬ IsPartAt place.kind place.stage place.input part rest)

-- the reader gives the part that is next, nothing if its input has ended, and otherwise why none is
-- next, and then nothing
abbrev pub GivesToken : Place → Option (Result Token Error) → Place → Type 0
GivesToken before None after = (before.input ≡ []) × (after ≡ before)
GivesToken before (Some (Ok token)) after = IsNext before (part_of token) after
GivesToken before (Some (Err error)) after =
    LacksPart before × IsFaultAt before.kind before.stage before.input error × (after.input ≡ [])
