-- A tag's content (git-mktag: `object <hash>`, `type <type>`, `tag <tag>`, `tagger <tagger>`, an
-- empty line and the message; gitformat-signature: a signature in armor ends the message).
use Rattle.std.specs.Prelude.{ℕ, ◌≡◌, ◌≢◌, ◌⊎◌, List, [], ◌∷◌, ◌++◌, codes, Option, None, Some}
use Rattle.gix_hash.specs.Kind.{hex_len}
use Rattle.gix_hash.specs.declared.kind.Kind as hash
use Rattle.gix_object_lines.specs.Actor.{SpellsActor}
use Rattle.gix_object_lines.specs.Bytes.{IsBeginningOf, Lacks}
use Rattle.gix_object_lines.specs.HexLine.{hex_line, IsHex}
use Rattle.gix_object_lines.specs.Kind.{kind_word}
use Rattle.gix_object_lines.specs.declared.kind.Kind.{Kind}
use Rattle.gix_object_lines.specs.Person.{Person}
use Rattle.gix_object_tag.specs.Signature.{IsSigned, IsUnsigned}

-- what a tag holds
pub record Parts : Type 0 where
  -- the hexadecimal digits of the tagged object's id, and its kind
  pub target : List ℕ
  pub target_kind : Kind
  pub name : List ℕ
  pub tagger : Option Person
  pub message : List ℕ
  pub signature : Option (List ℕ)

-- ---- the lines, each with the input that it begins and what follows it

-- a word with its space, a value without line feed, and a line feed
pub record IsLine (word input value after : List ℕ) : Type 0 where
  pub spelled : input ≡ word ++ (value ++ 10 ∷ after)
  pub in_line : Lacks 10 value

pub record SpellsTarget (kind : hash.Kind) (input digits after : List ℕ) : Type 0 where
  pub spelled : input ≡ hex_line (codes "object") digits ++ after
  pub hex : IsHex (hex_len kind) digits

abbrev pub SpellsKind : List ℕ → Kind → List ℕ → Type 0
SpellsKind input kind after = IsLine (codes "type ") input (kind_word kind) after

-- any name but the empty one is read
pub record SpellsName (input name after : List ℕ) : Type 0 where
  pub line : IsLine (codes "tag ") input name after
  pub some : name ≢ []

pub record SpellsTaggerLine (input : List ℕ) (tagger : Person) (after : List ℕ) : Type 0 where
  pub text : List ℕ
  pub line : IsLine (codes "tagger ") input text after
  pub actor : SpellsActor text tagger.name tagger.email tagger.time

-- old tags have no tagger
abbrev pub SpellsTagger : List ℕ → Option Person → List ℕ → Type 0
SpellsTagger input None after = (input ≡ after) × ¬ IsBeginningOf (codes "tagger ") input
SpellsTagger input (Some tagger) after = SpellsTaggerLine input tagger after

-- ---- the message

-- the message before a signature: without the line feed that ends its last line
abbrev pub IsMessageOf : List ℕ → List ℕ → Type 0
IsMessageOf front message = (front ≡ message ++ 10 ∷ []) ⊎ ((front ≡ []) × (message ≡ []))

abbrev pub SpellsBody : List ℕ → List ℕ → Option (List ℕ) → Type 0
SpellsBody body message None = (body ≡ message) × IsUnsigned body
SpellsBody body message (Some signature) =
    (front : List ℕ) × IsSigned body front signature × IsMessageOf front message

-- an empty line and the body; or nothing, which is the empty message
pub data SpellsRest (input message : List ℕ) (signature : Option (List ℕ)) : Type 0 where
  Nothing : input ≡ [] → message ≡ [] → signature ≡ None → SpellsRest input message signature
  Body : (body : List ℕ) → input ≡ 10 ∷ body → SpellsBody body message signature
      → SpellsRest input message signature

-- ---- the whole

-- the bytes are a tag with these parts
pub record SpellsTag (kind : hash.Kind) (input : List ℕ) (parts : Parts) : Type 0 where
  pub after_target : List ℕ
  pub after_kind : List ℕ
  pub after_name : List ℕ
  pub after_tagger : List ℕ
  pub target : SpellsTarget kind input parts.target after_target
  pub target_kind : SpellsKind after_target parts.target_kind after_kind
  pub name : SpellsName after_kind parts.name after_name
  pub tagger : SpellsTagger after_name parts.tagger after_tagger
  pub rest : SpellsRest after_tagger parts.message parts.signature
