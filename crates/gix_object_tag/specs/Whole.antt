-- Bytes that are a tag, and the tokens that make one.
use Rattle.std.specs.Prelude.{ℕ, Bool, true, false, ◌≡◌, List, [], ◌∷◌, Option, None, IsTrue}
use Rattle.std.specs.List.{list_any}
use Rattle.gix_hash.specs.Id.{Id}
use Rattle.gix_hash.specs.Views.{IsHexOfId}
use Rattle.gix_hash.specs.declared.kind.Kind as hash
use Rattle.gix_object_lines.specs.Person.{Person}
use Rattle.gix_object_tag.specs.Tag.{Parts, SpellsTag}
use Rattle.gix_object_tag.specs.ReadingOn.{Reads}
use Rattle.gix_object_tag.specs.Tokens.{Part, Target, TargetKind, Name, Tagger, Body, Place}

abbrev pub IsTag : hash.Kind → List ℕ → Type 0
IsTag kind input = (parts : Parts) × SpellsTag kind input parts

abbrev pub tells_name : Part → Bool
tells_name (Target id) = false
tells_name (TargetKind target) = false
tells_name (Name name) = true
tells_name (Tagger tagger) = false
tells_name (Body message signature) = false

-- ---- the tokens that hold these parts, each once and in their order

-- the body, whose token isn't given if nothing is left for it
pub data TellsBody (message : List ℕ) (signature : Option (List ℕ))
    (tokens : List Part) : Type 0 where
  NoBody : message ≡ [] → signature ≡ None → tokens ≡ [] → TellsBody message signature tokens
  ABody : tokens ≡ Body message signature ∷ [] → TellsBody message signature tokens

-- the tagger, and the body; neither token is given if nothing is left after the name
pub data TellsLast (tagger : Option Person) (message : List ℕ) (signature : Option (List ℕ))
    (tokens : List Part) : Type 0 where
  NoTagger : tagger ≡ None → message ≡ [] → signature ≡ None → tokens ≡ []
      → TellsLast tagger message signature tokens
  ATagger : (body : List Part) → tokens ≡ Tagger tagger ∷ body → TellsBody message signature body
      → TellsLast tagger message signature tokens

pub record TellsParts (parts : Parts) (tokens : List Part) : Type 0 where
  pub target : Id
  pub last : List Part
  pub target_spelled : IsHexOfId parts.target target
  pub in_order : tokens ≡ Target target ∷ (TargetKind parts.target_kind ∷ (Name parts.name ∷ last))
  pub last_told : TellsLast parts.tagger parts.message parts.signature last

-- from here the reader gives parts to the input's end, without an error, and the name among them
abbrev pub ReadsWithName : Place → Type 0
ReadsWithName here =
    (parts : List Part) × (there : Place) × Reads here parts there × (there.input ≡ [])
    × IsTrue (list_any tells_name parts)
