-- Tags that own their parts.
use Rattle.std.specs.Prelude.{ℕ, ◌≡◌, ⊤, List, Option, None, Some}
use Rattle.gix_hash.specs.Id.{Id, id_of}
use Rattle.gix_hash.specs.Views.{IsHexOfId}
use Rattle.gix_object_lines.specs.declared.decode.Error.{Error}
use Rattle.gix_object_lines.specs.declared.decode.Error.TheVariants.{FieldName, HexDigits, LineEnd, InvalidActor, InvalidTime, Memory}
use Rattle.gix_object_lines.specs.declared.lines.actor.Actor.{Actor}
use Rattle.gix_object_lines.specs.Person.{IsActorOf, Person}
use Rattle.gix_object_tag.specs.Format.{TellsWhen}
use Rattle.gix_object_tag.specs.Tag.{Parts}
use Rattle.gix_object_tag.specs.declared.tag.owned.Tag.{Tag}

abbrev pub IsOwnTagger : Option Person → Option Actor → Type 0
IsOwnTagger None None = ⊤
IsOwnTagger None (Some actor) = ⊥
IsOwnTagger (Some tagger) None = ⊥
IsOwnTagger (Some tagger) (Some actor) = IsActorOf tagger actor

-- the id that the digits spell, and each part as the tag has it
pub record IsTagOf (parts : Parts) (tag : Tag) : Type 0 where
  pub target : IsHexOfId parts.target (id_of tag.target)
  pub target_kind : tag.target_kind ≡ parts.target_kind
  pub name : tag.name ≡ parts.name
  pub tagger : IsOwnTagger parts.tagger tag.tagger
  pub message : tag.message ≡ parts.message
  pub signature : tag.pgp_signature ≡ parts.signature

abbrev pub SpellsId : List ℕ → Type 0
SpellsId digits = (id : Id) × IsHexOfId digits id

-- the first that fails: the digits are no id's, or they are and the text is no time; or no memory
-- is left, if neither fails
abbrev pub OwningFault : List ℕ → Option Person → Error → Type 0
OwningFault target tagger HexDigits = ¬ SpellsId target
OwningFault target tagger InvalidTime = SpellsId target × ¬ TellsWhen tagger
OwningFault target tagger Memory = SpellsId target × TellsWhen tagger
OwningFault target tagger FieldName = ⊥
OwningFault target tagger LineEnd = ⊥
OwningFault target tagger InvalidActor = ⊥
