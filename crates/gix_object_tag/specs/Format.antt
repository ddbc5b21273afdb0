-- Values that are read back as they are written.
use Rattle.std.specs.Prelude.{ℕ, List, [], ⊤, Option, None, Some}
use Rattle.gix_hash.specs.Kind.{hex_len}
use Rattle.gix_hash.specs.declared.kind.Kind as hash
use Rattle.gix_object_lines.specs.Actor.{TellsTime}
use Rattle.gix_object_lines.specs.HexLine.{IsHex}
use Rattle.gix_object_lines.specs.Person.{Person}
use Rattle.gix_object_tag.specs.Signature.{IsSigned, IsUnsigned}
use Rattle.gix_object_tag.specs.Tag.{Parts}

abbrev pub TellsWhen : Option Person → Type 0
TellsWhen None = ⊤
TellsWhen (Some tagger) = TellsTime tagger.time

-- a message without a signature holds no armor; a signature begins with one, and no later line does
abbrev pub IsWholeBody : List ℕ → Option (List ℕ) → Type 0
IsWholeBody message None = IsUnsigned message
IsWholeBody message (Some signature) = IsSigned signature [] signature

-- the parts have a written form, the name and the marks of the tagger's name and email aside
pub record IsInFormat (kind : hash.Kind) (parts : Parts) : Type 0 where
  pub target : IsHex (hex_len kind) parts.target
  pub tagger : TellsWhen parts.tagger
  pub body : IsWholeBody parts.message parts.signature
