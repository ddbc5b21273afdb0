-- Why bytes are no tag: the first of its parts that they lack.
use Rattle.std.specs.Prelude.{ℕ, ◌≡◌, ◌≢◌, ◌⊎◌, List, [], ◌∷◌, ◌++◌, codes, Option}
use Rattle.gix_hash.specs.Kind.{hex_len}
use Rattle.gix_hash.specs.declared.kind.Kind as hash
use Rattle.gix_object_lines.specs.Actor.{IsUncut, IsUntimed}
use Rattle.gix_object_lines.specs.Bytes.{Lacks}
use Rattle.gix_object_lines.specs.HexLine.{HexLineFault}
use Rattle.gix_object_lines.specs.Kind.{IsNoKind}
use Rattle.gix_object_lines.specs.declared.kind.Kind.{Kind}
use Rattle.gix_object_lines.specs.declared.decode.Error.{Error}
use Rattle.gix_object_lines.specs.declared.decode.Error.TheVariants.{FieldName, HexDigits, LineEnd, InvalidActor, InvalidTime, Memory}
use Rattle.gix_object_lines.specs.Person.{Person}
use Rattle.gix_object_tag.specs.Tag.{IsLine, SpellsTarget, SpellsKind, SpellsName, SpellsTagger}

abbrev pub LineFault : List ℕ → List ℕ → Error → Type 0
LineFault word input FieldName = (rest : List ℕ) → input ≢ word ++ rest
LineFault word input HexDigits = ⊥
LineFault word input LineEnd = (rest : List ℕ) × (input ≡ word ++ rest) × Lacks 10 rest
LineFault word input InvalidActor = ⊥
LineFault word input InvalidTime = ⊥
LineFault word input Memory = ⊥

-- the line is there, and its word names no kind
abbrev pub NamesNoKind : List ℕ → Type 0
NamesNoKind input = (word after : List ℕ) × IsLine (codes "type ") input word after × IsNoKind word

abbrev pub KindFault : List ℕ → Error → Type 0
KindFault input error =
    LineFault (codes "type ") input error ⊎ ((error ≡ FieldName) × NamesNoKind input)

-- the line is there, and its name is empty
abbrev pub HasEmptyName : List ℕ → Type 0
HasEmptyName input = (after : List ℕ) × IsLine (codes "tag ") input [] after

abbrev pub NameFault : List ℕ → Error → Type 0
NameFault input error =
    LineFault (codes "tag ") input error ⊎ ((error ≡ FieldName) × HasEmptyName input)

-- a tagger's line begins, and has no end; or it is there, and is no actor's
abbrev pub TaggerFault : List ℕ → Error → Type 0
TaggerFault input FieldName = ⊥
TaggerFault input HexDigits = ⊥
TaggerFault input LineEnd = LineFault (codes "tagger ") input LineEnd
TaggerFault input InvalidActor =
    (text after : List ℕ) × IsLine (codes "tagger ") input text after × IsUncut text
TaggerFault input InvalidTime =
    (text after : List ℕ) × IsLine (codes "tagger ") input text after × IsUntimed text
TaggerFault input Memory = ⊥

-- the input isn't empty, and no line feed begins it
abbrev pub RestFault : List ℕ → Error → Type 0
RestFault input error = (error ≡ FieldName) × (input ≢ []) × ((body : List ℕ) → input ≢ 10 ∷ body)

-- the first part that fails, after those that are read
pub data TagFault (kind : hash.Kind) (input : List ℕ) (error : Error) : Type 0 where
  InTarget : HexLineFault (codes "object") (hex_len kind) input error → TagFault kind input error
  InKind : (digits after : List ℕ) → SpellsTarget kind input digits after → KindFault after error
      → TagFault kind input error
  InName : (digits behind : List ℕ) (target : Kind) (after : List ℕ)
      → SpellsTarget kind input digits behind → SpellsKind behind target after
      → NameFault after error → TagFault kind input error
  InTagger : (digits behind : List ℕ) (target : Kind) (later name after : List ℕ)
      → SpellsTarget kind input digits behind → SpellsKind behind target later
      → SpellsName later name after → TaggerFault after error → TagFault kind input error
  InRest : (digits behind : List ℕ) (target : Kind) (later name last : List ℕ)
      (tagger : Option Person) (after : List ℕ) → SpellsTarget kind input digits behind
      → SpellsKind behind target later → SpellsName later name last → SpellsTagger last tagger after
      → RestFault after error → TagFault kind input error
