-- The header before an object's content: `<kind> <size>` and a zero byte (Git User Manual, "Object
-- storage format":
-- `<ascii-type-without-space> + <space> + <ascii-decimal-size> + <byte\0> + <binary-object-data>`).
use Rattle.std.specs.Prelude.{ℕ, ◌≡◌, List, [], ◌∷◌, ◌++◌, ◌⊎◌, decimal}
use Rattle.gix_object_lines.specs.Bytes.{Lacks}
use Rattle.gix_object_lines.specs.Decimal.{IsNoUnsigned}
use Rattle.gix_object_lines.specs.Kind.{kind_word, IsNoKind}
use Rattle.gix_object_lines.specs.declared.kind.Kind.{Kind}
use Rattle.gix_object_lines.specs.declared.decode.LooseHeaderDecodeError.{LooseHeaderDecodeError}
use Rattle.gix_object_lines.specs.declared.decode.LooseHeaderDecodeError.TheVariants.{ParseIntegerError, InvalidHeader, ObjectHeader}

abbrev pub header_text : Kind → ℕ → List ℕ
header_text kind size = kind_word kind ++ 32 ∷ decimal size ++ 0 ∷ []

-- the input has no space
abbrev pub HasNoSpace : List ℕ → Type 0
HasNoSpace input = Lacks 32 input

-- what comes before the first space names no kind
abbrev pub HasNoKind : List ℕ → Type 0
HasNoKind input = (word rest : List ℕ) × (input ≡ word ++ 32 ∷ rest) × Lacks 32 word × IsNoKind word

-- a kind and a space begin the input, and no zero byte follows
abbrev pub HasNoZero : List ℕ → Type 0
HasNoZero input =
    (kind : Kind) × ((rest : List ℕ) × (input ≡ kind_word kind ++ 32 ∷ rest) × Lacks 0 rest)

-- what lies between a kind with its space and the next zero byte is no size
abbrev pub HasNoSize : List ℕ → Type 0
HasNoSize input =
    (kind : Kind) × ((digits rest : List ℕ) × (input ≡ kind_word kind ++ 32 ∷ digits ++ 0 ∷ rest)
    × Lacks 0 digits × IsNoUnsigned digits)

-- the first part that the header lacks
abbrev pub HeaderFault : List ℕ → LooseHeaderDecodeError → Type 0
HeaderFault input InvalidHeader = HasNoSpace input ⊎ HasNoZero input
HeaderFault input (ObjectHeader error) = HasNoKind input
HeaderFault input ParseIntegerError = HasNoSize input
