-- Reading and making prefixes: the first digits of ids, at least four as Git's short names have
-- (Git's configuration, `core.abbrev`), or at least one.
use Rattle.std.specs.Prelude.{ℕ, ◌≡◌, ◌≤◌, ◌<◌, List, length, take, Option, Some, None, Any, map}
use Rattle.gix_hash.specs.declared.prefix.Error.{Error}
use Rattle.gix_hash.specs.declared.prefix.Error.TheVariants as made
use Rattle.gix_hash.specs.declared.prefix.from_hex.Error as reading
use Rattle.gix_hash.specs.declared.prefix.from_hex.Error.TheVariants.{TooShort, TooLong, Invalid}
use Rattle.gix_hash.specs.Kind.{hex_len, kind_for_digits}
use Rattle.gix_hash.specs.declared.kind.Kind.{Kind}
use Rattle.gix_hash.specs.Id.{Id}
use Rattle.gix_hash.specs.Spelling.{IsHexOf}

-- the first n digits of an id
abbrev pub first_digits : Id → ℕ → Id
first_digits id n = record { kind = id.kind; digits = take n id.digits }

-- a prefix of n digits can be made of ids of that kind
pub record IsPrefixLength (id : Id) (n : ℕ) : Type 0 where
  pub long_enough : 4 ≤ n
  pub fits : n ≤ hex_len id.kind

-- why there is no prefix of n digits of an id
abbrev pub IsLengthFault : Id → ℕ → Error → Type 0
IsLengthFault id n (made.TooShort len) = (len ≡ n) × (n < 4)
IsLengthFault id n (made.TooLong kind len) = (len ≡ n) × (kind ≡ id.kind) × (hex_len id.kind < n)

-- a text of at least so many characters spells a prefix by `value`: its digits, in the kind of the
-- shortest ids that have as many
pub record SpellsPrefix (value : ℕ → Option ℕ) (least : ℕ) (text : List ℕ)
    (prefix : Id) : Type 0 where
  pub long_enough : least ≤ length text
  pub kind : kind_for_digits (length text) ≡ Some prefix.kind
  pub spelled : map value text ≡ map (λ (d : ℕ). Some d) prefix.digits

-- why a text spells no prefix: its length comes before its characters
abbrev pub IsTextFault : (ℕ → Option ℕ) → ℕ → List ℕ → reading.Error → Type 0
IsTextFault value least text (TooShort n) = (n ≡ length text) × (n < least)
IsTextFault value least text (TooLong n) = (n ≡ length text) × (64 < n)
IsTextFault value least text Invalid =
    (least ≤ length text) × (length text ≤ 64) × Any (λ c. value c ≡ None) text

-- no prefix has so many digits
abbrev pub IsNoLength : ℕ → reading.Error → Type 0
IsNoLength len (TooShort n) = (n ≡ len) × (len ≡ 0)
IsNoLength len (TooLong n) = (n ≡ len) × (64 < len)
IsNoLength len Invalid = ⊥

-- a prefix of a kind whose digits a text spells in hexadecimal
pub record IsReadAs (kind : Kind) (text : List ℕ) (prefix : Id) : Type 0 where
  pub same_kind : prefix.kind ≡ kind
  pub spelled : IsHexOf text prefix.digits
