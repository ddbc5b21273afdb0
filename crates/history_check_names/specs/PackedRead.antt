-- What is read of `packed-refs`.
use Rattle.std.specs.Prelude.{◌≡◌, ◌⊎◌, ◌<◌, ◌≤◌, ◌+◌, ◌++◌, ◌∷◌, ◌&&◌, [], ℕ, ⊤, Bool, List, not, length, drop, map, take, bytes_eq, IsTrue, IsFalse}
use Rattle.std.specs.Borrow.{Bor}
use Rattle.std.specs.List.{list_any}
use Rattle.gix_hash.specs.declared.kind.Kind.{Kind}
use Rattle.gix_ref_file.specs.Tree.{Tree, bytes_at}
use Rattle.gix_ref_format.specs.Packed.{is_headed, record_of}
use Rattle.history_model.specs.Bytes.{Bytes, has_byte}
use Rattle.history_model.specs.Places.{packed_place}
use Rattle.history_check_names.specs.Logs.{max_piece}
use Rattle.history_check_names.specs.Packed.{HasBadRecord, first_lines, is_packed_text, record_names, records_in}
use Rattle.history_texts.specs.declared.open_error.OpenError.{OpenError}
use Rattle.history_texts.specs.declared.open_error.OpenError.TheVariants.{BadPacked, File, Memory}
use Rattle.history_check_names.specs.declared.packed.Packed.{Packed}

-- the names in a set
abbrev pub names_in : List (Bor (List ℕ)) → List Bytes
names_in names = map (λ name. name.now) names

-- the text is a file of packed names, its records are these, and so are the names that are kept
pub record IsReadOf (kind : Kind) (text : Bytes) (packed : Packed) : Type 0 where
  pub good : IsTrue (is_packed_text kind text)
  pub records : map record_of packed.records.items ≡ records_in kind text
  pub names : (name : Bytes) → list_any (bytes_eq name) (names_in packed.names.keys)
      ≡ list_any (bytes_eq name) (record_names (records_in kind text))

-- the same of the file in a tree
abbrev pub ReadsPacked : Kind → Packed → Tree → Type 0
ReadsPacked kind packed tree = IsReadOf kind (bytes_at tree packed_place) packed

-- It is empty, or ends with a line feed.
abbrev pub IsEnded : Bytes → Type 0
IsEnded text = (text ≡ []) ⊎ ((front : Bytes) × (text ≡ front ++ 10 ∷ []))

-- The lines that end in a text, and how many they are. No line ends in what is left.
pub record AreLinesOf (text whole : Bytes) (count : ℕ) : Type 0 where
  pub rest : Bytes
  pub are : text ≡ whole ++ rest
  pub endless : IsFalse (has_byte 10 rest)
  pub few : count ≤ length whole
  pub ended : IsEnded whole
  pub first : (n : ℕ) (more : Bytes)
      → first_lines (count + n) (whole ++ more) ≡ whole ++ first_lines n more

-- why a text is no such file
abbrev pub IsPackedFault : Kind → Bytes → OpenError → Type 0
IsPackedFault kind text (BadPacked number) = HasBadRecord kind text number
IsPackedFault kind text Memory = ⊤
IsPackedFault kind text _ = ⊥

-- ---- a long file, in pieces

-- the text has a header that goes on at this byte
abbrev pub is_in_header : Bytes → ℕ → Bool
is_in_header text at = is_headed text && not (has_byte 10 (take at text))

-- From this byte on no line ends within a piece. If it is in the header, that has no end.
pub record IsEndlessAt (text : Bytes) (at : ℕ) : Type 0 where
  pub some : at < length text
  pub endless : IsFalse (has_byte 10 (take max_piece (drop at text)))
  pub header : IsTrue (is_in_header text at) → IsFalse (has_byte 10 text)

-- From each byte before this one some line ends within a piece, unless it is in the header. From
-- this one none does, or it is the text's end.
pub record IsLinesEnd (text : Bytes) (end : ℕ) : Type 0 where
  pub ends : (k : ℕ) → k < end → IsFalse (is_in_header text k)
      → IsTrue (has_byte 10 (take max_piece (drop k text)))
  pub stops : (end ≡ length text) ⊎ IsEndlessAt text end

-- The lines that end in the first bytes, so many, are a file of packed names, and the line after
-- them has this number.
pub record HasGoodFront (kind : Kind) (text : Bytes) (most number : ℕ) : Type 0 where
  pub whole : Bytes
  pub count : ℕ
  pub are : AreLinesOf (take most text) whole count
  pub good : IsTrue (is_packed_text kind whole)
  pub number_is : number ≡ count + 1

-- It is longer than a piece, begins as a file of packed names, and each of its lines but a header
-- ends within a piece.
pub record IsLongPacked (kind : Kind) (text : Bytes) : Type 0 where
  pub number : ℕ
  pub front : HasGoodFront kind text max_piece number
  pub ends : IsLinesEnd text (length text)

-- what a text is that isn't refused before it is read whole
abbrev pub MayBePacked : Kind → Bytes → Type 0
MayBePacked kind text = (length text ≤ max_piece) ⊎ IsLongPacked kind text

-- why it is refused before it is read whole
abbrev pub IsPackedCause : Type 0 → Kind → Bytes → OpenError → Type 0
IsPackedCause MayFail kind text (BadPacked number) = HasBadRecord kind text number
IsPackedCause MayFail kind text File = MayFail
IsPackedCause MayFail kind text Memory = ⊤
IsPackedCause MayFail kind text _ = ⊥
