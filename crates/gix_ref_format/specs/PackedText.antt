-- The text of `packed-refs` under edits, and files that have the text of their records.
use Rattle.std.specs.Prelude.{ℕ, ◌≡◌, Bool, true, false, ◌&&◌, List, [], ◌∷◌, ◌++◌, Option, IfSome, IsTrue, Some, bytes_eq}
use Rattle.std.specs.Option.{option_to_list}
use Rattle.std.specs.Ordering.{nat_cmp, is_lt}
use Rattle.std.specs.declared.cmp.Ordering.TheVariants.{Less}
use Rattle.std.specs.Cmp.Lexicographic.{slice_cmp}
use Rattle.gix_hash.specs.declared.kind.Kind.{Kind}
use Rattle.gix_ref_format.specs.Packed.{Record, packed_records}
use Rattle.gix_ref_format.specs.Edited.{ComesBefore, IsEdited, Line}
use Rattle.gix_ref_format.specs.declared.packed.buffer.Entry.{Entry}
use Rattle.gix_ref_format.specs.Written.{AllHaveKind, HasKind, IsRecordOf, packed_text, records_text}

-- The text of the records under the edits, which is read as them if all their ids are of the hash
-- function.
pub record IsTextOf (kind : Kind) (records : List Record) (lines : List Line)
    (text : List ℕ) : Type 0 where
  pub after : List Record
  pub edited : IsEdited records lines after
  pub is : text ≡ packed_text after
  pub reads : AllHaveKind kind after → packed_records kind text ≡ Some after

-- ---- files that have the text of their records

-- the record may be in a file of the hash function of its ids
abbrev pub CanStand : Record → Type 0
CanStand r = (kind : Kind) → HasKind kind r → IsRecordOf kind r

abbrev pub AllStand : List Record → Type 0
AllStand [] = Unit {0}
AllStand (r ∷ rest) = CanStand r × AllStand rest

-- the name comes before that of the first of these
abbrev pub is_before : List ℕ → List Record → Bool
is_before name [] = true
is_before name (r ∷ rest) = is_lt (slice_cmp nat_cmp name r.name)

-- the names ascend, each once
abbrev pub ascends : List Record → Bool
ascends [] = true
ascends (r ∷ rest) = is_before r.name rest && ascends rest

-- the text is what is written of records whose names ascend, each once
pub record IsWritten (records : List Record) (text : List ℕ) : Type 0 where
  pub ascend : IsTrue (ascends records)
  pub is : text ≡ packed_text records

-- ---- records around a name

abbrev pub AllBelow : List ℕ → List Record → Type 0
AllBelow name [] = Unit {0}
AllBelow name (r ∷ rest) = (slice_cmp nat_cmp r.name name ≡ Less) × AllBelow name rest

abbrev pub NoneBelow : List ℕ → List Record → Type 0
NoneBelow name [] = Unit {0}
NoneBelow name (r ∷ rest) = (is_lt (slice_cmp nat_cmp r.name name) ≡ false) × NoneBelow name rest

abbrev pub is_first_named : List ℕ → List Entry → Bool
is_first_named name [] = false
is_first_named name (e ∷ rest) = bytes_eq e.name name

-- what follows the record of the name, if that is first, and all else if it isn't
pub record IsAfter (name : List ℕ) (records back : List Record) : Type 0 where
  pub mid : Option Record
  pub parts : records ≡ option_to_list mid ++ back
  pub named : IfSome mid (λ r. r.name ≡ name)
  pub above : ComesBefore name back

-- those before the name, and those after it
pub record IsAround (name : List ℕ) (records front back : List Record) : Type 0 where
  pub rest : List Record
  pub parts : records ≡ front ++ rest
  pub below : AllBelow name front
  pub after : IsAfter name rest back

-- the records before the line's name are copied, and what it says is added
pub record Copies (line : Line) (records rest : List Record) (old new : List ℕ) : Type 0 where
  pub front : List Record
  pub around : IsAround line.name records front rest
  pub text : new ≡ old ++ records_text (front ++ option_to_list line.says)
  pub stands : IfSome line.says CanStand

-- the text got the lines of the records under the edits, but for those of the rest
pub record IsMerged (records : List Record) (lines : List Line) (rest : List Record)
    (old new : List ℕ) : Type 0 where
  pub done : List Record
  pub text : new ≡ old ++ records_text done
  pub edited : IsEdited records lines (done ++ rest)
  pub stand : AllStand (done ++ rest)
