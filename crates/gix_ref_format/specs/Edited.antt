-- Records of `packed-refs` under edits: a record for each name that is written, none for one that
-- is removed, and all others as they were.
use Rattle.std.specs.Prelude.{ℕ, ◌≡◌, Bool, false, List, [], ◌∷◌, ◌++◌, map, find, bytes_eq, Option, Some, None, if◌then◌else◌}
use Rattle.std.specs.Option.{option_to_list}
use Rattle.std.specs.Ordering.{nat_cmp, is_lt}
use Rattle.std.specs.declared.cmp.Ordering.TheVariants.{Less}
use Rattle.std.specs.Cmp.Lexicographic.{slice_cmp}
use Rattle.gix_ref_name.specs.Names.{name_of}
use Rattle.gix_ref_format.specs.Packed.{Record, record_of}
use Rattle.gix_ref_format.specs.PackedBuffer.{hit}
use Rattle.gix_ref_format.specs.declared.packed.edit.Edit.{Edit}
use Rattle.gix_ref_format.specs.declared.packed.edit.Edit.TheVariants.{Write, Remove}

-- what a name is to have: none if its record is removed
pub record Line : Type 0 where
  pub name : List ℕ
  pub says : Option Record

abbrev pub line_of : Edit → Line
line_of (Write r) = record { name = name_of r.name; says = Some (record_of r) }
line_of (Remove name) = record { name = name_of name; says = None }

abbrev pub lines_of : List Edit → List Line
lines_of edits = map line_of edits

-- the first line of the name
abbrev pub line_at : List Line → List ℕ → Option Line
line_at lines name = find (λ line. bytes_eq line.name name) lines

-- what the line says, if there is one, and otherwise the record as before
abbrev pub under : Option Line → Option Record → Option Record
under None before = before
under (Some line) before = line.says

-- the name comes before those of all these, by its bytes
abbrev pub ComesBefore : List ℕ → List Record → Type 0
ComesBefore name [] = Unit {0}
ComesBefore name (r ∷ rest) = (slice_cmp nat_cmp name r.name ≡ Less) × ComesBefore name rest

-- the names ascend by their bytes, each once
abbrev pub Ascend : List Record → Type 0
Ascend [] = Unit {0}
Ascend (r ∷ rest) = ComesBefore r.name rest × Ascend rest

-- The names ascend, and each name has what the first line of it says, and otherwise its first
-- record.
pub record IsEdited (before : List Record) (lines : List Line) (after : List Record) : Type 0 where
  pub ascend : Ascend after
  pub each : (name : List ℕ) → hit after name ≡ under (line_at lines name) (hit before name)

-- ---- of the single steps

abbrev pub own_line : Record → Line
own_line r = record { name = r.name; says = Some r }

-- the line before has this name
abbrev pub is_same : Option (List ℕ) → List ℕ → Bool
is_same None name = false
is_same (Some last) name = bytes_eq last name

-- the records of the lines, of which each is left out whose name is that of the line before it
abbrev pub standing : Option (List ℕ) → List Line → List Record
standing last [] = []
standing last (line ∷ rest) =
    if is_same last line.name then standing last rest
    else option_to_list line.says ++ standing (Some line.name) rest

-- no name comes before the one that precedes it
abbrev pub NoneFalls : List ℕ → List Line → Type 0
NoneFalls name [] = Unit {0}
NoneFalls name (line ∷ rest) =
    (is_lt (slice_cmp nat_cmp line.name name) ≡ false) × NoneFalls name rest

abbrev pub Rises : List Line → Type 0
Rises [] = Unit {0}
Rises (line ∷ rest) = NoneFalls line.name rest × Rises rest

-- the same lines in the order of their names; those of one name stay in theirs
pub record Arranges (lines arranged : List Line) : Type 0 where
  pub first : (name : List ℕ) → line_at arranged name ≡ line_at lines name
  pub rises : Rises arranged
