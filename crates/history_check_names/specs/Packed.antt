-- Which texts are files of packed names, and which names their records are of (git-pack-refs(1)).
use Rattle.std.specs.Prelude.{◌≡◌, ℕ, zero, suc, ◌+◌, ◌==◌, Bool, false, not, ◌&&◌, ◌||◌, List, [], ◌∷◌, map, bytes_eq, if◌then◌else◌, option_map, unwrap_or, IsTrue, IsFalse}
use Rattle.std.specs.List.{list_any, list_all}
use Rattle.std.specs.FinMap.{is_sorted}
use Rattle.gix_hash.specs.declared.kind.Kind.{Kind}
use Rattle.gix_ref_file.specs.Tree.{Tree, bytes_at}
use Rattle.gix_ref_file.specs.Changes.{is_file_at}
use Rattle.gix_ref_format.specs.Packed.{Record, packed_records}
use Rattle.history_model.specs.Bytes.{Bytes, by_bytes, has_twice}
use Rattle.history_model.specs.Forms.{is_name}
use Rattle.history_model.specs.PackedNames.{PackedFile, packed_file}
use Rattle.history_model.specs.Places.{packed_place}

-- ---- texts

abbrev pub record_names : List Record → List Bytes
record_names records = map (λ entry. entry.name) records

-- each name comes before those after it
abbrev pub is_ascending : List Bytes → Bool
is_ascending names = is_sorted by_bytes (map (λ name. (name, name)) names)

-- each is a name, private or not, none occurs twice, and they ascend if the header says so
abbrev pub are_good_names : Bool → List Bytes → Bool
are_good_names sorted names = list_all is_name names && not (has_twice bytes_eq names)
    && (not sorted || is_ascending names)

abbrev pub is_good_file : PackedFile → Bool
is_good_file packed =
    not packed.returns && are_good_names packed.sorted (record_names packed.records)

-- each line is in its form, without a carriage return, and its name may follow those before it
abbrev pub is_packed_text : Kind → Bytes → Bool
is_packed_text kind text = unwrap_or (option_map is_good_file (packed_file kind text)) false

-- so many lines from the beginning of a text, each with its line feed
abbrev pub first_lines : ℕ → Bytes → Bytes
first_lines zero text = []
first_lines (suc count) [] = []
first_lines (suc count) (byte ∷ rest) =
    if byte == 10 then byte ∷ first_lines count rest else byte ∷ first_lines (suc count) rest

-- The lines before the one of this number, counted from 1, are a file of packed names, and with it
-- they are none.
pub record HasBadRecord (kind : Kind) (text : Bytes) (number : ℕ) : Type 0 where
  pub before : ℕ
  pub number_is : number ≡ before + 1
  pub good : IsTrue (is_packed_text kind (first_lines before text))
  pub bad : IsFalse (is_packed_text kind (first_lines number text))

-- ---- the file of a names part

abbrev pub records_in : Kind → Bytes → List Record
records_in kind text = unwrap_or (packed_records kind text) []

-- the records of `packed-refs`; none if there is no such file
abbrev pub records_at : Kind → Tree → List Record
records_at kind tree = records_in kind (bytes_at tree packed_place)

abbrev pub has_record : Kind → Tree → Bytes → Bool
has_record kind tree name = list_any (bytes_eq name) (record_names (records_at kind tree))

-- whether the path is a name that has a file or a record
abbrev pub has_name : Kind → Tree → Bytes → Bool
has_name kind tree name = is_name name && (is_file_at tree name || has_record kind tree name)
