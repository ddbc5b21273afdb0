-- The file `packed-refs` of a repository, read as gix_ref_format reads it: a header, and a record
-- for each packed name.
use Rattle.std.specs.Prelude.{◌≡◌, ◌-◌, bytes_eq, unwrap_or, Bool, false, not, ◌&&◌, ◌||◌, List, [], ◌∷◌, length, take, map, if◌then◌else◌, Option, None, option_map, IfSome, Some, IsTrue}
use Rattle.std.specs.List.{list_any, list_all, AllByRecursion}
use Rattle.std.specs.FinMap.{is_sorted}
use Rattle.gix_ref_format.specs.Lines.{lines}
use Rattle.gix_ref_format.specs.Packed.{Record, header_line, packed_records}
use Rattle.gix_ref_format.specs.declared.packed.Header.{Header}
pub use Rattle.gix_ref_format.specs.Ids.{id_from_hex}
use Rattle.history_model.specs.Bytes.{Bytes, by_bytes, ends, has_byte, has_twice}
use Rattle.history_model.specs.Repository.{Repository, peeled, is_tag}
use Rattle.history_model.specs.Forms.{is_name, is_private}
use Rattle.gix_hash.specs.declared.kind.Kind.{Kind}

-- the text before the line feed at its end, if it ends with one
abbrev pub whole_line : Bytes → Option Bytes
whole_line text = if ends (10 ∷ []) text then Some (take (length text - 1) text) else None

-- whether it has a carriage return, whether its header says that the records are sorted, and the
-- records
pub record PackedFile : Type 0 where
  pub returns : Bool
  pub sorted : Bool
  pub records : List Record

-- only the first line can be a header
abbrev pub first_header : List Bytes → Option Header
first_header [] = None
first_header (first ∷ rest) = header_line first

abbrev pub says_sorted : Bytes → Bool
says_sorted text =
    unwrap_or (option_map (λ header. header.sorted) (first_header (lines text))) false

abbrev pub packed_with : Bytes → List Record → PackedFile
packed_with text records =
    record { returns = has_byte 13 text; sorted = says_sorted text; records = records }

abbrev pub packed_file : Kind → Bytes → Option PackedFile
packed_file kind text = option_map (packed_with text) (packed_records kind text)

-- ---- which files agree with a repository

-- a peeled id is the commit of the tag that the record holds
abbrev pub PeelAgrees : Repository → Record → Type 0
PeelAgrees r entry =
    IfSome entry.peeled
    (λ commit. IsTrue (is_tag r entry.target) × (peeled r entry.target ≡ Some commit))

-- It has no carriage return, each name is one that a repository may hold, no name occurs twice, and
-- they ascend if the header says so.
abbrev pub is_packed_form : PackedFile → Bool
is_packed_form packed =
    let names = map (λ entry. entry.name) packed.records in
    not packed.returns && list_all is_name names && not (has_twice bytes_eq names)
    && not (list_any is_private names)
    && (not packed.sorted || is_sorted by_bytes (map (λ name. (name, name)) names))

abbrev pub PackedAgrees : Repository → PackedFile → Type 0
PackedAgrees r packed =
    IsTrue (is_packed_form packed) × AllByRecursion (PeelAgrees r) packed.records
