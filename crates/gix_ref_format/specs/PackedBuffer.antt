-- The whole of `packed-refs`, ready for lookups.
use Rattle.std.specs.Prelude.{ℕ, ◌≡◌, Bool, List, [], ◌∷◌, map, find, Option, Some, None, option_map, bytes_eq}
use Rattle.std.specs.List.Sorted.{IsPermutation, IsSortedBy}
use Rattle.std.specs.Ordering.{is_lt, nat_cmp}
use Rattle.std.specs.Cmp.Lexicographic.{slice_cmp}
use Rattle.gix_hash.specs.Id.{id_of}
use Rattle.gix_hash.specs.declared.kind.Kind.{Kind}
use Rattle.gix_object_lines.specs.NameTest.{begins}
use Rattle.gix_ref_format.specs.Packed.{Record, Item, Good, Bad, BadHeader, packed_items, packed_records}
use Rattle.gix_ref_format.specs.declared.packed.buffer.Entry.{Entry}
use Rattle.gix_ref_format.specs.declared.packed.buffer.Error.{Error}
use Rattle.gix_ref_format.specs.declared.packed.buffer.Error.TheVariants.{Iter, HeaderParsing, Io, Memory}

abbrev pub entry_record : Entry → Record
entry_record e =
    record { name = e.name; target = id_of e.target; peeled = option_map id_of e.object }

abbrev pub entry_records : List Entry → List Record
entry_records entries = map entry_record entries

-- the first record of this name
abbrev pub hit : List Record → List ℕ → Option Record
hit records name = find (λ r. bytes_eq r.name name) records

-- the name of the one comes before the other's, by bytes
abbrev pub before : Entry → Entry → Bool
before one other = is_lt (slice_cmp nat_cmp one.name other.name)

abbrev pub IsInOrder : List Entry → Type 0
IsInOrder entries = IsSortedBy before entries

-- the name begins so
abbrev pub has_prefix : List ℕ → Entry → Bool
has_prefix front e = begins front e.name

-- the number of the first bad line
abbrev pub first_bad : List Item → Option ℕ
first_bad [] = None
first_bad (Good r ∷ rest) = first_bad rest
first_bad (Bad number line ∷ rest) = Some number
first_bad (BadHeader line ∷ rest) = Some 1

-- the records of the file, and for each name the record that the file has first for it
pub record Holds (records kept : List Record) : Type 0 where
  pub same : IsPermutation records kept
  pub first : (name : List ℕ) → hit kept name ≡ hit records name

-- the file's records in the order of their names
abbrev pub Keeps : Kind → List ℕ → List Record → Type 0
Keeps kind text kept =
    (records : List Record) × (packed_records kind text ≡ Some records) × Holds records kept

abbrev pub OpenFault : Kind → List ℕ → Error → Type 0
OpenFault kind text (Iter number) =
    (items : List Item) × (packed_items kind text ≡ Some items) × (first_bad items ≡ Some number)
OpenFault kind text HeaderParsing = packed_items kind text ≡ None
OpenFault kind text Io = ⊥
OpenFault kind text Memory = Unit {0}

abbrev pub GatherFault : List Item → Error → Type 0
GatherFault items (Iter number) = first_bad items ≡ Some number
GatherFault items HeaderParsing = ⊥
GatherFault items Io = ⊥
GatherFault items Memory = Unit {0}

-- why an item is no record
abbrev pub ItemFault : Item → Error → Type 0
ItemFault item (Iter number) = first_bad (item ∷ []) ≡ Some number
ItemFault item HeaderParsing = ⊥
ItemFault item Io = ⊥
ItemFault item Memory = Unit {0}

-- what is kept of a file; nothing if there is none
abbrev pub KeepsFile : Kind → Option (List ℕ) → Option (List Record) → Type 0
KeepsFile kind None None = Unit {0}
KeepsFile kind (Some text) (Some kept) = Keeps kind text kept
KeepsFile kind None (Some kept) = ⊥
KeepsFile kind (Some text) None = ⊥

-- why a file isn't opened: a reading failed, or its text is at fault
abbrev pub FileFault : Kind → Option (List ℕ) → Error → Type 0
FileFault kind file Io = Unit {0}
FileFault kind file Memory = Unit {0}
FileFault kind None (Iter number) = ⊥
FileFault kind None HeaderParsing = ⊥
FileFault kind (Some text) (Iter number) = OpenFault kind text (Iter number)
FileFault kind (Some text) HeaderParsing = OpenFault kind text HeaderParsing
