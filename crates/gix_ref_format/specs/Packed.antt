-- The file `packed-refs` (git-pack-refs(1); gitrepository-layout, "packed-refs"): lines
-- `<hex> <name>`, each followed or not by a line `^<hex>`, the peeled id of the tag. A first line
-- that begins with `#` is a header.
use Rattle.std.specs.Prelude.{ℕ, ◌≡◌, ◌+◌, ◌==◌, min, Bool, true, false, ◌&&◌, is_some, List, [], ◌∷◌, take, drop, codes, if◌then◌else◌, Option, Some, None, option_map, option_and_then, Result, Ok, Err}
use Rattle.std.specs.List.{slice_split}
use Rattle.bstr.specs.BStr.{bstr_bytes}
use Rattle.gix_hash.specs.Id.{Id, id_of}
use Rattle.gix_hash.specs.Kind.{hex_len}
use Rattle.gix_hash.specs.declared.kind.Kind.{Kind}
use Rattle.gix_object_lines.specs.Bytes.{is_among}
use Rattle.gix_object_lines.specs.NameTest.{begins, is_full_name}
use Rattle.gix_ref_name.specs.Names.{name_of}
use Rattle.gix_ref_format.specs.Ids.{id_from_hex}
use Rattle.gix_ref_format.specs.Lines.{lines, cut_line}
use Rattle.gix_ref_format.specs.declared.packed.Reference.{Reference}
use Rattle.gix_ref_format.specs.declared.packed.Header.{Header}
use Rattle.gix_ref_format.specs.declared.packed.Peeled.{Peeled}
use Rattle.gix_ref_format.specs.declared.packed.Peeled.TheVariants.{Unspecified, Partial, Fully}
use Rattle.gix_ref_format.specs.declared.packed.iter.Error.{Error}
use Rattle.gix_ref_format.specs.declared.packed.iter.Error.TheVariants as faults

-- ---- the header

abbrev pub peeled_by : List (List ℕ) → Peeled
peeled_by words =
    if is_among words (codes "fully-peeled") then Fully
    else if is_among words (codes "peeled") then Partial
    else Unspecified

abbrev pub header_by : List (List ℕ) → Header
header_by words = record { peeled = peeled_by words; sorted = is_among words (codes "sorted") }

-- words after `# pack-refs with:`, separated by spaces
abbrev pub header_of : List ℕ → Option Header
header_of text =
    if begins (codes "# pack-refs with:") text
    then Some (header_by (slice_split (λ byte. byte == 32) (drop 17 text))) else None

abbrev pub header_line : List ℕ → Option Header
header_line line = option_and_then header_of (cut_line line)

-- ---- records

pub record Record : Type 0 where
  pub name : List ℕ
  pub target : Id
  pub peeled : Option Id

abbrev pub without_peel : List ℕ → Id → Record
without_peel name id = record { name = name; target = id; peeled = None }

-- `<hex> <name>`
abbrev pub record_text : Kind → List ℕ → Option Record
record_text kind text =
    if begins (32 ∷ []) (drop (hex_len kind) text) && is_full_name (drop (hex_len kind + 1) text)
    then option_map (without_peel (drop (hex_len kind + 1) text))
    (id_from_hex kind (take (hex_len kind) text))
    else None

-- `^<hex>`
abbrev pub peel_text : Kind → List ℕ → Option Id
peel_text kind text = if begins (codes "^") text then id_from_hex kind (drop 1 text) else None

abbrev pub record_line : Kind → List ℕ → Option Record
record_line kind line = option_and_then (record_text kind) (cut_line line)

abbrev pub peel_line : Kind → List ℕ → Option Id
peel_line kind line = option_and_then (peel_text kind) (cut_line line)

-- ---- what the lines give

-- a record, or a line that is none, with its number
pub data Item : Type 0 where
  Good : Record → Item
  Bad : ℕ → List ℕ → Item
  BadHeader : List ℕ → Item

-- the peeled id in the line after a record
abbrev pub peel_behind : Kind → Option Record → List (List ℕ) → Option Id
peel_behind kind None rest = None
peel_behind kind (Some r) [] = None
peel_behind kind (Some r) (line ∷ rest) = peel_line kind line

abbrev pub item_of : ℕ → List ℕ → Option Id → Option Record → Item
item_of number line peel None = Bad number line
item_of number line peel (Some r) =
    Good (record { name = r.name; target = r.target; peeled = peel })

-- numbers of lines stay at their last value
abbrev pub next_number : ℕ → ℕ
next_number number = min (number + 1) 18446744073709551615

-- Each line is a record, the peeled id of the record before it (`taken`), or bad.
abbrev pub items : Kind → ℕ → Bool → List (List ℕ) → List Item
items kind number taken [] = []
items kind number true (line ∷ rest) = items kind (next_number number) false rest
items kind number false (line ∷ rest) =
    let peel = peel_behind kind (record_line kind line) rest in
    item_of number line peel (record_line kind line)
    ∷ items kind (next_number number) (is_some peel) rest

abbrev pub is_headed : List ℕ → Bool
is_headed text = begins (codes "#") text

abbrev pub items_behind_header : Kind → List (List ℕ) → Option (List Item)
items_behind_header kind [] = None
items_behind_header kind (first ∷ rest) =
    option_map (λ _. items kind 2 false rest) (header_line first)

-- what a file gives; none if its header is none
abbrev pub packed_items : Kind → List ℕ → Option (List Item)
packed_items kind text =
    if is_headed text then items_behind_header kind (lines text)
    else Some (items kind 1 false (lines text))

-- ---- whole files

abbrev pub with_item : Item → Option (List Record) → Option (List Record)
with_item (Good r) records = option_map (λ more. r ∷ more) records
with_item (Bad number line) records = None
with_item (BadHeader line) records = None

abbrev pub all_good : List Item → Option (List Record)
all_good [] = Some []
all_good (item ∷ rest) = with_item item (all_good rest)

-- the records of a file without a bad line
abbrev pub packed_records : Kind → List ℕ → Option (List Record)
packed_records kind text = option_and_then all_good (packed_items kind text)

-- ---- what contracts see

abbrev pub record_of : Reference → Record
record_of r =
    record { name = name_of r.name; target = id_of r.target; peeled = option_map id_of r.object }

abbrev pub item_view : Result Reference Error → Item
item_view (Ok r) = Good (record_of r)
item_view (Err (faults.Reference line number)) = Bad number (bstr_bytes line)
item_view (Err (faults.Header line)) = BadHeader (bstr_bytes line)

-- the first line, which is no header
abbrev pub IsHeaderFault : List ℕ → Error → Type 0
IsHeaderFault text (faults.Header line) =
    (rest : List (List ℕ)) × (lines text ≡ bstr_bytes line ∷ rest)
    × (header_line (bstr_bytes line) ≡ None)
IsHeaderFault text (faults.Reference line number) = ⊥

-- the peeled id in the first of the lines, and what the lines after a record give
abbrev pub HasPeel : Kind → ℕ → List (List ℕ) → Option Id → List Item → Type 0
HasPeel kind number [] peel left = (peel ≡ None) × (left ≡ [])
HasPeel kind number (line ∷ rest) peel left =
    (peel ≡ peel_line kind line) × (left ≡ items kind number (is_some peel) (line ∷ rest))
