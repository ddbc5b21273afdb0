-- The text of `packed-refs` (git-pack-refs(1); gitrepository-layout, "packed-refs"): a header, then
-- for each record `<hex> <name>`, and after it `^<hex>` if the record has a peeled id.
use Rattle.std.specs.Prelude.{ℕ, ◌≡◌, List, [], ◌∷◌, ◌++◌, length, codes, IsTrue, IfSome, Option, None, Some}
use Rattle.gix_hash.specs.Id.{Id}
use Rattle.gix_hash.specs.Kind.{hex_len}
use Rattle.gix_hash.specs.Spelling.{hex_text, IsHexOf}
use Rattle.gix_hash.specs.declared.kind.Kind.{Kind}
use Rattle.gix_object_lines.specs.NameTest.{is_full_name}
use Rattle.gix_ref_format.specs.Packed.{Record}

-- the first line, with its line feed
abbrev pub header_text : List ℕ
header_text = codes "# pack-refs with: peeled fully-peeled sorted " ++ 10 ∷ []

-- `^<hex>`, if there is a peeled id
abbrev pub peel_text : Option Id → List ℕ
peel_text None = []
peel_text (Some id) = 94 ∷ (hex_text id.digits ++ 10 ∷ [])

-- a record's line, and that of its peeled id
abbrev pub record_text : Record → List ℕ
record_text r = hex_text r.target.digits ++ 32 ∷ (r.name ++ 10 ∷ peel_text r.peeled)

abbrev pub records_text : List Record → List ℕ
records_text [] = []
records_text (r ∷ rest) = record_text r ++ records_text rest

abbrev pub packed_text : List Record → List ℕ
packed_text records = header_text ++ records_text records

-- an id of the hash function, with digits that are some
pub record IsIdOf (kind : Kind) (id : Id) : Type 0 where
  pub of_kind : id.kind ≡ kind
  pub digits : length id.digits ≡ hex_len kind
  pub spelled : IsHexOf (hex_text id.digits) id.digits

-- a record that may be in a file of this hash function
pub record IsRecordOf (kind : Kind) (r : Record) : Type 0 where
  pub name : IsTrue (is_full_name r.name)
  pub target : IsIdOf kind r.target
  pub peeled : IfSome r.peeled (IsIdOf kind)

abbrev pub AreRecordsOf : Kind → List Record → Type 0
AreRecordsOf kind [] = Unit {0}
AreRecordsOf kind (r ∷ rest) = IsRecordOf kind r × AreRecordsOf kind rest

-- the hash function of its ids
pub record HasKind (kind : Kind) (r : Record) : Type 0 where
  pub target : r.target.kind ≡ kind
  pub peeled : IfSome r.peeled (λ id. id.kind ≡ kind)

abbrev pub AllHaveKind : Kind → List Record → Type 0
AllHaveKind kind [] = Unit {0}
AllHaveKind kind (r ∷ rest) = HasKind kind r × AllHaveKind kind rest
