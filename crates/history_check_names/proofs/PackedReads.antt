-- What names read as by the records of `packed-refs`.
use Rattle.std.proofs.Common.{◌≡◌, zero, suc, Bool, true, false, cond, not, ◌&&◌, ◌||◌, List, [], ◌∷◌, Option, Some, None, option_map, unwrap_or, is_some, refl, sym, ◌∙◌, ap, subst, bytes_eq, arith}
use Rattle.std.specs.List.{AllByRecursion, Contains, list_any, list_all}
use Rattle.std.proofs.lemmas.Bool.{and_from, and_parts, or_from, or_parts}
use Rattle.gix_hash.specs.Id.{Id}
use Rattle.gix_hash.specs.declared.kind.Kind.{Kind}
use Rattle.gix_ref_file.specs.Changes.{is_file_at}
use Rattle.gix_ref_file.specs.Tree.{Tree, bytes_at}
use Rattle.gix_ref_format.specs.Packed.{Record, packed_records}
use Rattle.gix_ref_format.specs.PackedBuffer.{hit}
use Rattle.history_model.specs.Bytes.{Bytes, has_twice}
use Rattle.history_model.specs.Forms.{is_name, is_private}
use Rattle.history_model.specs.NameStates.{NameState, Holds, Symbolic, Absent, Faulty, is_absent, loose_line, loose_state, name_state, packed_state, packed_text_state}
use Rattle.history_model.specs.PackedNames.{PackedFile, id_from_hex, is_packed_form, packed_file, packed_with, whole_line}
use Rattle.history_model.specs.Places.{file_at, packed_place}
use Rattle.history_model.proofs.PlaceLemmas.{one_text, text_itself}
use Rattle.history_check_names.specs.Packed.{are_good_names, has_name, has_record, is_ascending, is_good_file, is_packed_text, record_names, records_at, records_in}
use Rattle.history_check_names.proofs.GoodNames.{Good, good_parts, turned}

none_some : {A X : Type 0} {x : X} → None ≡ Some x → A
none_some e = cc

inside : {X : Type 0} {a b : X} → Some a ≡ Some b → a ≡ b
inside e = cc

clash : {A : Type 0} {b : Bool} → b ≡ true → b ≡ false → A
clash t f = absurd (cc (sym t ∙ f))

was_not : (b : Bool) → not b ≡ true → b ≡ false
was_not true e = cc
was_not false e = refl

-- ---- files by their records

-- what a text is read as
pub file_records : (kind : Kind) (text : Bytes) (packed : PackedFile) → packed_file kind text ≡ Some packed → records_in kind text ≡ packed.records
file_records kind text packed is = go (packed_records kind text) is
  where
    go : (o : Option (List Record)) → option_map (packed_with text) o ≡ Some packed → unwrap_or o [] ≡ packed.records
    go None e = none_some e
    go (Some records) e = ap (λ (p : PackedFile). p.records) (inside e)

-- a file of packed names, with its records
pub record IsFile (kind : Kind) (text : Bytes) : Type 0 where
  pub packed : PackedFile
  pub read : packed_file kind text ≡ Some packed
  pub records : records_in kind text ≡ packed.records
  pub whole : is_good_file packed ≡ true
  pub good : are_good_names packed.sorted (record_names packed.records) ≡ true

pub file_of : (kind : Kind) (text : Bytes) → is_packed_text kind text ≡ true → IsFile kind text
file_of kind text good = go (packed_file kind text) refl good
  where
    go : (o : Option PackedFile) → packed_file kind text ≡ o → unwrap_or (option_map is_good_file o) false ≡ true → IsFile kind text
    go None is e = absurd (cc e)
    go (Some packed) is e = record {
      packed = packed;
      read = is;
      records = file_records kind text packed is;
      whole = e;
      good = (and_parts (not packed.returns) (are_good_names packed.sorted (record_names packed.records)) e).1;
    }

-- ---- forms

module _ (packed : PackedFile) where
  abbrev names : List Bytes
  names = record_names packed.records

  abbrev rises : Bool
  rises = not packed.sorted || is_ascending names

  abbrev plain : Bool
  plain = not packed.returns

  pub form_good : is_packed_form packed ≡ true → is_good_file packed ≡ true
  form_good formed =
      let three = and_parts (plain && list_all is_name names && not (has_twice bytes_eq names) && not (list_any is_private names)) rises formed in
      let two = and_parts (plain && list_all is_name names && not (has_twice bytes_eq names)) (not (list_any is_private names)) three.0 in
      let one = and_parts (plain && list_all is_name names) (not (has_twice bytes_eq names)) two.0 in
      let named = and_parts plain (list_all is_name names) one.0 in
      and_from plain (list_all is_name names && not (has_twice bytes_eq names) && rises) named.0
      (and_from (list_all is_name names && not (has_twice bytes_eq names)) rises (and_from (list_all is_name names) (not (has_twice bytes_eq names)) named.1 one.1) three.1)

  pub form_public : is_packed_form packed ≡ true → list_any is_private names ≡ false
  form_public formed =
      let three = and_parts (plain && list_all is_name names && not (has_twice bytes_eq names) && not (list_any is_private names)) rises formed in
      was_not (list_any is_private names) (and_parts (plain && list_all is_name names && not (has_twice bytes_eq names)) (not (list_any is_private names)) three.0).1

  pub form_from : is_good_file packed ≡ true → list_any is_private names ≡ false → is_packed_form packed ≡ true
  form_from good public =
      let both = and_parts plain (list_all is_name names && not (has_twice bytes_eq names) && rises) good in
      let two = and_parts (list_all is_name names && not (has_twice bytes_eq names)) rises both.1 in
      let one = and_parts (list_all is_name names) (not (has_twice bytes_eq names)) two.0 in
      and_from (plain && list_all is_name names && not (has_twice bytes_eq names) && not (list_any is_private names)) rises
      (and_from (plain && list_all is_name names && not (has_twice bytes_eq names)) (not (list_any is_private names))
      (and_from (plain && list_all is_name names) (not (has_twice bytes_eq names)) (and_from plain (list_all is_name names) both.0 one.0) one.1)
      (ap not public)) two.1

-- ---- what the records say

abbrev pub packed_read : Kind → Bytes → Option Bytes → NameState
packed_read kind name found = unwrap_or (option_map (packed_text_state kind name) found) Absent

abbrev pub text_in : Option Bytes → Bytes
text_in found = unwrap_or found []

pub read_by : (kind : Kind) (name : Bytes) (found : Option Bytes) (packed : PackedFile) → packed_file kind (text_in found) ≡ Some packed → packed_read kind name found ≡ packed_state name packed
read_by kind name None packed is = sym (ap (packed_state name) (sym (inside is)) ∙ none (is_private name))
  where
    none : (b : Bool) → cond b Absent Absent ≡ Absent
    none true = refl
    none false = refl
read_by kind name (Some text) packed is = ap (λ o. unwrap_or (option_map (packed_state name) o) Faulty) is

abbrev pub found_state : Option Record → NameState
found_state found = unwrap_or (option_map (λ (e : Record). Holds e.target) found) Absent

pub never_symbolic : (name : Bytes) (packed : PackedFile) (target : Bytes) → packed_state name packed ≡ Symbolic target → ⊥
never_symbolic name packed target e = go (is_private name) (hit packed.records name) e
  where
    go : (b : Bool) (o : Option Record) → cond b Absent (found_state o) ≡ Symbolic target → ⊥
    go true o e = cc
    go false None e = cc
    go false (Some r) e = cc

pub never_faulty : (name : Bytes) (packed : PackedFile) → packed_state name packed ≡ Faulty → ⊥
never_faulty name packed e = go (is_private name) (hit packed.records name) e
  where
    go : (b : Bool) (o : Option Record) → cond b Absent (found_state o) ≡ Faulty → ⊥
    go true o e = cc
    go false None e = cc
    go false (Some r) e = cc

-- ---- what is found

pub hit_any : (records : List Record) (name : Bytes) → list_any (bytes_eq name) (record_names records) ≡ is_some (hit records name)
hit_any [] name = refl
hit_any (r ∷ records) name = ap (λ b. b || list_any (bytes_eq name) (record_names records)) (turned name r.name) ∙ ap (λ b. bytes_eq r.name name || b) (hit_any records name) ∙ go (bytes_eq r.name name)
  where
    go : (b : Bool) → (b || is_some (hit records name)) ≡ is_some (cond b (Some r) (hit records name))
    go true = refl
    go false = refl

-- what holds of each of a list holds of one in it
pub all_of : {X : Type 0} (P : X → Type 0) (xs : List X) → AllByRecursion P xs → (x : X) → Contains xs x → P x
all_of P [] all x (k, below, at) = absurd (omega (arith, below))
all_of P (y ∷ ys) all x (zero, below, at) = subst P at all.0
all_of P (y ∷ ys) all x (suc k, below, at) = all_of P ys all.1 x (k, omega (arith, below), at)

pub all_map : {X : Type 0} (P Q : X → Type 0) (xs : List X) → ((x : X) → P x → Q x) → AllByRecursion P xs → AllByRecursion Q xs
all_map P Q [] turn all = tt
all_map P Q (x ∷ xs) turn all = (turn x all.0, all_map P Q xs turn all.1)

pub none_of : (p : Bytes → Bool) (records : List Record) → AllByRecursion (λ (e : Record). p e.name ≡ false) records → list_any p (record_names records) ≡ false
none_of p [] all = refl
none_of p (r ∷ records) all = or_from (p r.name) (list_any p (record_names records)) all.0 (none_of p records all.1)

-- if no name occurs twice, a record is found by its name
pub found_among : (records : List Record) → has_twice bytes_eq (record_names records) ≡ false → (e : Record) → Contains records e → hit records e.name ≡ Some e
found_among [] once e (k, below, at) = absurd (omega (arith, below))
found_among (r ∷ records) once e (zero, below, at) = ap (λ (x : Record). cond (bytes_eq r.name x.name) (Some r) (hit records x.name)) (sym at) ∙ ap (λ b. cond b (Some r) (hit records r.name)) (text_itself r.name) ∙ ap Some at
found_among (r ∷ records) once e (suc k, below, at) =
    let parts = or_parts (list_any (bytes_eq r.name) (record_names records)) (has_twice bytes_eq (record_names records)) once in
    let there = found_among records parts.1 e (k, omega (arith, below), at) in
    by_test (bytes_eq r.name e.name) refl parts.0 there
  where
    by_test : (b : Bool) → bytes_eq r.name e.name ≡ b → list_any (bytes_eq r.name) (record_names records) ≡ false → hit records e.name ≡ Some e → cond (bytes_eq r.name e.name) (Some r) (hit records e.name) ≡ Some e
    by_test false is none there = ap (λ b. cond b (Some r) (hit records e.name)) is ∙ there
    by_test true is none there =
        clash (ap (λ n. list_any (bytes_eq n) (record_names records)) (one_text r.name e.name is) ∙ hit_any records e.name ∙ ap is_some there) none

-- ---- names that exist

-- a name that neither a file nor a record has reads as absent
pub absent_so : (kind : Kind) (tree : Tree) (name : Bytes) → is_packed_text kind (bytes_at tree packed_place) ≡ true → has_name kind tree name ≡ false → is_absent (name_state kind tree name) ≡ true
absent_so kind tree name good none = by_name (is_name name) refl
  where
    f : IsFile kind (bytes_at tree packed_place)
    f = file_of kind (bytes_at tree packed_place) good

    no_record : has_record kind tree name ≡ false → is_absent (packed_state name f.packed) ≡ true
    no_record lacks = go (is_private name) (hit f.packed.records name) (sym (hit_any f.packed.records name) ∙ ap (λ rs. list_any (bytes_eq name) (record_names rs)) (sym f.records) ∙ lacks)
      where
        go : (b : Bool) (o : Option Record) → is_some o ≡ false → is_absent (cond b Absent (found_state o)) ≡ true
        go true o e = refl
        go false None e = refl
        go false (Some r) e = cc

    by_text : (o : Option Bytes) → file_at tree name ≡ o → (is_some o || has_record kind tree name) ≡ false → is_absent (unwrap_or (option_map (loose_state kind) o) (packed_read kind name (file_at tree packed_place))) ≡ true
    by_text None at e = ap is_absent (read_by kind name (file_at tree packed_place) f.packed f.read) ∙ no_record e
    by_text (Some text) at e = cc

    by_name : (b : Bool) → is_name name ≡ b → is_absent (name_state kind tree name) ≡ true
    by_name false is = ap (λ b. is_absent (cond b (unwrap_or (option_map (loose_state kind) (file_at tree name)) (packed_read kind name (file_at tree packed_place))) Absent)) is
    by_name true is =
        ap (λ b. is_absent (cond b (unwrap_or (option_map (loose_state kind) (file_at tree name)) (packed_read kind name (file_at tree packed_place))) Absent)) is
        ∙ by_text (file_at tree name) refl (ap (λ b. b && (is_file_at tree name || has_record kind tree name)) (sym is) ∙ none)

loose_there : (kind : Kind) (text : Bytes) → is_absent (loose_state kind text) ≡ false
loose_there kind text = by_line (whole_line text)
  where
    by_id : (o : Option Id) → is_absent (unwrap_or (option_map Holds o) Faulty) ≡ false
    by_id None = refl
    by_id (Some id) = refl

    by_symbol : (digits : Bytes) (b : Bool) (target : Bytes) → is_absent (cond b (Symbolic target) (unwrap_or (option_map Holds (id_from_hex kind digits)) Faulty)) ≡ false
    by_symbol digits true target = refl
    by_symbol digits false target = by_id (id_from_hex kind digits)

    by_line : (o : Option Bytes) → is_absent (unwrap_or (option_map (loose_line kind) o) Faulty) ≡ false
    by_line None = refl
    by_line (Some digits) = by_symbol digits _ _

-- one that a file or a record has, and that is no worktree's own, reads as something
pub stands_so : (kind : Kind) (tree : Tree) (name : Bytes) → is_packed_text kind (bytes_at tree packed_place) ≡ true → is_private name ≡ false → has_name kind tree name ≡ true → is_absent (name_state kind tree name) ≡ false
stands_so kind tree name good common there =
    ap (λ b. is_absent (cond b (unwrap_or (option_map (loose_state kind) (file_at tree name)) (packed_read kind name (file_at tree packed_place))) Absent)) parts.0
    ∙ by_text (file_at tree name) parts.1
  where
    f : IsFile kind (bytes_at tree packed_place)
    f = file_of kind (bytes_at tree packed_place) good

    parts : (is_name name ≡ true) × ((is_file_at tree name || has_record kind tree name) ≡ true)
    parts = and_parts (is_name name) (is_file_at tree name || has_record kind tree name) there

    by_record : (o : Option Record) → is_some o ≡ true → is_absent (found_state o) ≡ false
    by_record None e = cc
    by_record (Some r) e = refl

    by_text : (o : Option Bytes) → (is_some o || has_record kind tree name) ≡ true → is_absent (unwrap_or (option_map (loose_state kind) o) (packed_read kind name (file_at tree packed_place))) ≡ false
    by_text None e =
        ap is_absent (read_by kind name (file_at tree packed_place) f.packed f.read)
        ∙ ap (λ b. is_absent (cond b Absent (found_state (hit f.packed.records name)))) common
        ∙ by_record (hit f.packed.records name) (sym (hit_any f.packed.records name) ∙ ap (λ rs. list_any (bytes_eq name) (record_names rs)) (sym f.records) ∙ e)
    by_text (Some text) e = loose_there kind text

-- a name without a file reads as its record's id
pub record_read : (kind : Kind) (tree : Tree) (e : Record) → is_packed_text kind (bytes_at tree packed_place) ≡ true → is_private e.name ≡ false → is_file_at tree e.name ≡ false → Contains (records_at kind tree) e
    → name_state kind tree e.name ≡ Holds e.target
record_read kind tree e good common bare among =
    ap (λ b. cond b (unwrap_or (option_map (loose_state kind) (file_at tree e.name)) (packed_read kind e.name (file_at tree packed_place))) Absent) named
    ∙ no_text (file_at tree e.name) bare
  where
    f : IsFile kind (bytes_at tree packed_place)
    f = file_of kind (bytes_at tree packed_place) good

    names_good : Good f.packed.sorted (record_names f.packed.records)
    names_good = good_parts f.packed.sorted (record_names f.packed.records) f.good

    there : Contains f.packed.records e
    there = subst (λ rs. Contains rs e) f.records among

    named : is_name e.name ≡ true
    named = all_of (λ (r : Record). is_name r.name ≡ true) f.packed.records (each f.packed.records names_good.all) e there
      where
        each : (rs : List Record) → list_all is_name (record_names rs) ≡ true → AllByRecursion (λ (r : Record). is_name r.name ≡ true) rs
        each [] all = tt
        each (r ∷ rs) all = let parts = and_parts (is_name r.name) (list_all is_name (record_names rs)) all in (parts.0, each rs parts.1)

    no_text : (o : Option Bytes) → is_some o ≡ false → unwrap_or (option_map (loose_state kind) o) (packed_read kind e.name (file_at tree packed_place)) ≡ Holds e.target
    no_text None none =
        read_by kind e.name (file_at tree packed_place) f.packed f.read
        ∙ ap (λ b. cond b Absent (found_state (hit f.packed.records e.name))) common
        ∙ ap found_state (found_among f.packed.records names_good.once e there)
    no_text (Some text) none = cc
