-- When names read as absent: by their own files, and by packed-refs.
use Rattle.std.proofs.Common.{◌≡◌, inl, refl, sym, ◌∙◌, ap, subst, Bool, true, false, cond, ◌&&◌, ◌||◌, ℕ, List, [], ◌∷◌, ◌++◌, drop, Option, Some, None, option_map, is_some, unwrap_or, codes, find}
use Rattle.std.specs.Prelude.{is_none, bytes_eq, option_and_then, Result, Ok, Err, IfOk}
use Rattle.std.proofs.lemmas.Bool.{and_from, and_parts}
use Rattle.gix_hash.specs.Id.{Id}
use Rattle.gix_hash.specs.declared.kind.Kind.{Kind}
use Rattle.gix_object_lines.specs.NameTest.{is_partial_name, is_full_name, is_capitals, has_slash}
use Rattle.gix_ref_file.specs.Tree.{Tree}
use Rattle.gix_ref_file.specs.Changes.{is_file_at}
use Rattle.gix_ref_format.specs.Lookup.{packed_hit}
use Rattle.gix_ref_format.specs.Packed.{Record, Item, Good, Bad, BadHeader, all_good, with_item, packed_records}
use Rattle.gix_ref_format.specs.PackedBuffer.{hit, Keeps, KeepsFile, FileFault, first_bad}
use Rattle.gix_ref_format.specs.declared.packed.buffer.Error.TheVariants as faults
use Rattle.history_model.specs.Bytes.{Bytes, begins}
use Rattle.history_model.specs.Forms.{is_name, is_private}
use Rattle.history_model.specs.Places.{file_at, packed_place, is_log_place, log_name, is_lock_file}
use Rattle.history_model.specs.NameStates.{Holds, Symbolic, Absent, Faulty, is_absent, loose_line, loose_state, name_state, packed_state, packed_text_state}
use Rattle.history_model.specs.PackedNames.{id_from_hex, packed_with, whole_line}
use Rattle.history_model.proofs.FormatLemmas.{records_alike}
use Rattle.history_model.proofs.NameLemmas.{partial_of, some_or}
use Rattle.history_model.proofs.WholePaths.{begins_parts}
use Rattle.history_recovery.specs.Clearing.{is_over, packed_reading}

-- ---- names

slash_below : (rest : Bytes) → has_slash (codes "refs/" ++ rest) ≡ true
slash_below rest = refl

pub full_of : (name : Bytes) → is_name name ≡ true → is_full_name name ≡ true
full_of name h =
    let below = begins_parts (codes "refs/") name (and_parts (is_partial_name name) (begins (codes "refs/") name) (and_parts _ _ (and_parts _ _ h).0).0).1 in
    and_from (is_partial_name name) (has_slash name || is_capitals name) (partial_of name h)
    (some_or (has_slash name) (is_capitals name) (inl (subst (λ n. has_slash n ≡ true) (sym below) (slash_below (drop 5 name)))))

-- ---- a name's own file

never_absent : (kind : Kind) (o : Option Bytes) → is_absent (unwrap_or (option_map (loose_line kind) o) Faulty) ≡ false
never_absent kind None = refl
never_absent kind (Some text) = go (begins (codes "ref: ") text && is_name (drop 5 text)) (id_from_hex kind text)
  where
    go : (symbolic : Bool) (id : Option Id) → is_absent (cond symbolic (Symbolic (drop 5 text)) (unwrap_or (option_map Holds id) Faulty)) ≡ false
    go true id = refl
    go false None = refl
    go false (Some id) = refl

pub absent_file : (kind : Kind) (tree : Tree) (name : Bytes) → is_name name ≡ true → true ≡ is_file_at tree name → false ≡ is_absent (name_state kind tree name)
absent_file kind tree name named is = sym (ap (λ b. is_absent (cond b (unwrap_or (option_map (loose_state kind) (file_at tree name)) (packed_reading kind tree name)) Absent)) named ∙ go (file_at tree name) is)
  where
    go : (o : Option Bytes) → true ≡ is_some o → is_absent (unwrap_or (option_map (loose_state kind) o) (packed_reading kind tree name)) ≡ false
    go None e = cc
    go (Some text) e = never_absent kind (whole_line text)

pub absent_unnamed : (kind : Kind) (tree : Tree) (name : Bytes) → is_name name ≡ false → true ≡ is_absent (name_state kind tree name)
absent_unnamed kind tree name plain = sym (ap (λ b. is_absent (cond b (unwrap_or (option_map (loose_state kind) (file_at tree name)) (packed_reading kind tree name)) Absent)) plain)

-- ---- packed-refs

pub told_none : (kind : Kind) (tree : Tree) (name : Bytes) → file_at tree packed_place ≡ None → true ≡ is_absent (packed_reading kind tree name)
told_none kind tree name none = sym (ap (λ found. is_absent (unwrap_or (option_map (packed_text_state kind name) found) Absent)) none)

pub told_faulty : (kind : Kind) (tree : Tree) (name text : Bytes) → file_at tree packed_place ≡ Some text → packed_records kind text ≡ None → false ≡ is_absent (packed_reading kind tree name)
told_faulty kind tree name text stands none =
    sym (ap (λ found. is_absent (unwrap_or (option_map (packed_text_state kind name) found) Absent)) stands
    ∙ ap (λ (rs : Option (List Record)). is_absent (unwrap_or (option_map (packed_state name) (option_map (packed_with text) rs)) Faulty)) none)

pub told_records : (kind : Kind) (tree : Tree) (name text : Bytes) (kept : List Record) → is_name name ≡ true → file_at tree packed_place ≡ Some text → Keeps kind text kept
    → is_none (packed_hit kept name) ≡ is_absent (packed_reading kind tree name)
told_records kind tree name text kept named stands keeps =
    ap (λ key. is_none (option_and_then (hit kept) key)) (records_alike name named)
    ∙ by_kind (is_private name)
    ∙ sym (ap (λ found. is_absent (unwrap_or (option_map (packed_text_state kind name) found) Absent)) stands
    ∙ ap (λ (rs : Option (List Record)). is_absent (unwrap_or (option_map (packed_state name) (option_map (packed_with text) rs)) Faulty)) keeps.1)
  where
    by_found : (o : Option Record) → is_none o ≡ is_absent (unwrap_or (option_map (λ found. Holds found.target) o) Absent)
    by_found None = refl
    by_found (Some r) = refl

    by_kind : (private : Bool) → is_none (option_and_then (hit kept) (cond private None (Some name)))
        ≡ is_absent (cond private Absent (unwrap_or (option_map (λ found. Holds found.target) (find (λ r. bytes_eq r.name name) keeps.0)) Absent))
    by_kind true = refl
    by_kind false = ap is_none (keeps.2.first name) ∙ by_found (hit keeps.0 name)

-- ---- what is left over

pub over_log : (kind : Kind) (tree : Tree) (path : Bytes) → is_lock_file path ≡ false → is_log_place path ≡ true → is_absent (name_state kind tree (log_name path)) ≡ is_over kind tree path
over_log kind tree path lock log = sym (λ i. lock i || (log i && is_absent (name_state kind tree (log_name path))))

pub told_by : {E : Type 0} (r : Result Bool E) (x y : Bool) → IfOk r (λ a. a ≡ x) → x ≡ y → IfOk r (λ a. a ≡ y)
told_by (Ok a) x y is same = is ∙ same
told_by (Err e) x y is same = is

-- ---- what opening the file says

bad_none : (items : List Item) (n : ℕ) → first_bad items ≡ Some n → all_good items ≡ None
bad_none [] n is = cc
bad_none (Good r ∷ rest) n is = ap (with_item (Good r)) (bad_none rest n is)
bad_none (Bad number line ∷ rest) n is = refl
bad_none (BadHeader line ∷ rest) n is = refl

pub kept_records : (kind : Kind) (tree : Tree) (name : Bytes) (kept : List Record) → is_name name ≡ true → KeepsFile kind (file_at tree packed_place) (Some kept) → is_none (packed_hit kept name) ≡ is_absent (packed_reading kind tree name)
kept_records kind tree name kept named keeps = go (file_at tree packed_place) refl keeps
  where
    go : (o : Option Bytes) → file_at tree packed_place ≡ o → KeepsFile kind o (Some kept) → is_none (packed_hit kept name) ≡ is_absent (packed_reading kind tree name)
    go None e keeps = absurd keeps
    go (Some text) e keeps = told_records kind tree name text kept named e keeps

pub kept_none : (kind : Kind) (tree : Tree) (name : Bytes) → KeepsFile kind (file_at tree packed_place) None → true ≡ is_absent (packed_reading kind tree name)
kept_none kind tree name keeps = go (file_at tree packed_place) refl keeps
  where
    go : (o : Option Bytes) → file_at tree packed_place ≡ o → KeepsFile kind o None → true ≡ is_absent (packed_reading kind tree name)
    go None e keeps = told_none kind tree name e
    go (Some text) e keeps = absurd keeps

pub bad_line : (kind : Kind) (tree : Tree) (name : Bytes) (n : ℕ) → FileFault kind (file_at tree packed_place) (faults.Iter n) → false ≡ is_absent (packed_reading kind tree name)
bad_line kind tree name n fault = go (file_at tree packed_place) refl fault
  where
    go : (o : Option Bytes) → file_at tree packed_place ≡ o → FileFault kind o (faults.Iter n) → false ≡ is_absent (packed_reading kind tree name)
    go None e fault = absurd fault
    go (Some text) e fault = told_faulty kind tree name text e (ap (option_and_then all_good) fault.1 ∙ bad_none fault.0 n fault.2)

pub bad_header : (kind : Kind) (tree : Tree) (name : Bytes) → FileFault kind (file_at tree packed_place) faults.HeaderParsing → false ≡ is_absent (packed_reading kind tree name)
bad_header kind tree name fault = go (file_at tree packed_place) refl fault
  where
    go : (o : Option Bytes) → file_at tree packed_place ≡ o → FileFault kind o faults.HeaderParsing → false ≡ is_absent (packed_reading kind tree name)
    go None e fault = absurd fault
    go (Some text) e fault = told_faulty kind tree name text e (ap (option_and_then all_good) fault)
