-- The records that a pack is to write, and those that were written already.
use Rattle.std.proofs.Common.{◌≡◌, ◌⊎◌, inl, inr, Bool, true, false, cond, ◌&&◌, not, List, [], ◌∷◌, map, refl, sym, ◌∙◌, ap, subst, Option, Some, None, option_map, unwrap_or, is_some, bytes_eq, MatchOption}
use Rattle.std.specs.Prelude.{option_and_then}
use Rattle.std.specs.List.{AllByRecursion, list_any}
use Rattle.std.specs.FinMap.{get}
use Rattle.std.proofs.lemmas.Bool.{and_parts, or_from, or_parts, not-true}
use Rattle.std.proofs.lemmas.Option.{same_Some}
use Rattle.gix_hash.specs.Id.{Id}
use Rattle.gix_hash.specs.declared.kind.Kind.{Kind}
use Rattle.gix_ref_file.specs.Tree.{Tree}
use Rattle.gix_ref_edit.specs.declared.change.RefEdit.{RefEdit}
use Rattle.gix_ref_format.specs.Lookup.{packed_hit}
use Rattle.gix_ref_format.specs.Packed.{Record, packed_records}
use Rattle.gix_ref_format.specs.PackedBuffer.{KeepsFile, hit}
use Rattle.gix_ref_format.specs.Edited.{line_at, own_line, under}
use Rattle.gix_ref_store.specs.RefStates.{records_of}
use Rattle.history_model.specs.Bytes.{Bytes, has_twice}
use Rattle.history_model.specs.Forms.{IsWritten, is_name, is_private, is_reference}
use Rattle.history_model.specs.NameStates as names
use Rattle.history_model.specs.NameStates.{Faulty, Holds}
use Rattle.history_model.specs.PackedNames.{is_packed_form, packed_with}
use Rattle.history_model.specs.Places.{file_at, packed_place}
use Rattle.history_model.specs.Repository.{Reference, Repository, id_at, is_tag, peeled, stands}
use Rattle.history_model.proofs.FormatLemmas.{records_alike}
use Rattle.history_model.proofs.PlaceLemmas.{one_text, texts_apart, apart_texts}
use Rattle.history_layout.specs.Passing.{reads_as}
use Rattle.history_layout.specs.PackSteps.{record_for}
use Rattle.history_layout.specs.TreeHalves.{HoldsNames}
use Rattle.history_layout.proofs.EditedNames.{state_of}
use Rattle.history_layout.proofs.PackedReads.{reads_held}
use Rattle.history_layout.proofs.PackedRecords.{all_by_finds, found_named, packed_read}
use Rattle.history_layout.proofs.RecordsEdited.{found_name, found_public}
use Rattle.history_edits.specs.PackPlans.{AsksAll, IsPackedSo, LeavesOut, record_name}
use Rattle.history_edits.proofs.NamePlaces.{formed}
use Rattle.history_edits.proofs.RecordTaken.{form_of}
use Rattle.history_edits.proofs.WholeReads.{file_stands}

none_some : {A X : Type 0} {x : X} → None ≡ Some x → A
none_some e = cc

-- ---- what a name's record says

-- What is known of a name with a record.
pub record Told (r : Repository) (name : Bytes) (e : Record) : Type 0 where
  pub named : e.name ≡ name
  pub public : is_private name ≡ false
  pub at : id_at r name ≡ Some e.target
  pub peeled : e.peeled ≡ cond (is_tag r e.target) (peeled r e.target) None

abbrev record_with : Repository → Bytes → Id → Record
record_with r name id = record { name = name; target = id; peeled = cond (is_tag r id) (peeled r id) None }

pub record_told : (r : Repository) (name : Bytes) (e : Record) → record_for r name ≡ Some e → Told r name e
record_told r name e is = go (is_private name) refl (id_at r name) refl is
  where
    go : (b : Bool) → is_private name ≡ b → (o : Option Id) → id_at r name ≡ o → cond b None (option_map (record_with r name) o) ≡ Some e → Told r name e
    go true private o at same = none_some same
    go false public None at same = none_some same
    go false public (Some id) at same = subst (Told r name) (same_Some _ e same) (record { named = refl; public = public; at = at; peeled = refl })

-- a name that exists and isn't private has one
pub has_record : (r : Repository) (name : Bytes) → stands r name ≡ true → is_private name ≡ false → (e : Record) × (record_for r name ≡ Some e)
has_record r name there public = go (get r.names name) refl there
  where
    go : (o : Option Reference) → get r.names name ≡ o → is_some o ≡ true → (e : Record) × (record_for r name ≡ Some e)
    go None at h = cc
    go (Some ref) at h = (
      record_with r name ref.id,
      ap (λ b. cond b None (option_map (record_with r name) (id_at r name))) public
          ∙ ap (λ (x : Option Reference). option_map (record_with r name) (option_map (λ (y : Reference). y.id) x)) at,
    )

pub stands_at : (r : Repository) (name : Bytes) (id : Id) → id_at r name ≡ Some id → stands r name ≡ true
stands_at r name id at = go (get r.names name) at
  where
    go : (o : Option Reference) → option_map (λ (y : Reference). y.id) o ≡ Some id → is_some o ≡ true
    go None e = none_some e
    go (Some ref) e = refl

-- no name is private
pub all_public : (r : Repository) → IsWritten r → (name : Bytes) → stands r name ≡ true → is_private name ≡ false
all_public r written name there = go (get r.names name) refl there
  where
    go : (o : Option Reference) → get r.names name ≡ o → is_some o ≡ true → is_private name ≡ false
    go None at h = cc
    go (Some ref) at h = not-true (is_private name) (and_parts (is_name name) (not (is_private name)) (and_parts (is_name name && not (is_private name)) (is_reference r.kind ref) (written.names name ref at)).0).1

-- ---- lists of records

abbrev name_in : Record → Bytes
name_in = record_name

pub none_among : (es : List Record) (name : Bytes) → list_any (bytes_eq name) (map name_in es) ≡ false → hit es name ≡ None
none_among [] name none = refl
none_among (e ∷ es) name none =
    let parts = or_parts (bytes_eq name e.name) (list_any (bytes_eq name) (map name_in es)) none in
    ap (λ b. cond b (Some e) (hit es name)) (texts_apart e.name name (λ same. apart_texts name e.name parts.0 (sym same))) ∙ none_among es name parts.1

module _ (Out : Record → Type 0) where
  pub left_all : (P : Record → Type 0) (wanted asked : List Record) → LeavesOut Out wanted asked → AllByRecursion P wanted → AllByRecursion P asked
  left_all P [] asked is all = subst (AllByRecursion P) (sym is) tt
  left_all P (e ∷ wanted) asked (inl (out, left)) all = left_all P wanted asked left all.1
  left_all P (e ∷ wanted) asked (inr (rest, left, is)) all = subst (AllByRecursion P) (sym is) (all.0, left_all P wanted rest left all.1)

  pub left_any : (p : Bytes → Bool) (wanted asked : List Record) → LeavesOut Out wanted asked → list_any p (map name_in wanted) ≡ false → list_any p (map name_in asked) ≡ false
  left_any p [] asked is none = ap (λ es. list_any p (map name_in es)) is
  left_any p (e ∷ wanted) asked (inl (out, left)) none = left_any p wanted asked left (or_parts (p e.name) (list_any p (map name_in wanted)) none).1
  left_any p (e ∷ wanted) asked (inr (rest, left, is)) none =
      let parts = or_parts (p e.name) (list_any p (map name_in wanted)) none in
      ap (λ es. list_any p (map name_in es)) is ∙ or_from (p e.name) (list_any p (map name_in rest)) parts.0 (left_any p wanted rest left parts.1)

  pub left_once : (wanted asked : List Record) → LeavesOut Out wanted asked → has_twice bytes_eq (map name_in wanted) ≡ false → has_twice bytes_eq (map name_in asked) ≡ false
  left_once [] asked is once = ap (λ es. has_twice bytes_eq (map name_in es)) is
  left_once (e ∷ wanted) asked (inl (out, left)) once = left_once wanted asked left (or_parts (list_any (bytes_eq e.name) (map name_in wanted)) (has_twice bytes_eq (map name_in wanted)) once).1
  left_once (e ∷ wanted) asked (inr (rest, left, is)) once =
      let parts = or_parts (list_any (bytes_eq e.name) (map name_in wanted)) (has_twice bytes_eq (map name_in wanted)) once in
      ap (λ es. has_twice bytes_eq (map name_in es)) is
      ∙ or_from (list_any (bytes_eq e.name) (map name_in rest)) (has_twice bytes_eq (map name_in rest)) (left_any (bytes_eq e.name) wanted rest left parts.0) (left_once wanted rest left parts.1)

  -- what is found among all is found among those that are asked for, or is left out
  abbrev pub IsLeft : List Record → List Record → Bytes → Type 0
  IsLeft wanted asked name = (hit asked name ≡ hit wanted name) ⊎ ((hit asked name ≡ None) × ((e : Record) × (hit wanted name ≡ Some e) × Out e))

  pub left_hit : (wanted asked : List Record) (name : Bytes) → LeavesOut Out wanted asked → has_twice bytes_eq (map name_in wanted) ≡ false → IsLeft wanted asked name
  left_hit [] asked name is once = inl (ap (λ es. hit es name) is)
  left_hit (e ∷ wanted) asked name (inl (out, left)) once = go (bytes_eq e.name name) refl (left_hit wanted asked name left (or_parts (list_any (bytes_eq e.name) (map name_in wanted)) (has_twice bytes_eq (map name_in wanted)) once).1)
    where
      parts : (list_any (bytes_eq e.name) (map name_in wanted) ≡ false) × (has_twice bytes_eq (map name_in wanted) ≡ false)
      parts = or_parts (list_any (bytes_eq e.name) (map name_in wanted)) (has_twice bytes_eq (map name_in wanted)) once

      go : (b : Bool) → bytes_eq e.name name ≡ b → IsLeft wanted asked name → (hit asked name ≡ cond b (Some e) (hit wanted name)) ⊎ ((hit asked name ≡ None) × ((x : Record) × (cond b (Some e) (hit wanted name) ≡ Some x) × Out x))
      go true same rest = inr (none_among asked name (left_any (bytes_eq name) wanted asked left (ap (λ n. list_any (bytes_eq n) (map name_in wanted)) (sym (one_text e.name name same)) ∙ parts.0)), (e, refl, out))
      go false apart rest = rest
  left_hit (e ∷ wanted) asked name (inr (rest, left, is)) once =
      elim (left_hit wanted rest name left (or_parts (list_any (bytes_eq e.name) (map name_in wanted)) (has_twice bytes_eq (map name_in wanted)) once).1) [
        | inl same ↦ inl (ap (λ es. hit es name) is ∙ ap (λ o. cond (bytes_eq e.name name) (Some e) o) same)
        | inr (none, (x, at, out)) ↦ go (bytes_eq e.name name) refl none x at out
      ]
    where
      go : (b : Bool) → bytes_eq e.name name ≡ b → hit rest name ≡ None → (x : Record) → hit wanted name ≡ Some x → Out x → (hit asked name ≡ cond b (Some e) (hit wanted name)) ⊎ ((hit asked name ≡ None) × ((y : Record) × (cond b (Some e) (hit wanted name) ≡ Some y) × Out y))
      go true same none x at out = inl (ap (λ es. hit es name) is ∙ ap (λ b. cond b (Some e) (hit rest name)) same)
      go false apart none x at out = inr (ap (λ es. hit es name) is ∙ ap (λ b. cond b (Some e) (hit rest name)) apart ∙ none, (x, at, out))

-- ---- the records of a file

-- the record that a file has of a name
abbrev pub file_hit : Kind → Option Bytes → Bytes → Option Record
file_hit kind file name = hit (unwrap_or (records_of kind file) []) name

pub kept_hits : (kind : Kind) (file : Option Bytes) (kept : Option (List Record)) (name : Bytes) → KeepsFile kind file kept → hit (unwrap_or kept []) name ≡ file_hit kind file name
kept_hits kind None None name keeps = refl
kept_hits kind None (Some kept) name keeps = absurd keeps
kept_hits kind (Some text) None name keeps = absurd keeps
kept_hits kind (Some text) (Some kept) name keeps = keeps.2.first name ∙ ap (λ o. hit (unwrap_or o []) name) (sym keeps.1)

-- a name that doesn't exist has none
module _ (r : Repository) (tree : Tree) (holds : HoldsNames tree r) (name : Bytes) (none : record_for r name ≡ None) where
  no_id : is_private name ≡ false → (o : Option Id) → id_at r name ≡ o → o ≡ None
  no_id public None at = refl
  no_id public (Some id) at = cc (sym none ∙ ap (λ b. cond b None (option_map (record_with r name) (id_at r name))) public ∙ ap (option_map (record_with r name)) at)

  absent : is_name name ≡ true → is_private name ≡ false → packed_read r.kind name (file_at tree packed_place) ≡ names.Absent
  absent named public = go (file_at tree name) refl
    where
      reads_none : (o : Option Bytes) → file_at tree name ≡ o → unwrap_or (option_map (names.loose_state r.kind) o) (packed_read r.kind name (file_at tree packed_place)) ≡ names.Absent
      reads_none o e = sym (state_of r.kind tree name o named e) ∙ reads_held r tree holds name ∙ ap reads_as (no_id public (id_at r name) refl)

      go : (o : Option Bytes) → file_at tree name ≡ o → packed_read r.kind name (file_at tree packed_place) ≡ names.Absent
      go (Some text) e = file_stands r.kind text (reads_none (Some text) e)
      go None e = reads_none None e

  none_found : (records : List Record) → cond (is_private name) names.Absent (unwrap_or (option_map (λ (e : Record). Holds e.target) (hit records name)) names.Absent) ≡ names.Absent → is_private name ≡ false → hit records name ≡ None
  none_found records e public = go (hit records name) (ap (λ b. cond b names.Absent (unwrap_or (option_map (λ (x : Record). Holds x.target) (hit records name)) names.Absent)) (sym public) ∙ e)
    where
      go : (o : Option Record) → unwrap_or (option_map (λ (x : Record). Holds x.target) o) names.Absent ≡ names.Absent → o ≡ None
      go None h = refl
      go (Some x) h = cc

  in_text : (text : Bytes) → file_at tree packed_place ≡ Some text → file_hit r.kind (Some text) name ≡ None
  in_text text at = go (packed_records r.kind text) refl (form_of r tree holds text at)
    where
      by_hit : (records : List Record) → packed_records r.kind text ≡ Some records → is_packed_form (packed_with text records) ≡ true → (o : Option Record) → hit records name ≡ o → o ≡ None
      by_hit records read formed None e = refl
      by_hit records read formed (Some x) e =
          let own = found_named records name x e in
          let named : is_name name ≡ true = ap is_name (sym own) ∙ found_name (packed_with text records) formed name x e in
          let public : is_private name ≡ false = ap is_private (sym own) ∙ found_public (packed_with text records) formed name x e in
          let reads = ap (packed_read r.kind name) (sym at) ∙ absent named public in
          sym e ∙ none_found records (sym (ap (λ (rs : Option (List Record)). unwrap_or (option_map (names.packed_state name) (option_map (packed_with text) rs)) Faulty) read) ∙ reads) public

      go : (o : Option (List Record)) → packed_records r.kind text ≡ o → MatchOption (option_map (packed_with text) o) ⊥ (λ packed. is_packed_form packed ≡ true) → hit (unwrap_or (packed_records r.kind text) []) name ≡ None
      go None read formed = absurd formed
      go (Some records) read formed = ap (λ o. hit (unwrap_or o []) name) read ∙ by_hit records read formed (hit records name) refl

  pub none_before : file_hit r.kind (file_at tree packed_place) name ≡ None
  none_before = go (file_at tree packed_place) refl
    where
      go : (file : Option Bytes) → file_at tree packed_place ≡ file → file_hit r.kind file name ≡ None
      go None at = refl
      go (Some text) at = in_text text at

-- ---- all of them

module _ (r : Repository) (tree : Tree) (kept : Option (List Record)) (wanted : List Record) {edits : List RefEdit} (all : AsksAll r tree kept wanted edits) where
  abbrev pub asked : List Record
  asked = all.asks.asked

  -- each that is asked for is its name's
  pub asked_told : AllByRecursion (λ (e : Record). record_for r e.name ≡ Some e) asked
  asked_told = left_all (IsPackedSo tree (unwrap_or kept [])) (λ (e : Record). record_for r e.name ≡ Some e) wanted asked all.asks.left
      (all_by_finds (λ (e : Record). record_for r e.name ≡ Some e) wanted all.once (λ e found. sym (all.each e.name) ∙ found))

  pub asked_once : has_twice bytes_eq (map name_in asked) ≡ false
  asked_once = left_once (IsPackedSo tree (unwrap_or kept [])) wanted asked all.asks.left all.once

  -- of the others the file has the records already
  left_said : (name : Bytes) → IsLeft (IsPackedSo tree (unwrap_or kept [])) wanted asked name → (hit asked name ≡ record_for r name) ⊎ ((hit asked name ≡ None) × (file_at tree name ≡ None) × (file_hit r.kind (file_at tree packed_place) name ≡ record_for r name))
  left_said name (inl same) = inl (same ∙ all.each name)
  left_said name (inr (none, (e, at, out))) =
      let told = record_told r name e (sym (all.each name) ∙ at) in
      let named : is_name name ≡ true = formed r tree all.holds name (stands_at r name e.target told.at) in
      let key : packed_hit (unwrap_or kept []) name ≡ hit (unwrap_or kept []) name = ap (option_and_then (hit (unwrap_or kept []))) (records_alike name named ∙ ap (λ b. cond b None (Some name)) told.public) in
      inr (
        none,
        subst (λ n. file_at tree n ≡ None) told.named out.0,
        sym (kept_hits r.kind (file_at tree packed_place) kept name all.keeps) ∙ sym key ∙ subst (λ n. packed_hit (unwrap_or kept []) n ≡ Some e) told.named out.1 ∙ sym at ∙ all.each name,
      )

  pub said : (name : Bytes) → (hit asked name ≡ record_for r name) ⊎ ((hit asked name ≡ None) × (file_at tree name ≡ None) × (file_hit r.kind (file_at tree packed_place) name ≡ record_for r name))
  said name = left_said name (left_hit (IsPackedSo tree (unwrap_or kept [])) wanted asked name all.asks.left all.once)

  line_found : (es : List Record) (name : Bytes) → line_at (map own_line es) name ≡ option_map own_line (hit es name)
  line_found [] name = refl
  line_found (e ∷ es) name = go (bytes_eq e.name name) (line_found es name)
    where
      go : (b : Bool) → line_at (map own_line es) name ≡ option_map own_line (hit es name) → cond b (Some (own_line e)) (line_at (map own_line es) name) ≡ option_map own_line (cond b (Some e) (hit es name))
      go true rest = refl
      go false rest = rest

  -- under the lines of those that are asked for the file has the records of all
  pub under_lines : (name : Bytes) (before : Option Record) → before ≡ file_hit r.kind (file_at tree packed_place) name → under (line_at (map own_line asked) name) before ≡ record_for r name
  under_lines name before is = ap (λ o. under o before) (line_found asked name) ∙ by_said (said name)
    where
      by_hit : (o : Option Record) → hit asked name ≡ o → o ≡ record_for r name → under (option_map own_line o) before ≡ record_for r name
      by_hit None at same = is ∙ none_before r tree all.holds name (sym same) ∙ same
      by_hit (Some e) at same = same

      by_said : (hit asked name ≡ record_for r name) ⊎ ((hit asked name ≡ None) × (file_at tree name ≡ None) × (file_hit r.kind (file_at tree packed_place) name ≡ record_for r name)) → under (option_map own_line (hit asked name)) before ≡ record_for r name
      by_said (inl same) = by_hit (hit asked name) refl same
      by_said (inr (none, gone, had)) = ap (λ o. under (option_map own_line o) before) none ∙ is ∙ had
