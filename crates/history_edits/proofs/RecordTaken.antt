-- Packed records under a deletion are without the name.
use Rattle.std.proofs.Common.{◌≡◌, unwrap_or, Bool, true, false, cond, ◌||◌, List, [], refl, sym, ◌∙◌, ap, subst, Option, Some, None, option_map, is_some, MatchOption}
use Rattle.std.specs.Prelude.{option_and_then}
use Rattle.std.specs.List.{list_any}
use Rattle.std.proofs.lemmas.Bool.{or_parts}
use Rattle.gix_ref_file.specs.Tree.{Tree, bytes_at}
use Rattle.gix_ref_format.specs.Lookup.{packed_hit, packed_key}
use Rattle.gix_ref_format.specs.Packed.{Record, packed_records}
use Rattle.gix_ref_format.specs.PackedBuffer.{KeepsFile, hit}
use Rattle.gix_ref_format.specs.PackedKept.{kept}
use Rattle.gix_ref_format.specs.declared.packed.buffer.Buffer.{Buffer}
use Rattle.gix_ref_format.specs.Edited.{IsEdited}
use Rattle.gix_ref_lock.specs.PackedEdits.{lock_path_of, place_of}
use Rattle.gix_ref_lock.specs.Records.{records_in, IsTextOf}
use Rattle.gix_ref_lock.specs.declared.packed.Transaction.{Transaction}
use Rattle.gix_ref_lock.specs.Committing.{packed_end}
use Rattle.gix_ref_transaction.specs.Repacking.{HoldsIf, HoldsRecords, changes_record, changes_records}
use Rattle.gix_ref_store.specs.RefStates.{records_of}
use Rattle.history_model.specs.Bytes.{Bytes}
use Rattle.history_model.specs.Forms.{is_name, is_private}
use Rattle.history_model.specs.PackedNames.{PackedAgrees, PackedFile, is_packed_form, packed_file, packed_with}
use Rattle.history_model.specs.Places.{file_at, packed_place}
use Rattle.history_model.specs.Repository.{Repository}
use Rattle.history_model.proofs.FormatLemmas.{records_alike}
use Rattle.history_layout.specs.TakeSteps.{LacksName, LacksRecord}
use Rattle.history_layout.specs.TreeHalves.{HoldsNames}
use Rattle.history_layout.proofs.RecordsEdited.{lacks_written, removal, same_lacks}
use Rattle.history_edits.specs.Bridges.{root_base, removals, records_end, RecordTaken}

clash : {A : Type 0} {b : Bool} → b ≡ true → b ≡ false → A
clash e f = absurd (go (sym e ∙ f))
  where
    go : true ≡ false → ⊥
    go e = cc

none_of : {A : Type 0} (o : Option A) → is_some o ≡ false → o ≡ None
none_of None e = refl
none_of (Some x) e = cc

-- ---- what changes

none_found : (records : List Record) (name : Bytes) → is_name name ≡ true → packed_hit records name ≡ None → is_private name ≡ false → hit records name ≡ None
none_found records name named none public = sym (ap (option_and_then (hit records)) (records_alike name named ∙ ap (λ b. cond b None (Some name)) public)) ∙ none

-- of private names there is no record
private_hit : (records : List Record) (name : Bytes) → is_name name ≡ true → is_private name ≡ true → packed_hit records name ≡ None
private_hit records name named private = ap (option_and_then (hit records)) (records_alike name named ∙ ap (λ b. cond b None (Some name)) private)

-- if nothing changes the name has no record
pub unchanged : (records : List Record) (name : Bytes) → is_name name ≡ true → list_any (changes_record records) (removals name) ≡ false → packed_hit records name ≡ None
unchanged records name named none = go (is_private name) refl none
  where
    go : (b : Bool) → is_private name ≡ b → list_any (changes_record records) (cond b [] (removal name)) ≡ false → packed_hit records name ≡ None
    go true private e = private_hit records name named private
    go false public e = none_of (packed_hit records name) (or_parts (is_some (packed_hit records name)) false e).0

-- if something changes it is no private one, and records exist
changed : (records : List Record) (name : Bytes) → list_any (changes_record records) (removals name) ≡ true → is_private name ≡ false
changed records name some = go (is_private name) refl some
  where
    go : (b : Bool) → is_private name ≡ b → list_any (changes_record records) (cond b [] (removal name)) ≡ true → is_private name ≡ false
    go true private e = cc
    go false public e = public

pub none_changed : (name : Bytes) → is_name name ≡ true → list_any (changes_record []) (removals name) ≡ true → ⊥
none_changed name named some = go (is_private name) refl some
  where
    no_hit : (o : Option Bytes) → is_some (option_and_then (hit []) o) ≡ false
    no_hit None = refl
    no_hit (Some key) = refl

    go : (b : Bool) → is_private name ≡ b → list_any (changes_record []) (cond b [] (removal name)) ≡ true → ⊥
    go true private e = cc
    go false public e = clash e (ap (λ x. x || false) (no_hit (packed_key name)))

pub form_of : (r : Repository) (old : Tree) → HoldsNames old r → (text : Bytes) → file_at old packed_place ≡ Some text → MatchOption (packed_file r.kind text) ⊥ (λ packed. is_packed_form packed ≡ true)
form_of r old h text at = go (packed_file r.kind text) (h.packed text at)
  where
    go : (o : Option PackedFile) → MatchOption o ⊥ (PackedAgrees r) → MatchOption o ⊥ (λ packed. is_packed_form packed ≡ true)
    go None k = absurd k
    go (Some packed) k = k.0

module _ (r : Repository) (name : Bytes) (old locked : Tree) (h : HoldsNames old r) (named : is_name name ≡ true) where
  none_hit : (file : Option Bytes) → file_at old packed_place ≡ file → changes_records (records_of r.kind file) (removals name) ≡ false → LacksRecord r.kind name file file
  none_hit None at none = refl
  none_hit (Some text) at none = go (packed_records r.kind text) refl none (form_of r old h text at)
    where
      go : (o : Option (List Record)) → packed_records r.kind text ≡ o → changes_records o (removals name) ≡ false → MatchOption (option_map (packed_with text) o) ⊥ (λ packed. is_packed_form packed ≡ true)
          → MatchOption (option_map (packed_with text) (packed_records r.kind text)) ⊥ (λ a. MatchOption (option_map (packed_with text) (packed_records r.kind text)) ⊥ (LacksName name a))
      go None read unchanged_all formed = absurd formed
      go (Some records) read unchanged_all formed =
          subst (λ o. MatchOption (option_map (packed_with text) o) ⊥ (λ a. MatchOption (option_map (packed_with text) o) ⊥ (LacksName name a))) (sym read)
          (same_lacks r.kind name text records formed (none_found records name named (unchanged records name named unchanged_all)))

  public : (file : Option Bytes) → file_at old packed_place ≡ file → changes_records (records_of r.kind file) (removals name) ≡ true → (is_private name ≡ false) × (is_some file ≡ true)
  public None at some = absurd (none_changed name named some)
  public (Some text) at some = go (packed_records r.kind text) some (form_of r old h text at)
    where
      go : (o : Option (List Record)) → changes_records o (removals name) ≡ true → MatchOption (option_map (packed_with text) o) ⊥ (λ packed. is_packed_form packed ≡ true) → (is_private name ≡ false) × (is_some (Some text) ≡ true)
      go None e formed = absurd formed
      go (Some records) e formed = (changed records name e, refl)

  written : (packed : Option Buffer) (text : Bytes) → is_private name ≡ false → is_some (file_at old packed_place) ≡ true → KeepsFile r.kind (file_at old packed_place) (option_map kept packed) → IsTextOf r.kind (records_in packed) (removals name) text
      → LacksRecord r.kind name (file_at old packed_place) (Some text)
  written packed text is_public there keeps told = go packed (file_at old packed_place) refl there keeps told
    where
      go : (packed : Option Buffer) (file : Option Bytes) → file_at old packed_place ≡ file → is_some file ≡ true → KeepsFile r.kind file (option_map kept packed) → IsTextOf r.kind (records_in packed) (removals name) text
          → LacksRecord r.kind name file (Some text)
      go packed None at there keeps told = cc
      go None (Some found) at there keeps told = absurd keeps
      go (Some buffer) (Some found) at there keeps told = lacks_written r.kind name found text (kept buffer) told.after keeps (form_of r old h found at)
          (subst (λ b. IsEdited (kept buffer) (cond b [] (removal name)) told.after) is_public told.edited) told.is told.reads

  taken : (t : Option Transaction) → HoldsIf (root_base r.kind) old locked (removals name) t → LacksRecord r.kind name (file_at old packed_place) (records_end old locked t)
  taken None none = none_hit (file_at old packed_place) refl none
  taken (Some t) (some, holds) =
      let there = public (file_at old packed_place) refl some in
      subst (λ o. LacksRecord r.kind name (file_at old packed_place) o) (sym (end_is holds)) (written t.buffer holds.text there.0 there.1 holds.keeps holds.told)
    where
      end_is : (holds : HoldsRecords r.kind packed_place old locked (removals name) t) → packed_end t locked ≡ Some holds.text
      end_is holds = (λ i. cond (holds.written i) (Some (bytes_at locked (lock_path_of t))) (file_at locked (place_of t)))
          ∙ ap (λ o. Some (unwrap_or o [])) holds.holds

pub record_taken : RecordTaken
record_taken r name old locked t h named holds = taken r name old locked h named t holds

-- if nothing is said of records they are not locked
pub none_said : (r : Repository) (old locked : Tree) (t : Option Transaction) → HoldsNames old r → HoldsIf (root_base r.kind) old locked [] t → t ≡ None
none_said r old locked None h holds = refl
none_said r old locked (Some t) h holds = go (file_at old packed_place) refl holds.0
  where
    read : (text : Bytes) → (o : Option (List Record)) → MatchOption (option_map (packed_with text) o) ⊥ (λ packed. is_packed_form packed ≡ true) → changes_records o [] ≡ true → Some t ≡ None
    read text None formed changed = absurd formed
    read text (Some records) formed changed = cc

    go : (file : Option Bytes) → file_at old packed_place ≡ file → changes_records (records_of r.kind file) [] ≡ true → Some t ≡ None
    go None at changed = cc
    go (Some text) at changed = read text (packed_records r.kind text) (form_of r old h text at) changed
