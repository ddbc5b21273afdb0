-- Packed records are as before a deletion if the name has none.
use Rattle.std.proofs.Common.{◌≡◌, true, false, cond, ◌||◌, List, [], ◌∷◌, refl, sym, ◌∙◌, ap, subst, Option, Some, None, unwrap_or}
use Rattle.std.specs.Prelude.{is_some, option_and_then, Bool}
use Rattle.std.specs.List.{list_any}
use Rattle.gix_ref_edit.specs.declared.change.RefEdit.{RefEdit}
use Rattle.gix_ref_file.specs.Tree.{Tree}
use Rattle.gix_ref_format.specs.Lookup.{packed_hit, packed_key}
use Rattle.gix_ref_format.specs.Packed.{Record}
use Rattle.gix_ref_format.specs.PackedBuffer.{KeepsFile, hit}
use Rattle.gix_ref_lock.specs.declared.packed.Transaction.{Transaction}
use Rattle.gix_ref_lock.specs.Committing.{IsCommitted}
use Rattle.gix_ref_lock.specs.declared.act.Move.{Move}
use Rattle.gix_ref_transaction.specs.Repacking.{AreRepacked, HoldsIf, changes_record, changes_records}
use Rattle.gix_ref_store.specs.RefStates.{records_of}
use Rattle.gix_hash.specs.declared.kind.Kind.{Kind}
use Rattle.history_model.specs.Bytes.{Bytes}
use Rattle.history_model.specs.Forms.{is_name, is_private}
use Rattle.history_model.specs.Places.{file_at, packed_place}
use Rattle.history_layout.specs.EditSteps.{MovedName}
use Rattle.history_edits.specs.Bridges.{removals, root_base}
use Rattle.history_edits.specs.EditCommits.{IsReady}
use Rattle.history_edits.specs.EditPlans.{AreEdits}
use Rattle.history_edits.proofs.CommitMoments.{last_named, unlocked}
use Rattle.history_edits.proofs.PlansMade.{edits_say}
use Rattle.history_edits.proofs.RecordTaken.{none_changed}

clash : {A : Type 0} → true ≡ false → A
clash e = cc

-- the records that are kept have the file's first record of each name
same_hits : (records kept : List Record) → ((name : Bytes) → hit kept name ≡ hit records name) → (key : Option Bytes) → option_and_then (hit kept) key ≡ option_and_then (hit records) key
same_hits records kept same None = refl
same_hits records kept same (Some key) = same key

-- if no record is of the name, its deletion changes none
no_change : (records : List Record) (name : Bytes) → packed_hit records name ≡ None → list_any (changes_record records) (removals name) ≡ false
no_change records name none = go (is_private name)
  where
    go : (b : Bool) → list_any (changes_record records) (cond b [] (record { name = name; says = None } ∷ [])) ≡ false
    go true = refl
    go false = ap (λ (o : Option Record). is_some o || false) none

module _ (kind : Kind) (name : Bytes) (named : is_name name ≡ true) where
  none_changes : (file : Option Bytes) (kept : Option (List Record)) → KeepsFile kind file kept → packed_hit (unwrap_or kept []) name ≡ None → changes_records (records_of kind file) (removals name) ≡ true → {A : Type 0} → A
  none_changes None kept keeps none changes {A} = absurd (none_changed name named changes)
  none_changes (Some text) None keeps none changes {A} = absurd keeps
  none_changes (Some text) (Some kept) (records, read, holds) none changes {A} =
      let same = same_hits records kept holds.first (packed_key name) in
      clash (sym (subst (λ o. changes_records o (removals name) ≡ true) read changes) ∙ no_change records name (sym same ∙ none))

  not_locked : (old locked : Tree) (kept : Option (List Record)) (t : Option Transaction) → KeepsFile kind (file_at old packed_place) kept → packed_hit (unwrap_or kept []) name ≡ None → HoldsIf (root_base kind) old locked (removals name) t → t ≡ None
  not_locked old locked kept None keeps none holds = refl
  not_locked old locked kept (Some t) keeps none holds = none_changes (file_at old packed_place) kept keeps none holds.0

pub records_stay : (kind : Kind) (moved : List MovedName) (name : Bytes) (edits : List RefEdit) (kept : Option (List Record)) (old locked new : Tree) (t : Option Transaction) (moves : List Move)
    → IsReady kind moved (Some name) old locked t moves → IsCommitted t moves locked new → KeepsFile kind (file_at old packed_place) kept → AreEdits moved (Some name) edits → AreRepacked (root_base kind) None old locked edits t
    → packed_hit (unwrap_or kept []) name ≡ None → file_at new packed_place ≡ file_at old packed_place
records_stay kind moved name edits kept old locked new t moves ready done keeps asks (lines, say, holds) none =
    unlocked kind moved (Some name) old locked new t moves ready done.others
    (not_locked kind name (last_named (λ n. is_name n ≡ true) moved name ready.named) old locked kept t keeps none
    (subst (λ ls. HoldsIf (root_base kind) old locked ls t) (edits_say moved (Some name) edits lines ready.named asks say) holds))
