-- What is prepared can be committed as its edits say.
use Rattle.std.proofs.Common.{◌≡◌, refl, sym, subst, Bool, true, false, List, Option, Some, None, option_map}
use Rattle.std.specs.Prelude.{IsSome}
use Rattle.gix_object_lookup.specs.Table.{Table}
use Rattle.gix_ref_file.specs.Tree.{Tree}
use Rattle.gix_ref_edit.specs.declared.change.RefEdit.{RefEdit}
use Rattle.gix_ref_format.specs.Edited.{Line}
use Rattle.gix_ref_store.specs.Places.{Base, packed_place}
use Rattle.gix_ref_lock.specs.declared.packed.Transaction.{Transaction}
use Rattle.gix_ref_lock.specs.Moments.{SameButLocks}
use Rattle.gix_ref_lock.specs.Moves.{IsNone, all_paths}
use Rattle.gix_ref_lock.specs.declared.act.Move.{Move}
use Rattle.gix_ref_way.specs.Ways.{file_at}
use Rattle.gix_ref_transaction.specs.Modes.{objects_in, removes}
use Rattle.gix_ref_transaction.specs.Paths.{edit_paths, has_twice}
use Rattle.gix_ref_transaction.specs.Plans.{AllHold, AllPlanned}
use Rattle.gix_ref_transaction.specs.Reads.{AllGiveKind, AllReadBack, AreReadBack, IsAsPrepared, Prepared}
use Rattle.gix_ref_transaction.specs.Repacking.{AreRepacked, HoldsIf, SayOfRecords}
use Rattle.gix_ref_transaction.specs.declared.repacking.packed_refs.PackedRefs.{PackedRefs}
use Rattle.gix_ref_transaction.specs.declared.repacking.packed_refs.PackedRefs.TheVariants.{DeletionsOnly, DeletionsAndNonSymbolicUpdates, DeletionsAndNonSymbolicUpdatesRemoveLooseSourceReference}
use Rattle.gix_ref_transaction.proofs.RecordKinds.{edited_kinds, kept_kinds, said_kinds}
use Rattle.gix_ref_transaction.proofs.Committable.{plans_paths}
use Rattle.gix_ref_transaction.proofs.Twice.{once_of}

-- ---- paths that are apart

records_apart : (b : Base) (gone : Bool) (edits : List RefEdit) (moves : List Move) → AllPlanned b gone edits moves → has_twice (edit_paths b edits) ≡ false → IsNone (packed_place b) (all_paths moves)
records_apart b gone edits moves planned apart = subst (λ ps. IsNone (packed_place b) ps) (sym (plans_paths b gone edits moves planned)) (once_of (edit_paths b edits) apart).0.1

-- ---- what is written is read back

records_back : (b : Base) (packs : Option Table) (old new : Tree) (edits : List RefEdit) (lines : List Line) (t : Option Transaction) (holds : HoldsIf b old new lines t)
    → AllGiveKind b.kind edits → SayOfRecords packs edits lines → AreReadBack b old new lines t holds
records_back b packs old new edits lines None holds give say = tt
records_back b packs old new edits lines (Some t) (changes, holds) give say =
    holds.told.reads (edited_kinds b.kind _ lines holds.told.after (kept_kinds b.kind (file_at old (packed_place b)) t.buffer holds.keeps) (said_kinds b.kind packs edits lines give say) holds.told.edited)

-- own files are removed only if updates are packed
pub mode_packs : {O : Type 0} (table : O → Table) (mode : PackedRefs O) → removes mode ≡ true → IsSome (option_map table (objects_in mode))
mode_packs table DeletionsOnly gone = cc
mode_packs table (DeletionsAndNonSymbolicUpdates objects) gone = cc
mode_packs table (DeletionsAndNonSymbolicUpdatesRemoveLooseSourceReference objects) gone = refl

pub is_prepared : (b : Base) (packs : Option Table) (gone : Bool) (old new : Tree) (t : Prepared) → (gone ≡ true → IsSome packs) → AllPlanned b gone t.edits t.moves → AllHold new t.edits t.moves → SameButLocks old new
    → has_twice (edit_paths b t.edits) ≡ false → (AllGiveKind b.kind t.edits → AllReadBack b.kind t.edits) → AreRepacked b packs old new t.edits t.packed
    → AllGiveKind b.kind t.edits → IsAsPrepared b packs gone old new t
is_prepared b packs gone old new t mode planned texts locks apart back (lines, say, holds) give = record {
  mode = mode;
  planned = planned;
  texts = texts;
  locks = locks;
  lines = lines;
  say = say;
  holds = holds;
  files = back give;
  records = records_back b packs old new t.edits lines t.packed holds give say;
  apart = records_apart b gone t.edits t.moves planned apart;
}
