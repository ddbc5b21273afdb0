-- The lock of packed records, while other locks are made.
use Rattle.std.proofs.Common.{refl, List, Option, Some, None}
use Rattle.gix_object_lookup.specs.Table.{Table}
use Rattle.gix_ref_file.specs.History.{History, Adds}
use Rattle.gix_ref_file.specs.Tree.{Tree}
use Rattle.gix_ref_file.proofs.Histories.{adds_weaker}
use Rattle.gix_ref_edit.specs.declared.change.RefEdit.{RefEdit}
use Rattle.gix_ref_store.specs.Places.{Base, packed_place}
use Rattle.gix_ref_lock.specs.Locks.{lock_of, OthersStay}
use Rattle.gix_ref_lock.specs.PackedEdits.{lock_path_of}
use Rattle.gix_ref_lock.specs.declared.packed.Transaction.{Transaction}
use Rattle.gix_ref_lock.specs.Moments.{SameButLocks}
use Rattle.gix_ref_lock.proofs.LockPaths.{one_lock}
use Rattle.gix_ref_transaction.specs.Repacking.{AreRepacked}
use Rattle.gix_ref_transaction.specs.Plans.{KeepsFiles}

pub repacked_on : (b : Base) (packs : Option Table) (old mid new : Tree) (edits : List RefEdit) (t : Option Transaction) → KeepsFiles mid new → AreRepacked b packs old mid edits t → AreRepacked b packs old new edits t
repacked_on b packs old mid new edits None keeps all = all
repacked_on b packs old mid new edits (Some t) keeps (lines, say, (changes, holds)) = (
  lines,
  say,
  (
    changes,
    record {
      here = holds.here;
      free = holds.free;
      written = holds.written;
      keeps = holds.keeps;
      text = holds.text;
      holds = keeps (lock_path_of t) holds.text holds.holds;
      told = holds.told;
    },
  ),
)

-- it alone changes while records are packed
pub locks_alone : (b : Base) (old new : History) → Adds (OthersStay (lock_of (packed_place b)) old.tree) old new → Adds (SameButLocks old.tree) old new
locks_alone b old new moments = adds_weaker old new moments (one_lock (packed_place b) (lock_of (packed_place b)) refl old.tree)
