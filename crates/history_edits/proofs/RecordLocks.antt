-- The packed records of a repository can be locked and read.
use Rattle.std.proofs.Common.{◌≡◌, true, not, Option, Some, None, option_map, MatchOption, List, refl, ap}
use Rattle.std.specs.Prelude.{IsSome}
use Rattle.gix_ref_file.specs.Tree.{Tree, is_folder, node_at}
use Rattle.gix_ref_file.specs.Changes.{may_hold_file}
use Rattle.gix_ref_format.specs.Packed.{Record, packed_records}
use Rattle.gix_ref_lock.specs.Locks.{lock_of}
use Rattle.gix_ref_lock.specs.PackedEdits.{IsRead}
use Rattle.history_model.specs.Bytes.{Bytes}
use Rattle.history_model.specs.PackedNames.{PackedAgrees, packed_with}
use Rattle.history_model.specs.Places.{file_at, packed_place}
use Rattle.history_model.specs.Repository.{Repository}
use Rattle.history_layout.specs.TreeHalves.{HoldsNames}
use Rattle.history_edits.specs.EditFaults.{RecordsAreLockable}
use Rattle.history_edits.proofs.EditLocks.{no_lock_at}

module _ (r : Repository) (tree : Tree) (holds : HoldsNames tree r) where
  free : node_at tree (lock_of packed_place) ≡ None
  free = no_lock_at r tree holds packed_place refl

  may : may_hold_file tree (lock_of packed_place) ≡ true
  may = ap (λ o. not (is_folder o)) free

  read : (file : Option Bytes) → file_at tree packed_place ≡ file → IsRead r.kind file
  read None at = tt
  read (Some text) at = go (packed_records r.kind text) (holds.packed text at)
    where
      go : (o : Option (List Record)) → MatchOption (option_map (packed_with text) o) ⊥ (PackedAgrees r) → IsSome o
      go None agrees = absurd agrees
      go (Some records) agrees = refl

pub records_are_lockable : RecordsAreLockable
records_are_lockable r tree holds = (record { free = free r tree holds; may = may r tree holds }, read r tree holds (file_at tree packed_place) refl)
