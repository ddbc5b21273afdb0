-- Edits that are made ready are ready to be committed.
use Rattle.std.proofs.Common.{◌≡◌, true, false, List, [], ◌∷◌, subst, Option, Some, None}
use Rattle.std.specs.List.{AllByRecursion}
use Rattle.gix_ref_file.specs.Tree.{Tree}
use Rattle.gix_ref_format.specs.Edited.{Line}
use Rattle.gix_ref_lock.specs.PackedEdits as packed
use Rattle.gix_ref_lock.specs.declared.packed.Transaction.{Transaction}
use Rattle.gix_ref_lock.specs.Contents.{lock_path_of}
use Rattle.gix_ref_lock.specs.Moves.{lock_paths, IsNone}
use Rattle.gix_ref_lock.specs.declared.act.Move.{Move}
use Rattle.gix_ref_transaction.specs.Repacking.{HoldsIf}
use Rattle.gix_ref_transaction.specs.Rollback.{all_locks}
use Rattle.history_model.specs.Bytes.{Bytes}
use Rattle.history_model.specs.Forms.{is_name}
use Rattle.history_model.specs.Places.{is_lock_file}
use Rattle.history_model.specs.Repository.{Repository}
use Rattle.history_layout.specs.EditSteps.{MovedName, edited_names}
use Rattle.history_layout.specs.TreeHalves.{HoldsNames}
use Rattle.history_edits.specs.Bridges.{root_base}
use Rattle.history_edits.specs.EditCommits.{IsOfRecords, RecordsGo}
use Rattle.history_edits.specs.EditPlans.{EditsReady, removals_of}
use Rattle.history_edits.proofs.CommitMoments.{last_named, lock_is, no_lock, packed_lock_is}
use Rattle.history_edits.proofs.PlansMade.{all_move, edits_say}
use Rattle.history_edits.proofs.RecordTaken.{none_said, record_taken}

-- ---- the records

at_records : (r : Repository) (old locked : Tree) (t : Option Transaction) (lines : List Line) → HoldsIf (root_base r.kind) old locked lines t → IsOfRecords t
at_records r old locked None lines holds = tt
at_records r old locked (Some t) lines holds = holds.1.here

records_go : (r : Repository) (moved : List MovedName) (taken : Option Bytes) (old locked : Tree) (t : Option Transaction) → HoldsNames old r → AllByRecursion (λ name. is_name name ≡ true) (edited_names moved taken)
    → HoldsIf (root_base r.kind) old locked (removals_of taken) t → RecordsGo r.kind taken old locked t
records_go r moved None old locked t h named holds = none_said r old locked t h holds
records_go r moved (Some name) old locked t h named holds = record_taken r name old locked t h (last_named (λ n. is_name n ≡ true) moved name named) holds

-- ---- the locks

none_of_moves : (path : Bytes) → is_lock_file path ≡ false → (moves : List Move) → IsNone path (lock_paths moves)
none_of_moves path plain [] = tt
none_of_moves path plain (made ∷ moves) = (no_lock path (lock_path_of made) plain (lock_is made), none_of_moves path plain moves)

pub none_of_locks : (path : Bytes) → is_lock_file path ≡ false → (t : Option Transaction) (moves : List Move) → IsNone path (all_locks t moves)
none_of_locks path plain None moves = none_of_moves path plain moves
none_of_locks path plain (Some t) moves = (no_lock path (packed.lock_path_of t) plain (packed_lock_is t), none_of_moves path plain moves)

-- ---- all of it

pub edits_ready : EditsReady
edits_ready r kept committer moved taken edits old locked t moves h keeps named logged asks made =
    let says = edits_say moved taken edits made.repacked.0 named asks made.repacked.1 in
    record {
      named = named;
      moves_are = all_move r old locked kept committer h keeps moved taken edits moves named logged asks made.plans made.hold made.lined;
      at_records = at_records r old locked t made.repacked.0 made.repacked.2;
      records = records_go r moved taken old locked t h named (subst (λ ls. HoldsIf (root_base r.kind) old locked ls t) says made.repacked.2);
      locks = λ path plain. made.files path (none_of_locks path plain t moves);
    }
