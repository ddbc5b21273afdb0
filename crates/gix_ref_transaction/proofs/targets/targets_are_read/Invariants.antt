use Rattle.std.proofs.Common.{drop}
use Rattle.gix_ref_transaction.specs.Reads.{AllGiveKind, AllReadBack}
use Rattle.gix_ref_transaction.proofs.targets.targets_are_read.Given as goal

-- what holds of the edits that are left holds of all
abbrev pub invariant-loop-edit : goal.invariant-loop-edit
invariant-loop-edit l =
    (AllGiveKind l.kind l.edits → AllGiveKind l.kind (drop l.edit-index l.edits))
    × ((AllGiveKind l.kind l.edits → AllReadBack l.kind (drop l.edit-index l.edits))
    → AllGiveKind l.kind l.edits → AllReadBack l.kind l.edits)
