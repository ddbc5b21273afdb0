use Rattle.std.proofs.Common.{◌≡◌, length}
use Rattle.gix_ref_transaction.specs.Locking.{are_known}
use Rattle.gix_ref_transaction.proofs.known.are_known.Given as goal

-- the edits that are left decide
abbrev pub invariant-edits : goal.invariant-edits
invariant-edits l = are_known l.composes l.edits ≡ are_known l.composes l.rest

abbrev pub decreases-edits : goal.decreases-edits
decreases-edits l = length l.rest
