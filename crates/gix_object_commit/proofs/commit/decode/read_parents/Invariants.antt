use Rattle.std.proofs.Common.{◌≤◌, map, length}
use Rattle.std.specs.Prelude.{codes}
use Rattle.bstr.specs.BStr.{bstr_bytes}
use Rattle.gix_object_lines.specs.HexLine.{hex_line, IsHex}
use Rattle.gix_object_lines.specs.Bytes.{IsBeginningOf}
use Rattle.gix_object_commit.proofs.Progress.{Progress}
use Rattle.gix_object_commit.proofs.commit.decode.read_parents.Given as goal

abbrev pub invariant-parents : goal.invariant-parents
invariant-parents l =
    Progress (hex_line (codes "parent")) (IsHex l.digits) (λ end. ¬ IsBeginningOf (codes "parent ") end) l.input (map bstr_bytes l.parents.items) l.rest × (1 ≤ l.parents.capacity)

abbrev pub decreases-parents : goal.decreases-parents
decreases-parents l = length l.rest
