use Rattle.std.proofs.Common.{◌≤◌, ℕ, List, length}
use Rattle.gix_object_tag.specs.Signature.{IsArmored}
use Rattle.gix_object_tag.proofs.signature.split_signature.Given as goal

abbrev pub invariant-lines : goal.invariant-lines
invariant-lines l = record {
  within : l.end ≤ length l.text;
  before : (front signature : List ℕ) → IsArmored l.text front signature → length front ≤ l.end;
}

abbrev pub decreases-lines : goal.decreases-lines
decreases-lines l = l.end
