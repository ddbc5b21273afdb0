use Rattle.std.proofs.Common.{◌≡◌, ◌-◌, ◌∷◌, List, None, length, reverse}
use Rattle.gix_hash.specs.declared.kind.Kind.{Kind}
use Rattle.gix_hash.specs.declared.object_id.ObjectId.{ObjectId}
use Rattle.gix_ref_file.specs.Tree.{Tree}
use Rattle.history_check_objects.specs.Passing.{IsSame}
use Rattle.history_check_objects.specs.Surveyed.{StandsOver}
use Rattle.history_check_objects.proofs.order.Survey.advance.Given as goal

-- what is true of the survey stays so with the object that goes on
abbrev pub invariant-links : goal.invariant-links
invariant-links l = record {
  stands : (kind : Kind) (tree : Tree) (ids : List ObjectId) → StandsOver kind tree ids l.fn.self (l.fn.frame ∷ reverse l.fn.self.waiting.items) None
      → StandsOver kind tree ids l.self (l.frame ∷ reverse l.fn.self.waiting.items) None;
  self : l.self ≡ l.fn.self;
  same : IsSame l.fn.frame l.frame;
}

abbrev pub decreases-links : goal.decreases-links
decreases-links l = length l.frame.links.items - l.frame.next
