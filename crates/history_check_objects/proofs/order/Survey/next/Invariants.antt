use Rattle.std.proofs.Common.{◌≡◌, List, None, vec_len}
use Rattle.gix_hash.specs.declared.kind.Kind.{Kind}
use Rattle.gix_hash.specs.declared.object_id.ObjectId.{ObjectId}
use Rattle.gix_ref_file.specs.Tree.{Tree}
use Rattle.history_check_objects.specs.Surveyed.{StandsAt, left_of}
use Rattle.history_check_objects.proofs.order.Survey.next.Given as goal

-- what is true of the survey stays so, and none more has come
abbrev pub invariant-noted : goal.invariant-noted
invariant-noted l = record {
  stands : (kind : Kind) (tree : Tree) (ids : List ObjectId) → StandsAt kind tree ids l.fn.self None → StandsAt kind tree ids l.self None;
  left : left_of l.self ≡ left_of l.fn.self;
}

abbrev pub decreases-noted : goal.decreases-noted
decreases-noted l = vec_len l.self.waiting
