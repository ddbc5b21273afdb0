use Rattle.std.proofs.Common.{◌≤◌, [], length}
use Rattle.gix_object_commit.specs.Tokens.{place_of}
use Rattle.gix_object_commit.specs.ReadingOn.{Tells, ids_place, parent_told}
use Rattle.gix_object_commit.proofs.ref_iter.reading_on.ParentIdsIterator.next.Given as goal

abbrev pub invariant-tokens : goal.invariant-tokens
invariant-tokens l = record {
  passed : Tells parent_told (ids_place l.fn.self) [] (place_of l.self.tokens);
  within : length (place_of l.self.tokens).input ≤ length (ids_place l.fn.self).input;
}

abbrev pub decreases-tokens : goal.decreases-tokens
decreases-tokens l = length (place_of l.self.tokens).input
