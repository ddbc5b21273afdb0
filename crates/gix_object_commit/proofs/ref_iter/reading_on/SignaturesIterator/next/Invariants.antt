use Rattle.std.proofs.Common.{◌≤◌, [], length}
use Rattle.gix_object_commit.specs.Tokens.{place_of}
use Rattle.gix_object_commit.specs.ReadingOn.{Tells, signatures_place, actor_told}
use Rattle.gix_object_commit.proofs.ref_iter.reading_on.SignaturesIterator.next.Given as goal

abbrev pub invariant-tokens : goal.invariant-tokens
invariant-tokens l = record {
  passed : Tells actor_told (signatures_place l.fn.self) [] (place_of l.self.tokens);
  within : length (place_of l.self.tokens).input ≤ length (signatures_place l.fn.self).input;
}

abbrev pub decreases-tokens : goal.decreases-tokens
decreases-tokens l = length (place_of l.self.tokens).input
