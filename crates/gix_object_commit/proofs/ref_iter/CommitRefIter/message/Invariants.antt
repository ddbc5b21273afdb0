use Rattle.std.proofs.Common.{[]}
use Rattle.gix_object_commit.specs.Tokens.{place_of}
use Rattle.gix_object_commit.specs.ReadingOn.{Tells, message_told}
use Rattle.gix_object_commit.proofs.ref_iter.CommitRefIter.message.Given as goal

abbrev pub invariant-tokens : goal.invariant-tokens
invariant-tokens l = record {
  can : (goal.iterator-tokens).can_next l.token-iterator;
  finite : (goal.iterator-tokens).is_finite l.token-iterator;
  passed : Tells message_told (place_of l.fn.self) [] (place_of l.token-iterator);
}
