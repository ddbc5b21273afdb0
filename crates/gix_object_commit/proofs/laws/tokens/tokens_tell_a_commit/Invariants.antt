use Rattle.std.proofs.Common.{◌≡◌, length}
use Rattle.gix_object_commit.proofs.Left.{IsReadSoFar}
use Rattle.gix_object_commit.proofs.laws.tokens.tokens_tell_a_commit.Given as goal

abbrev pub invariant-tokens : goal.invariant-tokens
invariant-tokens l = record {
  kind : l.tokens.hash_kind ≡ l.fn.hash_kind;
  so_far : IsReadSoFar l.fn.hash_kind l.input l.tokens.stage l.tokens.rest.now l.whole;
}

abbrev pub decreases-tokens : goal.decreases-tokens
decreases-tokens l = length l.tokens.rest.now
