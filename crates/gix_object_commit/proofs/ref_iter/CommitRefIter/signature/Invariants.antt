use Rattle.std.proofs.Common.{◌≡◌, ℕ, List, [], ◌++◌, length}
use Rattle.gix_object_commit.specs.ReadingOn.{Tells}
use Rattle.gix_object_commit.specs.SignedCommit.{signature_told}
use Rattle.gix_object_commit.specs.Tokens.{place_of, start}
use Rattle.gix_object_commit.proofs.ref_iter.CommitRefIter.signature.Given as goal

abbrev pub invariant-tokens : goal.invariant-tokens
invariant-tokens l = record {
  can : (goal.iterator-tokens).can_next l.tokens;
  finite : (goal.iterator-tokens).is_finite l.tokens;
  passed : Tells (signature_told l.fn.hash_kind) (start l.fn.hash_kind l.input) [] (place_of l.tokens);
  front : (front : List ℕ) × (l.input ≡ front ++ (place_of l.tokens).input);
}

abbrev pub decreases-tokens : goal.decreases-tokens
decreases-tokens l = length (place_of l.tokens).input
