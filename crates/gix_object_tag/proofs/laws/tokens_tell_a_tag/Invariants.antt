use Rattle.std.proofs.Common.{◌≡◌, List}
use Rattle.gix_object_tag.specs.ReadingOn.{Reads}
use Rattle.gix_object_tag.specs.Tokens.{Part, place_of, start, tokens_left}
use Rattle.gix_object_tag.specs.Whole.{IsTag}
use Rattle.gix_object_tag.proofs.Left.{IsFrom, is_named}
use Rattle.gix_object_tag.proofs.laws.tokens_tell_a_tag.Given as goal

abbrev pub invariant-tokens : goal.invariant-tokens
invariant-tokens l = record {
  kind : (place_of l.tokens).kind ≡ l.fn.hash_kind;
  on : IsTag l.fn.hash_kind l.input → IsFrom l.fn.hash_kind (place_of l.tokens).stage (place_of l.tokens).input;
  read : (parts : List Part) × Reads (start l.fn.hash_kind l.input) parts (place_of l.tokens);
  named : l.named ≡ is_named (place_of l.tokens).stage;
}

abbrev pub decreases-tokens : goal.decreases-tokens
decreases-tokens l = tokens_left (place_of l.tokens)
