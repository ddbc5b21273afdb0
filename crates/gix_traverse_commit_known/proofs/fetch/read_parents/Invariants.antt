use Rattle.std.proofs.Common.{◌≡◌, [], map}
use Rattle.gix_hash.specs.Id.{id_of}
use Rattle.gix_object_commit.specs.Tokens.{place_of}
use Rattle.gix_traverse_commit_known.specs.Told.{TellsFront}
use Rattle.gix_traverse_graph.specs.declared.parents.Parents.TheVariants.{First}
use Rattle.gix_traverse_commit_known.proofs.fetch.read_parents.Given as goal

abbrev pub invariant-tokens : goal.invariant-tokens
invariant-tokens l = record {
  can : (goal.iterator-tokens).can_next l.token-iterator;
  finite : (goal.iterator-tokens).is_finite l.token-iterator;
  front : TellsFront (place_of l.fn.reader) (map id_of l.ids.items) (place_of l.token-iterator);
  none : l.fn.along ≡ First → l.ids.items ≡ [];
}
