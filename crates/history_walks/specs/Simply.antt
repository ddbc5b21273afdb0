-- A request for a walk in breadth order or by time.
use Rattle.std.specs.Prelude.{true, List}
use Rattle.gix_hash.specs.declared.object_id.ObjectId.{ObjectId}
use Rattle.gix_traverse_commit_known.specs.Asked.{Asked}
use Rattle.gix_traverse_graph.specs.declared.parents.Parents.{Parents}
use Rattle.gix_traverse_graph.specs.declared.sorting.Sorting.{Sorting}

abbrev pub asked : List ObjectId → List ObjectId → Parents → Sorting → Asked
asked tips hidden parents sorting = record {
  tips = tips;
  hidden = hidden;
  parents = parents;
  sorting = sorting;
  accepts = λ _. true;
}
