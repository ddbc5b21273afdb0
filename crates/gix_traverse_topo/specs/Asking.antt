-- What a builder holds.
use Rattle.std.specs.Prelude.{ℕ, List, Option}
use Rattle.gix_hash.specs.declared.object_id.ObjectId.{ObjectId}
use Rattle.gix_traverse_graph.specs.declared.parents.Parents.{Parents}
use Rattle.gix_traverse_graph.specs.declared.rows.Row.{Row}
use Rattle.gix_traverse_topo.specs.declared.init.Builder.{Builder}
use Rattle.gix_traverse_topo.specs.declared.init.Sorting.{Sorting}
use Rattle.gix_traverse_topo.specs.declared.iter.Topo.{Topo}

pub record Asked (F P : Type 0) : Type 0 where
  pub objects : F
  pub predicate : P
  pub tips : List ObjectId
  pub ends : List ObjectId
  pub sorting : Sorting
  pub parents : Parents
  pub graph : Option (List Row)

-- what the builder holds so far
abbrev pub asked_of : {F P : Type 0} → Builder F P → Asked F P
asked_of builder =
    record {
      objects =
          builder.find;
      predicate =
          builder.predicate;
      tips =
          builder.tips.items;
      ends =
          builder.ends.items;
      sorting =
          builder.sorting;
      parents = builder.parents;
      graph = builder.rows;
    }

-- ---- what a clause says of a walk

abbrev pub predicate_of : {P : Type 0} → Topo P → P
predicate_of walk = walk.predicate

abbrev pub parents_of : {P : Type 0} → Topo P → Parents
parents_of walk = walk.parents

-- all commits that the walk comes to: what the ends reach, then what the tips reach past it
abbrev pub commits_of : {P : Type 0} → Topo P → List ObjectId
commits_of walk = walk.known.ids.keys

-- how many objects it looked up
abbrev pub lookups_of : {P : Type 0} → Topo P → ℕ
lookups_of walk = walk.lookups
