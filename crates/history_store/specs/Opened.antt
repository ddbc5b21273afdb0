-- What the objects part of a store that is opened holds.
use Rattle.std.specs.Prelude.{◌≡◌}
use Rattle.std.specs.FinMap.{contains_key}
use Rattle.gix_hash.specs.Id.{Id}
use Rattle.gix_hash.specs.declared.kind.Kind.{Kind}
use Rattle.gix_ref_file.specs.Tree.{Tree}
use Rattle.history_model.specs.Repository.{Values}
use Rattle.history_layout.specs.TreeHalves.{HoldsValues}
use Rattle.history_check_objects.specs.Opened.{IsSoundStore}
use Rattle.history_check_objects.specs.Stored.{Facts, AreFactsOf}
use Rattle.history_store.specs.Ids.{IdSet}

-- The tree has the files of values that are a whole store in written form, and no others, no
-- folders but those of objects, and these are the ids of the values.
pub record IsOpened (kind : Kind) (tree : Tree) (ids : IdSet) : Type 0 where
  pub values : Values
  pub holds : HoldsValues kind tree values
  pub sound : IsSoundStore kind values
  pub known : (id : Id) → contains_key ids id ≡ contains_key values id

-- The same, and these are the facts of the values.
pub record IsOpenedWith (kind : Kind) (tree : Tree) (ids : IdSet) (facts : Facts) : Type 0 where
  pub opened : IsOpened kind tree ids
  pub told : AreFactsOf facts opened.values
