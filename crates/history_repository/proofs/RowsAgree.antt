-- Rows that agree with what is stored go on doing so.
use Rattle.std.proofs.Common.{◌≡◌, arith, List, [], Some}
use Rattle.std.specs.FinMap.{get}
use Rattle.gix_hash.specs.Id.{Id, id_of}
use Rattle.gix_hash.specs.declared.kind.Kind.{Kind}
use Rattle.gix_traverse_graph.specs.declared.rows.Row.{Row}
use Rattle.gix_traverse_graph.proofs.Lists.{none_at_nil}
use Rattle.history_model.specs.Objects.{StoredCommit, Value}
use Rattle.history_model.specs.Repository.{Values}
use Rattle.history_repository.specs.KeptRows.{AgreeRows}

-- ---- rows that agree

pub none_agree : (kind : Kind) (values : Values) → AgreeRows kind values []
none_agree kind values = record {
  told = λ row c. absurd (omega (arith, c.1));
  graph = record {
    once = λ j k r s a b same. absurd (none_at_nil j r a);
    parents = λ row c. absurd (omega (arith, c.1));
    generations = λ row c. absurd (omega (arith, c.1));
  };
}

-- they agree if more is stored
pub agree_grown : (kind : Kind) (old new : Values) (rows : List Row) → ((id : Id) (value : Value) → get old id ≡ Some value → get new id ≡ Some value) → AgreeRows kind old rows → AgreeRows kind new rows
agree_grown kind old new rows keeps agree = record {
  told = λ row c. let is = agree.told row c in record { commit = is.commit; stored = keeps (id_of row.id) (StoredCommit is.commit) is.stored; tree = is.tree; parents = is.parents; time = is.time };
  graph = agree.graph;
}
