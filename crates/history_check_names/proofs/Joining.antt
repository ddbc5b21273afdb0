-- The two parts of a repository are joined.
use Rattle.std.proofs.Common.{refl}
use Rattle.std.specs.FinMap.{FinMap}
use Rattle.gix_hash.specs.Id.{Id}
use Rattle.gix_hash.specs.declared.kind.Kind.{Kind}
use Rattle.history_model.specs.Bytes.{Bytes, by_bytes}
use Rattle.history_model.specs.Objects.{Value, StoredCommit, StoredTag, StoredBytes, StoredFolder}
use Rattle.history_model.specs.Repository.{Reference, Repository, Values, NamesAreStored, Reaches, named, by_way_of, IsWholeStore}
use Rattle.history_layout.proofs.TreePuts.{halves_stand}
use Rattle.history_check_names.specs.Joined.{store_of, PartsJoin}

module _ (kind : Kind) (names : FinMap by_bytes Reference) (branch : Bytes) (values : Values) where
  abbrev whole : Repository
  whole = record { kind = kind; names = names; branch = branch; objects = values }

  stored : (value : Value) → NamesAreStored (store_of kind values) value → NamesAreStored whole value
  stored (StoredCommit commit) h = h
  stored (StoredTag tag) h = h
  stored (StoredBytes bytes) h = h
  stored (StoredFolder files) h = h

  reaches : {a b : Id} → Reaches whole a b → Reaches (store_of kind values) a b
  reaches (named value at is) = named value at is
  reaches (by_way_of mid first rest) = by_way_of mid (reaches first) (reaches rest)

  -- names are no part of a store
  pub store_whole : IsWholeStore (store_of kind values) → IsWholeStore whole
  store_whole store = record {
    own_ids = store.own_ids;
    closed = λ id value at. stored value (store.closed id value at);
    acyclic = λ id way. store.acyclic id (reaches way);
    null = store.null;
    empty_tree = store.empty_tree;
  }

pub parts_join : PartsJoin
parts_join kind pair facts values branch store are part =
    let names = part.stands values are in
    record {
      r = whole kind part.names branch values;
      objects = refl;
      branch_is = refl;
      stands = record {
        stands = (halves_stand kind pair (whole kind part.names branch values)).1 (refl, store.holds, names.holds);
        written = record { branch = names.branch; names = names.names; values = store.written };
        whole = record { store = store_whole kind part.names branch values store.whole; names = names.whole };
      };
    }
