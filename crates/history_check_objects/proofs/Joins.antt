-- A whole store, beside other names.
use Rattle.std.specs.FinMap.{FinMap}
use Rattle.gix_hash.specs.Id.{Id}
use Rattle.history_model.specs.Bytes.{Bytes, by_bytes}
use Rattle.history_model.specs.Repository.{IsWholeStore, Reaches, Reference, Repository, by_way_of, named}

module _ (r : Repository) (names : FinMap by_bytes Reference) (branch : Bytes) where
  abbrev pub other : Repository
  other = record { kind = r.kind; names = names; branch = branch; objects = r.objects }

  back : {a b : Id} → Reaches other a b → Reaches r a b
  back (named value at among) = named value at among
  back (by_way_of mid first second) = by_way_of mid (back first) (back second)

  -- what is whole is so beside any names
  pub whole_on : IsWholeStore r → IsWholeStore other
  whole_on whole = record {
    own_ids = whole.own_ids;
    closed = whole.closed;
    acyclic = λ id h. whole.acyclic id (back h);
    null = whole.null;
    empty_tree = whole.empty_tree;
  }
