-- What an objects part must hold to be opened.
use Rattle.std.specs.Prelude.{◌≡◌, Some}
use Rattle.std.specs.FinMap.{FinMap, get}
use Rattle.gix_hash.specs.Id.{Id}
use Rattle.gix_hash.specs.declared.kind.Kind.{Kind}
use Rattle.gix_ref_file.specs.Tree.{Tree}
use Rattle.history_model.specs.Bytes.{Bytes, by_bytes}
use Rattle.history_model.specs.Forms.{IsWrittenValue}
use Rattle.history_model.specs.Objects.{Value, value_text}
use Rattle.history_model.specs.Places.{file_at, object_place}
use Rattle.history_model.specs.Repository.{IsWholeStore, Reference, Repository, Values, fresh}

-- a repository of these values, without names
abbrev pub store_of : Kind → Values → Repository
store_of kind values = record (fresh kind) { objects = values }

-- the values are a whole store, each in its written form, within the limits
pub record IsSoundStore (kind : Kind) (values : Values) : Type 0 where
  pub whole : IsWholeStore (store_of kind values)
  pub written : (id : Id) (value : Value) → get values id ≡ Some value → IsWrittenValue kind value

-- such values, each with its text at its place
pub record AreInTree (kind : Kind) (tree : Tree) (values : Values) : Type 0 where
  pub sound : IsSoundStore kind values
  pub texts : (id : Id) (value : Value) → get values id ≡ Some value
      → file_at tree (object_place id) ≡ Some (value_text kind value)

-- A whole store stays whole with any names.
abbrev pub StaysWhole : Type 0
StaysWhole = (r : Repository) (names : FinMap by_bytes Reference) (branch : Bytes) → IsWholeStore r
    → IsWholeStore (record r { names = names; branch = branch })
