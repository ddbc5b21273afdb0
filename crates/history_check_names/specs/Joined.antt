-- When a store of objects and a names part are those of one repository.
use Rattle.std.specs.Prelude.{◌≡◌, Some}
use Rattle.std.specs.FinMap.{empty, get}
use Rattle.gix_hash.specs.Id.{Id}
use Rattle.gix_hash.specs.declared.kind.Kind.{Kind}
use Rattle.gix_ref_file.specs.Tree.{Tree}
use Rattle.history_model.specs.Bytes.{Bytes}
use Rattle.history_model.specs.Forms.{IsWrittenValue}
use Rattle.history_model.specs.Objects.{Value}
use Rattle.history_model.specs.Places.{Pair}
use Rattle.history_model.specs.Repository.{Repository, Values, IsWholeStore, first_branch}
use Rattle.history_model.specs.StandsFor.{StandsWhole}
use Rattle.history_layout.specs.TreeHalves.{HoldsValues}
use Rattle.history_check_names.specs.Parts.{IsNamesPart}
use Rattle.history_check_objects.specs.Stored.{Facts, AreFactsOf}

-- a repository without names that stores these values
abbrev pub store_of : Kind → Values → Repository
store_of kind values =
    record { kind = kind; names = empty; branch = first_branch; objects = values }

-- The tree holds these values, which are whole and in written form.
pub record StandsStore (kind : Kind) (tree : Tree) (values : Values) : Type 0 where
  pub holds : HoldsValues kind tree values
  pub whole : IsWholeStore (store_of kind values)
  pub written : (id : Id) (value : Value) → get values id ≡ Some value → IsWrittenValue kind value

-- The pair represents a whole repository with these values, on this branch.
pub record StandsOver (kind : Kind) (pair : Pair) (values : Values) (branch : Bytes) : Type 0 where
  pub r : Repository
  pub objects : r.objects ≡ values
  pub branch_is : r.branch ≡ branch
  pub stands : StandsWhole kind pair r

-- If a tree of objects holds whole values and a names part is a repository's over their facts, the
-- two represent one repository.
abbrev pub PartsJoin : Type 0
PartsJoin =
    (kind : Kind) (pair : Pair) (facts : Facts) (values : Values) (branch : Bytes)
    → StandsStore kind pair.objects values → AreFactsOf facts values
    → IsNamesPart kind facts pair.names branch → StandsOver kind pair values branch
