-- Which names parts are a repository's.
use Rattle.std.specs.Prelude.{◌≡◌, ◌&&◌, not, Some, IsTrue}
use Rattle.std.specs.FinMap.{FinMap, get}
use Rattle.gix_hash.specs.declared.kind.Kind.{Kind}
use Rattle.gix_ref_file.specs.Tree.{Tree}
use Rattle.history_model.specs.Bytes.{Bytes, by_bytes}
use Rattle.history_model.specs.Forms.{is_branch, is_name, is_private, is_reference}
use Rattle.history_model.specs.Places.{file_at, head_place}
use Rattle.history_model.specs.Repository.{Reference, Repository, Values, HasWholeNames}
use Rattle.history_model.specs.StandsFor.{head_text}
use Rattle.history_layout.specs.TreeHalves.{HoldsNames}
use Rattle.history_check_objects.specs.Stored.{Facts, AreFactsOf}

-- The tree is the names part of this repository: whole, and in written form.
pub record StandsNames (tree : Tree) (r : Repository) : Type 0 where
  pub holds : HoldsNames tree r
  pub whole : HasWholeNames r
  pub branch : IsTrue (is_branch r.branch)
  pub names : (name : Bytes) (ref : Reference) → get r.names name ≡ Some ref
      → IsTrue (is_name name && not (is_private name) && is_reference r.kind ref)

-- The tree is the names part of a repository on this branch, over each store of objects of these
-- facts.
pub record IsNamesPart (kind : Kind) (facts : Facts) (tree : Tree) (branch : Bytes) : Type 0 where
  pub names : FinMap by_bytes Reference
  pub stands : (values : Values) → AreFactsOf facts values
      → StandsNames tree
      (record { kind = kind; names = names; branch = branch; objects = values })

-- HEAD names this branch.
pub record NamesBranch (tree : Tree) (branch : Bytes) : Type 0 where
  pub head : file_at tree head_place ≡ Some (head_text branch)
  pub formed : IsTrue (is_branch branch)
