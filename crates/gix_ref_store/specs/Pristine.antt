-- A store as a new one.
use Rattle.std.specs.Prelude.{ℕ, ◌≡◌, ◌≢◌, Bool, List, [], Option, None, codes, IsTrue}
use Rattle.gix_hash.specs.Id.{Id}
use Rattle.gix_ref_file.specs.Tree.{Tree}
use Rattle.gix_ref_name.specs.Targets.{Points, ToName}
use Rattle.gix_ref_store.specs.Listings.{all_names}
use Rattle.gix_ref_store.specs.Places.{Base}
use Rattle.gix_ref_store.specs.RefStates.{RefState, Stands, state_among, packed_text_in}
use Rattle.gix_ref_store.specs.Stores.{base_of}
use Rattle.gix_ref_store.specs.declared.store.file.Store.{Store}
use Rattle.gix_ref_store.specs.declared.store.file.iter.Error.{Error}
use Rattle.gix_ref_store.specs.declared.store.file.iter.Error.TheVariants.{Traversal, ReadFileContents, ReferenceCreation, Memory}

-- what `HEAD` reads as
abbrev pub head_in : Base → Tree → RefState
head_in b tree = state_among b tree [] (codes "HEAD")

abbrev pub PointsNowhere : RefState → Type 0
PointsNowhere r = (points : Points) (peeled : Option Id) → r ≢ Stands points peeled

-- one of the wanted names points to something
abbrev pub SomeStands : (List ℕ → RefState) → (List ℕ → Bool) → Type 0
SomeStands read asked =
    (name : List ℕ) × (points : Points) × (peeled : Option Id) × IsTrue (asked name)
    × (read name ≡ Stands points peeled)

-- `HEAD` points to this name; there are no packed references, and no name below `refs/` that a
-- store knows has a file with a target
pub record IsPristine {F : Type 0} (store : Store F) (tree : Tree) (branch : List ℕ) : Type 0 where
  pub head : head_in (base_of store) tree ≡ Stands (ToName branch) None
  pub unpacked : packed_text_in (base_of store) tree ≡ None
  pub alone : ¬ SomeStands (state_among (base_of store) tree []) (all_names store)

-- why there is no result: a folder couldn't be listed, a file not be read, or memory was refused
abbrev pub MayStopAt : Type 0 → Error → Type 0
MayStopAt may_fail Traversal = may_fail
MayStopAt may_fail (ReadFileContents name) = may_fail
MayStopAt may_fail (ReferenceCreation name reason) = ⊥
MayStopAt may_fail Memory = Unit {0}
