-- Files that are written beside their places. A lock, a file with `.lock` after its name, holds the
-- new bytes, and is then renamed to its place; no one else may make it while it exists (Git's
-- `lockfile.h`).
use Rattle.std.specs.Prelude.{ℕ, ◌≡◌, ◌≢◌, ◌⊎◌, List, [], ◌++◌, Some, None, codes, IsTrue}
use Rattle.gix_ref_file.specs.Tree.{Tree, file, node_at}
use Rattle.gix_ref_file.specs.Changes.{may_hold_file}

-- the path of a place's lock
abbrev pub lock_of : List ℕ → List ℕ
lock_of place = place ++ codes ".lock"

-- A lock may be made of this place: nothing is at its path, which may hold a file.
pub record HasLockPlace (place : List ℕ) (tree : Tree) : Type 0 where
  pub free : node_at tree (lock_of place) ≡ None
  pub may : IsTrue (may_hold_file tree (lock_of place))

-- what is elsewhere than at this path is as before
abbrev pub OthersStay : List ℕ → Tree → Tree → Type 0
OthersStay here old tree = (path : List ℕ) → path ≢ here → node_at tree path ≡ node_at old path

-- what is at this path is as before, if anything was there
abbrev pub KeepsHeld : List ℕ → Tree → Tree → Type 0
KeepsHeld lock old tree = node_at old lock ≢ None → node_at tree lock ≡ node_at old lock

-- there was no lock, and there is an empty one
pub record IsTaken (lock : List ℕ) (old new : Tree) : Type 0 where
  pub free : node_at old lock ≡ None
  pub held : node_at new lock ≡ Some (file [])

-- What there is while a lock is put in its place: there as before, or a file of these bytes;
-- elsewhere as before.
pub record MayBePut (place lock text : List ℕ) (old tree : Tree) : Type 0 where
  pub here : (node_at tree place ≡ node_at old place) ⊎ (node_at tree place ≡ Some (file text))
  pub others : (path : List ℕ) → path ≢ place → path ≢ lock → node_at tree path ≡ node_at old path

-- a file of these bytes is in the place, and there is no lock any more
pub record IsPut (place lock text : List ℕ) (new : Tree) : Type 0 where
  pub here : node_at new place ≡ Some (file text)
  pub gone : node_at new lock ≡ None
