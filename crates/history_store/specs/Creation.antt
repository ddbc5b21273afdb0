-- What making a repository does to the files of its two parts.
use Rattle.std.specs.Prelude.{◌≡◌, ◌≢◌, ◌⊎◌, ℕ, Result, Some, None, IsErrOf, IsTrue, OnErr, OnOk, Vec}
use Rattle.std.specs.declared.alloc.Global.{Global}
use Rattle.std.specs.FinMap.{get}
use Rattle.gix_hash.specs.declared.kind.Kind.{Kind}
use Rattle.gix_ref_file.specs.Calls.{Achieves, Passes}
use Rattle.gix_ref_file.specs.Tree.{Tree, is_folder}
use Rattle.gix_ref_file.specs.declared.files.FileError.{FileError}
use Rattle.gix_ref_file.specs.declared.files.FileError.TheVariants as file_case
use Rattle.gix_ref_file.specs.declared.files.Files.{Ghosts}
use Rattle.history_model.specs.Bytes.{Bytes}
use Rattle.history_model.specs.Repository.{first_branch, fresh}
use Rattle.history_model.specs.Places.{file_at, head_place, unfinished_place, is_object_folder, is_name_folder}
use Rattle.history_model.specs.StandsFor.{StandsFor, head_text}
use Rattle.history_texts.specs.Parts.{IsStrayAt, OverBoth}
use Rattle.history_texts.specs.declared.parts.Part.TheVariants as parts
use Rattle.history_store.specs.Calls.{KeepsHonesty}
use Rattle.history_store.specs.Stores.{KeepsFiles}
use Rattle.history_store.specs.declared.creation.CreateError.{CreateError}
use Rattle.history_store.specs.declared.creation.CreateError.TheVariants as errors
use Rattle.gix_ref_way.specs.Ways.{SameFolders}
use Rattle.history_store.specs.References.{head_lock}

-- `objects/unfinished` is gone, and each other file as before
pub record IsCleared (old new : Tree) : Type 0 where
  pub gone : file_at new unfinished_place ≡ None
  pub others : (path : Bytes) → path ≢ unfinished_place → file_at new path ≡ file_at old path

-- HEAD names the branch main, `HEAD.lock` is gone, and each other file as before
pub record HasHead (old new : Tree) : Type 0 where
  pub head : file_at new head_place ≡ Some (head_text first_branch)
  pub lock : file_at new head_lock ≡ None
  pub others : (path : Bytes) → path ≢ head_place → path ≢ head_lock
      → file_at new path ≡ file_at old path

-- HEAD is as before
abbrev pub SameHead : Tree → Tree → Type 0
SameHead old new = file_at new head_place ≡ file_at old head_place

-- while a leftover of a put is removed, each folder, and each file but that one, is as before
abbrev pub LeftoverMayGo : Tree → Tree → Type 0
LeftoverMayGo old tree = KeepsFiles old tree × SameFolders old tree

-- While HEAD is made, HEAD is as before, or made; each other file but `HEAD.lock`, and each folder,
-- is as before.
pub record HeadMayStand (old tree : Tree) : Type 0 where
  pub head : SameHead old tree ⊎ HasHead old tree
  pub others : (path : Bytes) → path ≢ head_place → path ≢ head_lock
      → file_at tree path ≡ file_at old path
  pub folders : SameFolders old tree

-- The two parts of a new repository: HEAD, which names the branch main, is the only file, and each
-- folder is one of a repository.
pub record IsNew (objects names : Tree) : Type 0 where
  pub no_object : (path : Bytes) → file_at objects path ≡ None
  pub object_folders : (path : Bytes) → IsTrue (is_folder (get objects path))
      → IsTrue (is_object_folder path)
  pub head : file_at names head_place ≡ Some (head_text first_branch)
  pub no_other : (path : Bytes) → path ≢ head_place → file_at names path ≡ None
  pub name_folders : (path : Bytes) → IsTrue (is_folder (get names path))
      → IsTrue (is_name_folder path)

abbrev pub create_fault : FileError → CreateError
create_fault file_case.Failed = errors.File
create_fault file_case.Memory = errors.Memory

-- ---- what calls do

module _ {F : Type 0} (files : Ghosts F) where
  -- The leftover of a put is removed, and at each moment all else is as before.
  pub record ClearsLeftover {T E : Type 0} (Reports : Type 0) (old new : F) (result : Result T E)
      : Type 0 where
    pub keeps : KeepsHonesty files Reports old new
    pub cleared : Achieves files.is_honest files.history old new result IsCleared
    pub moments : Passes files.is_honest files.history old new LeftoverMayGo

  -- HEAD is made, and at each moment is as before or whole.
  pub record MakesHead {T E : Type 0} (Reports : Type 0) (old new : F) (result : Result T E)
      : Type 0 where
    pub keeps : KeepsHonesty files Reports old new
    pub written : Achieves files.is_honest files.history old new result HasHead
    pub moments : Passes files.is_honest files.history old new HeadMayStand

  -- Over honest parts: at `Ok` they are a new repository, which is the one without names and objects.
  -- HEAD is made last: after an error it is as before, or the repository is made.
  pub record MakesNew {T E : Type 0} (kind : Kind) (objects names objects' names' : F)
      (result : Result T E) : Type 0 where
    pub made : OverBoth files.is_honest objects names
        (OnOk result (IsNew (files.history objects').tree (files.history names').tree))
    pub stands : OverBoth files.is_honest objects names (OnOk result (StandsFor kind
        (record { objects = (files.history objects').tree; names = (files.history names').tree })
        (fresh kind)))
    pub last : OverBoth files.is_honest objects names
        (OnErr result (SameHead (files.history names).tree (files.history names').tree
        ⊎ IsNew (files.history objects').tree (files.history names').tree))

  -- What `NotEmpty` names is in a part, which may not hold it, and nothing is changed.
  pub record RefusesStrays {T : Type 0} (objects names objects' names' : F)
      (result : Result T CreateError) : Type 0 where
    pub stray : OverBoth files.is_honest objects names
        ((path : Vec ℕ Global) → IsErrOf result (errors.NotEmpty path)
        → IsStrayAt parts.Objects unfinished_place path.items (files.history objects).tree
        ⊎ IsStrayAt parts.Names head_lock path.items (files.history names).tree)
    pub untouched : (path : Vec ℕ Global) → IsErrOf result (errors.NotEmpty path)
        → (objects' ≡ objects) × (names' ≡ names)
