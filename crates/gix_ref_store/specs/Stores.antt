-- What a store is of.
use Rattle.std.specs.Prelude.{◌≡◌, ℕ, false, List, Option, Some, None}
use Rattle.std.specs.Prelude.{Vec}
use Rattle.std.specs.declared.alloc.Global.{Global}
use Rattle.gix_hash.specs.declared.kind.Kind.TheVariants.{Sha1}
use Rattle.gix_ref_store.specs.declared.options.Options.{Options}
use Rattle.gix_ref_store.specs.declared.options.WriteReflog.TheVariants.{Normal}
use Rattle.gix_ref_store.specs.declared.store.file.Store.{Store}
use Rattle.gix_ref_format.specs.Lookup.{lookup_names}
use Rattle.gix_ref_store.specs.Known.{known_as}
use Rattle.gix_ref_store.specs.Places.{Base}

-- logs as Git writes them by default, SHA-1 ids, names as they are
pub record IsUsual (options : Options) : Type 0 where
  pub logs : options.write_reflog ≡ Normal
  pub kind : options.object_hash ≡ Sha1
  pub plain : options.precompose_unicode ≡ false

-- the folder that all worktrees share: another than the worktree's own, or this
abbrev pub shared_folder : List ℕ → Option (Vec ℕ Global) → List ℕ
shared_folder git (Some folder) = folder.items
shared_folder git None = git

-- the hash function and the folders of a store
abbrev pub base_of : {F : Type 0} → Store F → Base
base_of store = record {
  kind = store.options.object_hash;
  git = store.git_dir.items;
  common = shared_folder store.git_dir.items store.common_dir;
}

-- the names that a word may mean in a store, in the order in which they are tried
abbrev pub names_of : {F : Type 0} → Store F → List ℕ → List (List ℕ)
names_of store word = lookup_names (known_as store.options.precompose_unicode word)
