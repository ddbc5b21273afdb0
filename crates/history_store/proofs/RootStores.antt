-- The store that is made for a names part is of its root.
use Rattle.std.proofs.Common.{◌≡◌, refl, ◌∙◌, ap, ℕ, false, [], Vec, Option, Some, None}
use Rattle.std.specs.Prelude.{option_map}
use Rattle.std.specs.declared.alloc.Global.{Global}
use Rattle.gix_hash.specs.declared.kind.Kind.{Kind}
use Rattle.gix_ref_store.specs.Folders.{IsStoreOf}
use Rattle.gix_ref_store.specs.Stores.{shared_folder}
use Rattle.gix_ref_store.specs.declared.options.Options.{Options}
use Rattle.gix_ref_store.specs.declared.options.WriteReflog.TheVariants.{Always}
use Rattle.gix_ref_store.specs.declared.store.file.Store.{Store}
use Rattle.history_store.specs.RootStore.{IsRootStore}

no_folder : (o : Option (Vec ℕ Global)) → option_map (λ (folder : Vec ℕ Global). folder.items) o ≡ None → o ≡ None
no_folder None e = refl
no_folder (Some folder) e = cc

pub rooted : {F : Type 0} (files : F) (kind : Kind) (store : Store F) → IsStoreOf files [] None (record { write_reflog = Always; object_hash = kind; precompose_unicode = false }) store → IsRootStore kind store
rooted files kind store is = record {
  hash = ap (λ (o : Options). o.object_hash) is.told;
  git = is.git_is;
  common = ap (shared_folder store.git_dir.items) (no_folder store.common_dir is.common_is) ∙ is.git_is;
  logs = ap (λ (o : Options). o.write_reflog) is.told;
  plain = ap (λ (o : Options). o.precompose_unicode) is.told;
}
