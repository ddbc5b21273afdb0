-- What the store of a names part is.
use Rattle.std.specs.Prelude.{◌≡◌, false, []}
use Rattle.gix_hash.specs.declared.kind.Kind.{Kind}
use Rattle.gix_ref_store.specs.Places.{Base}
use Rattle.gix_ref_store.specs.Stores.{base_of}
use Rattle.gix_ref_store.specs.declared.options.Options.{Options}
use Rattle.gix_ref_store.specs.declared.options.WriteReflog.TheVariants.{Always}
use Rattle.gix_ref_store.specs.declared.store.file.Store.{Store}

-- Its folders are the root, its ids of this kind; each name has a log, and names are known as they
-- are spelled.
pub record IsRoot (kind : Kind) (b : Base) (options : Options) : Type 0 where
  pub hash : options.object_hash ≡ kind
  pub git : b.git ≡ []
  pub common : b.common ≡ []
  pub logs : options.write_reflog ≡ Always
  pub plain : options.precompose_unicode ≡ false

abbrev pub IsRootStore : {F : Type 0} → Kind → Store F → Type 0
IsRootStore kind store = IsRoot kind (base_of store) store.options
