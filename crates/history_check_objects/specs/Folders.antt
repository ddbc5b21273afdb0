-- The folders that were seen in a part.
use Rattle.std.specs.Prelude.{ℕ, Vec}
use Rattle.std.specs.BTreeSet.{BTreeSet}
use Rattle.std.specs.List.{AllByRecursion}
use Rattle.std.specs.declared.alloc.Global.{Global}
use Rattle.gix_ref_file.specs.Tree.{Tree}
use Rattle.gix_ref_way.specs.Ways.{IsFolderAt}

-- each of these paths is a folder in the tree
abbrev pub HasFolders : Tree → BTreeSet (Vec ℕ Global) → Type 0
HasFolders tree folders = AllByRecursion (λ path. IsFolderAt path.items tree) folders.keys
