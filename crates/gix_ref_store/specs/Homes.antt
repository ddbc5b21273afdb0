-- What contracts see of the code's folders and paths.
use Rattle.std.specs.Prelude.{ℕ, List, Option, Some, None, option_map}
use Rattle.gix_ref_file.specs.Tree.{under}
use Rattle.gix_ref_store.specs.Places.{Home}
use Rattle.gix_ref_store.specs.declared.store.file.place.Home.{Home as Held}

-- a folder, or a worktree's below it
abbrev pub folder_below : List ℕ → Option (List ℕ) → List ℕ
folder_below folder None = folder
folder_below folder (Some worktree) = under folder worktree

abbrev pub home_of : Held → Home
home_of held =
    record {
      folder =
          folder_below held.folder.now (option_map (λ front. front.now) held.worktree);
      path =
          held.path.now;
    }
