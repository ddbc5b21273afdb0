use Rattle.std.proofs.Common.{◌-◌, ℕ, length, map, Vec}
use Rattle.std.specs.declared.alloc.Global.{Global}
use Rattle.history_check_objects.specs.Folders.{HasFolders}
use Rattle.history_check_objects.proofs.Listings.{GathersSome}
use Rattle.history_check_objects.proofs.listing.+gather.Given as goal

-- a folder within the one that is gone through has a longer path
abbrev pub decreases-gather : goal.decreases-gather
decreases-gather g l = 4096 - length l.folder.now

-- what is listed so far was gathered, and its folders exist
abbrev pub invariant-loop-name : goal.invariant-loop-name
invariant-loop-name g l = record {
  gathered : g.F.Files.is_honest l.fn.files
      → GathersSome l.kind (g.F.Files.history l.fn.files).tree l.folder l.fn.ids.items l.ids.items (map (λ (name : Vec ℕ Global). name.items) l.name-items) l.name-index;
  folders : g.F.Files.is_honest l.fn.files → HasFolders (g.F.Files.history l.fn.files).tree l.fn.folders → HasFolders (g.F.Files.history l.fn.files).tree l.folders;
}
