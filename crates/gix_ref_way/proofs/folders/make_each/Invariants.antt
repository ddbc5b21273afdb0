use Rattle.std.proofs.Common.{◌≡◌, ◌≤◌}
use Rattle.gix_ref_file.specs.History.{Adds}
use Rattle.gix_ref_way.specs.Ways.{SameFiles, FoldersAbove, KeepsFolders}
use Rattle.gix_ref_way.proofs.FoldersMade.{HasFoldersBefore}
use Rattle.gix_ref_way.proofs.folders.make_each.Given as goal

-- folders alone were made, each that ends before this place in the path
abbrev pub invariant-loop-end : goal.invariant-loop-end
invariant-loop-end g l =
    let history = g.F.Files.history in
    record {
      honest : g.F.Files.is_honest l.fn.files → g.F.Files.is_honest l.files;
      moments : g.F.Files.is_honest l.fn.files → Adds (SameFiles (history l.fn.files).tree) (history l.fn.files) (history l.files);
      folders : g.F.Files.is_honest l.fn.files → Adds (FoldersAbove l.fn.path (history l.fn.files).tree) (history l.fn.files) (history l.files);
      stay : g.F.Files.is_honest l.fn.files → Adds (KeepsFolders (history l.fn.files).tree) (history l.fn.files) (history l.files);
      later : g.F.Files.failures l.fn.files ≤ g.F.Files.failures l.files;
      unfailed : g.F.Files.failures l.files ≡ g.F.Files.failures l.fn.files;
      made : g.F.Files.is_honest l.fn.files → HasFoldersBefore l.end l.fn.path (history l.files).tree;
    }
