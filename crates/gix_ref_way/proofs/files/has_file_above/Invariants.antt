use Rattle.gix_ref_way.proofs.FilesBelow.{NoFileBefore}
use Rattle.gix_ref_way.proofs.files.has_file_above.Given as goal

-- no file is above that ends before this place in the path
abbrev pub invariant-loop-end : goal.invariant-loop-end
invariant-loop-end g l = g.F.Files.is_honest l.files → NoFileBefore l.end l.path (g.F.Files.history l.files).tree
