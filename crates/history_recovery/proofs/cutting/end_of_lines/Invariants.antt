use Rattle.std.proofs.Common.{◌≡◌, ◌≤◌, take}
use Rattle.gix_ref_file.specs.Tree.{bytes_at}
use Rattle.history_model.specs.Logs.{whole_lines}
use Rattle.history_recovery.proofs.cutting.end_of_lines.Given as goal

-- no line feed is after the end
abbrev pub invariant-pieces : goal.invariant-pieces
invariant-pieces g l = record {
  within : l.end ≤ l.len;
  so_far : g.F.Files.is_honest l.files → whole_lines (bytes_at (g.F.Files.history l.files).tree l.path) ≡ whole_lines (take l.end (bytes_at (g.F.Files.history l.files).tree l.path));
}

abbrev pub decreases-pieces : goal.decreases-pieces
decreases-pieces g l = l.end
