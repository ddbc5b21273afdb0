use Rattle.std.proofs.Common.{◌≡◌, false}
use Rattle.gix_hash.specs.declared.kind.Kind.{Kind}
use Rattle.history_check_names.specs.Packed.{has_name}
use Rattle.history_check_names.specs.PackedRead.{ReadsPacked}
use Rattle.history_check_names.proofs.Folders.{AreBefore}
use Rattle.history_check_names.proofs.file.test_apart.Given as goal

-- no folder of the name that ends before this place is an existing name
abbrev pub invariant-loop-end : goal.invariant-loop-end
invariant-loop-end g l = (kind : Kind) → g.F.Files.is_honest l.fn.files → ReadsPacked kind l.fn.packed (g.F.Files.history l.fn.files).tree
    → AreBefore (λ place. has_name kind (g.F.Files.history l.fn.files).tree place ≡ false) l.end l.name
