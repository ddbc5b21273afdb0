use Rattle.std.proofs.Common.{ℕ, ◌<◌, ◌≢◌, [], get_or, List}
use Rattle.std.specs.Borrow.{Bor}
use Rattle.gix_object_editor.proofs.tree.editor.edits.check_names.Given as goal

-- the names so far aren't empty
abbrev pub invariant-loop-name : goal.invariant-loop-name
invariant-loop-name l = (k : ℕ) (d : Bor (List ℕ)) → k < l.name-index → (get_or l.path k d).now ≢ []
