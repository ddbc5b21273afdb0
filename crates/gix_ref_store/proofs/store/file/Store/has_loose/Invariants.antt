use Rattle.std.proofs.Common.{◌≡◌}
use Rattle.gix_ref_store.specs.Items.{left_in}
use Rattle.gix_ref_store.proofs.PristineLemmas.{Passed}
use Rattle.gix_ref_store.proofs.store.file.Store.has_loose.Given as goal

-- what was skipped has no target
abbrev pub invariant-loop-item : goal.invariant-loop-item
invariant-loop-item g l =
    (goal.iterator-loop-item g).can_next l.references × (goal.iterator-loop-item g).is_finite l.references
    × (l.references.search ≡ l.initial.references.search)
    × (g.F.Files.is_honest l.self.files → Passed (left_in (g.F.Files.history l.self.files).tree l.initial.references) (left_in (g.F.Files.history l.self.files).tree l.references))
