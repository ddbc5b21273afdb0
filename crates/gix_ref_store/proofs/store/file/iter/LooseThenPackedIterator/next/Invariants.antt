use Rattle.std.proofs.Common.{◌≡◌, ◌≤◌, length}
use Rattle.gix_ref_store.specs.Items.{left_in}
use Rattle.gix_ref_store.proofs.store.file.iter.LooseThenPackedIterator.next.Given as goal

abbrev pub decreases-loop-name : goal.decreases-loop-name
decreases-loop-name g l = length l.self.names

-- no reference is passed over
abbrev pub invariant-loop-name : goal.invariant-loop-name
invariant-loop-name g l =
    (l.self.search ≡ l.fn.self.search) × (length l.self.names ≤ length l.fn.self.names)
    × (g.F.Files.is_honest l.fn.self.search.store.now.files
    → left_in (g.F.Files.history l.fn.self.search.store.now.files).tree l.self ≡ left_in (g.F.Files.history l.fn.self.search.store.now.files).tree l.fn.self)
