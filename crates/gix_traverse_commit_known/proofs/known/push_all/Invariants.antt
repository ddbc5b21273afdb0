use Rattle.std.proofs.Common.{◌≡◌, ◌++◌, take}
use Rattle.gix_traverse_commit_known.proofs.known.push_all.Given as goal

abbrev pub invariant-numbers : goal.invariant-numbers
invariant-numbers l = l.queue.items ≡ l.fn.queue.items ++ take l.number-index l.numbers
