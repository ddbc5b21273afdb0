use Rattle.std.proofs.Common.{◌≡◌, ◌+◌, length}
use Rattle.std.specs.Io.KnownBytes.{Consumes}
use Rattle.gix_object_write.proofs.stream.read_content.Given as goal

abbrev pub invariant-pieces : goal.invariant-pieces
invariant-pieces g l = record {
  count : length l.content.items + l.left ≡ l.fn.size;
  read : Consumes (g.R.Read.remaining l.fn.from) (g.R.Read.remaining l.from) l.content.items;
}

abbrev pub decreases-pieces : goal.decreases-pieces
decreases-pieces g l = l.left
