use Rattle.std.proofs.Common.{◌≡◌, List, length, map, take, flat_map}
use Rattle.std.specs.Prelude.{IfSome}
use Rattle.history_model.specs.Bytes.{Bytes, line}
use Rattle.history_word.specs.Commands.{ArePaths}
use Rattle.history_word.specs.Taking.{Took, AsksForMore}
use Rattle.history_word.proofs.reader.read_paths.Given as goal

-- these paths have come
abbrev pub invariant-loop-size : goal.invariant-loop-size
invariant-loop-size g l =
    (done : List Bytes) × (map length done ≡ take l.size-index l.sizes) × Took g.R.Source.left g.R.Source.readings l.fn.source l.fn.buffer l.source l.buffer (flat_map line done) × IfSome l.paths (λ all. ArePaths all.items done)
    × AsksForMore l.fn.source l.fn.buffer l.source (flat_map line done)
