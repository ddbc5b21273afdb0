use Rattle.std.proofs.Common.{◌≡◌, ◌++◌, map, length}
use Rattle.history_repository.specs.Fields.{kept_bytes}
use Rattle.history_queries.proofs.logs.kept_each.Given as goal

-- those of the fields so far, and then those of the others
abbrev pub invariant-loop-field : goal.invariant-loop-field
invariant-loop-field l =
    map (λ bytes. bytes.now) l.each.items ++ map kept_bytes l.rest ≡ map kept_bytes l.fields

abbrev pub decreases-loop-field : goal.decreases-loop-field
decreases-loop-field l = length l.rest
