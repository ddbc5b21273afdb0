use Rattle.std.proofs.Common.{◌≡◌, length, map}
use Rattle.gix_hash.specs.Id.{id_of}
use Rattle.gix_hash.specs.Order.{id_eq}
use Rattle.history_model.specs.Bytes.{has_twice}
use Rattle.history_texts.proofs.written.commits.has_twice.Given as goal

-- an id occurs twice if and only if one does in what is left
abbrev pub invariant-ids : goal.invariant-ids
invariant-ids l = has_twice id_eq (map id_of l.ids) ≡ has_twice id_eq (map id_of l.rest)

abbrev pub decreases-ids : goal.decreases-ids
decreases-ids l = length l.rest
