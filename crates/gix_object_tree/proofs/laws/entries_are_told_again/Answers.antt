use Rattle.std.proofs.Common.{subst, ◌<◌, length, map, arith}
use Rattle.std.specs.List.{All}
use Rattle.std.proofs.lemmas.List.{take_all}
use Rattle.gix_object_tree.specs.Writing.{IsToldAgain}
use Rattle.gix_object_tree.proofs.Searched.{item_at, map_length}
use Rattle.gix_object_tree.proofs.Twins.{all_more}
use Rattle.gix_object_tree.proofs.laws.entries_are_told_again.Goals as goal

pub loop-entry-preserved : goal.loop-entry-preserved
loop-entry-preserved g c =
    let item = g.T.AsEntry.item in
    let entries = c.args.entries.now in
    let x = c.entry-item.result in
    let at = c.loop-entry.entry-index in
    let within : at < length entries = omega arith in
    let long = map_length item entries in
    all_more IsToldAgain (map item entries) at (item x) (omega arith) (item_at item entries at x within c.entry-item.is) c.loop-entry.invariant
    (subst IsToldAgain c.as_entry.ensures c.entry_is_told_again.ensures)

pub returns : goal.returns
returns g c =
    let item = g.T.AsEntry.item in
    let entries = c.args.entries.now in
    let long = map_length item entries in
    subst (All IsToldAgain) (take_all c.loop-entry.entry-index (map item entries) (omega arith)) c.loop-entry.invariant
