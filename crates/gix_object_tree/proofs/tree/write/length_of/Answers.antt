use Rattle.std.proofs.Common.{subst, sym, map, take, drop, suc, length, ◌<◌, ◌≤◌, ◌+◌, arith}
use Rattle.gix_object_tree.specs.Writing.{entry_text, tree_text}
use Rattle.gix_object_tree.proofs.Written.{cut_at, length_more}
use Rattle.gix_object_tree.proofs.tree.write.length_of.Goals as goal

pub returns-in_err-total : goal.returns-in_err-total
returns-in_err-total g c =
    let item = g.T.AsEntry.item in
    let at = c.loop-entry.entry-index in
    let below : at < length c.args.entries.now = omega arith in
    let done = map item (take at c.args.entries.now) in
    let rest = map item (drop (suc at) c.args.entries.now) in
    let one = item c.entry-item.result in
    let whole : length (tree_text done) + length (entry_text one) ≤ length (tree_text (map item c.args.entries.now)) =
    subst (λ items. length (tree_text done) + length (entry_text one) ≤ length (tree_text items))
    (sym (cut_at item c.args.entries.now at c.entry-item.result below c.entry-item.is)) (length_more done one rest) in
    let past = subst (λ i. 18446744073709551616 ≤ c.loop-entry.total + length (entry_text i)) c.as_entry.ensures c.in_err-total.ensures in
    rw c.from_residual.ensures (omega (arith, c.loop-entry.invariant, whole, past))
