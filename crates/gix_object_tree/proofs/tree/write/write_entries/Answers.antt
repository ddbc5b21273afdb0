use Rattle.std.proofs.Common.{sym, subst, map, take, drop, suc, length, ◌<◌, [], ◌∷◌, Err, arith}
use Rattle.std.proofs.lemmas.Result.{err_from_is_err_and}
use Rattle.gix_object_lines.specs.Writes.{Writes}
use Rattle.gix_object_tree.specs.Writing.{tree_text, tree_refusal}
use Rattle.gix_object_tree.proofs.Written.{cut_at, stops}
use Rattle.gix_object_tree.proofs.tree.write.write_entries.Goals as goal

pub returns-in_err-write_entry : goal.returns-in_err-write_entry
returns-in_err-write_entry g c =
    let p = err_from_is_err_and c.from_residual.result c.from_residual.ensures.1 in
    let item = g.T.AsEntry.item in
    let at = c.loop-entry.entry-index in
    let below : at < length c.args.entries.now = omega arith in
    let done = map item (take at c.args.entries.now) in
    let rest = map item (drop (suc at) c.args.entries.now) in
    let error = c.in_err-write_entry.field-0.0 in
    let stopped = subst (λ i. Writes {U = Unit {0}} (g.W.Write.contents c.loop-entry.out) (g.W.Write.contents c.write_entry.new.out) (tree_text (i ∷ [])) (tree_refusal (i ∷ [])) (Err error))
    c.as_entry.ensures c.in_err-write_entry.ensures in
    rw (p.1, p.2) (
    subst (λ items. Writes {U = Unit {0}} (g.W.Write.contents c.args.out.now) (g.W.Write.contents c.write_entry.new.out) (tree_text items) (tree_refusal items) (Err error))
    (sym (cut_at item c.args.entries.now at c.entry-item.result below c.entry-item.is))
    (stops _ _ _ done (item c.entry-item.result) rest error c.loop-entry.invariant.0 c.loop-entry.invariant.1 stopped)
    )
