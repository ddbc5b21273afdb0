use Rattle.std.proofs.Common.{◌+◌, ℕ, [], sym, ◌∙◌, subst, get_or, take}
use Rattle.std.proofs.lemmas.Option.{slice_get-get_or}
use Rattle.gix_hash.specs.declared.object_id.ObjectId.{ObjectId}
use Rattle.gix_hash.specs.declared.object_id.ObjectId.TheVariants.{Sha1}
use Rattle.gix_traverse_graph.specs.Rows.{IsGreatest}
use Rattle.gix_traverse_graph.proofs.Lists.{contains_from_at}
use Rattle.gix_traverse_graph.proofs.RowLemmas.{greatest_push, once_from_numbers}
use Rattle.gix_traverse_graph.proofs.rows.Table.greatest.Goals as goal
use Rattle.gix_traverse_graph.proofs.rows.Table.greatest.Goals.{in-Some, in_default}

pub parents-preserved : goal.parents-preserved
parents-preserved c =
    let rows = c.args.self.now.rows.items in
    let ids = c.args.parents.now in
    let i = c.parents.parent-index in
    let p : ObjectId = get_or ids i (Sha1 []) in
    let here = slice_get-get_or ids i (Sha1 []) c.parents-test.true in
    elim c.match-row.branch [
      | in-Some w ↦ (
          let grown = greatest_push rows ids i c.parents.greatest p w.in-Some.row.now (once_from_numbers rows c.args.self.now.numbers c.requires.numbers) c.parents.invariant here w.in-Some.ensures.found.0 w.in-Some.ensures.found.1 in
          subst (λ (n : ℕ). IsGreatest rows (take (i + 1) ids) n) (sym (w.greatest-is ∙ w.max-greatest.ensures)) grown)
      | in_default w ↦ absurd (w.in_default.ensures.none (c.requires.rows p (contains_from_at ids i p here)))
    ]
