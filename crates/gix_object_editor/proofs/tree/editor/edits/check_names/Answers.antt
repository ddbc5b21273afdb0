use Rattle.std.proofs.Common.{◌≢◌, ◌∙◌, ◌<◌, sym, refl, arith, length, eq-eqb}
use Rattle.gix_object_editor.proofs.Edits.{empty_name, empty_of, full_names}
use Rattle.gix_object_nodes.proofs.Paths.{not_both}
use Rattle.gix_object_editor.proofs.tree.editor.edits.check_names.Goals as goal

pub returns-then-is_empty-2-clause-refused : goal.returns-then-is_empty-2-clause-refused
returns-then-is_empty-2-clause-refused c =
    let lt : c.loop-name.name-index < length c.args.path.now = omega arith in
    (refl, empty_name c.args.path.now c.loop-name.name-index _ lt (empty_of _ (sym c.is_empty-in-loop-name.ensures ∙ c.if-is_empty-2.true)))

pub returns-clause-ok : goal.returns-clause-ok
returns-clause-ok c =
    let some : length c.args.path.now ≢ 0 = λ e. not_both c.is_empty.result (c.is_empty.ensures ∙ eq-eqb (length c.args.path.now) 0 e) c.if-is_empty.false in
    full_names c.args.path.now some (λ k d lt. let less : k < c.loop-name.name-index = omega arith in c.loop-name.invariant k d less)
