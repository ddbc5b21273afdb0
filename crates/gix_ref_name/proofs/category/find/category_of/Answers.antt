use Rattle.std.proofs.Common.{◌∙◌, sym}
use Rattle.gix_ref_name.proofs.CategoryLemmas.{category_none}
use Rattle.gix_ref_name.proofs.category.find.category_of.Goals as goal

pub returns : goal.returns
returns c =
    category_none c.args.name.now c.of_linked_worktree.result c.in_default.ensures c.in_default-note_or_private.ensures
    (sym c.is_capitals.ensures.tested ∙ c.if-is_capitals.false) c.in_default-of_main_worktree.ensures c.of_linked_worktree.ensures
