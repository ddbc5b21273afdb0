use Rattle.std.proofs.Common.{◌∙◌, sym}
use Rattle.std.proofs.lemmas.Bool.{false≢true}
use Rattle.gix_ref_name.proofs.CategoryLemmas.{linked_none}
use Rattle.gix_ref_name.proofs.category.find.of_linked_worktree.Goals as goal

pub returns : goal.returns
returns c =
    linked_none c.args.name.now c.in_ok-rest.rest.now c.in_ok-worktree.worktree.now c.in_ok-worktree.short.now
    c.in_ok-rest.ensures c.in_ok-worktree.ensures.0 c.in_ok-worktree.ensures.1
    (λ h. false≢true (sym c.if-starts_with.false ∙ c.starts_with.ensures.1 h))
    (sym c.is_capitals.ensures.tested ∙ c.if-is_capitals.false)
