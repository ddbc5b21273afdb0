use Rattle.gix_ref_name.proofs.category.find.of_main_worktree.Goals as goal

pub returns-in_err-short : goal.returns-in_err-short
returns-in_err-short c =
    rw c.from_residual.ensures (record { pseudo = λ short tells. c.in_err-short.ensures short tells.0; refs = λ short tells. c.in_err-short.ensures short tells.0 })
