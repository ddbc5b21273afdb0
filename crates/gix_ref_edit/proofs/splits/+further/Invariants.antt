use Rattle.gix_ref_edit.proofs.splits.+further.Given as goal

-- one round fewer is left
abbrev pub decreases-further : goal.decreases-further
decreases-further g l = l.rounds
