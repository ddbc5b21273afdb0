use Rattle.gix_ref_store.proofs.store.file.follow.+end_of.Given as goal

-- one name fewer may follow
abbrev pub decreases-end_of : goal.decreases-end_of
decreases-end_of g l = l.left
