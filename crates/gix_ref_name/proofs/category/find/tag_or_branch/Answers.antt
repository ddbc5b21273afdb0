use Rattle.gix_ref_name.proofs.category.find.tag_or_branch.Goals as goal

pub returns-in_err-short : goal.returns-in_err-short
returns-in_err-short c =
    rw c.from_residual.ensures (record { tag = c.in_default.ensures; local = c.in_default-strip_prefix.ensures; remote = c.in_err-short.ensures })
