use Rattle.gix_object_signature.proofs.sign.run_gpg.Goals as goal

pub returns-clause-asked : goal.returns-clause-asked
returns-clause-asked g c = rw c.new.ensures at (rw c.new-2.ensures at c.run.ensures.asked)
