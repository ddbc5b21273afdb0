use Rattle.gix_object_signature.proofs.verify.Options.ask.Goals as goal

pub returns-in-Ssh-clause-told : goal.returns-in-Ssh-clause-told
returns-in-Ssh-clause-told g c = rw c.in-Ssh.is c.verify.ensures.told
