use Rattle.std.proofs.Common.{inl, inr, refl}
use Rattle.history_actions.proofs.recovering.recover_folder.Goals as goal

pub returns-in-Ok-clause-files : goal.returns-in-Ok-clause-files
returns-in-Ok-clause-files g c =
    inr (record { looked = c.in-Ok.ensures.own; restores = c.restore.ensures.files })

pub returns-in-Err-clause-files : goal.returns-in-Err-clause-files
returns-in-Err-clause-files g c = inl (record {
  cause = c.in-Err.cause;
  told = refl;
  same_objects = refl;
  same_names = refl;
  holds = c.in-Err.ensures.foreign;
})
