use Rattle.history_actions.proofs.acting.act.Goals as goal

pub returns : goal.returns
returns g c = record {
  performed = c.perform-performed.result;
  performs = c.perform-performed.ensures;
  is_told = c.report.ensures.told;
  is_silent = c.report.ensures.silent;
  is_status = c.report.ensures.status;
}
