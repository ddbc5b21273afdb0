use Rattle.history_actions.proofs.Looked.{by_name, no_back, no_front}
use Rattle.history_actions.proofs.looking.names_branch.Goals as goal

pub returns-in_default : goal.returns-in_default
returns-in_default c = no_front c.args.text.now c.in_default.ensures

pub returns-in_default-strip_suffix : goal.returns-in_default-strip_suffix
returns-in_default-strip_suffix c =
    no_back c.args.text.now c.in-Some.line.now c.in-Some.ensures c.in_default-strip_suffix.ensures

pub returns : goal.returns
returns c =
    by_name c.args.text.now c.in-Some.line.now c.in-Some-strip_suffix.branch.now c.is_branch.result
    c.in-Some.ensures c.in-Some-strip_suffix.ensures c.is_branch.ensures
