use Rattle.std.proofs.Common.{◌≡◌, map}
use Rattle.clap.specs.Words.{app_of}
use Rattle.history_actions.specs.Line.{line}
use Rattle.history_actions.proofs.Refused.{entered_as, found_by, refused_by, taken_by, told}
use Rattle.history_actions.proofs.command_line.asked.read_words.Goals as goal

pub returns-in-Err : goal.returns-in-Err
returns-in-Err g c =
    let words = map g.S.AsStr.text c.args.words.now in
    told words c.in-Err.error c.refusal.result c.refusal.ensures
    (refused_by _ words c.in-Err.error c.in_ok-line.ensures.read c.in-Err.ensures.kinds)

pub returns : goal.returns
returns g c =
    let words = map g.S.AsStr.text c.args.words.now in
    let read : app_of c.in_ok-line.field-0 ≡ line = c.in_ok-line.ensures.read in
    entered_as words _ c.read_given.result (found_by _ words c.in-Ok.matches read c.in-Ok.ensures.matches)
    (taken_by _ words read c.in-Ok.ensures.kinds) c.read_given.ensures
