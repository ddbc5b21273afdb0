use Rattle.std.proofs.Common.{ap, ◌∙◌, sym, Some}
use Rattle.std.specs.Prelude.{codes}
use Rattle.clap.specs.Words.{found_of, rows_of}
use Rattle.clap.proofs.WalkLemmas.{first_value-rows}
use Rattle.history_actions.specs.Line.{kind_by}
use Rattle.history_actions.proofs.Entered.{entered}
use Rattle.history_actions.proofs.Refused.{folderless}
use Rattle.history_actions.proofs.command_line.asked.read_given.Goals as goal

pub returns-in_default-get_str : goal.returns-in_default-get_str
returns-in_default-get_str c =
    let rows = rows_of (found_of c.in-Some.given.now) in
    let found = entered c.args.matches.now c.in-Some.name.now rows (sym c.in-Some.ensures.name) (sym c.in-Some.ensures.rows) in
    let folder = sym (first_value-rows (found_of c.in-Some.given.now) (codes "folder")) ∙ sym c.in_default-get_str.ensures in
    folderless _ c.in-Some.name.now rows _ found folder c.unasked-in_default-get_str.ensures

pub returns : goal.returns
returns c =
    let rows = rows_of (found_of c.in-Some.given.now) in
    rw (entered c.args.matches.now c.in-Some.name.now rows (sym c.in-Some.ensures.name) (sym c.in-Some.ensures.rows)) (record {
      action = c.in-Some-action_of.ensures;
      folder = sym (first_value-rows (found_of c.in-Some.given.now) (codes "folder")) ∙ sym c.in-Some-get_str.ensures ∙ ap Some (sym c.in_ok-from_str.ensures.ok);
      kind = c.kind_of_flag.ensures ∙ ap kind_by (c.get_str-2.ensures ∙ first_value-rows (found_of c.in-Some.given.now) (codes "sha256"));
    })
