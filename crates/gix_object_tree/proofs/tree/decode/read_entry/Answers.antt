use Rattle.std.proofs.Common.{◌∙◌, ◌<◌, ◌∷◌, ◌++◌, ap, length, subst, rules}
use Rattle.gix_object_tree.specs.ModeText.{mode_of}
use Rattle.gix_object_tree.proofs.OneEntry.{bad_mode}
use Rattle.gix_object_tree.proofs.Spelled.{no_mode, no_end, no_id}
use Rattle.gix_object_tree.proofs.tree.decode.read_entry.Goals as goal

pub returns-in_err-mode-clause-every : goal.returns-in_err-mode-clause-every
returns-in_err-mode-clause-every c = λ item rest is.
    let cut = rw c.in_ok-text.ensures.ok_part at c.split_once.ensures in
    let none = rw c.in_err-mode.ensures.ok_part at c.read_mode.ensures in
    absurd (no_mode c.args.hash_kind c.args.input.now (bad_mode c.args.input.now c.in_ok-text.text.now c.in_ok-text.rest.now cut.0 cut.1 none) item rest is)

pub returns-in_err-mode-clause-refused : goal.returns-in_err-mode-clause-refused
returns-in_err-mode-clause-refused c =
    let cut = rw c.in_ok-text.ensures.ok_part at c.split_once.ensures in
    let none = rw c.in_err-mode.ensures.ok_part at c.read_mode.ensures in
    let lacks = bad_mode c.args.input.now c.in_ok-text.text.now c.in_ok-text.rest.now cut.0 cut.1 none in
    search rules

pub returns-in_err-filename-clause-every : goal.returns-in_err-filename-clause-every
returns-in_err-filename-clause-every c = λ item rest is.
    let cut = rw c.in_ok-text.ensures.ok_part at c.split_once.ensures in
    let spelled = rw c.in_ok-mode.ensures.ok_part at c.read_mode.ensures in
    let endless = rw c.in_err-filename.ensures.ok_part at c.split_once-2.ensures in
    absurd (no_end c.args.hash_kind c.args.input.now (record {
      text = c.in_ok-text.text.now;
      rest = c.in_ok-text.rest.now;
      mode = (mode_of c.in_ok-mode.mode, spelled);
      spelled = cut.0;
      endless = endless;
    }) item rest is)

pub returns-in_err-id-clause-every : goal.returns-in_err-id-clause-every
returns-in_err-id-clause-every c = λ item rest is.
    let cut = rw c.in_ok-text.ensures.ok_part at c.split_once.ensures in
    let spelled = rw c.in_ok-mode.ensures.ok_part at c.read_mode.ensures in
    let later = rw c.in_ok-filename.ensures.ok_part at c.split_once-2.ensures in
    let short = rw c.in_err-id.ensures.ok_part at c.split_at_checked.ensures.cases in
    absurd (no_id c.args.hash_kind c.args.input.now (record {
      text = c.in_ok-text.text.now;
      name = c.in_ok-filename.filename.now;
      rest = c.in_ok-filename.rest.now;
      mode = (mode_of c.in_ok-mode.mode, spelled);
      named = later.1;
      spelled = cut.0 ∙ ap (λ t. c.in_ok-text.text.now ++ 32 ∷ t) later.0;
      short = subst (λ n. length c.in_ok-filename.rest.now < n) c.len_in_bytes.ensures short;
    }) item rest is)
