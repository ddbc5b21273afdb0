use Rattle.std.proofs.Common.{◌∙◌, ◌++◌, ap, subst, sym}
use Rattle.gix_ref_file.specs.Tree.{bytes_at}
use Rattle.history_model.specs.Places.{head_place}
use Rattle.history_check_names.proofs.Sizes.{long_head}
use Rattle.history_actions.specs.Looking.{TellsHead}
use Rattle.history_actions.proofs.Looked.{bad_head, head_names, size_of, text_of}
use Rattle.history_actions.proofs.looking.look_at_head.Goals as goal

pub returns-then-len-gt-MAX_LOOSE-clause-wrong : goal.returns-then-len-gt-MAX_LOOSE-clause-wrong
returns-then-len-gt-MAX_LOOSE-clause-wrong g c = λ honest.
    let tree = (g.F.Files.history c.args.names.now).tree in
    long_head tree c.in-File.len (size_of tree head_place c.in-File.len (sym (c.in_ok-len.ensures.place honest) ∙ c.in-File.is)) c.if-len-gt-MAX_LOOSE.true

pub returns-then-not-names_branch-clause-wrong : goal.returns-then-not-names_branch-clause-wrong
returns-then-not-names_branch-clause-wrong g c = λ honest.
    let tree = (g.F.Files.history c.args.names.now).tree in
    let read = c.deref.ensures.value ∙ c.in_ok-read.ensures.bytes honest ∙ ap (λ before. before ++ bytes_at tree head_place) c.new-text.ensures.items in
    let stands = text_of tree head_place c.in-File.len c.deref.result.now (sym (c.in_ok-len.ensures.place honest) ∙ c.in-File.is) read in
    bad_head tree c.deref.result.now stands (subst (TellsHead c.deref.result.now) c.if-not-names_branch.true c.names_branch.ensures)

pub returns-clause-named : goal.returns-clause-named
returns-clause-named g c = λ honest.
    let tree = (g.F.Files.history c.args.names.now).tree in
    let read = c.deref.ensures.value ∙ c.in_ok-read.ensures.bytes honest ∙ ap (λ before. before ++ bytes_at tree head_place) c.new-text.ensures.items in
    let stands = text_of tree head_place c.in-File.len c.deref.result.now (sym (c.in_ok-len.ensures.place honest) ∙ c.in-File.is) read in
    head_names tree c.deref.result.now stands (subst (TellsHead c.deref.result.now) c.if-not-names_branch.false c.names_branch.ensures)
