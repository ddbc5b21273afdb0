use Rattle.std.proofs.Common.{◌≡◌, ◌∙◌, sym, false, rules}
use Rattle.std.proofs.lemmas.Result.{on_ok_weaker}
use Rattle.history_recovery.proofs.Folders.{kept_file}
use Rattle.history_recovery.proofs.Left.{without_leftover}
use Rattle.history_recovery.proofs.Recoveries.{while_file_goes, removed_kept, caused}
use Rattle.history_recovery.proofs.clearing.remove_leftover.Goals as goal

pub returns-then-not-branch-clause-kept : goal.returns-then-not-branch-clause-kept
returns-then-not-branch-clause-kept g c = λ kind honest is tells.
    let tree = (g.F.Files.history c.args.files.now).tree in
    let plain : c.in_ok-is_over.field-0 ≡ false = search rules in
    kept_file kind tree c.args.path.now (sym (c.in_ok-is_over.ensures.found kind honest tells) ∙ plain) is

pub returns-clause-clears : goal.returns-clause-clears
returns-clause-clears g c = λ kind is tells honest.
    let old = g.F.Files.history c.args.files.now in
    while_file_goes kind c.args.path.now old (g.F.Files.history c.remove_file.new.self)
    (λ may. without_leftover kind old.tree c.args.path.now is (sym (c.in_ok-is_over.ensures.found kind honest tells) ∙ c.if-not-branch.false))
    (c.remove_file.ensures.change honest).moments

pub returns-clause-kept : goal.returns-clause-kept
returns-clause-kept g c = λ kind honest is tells.
    on_ok_weaker c.remove_file.result (removed_kept kind (g.F.Files.history c.args.files.now).tree (g.F.Files.history c.remove_file.new.self).tree c.args.path.now)
    (c.remove_file.ensures.change honest).made

pub returns-clause-failed : goal.returns-clause-failed
returns-clause-failed g c = λ honest is failed. caused _ _ _ _ is (c.remove_file.ensures.cause honest) failed
