use Rattle.std.proofs.Common.{◌≡◌, ◌∙◌, sym, true, false, length, rules}
use Rattle.std.proofs.lemmas.Result.{on_ok_weaker}
use Rattle.history_recovery.proofs.Folders.{folder_goes, folder_may_go, plain_stays, filled_stays}
use Rattle.history_recovery.proofs.Below.{some_listed, none_listed}
use Rattle.history_recovery.proofs.Recoveries.{while_folder_goes, removed_kept, caused}
use Rattle.history_recovery.proofs.clearing.remove_deserted.Goals as goal

pub returns-then-not-may_be_deserted-clause-kept : goal.returns-then-not-may_be_deserted-clause-kept
returns-then-not-may_be_deserted-clause-kept g c = λ kind honest is below.
    let tree = (g.F.Files.history c.args.files.now).tree in
    let plain : c.may_be_deserted.result ≡ false = search rules in
    plain_stays kind tree c.args.folder.now is (sym c.may_be_deserted.ensures ∙ plain)

pub returns-then-not-is_empty-clause-kept : goal.returns-then-not-is_empty-clause-kept
returns-then-not-is_empty-clause-kept g c = λ kind honest is below.
    let tree = (g.F.Files.history c.args.files.now).tree in
    let named : c.may_be_deserted.result ≡ true = search rules in
    let listed = c.in_ok-list.ensures.names honest in
    let many : c.in_ok-list.field-0.len ≡ length c.in_ok-list.field-0.items = search rules in
    let filled = some_listed c.in_ok-list.field-0.items c.in_ok-list.field-0.len many (sym c.is_empty.ensures ∙ c.if-not-is_empty.true) in
    filled_stays kind tree c.args.folder.now _ (g.met.F.Files.rooted c.args.files.now honest) (sym c.may_be_deserted.ensures ∙ named) is listed filled below

pub returns-clause-clears : goal.returns-clause-clears
returns-clause-clears g c = λ kind honest.
    let old = g.F.Files.history c.args.files.now in
    let named : c.may_be_deserted.result ≡ true = search rules in
    while_folder_goes kind c.args.folder.now old (g.F.Files.history c.remove_empty_folder.new.self)
    (λ may. folder_goes kind old.tree c.args.folder.now (g.met.F.Files.rooted c.args.files.now honest) (sym c.may_be_deserted.ensures ∙ named) may)
    (c.remove_empty_folder.ensures.change honest).moments

pub returns-clause-kept : goal.returns-clause-kept
returns-clause-kept g c = λ kind honest is below.
    on_ok_weaker c.remove_empty_folder.result (removed_kept kind (g.F.Files.history c.args.files.now).tree (g.F.Files.history c.remove_empty_folder.new.self).tree c.args.folder.now)
    (c.remove_empty_folder.ensures.change honest).made

pub returns-clause-failed : goal.returns-clause-failed
returns-clause-failed g c = λ honest is failed.
    let tree = (g.F.Files.history c.args.files.now).tree in
    let named : c.may_be_deserted.result ≡ true = search rules in
    let nothing : c.is_empty.result ≡ true = search rules in
    let many : c.in_ok-list.field-0.len ≡ length c.in_ok-list.field-0.items = search rules in
    let none = none_listed c.in_ok-list.field-0.items c.in_ok-list.field-0.len many (sym c.is_empty.ensures ∙ nothing) in
    caused _ _ _ _ (folder_may_go tree c.args.folder.now (g.met.F.Files.rooted c.args.files.now honest) (sym c.may_be_deserted.ensures ∙ named) is (sym (c.in_ok-list.ensures.names honest) ∙ none))
    (c.remove_empty_folder.ensures.cause honest) failed
