use Rattle.std.proofs.Common.{◌≡◌, ◌∙◌, ◌-◌, ap, true, false, length, take, drop, length-drop, arith, rules}
use Rattle.std.proofs.lemmas.List.{take_all}
use Rattle.history_model.specs.NameStates.{is_absent, name_state}
use Rattle.history_model.specs.Places.{is_lock_file, is_log_place}
use Rattle.history_recovery.proofs.Absences.{over_log, told_by}
use Rattle.history_recovery.proofs.packed.Packed.is_over.Goals as goal

pub returns-clause-found : goal.returns-clause-found
returns-clause-found g c = λ kind honest tells.
    let tree = (g.F.Files.history c.args.files.now).tree in
    let path = c.args.path.now in
    let lock : is_lock_file path ≡ false = search rules in
    let log : is_log_place path ≡ true = search rules in
    let name : take (length path - 5) (drop 5 path) ≡ drop 5 path = take_all (length path - 5) (drop 5 path) (omega (arith, length-drop 5 path)) in
    told_by c.is_absent.result _ _ (c.is_absent.ensures.found kind honest tells) (ap (λ n. is_absent (name_state kind tree n)) name ∙ over_log kind tree path lock log)
