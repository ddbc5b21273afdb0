use Rattle.std.proofs.Common.{◌≡◌, ◌∙◌, ap, refl, sym, subst, false, true, length}
use Rattle.gix_ref_file.specs.Tree.{bytes_at}
use Rattle.history_model.specs.Places.{log_name}
use Rattle.history_check_names.specs.Causes.{HasCause}
use Rattle.history_check_names.specs.Logs.{HasFault, IsFoundIn, SpellsLog}
use Rattle.history_check_names.specs.Packed.{has_name}
use Rattle.history_check_names.proofs.PackedReads.{absent_so}
use Rattle.history_check_names.proofs.Told.{log_sound, log_fault_causes}
use Rattle.history_check_names.proofs.file.test_log_file.Goals as goal

pub log_fault-requires : goal.log_fault-requires
log_fault-requires g c = λ honest. c.requires.size honest ∙ ap (λ p. length (bytes_at (g.F.Files.history c.args.files.now).tree p)) (sym c.deref-2.ensures.value)

pub returns-then-not-branch-clause-wrong : goal.returns-then-not-branch-clause-wrong
returns-then-not-branch-clause-wrong g c = λ facts honest there.
    let tree = (g.F.Files.history c.args.files.now).tree in
    let none : has_name c.args.kind tree (log_name c.args.path.items) ≡ false = ap (has_name c.args.kind tree) (sym (c.log_name.ensures ∙ ap log_name c.deref.ensures.value)) ∙ sym (c.in_ok-name_exists.ensures.found c.args.kind honest (c.requires.packed honest)) ∙ c.if-not-branch.true in
    (there, c.requires.place, absent_so c.args.kind tree (log_name c.args.path.items) (c.requires.packed honest).good none)

pub returns-in-None-clause-sound : goal.returns-in-None-clause-sound
returns-in-None-clause-sound g c = λ facts honest text at.
    let tree = (g.F.Files.history c.args.files.now).tree in
    let named : has_name c.args.kind tree (log_name c.args.path.items) ≡ true = ap (has_name c.args.kind tree) (sym (c.log_name.ensures ∙ ap log_name c.deref.ensures.value)) ∙ sym (c.in_ok-name_exists.ensures.found c.args.kind honest (c.requires.packed honest)) ∙ c.if-not-branch.false in
    let log = subst (IsFoundIn c.args.kind (bytes_at tree c.deref-2.result.now)) c.in-None.is (c.in_ok-log_fault.ensures.found honest) in
    log_sound c.args.kind facts tree c.args.path.items text (bytes_at tree c.args.path.items) c.requires.place named at refl
    (subst (λ p. SpellsLog c.args.kind (bytes_at tree p)) c.deref-2.ensures.value log)

pub returns-in-Some-clause-wrong : goal.returns-in-Some-clause-wrong
returns-in-Some-clause-wrong g c = λ facts honest there.
    let tree = (g.F.Files.history c.args.files.now).tree in
    let fault = subst (IsFoundIn c.args.kind (bytes_at tree c.deref-2.result.now)) c.in-Some.is (c.in_ok-log_fault.ensures.found honest) in
    subst (HasCause g.F.Files.reading_may_fail c.args.kind facts tree) (sym c.log_error.ensures)
    (log_fault_causes g.F.Files.reading_may_fail c.args.kind facts tree c.args.path (bytes_at tree c.args.path.items) c.in-Some.fault c.requires.place there refl
    (subst (λ p. HasFault c.args.kind (bytes_at tree p) c.in-Some.fault) c.deref-2.ensures.value fault))
