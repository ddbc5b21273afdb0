use Rattle.std.proofs.Common.{◌≡◌, ◌∙◌, ap, sym, subst, Some}
use Rattle.gix_object_signature.specs.SignedTime.{TimeWord}
use Rattle.gix_object_signature.specs.VerifyingSsh.{Timed, path_of}
use Rattle.gix_object_signature.proofs.verify.ssh.verify.Goals.{in-None, in-Some}
use Rattle.gix_object_signature.proofs.verify.ssh.verify.Goals as goal

pub returns-clause-told : goal.returns-clause-told
returns-clause-told g c =
    let same : path_of c.match-word.time ≡ c.in_ok-word.word =
    elim c.match-word.branch [
      | in-None w ↦ ap path_of w.time-is ∙ sym w.in-None.is
      | in-Some w ↦ ap path_of w.time-is ∙ ap Some w.new.ensures ∙ sym w.in-Some.is
    ] in
    Timed (path_of c.match-word.time) (subst (λ t. TimeWord c.args.content.now t) (sym same) c.in_ok-word.ensures.told) (rw c.new-2.ensures at c.ask.ensures.told)
