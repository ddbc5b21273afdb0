use Rattle.std.proofs.Common.{◌≡◌, true, false, Err, sym, subst, ◌∙◌, ap}
use Rattle.history_model.specs.declared.Fault.TheVariants.{File}
use Rattle.history_model.specs.Stops as stops
use Rattle.history_repository.specs.Face.{has_failed, KeepsAllButRows}
use Rattle.history_repository.specs.Faults.{IsRefusal}
use Rattle.history.specs.Calls.{KeepsBoth}
use Rattle.history.specs.Replies.{is_fault}
use Rattle.history.specs.declared.reply.Reply.TheVariants.{Fault}
use Rattle.history_word.specs.Commands.{is_received_changing}
use Rattle.history_word.proofs.Changing.{received_changes}
use Rattle.history.proofs.Acted.{text_acted, refusal_acted, fault_acted, failed_so}
use Rattle.history.proofs.Counts.{more_both}
use Rattle.history.proofs.act.answer.Goals as goal
use Rattle.history.proofs.act.answer.Given as Given
use Rattle.history.proofs.act.answer.Goals.{in-Ok, in-Err-Refused, in-Err-Fault, else-is_changing-via-then-is_changing+else-is_fault, else-is_changing-via-else-is_changing}

pub returns-then-is_fault-clause-acted : goal.returns-then-is_fault-clause-acted
returns-then-is_fault-clause-acted g c = rw (← c.repository.view_is) (λ r sent unfailed asked.
    let stands = asked.serves in
    let reads = asked.reads in
    let faulted : is_fault c.match-act.reply ≡ true = sym c.is_fault.ensures ∙ c.if-is_fault.true in
    let changing = sym c.if-is_changing.true ∙ c.is_changing-is_changing.ensures.same ∙ received_changes c.args.received sent reads in
    elim c.match-act.branch [
      | in-Ok w ↦ absurd (cc (faulted, ap is_fault w.reply-is))
      | in-Err-Refused w ↦ absurd (cc (faulted, ap is_fault w.reply-is))
      | in-Err-Fault w ↦ failed_so _ _ _ _ _ _ _ _ _ _ r sent c.match-act.reply (fault_acted g.F.Files c.repository.inside.state c.act.new.repository r sent c.act.result (c.act.ensures.acts r sent asked) _ c.act.ensures.keeps
          w.in-Err-Fault.fault c.match-act.reply true (w.in-Err-Fault.is ∙ ap Err w.in-Err-Fault.field-0-is) w.reply-is changing
          (λ other told. other (cc (told, w.in-Err-Fault.is, w.in-Err-Fault.field-0-is))) (λ none. absurd (cc (changing, none))) (c.act.ensures.rows r sent asked) stands)
    ])

-- if no mark is made, the repository is as `act` left it
kept_else : (g : Given.Over) (c : goal.Joined-else-is_changing g) → c.else-is_changing.repository ≡ c.act.new.repository
kept_else g c = elim c.else-is_changing.branch [
  | else-is_changing-via-then-is_changing+else-is_fault v ↦ v.repository-is
  | else-is_changing-via-else-is_changing v ↦ v.repository-is
]

pub returns-else-is_changing-clause-acted : goal.returns-else-is_changing-clause-acted
returns-else-is_changing-clause-acted g c = rw (← c.repository.view_is, kept_else g c) (λ r sent unfailed asked.
    let stands = asked.serves in
    let reads = asked.reads in
    let acts = c.act.ensures.acts r sent asked in
    let same : has_failed c.act.new.repository ≡ false = c.act.ensures.failed ∙ unfailed in
    let kept : stops.is_changing sent ≡ false → KeepsAllButRows c.repository.inside.state c.act.new.repository = λ n. c.act.ensures.reads (received_changes c.args.received sent reads ∙ n) in
    let rows = c.act.ensures.rows r sent asked in
    let told : is_received_changing c.args.received ≡ false → stops.is_changing sent ≡ false = λ n. sym (received_changes c.args.received sent reads) ∙ n in
    elim c.match-act.branch [
      | in-Ok w ↦ text_acted g.F.Files c.repository.inside.state c.act.new.repository r sent c.act.result acts _ c.act.ensures.keeps
          w.in-Ok.text c.match-act.reply _ w.in-Ok.is w.reply-is same (λ told. absurd (cc (told, w.in-Ok.is))) kept rows
      | in-Err-Refused w ↦ refusal_acted g.F.Files c.repository.inside.state c.act.new.repository r sent c.act.result acts _ c.act.ensures.keeps
          w.in-Err-Refused.cause c.match-act.reply _ (w.in-Err-Refused.is ∙ ap Err w.in-Err-Refused.field-0-is) w.reply-is same
          (w.in-Err-Refused.ensures.refused (subst IsRefusal (sym w.in-Err-Refused.field-0-is) tt)) rows stands
      | in-Err-Fault w ↦
          let unchanging : is_received_changing c.args.received ≡ false = elim c.else-is_changing.branch [
            | else-is_changing-via-then-is_changing+else-is_fault v ↦ absurd (cc (v.is_fault.ensures, v.if-is_fault.false, ap is_fault w.reply-is))
            | else-is_changing-via-else-is_changing v ↦ sym c.is_changing-is_changing.ensures.same ∙ v.if-is_changing.false
          ] in
          fault_acted g.F.Files c.repository.inside.state c.act.new.repository r sent c.act.result acts _ c.act.ensures.keeps
          w.in-Err-Fault.fault c.match-act.reply (has_failed c.act.new.repository) (w.in-Err-Fault.is ∙ ap Err w.in-Err-Fault.field-0-is) w.reply-is (same ∙ sym (told unchanging))
          (λ other so. other (cc (so, w.in-Err-Fault.is, w.in-Err-Fault.field-0-is))) (λ n. w.in-Err-Fault.ensures.unread (received_changes c.args.received sent reads ∙ n)) rows stands
    ])

pub returns-then-is_fault-clause-later : goal.returns-then-is_fault-clause-later
returns-then-is_fault-clause-later g c = rw (← c.repository.view_is) (λ r sent asked. (c.act.ensures.acts r sent asked).later)

pub returns-else-is_changing-clause-later : goal.returns-else-is_changing-clause-later
returns-else-is_changing-clause-later g c = rw (← c.repository.view_is, kept_else g c) (λ r sent asked. (c.act.ensures.acts r sent asked).later)

pub returns-then-is_fault-clause-keeps : goal.returns-then-is_fault-clause-keeps
returns-then-is_fault-clause-keeps g c = rw (← c.repository.view_is) (
    let keeps : KeepsBoth g.F.Files (c.match-act.reply ≡ Fault File) c.repository.inside.state c.act.new.repository = more_both g.F.Files _ _ c.repository.inside.state c.act.new.repository c.act.ensures.keeps (λ told. elim c.match-act.branch [
      | in-Ok w ↦ absurd (cc (told, w.in-Ok.is))
      | in-Err-Refused w ↦ absurd (cc (told, w.in-Err-Refused.is, w.in-Err-Refused.field-0-is))
      | in-Err-Fault w ↦ cc (told, w.in-Err-Fault.is, w.in-Err-Fault.field-0-is, w.reply-is)
    ]) in
    record { objects = keeps.objects; names = keeps.names })

pub returns-else-is_changing-clause-keeps : goal.returns-else-is_changing-clause-keeps
returns-else-is_changing-clause-keeps g c = rw (← c.repository.view_is, kept_else g c) (
    more_both g.F.Files _ _ c.repository.inside.state c.act.new.repository c.act.ensures.keeps (λ told. elim c.match-act.branch [
      | in-Ok w ↦ absurd (cc (told, w.in-Ok.is))
      | in-Err-Refused w ↦ absurd (cc (told, w.in-Err-Refused.is, w.in-Err-Refused.field-0-is))
      | in-Err-Fault w ↦ cc (told, w.in-Err-Fault.is, w.in-Err-Fault.field-0-is, w.reply-is)
    ]))
