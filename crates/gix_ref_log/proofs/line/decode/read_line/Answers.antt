use Rattle.std.proofs.Common.{◌∙◌, sym, subst}
use Rattle.std.proofs.lemmas.Bool.{false≢true}
use Rattle.gix_object_lines.specs.Actor.{SpellsActor}
use Rattle.gix_object_lines.specs.Bytes.{Lacks}
use Rattle.gix_ref_log.specs.LogCuts.{IsIdsCut}
use Rattle.gix_ref_log.proofs.LogLineLemmas.{cuts_of, ids_cut, ids_of, not_none}
use Rattle.gix_ref_log.proofs.line.decode.read_line.Goals as goal

pub returns-then-not-lacks : goal.returns-then-not-lacks
returns-then-not-lacks c = λ parts is.
    let cut = cuts_of c.args.line.now _ _ parts c.cut_message.ensures is in
    false≢true (sym c.if-not-lacks.true ∙ c.lacks.ensures.1 (subst (Lacks 10) (sym cut.1) is.message_in_line))

pub returns-in_err-previous_oid : goal.returns-in_err-previous_oid
returns-in_err-previous_oid c = rw c.from_residual.ensures (λ parts is.
    let cut = cuts_of c.args.line.now _ _ parts c.cut_message.ensures is in
    c.in_err-previous_oid.ensures parts.before parts.after is.actor (subst (λ f. IsIdsCut f parts.before parts.after is.actor) (sym cut.0) (ids_cut c.args.line.now parts is)))

pub returns-in_err-signature : goal.returns-in_err-signature
returns-in_err-signature c = rw c.from_residual-in_err-signature.ensures (λ parts is.
    let ids = ids_of c.args.line.now _ _ _ _ _ parts c.cut_message.ensures c.in_ok-previous_oid.ensures is in
    let read = c.read_actor.ensures.every parts.name parts.email parts.time (subst (λ x. SpellsActor x parts.name parts.email parts.time) (sym ids.1.1) is.actor_spelled) in
    not_none c.read_actor.result _ read (sym c.in_err-signature.ensures.value))
