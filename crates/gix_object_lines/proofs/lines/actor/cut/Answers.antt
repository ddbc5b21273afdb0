use Rattle.std.proofs.Common.{◌∙◌, sym, subst, ◌∷◌, [], ◌++◌}
use Rattle.std.proofs.lemmas.Bool.{false≢true}
use Rattle.gix_object_lines.specs.Bytes.{Lacks}
use Rattle.gix_object_lines.proofs.CutLemmas.{lacks_it}
use Rattle.gix_object_lines.proofs.ActorLemmas.{shape, front_is, email_is, last_same, spelled_from, cut_named, first_of, rest_lacks}
use Rattle.gix_object_lines.proofs.lines.actor.cut.Goals as goal

pub returns-in_err-front : goal.returns-in_err-front
returns-in_err-front c = rw c.from_residual.ensures (λ name email rest is.
    lacks_it 60 c.args.line.now (name ++ 32 ∷ []) (email ++ 62 ∷ (32 ∷ rest)) (is.spelled ∙ shape name email rest) c.in_err-front.ensures)

pub returns-in_err-email : goal.returns-in_err-email
returns-in_err-email c = rw c.from_residual-in_err-email.ensures (λ name email rest is.
    lacks_it 62 _ email (32 ∷ rest) (front_is c.args.line.now name email rest is _ _ c.in_ok-front.ensures.0 c.in_ok-front.ensures.1).1 c.in_err-email.ensures)

pub returns-in_err-name : goal.returns-in_err-name
returns-in_err-name c = rw c.from_residual-in_err-name.ensures (λ name email rest is.
    c.in_err-name.ensures name (front_is c.args.line.now name email rest is _ _ c.in_ok-front.ensures.0 c.in_ok-front.ensures.1).0)

pub returns-in_err-time : goal.returns-in_err-time
returns-in_err-time c = rw c.from_residual-in_err-time.ensures (λ name email rest is.
    let front = front_is c.args.line.now name email rest is _ _ c.in_ok-front.ensures.0 c.in_ok-front.ensures.1 in
    c.in_err-time.ensures rest (email_is c.args.line.now name email rest is _ _ _ front.1 c.in_ok-email.ensures.0 c.in_ok-email.ensures.1).1)

pub returns-then-not-lacks : goal.returns-then-not-lacks
returns-then-not-lacks c = λ name email rest is.
    let front = front_is c.args.line.now name email rest is _ _ c.in_ok-front.ensures.0 c.in_ok-front.ensures.1 in
    let same = last_same name c.in_ok-name.name.now (sym front.0 ∙ c.in_ok-name.ensures) in
    false≢true (sym c.if-not-lacks.true ∙ c.lacks.ensures.1 (subst (Lacks 10) same is.name_in_line))

pub returns-then-not-lacks-2 : goal.returns-then-not-lacks-2
returns-then-not-lacks-2 c = λ name email rest is.
    let front = front_is c.args.line.now name email rest is _ _ c.in_ok-front.ensures.0 c.in_ok-front.ensures.1 in
    let mail = email_is c.args.line.now name email rest is _ _ _ front.1 c.in_ok-email.ensures.0 c.in_ok-email.ensures.1 in
    false≢true (sym c.if-not-lacks-2.true ∙ c.lacks-2.ensures.1 (subst (Lacks 10) (sym mail.0) is.email_in_line))

pub returns : goal.returns
returns c = cut_named c.args.line.now c.in_ok-name.name.now c.in_ok-email.email.now c.in_ok-time.time.now _ _ _ c.new.ensures c.new-2.ensures c.new-3.ensures (record {
  spelled = spelled_from c.args.line.now c.in_ok-front.front.now c.in_ok-name.name.now c.in_ok-front.rest.now c.in_ok-email.email.now c.in_ok-email.back.now c.in_ok-time.time.now c.in_ok-front.ensures.0 c.in_ok-name.ensures c.in_ok-email.ensures.0 c.in_ok-time.ensures;
  first = first_of c.in_ok-front.front.now c.in_ok-name.name.now c.in_ok-name.ensures c.in_ok-front.ensures.1;
  last = rest_lacks c.in_ok-email.back.now c.in_ok-time.time.now c.in_ok-time.ensures c.in_ok-email.ensures.1;
  name_in_line = c.lacks.ensures.0 c.if-not-lacks.false;
  email_in_line = c.lacks-2.ensures.0 c.if-not-lacks-2.false;
})
