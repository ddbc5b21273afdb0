use Rattle.std.proofs.Common.{◌≡◌, ◌∙◌, refl, subst, rules}
use Rattle.gix_object_signature.specs.Run.{Answers}
use Rattle.gix_object_signature.specs.Armor.{BeginsArmor}
use Rattle.gix_object_signature.specs.Verifying.{OtherFormat, Asked, VerifiesBy, format_of}
use Rattle.gix_object_signature.proofs.signed.SignedData.verify.Goals as goal

pub returns-then-not-takes-clause-told : goal.returns-then-not-takes-clause-told
returns-then-not-takes-clause-told g c =
    OtherFormat c.in-Some.format c.in-Some.ensures (λ same. let taken = c.takes.ensures.1 same in absurd cc) refl refl

pub returns-clause-told : goal.returns-clause-told
returns-clause-told g c =
    let same : c.in-Some.format ≡ format_of c.args.options.now = c.takes.ensures.0 (search rules) in
    Asked (subst (λ f. BeginsArmor c.args.signature.now f) same c.in-Some.ensures)
    (subst (λ bytes. VerifiesBy (Answers g.F.FnMut) c.args.runner.now bytes c.args.signature.now c.args.options.now c.ask.result c.ask.new.runner)
    (c.as_bytes.ensures ∙ c.in_ok-content.ensures) c.ask.ensures.told)
