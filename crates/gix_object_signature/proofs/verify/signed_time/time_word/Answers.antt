use Rattle.std.proofs.Common.{◌≡◌, inl, inr, pos, refl, sym, ◌∙◌, ap, rules, Some, subst, to_z, of_z, w64}
use Rattle.gix_object_signature.specs.SignedTime.{IsStamp, IsStampable, NoSeconds, AtTime, TellsSeconds}
use Rattle.gix_object_signature.proofs.SignerLemmas.{no_time}
use Rattle.gix_object_signature.proofs.verify.signed_time.time_word.Goals as goal

pub returns-in_default-seconds_of-clause-refused : goal.returns-in_default-seconds_of-clause-refused
returns-in_default-seconds_of-clause-refused c =
    (refl, no_time c.args.content.now c.in-Some.line.now (sym c.in-Some.ensures) (λ seconds told either. c.in_default-seconds_of.ensures seconds told))

pub returns-then-seconds-eq0-clause-told : goal.returns-then-seconds-eq0-clause-told
returns-then-seconds-eq0-clause-told c =
    let seconds = c.in-Some-seconds_of.seconds in
    let stays : to_z w64 (of_z w64 seconds) ≡ seconds = search rules in
    let none : seconds ≡ pos 0 = sym stays ∙ ap (to_z w64) c.if-seconds-eq0.true in
    NoSeconds c.in-Some.line.now (sym c.in-Some.ensures) (subst (λ s. TellsSeconds c.in-Some.line.now s) none c.in-Some-seconds_of.ensures.0) refl

pub returns-then-not-is_stampable-clause-refused : goal.returns-then-not-is_stampable-clause-refused
returns-then-not-is_stampable-clause-refused c =
    let found = c.in-Some-seconds_of.seconds in
    let stays : to_z w64 (of_z w64 found) ≡ found = search rules in (
      refl,
      no_time c.args.content.now c.in-Some.line.now (sym c.in-Some.ensures) (λ seconds told either.
          let same : seconds ≡ found = c.in-Some-seconds_of.ensures.1 seconds told in
          elim either [
            | inl none ↦ c.if-seconds-eq0.false (ap (of_z w64) (sym same ∙ none))
            | inr stampable ↦ let may = c.is_stampable.ensures.1 (subst (λ s. IsStampable s) (same ∙ sym stays) stampable) in absurd cc
          ]),
    )

pub returns-clause-told : goal.returns-clause-told
returns-clause-told c =
    let seconds = c.in-Some-seconds_of.seconds in
    let stays : to_z w64 (of_z w64 seconds) ≡ seconds = search rules in
    let stampable = subst (λ s. IsStampable s) stays (c.is_stampable.ensures.0 (search rules)) in
    let stamp = c.word.ensures in
    AtTime c.in-Some.line.now (sym c.in-Some.ensures) seconds c.in-Some-seconds_of.ensures.0 stampable stamp.0 (subst (λ s. IsStamp stamp.0 s) stays stamp.1) (ap Some stamp.2)
