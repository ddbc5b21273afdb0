use Rattle.std.proofs.Common.{subst, rules}
use Rattle.std.specs.Prelude.{FitsSigned}
use Rattle.std.specs.Int.{w64, w32}
use Rattle.std.proofs.lemmas.Int.{to_z-of_z}
use Rattle.gix_object_lines.specs.Time.{SpellsSeconds, SpellsOffset}
use Rattle.gix_object_lines.proofs.TimeLemmas.{front_is, time_from_parts}
use Rattle.gix_object_lines.proofs.lines.time.parse.Goals as goal

pub returns-in_err-seconds : goal.returns-in_err-seconds
returns-in_err-seconds c = rw c.from_residual-in_err-seconds.ensures (λ time spells.
    let cut = front_is c.args.text.now time spells _ _ c.in_ok-front.ensures.0 c.in_ok-front.ensures.1 in
    c.in_err-seconds.ensures time.seconds spells.seconds_fit (subst (λ f. SpellsSeconds f time.seconds) cut.0 spells.seconds))

pub returns-in_err-offset : goal.returns-in_err-offset
returns-in_err-offset c = rw c.from_residual-in_err-offset.ensures (λ time spells.
    let cut = front_is c.args.text.now time spells _ _ c.in_ok-front.ensures.0 c.in_ok-front.ensures.1 in
    c.in_err-offset.ensures time.offset (subst (λ b. SpellsOffset b time.offset) cut.1 spells.offset))

pub returns : goal.returns
returns c =
    let y = c.in_ok-seconds.seconds in
    let z = c.in_ok-offset.offset in
    let fits : FitsSigned w64 y = search rules in
    let small : FitsSigned w32 z = search rules in
    time_from_parts c.args.text.now c.in_ok-front.front.now c.in_ok-front.back.now y _ z _ c.in_ok-front.ensures.0 (to_z-of_z w64 y fits) (to_z-of_z w32 z small) fits c.in_ok-seconds.ensures c.in_ok-offset.ensures
