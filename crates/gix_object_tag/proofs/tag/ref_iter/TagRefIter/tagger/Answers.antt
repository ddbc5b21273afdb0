use Rattle.std.proofs.Common.{ap, inl, subst, Some}
use Rattle.std.proofs.lemmas.Result.{err_from_is_err_and}
use Rattle.gix_object_tag.specs.ReadingOn.{tagger_told}
use Rattle.gix_object_tag.specs.Tokens.{GivesToken, part_of, place_of}
use Rattle.gix_object_tag.specs.Views.{tagger_of}
use Rattle.gix_object_tag.proofs.Readings.{tells_on, tells_one, no_tagger, no_tagger_at_fault}
use Rattle.gix_object_tag.proofs.tag.ref_iter.TagRefIter.tagger.Goals as goal

pub returns-in_err-tagger-clause-refused : goal.returns-in_err-tagger-clause-refused
returns-in_err-tagger-clause-refused c =
    let p = err_from_is_err_and c.from_residual.result c.from_residual.ensures.1 in
    let here = place_of c.tokens.tokens in
    let next = place_of c.next.new.self in
    let step = subst (λ given. GivesToken here (Some given) next) c.in_err-tagger.was c.in-Some.ensures.steps in
    rw (p.1, p.2) (no_tagger_at_fault (place_of c.args.self) here next c.in_err-tagger.field-0.0 c.tokens.invariant step)

pub returns-in-Tagger-clause-read : goal.returns-in-Tagger-clause-read
returns-in-Tagger-clause-read c =
    let here = place_of c.tokens.tokens in
    let next = place_of c.next.new.self in
    let token = c.in_ok-tagger.field-0 in
    let step = subst (λ given. GivesToken here (Some given) next) c.in_ok-tagger.was c.in-Some.ensures.steps in
    inl (tells_one tagger_told (place_of c.args.self) here next (part_of token) (tagger_of c.in-Tagger.tagger) c.tokens.invariant step (ap (λ t. tagger_told (part_of t)) c.in-Tagger.is))

pub tokens-preserved : goal.tokens-preserved
tokens-preserved c =
    let here = place_of c.tokens.tokens in
    let next = place_of c.next.new.self in
    let token = c.in_ok-tagger.field-0 in
    let step = subst (λ given. GivesToken here (Some given) next) c.in_ok-tagger.was c.in-Some.ensures.steps in
    tells_on tagger_told (place_of c.args.self) here next (part_of token) c.tokens.invariant step (no_tagger token c.in_default-2.not-Tagger)
