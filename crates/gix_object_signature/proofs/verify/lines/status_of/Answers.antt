use Rattle.std.proofs.Common.{◌≡◌, ◌∙◌, ap, sym, refl, List, [], ◌∷◌, fold}
use Rattle.std.specs.Prelude.{None, Some, unwrap_or}
use Rattle.std.specs.List.{filter_map}
use Rattle.gix_object_signature.specs.Status.{verdict_of, lines_of, or_error, told_by}
use Rattle.gix_object_signature.specs.declared.verify.Status.{Status}
use Rattle.gix_object_signature.specs.declared.verify.Status.TheVariants.{Error, Unknown}
use Rattle.gix_object_signature.proofs.verify.lines.status_of.Goals as goal

stays : (verdicts : List Status) → fold (λ seen verdict. Some (or_error seen verdict)) (Some Error) verdicts ≡ Some Error
stays [] = refl
stays (verdict ∷ more) = stays more

one_verdict : (verdicts : List Status) → unwrap_or (fold (λ seen verdict. Some (or_error seen verdict)) None verdicts) Unknown ≡ told_by verdicts
one_verdict [] = refl
one_verdict (verdict ∷ []) = refl
one_verdict (verdict ∷ other ∷ more) = ap (λ o. unwrap_or o Unknown) (stays more)

pub returns : goal.returns
returns c =
    let clear = sym c.tells_strange_trust.ensures ∙ c.if-tells_strange_trust.false in
    rw clear (c.unwrap_or.ensures ∙ ap (λ o. unwrap_or o Unknown) c.only_verdict.ensures ∙ one_verdict (filter_map verdict_of (lines_of c.args.text.now)))
