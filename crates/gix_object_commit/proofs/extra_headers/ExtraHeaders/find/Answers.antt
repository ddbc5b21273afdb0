use Rattle.std.proofs.Common.{◌≡◌, subst, [], ◌∷◌}
use Rattle.std.specs.Prelude.{MatchOption}
use Rattle.bstr.specs.BStr.{bstr_bytes}
use Rattle.gix_object_commit.specs.HeaderViews.{headers_of, values_left}
use Rattle.gix_object_commit.proofs.NamedValues.{first_named}
use Rattle.gix_object_commit.proofs.extra_headers.ExtraHeaders.find.Goals as goal

pub returns : goal.returns
returns c =
    let more = values_left c.next.new.self in
    first_named c.args.name.now (headers_of c.args.self.now) c.next.result more (more ≡ [])
    (subst (λ values. MatchOption c.next.result ((values ≡ []) × (more ≡ [])) (λ value. values ≡ bstr_bytes value ∷ more)) c.find_all-values.ensures c.next.ensures.steps)
