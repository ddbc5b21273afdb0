-- The worse of what came of giving two locks back.
use Rattle.std.proofs.Common.{◌≡◌, ◌≢◌, ◌⊎◌, inl, inr, refl, ◌∙◌, ap}
use Rattle.gix_ref_lock.specs.GivenBacks.{worse}
use Rattle.gix_ref_lock.specs.declared.lock.GivenBack.{GivenBack}
use Rattle.gix_ref_lock.specs.declared.lock.GivenBack.TheVariants.{Done, Memory, Failed}

pub both_done : (a b : GivenBack) → worse a b ≡ Done → (a ≡ Done) × (b ≡ Done)
both_done Done b is = (refl, is)
both_done Failed b is = cc
both_done Memory Done is = cc
both_done Memory Memory is = cc
both_done Memory Failed is = cc

pub one_failed : (a b : GivenBack) → worse a b ≡ Failed → (a ≡ Failed) ⊎ (b ≡ Failed)
one_failed Done b is = inr is
one_failed Failed b is = inl refl
one_failed Memory Done is = cc
one_failed Memory Memory is = cc
one_failed Memory Failed is = inr refl

fails_too : (a : GivenBack) → worse a Failed ≡ Failed
fails_too Done = refl
fails_too Memory = refl
fails_too Failed = refl

pub none_failed : (a b : GivenBack) → worse a b ≢ Failed → (a ≢ Failed) × (b ≢ Failed)
none_failed a b none = (λ is. none (ap (λ x. worse x b) is), λ is. none (ap (λ x. worse a x) is ∙ fails_too a))
