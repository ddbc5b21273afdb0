use Rattle.std.proofs.Common.{◌≡◌, ◌∙◌, ◌++◌, ◌∷◌, ap, sym, not}
use Rattle.gix_ref_folder_tests.proofs.over_files.OverFiles.spot.Goals as goal

pub returns-in_default-clause-outside : goal.returns-in_default-clause-outside
returns-in_default-clause-outside g c path is =
    let none = rw c.in_default.is at c.below.ensures in
    none path (c.as_bytes-2.ensures.value ∙ is ∙ ap (λ r. r ++ 47 ∷ path) (sym c.as_bytes.ensures.value))

pub returns-then-has-clause-spot : goal.returns-then-has-clause-spot
returns-then-has-clause-spot g c =
    let below = rw c.in-Some.is at c.below.ensures in
    record {
      is = sym c.as_bytes-2.ensures.value ∙ below ∙ ap (λ r. r ++ 47 ∷ c.in-Some.path.now) c.as_bytes.ensures.value;
      own = sym c.has.ensures ∙ c.if-has.true;
    }

pub returns-clause-spot : goal.returns-clause-spot
returns-clause-spot g c =
    let below = rw c.in-Some.is at c.below.ensures in
    record {
      is = sym c.as_bytes-2.ensures.value ∙ below ∙ ap (λ r. r ++ 47 ∷ c.in-Some.path.now) c.as_bytes.ensures.value;
      own = ap not (sym c.has.ensures ∙ c.if-has.false);
    }
