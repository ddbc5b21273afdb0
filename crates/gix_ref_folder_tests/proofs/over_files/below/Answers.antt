use Rattle.std.proofs.Common.{◌≡◌, ◌∙◌, ap, sym, ◌++◌, ◌∷◌, Some, None, Option, Bor, List, ℕ}
use Rattle.std.specs.Prelude.{◌≢◌, MatchOption}
use Rattle.std.proofs.lemmas.List.{append_cancel_left}
use Rattle.gix_ref_folder_tests.proofs.over_files.below.Goals as goal

pub returns-in_err-rest : goal.returns-in_err-rest
returns-in_err-rest c = rw c.from_residual.ensures (λ path is. c.in_err-rest.ensures (47 ∷ path) is)

-- what follows the root, and then the slash
stripped_both : (place root middle : List ℕ) (r : Option (Bor (List ℕ))) → place ≡ root ++ middle → MatchOption r ((path : List ℕ) → middle ≢ 47 ∷ path) (λ x. middle ≡ 47 ∷ x.now)
    → MatchOption r ((path : List ℕ) → place ≢ root ++ 47 ∷ path) (λ x. place ≡ root ++ 47 ∷ x.now)
stripped_both place root middle None front h = λ path is. h path (append_cancel_left root middle (47 ∷ path) (sym front ∙ is))
stripped_both place root middle (Some x) front h = front ∙ ap (λ m. root ++ m) h

pub returns : goal.returns
returns c = stripped_both c.args.place.now c.args.root.now c.in_ok-rest.rest.now c.strip_prefix-2.result c.in_ok-rest.ensures c.strip_prefix-2.ensures
