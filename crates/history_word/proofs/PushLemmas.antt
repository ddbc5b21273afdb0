-- A list with one item more, if there was memory for them.
use Rattle.std.proofs.Common.{◌≡◌, List, [], ◌∷◌, ◌++◌, Option, Some, None, Vec, Global, sym, subst}
use Rattle.std.specs.Prelude.{IfSome, MatchOption}
use Rattle.std.specs.List.{AllZip}

push : {A B : Type 0} (P : A → B → Type 0) (own : List A) (done : List B) (x : A) (item : B) → AllZip P own done → P x item → AllZip P (own ++ x ∷ []) (done ++ item ∷ [])
push P [] [] x item h k = (k, tt)
push P [] (i ∷ done) x item h k = absurd h
push P (o ∷ own) [] x item h k = absurd h
push P (o ∷ own) (i ∷ done) x item h k = (h.0, push P own done x item h.1 k)

-- if P holds of the items of the old list and of the one more, it holds of those of the new list
pub pushed_zip : {A B : Type 0} (P : A → B → Type 0) (old all : Option (Vec A Global)) (x : Option A) (done : List B) (item : B)
    → IfSome all (λ now. MatchOption old ⊥ (λ own. MatchOption x ⊥ (λ it. now.items ≡ own.items ++ it ∷ [])))
    → IfSome old (λ own. AllZip P own.items done) → IfSome x (λ it. P it item) → IfSome all (λ own. AllZip P own.items (done ++ item ∷ []))
pushed_zip P old None x done item pushed h k = tt
pushed_zip P None (Some all) x done item pushed h k = absurd pushed
pushed_zip P (Some own) (Some all) None done item pushed h k = absurd pushed
pushed_zip P (Some own) (Some all) (Some it) done item pushed h k = subst (λ its. AllZip P its (done ++ item ∷ [])) (sym pushed) (push P own.items done it item h k)
