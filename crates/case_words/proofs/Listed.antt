-- What a store finds is among its objects.
use Rattle.std.proofs.Common.{◌≡◌, sym, subst, refl, Bor, zero, suc, Bool, true, false, cond, List, [], ◌∷◌, Option, Some, None, arith}
use Rattle.std.specs.Prelude.{find, is_some, Contains}
use Rattle.std.specs.Option.{option_copied}
use Rattle.gix_hash.specs.Id.{Id, id_of}
use Rattle.gix_hash.specs.Order.{id_eq}
use Rattle.gix_hash.specs.OrderLaws.{id_eq-same, id_eq-itself}
use Rattle.case_words.specs.Store.{ids_of}
use Rattle.case_words.specs.declared.stored.Stored.{Stored}

not_same : (x y : Id) (v : Bool) → id_eq x y ≡ v → (x ≡ y → false ≡ true) → false ≡ v
not_same x y true told back = back (id_eq-same x y told)
not_same x y false told back = refl

-- a test of equality is the one of ids
pub same_test : (b : Bool) (x y : Id) → (b ≡ true → x ≡ y) → (x ≡ y → b ≡ true) → b ≡ id_eq x y
same_test true x y same back = sym (subst (λ z. id_eq x z ≡ true) (same refl) (id_eq-itself x))
same_test false x y same back = not_same x y (id_eq x y) refl back

later : (xs : List Id) (x id : Id) → Contains xs id → Contains (x ∷ xs) id
later xs x id is = (suc is.0, omega (arith, is.1), is.2)

module _ (id : Id) where
  abbrev has : Stored → Bool
  has stored = id_eq (id_of stored.id) id

  pub listed : (objects : List Stored) (found : Stored) → find has objects ≡ Some found → Contains (ids_of objects) id
  listed [] found is = cc
  listed (first ∷ rest) found is =
      let step : (b : Bool) → has first ≡ b → cond b (Some first) (find has rest) ≡ Some found → Contains (ids_of (first ∷ rest)) id = λ b told given.
      elim b as (λ v. has first ≡ v → cond v (Some first) (find has rest) ≡ Some found → Contains (ids_of (first ∷ rest)) id) [
        | true ↦ λ told given. (zero, omega arith, id_eq-same (id_of first.id) id told)
        | false ↦ λ told given. later (ids_of rest) (id_of first.id) id (listed rest found given)
      ] told given in
      step (has first) refl is

  pub listed_by : (objects : List Stored) (found : Option (Bor Stored)) → option_copied found ≡ find has objects → is_some found ≡ true → Contains (ids_of objects) id
  listed_by objects None is some = cc
  listed_by objects (Some found) is some = listed objects found.now (sym is)
