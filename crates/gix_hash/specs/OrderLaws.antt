-- The laws of the equality and order of ids, for every type whose values are ids or their
-- beginnings.
use Rattle.std.specs.Prelude.{ℕ, ◌≡◌, ◌&&◌, List, [], ◌∷◌, Some, IsTrue, Bool, nat_eq}
use Rattle.std.proofs.Common.{refl, sym, ap, ◌∙◌, arith, nat_cmp, eqb-true}
use Rattle.std.proofs.lemmas.Bool.{and_parts}
use Rattle.std.specs.Cmp.{IsTotalOrder, IsEquivalence, IsPartialEquivalence, IsPartialOrder, tied_then, partial_equiv_from_equiv, partial_order_from_agreeing_total}
use Rattle.std.specs.Ordering.{is_eq}
use Rattle.std.specs.Cmp.Lexicographic.{pointwise}
use Rattle.std.proofs.lemmas.Cmp.{nat_cmp_total, nat_eq_equiv, nat_list_cmp_total, nat_list_eq_equiv, on_total, then_total, on_equiv, and_equiv}
use Rattle.std.proofs.lemmas.Map.Text.{is_eq-slice_cmp}
use Rattle.std.proofs.lemmas.Slice.Eq.{bytes_eq-Decides}
use Rattle.std.proofs.lemmas.Bool.Decides.{nat_tests}
use Rattle.gix_hash.specs.declared.kind.Kind.{Kind}
use Rattle.gix_hash.specs.declared.kind.Kind.TheVariants.{Sha1, Sha256}
use Rattle.gix_hash.specs.Kind.{kind_number}
use Rattle.gix_hash.specs.Id.{Id}
use Rattle.gix_hash.specs.Order.{id_eq, id_cmp, digits_cmp}

-- the laws of the equality
pub id_equivalence : IsEquivalence id_eq
id_equivalence =
    and_equiv (on_equiv (λ (a : Id). kind_number a.kind) nat_eq_equiv)
    (on_equiv (λ (a : Id). a.digits) nat_list_eq_equiv)

-- the laws of the order
pub id_total : IsTotalOrder id_cmp
id_total =
    then_total (on_total (λ (a : Id). kind_number a.kind) nat_cmp_total)
    (on_total (λ (a : Id). a.digits) nat_list_cmp_total)

tied_numbers : (x y : ℕ) → nat_eq x y ≡ is_eq (nat_cmp x y)
tied_numbers x y = grind (arith, nat_tests)

-- the order ties exactly what is equal
pub id_tied : (a b : Id) → id_eq a b ≡ is_eq (id_cmp a b)
id_tied a b =
    ap (λ (t : Bool). t && pointwise nat_eq a.digits b.digits)
    (tied_numbers (kind_number a.kind) (kind_number b.kind))
    ∙ (ap (λ (t : Bool). is_eq (nat_cmp (kind_number a.kind) (kind_number b.kind)) && t)
    (sym (is_eq-slice_cmp a.digits b.digits))
    ∙ tied_then (nat_cmp (kind_number a.kind) (kind_number b.kind)) (digits_cmp a.digits b.digits))

module _ {K : Type 0} (id : K → Id) where
  -- the laws of `PartialEq`
  pub eq_laws : IsPartialEquivalence (λ (x y : K). id_eq (id x) (id y))
  eq_laws = partial_equiv_from_equiv (on_equiv id id_equivalence)

  -- the laws of `Eq`
  pub equivalence : IsEquivalence (λ (x y : K). id_eq (id x) (id y))
  equivalence = on_equiv id id_equivalence

  -- the laws of `Ord`
  pub total : IsTotalOrder (λ (x y : K). id_cmp (id x) (id y))
  total = on_total id id_total

  -- the laws of `PartialOrd`
  pub order_laws : IsPartialOrder (λ (x y : K). id_eq (id x) (id y))
      (λ (x y : K). Some (id_cmp (id x) (id y)))
  order_laws =
      partial_order_from_agreeing_total (λ (x y : K). id_cmp (id x) (id y)) (on_total id id_total)
      (λ x y. refl) (λ x y. id_tied (id x) (id y))

-- a kind is found by its number
pub kind_number-injective : (a b : Kind) → kind_number a ≡ kind_number b → a ≡ b
kind_number-injective Sha1 Sha1 e = refl
kind_number-injective Sha1 Sha256 e = absurd (omega arith)
kind_number-injective Sha256 Sha1 e = absurd (omega arith)
kind_number-injective Sha256 Sha256 e = refl

-- ids are found by kind and digits
pub same_id : (a b : Id) → a.kind ≡ b.kind → a.digits ≡ b.digits → a ≡ b
same_id a b kinds digits =
    let make : Kind → List ℕ → Id = λ kind ds. record { kind = kind; digits = ds } in
    ap (λ (k : Kind). make k a.digits) kinds ∙ ap (λ (ds : List ℕ). make b.kind ds) digits

-- ids that test as equal are one id
pub id_eq-same : (a b : Id) → IsTrue (id_eq a b) → a ≡ b
id_eq-same a b h =
    let parts =
    and_parts (nat_eq (kind_number a.kind) (kind_number b.kind))
    (pointwise nat_eq a.digits b.digits) h in
    let kinds =
    kind_number-injective a.kind b.kind
    (eqb-true (kind_number a.kind) (kind_number b.kind) parts.0) in
    let digits : a.digits ≡ b.digits = (bytes_eq-Decides a.digits b.digits).0 parts.1 in
    same_id a b kinds digits

-- one id tests as equal to itself
pub id_eq-itself : (a : Id) → IsTrue (id_eq a a)
id_eq-itself a = id_equivalence.refl a

-- equal values that one write feeds are fed alike
pub same_feed : {K : Type 0} (id : K → Id) (bytes : Id → List ℕ) (x y : K)
    → IsTrue (id_eq (id x) (id y))
    → ◌≡◌ {A = List (List ℕ)} (bytes (id x) ∷ []) (bytes (id y) ∷ [])
same_feed id bytes x y h =
    ap (λ (a : Id). let one : List (List ℕ) = bytes a ∷ [] in one) (id_eq-same (id x) (id y) h)
