-- The laws of the order of entries.
use Rattle.std.specs.Prelude.{Bool, Some}
use Rattle.std.specs.Cmp.{IsTotalOrder, IsEquivalence, IsPartialEquivalence, IsPartialOrder, partial_equiv_from_equiv, partial_order_from_total, eq_by_cmp_equiv, then_total, bool_cmp_total}
use Rattle.std.specs.Ordering.{eq_by_cmp}
use Rattle.std.proofs.lemmas.Cmp.{nat_cmp_total, nat_list_cmp_total, on_total}
use Rattle.gix_hash.specs.OrderLaws.{id_total}
use Rattle.gix_object_tree.specs.Entry.{Item}
use Rattle.gix_object_tree.specs.Order.{item_key, item_cmp}

pub item_total : IsTotalOrder item_cmp
item_total =
    then_total
    (then_total
    (then_total (on_total item_key nat_list_cmp_total)
    (then_total (on_total (λ (a : Item). a.mode.value) nat_cmp_total)
    (on_total (λ (a : Item). a.mode.padded) bool_cmp_total)))
    (on_total (λ (a : Item). a.name) nat_list_cmp_total))
    (on_total (λ (a : Item). a.id) id_total)

-- entries are equal if the order ties them
abbrev pub item_eq : Item → Item → Bool
item_eq = eq_by_cmp item_cmp

module _ {K : Type 0} (item : K → Item) where
  pub total : IsTotalOrder (λ (x y : K). item_cmp (item x) (item y))
  total = on_total item item_total

  pub equivalence : IsEquivalence (λ (x y : K). item_eq (item x) (item y))
  equivalence = eq_by_cmp_equiv total

  pub eq_laws : IsPartialEquivalence (λ (x y : K). item_eq (item x) (item y))
  eq_laws = partial_equiv_from_equiv equivalence

  pub order_laws : IsPartialOrder (λ (x y : K). item_eq (item x) (item y))
      (λ (x y : K). Some (item_cmp (item x) (item y)))
  order_laws = partial_order_from_total total
