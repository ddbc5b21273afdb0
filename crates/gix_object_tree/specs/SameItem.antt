-- Entries that the order ties are one.
use Rattle.std.proofs.Common.{◌≡◌, ◌∙◌, ap, refl, sym, subst, ℕ, ◌<◌, Bool, true, false, List, Ordering}
use Rattle.std.specs.Prelude.{IsTrue}
use Rattle.std.specs.declared.cmp.Ordering.TheVariants.{Less, Equal, Greater}
use Rattle.std.specs.Ordering.{MatchOrdering, nat_cmp, bool_cmp, ordering_then, is_eq}
use Rattle.std.proofs.lemmas.Cmp.{tied_itself, ranked}
use Rattle.std.proofs.lemmas.Map.Text.{is_eq-slice_cmp}
use Rattle.std.proofs.lemmas.Slice.Eq.{bytes_eq-Decides}
use Rattle.gix_hash.specs.Id.{Id}
use Rattle.gix_hash.specs.Order.{digits_cmp, id_cmp}
use Rattle.gix_hash.specs.OrderLaws.{id_eq-same, id_tied}
use Rattle.gix_object_tree.specs.Entry.{Item}
use Rattle.gix_object_tree.specs.Order.{item_key, mode_cmp, item_cmp}
use Rattle.gix_object_tree.specs.OrderLaws.{item_total, item_eq}

-- what ties by one order and then another ties by both
both_tie : (a b : Ordering) → ordering_then a b ≡ Equal → (a ≡ Equal) × (b ≡ Equal)
both_tie Less b e = absurd cc
both_tie Equal b e = (refl, e)
both_tie Greater b e = absurd cc

tied_of : (o : Ordering) → IsTrue (is_eq o) → o ≡ Equal
tied_of Less e = absurd cc
tied_of Equal e = refl
tied_of Greater e = absurd cc

pub one_number : (a b : ℕ) → nat_cmp a b ≡ Equal → a ≡ b
one_number a b e =
    subst (λ o. MatchOrdering o (a < b) (a ≡ b) (b < a)) e (ranked a b (nat_cmp a b) refl)

one_bool : (a b : Bool) → bool_cmp a b ≡ Equal → a ≡ b
one_bool true true e = refl
one_bool false false e = refl
one_bool true false e = absurd cc
one_bool false true e = absurd cc

-- keys that tie are one
pub one_key : (a b : List ℕ) → digits_cmp a b ≡ Equal → a ≡ b
one_key a b e = (bytes_eq-Decides a b).0 (sym (is_eq-slice_cmp a b) ∙ ap is_eq e)

one_id : (a b : Id) → id_cmp a b ≡ Equal → a ≡ b
one_id a b e = id_eq-same a b (id_tied a b ∙ ap is_eq e)

pub one_item : (a b : Item) → IsTrue (item_eq a b) → a ≡ b
one_item a b e =
    let all =
    both_tie
    (ordering_then (ordering_then (digits_cmp (item_key a) (item_key b)) (mode_cmp a b))
    (digits_cmp a.name b.name)) (id_cmp a.id b.id) (tied_of (item_cmp a b) e) in
    let names =
    both_tie (ordering_then (digits_cmp (item_key a) (item_key b)) (mode_cmp a b))
    (digits_cmp a.name b.name) all.0 in
    let modes = both_tie (digits_cmp (item_key a) (item_key b)) (mode_cmp a b) names.0 in
    let parts =
    both_tie (nat_cmp a.mode.value b.mode.value)
    (bool_cmp a.mode.padded b.mode.padded) modes.1 in
    let value = one_number a.mode.value b.mode.value parts.0 in
    let padded = one_bool a.mode.padded b.mode.padded parts.1 in
    let name = one_key a.name b.name names.1 in
    let id = one_id a.id b.id all.1 in
    λ i. record { mode = record { value = value i; padded = padded i }; name = name i; id = id i }

pub item_itself : (a b : Item) → a ≡ b → IsTrue (item_eq a b)
item_itself a b e = subst (λ x. IsTrue (item_eq a x)) e (ap is_eq (tied_itself item_total a))
