-- A map of what a function has at some keys.
use Rattle.std.proofs.Common.{◌≡◌, Bool, true, false, cond, ◌||◌, List, [], ◌∷◌, Option, Some, None, is_some, refl, sym, ◌∙◌, ap}
use Rattle.std.specs.List.{list_any}
use Rattle.std.specs.Ordering.{eq_by_cmp}
use Rattle.std.specs.FinMap.{FinMap, empty, insert, get, get-empty, get-insert}
use Rattle.std.proofs.lemmas.Cmp.{nat_list_cmp_total}
use Rattle.history_model.specs.Bytes.{Bytes, by_bytes}
use Rattle.history_model.proofs.PlaceLemmas.{one_text, same_key}

abbrev pub with_value : {X : Type 0} → Bytes → Option X → FinMap by_bytes X → FinMap by_bytes X
with_value key None map = map
with_value key (Some x) map = insert map key x

abbrev pub made : {X : Type 0} → (Bytes → Option X) → List Bytes → FinMap by_bytes X
made f [] = empty
made f (key ∷ keys) = with_value key (f key) (made f keys)

same_value : {X : Type 0} (f : Bytes → Option X) (q key : Bytes) → eq_by_cmp by_bytes q key ≡ true → f q ≡ f key
same_value f q key e = ap f (one_text q key (sym (same_key q key) ∙ e))

none_made : {X : Type 0} (f : Bytes → Option X) (q : Bytes) → f q ≡ None → (keys : List Bytes) → get (made f keys) q ≡ None
none_made f q none [] = get-empty by_bytes q
none_made {X = X} f q none (key ∷ keys) = by_value (f key) refl (none_made f q none keys)
  where
    by_value : (o : Option X) → f key ≡ o → get (made f keys) q ≡ None → get (with_value key o (made f keys)) q ≡ None
    by_value None is rest = rest
    by_value (Some x) is rest = get-insert nat_list_cmp_total (made f keys) key x q ∙ by_key (eq_by_cmp by_bytes q key) refl
      where
        by_key : (b : Bool) → eq_by_cmp by_bytes q key ≡ b → cond b (Some x) (get (made f keys) q) ≡ None
        by_key true same = let wrong : None ≡ Some x = sym none ∙ same_value f q key same ∙ is in absurd (cc wrong)
        by_key false apart = rest

some_made : {X : Type 0} (f : Bytes → Option X) (q : Bytes) (found : X) → f q ≡ Some found → (keys : List Bytes) → list_any (eq_by_cmp by_bytes q) keys ≡ true → get (made f keys) q ≡ Some found
some_made f q found is [] there = absurd (cc there)
some_made {X = X} f q found is (key ∷ keys) there = by_value (f key) refl (eq_by_cmp by_bytes q key) refl there (some_made f q found is keys)
  where
    by_value : (o : Option X) → f key ≡ o → (b : Bool) → eq_by_cmp by_bytes q key ≡ b → (b || list_any (eq_by_cmp by_bytes q) keys) ≡ true
        → (list_any (eq_by_cmp by_bytes q) keys ≡ true → get (made f keys) q ≡ Some found) → get (with_value key o (made f keys)) q ≡ Some found
    by_value None has true same there rest = let wrong : None ≡ Some found = sym has ∙ sym (same_value f q key same) ∙ is in absurd (cc wrong)
    by_value None has false apart there rest = rest there
    by_value (Some x) has true same there rest =
        get-insert nat_list_cmp_total (made f keys) key x q ∙ ap (λ b. cond b (Some x) (get (made f keys) q)) same
        ∙ sym has ∙ sym (same_value f q key same) ∙ is
    by_value (Some x) has false apart there rest =
        get-insert nat_list_cmp_total (made f keys) key x q ∙ ap (λ b. cond b (Some x) (get (made f keys) q)) apart ∙ rest there

-- It has just what the function has, if the function has nothing at other keys.
pub made_at : {X : Type 0} (f : Bytes → Option X) (keys : List Bytes) (q : Bytes) → (is_some (f q) ≡ true → list_any (eq_by_cmp by_bytes q) keys ≡ true) → get (made f keys) q ≡ f q
made_at {X = X} f keys q there = by_value (f q) refl
  where
    by_value : (o : Option X) → f q ≡ o → get (made f keys) q ≡ f q
    by_value None is = none_made f q is keys ∙ sym is
    by_value (Some x) is = some_made f q x is keys (there (ap is_some is)) ∙ sym is
