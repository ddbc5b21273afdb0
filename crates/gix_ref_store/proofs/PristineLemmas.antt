-- Listings in which nothing points anywhere.
use Rattle.std.proofs.Common.{◌≡◌, ◌∙◌, ◌⊎◌, inl, inr, sym, ap, subst, ℕ, Bool, true, false, List, [], ◌∷◌, Option, Some, None, refl, arith}
use Rattle.std.specs.Prelude.{◌↔◌, IsTrue, not, is_some}
use Rattle.std.specs.List.{Contains}
use Rattle.std.proofs.lemmas.List.Elements.{Contains-append_left, Contains-append_cases, Contains-append_right, Contains-push, Contains-push_cases}
use Rattle.gix_ref_file.specs.Tree.{Tree}
use Rattle.gix_ref_name.specs.Targets.{Points, ToName}
use Rattle.gix_ref_store.specs.RefStates.{RefState, Fault, Faulty, Stands, Met, state_among, packed_text_in}
use Rattle.gix_ref_store.specs.Finds.{met_of}
use Rattle.gix_ref_store.specs.Listings.{IsListing, all_names}
use Rattle.gix_ref_store.specs.Pristine.{SomeStands, IsPristine, head_in}
use Rattle.gix_ref_store.specs.Stores.{base_of}
use Rattle.gix_ref_store.specs.declared.store.file.Store.{Store}
use Rattle.gix_ref_store.specs.declared.reference.Reference.{Reference}

abbrev pub CantBeRead : RefState → Type 0
CantBeRead r = (why : Fault) × (r ≡ Faulty why)

-- what was passed by can't be read, and the rest is still to come
pub record Passed (out left : List Met) : Type 0 where
  pub gone : (met : Met) → Contains out met → Contains left met ⊎ CantBeRead met.ref_state
  pub here : (met : Met) → Contains left met → Contains out met

none_in : (met : Met) → Contains [] met → ⊥
none_in met (k, below, at) = omega (arith, below)

first_or : (first met : Met) (rest : List Met) → Contains (first ∷ rest) met → (first ≡ met) ⊎ Contains rest met
first_or first met rest is = by_case (Contains-append_cases (first ∷ []) rest met is)
  where
    at_first : Contains [] met ⊎ (first ≡ met) → (first ≡ met) ⊎ Contains rest met
    at_first (inl none) = absurd (none_in met none)
    at_first (inr same) = inl same

    by_case : Contains (first ∷ []) met ⊎ Contains rest met → (first ≡ met) ⊎ Contains rest met
    by_case (inl one) = at_first (Contains-push_cases [] first met one)
    by_case (inr later) = inr later

pub passed_on : (out left after : List Met) (name : List ℕ) (why : Fault) → Passed out left → left ≡ record { name = name; ref_state = Faulty why } ∷ after
    → Passed out after
passed_on out left after name why passed is = record {
  gone = λ met there. by_case met (passed.gone met there);
  here = λ met there. passed.here met (subst (λ (l : List Met). Contains l met) (sym is) (Contains-append_right (first ∷ []) after met there));
}
  where
    first : Met
    first = record { name = name; ref_state = Faulty why }

    by_first : (met : Met) → (first ≡ met) ⊎ Contains after met → Contains after met ⊎ CantBeRead met.ref_state
    by_first met (inl same) = inr (why, sym (ap (λ (m : Met). m.ref_state) same))
    by_first met (inr later) = inl later

    by_case : (met : Met) → Contains left met ⊎ CantBeRead met.ref_state → Contains after met ⊎ CantBeRead met.ref_state
    by_case met (inr faulty) = inr faulty
    by_case met (inl there) = by_first met (first_or first met after (subst (λ (l : List Met). Contains l met) is there))

-- a reference that is given exists
pub one_stands : (read : List ℕ → RefState) (asked : List ℕ → Bool) (out left after : List Met) (r : Reference) → IsListing read asked out → Passed out left → left ≡ met_of r ∷ after → SomeStands read asked
one_stands read asked out left after r listing passed is =
    let there = passed.here (met_of r) (subst (λ (l : List Met). Contains l (met_of r)) (sym is) (Contains-append_left (met_of r ∷ []) after (met_of r) (Contains-push [] (met_of r)))) in
    let each = (listing.each r.name (met_of r).ref_state).0 there in
    (r.name, _, _, each.0, each.1)

-- none exists if nothing is left
pub none_stands : (read : List ℕ → RefState) (asked : List ℕ → Bool) (out left : List Met) → IsListing read asked out → Passed out left → left ≡ [] → SomeStands read asked → ⊥
none_stands read asked out left listing passed none (name, points, peeled, so, reads) =
    by_case (passed.gone (record { name = name; ref_state = Stands points peeled }) ((listing.each name (Stands points peeled)).1 (so, reads, λ e. cc)))
  where
    by_case : Contains left (record { name = name; ref_state = Stands points peeled }) ⊎ CantBeRead (Stands points peeled) → ⊥
    by_case (inl there) = none_in (record { name = name; ref_state = Stands points peeled }) (subst (λ (l : List Met). Contains l (record { name = name; ref_state = Stands points peeled })) none there)
    by_case (inr (why, same)) = cc

-- ---- the whole answer
module _ {F : Type 0} (store : Store F) (tree : Tree) (branch : List ℕ) where
  never : (IsPristine store tree branch → ⊥) → IsTrue false ↔ IsPristine store tree branch
  never isnt = (λ so. let z : ⊥ = cc in absurd z, λ is. absurd (isnt is))

  none_packed : (text : Option (List ℕ)) → is_some text ≡ false → text ≡ None
  none_packed None h = refl
  none_packed (Some text) h = let z : ⊥ = cc in absurd z

  pub by_loose : (points : Points) (headed packed used : Bool) → head_in (base_of store) tree ≡ Stands points None → IsTrue headed ↔ (points ≡ ToName branch) → headed ≡ true → packed ≡ is_some (packed_text_in (base_of store) tree) → packed ≡ false
      → IsTrue used ↔ SomeStands (state_among (base_of store) tree []) (all_names store) → IsTrue (not used) ↔ IsPristine store tree branch
  by_loose points headed packed true is told so records none some = never (λ p. p.alone (some.0 refl))
  by_loose points headed packed false is told so records none some = (
    λ _. record {
      head = is ∙ ap (λ (q : Points). Stands q None) (told.0 so);
      unpacked = none_packed (packed_text_in (base_of store) tree) (sym records ∙ none);
      alone = λ there. let z : false ≡ true = some.1 there in let y : ⊥ = cc in y;
    },
    λ _. refl,
  )
