-- The names that a walk and records bring are all that exist.
use Rattle.std.proofs.Common.{◌≡◌, ◌⊎◌, inl, inr, ℕ, Bool, true, false, cond, ◌&&◌, ◌||◌, List, [], ◌∷◌, ◌++◌, Some, refl, sym, ◌∙◌, ap, subst, append_assoc}
use Rattle.std.specs.Prelude.{IsTrue, IsSome, codes, drop, bytes_eq, Result, Ok, Err, OnOk}
use Rattle.gix_object_lines.specs.NameTest.{begins, ends, is_capitals}
use Rattle.gix_object_lines.proofs.NameTests.{begins-Decides}
use Rattle.gix_ref_file.specs.Tree.{Tree, under}
use Rattle.gix_ref_file.specs.Changes.{is_file_at}
use Rattle.gix_ref_format.specs.Lookup.{is_own, behind_slash}
use Rattle.gix_ref_store.specs.Places.{Base, place, place_in, main_home, linked_home, shared_home}
use Rattle.gix_ref_store.specs.Listings.{is_pseudo}
use Rattle.gix_ref_store.specs.Walks.{has, Keeps, Gathers, GathersBelow, GathersPlaces, GathersRecords}
use Rattle.gix_ref_store.proofs.WalkSteps.{HasFront}
use Rattle.std.specs.List.{filter}
use Rattle.std.proofs.lemmas.Slice.Eq.{bytes_eq-Decides}
use Rattle.gix_ref_format.specs.Packed.{Record}
use Rattle.gix_ref_format.specs.PackedBuffer.{hit}
use Rattle.std.proofs.lemmas.Bool.{and_parts}

-- ---- all names in a folder
pub gathers_all : (tree : Tree) (base : List ℕ) (asked : List ℕ → Bool) (folder : List ℕ) (names : List (List ℕ)) → HasFront (folder ++ 47 ∷ []) asked → GathersBelow tree base asked folder names → Gathers tree base asked names
gathers_all tree base asked folder names front gathers name it =
    let b = (begins-Decides (folder ++ 47 ∷ []) name).0 (front name it.asked_for) in
    gathers name b.0 (ap (under base) (b.1 ∙ append_assoc folder (47 ∷ []) b.0) ∙ at_base base b.0) it
  where
    at_base : (base rest : List ℕ) → under base (folder ++ 47 ∷ rest) ≡ under base folder ++ 47 ∷ rest
    at_base [] rest = refl
    at_base (x ∷ base) rest = sym (append_assoc (x ∷ base) (47 ∷ folder) (47 ∷ rest))

-- the place of a name below `refs/`
place_refs : (b : Base) (rest : List ℕ) → (place b (codes "refs/" ++ rest) ≡ under b.git (codes "refs/" ++ rest)) ⊎ (place b (codes "refs/" ++ rest) ≡ under b.common (codes "refs/" ++ rest))
place_refs b rest = by_case (is_own (codes "refs/" ++ rest)) refl
  where
    by_case : (own : Bool) → is_own (codes "refs/" ++ rest) ≡ own → (place b (codes "refs/" ++ rest) ≡ under b.git (codes "refs/" ++ rest)) ⊎ (place b (codes "refs/" ++ rest) ≡ under b.common (codes "refs/" ++ rest))
    by_case true is = inl (ap (λ own. place_in (cond own (record { folder = b.git; path = codes "refs/" ++ rest }) (shared_home b (codes "refs/" ++ rest)))) is)
    by_case false is = inr (ap (λ own. place_in (cond own (record { folder = b.git; path = codes "refs/" ++ rest }) (shared_home b (codes "refs/" ++ rest)))) is)

-- the names with files below the worktree's own folder and below the shared one
pub both_places : (b : Base) (tree : Tree) (asked : List ℕ → Bool) (names : List (List ℕ)) → HasFront (codes "refs/") asked → Gathers tree b.git asked names → Gathers tree b.common asked names → GathersPlaces b tree asked names
both_places b tree asked names refs own shared name file full so =
    let r = (begins-Decides (codes "refs/") name).0 (refs name so) in
    by_case r.0 r.1 (place_refs b r.0)
  where
    by_case : (rest : List ℕ) → name ≡ codes "refs/" ++ rest
        → (place b (codes "refs/" ++ rest) ≡ under b.git (codes "refs/" ++ rest)) ⊎ (place b (codes "refs/" ++ rest) ≡ under b.common (codes "refs/" ++ rest)) → IsTrue (has names name)
    by_case rest is (inl at) = own name (record { file = subst (λ p. IsTrue (is_file_at tree p)) (ap (place b) is ∙ at ∙ ap (under b.git) (sym is)) file; full = full; asked_for = so })
    by_case rest is (inr at) = shared name (record { file = subst (λ p. IsTrue (is_file_at tree p)) (ap (place b) is ∙ at ∙ ap (under b.common) (sym is)) file; full = full; asked_for = so })

pub still_all : (tree : Tree) (base : List ℕ) (asked : List ℕ → Bool) (old new : List (List ℕ)) → Keeps old new → Gathers tree base asked old → Gathers tree base asked new
still_all tree base asked old new keeps gathers name it = keeps name (gathers name it)

-- pseudo references are in the worktree's own folder
pub own_places : (b : Base) (tree : Tree) (names : List (List ℕ)) → Gathers tree b.git is_pseudo names → GathersPlaces b tree is_pseudo names
own_places b tree names own name file full asked =
    own name (record { file = subst (λ p. IsTrue (is_file_at tree p)) (at_own (is_capitals name) refl (and_parts (is_capitals name) (ends (codes "HEAD") name) asked).0) file; full = full; asked_for = asked })
  where
    at_own : (c : Bool) → is_capitals name ≡ c → c ≡ true → place b name ≡ under b.git name
    at_own c is so =
        ap (λ own. place_in (cond own (record { folder = b.git; path = name }) (cond (begins (codes "main-worktree/") name) (main_home b name (drop 14 name)) (cond (begins (codes "worktrees/") name) (linked_home b name (behind_slash (drop 10 name))) (shared_home b name)))))
        (ap (λ c. c || begins (codes "refs/bisect/") name || begins (codes "refs/rewritten/") name || begins (codes "refs/worktree/") name) (is ∙ so))

pub on_ok : {T E : Type 0} (r : Result T E) (A B : Type 0) → (A → B) → OnOk r A → OnOk r B
on_ok (Ok x) A B f h = f h
on_ok (Err e) A B f h = h

-- ---- records
module _ (r : Record) (rest : List Record) (name : List ℕ) where
  pub hit_first : IsSome (hit (r ∷ rest) name) → (r.name ≡ name) ⊎ IsSome (hit rest name)
  hit_first is = by_case (bytes_eq r.name name) refl is
    where
      by_case : (b : Bool) → bytes_eq r.name name ≡ b → IsSome (cond b (Some r) (hit rest name)) → (r.name ≡ name) ⊎ IsSome (hit rest name)
      by_case true same h = inl ((bytes_eq-Decides r.name name).0 same)
      by_case false apart h = inr h

  pub hit_later : IsSome (hit rest name) → IsSome (hit (r ∷ rest) name)
  hit_later is = by_case (bytes_eq r.name name)
    where
      by_case : (b : Bool) → IsSome (cond b (Some r) (hit rest name))
      by_case true = refl
      by_case false = is

  pub hit_here : r.name ≡ name → IsSome (hit (r ∷ rest) name)
  hit_here same = by_case (bytes_eq r.name name) ((bytes_eq-Decides r.name name).1 same)
    where
      by_case : (b : Bool) → b ≡ true → IsSome (cond b (Some r) (hit rest name))
      by_case true h = refl
      by_case false h = cc

pub hit_prefixed : (front : List ℕ) (records : List Record) (name : List ℕ) → IsTrue (begins front name) → IsSome (hit records name) → IsSome (hit (filter (λ r. begins front r.name) records) name)
hit_prefixed front [] name so is = is
hit_prefixed front (r ∷ rest) name so is = by_first (hit_first r rest name is) (begins front r.name) refl (hit_prefixed front rest name so)
  where
    by_first : (r.name ≡ name) ⊎ IsSome (hit rest name) → (b : Bool) → begins front r.name ≡ b → (IsSome (hit rest name) → IsSome (hit (filter (λ r. begins front r.name) rest) name))
        → IsSome (hit (cond b (r ∷ filter (λ r. begins front r.name) rest) (filter (λ r. begins front r.name) rest)) name)
    by_first (inl same) true here later = hit_here r (filter (λ r. begins front r.name) rest) name same
    by_first (inl same) false here later = absurd (cc (sym here ∙ ap (begins front) same ∙ so))
    by_first (inr there) true here later = hit_later r (filter (λ r. begins front r.name) rest) name (later there)
    by_first (inr there) false here later = later there

abbrev pub IsComing : List Record → List Record → (List ℕ → Bool) → List (List ℕ) → Type 0
IsComing all left asked names = (name : List ℕ) → IsSome (hit all name) → IsTrue (asked name) → IsSome (hit left name) ⊎ IsTrue (has names name)

pub all_coming : (all : List Record) (asked : List ℕ → Bool) (names : List (List ℕ)) → IsComing all all asked names
all_coming all asked names name is so = inl is

pub one_came : (all before left : List Record) (r : Record) (asked : List ℕ → Bool) (old new : List (List ℕ)) → before ≡ r ∷ left → Keeps old new → (IsTrue (asked r.name) → IsTrue (has new r.name))
    → IsComing all before asked old → IsComing all left asked new
one_came all before left r asked old new is keeps there coming name in_all so = by_case (coming name in_all so)
  where
    by_first : (r.name ≡ name) ⊎ IsSome (hit left name) → IsSome (hit left name) ⊎ IsTrue (has new name)
    by_first (inl same) = inr (subst (λ n. IsTrue (has new n)) same (there (subst (λ n. IsTrue (asked n)) (sym same) so)))
    by_first (inr later) = inl later

    by_case : IsSome (hit before name) ⊎ IsTrue (has old name) → IsSome (hit left name) ⊎ IsTrue (has new name)
    by_case (inl here) = by_first (hit_first r left name (subst (λ (rs : List Record). IsSome (hit rs name)) is here))
    by_case (inr in_old) = inr (keeps name in_old)

pub all_came : (front : List ℕ) (asked : List ℕ → Bool) (records all left : List Record) (names : List (List ℕ)) → HasFront front asked → all ≡ filter (λ r. begins front r.name) records → left ≡ [] → IsComing all left asked names → GathersRecords records asked names
all_came front asked records all left names fronts all_is none coming name is so =
    by_case (coming name (subst (λ (rs : List Record). IsSome (hit rs name)) (sym all_is) (hit_prefixed front records name (fronts name so) is)) so)
  where
    by_case : IsSome (hit left name) ⊎ IsTrue (has names name) → IsTrue (has names name)
    by_case (inl there) = let h : IsSome (hit [] name) = subst (λ (rs : List Record). IsSome (hit rs name)) none there in absurd (cc h)
    by_case (inr in_names) = in_names
