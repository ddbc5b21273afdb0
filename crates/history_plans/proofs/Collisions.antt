-- When a name collides with those that exist.
use Rattle.std.proofs.Common.{◌≡◌, Bool, true, false, cond, not, ◌&&◌, ◌||◌, List, [], ◌∷◌, ◌++◌, length, drop, refl, sym, ◌∙◌, ap, Some, None, append_assoc, nat_eq}
use Rattle.std.specs.List.{list_any, list_all}
use Rattle.std.specs.FinMap.{keys}
use Rattle.std.proofs.lemmas.List.Folds.{list_any-append}
use Rattle.history_model.specs.Bytes.{Bytes, begins}
use Rattle.history_model.specs.FileMap.{is_below}
use Rattle.history_model.specs.Repository.{stands}
use Rattle.history_model.specs.Commands.{Commit, CommitCommand}
use Rattle.history_model.specs.Causes.{do_collide, holds_tag, some_collide}
use Rattle.history_model.specs.declared.Cause.TheVariants.{Collides, HoldsTag}
use Rattle.history_layout.proofs.OfferedFiles.{each_key}
use Rattle.gix_ref_way.specs.Ways.{IsAbove}
use Rattle.history_plans.specs.CommitCauses.{first_among, place_causes}
use Rattle.std.proofs.lemmas.Bool.{not-true, or_from}
use Rattle.history_model.proofs.WholePaths.{begins_front, begins_parts}
use Rattle.history_model.specs.Repository as plain

-- ---- lists

pub none_any : {X : Type 0} (p : X → Bool) (xs : List X) → list_all (λ x. not (p x)) xs ≡ true → list_any p xs ≡ false
none_any p [] h = refl
none_any p (x ∷ xs) h = go (p x) h (none_any p xs)
  where
    go : (b : Bool) → (not b && list_all (λ x. not (p x)) xs) ≡ true → (list_all (λ x. not (p x)) xs ≡ true → list_any p xs ≡ false) → (b || list_any p xs) ≡ false
    go true h rest = cc
    go false h rest = rest h

pub all_not : {X : Type 0} (p : X → Bool) (xs : List X) → list_any p xs ≡ false → list_all (λ x. not (p x)) xs ≡ true
all_not p [] h = refl
all_not p (x ∷ xs) h = go (p x) h (all_not p xs)
  where
    go : (b : Bool) → (b || list_any p xs) ≡ false → (list_any p xs ≡ false → list_all (λ x. not (p x)) xs ≡ true) → (not b && list_all (λ x. not (p x)) xs) ≡ true
    go true h rest = cc
    go false h rest = rest h

-- ---- names

below_itself : (name : Bytes) → is_below name name ≡ false
below_itself name = go name
  where
    none : (b : Bool) → (b && false) ≡ false
    none true = refl
    none false = refl

    go : (n : Bytes) → begins (n ++ 47 ∷ []) n ≡ false
    go [] = refl
    go (b ∷ n) = ap (λ c. nat_eq b b && c) (go n) ∙ none (nat_eq b b)

pub above_it : (place path : Bytes) → is_below place path ≡ true → IsAbove place path
above_it place path h = (drop (length (place ++ 47 ∷ [])) path, begins_parts (place ++ 47 ∷ []) path h ∙ append_assoc place (47 ∷ []) (drop (length (place ++ 47 ∷ [])) path))

pub is_below_it : (place path : Bytes) → IsAbove place path → is_below place path ≡ true
is_below_it place path (rest, is) = ap (begins (place ++ 47 ∷ [])) (is ∙ sym (append_assoc place (47 ∷ []) rest)) ∙ begins_front (place ++ 47 ∷ []) rest

-- each existing name is apart from one that collides with none
pub apart_free : (r : plain.Repository) (name : Bytes) → list_any (do_collide name) (keys r.names) ≡ false → (other : Bytes) → stands r other ≡ true → do_collide name other ≡ false
apart_free r name none other there = not-true (do_collide name other) (each_key (λ k. not (do_collide name k)) r.names (all_not (do_collide name) (keys r.names) none) other there)

-- ---- a command that is to make one name

module _ (r : plain.Repository) (name : Bytes) where
  abbrev by_standing : Bool → Bool
  by_standing s = list_any (λ made. list_any (do_collide made) (keys r.names ++ name ∷ [])) (cond (not s) (name ∷ []) [])

  -- whether the name collides with those that exist, if it is to be made
  abbrev pub one_collides : Bool
  one_collides = by_standing (stands r name)

  -- an existing name doesn't collide, and a new one does if it collides with an existing one
  pub standing_free : stands r name ≡ true → one_collides ≡ false
  standing_free is = ap by_standing is

  pub new_collides : stands r name ≡ false → one_collides ≡ list_any (do_collide name) (keys r.names)
  new_collides is =
      ap by_standing is ∙ ap (λ b. b || false) (list_any-append (do_collide name) (keys r.names) (name ∷ []))
      ∙ ap (λ b. (list_any (do_collide name) (keys r.names) || (b || false)) || false) (or_from _ _ (below_itself name) (below_itself name))
      ∙ last (list_any (do_collide name) (keys r.names))
    where
      last : (b : Bool) → ((b || false) || false) ≡ b
      last true = refl
      last false = refl

-- the first cause of a commit's place, by whether its name collides and whether it holds a tag
pub place_told : (r : plain.Repository) (sent : CommitCommand) (collides tag : Bool) → some_collide r (Commit sent) ≡ collides → holds_tag r (Commit sent) ≡ tag
    → first_among place_causes r (Commit sent) ≡ cond collides (Some Collides) (cond tag (Some HoldsTag) None)
place_told r sent collides tag is holds = λ i. cond (is i) (Some Collides) (cond (holds i) (Some HoldsTag) None)
