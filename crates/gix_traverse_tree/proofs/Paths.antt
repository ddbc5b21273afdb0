-- Paths of names in folders.
use Rattle.std.proofs.Common.{◌≡◌, ◌≢◌, ◌∙◌, sym, ap, subst, ℕ, Bool, true, List, [], ◌∷◌, ◌++◌, length, take, refl, ◌==◌}
use Rattle.std.proofs.lemmas.Bool.{cond-true, cond-false, or_right, or_parts}
use Rattle.std.proofs.lemmas.List.Folds.{list_any-append}
use Rattle.std.specs.List.{list_any}
use Rattle.gix_object_lines.specs.Bytes.{Lacks}
use Rattle.gix_traverse_tree.specs.Recorder.{joined, parent}

abbrev slash : ℕ → Bool
slash c = c == 47

parent_of_cut : (front back : List ℕ) → Lacks 47 back → parent (front ++ 47 ∷ back) ≡ front
parent_of_cut [] back h = cond-false (list_any slash back) (47 ∷ parent back) [] h
parent_of_cut (b ∷ front) back h =
    let cut = front ++ 47 ∷ back in
    let stands : list_any slash cut ≡ true = list_any-append slash front (47 ∷ back) ∙ or_right (list_any slash front) true refl in
    cond-true (list_any slash cut) (b ∷ parent cut) [] stands ∙ ap (λ (zs : List ℕ). b ∷ zs) (parent_of_cut front back h)

parent_of_name : (name : List ℕ) → Lacks 47 name → parent name ≡ []
parent_of_name [] h = refl
parent_of_name (b ∷ name) h = cond-false (list_any slash name) (b ∷ parent name) [] (or_parts (slash b) (list_any slash name) h).1

pub parent_of_joined : (folder name : List ℕ) → name ≢ [] → Lacks 47 name → parent (joined folder name) ≡ folder
parent_of_joined folder [] n h = absurd (n refl)
parent_of_joined [] (b ∷ name) n h = parent_of_name (b ∷ name) h
parent_of_joined (a ∷ folder) (b ∷ name) n h = parent_of_cut (a ∷ folder) (b ∷ name) h

take_front : (front back : List ℕ) → take (length front) (front ++ back) ≡ front
take_front [] back = refl
take_front (b ∷ front) back = ap (λ (zs : List ℕ). b ∷ zs) (take_front front back)

pub parent_taken : (path front back : List ℕ) → path ≡ front ++ 47 ∷ back → Lacks 47 back → take (length front) path ≡ parent path
parent_taken path front back e h =
    subst (λ (p : List ℕ). take (length front) p ≡ parent p) (sym e) (take_front front (47 ∷ back) ∙ sym (parent_of_cut front back h))

pub parent_untaken : (path : List ℕ) → Lacks 47 path → take 0 path ≡ parent path
parent_untaken path h = sym (parent_of_name path h)
