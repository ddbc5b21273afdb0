-- A namespace's levels, component by component.
use Rattle.std.proofs.Common.{◌≡◌, ◌∙◌, ap, refl, sym, ℕ, List, [], ◌∷◌, ◌++◌, append_assoc, append-nil}
use Rattle.std.specs.Prelude.{◌==◌}
use Rattle.std.specs.List.{flat_map, slice_split, onto_first}
use Rattle.std.proofs.lemmas.List.Splits.{slice_split-cons_no}
use Rattle.gix_object_lines.specs.Bytes.{Lacks}
use Rattle.gix_object_lines.proofs.Cuts.{lacks_head, lacks_tail}
use Rattle.std.proofs.lemmas.Bool.{ne_eqb}
use Rattle.gix_ref_name.specs.Namespaces.{level, expanded}

parts_none : (xs : List ℕ) → Lacks 47 xs → slice_split (λ byte. byte == 47) xs ≡ xs ∷ []
parts_none [] lacks = refl
parts_none (x ∷ xs) lacks =
    slice_split-cons_no (λ byte. byte == 47) x xs (ne_eqb x 47 (lacks_head 47 x xs lacks)) ∙ ap (onto_first x) (parts_none xs (lacks_tail 47 x xs lacks))

parts_at : (xs ys : List ℕ) → Lacks 47 xs → slice_split (λ byte. byte == 47) (xs ++ 47 ∷ ys) ≡ xs ∷ slice_split (λ byte. byte == 47) ys
parts_at [] ys lacks = refl
parts_at (x ∷ xs) ys lacks =
    slice_split-cons_no (λ byte. byte == 47) x (xs ++ 47 ∷ ys) (ne_eqb x 47 (lacks_head 47 x xs lacks)) ∙ ap (onto_first x) (parts_at xs ys (lacks_tail 47 x xs lacks))

pub expanded_at : (left component rest : List ℕ) → left ≡ component ++ 47 ∷ rest → Lacks 47 component → expanded left ≡ level component ++ expanded rest
expanded_at left component rest is lacks = ap expanded is ∙ ap (flat_map level) (parts_at component rest lacks)

pub expanded_last : (left : List ℕ) → Lacks 47 left → expanded left ≡ level left
expanded_last left lacks = ap (flat_map level) (parts_none left lacks) ∙ append-nil (level left)

-- one level more is written
pub level_on : (whole out left out' component rest : List ℕ) → whole ≡ out ++ expanded left → left ≡ component ++ 47 ∷ rest → Lacks 47 component → out' ≡ out ++ level component
    → whole ≡ out' ++ expanded rest
level_on whole out left out' component rest before is lacks written =
    before ∙ ap (λ t. out ++ t) (expanded_at left component rest is lacks) ∙ sym (append_assoc out (level component) (expanded rest)) ∙ ap (λ t. t ++ expanded rest) (sym written)

pub level_last : (whole out left out' : List ℕ) → whole ≡ out ++ expanded left → Lacks 47 left → out' ≡ out ++ level left → out' ≡ whole
level_last whole out left out' before lacks written = written ∙ ap (λ t. out ++ t) (sym (expanded_last left lacks)) ∙ sym before

pub pushed : (a b c d component front : List ℕ) → b ≡ a ++ front → c ≡ b ++ component → d ≡ c ++ 47 ∷ [] → d ≡ a ++ (front ++ component ++ 47 ∷ [])
pushed a b c d component front x y z =
    z ∙ ap (λ t. t ++ 47 ∷ []) (y ∙ ap (λ t. t ++ component) x ∙ append_assoc a front component) ∙ append_assoc a (front ++ component) (47 ∷ [])
