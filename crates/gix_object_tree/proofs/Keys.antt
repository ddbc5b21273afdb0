-- The names by which entries are sorted.
use Rattle.std.proofs.Common.{◌≡◌, ◌∙◌, ap, refl, sym, Bool, true, false, ℕ, List, [], ◌∷◌, ◌++◌}
use Rattle.std.specs.Prelude.{if◌then◌else◌}
use Rattle.gix_object_tree.specs.Order.{git_key}

append_none : (xs : List ℕ) → xs ++ [] ≡ xs
append_none [] = refl
append_none (x ∷ xs) = ap (λ t. x ∷ t) (append_none xs)

pub key_is : (name : List ℕ) (asked is : Bool) (slash : List ℕ) → asked ≡ is → slash ≡ (if is then 47 ∷ [] else []) → name ++ slash ≡ git_key name asked
key_is name asked true slash e same = ap (λ t. name ++ t) same ∙ ap (git_key name) (sym e)
key_is name asked false slash e same = ap (λ t. name ++ t) same ∙ append_none name ∙ ap (git_key name) (sym e)
