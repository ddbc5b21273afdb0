-- Where names are that a worktree's front begins.
use Rattle.std.proofs.Common.{◌≡◌, ◌∙◌, sym, ap, ℕ, Bool, true, false, cond, List, Option, drop}
use Rattle.std.specs.Prelude.{codes}
use Rattle.gix_object_lines.specs.NameTest.{begins}
use Rattle.gix_ref_format.specs.Lookup.{is_own, behind_slash}
use Rattle.gix_ref_store.specs.Places.{Base, Home, shared_home, main_home, linked_home, home}

abbrev chosen : Bool → Bool → Bool → Home → Home → Home → Home → Home
chosen own main linked a b c d = cond own a (cond main b (cond linked c d))

chosen_by : (own main linked own' main' linked' : Bool) (a b c d : Home) → own ≡ own' → main ≡ main' → linked ≡ linked' → chosen own main linked a b c d ≡ chosen own' main' linked' a b c d
chosen_by own main linked own' main' linked' a b c d e f h = λ i. chosen (e i) (f i) (h i) a b c d

abbrev own_home : Base → List ℕ → Home
own_home b name = record { folder = b.git; path = name }

pub main_is : (b : Base) (name rest : List ℕ) → is_own name ≡ false → begins (codes "main-worktree/") name ≡ true → rest ≡ drop 14 name → main_home b name rest ≡ home b name
main_is b name rest own main rest_is =
    ap (main_home b name) rest_is
    ∙ sym (chosen_by (is_own name) (begins (codes "main-worktree/") name) (begins (codes "worktrees/") name) false true (begins (codes "worktrees/") name)
    (own_home b name) (main_home b name (drop 14 name)) (linked_home b name (behind_slash (drop 10 name))) (shared_home b name) own main (λ i. begins (codes "worktrees/") name))

pub linked_is : (b : Base) (name : List ℕ) (rest : Option (List ℕ)) → is_own name ≡ false → begins (codes "main-worktree/") name ≡ false → begins (codes "worktrees/") name ≡ true → rest ≡ behind_slash (drop 10 name)
    → linked_home b name rest ≡ home b name
linked_is b name rest own main linked rest_is =
    ap (linked_home b name) rest_is
    ∙ sym (chosen_by (is_own name) (begins (codes "main-worktree/") name) (begins (codes "worktrees/") name) false false true
    (own_home b name) (main_home b name (drop 14 name)) (linked_home b name (behind_slash (drop 10 name))) (shared_home b name) own main linked)
