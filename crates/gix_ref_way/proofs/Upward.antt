-- If the folder of a path exists, so does each that the path is in.
use Rattle.std.proofs.Common.{◌≡◌, ◌⊎◌, inl, inr, sym, ◌∙◌, ap, subst, ℕ, zero, suc, ◌-◌, ◌<◌, ◌≤◌, Bool, true, false, List, [], ◌∷◌, ◌++◌, take, length, arith, refl}
use Rattle.std.specs.Prelude.{IsTrue, nat_lt}
use Rattle.std.specs.List.{suffix_len}
use Rattle.std.proofs.lemmas.List.{length-take-le}
use borrow.Author.Tests.{ltb-true, ltb-false}
use Rattle.gix_ref_file.specs.Tree.{Tree, parent, node_at, is_folder, IsRooted}
use Rattle.gix_ref_file.proofs.Below.{inside, parent_behind}
use Rattle.gix_ref_way.specs.Ways.{Bytes, IsAbove, HasFoldersAbove}
use Rattle.gix_ref_way.proofs.FoldersMade.{above_shorter, front_of}
use Rattle.gix_ref_way.proofs.Walked.{parent_of_folder, shorter}

cut_off : (m : ℕ) (place rest : Bytes) → length place < m → take m (place ++ 47 ∷ rest) ≡ place ++ 47 ∷ take (m - length place - 1) rest
cut_off zero place rest far = absurd (omega (arith, far))
cut_off (suc m) [] rest far = ap (λ n. 47 ∷ take n rest) (omega arith)
cut_off (suc m) (b ∷ place) rest far =
    ap (λ p. b ∷ p) (cut_off m place rest (omega (arith, far))) ∙ ap (λ n. b ∷ place ++ 47 ∷ take n rest) (omega arith)

-- what a path is below is its folder, or above that
above_parent : (place path : Bytes) → IsAbove place path → (place ≡ parent path) ⊎ IsAbove place (parent path)
above_parent place path (rest, is) = by_test (nat_lt (length place) end) refl
  where
    end : ℕ
    end = length path - suffix_len inside path - 1

    whole : length (parent path) ≡ end
    whole = length-take-le end path (omega arith)

    long : length place ≤ end
    long = omega (arith, subst (λ p. length place ≤ length (parent p)) (sym is) (parent_behind place rest), whole)

    by_test : (b : Bool) → nat_lt (length place) end ≡ b → (place ≡ parent path) ⊎ IsAbove place (parent path)
    by_test true less = inr (take (end - length place - 1) rest, ap (take end) is ∙ cut_off end place rest (ltb-true _ _ less))
    by_test false more =
        let same : length place ≡ end = omega (arith, long, ltb-false _ _ more) in
        inl ((front_of place path (rest, is)).0 ∙ ap (λ n. take n path) same)

rooted_above : (n : ℕ) (tree : Tree) (path : Bytes) → length path ≤ n → IsRooted tree → IsTrue (is_folder (node_at tree (parent path))) → HasFoldersAbove path tree
rooted_above zero tree path short rooted is place above = absurd (omega (arith, short, above_shorter place path above))
rooted_above (suc n) tree path short rooted is place above =
    by_case (above_parent place path above) (rooted_above n tree (parent path) (omega (arith, short, shorter path)) rooted (parent_of_folder tree (parent path) rooted is) place)
  where
    by_case : (place ≡ parent path) ⊎ IsAbove place (parent path) → (IsAbove place (parent path) → IsTrue (is_folder (node_at tree place))) → IsTrue (is_folder (node_at tree place))
    by_case (inl same) rest = subst (λ p. IsTrue (is_folder (node_at tree p))) (sym same) is
    by_case (inr higher) rest = rest higher

pub all_above : (tree : Tree) (path : Bytes) → IsRooted tree → IsTrue (is_folder (node_at tree (parent path))) → HasFoldersAbove path tree
all_above tree path rooted is = rooted_above (length path) tree path (omega arith) rooted is
