-- What changes leave of the folders.
use Rattle.std.proofs.Common.{◌≡◌, ◌⊎◌, inl, inr, refl, sym, ◌∙◌, ap, subst, ℕ, zero, suc, ◌<◌, Bool, true, false, cond, [], ◌∷◌, ◌++◌, take, drop, length, get_or, arith}
use Rattle.std.specs.Prelude.{Some}
use Rattle.std.specs.FinMap.{get, insert}
use Rattle.gix_ref_file.specs.Tree.{Tree, folder, same_path}
use Rattle.gix_ref_file.specs.Changes.{to_make_folder, to_rename, MayLeave}
use Rattle.gix_ref_file.specs.History.{History, Adds}
use Rattle.gix_ref_file.proofs.Histories.{adds_weaker, adds_joined}
use Rattle.gix_ref_file.proofs.Rooted.{adds_now}
use Rattle.gix_ref_file.proofs.Trees.{get-inserted, one_path}
use Rattle.gix_ref_way.specs.Ways.{Bytes, IsAbove, OneFolderMore, FoldersAbove}
use Rattle.gix_ref_way.proofs.FoldersStay.{same_stood, while_renamed}

-- ---- one change
inserted_folder : (t : Tree) (k q : Bytes) → get (insert t k folder) q ≡ Some folder → (get t q ≡ Some folder) ⊎ (q ≡ k)
inserted_folder t k q is = by_test (same_path q k) refl
  where
    by_test : (same : Bool) → same_path q k ≡ same → (get t q ≡ Some folder) ⊎ (q ≡ k)
    by_test true same = inr (one_path q k same)
    by_test false other = inl (sym (get-inserted t k folder q ∙ ap (λ b. cond b (Some folder) (get t q)) other) ∙ is)

pub while_one_made : (k : Bytes) (t x : Tree) → MayLeave (to_make_folder k) t x → OneFolderMore k t x
while_one_made k t x (inl same) = λ q is. inl (ap (λ y. get y q) (sym same) ∙ is)
while_one_made k t x (inr (n, may, made)) = λ q is. inserted_folder t k q (ap (λ y. get y q) (sym made) ∙ is)

-- ---- one after another
pub now_above : (path : Bytes) (old new : History) → Adds (FoldersAbove path old.tree) old new → FoldersAbove path old.tree new.tree
now_above path old new adds = from_now (adds_now _ old new adds)
  where
    from_now : (new.tree ≡ old.tree) ⊎ FoldersAbove path old.tree new.tree → FoldersAbove path old.tree new.tree
    from_now (inl same) = λ q is. inl (ap (λ y. get y q) (sym same) ∙ is)
    from_now (inr above) = above

one_more : (path k : Bytes) (old mid new : Tree) → IsAbove k path → FoldersAbove path old mid → OneFolderMore k mid new → FoldersAbove path old new
one_more path k old mid new above first second = λ q is. from_last q (second q is)
  where
    from_last : (q : Bytes) → (get mid q ≡ Some folder) ⊎ (q ≡ k) → (get old q ≡ Some folder) ⊎ IsAbove q path
    from_last q (inl stood) = first q stood
    from_last q (inr same) = inr (subst (λ p. IsAbove p path) (sym same) above)

pub above_joined : (path k : Bytes) (old mid new : History) → IsAbove k path → Adds (FoldersAbove path old.tree) old mid → Adds (OneFolderMore k mid.tree) mid new
    → Adds (FoldersAbove path old.tree) old new
above_joined path k old mid new above first second =
    adds_joined old mid new first (adds_weaker mid new second (λ x more. one_more path k old.tree mid.tree x above (now_above path old mid first) more))

-- a slash in a path
pub above_slash : (path : Bytes) (at : ℕ) → at < length path → get_or path at 0 ≡ 47 → IsAbove (take at path) path
above_slash path at below is = (drop (suc at) path, cut path at below is)
  where
    cut : (path : Bytes) (at : ℕ) → at < length path → get_or path at 0 ≡ 47 → path ≡ take at path ++ 47 ∷ drop (suc at) path
    cut [] at below is = absurd (omega (arith, below))
    cut (x ∷ path) zero below is = ap (λ y. y ∷ path) is
    cut (x ∷ path) (suc at) below is = ap (λ t. x ∷ t) (cut path at (omega (arith, below)) is)

-- ---- no folder comes while files do

-- no folder comes
abbrev pub BringsNone : Tree → Tree → Type 0
BringsNone t x = (q : Bytes) → get x q ≡ Some folder → get t q ≡ Some folder

pub renamed_brings : (from to : Bytes) (t x : Tree) → MayLeave (to_rename from to) t x → BringsNone t x
renamed_brings from to t x left = same_stood t x (while_renamed from to t x left)

pub then_above : {P : Tree → Type 0} (path : Bytes) (old mid new : History) → Adds (FoldersAbove path old.tree) old mid → Adds P mid new → ((x : Tree) → P x → BringsNone mid.tree x)
    → Adds (FoldersAbove path old.tree) old new
then_above path old mid new first second brings = adds_joined old mid new first (adds_weaker mid new second (λ x left q is. now_above path old mid first q (brings x left q is)))
