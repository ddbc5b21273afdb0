-- What the changes of folders leave of the files.
use Rattle.std.proofs.Common.{◌≡◌, ◌≢◌, ◌⊎◌, inl, inr, refl, sym, ◌∙◌, ap, Bool, true, false, cond, [], ◌∷◌}
use Rattle.std.specs.Prelude.{IsTrue, Option, Some, None, is_none, Result, Ok, Err, OnOk}
use Rattle.std.specs.FinMap.{get, insert, remove}
use Rattle.gix_ref_file.specs.Tree.{Tree, Node, folder, same_path, node_at, bytes_of}
use Rattle.gix_ref_file.specs.Changes.{to_make_folder, MayLeave}
use Rattle.gix_ref_file.specs.History.{History, Adds}
use Rattle.gix_ref_file.proofs.Histories.{adds_weaker, adds_joined}
use Rattle.gix_ref_file.proofs.Rooted.{adds_now, first}
use Rattle.gix_ref_file.proofs.Trees.{get-inserted, get-removed, one_path}
use Rattle.gix_ref_way.specs.Ways.{Bytes, file_at, SameFiles}

pub same_then_same : (old mid new : Tree) → SameFiles old mid → SameFiles mid new → SameFiles old new
same_then_same old mid new first second = λ path. second path ∙ first path

pub other_path : (p q : Bytes) → p ≢ q → same_path p q ≡ false
other_path p q apart = by_test (same_path p q) refl
  where
    by_test : (b : Bool) → same_path p q ≡ b → b ≡ false
    by_test true same = absurd (apart (one_path p q same))
    by_test false other = refl

pub apart_from_inserted : (t : Tree) (k : Bytes) (n : Node) (q : Bytes) → q ≢ k → file_at (insert t k n) q ≡ file_at t q
apart_from_inserted t k n [] apart = refl
apart_from_inserted t k n (b ∷ q) apart = ap bytes_of (get-inserted t k n (b ∷ q) ∙ ap (λ same. cond same (Some n) (get t (b ∷ q))) (other_path (b ∷ q) k apart))

no_node : (o : Option Node) → IsTrue (is_none o) → bytes_of o ≡ None
no_node None h = refl
no_node (Some n) h = absurd (cc h)

folder_inserted : (t : Tree) (k q : Bytes) → IsTrue (is_none (node_at t k)) → file_at (insert t k folder) q ≡ file_at t q
folder_inserted t k [] absent = refl
folder_inserted t k (b ∷ q) absent = ap bytes_of (get-inserted t k folder (b ∷ q)) ∙ by_test (same_path (b ∷ q) k) refl
  where
    by_test : (same : Bool) → same_path (b ∷ q) k ≡ same → bytes_of (cond same (Some folder) (get t (b ∷ q))) ≡ file_at t (b ∷ q)
    by_test true same = sym (no_node (node_at t (b ∷ q)) (ap (λ p. is_none (node_at t p)) (one_path (b ∷ q) k same) ∙ absent))
    by_test false other = refl

pub while_made : (folder' : Bytes) (t x : Tree) → MayLeave (to_make_folder folder') t x → SameFiles t x
while_made k t x (inl same) = λ q. ap (λ y. file_at y q) same
while_made k t x (inr (n, may, is)) = λ q. ap (λ y. file_at y q) is ∙ folder_inserted t k q (first _ _ may)

pub now_same : (old new : History) → Adds (SameFiles old.tree) old new → SameFiles old.tree new.tree
now_same old new adds = from_now (adds_now _ old new adds)
  where
    from_now : (new.tree ≡ old.tree) ⊎ SameFiles old.tree new.tree → SameFiles old.tree new.tree
    from_now (inl same) = λ q. ap (λ y. file_at y q) same
    from_now (inr same) = same

pub same_joined : (old mid new : History) → Adds (SameFiles old.tree) old mid → Adds (SameFiles mid.tree) mid new → Adds (SameFiles old.tree) old new
same_joined old mid new first second =
    adds_joined old mid new first (adds_weaker mid new second (λ x same. same_then_same old.tree mid.tree x (now_same old mid first) same))

pub apart_from_removed : (t : Tree) (k q : Bytes) → q ≢ k → file_at (remove t k) q ≡ file_at t q
apart_from_removed t k [] apart = refl
apart_from_removed t k (b ∷ q) apart = ap bytes_of (get-removed t k (b ∷ q) ∙ ap (λ same. cond same None (get t (b ∷ q))) (other_path (b ∷ q) k apart))

pub on_ok_both : {T E A B C : Type 0} (r : Result T E) → (A → B → C) → OnOk r A → OnOk r B → OnOk r C
on_ok_both (Ok x) f a b = f a b
on_ok_both (Err e) f a b = tt
