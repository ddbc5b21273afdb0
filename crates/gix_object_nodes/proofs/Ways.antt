-- Ways down from the root, and the files of opened trees.
use Rattle.std.proofs.Common.{ℕ, ◌≡◌, ◌<◌, ◌≤◌, [], ◌∷◌, Option, Some, None, refl, ap, subst, ◌∙◌, arith}
use Rattle.gix_object_nodes.specs.declared.node.NodeId.{NodeId}
use Rattle.gix_object_nodes.specs.declared.node.Slot.{Slot}
use Rattle.gix_object_nodes.specs.Files.{Bytes, Path, Leaf, Trees, through, files_of_entry}
use Rattle.gix_object_nodes.specs.Nodes.{Slots, child_or, child_of, leaf_in, files_of_slot, files_of_node, IsForest, Way, onto}

-- each link of the second is one of the first
pub fewer : (slots new : Slots) (bound more : ℕ) → IsForest slots bound → bound ≤ more → ((i : ℕ) (n : Bytes) (c : ℕ) → child_of (new i n) ≡ Some c → child_of (slots i n) ≡ Some c) → IsForest new more
fewer slots new bound more ok le h = record {
  rooted = let r = ok.rooted in omega arith;
  forward = λ i n c e. ok.forward i n c (h i n c e);
  within = λ i n c e. let w = ok.within i n c (h i n c e) in omega arith;
  one = λ i j c n m e f. ok.one i j c n m (h i n c e) (h j m c f);
}

pub unique : (slots : Slots) (bound : ℕ) → IsForest slots bound → (a b : Path) (j : ℕ) → Way slots a j → Way slots b j → a ≡ b
unique slots bound ok [] [] j w v = refl
unique slots bound ok [] (n ∷ b) j w v = let up : v.0 < j = ok.forward v.0 n j v.2 in absurd (omega (arith, w))
unique slots bound ok (n ∷ a) [] j w v = let up : w.0 < j = ok.forward w.0 n j w.2 in absurd (omega (arith, v))
unique slots bound ok (n ∷ a) (k ∷ b) j w v =
    let both = ok.one w.0 v.0 j n k w.2 v.2 in
    let later : a ≡ b = unique slots bound ok a b v.0 (subst (λ m. Way slots a m) both.0 w.1) v.1 in
    ap (λ x. x ∷ a) both.1 ∙ ap (λ x. k ∷ x) later

-- ---- an opened child's files

child_files_by : (trees : Trees) (slots : Slots) (name : Bytes) (rest : Path) (child : Option NodeId) (i : ℕ) (x : Option Leaf) → child_or child (λ c. Some c) None ≡ Some i
    → child_or child (λ c. files_of_node trees slots c (name ∷ rest)) x ≡ files_of_node trees slots i (name ∷ rest)
child_files_by trees slots name rest None i x e = absurd (cc e)
child_files_by trees slots name rest (Some c) i x e = let same : c.0 ≡ i = cc in ap (λ k. files_of_node trees slots k (name ∷ rest)) same

pub child_files : (trees : Trees) (slots : Slots) (name : Bytes) (rest : Path) (o : Option Slot) (i : ℕ) → child_of o ≡ Some i
    → through o (files_of_slot trees slots (name ∷ rest)) ≡ files_of_node trees slots i (name ∷ rest)
child_files trees slots name rest None i e = absurd (cc e)
child_files trees slots name rest (Some s) i e = child_files_by trees slots name rest s.child i (files_of_entry trees (name ∷ rest) (leaf_in s)) e

child_no_file_by : (child : Option NodeId) (i : ℕ) (x : Option Leaf) → child_or child (λ c. Some c) None ≡ Some i → child_or child (λ c. None) x ≡ None
child_no_file_by None i x e = absurd (cc e)
child_no_file_by (Some c) i x e = refl

pub child_no_file : (trees : Trees) (slots : Slots) (o : Option Slot) (i : ℕ) → child_of o ≡ Some i → through o (files_of_slot trees slots []) ≡ None
child_no_file trees slots None i e = absurd (cc e)
child_no_file trees slots (Some s) i e = child_no_file_by s.child i (files_of_entry trees [] (leaf_in s)) e

-- the files below a way are those of the tree that it leads to
pub down : (trees : Trees) (slots : Slots) (way : Path) (i : ℕ) (name : Bytes) (rest : Path) → Way slots way i
    → files_of_node trees slots 0 (onto way (name ∷ rest)) ≡ files_of_node trees slots i (name ∷ rest)
down trees slots [] i name rest w = ap (λ k. files_of_node trees slots k (name ∷ rest)) w
down trees slots (n ∷ way) i name rest w =
    down trees slots way w.0 n (name ∷ rest) w.1 ∙ child_files trees slots name rest (slots w.0 n) i w.2

-- an entry's slot without an opened tree has the entry's files
pub closed_files : (trees : Trees) (slots : Slots) (s : Slot) → s.child ≡ None → (rest : Path) → files_of_slot trees slots rest s ≡ files_of_entry trees rest (leaf_in s)
closed_files trees slots s closed [] = ap (λ o. child_or o (λ c. None) (files_of_entry trees [] (leaf_in s))) closed
closed_files trees slots s closed (m ∷ rest) = ap (λ o. child_or o (λ c. files_of_node trees slots c (m ∷ rest)) (files_of_entry trees (m ∷ rest) (leaf_in s))) closed
