-- Bytes are one loose object at most.
use Rattle.std.proofs.Common.{◌≡◌, ◌∙◌, ap, sym, subst, ℕ, List, ◌++◌, length, drop, Result, Ok}
use Rattle.std.proofs.Math.Seq.{drop-append_seam}
use Rattle.gix_hash.specs.Kind.{hex_len}
use Rattle.gix_hash.specs.declared.kind.Kind as hash
use Rattle.gix_object_lines.specs.Header.{header_text}
use Rattle.gix_object_lines.specs.declared.kind.Kind.{Kind}
use Rattle.gix_object_lines.specs.declared.kind.Kind.TheVariants as kinds
use Rattle.gix_object_commit.specs.Commit as commit
use Rattle.gix_object_commit.specs.Commit.{SpellsCommit}
use Rattle.gix_object_tag.specs.Tag as tag
use Rattle.gix_object_tag.specs.Tag.{SpellsTag}
use Rattle.gix_object_any.specs.Loose.{IsLoose, loose_text}
use Rattle.gix_object_tree.specs.Entry.{Item, SpellsTree}
use Rattle.gix_object_any.specs.Object.{Value, Blob, Tree, Commit, Tag, Tells}

-- what follows one header
behind : (front head content rest : List ℕ) → front ≡ head → front ++ content ≡ head ++ rest → content ≡ rest
behind front head content rest same whole =
    sym (drop-append_seam front content) ∙ ap (λ t. drop (length front) t) whole
    ∙ ap (λ f. drop (length f) (head ++ rest)) same ∙ drop-append_seam head rest

-- one reading of a header gives one kind and one length
pub same_cut : {E : Type 0} (input : List ℕ) (r : Result (Kind × ℕ × ℕ) E) (kind other : Kind) (content rest : List ℕ) (m n : ℕ) → r ≡ Ok (kind, length content, m) → r ≡ Ok (other, length rest, n)
    → input ≡ loose_text kind content → input ≡ loose_text other rest → (kind ≡ other) × (content ≡ rest)
same_cut input r kind other content rest m n one two is is' =
    let told : ◌≡◌ {A = Kind × ℕ × ℕ} (kind, length content, m) (other, length rest, n) = cc in
    let kinds_are = ap (λ header. header.0) told in
    let sizes = ap (λ header. header.1) told in
    let heads : header_text kind (length content) ≡ header_text other (length rest) = ap (λ k. header_text k (length content)) kinds_are ∙ ap (λ n. header_text other n) sizes in
    (kinds_are, behind (header_text kind (length content)) (header_text other (length rest)) content rest heads (sym is ∙ is'))

module _ (ids : hash.Kind) where
  pub same_value : (content : List ℕ) → ((a b : List Item) → SpellsTree ids content a → SpellsTree ids content b → a ≡ b)
      → ((a b : commit.Parts) → SpellsCommit (hex_len ids) content a → SpellsCommit (hex_len ids) content b → a ≡ b)
      → ((a b : tag.Parts) → SpellsTag ids content a → SpellsTag ids content b → a ≡ b)
      → (kind : Kind) (a b : Value) → Tells ids kind content a → Tells ids kind content b → a ≡ b
  same_value content one_tree one_commit one_tag kind (Blob x) (Blob y) s t = ap Blob (sym s.spelled ∙ t.spelled)
  same_value content one_tree one_commit one_tag kind (Blob x) (Tree y) s t = let e : kinds.Blob ≡ kinds.Tree = sym s.of_kind ∙ t.of_kind in cc
  same_value content one_tree one_commit one_tag kind (Blob x) (Commit y) s t = let e : kinds.Blob ≡ kinds.Commit = sym s.of_kind ∙ t.of_kind in cc
  same_value content one_tree one_commit one_tag kind (Blob x) (Tag y) s t = let e : kinds.Blob ≡ kinds.Tag = sym s.of_kind ∙ t.of_kind in cc
  same_value content one_tree one_commit one_tag kind (Tree x) (Blob y) s t = let e : kinds.Tree ≡ kinds.Blob = sym s.of_kind ∙ t.of_kind in cc
  same_value content one_tree one_commit one_tag kind (Tree x) (Tree y) s t = ap Tree (one_tree x y s.spelled t.spelled)
  same_value content one_tree one_commit one_tag kind (Tree x) (Commit y) s t = let e : kinds.Tree ≡ kinds.Commit = sym s.of_kind ∙ t.of_kind in cc
  same_value content one_tree one_commit one_tag kind (Tree x) (Tag y) s t = let e : kinds.Tree ≡ kinds.Tag = sym s.of_kind ∙ t.of_kind in cc
  same_value content one_tree one_commit one_tag kind (Commit x) (Blob y) s t = let e : kinds.Commit ≡ kinds.Blob = sym s.of_kind ∙ t.of_kind in cc
  same_value content one_tree one_commit one_tag kind (Commit x) (Tree y) s t = let e : kinds.Commit ≡ kinds.Tree = sym s.of_kind ∙ t.of_kind in cc
  same_value content one_tree one_commit one_tag kind (Commit x) (Commit y) s t = ap Commit (one_commit x y s.spelled t.spelled)
  same_value content one_tree one_commit one_tag kind (Commit x) (Tag y) s t = let e : kinds.Commit ≡ kinds.Tag = sym s.of_kind ∙ t.of_kind in cc
  same_value content one_tree one_commit one_tag kind (Tag x) (Blob y) s t = let e : kinds.Tag ≡ kinds.Blob = sym s.of_kind ∙ t.of_kind in cc
  same_value content one_tree one_commit one_tag kind (Tag x) (Tree y) s t = let e : kinds.Tag ≡ kinds.Tree = sym s.of_kind ∙ t.of_kind in cc
  same_value content one_tree one_commit one_tag kind (Tag x) (Commit y) s t = let e : kinds.Tag ≡ kinds.Commit = sym s.of_kind ∙ t.of_kind in cc
  same_value content one_tree one_commit one_tag kind (Tag x) (Tag y) s t = ap Tag (one_tag x y s.spelled t.spelled)

  pub same_object : (input content : List ℕ) → ((kind other : Kind) (content rest : List ℕ) → input ≡ loose_text kind content → input ≡ loose_text other rest → (kind ≡ other) × (content ≡ rest))
      → ((kind : Kind) (rest : List ℕ) → input ≡ loose_text kind rest → content ≡ rest)
      → ((kind : Kind) (a b : Value) → Tells ids kind content a → Tells ids kind content b → a ≡ b)
      → (a b : Value) → IsLoose ids input a → IsLoose ids input b → a ≡ b
  same_object input content one_cut is one_value a b s t =
      let kinds_are : s.kind ≡ t.kind = (one_cut s.kind t.kind s.content t.content s.spelled t.spelled).0 in
      one_value s.kind a b
      (subst (λ text. Tells ids s.kind text a) (sym (is s.kind s.content s.spelled)) s.told)
      (subst (λ text. Tells ids s.kind text b) (sym (is t.kind t.content t.spelled)) (subst (λ k. Tells ids k t.content b) (sym kinds_are) t.told))
