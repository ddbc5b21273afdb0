-- Paths that begin one another.
use Rattle.std.proofs.Common.{◌≡◌, ◌⊎◌, Bool, true, false, [], ◌∷◌, ◌++◌, Some, None, refl, sym, ap, ◌∙◌, inl, inr, if◌then◌else◌}
use Rattle.std.specs.Prelude.{bytes_eq}
use Rattle.std.proofs.lemmas.Slice.Eq.{bytes_eq-Decides}
use Rattle.gix_object_nodes.specs.Files.{Bytes, Path, behind}
use Rattle.gix_object_nodes.specs.Nodes.{onto}

pub same_name : (a b : Bytes) → bytes_eq a b ≡ true → a ≡ b
same_name a b e = (bytes_eq-Decides a b).0 e

pub name_itself : (a : Bytes) → bytes_eq a a ≡ true
name_itself a = (bytes_eq-Decides a a).1 refl

pub by_test : (b : Bool) → (b ≡ true) ⊎ (b ≡ false)
by_test true = inl refl
by_test false = inr refl

pub not_both : (b : Bool) → b ≡ true → b ≡ false → ⊥
not_both b e f = cc

pub onto-onto : (a r t : Path) → onto (onto a r) t ≡ onto r (a ++ t)
onto-onto [] r t = refl
onto-onto (n ∷ a) r t = onto-onto a (n ∷ r) t

pub behind_is : (p q rest : Path) → behind p q ≡ Some rest → q ≡ p ++ rest
behind_is [] q rest e = cc
behind_is (n ∷ p) [] rest e = absurd (cc e)
behind_is (n ∷ p) (m ∷ q) rest e = elim (by_test (bytes_eq n m)) [
  | inl t ↦
      let same : n ≡ m = same_name n m t in
      let later : behind p q ≡ Some rest = ap (λ b. if b then behind p q else None) (sym t) ∙ e in
      ap (λ k. k ∷ q) (sym same) ∙ ap (λ k. n ∷ k) (behind_is p q rest later)
  | inr f ↦ let none : None ≡ Some rest = ap (λ b. if b then behind p q else None) (sym f) ∙ e in absurd (cc none)
]

pub behind_append : (a p q : Path) → behind (a ++ p) (a ++ q) ≡ behind p q
behind_append [] p q = refl
behind_append (n ∷ a) p q = ap (λ b. if b then behind (a ++ p) (a ++ q) else None) (name_itself n) ∙ behind_append a p q

pub onto-append : (way p q : Path) → onto way (p ++ q) ≡ onto way p ++ q
onto-append [] p q = refl
onto-append (n ∷ way) p q = onto-append way (n ∷ p) q

pub behind-onto : (way p q : Path) → behind (onto way p) (onto way q) ≡ behind p q
behind-onto [] p q = refl
behind-onto (n ∷ way) p q =
    behind-onto way (n ∷ p) (n ∷ q) ∙ ap (λ b. if b then behind p q else None) (name_itself n)

-- a longer path begins nothing more
pub behind-longer : (p r q : Path) → behind p q ≡ None → behind (p ++ r) q ≡ None
behind-longer [] r q e = absurd (cc e)
behind-longer (n ∷ p) r [] e = refl
behind-longer (n ∷ p) r (m ∷ q) e = elim (by_test (bytes_eq n m)) [
  | inl is ↦
      let later : behind p q ≡ None = ap (λ b. if b then behind p q else None) (sym is) ∙ e in
      ap (λ b. if b then behind (p ++ r) q else None) is ∙ behind-longer p r q later
  | inr isnt ↦ ap (λ b. if b then behind (p ++ r) q else None) isnt
]

pub behind_one : (name : Bytes) (x : Path) → behind (name ∷ []) (name ∷ x) ≡ Some x
behind_one name x = ap (λ b. if b then Some x else None) (name_itself name)

pub behind_both : (name : Bytes) (p q : Path) → behind (name ∷ p) (name ∷ q) ≡ behind p q
behind_both name p q = ap (λ b. if b then behind p q else None) (name_itself name)
