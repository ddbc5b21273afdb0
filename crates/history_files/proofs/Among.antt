-- Entries of a tree, looked through for a name.
use Rattle.std.proofs.Common.{◌≡◌, ◌∙◌, ap, sym, ℕ, suc, ◌+◌, ◌<◌, true, false, cond, List, ◌∷◌, map, length, drop, get_or, Some, bytes_eq, arith}
use Rattle.std.proofs.Math.Seq.{drop-cons}
use Rattle.gix_object_tree.specs.Entry.{item_of}
use Rattle.gix_object_tree.specs.declared.tree.entry.EntryRef.{EntryRef}
use Rattle.gix_object_nodes.specs.Files.{named}
use Rattle.history_model.specs.Bytes.{Bytes}

module _ (xs : List EntryRef) (i : ℕ) (e : EntryRef) (name : Bytes) (within : i < length xs) (is : e ≡ get_or xs i e) where
  cut : drop i xs ≡ e ∷ drop (i + 1) xs
  cut =
      let next : suc i ≡ i + 1 = omega arith in
      drop-cons xs i e within ∙ (λ j. sym is j ∷ drop (next j) xs)

  pub named_here : bytes_eq name (item_of e).name ≡ true → named name (map item_of (drop i xs)) ≡ Some (item_of e)
  named_here h = ap (λ ys. named name (map item_of ys)) cut ∙ ap (λ b. cond b (Some (item_of e)) (named name (map item_of (drop (i + 1) xs)))) h

  pub named_later : bytes_eq name (item_of e).name ≡ false → named name (map item_of (drop i xs)) ≡ named name (map item_of (drop (i + 1) xs))
  named_later h = ap (λ ys. named name (map item_of ys)) cut ∙ ap (λ b. cond b (Some (item_of e)) (named name (map item_of (drop (i + 1) xs)))) h
