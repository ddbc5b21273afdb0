-- Edits of a file map and of what its tree unfolds to are the same.
use Rattle.std.proofs.Common.{◌≡◌, Bool, true, false, cond, not, ◌||◌, [], ◌∷◌, ◌++◌, refl, sym, ◌∙◌, ap, Option, Some, None, is_some, option_map, bytes_eq}
use Rattle.std.specs.FinMap.{entries, keys, get, retain_keys}
use Rattle.gix_hash.specs.declared.kind.Kind.{Kind}
use Rattle.gix_object_nodes.specs.Files as unfolded
use Rattle.gix_object_nodes.specs.Files.{Path, Leaf, Trees, behind, files_of_entry, is_null, HasNoneBelow, SameFiles}
use Rattle.history_model.specs.Bytes.{Bytes}
use Rattle.history_model.specs.FileMap.{FileMap, Content, components, is_below, is_within, has_below, removed, put_at}
use Rattle.history_model.specs.Objects.{blob_id}
use Rattle.history_model.proofs.WholeLists.{in_map, of_map, clash, same_text, text_itself, passes_one, one_passes}
use Rattle.history_model.proofs.WholeStores.{get_in, in_get, get_retained}
use Rattle.history_model.proofs.WholeItems.{Entry}
use Rattle.history_files.specs.Unfolding.{file_leaf, IsUnfolded}
use Rattle.history_files.proofs.Components.{some_parts, below_rest, rest_parts, below_by, behind_parts, is_behind, parts_below}
use Rattle.history_files.proofs.Unfolded.{leaf_itself, leaf_below}
use Rattle.gix_object_nodes.proofs.Paths.{behind_is}
use Rattle.gix_object_editor.proofs.Raised.{begins_behind}
use Rattle.history_model.proofs.AfterFirstLemmas.{get-with}

module _ (kind : Kind) (files : FileMap) (there : unfolded.FileMap) (is : IsUnfolded kind files there) (path : Bytes) where
  -- without what is at or below a path
  pub removed_unfolds : IsUnfolded kind (removed path files) (unfolded.removed (components path) there)
  removed_unfolds = record {
    at = λ q. ap (λ b. cond b None (there (components q))) (is_behind path q) ∙ kept q (is_within path q)
        ∙ sym (ap (option_map (file_leaf kind)) (get_retained files (λ x. not (is_within path x)) q));
    only = λ names leaf e. only names leaf (is_some (behind (components path) names)) e;
  }
    where
      kept : (q : Bytes) (b : Bool) → cond b None (there (components q)) ≡ option_map (file_leaf kind) (cond (not b) (get files q) None)
      kept q true = refl
      kept q false = is.at q

      only : (names : Path) (leaf : Leaf) (b : Bool) → cond b None (there names) ≡ Some leaf → (p : Bytes) × (components p ≡ names)
      only names leaf true e = cc
      only names leaf false e = is.only names leaf e

  module _ (content : Content) (isnt_null : is_null (blob_id kind content.bytes) ≡ false) (trees : Trees) where
    leaf : Leaf
    leaf = file_leaf kind content

    clear : Bytes → Bool
    clear q = not (is_within path q || is_within q path)

    -- at a path, by what follows the put one in it
    at_case : (q : Bytes) (t : Bool) → bytes_eq path q ≡ t → (o : Option Bytes) → below_rest path q ≡ o
        → unfolded.put_at trees leaf (cond t (Some []) (option_map components o)) (cond (is_some (behind (components q) (components path))) None (there (components q)))
        ≡ option_map (file_leaf kind) (cond t (Some content) (cond (not ((t || is_some o) || is_within q path)) (get files q) None))
    unfolding leaf
    at_case q true e o f = leaf_itself trees kind content isnt_null
    at_case q false e (Some r) f = let some = some_parts r in ap (λ ps. files_of_entry trees ps (file_leaf kind content)) some.2 ∙ leaf_below trees kind content some.0 some.1
    at_case q false e None f = ap (λ b. cond b None (there (components q))) (is_behind q path) ∙ other (is_within q path)
      where
        other : (b : Bool) → cond b None (there (components q)) ≡ option_map (file_leaf kind) (cond (not b) (get files q) None)
        other true = refl
        other false = is.at q

    turned : (p q : Bytes) → bytes_eq p q ≡ bytes_eq q p
    turned p q = go (bytes_eq p q) refl (bytes_eq q p) refl
      where
        go : (s : Bool) → bytes_eq p q ≡ s → (t : Bool) → bytes_eq q p ≡ t → s ≡ t
        go true e true f = refl
        go true e false f = clash (ap (bytes_eq q) (same_text p q e) ∙ text_itself q) f
        go false e true f = clash (ap (bytes_eq p) (same_text q p f) ∙ text_itself p) e
        go false e false f = refl

    -- with a file put at a path
    pub put_unfolds : IsUnfolded kind (put_at path content files) (unfolded.put trees (components path) (file_leaf kind content) there)
    unfolding leaf clear
    put_unfolds = record {
      at = λ q.
          ap (λ o. unfolded.put_at trees leaf o (cond (is_some (behind (components q) (components path))) None (there (components q)))) (behind_parts path q)
          ∙ at_case q (bytes_eq path q) refl (below_rest path q) refl
          ∙ ap (λ b. option_map (file_leaf kind) (cond (bytes_eq path q) (Some content) (cond (not ((bytes_eq path q || b) || is_within q path)) (get files q) None))) (below_by path q)
          ∙ sym (ap (option_map (file_leaf kind)) (get-with (retain_keys files clear) path content q
          ∙ (λ i. cond (turned q path i) (Some content) (get_retained files clear q i))));
      only = λ names other e. only names other (behind (components path) names) refl (is_some (behind names (components path))) e;
    }
      where
        only : (names : Path) (other : Leaf) (o : Option Path) → behind (components path) names ≡ o → (b : Bool)
            → unfolded.put_at trees leaf o (cond b None (there names)) ≡ Some other → (p : Bytes) × (components p ≡ names)
        only names other (Some []) h b e = (path, sym (behind_is (components path) names [] h ∙ append_none (components path)))
          where
            append_none : (ps : Path) → ps ++ [] ≡ ps
            append_none [] = refl
            append_none (p ∷ ps) = ap (λ qs. p ∷ qs) (append_none ps)
        only names other (Some (next ∷ rest)) h b e = let bad = sym (leaf_below trees kind content next rest) ∙ e in cc
        only names other None h true e = cc
        only names other None h false e = is.only names other e

  -- ---- what is below a path

  below_some : (q : Bytes) (names : Path) (name : Bytes) → components q ≡ components path ++ name ∷ names → is_below path q ≡ true
  below_some q names name e = go (below_rest path q) refl (sym (behind_parts path q) ∙ ap (behind (components path)) e ∙ begins_behind (components path) (name ∷ names))
    where
      go : (o : Option Bytes) → below_rest path q ≡ o → cond (bytes_eq path q) (Some []) (option_map components (below_rest path q)) ≡ Some (name ∷ names) → is_below path q ≡ true
      go (Some r) f k = sym (below_by path q) ∙ ap is_some f
      go None f k = none (bytes_eq path q) (sym (ap (λ o. cond (bytes_eq path q) (Some []) (option_map components o)) f) ∙ k)
        where
          none : (b : Bool) → cond b (Some []) None ≡ Some (name ∷ names) → is_below path q ≡ true
          none true h = cc
          none false h = cc

  pub none_below : has_below files path ≡ false → HasNoneBelow (components path) there
  none_below h name rest = go (there (components path ++ name ∷ rest)) refl
    where
      go : (o : Option Leaf) → there (components path ++ name ∷ rest) ≡ o → there (components path ++ name ∷ rest) ≡ None
      go None e = e
      go (Some leaf) e = absurd (bad (get files found.0) refl (sym (is.at found.0) ∙ ap there found.1 ∙ e))
        where
          found : (p : Bytes) × (components p ≡ components path ++ name ∷ rest)
          found = is.only (components path ++ name ∷ rest) leaf e

          bad : (o : Option Content) → get files found.0 ≡ o → option_map (file_leaf kind) (get files found.0) ≡ Some leaf → ⊥
          bad None f k = let worse = sym (ap (option_map (file_leaf kind)) f) ∙ k in cc
          bad (Some c) f k = clash (passes_one (is_below path) (keys files) found.0 (in_map (λ (x : Entry). x.0) (found.0, c) (entries files) (get_in files found.0 c f)) (below_some found.0 rest name found.1)) h

  pub some_below : has_below files path ≡ true → (name : Bytes) × (rest : Path) × (leaf : Leaf) × (there (components path ++ name ∷ rest) ≡ Some leaf)
  some_below h =
      let one = one_passes (is_below path) (keys files) h in
      let from = of_map (λ (x : Entry). x.0) one.0 (entries files) one.1 in
      let got : get files one.0 ≡ Some (from.0).1 = ap (get files) from.2 ∙ in_get files (from.0).0 (from.0).1 from.1 in
      split one.0 (from.0).1 got (below_rest path one.0) refl (below_by path one.0 ∙ one.2)
    where
      split : (q : Bytes) (c : Content) → get files q ≡ Some c → (o : Option Bytes) → below_rest path q ≡ o → is_some (below_rest path q) ≡ true
          → (name : Bytes) × (rest : Path) × (leaf : Leaf) × (there (components path ++ name ∷ rest) ≡ Some leaf)
      split q c g None f k = let bad = sym (ap is_some f) ∙ k in cc
      split q c g (Some r) f k =
          let parts = some_parts r in (
            parts.0,
            parts.1,
            file_leaf kind c,
            ap there (ap (λ ps. components path ++ ps) (sym parts.2) ∙ sym (parts_below path r) ∙ ap components (sym (rest_parts path q r f))) ∙ is.at q ∙ ap (option_map (file_leaf kind)) g,
          )
