-- File maps that unfold to the same files have one root.
use Rattle.std.proofs.Common.{◌≡◌, ℕ, zero, suc, ◌+◌, Bool, true, false, cond, ◌&&◌, List, [], ◌∷◌, ◌++◌, map, refl, sym, ◌∙◌, ap, ap₂, subst, arith, Some, option_map, bytes_eq, ◌==◌, codes}
use Rattle.std.specs.List.{flat_map, before_first, after_first}
use Rattle.std.specs.Ordering.{eq_by_cmp, is_lt}
use Rattle.std.specs.FinMap.{entries, keys, get, from_entries, get-from_entries, get-entries, is_sorted}
use Rattle.std.specs.FinMap.Entries.{find, below_all}
use Rattle.std.proofs.lemmas.Cmp.{nat_list_cmp_total}
use Rattle.gix_hash.specs.declared.kind.Kind.{Kind}
use Rattle.gix_object_tree.specs.Mode.{kind_value}
use Rattle.gix_object_nodes.specs.Files as unfolded
use Rattle.gix_object_nodes.specs.Files.{Leaf, SameFiles}
use Rattle.history_model.specs.Bytes.{Bytes, by_bytes, has_byte}
use Rattle.history_model.specs.FileMap.{FileMap, Content, components}
use Rattle.history_model.specs.Objects.{digest, TreeEntry, FileEntry, FolderEntry, into_folder, with_file, tree_entries, mode_of, entry_text, tree_entry_text, root_within, longest, root, tree_text}
use Rattle.history_model.specs.declared.FileKind.{FileKind}
use Rattle.history_model.specs.declared.FileKind.TheVariants.{File, Exec, Link}
use Rattle.history_model.proofs.WholeItems.{Entry, sorted_entries, entries_from}
use Rattle.history_model.proofs.WholeRoots.{AreShorter, are_shorter, root_at}
use Rattle.history_model.proofs.WholeStores.{one_by_keys}
use Rattle.history_files.specs.Unfolding.{entry_kind, file_leaf, IsUnfolded}

-- ---- lists with the same names

module _ (kind : Kind) where
  -- a path, and what names the file there
  abbrev pub fact : Entry → Bytes × Leaf
  fact e = (e.0, file_leaf kind e.1)

  sorted_facts : (es : List Entry) → is_sorted by_bytes (map fact es) ≡ is_sorted by_bytes es
  sorted_facts [] = refl
  sorted_facts (e ∷ es) = ap₂ (λ a b. a && b) (below_facts e.0 es) (sorted_facts es)
    where
      below_facts : (k : Bytes) (fs : List Entry) → below_all by_bytes k (map fact fs) ≡ below_all by_bytes k fs
      below_facts k [] = refl
      below_facts k (f ∷ fs) = ap (λ b. is_lt (by_bytes k f.0) && b) (below_facts k fs)

  find_facts : (q : Bytes) (es : List Entry) → find by_bytes q (map fact es) ≡ option_map (file_leaf kind) (find by_bytes q es)
  find_facts q [] = refl
  find_facts q (e ∷ es) = go (eq_by_cmp by_bytes q e.0) (find_facts q es)
    where
      go : (b : Bool) → find by_bytes q (map fact es) ≡ option_map (file_leaf kind) (find by_bytes q es)
          → cond b (Some (file_leaf kind e.1)) (find by_bytes q (map fact es)) ≡ option_map (file_leaf kind) (cond b (Some e.1) (find by_bytes q es))
      go true rest = refl
      go false rest = rest

  facts_get : (m : FileMap) (q : Bytes) → get (from_entries {R = by_bytes} (map fact (entries m))) q ≡ option_map (file_leaf kind) (get m q)
  facts_get m q = get-from_entries nat_list_cmp_total (map fact (entries m)) q ∙ find_facts q (entries m) ∙ ap (option_map (file_leaf kind)) (sym (get-entries m q))

  -- the same at each path
  same_facts : (a b : FileMap) → ((q : Bytes) → option_map (file_leaf kind) (get a q) ≡ option_map (file_leaf kind) (get b q)) → map fact (entries a) ≡ map fact (entries b)
  same_facts a b h =
      sym (entries_from (map fact (entries a)) (sorted_facts (entries a) ∙ sorted_entries a))
      ∙ ap entries (one_by_keys (from_entries (map fact (entries a))) (from_entries (map fact (entries b))) (λ q. facts_get a q ∙ h q ∙ sym (facts_get b q)))
      ∙ entries_from (map fact (entries b)) (sorted_facts (entries b) ∙ sorted_entries b)

  abbrev AreAlike : List Entry → List Entry → Type 0
  AreAlike [] [] = Unit {0}
  AreAlike [] (f ∷ fs) = ⊥
  AreAlike (e ∷ es) [] = ⊥
  AreAlike (e ∷ es) (f ∷ fs) = ((e.0 ≡ f.0) × (file_leaf kind e.1 ≡ file_leaf kind f.1)) × AreAlike es fs

  are_alike : (es fs : List Entry) → map fact es ≡ map fact fs → AreAlike es fs
  are_alike [] [] h = tt
  are_alike [] (f ∷ fs) h = cc
  are_alike (e ∷ es) [] h = cc
  are_alike (e ∷ es) (f ∷ fs) h =
      let first : fact e ≡ fact f = cc in
      let rest : map fact es ≡ map fact fs = cc in
      ((ap (λ (x : Bytes × Leaf). x.0) first, ap (λ (x : Bytes × Leaf). x.1) first), are_alike es fs rest)

  -- ---- entries with the same names

  abbrev AlikeEntry : TreeEntry → TreeEntry → Type 0
  AlikeEntry (FileEntry p c) (FileEntry q d) = (p ≡ q) × (file_leaf kind c ≡ file_leaf kind d)
  AlikeEntry (FileEntry p c) (FolderEntry q gs) = ⊥
  AlikeEntry (FolderEntry p fs) (FileEntry q d) = ⊥
  AlikeEntry (FolderEntry p fs) (FolderEntry q gs) = (p ≡ q) × AreAlike fs gs

  abbrev AlikeEntries : List TreeEntry → List TreeEntry → Type 0
  AlikeEntries [] [] = Unit {0}
  AlikeEntries [] (u ∷ us) = ⊥
  AlikeEntries (t ∷ ts) [] = ⊥
  AlikeEntries (t ∷ ts) (u ∷ us) = AlikeEntry t u × AlikeEntries ts us

  alike_into : (name : Bytes) (e f : Entry) → (e.0 ≡ f.0) × (file_leaf kind e.1 ≡ file_leaf kind f.1) → (ts us : List TreeEntry) → AlikeEntries ts us
      → AlikeEntries (into_folder name e ts) (into_folder name f us)
  alike_into name e f same [] [] h = ((refl, (same, tt)), tt)
  alike_into name e f same [] (u ∷ us) h = absurd h
  alike_into name e f same (t ∷ ts) [] h = absurd h
  alike_into name e f same (FileEntry p c ∷ ts) (FileEntry q d ∷ us) h = ((refl, (same, tt)), h)
  alike_into name e f same (FileEntry p c ∷ ts) (FolderEntry q gs ∷ us) h = absurd h.0
  alike_into name e f same (FolderEntry p fs ∷ ts) (FileEntry q d ∷ us) h = absurd h.0
  alike_into name e f same (FolderEntry p fs ∷ ts) (FolderEntry q gs ∷ us) h =
      subst (λ n. AlikeEntries (into_folder name e (FolderEntry p fs ∷ ts)) (cond (bytes_eq name n) (FolderEntry name (f ∷ gs) ∷ us) (FolderEntry name (f ∷ []) ∷ FolderEntry q gs ∷ us)))
      (h.0).0 (go (bytes_eq name p))
    where
      go : (b : Bool) → AlikeEntries (cond b (FolderEntry name (e ∷ fs) ∷ ts) (FolderEntry name (e ∷ []) ∷ FolderEntry p fs ∷ ts))
          (cond b (FolderEntry name (f ∷ gs) ∷ us) (FolderEntry name (f ∷ []) ∷ FolderEntry q gs ∷ us))
      go true = ((refl, (same, (h.0).1)), h.1)
      go false = ((refl, (same, tt)), (h.0, h.1))

  alike_with : (path : Bytes) (c d : Content) → file_leaf kind c ≡ file_leaf kind d → (ts us : List TreeEntry) → AlikeEntries ts us → AlikeEntries (with_file (path, c) ts) (with_file (path, d) us)
  alike_with path c d same ts us h = go (has_byte 47 path)
    where
      go : (b : Bool) → AlikeEntries (cond b (into_folder (before_first (λ b. b == 47) path) (after_first (λ b. b == 47) path, c) ts) (FileEntry path c ∷ ts))
          (cond b (into_folder (before_first (λ b. b == 47) path) (after_first (λ b. b == 47) path, d) us) (FileEntry path d ∷ us))
      go true = alike_into (before_first (λ b. b == 47) path) (after_first (λ b. b == 47) path, c) (after_first (λ b. b == 47) path, d) (refl, same) ts us h
      go false = ((refl, same), h)

  alike_entries : (es fs : List Entry) → AreAlike es fs → AlikeEntries (tree_entries es) (tree_entries fs)
  alike_entries [] [] h = tt
  alike_entries [] (f ∷ fs) h = absurd h
  alike_entries (e ∷ es) [] h = absurd h
  alike_entries (e ∷ es) (f ∷ fs) h =
      subst (λ p. AlikeEntries (with_file e (tree_entries es)) (with_file (p, f.1) (tree_entries fs))) (h.0).0
      (alike_with e.0 e.1 f.1 (h.0).1 (tree_entries es) (tree_entries fs) (alike_entries es fs h.1))

  -- ---- one text

  same_kind : (j k : FileKind) → kind_value (entry_kind j) ≡ kind_value (entry_kind k) → j ≡ k
  same_kind File File e = refl
  same_kind Exec Exec e = refl
  same_kind Link Link e = refl
  same_kind File Exec e = absurd (omega arith)
  same_kind File Link e = absurd (omega arith)
  same_kind Exec File e = absurd (omega arith)
  same_kind Exec Link e = absurd (omega arith)
  same_kind Link File e = absurd (omega arith)
  same_kind Link Exec e = absurd (omega arith)

  alike_roots : (n : ℕ) (es fs : List Entry) → AreAlike es fs → root_within n kind es ≡ root_within n kind fs
  unfolding root_within
  alike_roots zero es fs h = refl
  alike_roots (suc n) es fs h = texts (tree_entries es) (tree_entries fs) (alike_entries es fs h) (λ x y. alike_roots n x y)
    where
      text : TreeEntry → Bytes
      text t = tree_entry_text kind (λ below. root_within n kind below) t

      one : (t u : TreeEntry) → AlikeEntry t u → ((x y : List Entry) → AreAlike x y → root_within n kind x ≡ root_within n kind y)
          → tree_entry_text kind (λ below. root_within n kind below) t ≡ tree_entry_text kind (λ below. root_within n kind below) u
      one (FileEntry p c) (FileEntry q d) (name, leaf) deeper =
          let mode : c.kind ≡ d.kind = same_kind c.kind d.kind (ap (λ (l : Leaf). l.mode.value) leaf) in
          λ i. entry_text (mode_of (mode i)) (name i) ((leaf i).id)
      one (FileEntry p c) (FolderEntry q gs) k deeper = absurd k
      one (FolderEntry p fs) (FileEntry q d) k deeper = absurd k
      one (FolderEntry p fs) (FolderEntry q gs) (name, below) deeper =
          let inner = deeper fs gs below in
          λ i. entry_text (codes "40000") (name i) (digest kind (tree_text (inner i)))

      texts : (ts us : List TreeEntry) → AlikeEntries ts us → ((x y : List Entry) → AreAlike x y → root_within n kind x ≡ root_within n kind y)
          → flat_map (tree_entry_text kind (λ below. root_within n kind below)) ts ≡ flat_map (tree_entry_text kind (λ below. root_within n kind below)) us
      texts [] [] k deeper = refl
      texts [] (u ∷ us) k deeper = absurd k
      texts (t ∷ ts) [] k deeper = absurd k
      texts (t ∷ ts) (u ∷ us) k deeper = let first = one t u k.0 deeper in let rest = texts ts us k.1 deeper in λ i. first i ++ rest i

  -- the same at each path makes one root
  pub same_roots : (a b : FileMap) → ((q : Bytes) → option_map (file_leaf kind) (get a q) ≡ option_map (file_leaf kind) (get b q)) → root kind a ≡ root kind b
  same_roots a b h = root_at kind n a short_a ∙ alike_roots n (entries a) (entries b) (are_alike (entries a) (entries b) (same_facts a b h)) ∙ sym (root_at kind n b short_b)
    where
      n : ℕ
      n = suc (longest (keys a)) + suc (longest (keys b))

      short_a : AreShorter n (entries a)
      short_a e i = let s = are_shorter a e i in omega arith

      short_b : AreShorter n (entries b)
      short_b e i = let s = are_shorter b e i in omega arith

  pub one_root : (a b : FileMap) (there other : unfolded.FileMap) → IsUnfolded kind a there → IsUnfolded kind b other → SameFiles there other → root kind a ≡ root kind b
  one_root a b there other ia ib same = same_roots a b (λ q. sym (ia.at q) ∙ same (components q) ∙ ib.at q)
