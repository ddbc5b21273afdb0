-- A whole store, with values stored in it that name what is stored, is whole.
use Rattle.std.proofs.Common.{◌≡◌, ℕ, ◌+◌, ◌<◌, ◌⊎◌, Bool, true, false, ◌&&◌, List, [], ◌∷◌, ◌++◌, map, length, drop, refl, sym, ◌∙◌, ap, subst, arith, inl, inr, Option, Some, None, is_some, bytes_eq, option_and_then, max, fold, length-append}
use Rattle.std.specs.List.{list_any, flat_map}
use Rattle.std.specs.FinMap.{FinMap, entries, keys, values, get, empty}
use Rattle.history_model.specs.Bytes.{Bytes, by_bytes}
use Rattle.history_model.specs.FileMap.{FileMap, Content, inside, beginnings}
use Rattle.history_model.specs.Objects.{Value, CommitValue, StoredCommit, StoredTag, StoredBytes, StoredFolder, value_text, id_of, empty_tree_id, longest, digest, tree_text}
use Rattle.gix_hash.specs.Id.{Id, null_id}
use Rattle.gix_hash.specs.Order.{id_eq}
use Rattle.history_model.specs.Repository.{Repository, Reference, IsStored, HoldsCommit, as_commit, NamesAreStored, named_ids, file_values, Reaches, named, by_way_of, IsWholeStore}
use Rattle.history_model.specs.Meaning.{store_all, some_taken, is_other}
use Rattle.gix_hash.specs.declared.kind.Kind.{Kind}
use Rattle.history_model.proofs.RowLemmas.{entries-empty, root-empty}
use Rattle.history_model.proofs.WholeLists.{In, all_in, in_all, in_either, of_map, of_flat, same_text, texts_differ, none_is_some, one_passes}
use Rattle.history_model.proofs.WholePaths.{beginning_parts}
use Rattle.history_model.proofs.IdLemmas.{one_id, id_itself, apart_ids}
use Rattle.history_model.proofs.WholeTexts.{text_same}
use Rattle.history_model.proofs.WholeItems.{Entry}
use Rattle.history_model.proofs.WholeRoots.{HasAll, ArePlain, one_map, has_all, all_values, of_inside, are_shorter}
use Rattle.history_model.proofs.WholeStores.{Near, near_same, near_stored, FoldersNear, files_stored, all_keep, all_near, all_from, none_reserved}
use Rattle.std.proofs.lemmas.Bool.{not-false}
use Rattle.std.proofs.lemmas.Option.{same_Some}

-- ---- commits that are held

pub holds_value : (r : Repository) (id : Id) → HoldsCommit r id → (c : CommitValue) × (get r.objects id ≡ Some (StoredCommit c))
holds_value r id h = go (get r.objects id) refl h
  where
    go : (o : Option Value) → get r.objects id ≡ o → is_some (option_and_then as_commit o) ≡ true → (c : CommitValue) × (get r.objects id ≡ Some (StoredCommit c))
    go None e k = cc
    go (Some (StoredCommit c)) e k = (c, e)
    go (Some (StoredTag t)) e k = cc
    go (Some (StoredBytes b)) e k = cc
    go (Some (StoredFolder m)) e k = cc

pub value_holds : (r : Repository) (id : Id) (c : CommitValue) → get r.objects id ≡ Some (StoredCommit c) → HoldsCommit r id
value_holds r id c e = ap (λ o. is_some (option_and_then as_commit o)) e

-- ---- the ids that a value names

-- a store has all of its folders' files
pub has_stored : (r : Repository) → IsWholeStore r → (q : Id) (m : FileMap) → get r.objects q ≡ Some (StoredFolder m) → HasAll (IsStored r) m
has_stored r whole q m at = has_all (IsStored r) m (whole.closed q (StoredFolder m) at)

dropped : {X : Type 0} (x : X) (xs : List X) → In x (drop 1 xs) → In x xs
dropped x [] i = i
dropped x (y ∷ xs) i = inr i

-- if all that a value names is stored, each id that it names has a value
named_there : (r : Repository) (v : Value) → NamesAreStored r v → (to : Id) → In to (named_ids r.kind v) → (w : Value) × (get r.objects to ≡ Some w)
named_there r (StoredCommit c) h to (inl e) = (StoredFolder c.files, ap (get r.objects) e ∙ h.1)
named_there r (StoredCommit c) h to (inr i) = let held = holds_value r to (all_in (HoldsCommit r) c.parents h.0 to i) in (StoredCommit held.0, held.1)
named_there r (StoredTag t) h to (inl e) = let held = holds_value r t.target h in (StoredCommit held.0, ap (get r.objects) e ∙ held.1)
named_there r (StoredTag t) h to (inr i) = absurd i
named_there r (StoredBytes b) h to i = absurd i
named_there r (StoredFolder m) h to i =
    let from = of_map (id_of r.kind) to (drop 1 (file_values m)) i in
    (from.0, ap (get r.objects) from.2 ∙ all_in (IsStored r) (file_values m) h from.0 (dropped from.0 (file_values m) from.1))

named_in : (kind : Kind) (v : Value) (to : Id) → list_any (id_eq to) (named_ids kind v) ≡ true → In to (named_ids kind v)
named_in kind v to h = let one = one_passes (id_eq to) (named_ids kind v) h in subst (λ q. In q (named_ids kind v)) (sym (one_id to one.0 one.2)) one.1

-- ---- ranks

longest_below : (n k : ℕ) (paths : List Bytes) → k < n → ((path : Bytes) → In path paths → length path < n) → fold (λ n path. max n (length path)) k paths < n
longest_below n k [] less h = less
longest_below n k (p ∷ paths) less h = let here = h p (inl refl) in longest_below n (max k (length p)) paths (omega arith) (λ path i. h path (inr i))

-- the folders in a file map have shorter paths
shorter_inside : (m : FileMap) (path : Bytes) (content : Content) (folder : Bytes) → In (path, content) (entries m) → In folder (beginnings path) → longest (keys (inside folder m)) < longest (keys m)
shorter_inside m path content folder i j = longest_below (longest (keys m)) 0 (keys (inside folder m)) some each
  where
    some : 0 < longest (keys m)
    some =
        let parts = beginning_parts path folder j in
        let len = ap length parts.1 in
        let more = length-append folder (47 ∷ parts.0) in
        let least = are_shorter m (path, content) i in
        omega arith

    each : (q : Bytes) → In q (keys (inside folder m)) → length q < longest (keys m)
    each q k =
        let entry = of_map (λ (e : Entry). e.0) q (entries (inside folder m)) k in
        let least = are_shorter m (folder ++ 47 ∷ (entry.0).0, (entry.0).1) (of_inside folder m (entry.0).0 (entry.0).1 entry.1) in
        let more = length-append folder (47 ∷ (entry.0).0) in
        let same = ap length entry.2 in
        omega arith

rank : Value → ℕ
rank (StoredCommit c) = 2 + longest (keys c.files)
rank (StoredTag t) = 0
rank (StoredBytes b) = 0
rank (StoredFolder m) = 1 + longest (keys m)

-- but for the folder itself, the ranks are lower
lower_ranks : (m : FileMap) (v : Value) → In v (drop 1 (file_values m)) → rank v < rank (StoredFolder m)
unfolding rank
lower_ranks m v i = elim (in_either v (map StoredFolder (map (λ folder. inside folder m) (flat_map beginnings (keys m)))) (map (λ content. StoredBytes content.bytes) (values m)) i) [
  | inl a ↦
      let as_value = of_map StoredFolder v (map (λ folder. inside folder m) (flat_map beginnings (keys m))) a in
      let as_folder = of_map (λ folder. inside folder m) as_value.0 (flat_map beginnings (keys m)) as_value.1 in
      let as_path = of_flat beginnings as_folder.0 (keys m) as_folder.1 in
      let as_entry = of_map (λ (e : Entry). e.0) as_path.0 (entries m) as_path.1 in
      let less = shorter_inside m (as_entry.0).0 (as_entry.0).1 as_folder.0 as_entry.1 (subst (λ p. In as_folder.0 (beginnings p)) as_entry.2 as_path.2) in
      subst (λ w. rank w < 1 + longest (keys m)) (sym (as_value.2 ∙ ap StoredFolder as_folder.2)) (omega arith)
  | inr b ↦
      let as_content = of_map (λ (content : Content). StoredBytes content.bytes) v (values m) b in
      subst (λ w. rank w < 1 + longest (keys m)) (sym as_content.2) (omega arith)
]

-- ---- growth

-- the value is to be stored, or its text is
abbrev pub Coming : Repository → List Value → Value → Type 0
Coming r vs v = In v vs ⊎ Near r.kind r.objects v

-- what a value to be stored names is stored, or is to be stored with it
abbrev pub Fits : Repository → List Value → Value → Type 0
Fits r vs (StoredCommit c) = ((id : Id) → In id c.parents → HoldsCommit r id) × HasAll (Coming r vs) c.files × ArePlain (entries c.files)
Fits r vs (StoredTag t) = HoldsCommit r t.target
Fits r vs (StoredBytes b) = Unit {0}
Fits r vs (StoredFolder m) = HasAll (Coming r vs) m × ArePlain (entries m)

has_map : (P Q : Value → Type 0) → ((v : Value) → P v → Q v) → (m : FileMap) → HasAll P m → HasAll Q m
has_map P Q f m h = record {
  itself = f (StoredFolder m) h.itself;
  folders = λ path content folder i j. f (StoredFolder (inside folder m)) (h.folders path content folder i j);
  bytes = λ path content i. f (StoredBytes content.bytes) (h.bytes path content i);
}

module _ (r : Repository) (whole : IsWholeStore r) (plain : (q : Id) (m : FileMap) → get r.objects q ≡ Some (StoredFolder m) → ArePlain (entries m))
    (vs : List Value) (free : some_taken r.kind r.objects vs ≡ false) (fits : (v : Value) → In v vs → Fits r vs v)
    (names : FinMap by_bytes Reference) (branch : Bytes) where
  abbrev new : Repository
  new = record { kind = r.kind; names = names; branch = branch; objects = store_all r.kind r.objects vs }

  keeps : (q : Id) (x : Value) → get r.objects q ≡ Some x → get new.objects q ≡ Some x
  keeps q x h = all_keep r.kind r.objects vs q x h

  near : (v : Value) → Coming r vs v → Near r.kind new.objects v
  near v (inl i) = all_near r.kind r.objects vs free v i
  near v (inr h) = (h.0, keeps (id_of r.kind v) h.0 h.1, h.2)

  folders_near : FoldersNear r.kind new.objects
  folders_near q m at = elim (all_from r.kind r.objects vs q (StoredFolder m) at) [
    | inl old ↦ (has_map (IsStored r) (Near r.kind new.objects) (λ v h. near v (inr (near_stored r.kind r.objects v h))) m (has_stored r whole q m old), plain q m old)
    | inr made ↦ (has_map (Coming r vs) (Near r.kind new.objects) near m (fits (StoredFolder m) made.0).0, (fits (StoredFolder m) made.0).1)
  ]

  -- a folder of which all comes is stored, with all of it
  pub come_folder : (m : FileMap) → HasAll (Coming r vs) m → ArePlain (entries m) → HasAll (IsStored new) m
  come_folder m has plain = files_stored r.kind new.objects folders_near m (has_map (Coming r vs) (Near r.kind new.objects) near m has) plain

  pub made_folder : (m : FileMap) → In (StoredFolder m) vs → HasAll (IsStored new) m
  made_folder m i = let named = fits (StoredFolder m) i in come_folder m named.0 named.1

  pub holds_kept : (id : Id) → HoldsCommit r id → HoldsCommit new id
  holds_kept id h = let held = holds_value r id h in value_holds new id held.0 (keeps id (StoredCommit held.0) held.1)

  kept_names : (v : Value) → NamesAreStored r v → NamesAreStored new v
  kept_names (StoredCommit c) h = (in_all (HoldsCommit new) c.parents (λ id i. holds_kept id (all_in (HoldsCommit r) c.parents h.0 id i)), keeps (id_of r.kind (StoredFolder c.files)) (StoredFolder c.files) h.1)
  kept_names (StoredTag t) h = holds_kept t.target h
  kept_names (StoredBytes b) h = tt
  kept_names (StoredFolder m) h = in_all (IsStored new) (file_values m) (λ v i. keeps (id_of r.kind v) v (all_in (IsStored r) (file_values m) h v i))

  made_names : (v : Value) → In v vs → NamesAreStored new v
  made_names (StoredCommit c) i = let named = fits (StoredCommit c) i in (in_all (HoldsCommit new) c.parents (λ id j. holds_kept id (named.0 id j)), (come_folder c.files named.1 named.2).itself)
  made_names (StoredTag t) i = holds_kept t.target (fits (StoredTag t) i)
  made_names (StoredBytes b) i = tt
  made_names (StoredFolder m) i = all_values (IsStored new) m (made_folder m i)

  closed : (q : Id) (v : Value) → get new.objects q ≡ Some v → NamesAreStored new v
  closed q v at = elim (all_from r.kind r.objects vs q v at) [ inl old ↦ kept_names v (whole.closed q v old) | inr made ↦ made_names v made.0 ]

  own : (q : Id) (v : Value) → get new.objects q ≡ Some v → q ≡ id_of r.kind v
  own q v at = elim (all_from r.kind r.objects vs q v at) [ inl old ↦ whole.own_ids q v old | inr made ↦ made.1 ]

  -- ---- no object reaches itself

  abbrev There : Id → Type 0
  There q = (v : Value) × (get r.objects q ≡ Some v)

  reaches_old : {a b : Id} → Reaches new a b → There a → Reaches r a b × There b
  reaches_old {a} {b} (named value at h) there =
      let same : there.0 ≡ value = same_Some there.0 value (sym (keeps a there.0 there.1) ∙ at) in
      let old : get r.objects a ≡ Some value = there.1 ∙ ap Some same in
      (named value old h, named_there r value (whole.closed a value old) b (named_in r.kind value b h))
  reaches_old (by_way_of mid first second) there =
      let one = reaches_old first there in
      let two = reaches_old second one.1 in
      (by_way_of mid one.0 two.0, two.1)

  -- from a new object: to what was stored before, or to one of a lower rank
  abbrev Sinks : Id → Id → Type 0
  Sinks a b = There b ⊎ ((v w : Value) × (get new.objects a ≡ Some v) × (get new.objects b ≡ Some w) × (rank w < rank v))

  sinks_named : (a b : Id) (v : Value) → get new.objects a ≡ Some v → In v vs → In b (named_ids r.kind v) → Sinks a b
  unfolding rank
  sinks_named a b (StoredCommit c) at i (inl e) =
      let named = fits (StoredCommit c) i in
      inr (StoredCommit c, StoredFolder c.files, at, ap (get new.objects) e ∙ (come_folder c.files named.1 named.2).itself, omega arith)
  sinks_named a b (StoredCommit c) at i (inr j) = let held = holds_value r b ((fits (StoredCommit c) i).0 b j) in inl (StoredCommit held.0, held.1)
  sinks_named a b (StoredTag t) at i (inl e) = let held = holds_value r t.target (fits (StoredTag t) i) in inl (StoredCommit held.0, ap (get r.objects) e ∙ held.1)
  sinks_named a b (StoredTag t) at i (inr j) = absurd j
  sinks_named a b (StoredBytes bytes) at i j = absurd j
  sinks_named a b (StoredFolder m) at i j =
      let from = of_map (id_of r.kind) b (drop 1 (file_values m)) j in
      inr (
        StoredFolder m,
        from.0,
        at,
        ap (get new.objects) from.2 ∙ all_in (IsStored new) (file_values m) (all_values (IsStored new) m (made_folder m i)) from.0 (dropped from.0 (file_values m) from.1),
        lower_ranks m from.0 from.1,
      )

  there_or_not : (q : Id) → There q ⊎ (get r.objects q ≡ None)
  there_or_not q = go (get r.objects q) refl
    where
      go : (o : Option Value) → get r.objects q ≡ o → There q ⊎ (get r.objects q ≡ None)
      go None e = inr e
      go (Some v) e = inl (v, e)

  sinks : {a b : Id} → Reaches new a b → get r.objects a ≡ None → Sinks a b
  sinks {a} {b} (named value at h) none = elim (all_from r.kind r.objects vs a value at) [
    | inl old ↦ none_is_some value (sym none ∙ old)
    | inr made ↦ sinks_named a b value at made.0 (named_in r.kind value b h)
  ]
  sinks {a} {b} (by_way_of mid first second) none = go (sinks first none) (there_or_not mid) (λ there. (reaches_old second there).1) (λ absent. sinks second absent)
    where
      go : Sinks a mid → There mid ⊎ (get r.objects mid ≡ None) → (There mid → There b) → (get r.objects mid ≡ None → Sinks mid b) → Sinks a b
      go one (inl there) old later = inl (old there)
      go (inl there) (inr absent) old later = inl (old there)
      go (inr one) (inr absent) old later = join one (later absent)
        where
          join : ((v w : Value) × (get new.objects a ≡ Some v) × (get new.objects mid ≡ Some w) × (rank w < rank v)) → Sinks mid b → Sinks a b
          join one (inl there) = inl there
          join (v, w, at_a, at_mid, less) (inr (x, y, at, at_b, lower)) =
              let same = ap rank (same_Some w x (sym at_mid ∙ at)) in
              inr (v, y, at_a, at_b, omega arith)

  acyclic : (q : Id) → Reaches new q q → ⊥
  acyclic q h = go (there_or_not q)
    where
      go : There q ⊎ (get r.objects q ≡ None) → ⊥
      go (inl there) = whole.acyclic q (reaches_old h there).0
      go (inr absent) = down (sinks h absent)
        where
          down : Sinks q q → ⊥
          down (inl there) = none_is_some there.0 (sym absent ∙ there.1)
          down (inr (v, w, at_v, at_w, less)) = let same = ap rank (same_Some v w (sym at_v ∙ at_w)) in absurd (omega arith)

  -- ---- the null id and the empty tree's

  null : get new.objects (null_id r.kind) ≡ None
  null = go (get new.objects (null_id r.kind)) refl
    where
      go : (o : Option Value) → get new.objects (null_id r.kind) ≡ o → o ≡ None
      go None e = refl
      go (Some v) e = elim (all_from r.kind r.objects vs (null_id r.kind) v e) [
        | inl old ↦ none_is_some v (sym whole.null ∙ old)
        | inr made ↦ apart_ids (id_of r.kind v) (null_id r.kind) (none_reserved r.kind r.objects vs free v made.0).0 (sym made.1)
      ]

  no_entry : {A : Type 0} (e : Entry) → In e (entries (empty {X = Content} {R = by_bytes})) → A
  no_entry e i = absurd (subst (λ es. In e es) entries-empty i)

  empty_id : id_of r.kind (StoredFolder empty) ≡ empty_tree_id r.kind
  empty_id = ap (λ t. digest r.kind (tree_text t)) (root-empty r.kind)

  is_empty_folder : (v : Value) → get new.objects (empty_tree_id r.kind) ≡ Some v → In v vs → value_text r.kind (StoredFolder empty) ≡ value_text r.kind v → v ≡ StoredFolder empty
  is_empty_folder (StoredCommit c) at i same = texts_differ _ _ refl (text_same r.kind (StoredFolder empty) (StoredCommit c) same).0
  is_empty_folder (StoredTag t) at i same = texts_differ _ _ refl (text_same r.kind (StoredFolder empty) (StoredTag t) same).0
  is_empty_folder (StoredBytes b) at i same = texts_differ _ _ refl (text_same r.kind (StoredFolder empty) (StoredBytes b) same).0
  is_empty_folder (StoredFolder m) at i same =
      let of_m = folders_near (empty_tree_id r.kind) m at in
      let of_empty : HasAll (Near r.kind new.objects) empty = record {
        itself = (StoredFolder m, ap (get new.objects) empty_id ∙ at, sym same);
        folders = λ path content folder i j. no_entry (path, content) i;
        bytes = λ path content i. no_entry (path, content) i;
      } in
      ap StoredFolder (one_map r.kind (Near r.kind new.objects) (near_same r.kind new.objects) m empty of_m.1 (λ e i. no_entry e i) of_m.0 of_empty (sym (text_same r.kind (StoredFolder empty) (StoredFolder m) same).1))

  reserved : (v : Value) → In v vs → empty_tree_id r.kind ≡ id_of r.kind v → value_text r.kind (StoredFolder empty) ≡ value_text r.kind v
  reserved v i e = same_text (value_text r.kind (StoredFolder empty)) (value_text r.kind v) (not-false (bytes_eq (value_text r.kind (StoredFolder empty)) (value_text r.kind v))
      (go (id_eq (id_of r.kind v) (empty_tree_id r.kind)) (ap (λ q. id_eq q (empty_tree_id r.kind)) (sym e) ∙ id_itself (empty_tree_id r.kind)) (none_reserved r.kind r.objects vs free v i).1))
    where
      go : (b : Bool) → b ≡ true → (b && is_other r.kind (value_text r.kind (StoredFolder empty)) v) ≡ false → is_other r.kind (value_text r.kind (StoredFolder empty)) v ≡ false
      go true h k = k
      go false h k = cc

  empty_tree : (v : Value) → get new.objects (empty_tree_id r.kind) ≡ Some v → v ≡ StoredFolder empty
  empty_tree v at = elim (all_from r.kind r.objects vs (empty_tree_id r.kind) v at) [ inl old ↦ whole.empty_tree v old | inr made ↦ is_empty_folder v at made.0 (reserved v made.0 made.1) ]

  pub grown_whole : IsWholeStore new
  grown_whole = record { own_ids = own; closed = closed; acyclic = acyclic; null = null; empty_tree = empty_tree }
