-- A graft in a file map is a put of what its source's entry leads to.
use Rattle.std.proofs.Common.{◌≡◌, ◌≢◌, ℕ, ◌⊎◌, Bool, true, false, cond, not, ◌||◌, List, [], ◌∷◌, ◌++◌, ◌+◌, length, drop, refl, sym, ◌∙◌, ap, subst, arith, inl, inr, Option, Some, None, is_some, option_map, bytes_eq, codes, IfSome}
use Rattle.std.specs.List.{filter_map, cons_option}
use Rattle.std.specs.FinMap.{entries, keys, get, insert, contains_key}
use Rattle.gix_hash.specs.Id.{Id, id_of, null_id}
use Rattle.gix_hash.specs.declared.kind.Kind.{Kind}
use Rattle.gix_hash.specs.declared.object_id.ObjectId.{ObjectId}
use Rattle.gix_object_lookup.specs.Table.{Table}
use Rattle.gix_object_nodes.specs.Files as unfolded
use Rattle.gix_object_nodes.specs.Files.{Path, Leaf, Trees, behind, files_of_entry, is_null}
use Rattle.gix_object_editor.specs.Stored.{HasStored}
use Rattle.history_model.specs.Bytes.{Bytes, is_empty}
use Rattle.history_model.specs.FileMap.{FileMap, Content, IsFileMap, Graft, carried, cleared, components, edited, has_below, inside, is_path, is_below, is_within, rest_behind, with_all, with_rest}
use Rattle.history_model.specs.Objects.{blob_id, folder_id, mode_of}
use Rattle.history_model.specs.declared.FileKind.{FileKind}
use Rattle.history_model.proofs.AfterFirstLemmas.{get-with}
use Rattle.history_model.proofs.GraftLemmas.{IsCarried, FollowsAs, had_all, of_carried, follows_there}
use Rattle.history_model.proofs.WholeLists.{In, clash, either, none_is_some, same_text, text_itself}
use Rattle.history_model.proofs.WholePaths.{below_front, drop_below}
use Rattle.history_model.proofs.WholeStores.{get_in, get_retained, in_get}
use Rattle.history_model.proofs.RecoveredLemmas.{some_is}
use Rattle.history_files.specs.Unfolding.{file_leaf, IsUnfolded}
use Rattle.history_files.proofs.Components.{below_by, below_rest, behind_parts, is_behind, parts_below, rest_front, rest_parts, some_parts}
use Rattle.history_files.proofs.Unfolded.{get_inside, inside_map, leaf_below, leaf_itself, leaf_no_tree, none_if, root_unfolds, tree_there}
use Rattle.gix_object_nodes.proofs.Paths.{behind_is}
use Rattle.std.proofs.lemmas.Bool.{or_parts}
use Rattle.std.proofs.lemmas.List.{length-append}
use Rattle.std.proofs.lemmas.Option.{same_Some}

-- ---- lists of files put into a map

stays : (es : List (Bytes × Content)) (m : FileMap) (q : Bytes) → is_some (get m q) ≡ true → is_some (get (with_all es m) q) ≡ true
stays [] m q h = h
stays (e ∷ es) m q h = stays es (insert m e.0 e.1) q (ap is_some (get-with m e.0 e.1 q) ∙ go (bytes_eq q e.0))
  where
    go : (b : Bool) → is_some (cond b (Some e.1) (get m q)) ≡ true
    go true = refl
    go false = h

put_there : (es : List (Bytes × Content)) (m : FileMap) (q : Bytes) (c : Content) → In (q, c) es → is_some (get (with_all es m) q) ≡ true
put_there [] m q c i = absurd i
put_there (e ∷ es) m q c (inr i) = put_there es (insert m e.0 e.1) q c i
put_there (e ∷ es) m q c (inl i) =
    stays es (insert m e.0 e.1) q (ap is_some (get-with m e.0 e.1 q ∙ ap (λ b. cond b (Some e.1) (get m q)) (ap (λ k. bytes_eq q k) (sym (ap (λ (x : Bytes × Content). x.0) i)) ∙ text_itself q)))

put_nowhere : (es : List (Bytes × Content)) (m : FileMap) (q : Bytes) → ((c : Content) → In (q, c) es → ⊥) → get (with_all es m) q ≡ get m q
put_nowhere [] m q none = refl
put_nowhere (e ∷ es) m q none = put_nowhere es (insert m e.0 e.1) q (λ c i. none c (inr i)) ∙ get-with m e.0 e.1 q ∙ go (bytes_eq q e.0) refl
  where
    go : (b : Bool) → bytes_eq q e.0 ≡ b → cond b (Some e.1) (get m q) ≡ get m q
    go true h = absurd (none e.1 (inl (λ i. (same_text q e.0 h i, e.1))))
    go false h = refl

-- if nothing was at a path, then after the puts what the list says is there
by_list : (es : List (Bytes × Content)) (m : FileMap) (q : Bytes) (o : Option Content) → ((c : Content) → o ≡ Some c → In (q, c) es) → ((c : Content) → In (q, c) es → o ≡ Some c) → get m q ≡ None → get (with_all es m) q ≡ o
by_list es m q None to from none = put_nowhere es m q (λ c i. none_is_some c (from c i)) ∙ none
by_list es m q (Some c) to from none =
    let some = some_is (get (with_all es m) q) (put_there es m q c (to c refl)) in
    some.1 ∙ elim (had_all es m q some.0 some.1) [
      | inl i ↦ sym (from some.0 i)
      | inr g ↦ none_is_some some.0 (sym none ∙ g)
    ]

-- ---- what is carried

in_filter : {X Y : Type 0} (f : X → Option Y) (x : X) (y : Y) (xs : List X) → In x xs → f x ≡ Some y → In y (filter_map f xs)
in_filter f x y [] i e = absurd i
in_filter {Y = Y} f x y (z ∷ zs) i e = go (f z) refl i (λ j. in_filter f x y zs j e)
  where
    go : (o : Option Y) → f z ≡ o → (x ≡ z) ⊎ In x zs → (In x zs → In y (filter_map f zs)) → In y (cons_option o (filter_map f zs))
    go None g (inl s) rest = none_is_some y (sym g ∙ sym (ap f s) ∙ e)
    go None g (inr j) rest = rest j
    go (Some w) g (inl s) rest = inl (same_Some y w (sym e ∙ ap f s ∙ g))
    go (Some w) g (inr j) rest = inr (rest j)

to_carried : (path source : Bytes) (files : FileMap) (q rest : Bytes) (c : Content) → get files q ≡ Some c → rest_behind source q ≡ Some rest → In (with_rest path rest, c) (carried path source files)
to_carried path source files q rest c at behind =
    in_filter (λ (e : Bytes × Content). option_map {U = Bytes × Content} (λ rest. (with_rest path rest, e.1)) (rest_behind source e.0)) (q, c) (with_rest path rest, c) (entries files) (get_in files q c at)
    (ap (option_map {U = Bytes × Content} (λ rest. (with_rest path rest, c))) behind)

-- the files of a source: all of them at an empty one
abbrev pub source_files : Bytes → FileMap → FileMap
source_files [] files = files
source_files (b ∷ source) files = inside (b ∷ source) files

-- the file that is a source itself
abbrev pub source_file : Bytes → FileMap → Option Content
source_file [] files = None
source_file (b ∷ source) files = get files (b ∷ source)

rest_itself : (b : ℕ) (source : Bytes) → rest_behind (b ∷ source) (b ∷ source) ≡ Some []
rest_itself b source = ap (λ t. cond t (Some []) (cond (is_below (b ∷ source) (b ∷ source)) (Some (drop (length (b ∷ source) + 1) (b ∷ source))) None)) (text_itself (b ∷ source))

not_itself : (p r : Bytes) → bytes_eq p (p ++ 47 ∷ r) ≡ false
not_itself p r = elim (either (bytes_eq p (p ++ 47 ∷ r))) [
  | inl e ↦
      let same = ap length (same_text p (p ++ 47 ∷ r) e) in
      let longer = length-append p (47 ∷ r) in
      absurd (omega arith)
  | inr e ↦ e
]

rest_below : (b : ℕ) (source r : Bytes) → rest_behind (b ∷ source) ((b ∷ source) ++ 47 ∷ r) ≡ Some r
rest_below b source r =
    ap (λ t. cond t (Some []) (cond (is_below (b ∷ source) ((b ∷ source) ++ 47 ∷ r)) (Some (drop (length (b ∷ source) + 1) ((b ∷ source) ++ 47 ∷ r))) None)) (not_itself (b ∷ source) r)
    ∙ ap (λ t. cond t (Some (drop (length (b ∷ source) + 1) ((b ∷ source) ++ 47 ∷ r))) None) (below_front (b ∷ source) r)
    ∙ ap Some (drop_below (b ∷ source) r)

no_path : {A : Type 0} → is_path [] ≡ true → A
no_path h = cc

slash_first : {A : Type 0} (rest : Bytes) → is_path (47 ∷ rest) ≡ true → A
slash_first rest h = cc

module _ (path source : Bytes) (other : FileMap) (map : IsFileMap other) where
  no_rest : (rest : Bytes) → path ≡ with_rest path rest → rest ≡ []
  no_rest [] e = refl
  no_rest (b ∷ rest) e =
      let same = ap length e in
      let longer = length-append path (47 ∷ b ∷ rest) in
      absurd (omega arith)

  this_rest : (r rest : Bytes) → path ++ 47 ∷ r ≡ with_rest path rest → (rest ≡ r) × (rest ≢ [])
  this_rest r [] e =
      let same = ap length e in
      let longer = length-append path (47 ∷ r) in
      absurd (omega arith)
  this_rest r (b ∷ rest) e =
      let same = same_Some (b ∷ rest) r (sym (rest_front path (b ∷ rest)) ∙ ap (below_rest path) (sym e) ∙ rest_front path r) in
      (same, λ none. cc)

  as_there : (q : Bytes) (c : Content) (a : IsCarried path source other q c) → FollowsAs source a.from a.rest
  as_there q c a = follows_there path source other map q c a

  got : (q : Bytes) (c : Content) (a : IsCarried path source other q c) → get other a.from ≡ Some c
  got q c a = in_get other a.from c a.stands

  -- at the path itself
  pub itself_to : (c : Content) → source_file source other ≡ Some c → In (path, c) (carried path source other)
  itself_to c e = go source e
    where
      go : (s : Bytes) → source_file s other ≡ Some c → In (path, c) (carried path s other)
      go [] e = none_is_some c e
      go (b ∷ s) e = to_carried path (b ∷ s) other (b ∷ s) [] c e (rest_itself b s)

  pub itself_from : (c : Content) → In (path, c) (carried path source other) → source_file source other ≡ Some c
  itself_from c i =
      let a = of_carried path source other path c i in
      let f = as_there path c a in
      let at = f.nothing (no_rest a.rest a.is) in
      go source (ap (get other) (sym at) ∙ got path c a) (ap is_path (sym at) ∙ f.named)
    where
      go : (s : Bytes) → get other s ≡ Some c → is_path s ≡ true → source_file s other ≡ Some c
      go [] e named = no_path named
      go (b ∷ s) e named = e

  -- below it
  pub below_to : (r : Bytes) (c : Content) → get (source_files source other) r ≡ Some c → In (path ++ 47 ∷ r, c) (carried path source other)
  below_to r c e = go source r e
    where
      named : (m : FileMap) → get m [] ≡ Some c → IsFileMap m → ⊥
      named m g fits = no_path (fits.paths [] (ap is_some g))

      go : (s r : Bytes) → get (source_files s other) r ≡ Some c → In (path ++ 47 ∷ r, c) (carried path s other)
      go [] [] e = absurd (named other e map)
      go [] (d ∷ r) e = to_carried path [] other (d ∷ r) (d ∷ r) c e refl
      go (b ∷ s) [] e = absurd (named (inside (b ∷ s) other) e (inside_map (b ∷ s) other map))
      go (b ∷ s) (d ∷ r) e = to_carried path (b ∷ s) other ((b ∷ s) ++ 47 ∷ d ∷ r) (d ∷ r) c (sym (get_inside (b ∷ s) other (d ∷ r)) ∙ e) (rest_below b s (d ∷ r))

  pub below_from : (r : Bytes) (c : Content) → In (path ++ 47 ∷ r, c) (carried path source other) → get (source_files source other) r ≡ Some c
  below_from r c i =
      let a = of_carried path source other (path ++ 47 ∷ r) c i in
      let f = as_there (path ++ 47 ∷ r) c a in
      let rest = this_rest r a.rest a.is in
      by_source source r a.from (subst (λ x. (a.from ≡ source ++ 47 ∷ x) ⊎ ((source ≡ []) × (x ≡ a.from))) rest.0 (f.at rest.1)) (got (path ++ 47 ∷ r) c a) f.named
    where
      by_source : (s r from : Bytes) → (from ≡ s ++ 47 ∷ r) ⊎ ((s ≡ []) × (r ≡ from)) → get other from ≡ Some c → is_path from ≡ true → get (source_files s other) r ≡ Some c
      by_source [] r from (inl e) g named = slash_first r (ap is_path (sym e) ∙ named)
      by_source [] r from (inr h) g named = ap (get other) h.1 ∙ g
      by_source (b ∷ s) r from (inl e) g named = get_inside (b ∷ s) other r ∙ ap (get other) (sym e) ∙ g
      by_source (b ∷ s) r from (inr h) g named = let bad : b ∷ s ≡ [] = h.0 in cc

  -- what the map holds then, by what follows the path
  module _ (files : FileMap) where
    abbrev new : FileMap
    new = with_all (carried path source other) (cleared path files)

    cleared_at : (q : Bytes) → get (cleared path files) q ≡ cond (not (is_within path q || is_within q path)) (get files q) None
    cleared_at q = get_retained files (λ x. not (is_within path x || is_within x path)) q

    none_within : (q : Bytes) → is_within path q ≡ true → get (cleared path files) q ≡ None
    none_within q h = cleared_at q ∙ ap (λ b. cond (not (b || is_within q path)) (get files q) None) h

    at_itself : get new path ≡ source_file source other
    at_itself = by_list (carried path source other) (cleared path files) path (source_file source other) itself_to itself_from
        (none_within path (ap (λ b. b || is_below path path) (text_itself path)))

    at_below : (r : Bytes) → get new (path ++ 47 ∷ r) ≡ get (source_files source other) r
    at_below r = by_list (carried path source other) (cleared path files) (path ++ 47 ∷ r) (get (source_files source other) r) (below_to r) (below_from r)
        (none_within (path ++ 47 ∷ r) (ap (λ b. b || is_below path (path ++ 47 ∷ r)) (not_itself path r) ∙ below_front path r))

    at_others : (q : Bytes) → is_within path q ≡ false → get new q ≡ cond (not (is_within q path)) (get files q) None
    at_others q h =
        put_nowhere (carried path source other) (cleared path files) q (λ c i. let a = of_carried path source other q c i in outside a.rest a.is)
        ∙ cleared_at q ∙ ap (λ b. cond (not (b || is_within q path)) (get files q) None) h
      where
        outside : (rest : Bytes) → q ≡ with_rest path rest → ⊥
        outside [] e = clash (ap (λ b. b || is_below path q) (ap (bytes_eq path) e ∙ text_itself path)) h
        outside (b ∷ rest) e = clash (ap (is_below path) e ∙ below_front path (b ∷ rest)) (or_parts (bytes_eq path q) (is_below path q) h).1

-- ---- what an entry leads to

-- over these trees the entry has this file itself, or those of a folder
pub record LeafHas (kind : Kind) (trees : Trees) (leaf : Leaf) (file : Option Content) (below : FileMap) : Type 0 where
  pub itself : files_of_entry trees [] leaf ≡ option_map (file_leaf kind) file
  pub inside_it : (r : Bytes) → files_of_entry trees (components r) leaf ≡ option_map (file_leaf kind) (get below r)
  pub only : (name : Bytes) (rest : Path) (found : Leaf) → files_of_entry trees (name ∷ rest) leaf ≡ Some found → (p : Bytes) × (components p ≡ name ∷ rest)

-- if the entry has what is at the source, a put of it comes to the graft
module _ (kind : Kind) (files : FileMap) (there : unfolded.FileMap) (is : IsUnfolded kind files there) (path source : Bytes) (other : FileMap) (map : IsFileMap other) (trees : Trees) (leaf : Leaf)
    (has : LeafHas kind trees leaf (source_file source other) (source_files source other)) where
  at_case : (q : Bytes) (t : Bool) → bytes_eq path q ≡ t → (o : Option Bytes) → below_rest path q ≡ o
      → unfolded.put_at trees leaf (cond t (Some []) (option_map components o)) (cond (is_some (behind (components q) (components path))) None (there (components q)))
      ≡ option_map (file_leaf kind) (get (edited files (Graft path source other)) q)
  at_case q true e o f = has.itself ∙ ap (option_map (file_leaf kind)) (sym (ap (get (edited files (Graft path source other))) (sym (same_text path q e)) ∙ at_itself path source other map files))
  at_case q false e (Some r) f =
      has.inside_it r ∙ ap (option_map (file_leaf kind)) (sym (ap (get (edited files (Graft path source other))) (rest_parts path q r f) ∙ at_below path source other map files r))
  at_case q false e None f =
      ap (λ b. cond b None (there (components q))) (is_behind q path) ∙ go (is_within q path)
      ∙ ap (option_map (file_leaf kind)) (sym (at_others path source other map files q (ap (λ b. b || is_below path q) e ∙ sym (below_by path q) ∙ ap is_some f)))
    where
      go : (b : Bool) → cond b None (there (components q)) ≡ option_map (file_leaf kind) (cond (not b) (get files q) None)
      go true = refl
      go false = is.at q

  append_none : (ps : Path) → ps ++ [] ≡ ps
  append_none [] = refl
  append_none (p ∷ ps) = ap (λ qs. p ∷ qs) (append_none ps)

  only : (names : Path) (found : Leaf) (o : Option Path) → behind (components path) names ≡ o → (b : Bool)
      → unfolded.put_at trees leaf o (cond b None (there names)) ≡ Some found → (p : Bytes) × (components p ≡ names)
  only names found (Some []) h b e = (path, sym (behind_is (components path) names [] h ∙ append_none (components path)))
  only names found (Some (name ∷ rest)) h b e =
      let inner = has.only name rest found e in
      (path ++ 47 ∷ inner.0, parts_below path inner.0 ∙ ap (λ ps. components path ++ ps) inner.1 ∙ sym (behind_is (components path) names (name ∷ rest) h))
  only names found None h true e = none_is_some found e
  only names found None h false e = is.only names found e

  pub graft_put : IsUnfolded kind (edited files (Graft path source other)) (unfolded.put trees (components path) leaf there)
  graft_put = record {
    at = λ q.
        ap (λ o. unfolded.put_at trees leaf o (cond (is_some (behind (components q) (components path))) None (there (components q)))) (behind_parts path q)
        ∙ at_case q (bytes_eq path q) refl (below_rest path q) refl;
    only = λ names found e. only names found (behind (components path) names) refl (is_some (behind names (components path))) e;
  }
