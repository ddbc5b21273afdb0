-- Where the objects part has files and folders.
use Rattle.std.proofs.Common.{◌≡◌, ◌⊎◌, inl, inr, refl, sym, ◌∙◌, ap, subst, ℕ, ◌+◌, ◌<◌, ◌≤◌, Bool, true, false, cond, not, ◌&&◌, ◌||◌, List, [], ◌∷◌, ◌++◌, length, take, drop, bytes_eq, arith, tests, length-append, length-take, length-drop}
use Rattle.std.specs.Prelude.{IsTrue, IsFalse, Option, Some, None, ◌==◌, nat_lt, nat_le, codes}
use Rattle.std.specs.List.{list_all, list_any, slice_split, onto_first}
use Rattle.std.specs.FinMap.{get}
use Rattle.std.proofs.lemmas.Bool.Decides.{Decides-eqb}
use Rattle.std.proofs.lemmas.Slice.Eq.{bytes_eq-Decides}
use borrow.Author.Tests.{eqb-true, ltb-false}
use Rattle.gix_ref_file.specs.Tree.{Tree, Node, file, folder, node_at, parent, is_folder, is_slash, is_component, is_path}
use Rattle.history_model.specs.Bytes.{Bytes, begins}
use Rattle.history_model.specs.Objects.{hex}
use Rattle.gix_hash.specs.Id.{Id}
use Rattle.gix_hash.specs.Kind.{hex_len}
use Rattle.history_model.specs.Forms.{is_id}
use Rattle.history_model.specs.Places.{file_at, object_place, unfinished_place, is_lower_hex, is_object_folder}
use Rattle.history_layout.specs.TreeHalves.{HoldsValues}
use Rattle.history_model.specs.Repository.{Values, HaveOwnIds}
use Rattle.gix_hash.specs.declared.kind.Kind.{Kind}
use Rattle.gix_hash.specs.declared.kind.Kind.TheVariants.{Sha1, Sha256}
use Rattle.history_model.proofs.PlaceLemmas.{id_length, file_has_id}
use Rattle.gix_ref_way.specs.Ways.{IsAbove, NoFileAbove, HasFoldersAbove, FoldersAbove}
use Rattle.history_store.specs.Stores.{IsObjectPlace, IsObjectPart}
use Rattle.history_texts.proofs.FirstParts.{behind, none_above}
use Rattle.history_store.proofs.FolderPlaces.{object_above, two_digits, hex_lower}
use Rattle.history_store.proofs.OwnFolders.{own_folder}
use Rattle.gix_ref_way.proofs.FoldersMade.{above_above, above_shorter, in_root_or_below, split_joined}
use Rattle.std.proofs.lemmas.Bool.{and_parts}
use Rattle.history_model.proofs.IdLemmas.{length-hex}

-- The files of values are a part of objects.
pub values_are_objects : (kind : Kind) (tree : Tree) (values : Values) → HoldsValues kind tree values → HaveOwnIds kind values → IsObjectPart tree
values_are_objects kind tree values holds own = record {
  files = λ path text is. let found = file_has_id kind values own path text (sym (holds.files path) ∙ is) in inl (kind, found.0, found.1, found.2);
  folders = holds.folders;
}

-- ---- lengths
hex_length : (kind : Kind) (id : Id) → is_id kind id ≡ true → length (hex id) ≡ hex_len kind
hex_length kind id h = length-hex id ∙ id_length kind id h

place_length : (h : Bytes) → 2 ≤ length h → length (codes "objects/" ++ take 2 h ++ 47 ∷ drop 2 h) ≡ length h + 9
place_length h long = omega (arith, length-append (codes "objects/" ++ take 2 h) (47 ∷ drop 2 h), length-append (codes "objects/") (take 2 h), length-take 2 h, length-drop 2 h)

placed_length : (kind : Kind) (id : Id) → is_id kind id ≡ true → length (object_place id) ≡ hex_len kind + 9
placed_length kind id is = place_length (hex id) (two_digits kind id is) ∙ ap (λ n. n + 9) (hex_length kind id is)

-- deeper than each folder of objects, and within the limit of paths
pub object_place_length : (path : Bytes) → IsObjectPlace path → (10 < length path) × (length path ≤ 4096)
object_place_length path (kind, id, is, at) = by_kind kind (ap length at ∙ placed_length kind id is)
  where
    by_kind : (kind : Kind) → length path ≡ hex_len kind + 9 → (10 < length path) × (length path ≤ 4096)
    by_kind Sha1 long = (omega (arith, long), omega (arith, long))
    by_kind Sha256 long = (omega (arith, long), omega (arith, long))

folder_length : (path : Bytes) → is_object_folder path ≡ true → (length path ≡ 7) ⊎ (length path ≡ 10)
folder_length path is = by_root (bytes_eq path (codes "objects")) refl is
  where
    by_root : (b : Bool) → bytes_eq path (codes "objects") ≡ b → (b || (begins (codes "objects/") path && length path == 10 && list_all is_lower_hex (drop 8 path))) ≡ true → (length path ≡ 7) ⊎ (length path ≡ 10)
    by_root true root h = inl (ap length ((bytes_eq-Decides path (codes "objects")).0 root))
    by_root false other h = inr (eqb-true _ _ (and_parts (begins (codes "objects/") path) (length path == 10) (and_parts (begins (codes "objects/") path && length path == 10) (list_all is_lower_hex (drop 8 path)) h).0).1)

folder_short : (path : Bytes) → is_object_folder path ≡ true → length path ≤ 10
folder_short path is = by_length (folder_length path is)
  where
    by_length : (length path ≡ 7) ⊎ (length path ≡ 10) → length path ≤ 10
    by_length (inl root) = omega (arith, root)
    by_length (inr inner) = omega (arith, inner)

-- files are deep in the part, and no folder is
file_long : (tree : Tree) (path text : Bytes) → IsObjectPart tree → file_at tree path ≡ Some text → 10 < length path
file_long tree path text part is = by_case (part.files path text is)
  where
    by_case : IsObjectPlace path ⊎ (path ≡ unfinished_place) → 10 < length path
    by_case (inl placed) = (object_place_length path placed).0
    by_case (inr same) = omega (arith, ap length same)

pub no_deep_folder : (tree : Tree) → ((path : Bytes) → get tree path ≡ Some folder → IsTrue (is_object_folder path)) → (path : Bytes) → 10 < length path → IsFalse (is_folder (node_at tree path))
no_deep_folder tree folders [] deep = absurd (omega (arith, deep))
no_deep_folder tree folders (b ∷ path) deep = by_case (get tree (b ∷ path)) refl
  where
    by_case : (o : Option Node) → get tree (b ∷ path) ≡ o → IsFalse (is_folder o)
    by_case None is = refl
    by_case (Some (file bytes)) is = refl
    by_case (Some folder) is = absurd (omega (arith, deep, folder_short (b ∷ path) (folders (b ∷ path) is)))

-- ---- what an object's place is below
pub place_above : (place path : Bytes) → IsObjectPlace path → IsAbove place path → IsTrue (is_object_folder place)
place_above place path (kind, id, is, at) (rest, below) =
    object_above (hex id) place (two_digits kind id is) (hex_lower kind id is) (rest, sym at ∙ below)

-- the folder that its own folder is in is in the root
pub outer_in_root : (path own outer : Bytes) → IsObjectPlace path → own ≡ parent path → outer ≡ parent own → parent outer ≡ []
outer_in_root path own outer placed is out = by_case (in_root_or_below outer) (own_folder own outer out) (own_folder path own is)
  where
    no_third : (n m k : ℕ) → (n ≡ 7) ⊎ (n ≡ 10) → n < m → (m ≡ 7) ⊎ (m ≡ 10) → m < k → k ≤ 10 → ⊥
    no_third n m k (inl is_n) first (inl is_m) second last = omega (arith, is_n, first, is_m)
    no_third n m k (inl is_n) first (inr is_m) second last = omega (arith, is_m, second, last)
    no_third n m k (inr is_n) first (inl is_m) second last = omega (arith, is_n, first, is_m)
    no_third n m k (inr is_n) first (inr is_m) second last = omega (arith, is_n, first, is_m)

    by_case : (parent outer ≡ []) ⊎ IsAbove (parent outer) outer → (outer ≡ []) ⊎ IsAbove outer own → (own ≡ []) ⊎ IsAbove own path → parent outer ≡ []
    by_case (inl root) second third = root
    by_case (inr first) (inl root) third = absurd (omega (arith, above_shorter (parent outer) outer first, ap length root))
    by_case (inr first) (inr second) (inl root) = absurd (omega (arith, above_shorter outer own second, ap length root))
    by_case (inr first) (inr second) (inr third) =
        let within = above_above outer own path second third in
        let outermost = above_above (parent outer) outer path first within in
        absurd (no_third (length (parent outer)) (length outer) (length own)
        (folder_length (parent outer) (place_above (parent outer) path placed outermost)) (above_shorter (parent outer) outer first)
        (folder_length outer (place_above outer path placed within)) (above_shorter outer own second)
        (folder_short own (place_above own path placed third)))

pub no_file_above : (tree : Tree) (path : Bytes) → IsObjectPart tree → IsObjectPlace path → NoFileAbove path tree
no_file_above tree path part placed place above = by_case (file_at tree place) refl
  where
    by_case : (o : Option Bytes) → file_at tree place ≡ o → o ≡ None
    by_case None is = refl
    by_case (Some text) is = absurd (omega (arith, file_long tree place text part is, folder_short place (place_above place path placed above)))

pub folders_after : (old new : Tree) (path : Bytes) → IsObjectPart old → IsObjectPlace path → FoldersAbove path old new → (place : Bytes) → get new place ≡ Some folder → IsTrue (is_object_folder place)
folders_after old new path part placed above place is = by_case (above place is)
  where
    by_case : (get old place ≡ Some folder) ⊎ IsAbove place path → IsTrue (is_object_folder place)
    by_case (inl stood) = part.folders place stood
    by_case (inr within) = place_above place path placed within

-- `objects/unfinished` needs the folder `objects` alone, as each object does
pub unfinished_above : (tree : Tree) (path : Bytes) → IsObjectPlace path → HasFoldersAbove path tree → HasFoldersAbove unfinished_place tree
unfinished_above tree path (kind, id, is, at) above place (rest, below) = from (behind (codes "objects") (codes "unfinished") place rest refl below)
  where
    root : IsTrue (is_folder (node_at tree (codes "objects")))
    root = above (codes "objects") (take 2 (hex id) ++ 47 ∷ drop 2 (hex id), at)

    from : (place ≡ codes "objects") ⊎ ((inner : Bytes) × (place ≡ codes "objects" ++ 47 ∷ inner) × (codes "unfinished" ≡ inner ++ 47 ∷ rest)) → IsTrue (is_folder (node_at tree place))
    from (inl same) = ap (λ p. is_folder (node_at tree p)) same ∙ root
    from (inr (inner, same, left)) = absurd (none_above (codes "unfinished") inner rest refl left)

-- ---- an object's place is a path
no_byte : (c : ℕ) (h : Bytes) → is_lower_hex c ≡ false → list_all is_lower_hex h ≡ true → list_any (λ b. b == c) h ≡ false
no_byte c [] other lower = refl
no_byte c (b ∷ h) other lower =
    let parts = and_parts (is_lower_hex b) (list_all is_lower_hex h) lower in
    λ i. differ (b == c) refl i || no_byte c h other parts.1 i
  where
    differ : (t : Bool) → (b == c) ≡ t → t ≡ false
    differ false e = refl
    differ true e =
        let wrong : false ≡ true = sym other ∙ ap is_lower_hex (sym ((Decides-eqb b c).0 e)) ∙ (and_parts (is_lower_hex b) (list_all is_lower_hex h) lower).0 in
        absurd (cc wrong)

other_text : (h t : Bytes) → list_all is_lower_hex h ≡ true → list_all is_lower_hex t ≡ false → bytes_eq h t ≡ false
other_text h t lower other = by_test (bytes_eq h t) refl
  where
    by_test : (b : Bool) → bytes_eq h t ≡ b → b ≡ false
    by_test false e = refl
    by_test true e =
        let wrong : false ≡ true = sym other ∙ ap (list_all is_lower_hex) (sym ((bytes_eq-Decides h t).0 e)) ∙ lower in
        absurd (cc wrong)

digits_component : (h : Bytes) → 0 < length h → list_all is_lower_hex h ≡ true → is_component h ≡ true
digits_component [] some lower = absurd (omega (arith, some))
digits_component (b ∷ h) some lower =
    λ i. has_some (length (b ∷ h)) some i && not (other_text (b ∷ h) (46 ∷ []) lower refl i) && not (other_text (b ∷ h) (46 ∷ 46 ∷ []) lower refl i) && not (no_byte 0 (b ∷ h) refl lower i)
  where
    has_some : (n : ℕ) → 0 < n → nat_lt 0 n ≡ true
    has_some n some = by_test (nat_lt 0 n) refl
      where
        by_test : (t : Bool) → nat_lt 0 n ≡ t → t ≡ true
        by_test true e = refl
        by_test false e = absurd (omega (arith, some, ltb-false 0 n e))

one_part : (t : Bytes) → list_any is_slash t ≡ false → slice_split is_slash t ≡ t ∷ []
one_part [] none = refl
one_part (b ∷ t) none = by_case (is_slash b) none (one_part t)
  where
    by_case : (s : Bool) → (s || list_any is_slash t) ≡ false → (list_any is_slash t ≡ false → slice_split is_slash t ≡ t ∷ [])
        → cond s ([] ∷ slice_split is_slash t) (onto_first b (slice_split is_slash t)) ≡ (b ∷ t) ∷ []
    by_case true h rest = cc
    by_case false h rest = ap (onto_first b) (rest h)

pub lower_parts : (h : Bytes) → list_all is_lower_hex h ≡ true → (list_all is_lower_hex (take 2 h) ≡ true) × (list_all is_lower_hex (drop 2 h) ≡ true)
lower_parts [] lower = (refl, refl)
lower_parts (a ∷ []) lower = (lower, refl)
lower_parts (a ∷ b ∷ h) lower =
    let first = and_parts (is_lower_hex a) (list_all is_lower_hex (b ∷ h)) lower in
    let second = and_parts (is_lower_hex b) (list_all is_lower_hex h) first.1 in
    ((λ i. first.0 i && (second.0 i && true)), second.1)

some_digits : (kind : Kind) (h : Bytes) → length h ≡ hex_len kind → (0 < length (take 2 h)) × (0 < length (drop 2 h))
some_digits Sha1 h long = (omega (arith, long, length-take 2 h), omega (arith, long, length-drop 2 h))
some_digits Sha256 h long = (omega (arith, long, length-take 2 h), omega (arith, long, length-drop 2 h))

pub object_place_is_path : (path : Bytes) → IsObjectPlace path → IsTrue (is_path path)
object_place_is_path path (kind, id, is, at) =
    let h = hex id in
    let some = some_digits kind h (hex_length kind id is) in
    let lower = lower_parts h (hex_lower kind id is) in
    let first = digits_component (take 2 h) some.0 lower.0 in
    let second = digits_component (drop 2 h) some.1 lower.1 in
    let cut : slice_split is_slash (codes "objects/" ++ take 2 h ++ 47 ∷ drop 2 h) ≡ codes "objects" ∷ take 2 h ∷ drop 2 h ∷ [] =
    split_joined (codes "objects") (take 2 h ++ 47 ∷ drop 2 h)
    ∙ ap (λ (parts : List Bytes). codes "objects" ∷ parts) (split_joined (take 2 h) (drop 2 h) ∙ (λ i. one_part (take 2 h) (no_byte 47 (take 2 h) refl lower.0) i ++ one_part (drop 2 h) (no_byte 47 (drop 2 h) refl lower.1) i)) in
    let short : nat_le (length (object_place id)) 4096 ≡ true = within (length (object_place id)) (subst (λ p. length p ≤ 4096) at (object_place_length path (kind, id, is, at)).1) in
    ap is_path at ∙ (λ i. short i && list_all is_component (cut i)) ∙ (λ i. first i && (second i && true))
  where
    within : (n : ℕ) → n ≤ 4096 → nat_le n 4096 ≡ true
    within n below = grind (arith, tests)
