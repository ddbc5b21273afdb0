-- The keys of file maps, and the bytes of a stored folder's files.
use Rattle.std.proofs.Common.{◌≡◌, Bool, true, false, cond, not, ◌&&◌, ◌||◌, List, [], ◌∷◌, ◌++◌, map, refl, sym, ◌∙◌, ap, subst, Some, bytes_eq}
use Rattle.std.specs.List.{list_all, list_any, AllByRecursion}
use Rattle.std.specs.Ordering.{eq_by_cmp}
use Rattle.std.specs.FinMap.{FinMap, entries, keys, contains_key, contains_key-keys, get-entries}
use Rattle.std.specs.FinMap.Entries.{find}
use Rattle.history_model.specs.Bytes.{Bytes, by_bytes}
use Rattle.history_model.specs.FileMap.{Content, folders_of}
use Rattle.history_model.specs.Objects.{Value, StoredBytes, StoredFolder}
use Rattle.history_model.specs.Repository.{IsStored}
use Rattle.history_layout.specs.Offered.{FilesAreStored}
use Rattle.history_model.proofs.PlaceLemmas.{one_text, text_itself, same_key}
use Rattle.std.proofs.lemmas.Bool.{and_from, not-true, or_from, and_parts}

-- ---- keys

module _ (p : Bytes → Bool) where
  keys_pass : (ks : List Bytes) → ((q : Bytes) → list_any (eq_by_cmp by_bytes q) ks ≡ true → p q ≡ true) → list_all p ks ≡ true
  keys_pass [] h = refl
  keys_pass (k ∷ ks) h = and_from (p k) (list_all p ks) (h k (ap (λ b. b || list_any (eq_by_cmp by_bytes k) ks) (same_key k k ∙ text_itself k)))
      (keys_pass ks (λ q e. h q (later (eq_by_cmp by_bytes q k) (list_any (eq_by_cmp by_bytes q) ks) e)))
    where
      later : (a b : Bool) → b ≡ true → (a || b) ≡ true
      later true b e = refl
      later false b e = e

  key_passes : (ks : List Bytes) → list_all p ks ≡ true → (q : Bytes) → list_any (eq_by_cmp by_bytes q) ks ≡ true → p q ≡ true
  key_passes [] h q e = cc
  key_passes (k ∷ ks) h q e = go (key_passes ks (and_parts (p k) (list_all p ks) h).1 q) (bytes_eq q k) refl (subst (λ b. (b || list_any (eq_by_cmp by_bytes q) ks) ≡ true) (same_key q k) e)
    where
      go : (list_any (eq_by_cmp by_bytes q) ks ≡ true → p q ≡ true) → (b : Bool) → bytes_eq q k ≡ b → (b || list_any (eq_by_cmp by_bytes q) ks) ≡ true → p q ≡ true
      go rest true f g = ap p (one_text q k f) ∙ (and_parts (p k) (list_all p ks) h).0
      go rest false f g = rest g

  -- all keys of a map pass if each key that it has does, and the other way round
  pub all_keys : {X : Type 0} (m : FinMap by_bytes X) → ((q : Bytes) → contains_key m q ≡ true → p q ≡ true) → list_all p (keys m) ≡ true
  all_keys m h = keys_pass (keys m) (λ q e. h q (contains_key-keys m q ∙ e))

  pub each_key : {X : Type 0} (m : FinMap by_bytes X) → list_all p (keys m) ≡ true → (q : Bytes) → contains_key m q ≡ true → p q ≡ true
  each_key m h q e = key_passes (keys m) h q (sym (contains_key-keys m q) ∙ e)

-- ---- the bytes of a stored folder's files

found_stored : (P : Value → Type 0) (es : List (Bytes × Content)) (path : Bytes) (content : Content) → find by_bytes path es ≡ Some content
    → AllByRecursion P (map (λ (x : Content). StoredBytes x.bytes) (map (λ (e : Bytes × Content). e.1) es)) → P (StoredBytes content.bytes)
found_stored P [] path content h all = cc
found_stored P (e ∷ es) path content h all = go (eq_by_cmp by_bytes path e.0) h (found_stored P es path content)
  where
    inside : {a b : Content} → Some a ≡ Some b → a ≡ b
    inside k = cc

    go : (b : Bool) → cond b (Some e.1) (find by_bytes path es) ≡ Some content
        → (find by_bytes path es ≡ Some content → AllByRecursion P (map (λ (x : Content). StoredBytes x.bytes) (map (λ (e : Bytes × Content). e.1) es)) → P (StoredBytes content.bytes)) → P (StoredBytes content.bytes)
    go true k rest = subst (λ (x : Content). P (StoredBytes x.bytes)) (inside k) all.0
    go false k rest = rest k all.1

behind : {X : Type 0} (P : X → Type 0) (xs ys : List X) → AllByRecursion P (xs ++ ys) → AllByRecursion P ys
behind P [] ys h = h
behind P (x ∷ xs) ys h = behind P xs ys h.1

pub files_are_stored : FilesAreStored
files_are_stored r id files path content whole at found =
    found_stored (IsStored r) (entries files) path content (sym (get-entries files path) ∙ found)
    (behind (IsStored r) (map StoredFolder (folders_of files)) (map (λ (x : Content). StoredBytes x.bytes) (map (λ (e : Bytes × Content). e.1) (entries files))) (whole.closed id (StoredFolder files) at))
