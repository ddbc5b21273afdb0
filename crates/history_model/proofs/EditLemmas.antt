-- An edit at a path leaves a file map.
use Rattle.std.proofs.Common.{◌≡◌, ◌⊎◌, Bool, true, false, cond, not, ◌||◌, List, [], ◌∷◌, ◌++◌, length, take, refl, sym, ◌∙◌, ap, subst, arith, inl, inr, Option, Some, None, is_some, bytes_eq, length-append, length-take}
use Rattle.std.specs.List.{list_all, AllByRecursion}
use Rattle.std.specs.Ordering.{eq_by_cmp}
use Rattle.std.specs.Cmp.Lexicographic.{unequal}
use Rattle.std.specs.FinMap.{FinMap, get, contains_key, insert, retain_keys, get-insert, get-retain_keys}
use Rattle.std.proofs.lemmas.Cmp.{nat_list_cmp_total}
use Rattle.std.proofs.lemmas.Map.Text.{is_eq-slice_cmp}
use Rattle.std.proofs.lemmas.Slice.Eq.{bytes_eq-Decides}
use Rattle.history_model.specs.Bytes.{Bytes, by_bytes}
use Rattle.history_model.specs.FileMap.{FileMap, Content, Edit, Put, Remove, RemoveFile, Graft, IsFileMap, edited, edited_by, is_path, is_below, is_within, put_at, cleared, carried, with_all}
use Rattle.history_model.specs.laws.Trees.{ComesFromFiles, edit_path}
use Rattle.std.proofs.lemmas.Bool.{and_parts}
use Rattle.history_model.proofs.WholeStores.{same_tie}
use Rattle.history_model.proofs.GraftLemmas.{IsCarried, had_all, of_carried, follows_there, with_rest_path, carried_apart, below_carried, carried_below}

-- if a choice between an option and none is some, the option is chosen and is some
kept_passes : {X : Type 0} (b : Bool) (o : Option X) → is_some (cond b o None) ≡ true → (b ≡ true) × (is_some o ≡ true)
kept_passes true o h = (refl, h)
kept_passes false o h = cc

neither : (a b : Bool) → not (a || b) ≡ true → (a ≡ false) × (b ≡ false)
neither true b h = cc
neither false true h = cc
neither false false h = (refl, refl)

-- what a filtered map has
retained : {X : Type 0} (files : FinMap by_bytes X) (test : Bytes → Bool) (q : Bytes) → contains_key (retain_keys files test) q ≡ true → (test q ≡ true) × (contains_key files q ≡ true)
retained files test q h =
    kept_passes (test q) (get files q) (ap is_some (sym (get-retain_keys files test q (λ x e. ap test (sym (same_tie q x e))))) ∙ h)

eq_cases : (b : Bool) {X : Type 0} (v : X) (o : Option X) → is_some (cond b (Some v) o) ≡ true → (b ≡ true) ⊎ (is_some o ≡ true)
eq_cases true v o h = inl refl
eq_cases false v o h = inr h

-- what a map has after an insertion
inserted : {X : Type 0} (files : FinMap by_bytes X) (p : Bytes) (v : X) (q : Bytes) → contains_key (insert files p v) q ≡ true → (q ≡ p) ⊎ (contains_key files q ≡ true)
inserted files p v q h =
    elim (eq_cases (eq_by_cmp by_bytes q p) v (get files q) (ap is_some (sym (get-insert nat_list_cmp_total files p v q)) ∙ h)) [
      | inl e ↦ inl ((bytes_eq-Decides q p).0 (sym (is_eq-slice_cmp q p) ∙ e))
      | inr old ↦ inr old
    ]

-- no path is below itself
not_below_itself : (p : Bytes) → is_below p p ≡ false
not_below_itself p =
    unequal _ (p ++ 47 ∷ []) (take (length (p ++ 47 ∷ [])) p) (λ e.
    let longer = length-append p (47 ∷ []) in
    let shorter = length-take (length (p ++ 47 ∷ [])) p in
    omega arith)

removed_keeps : (files : FileMap) (test : Bytes → Bool) → IsFileMap files → IsFileMap (retain_keys files test)
removed_keeps files test map = record {
  paths = λ p h. map.paths p (retained files test p h).1;
  apart = λ p q h k. map.apart p q (retained files test p h).1 (retained files test q k).1;
}

put_keeps : (path : Bytes) (content : Content) (files : FileMap) → is_path path ≡ true → IsFileMap files → IsFileMap (put_at path content files)
put_keeps path content files fits map = record {
  paths = λ p h. elim (had p h) [
    | inl e ↦ subst (λ x. is_path x ≡ true) (sym e) fits
    | inr old ↦ map.paths p (retained files test p old).1
  ];
  apart = λ p q h k. split p q (had p h) (had q k);
}
  where
    test : Bytes → Bool
    test q = not (is_within path q || is_within q path)

    had : (p : Bytes) → contains_key (put_at path content files) p ≡ true → (p ≡ path) ⊎ (contains_key (retain_keys files test) p ≡ true)
    had p h = inserted (retain_keys files test) path content p h

    -- an old path is not below the new one, nor the other way round
    clear : (q : Bytes) → contains_key (retain_keys files test) q ≡ true → (is_below path q ≡ false) × (is_below q path ≡ false)
    clear q old =
        let parts = neither (is_within path q) (is_within q path) (retained files test q old).0 in
        (or_right (bytes_eq path q) (is_below path q) parts.0, or_right (bytes_eq q path) (is_below q path) parts.1)
      where
        or_right : (a b : Bool) → (a || b) ≡ false → b ≡ false
        or_right true b e = cc
        or_right false b e = e

    split : (p q : Bytes) → (p ≡ path) ⊎ (contains_key (retain_keys files test) p ≡ true) → (q ≡ path) ⊎ (contains_key (retain_keys files test) q ≡ true) → is_below p q ≡ false
    split p q (inl e) (inl f) = rw (e, f) (not_below_itself path)
    split p q (inl e) (inr k) = rw e ((clear q k).0)
    split p q (inr h) (inl f) = rw f ((clear p h).1)
    split p q (inr h) (inr k) = map.apart p q (retained files test p h).1 (retained files test q k).1

graft_keeps : (path source : Bytes) (from files : FileMap) → is_path path ≡ true → IsFileMap from → IsFileMap files → IsFileMap (with_all (carried path source from) (cleared path files))
graft_keeps path source from files fits other map = record {
  paths = λ p h. elim (had p h) [
    | inl a ↦ fits_there p a
    | inr old ↦ map.paths p (retained files test p old).1
  ];
  apart = λ p q h k. split p q (had p h) (had q k);
}
  where
    test : Bytes → Bool
    test q = not (is_within path q || is_within q path)

    some_of : {X : Type 0} (o : Option X) → is_some o ≡ true → (x : X) × (o ≡ Some x)
    some_of None h = cc
    some_of (Some x) h = (x, refl)

    Here : Bytes → Type 0
    Here p = (c : Content) × IsCarried path source from p c

    had : (p : Bytes) → contains_key (with_all (carried path source from) (cleared path files)) p ≡ true → Here p ⊎ (contains_key (retain_keys files test) p ≡ true)
    had p h =
        let one = some_of (get (with_all (carried path source from) (cleared path files)) p) h in
        elim (had_all (carried path source from) (cleared path files) p one.0 one.1) [
          | inl i ↦ inl (one.0, of_carried path source from p one.0 i)
          | inr g ↦ inr (ap is_some g)
        ]

    fits_there : (p : Bytes) → Here p → is_path p ≡ true
    fits_there p (c, a) = subst (λ q. is_path q ≡ true) (sym a.is) (with_rest_path path a.rest fits (follows_there path source from other p c a).some)

    clear : (q : Bytes) → contains_key (retain_keys files test) q ≡ true → (is_within path q ≡ false) × (is_within q path ≡ false)
    clear q old = neither (is_within path q) (is_within q path) (retained files test q old).0

    split : (p q : Bytes) → Here p ⊎ (contains_key (retain_keys files test) p ≡ true) → Here q ⊎ (contains_key (retain_keys files test) q ≡ true) → is_below p q ≡ false
    split p q (inl (c, a)) (inl (d, b)) = carried_apart path source from other p q c d a b
    split p q (inl (c, a)) (inr k) = ap (λ t. is_below t q) a.is ∙ below_carried path a.rest q (clear q k).0
    split p q (inr h) (inl (d, b)) = ap (λ t. is_below p t) b.is ∙ carried_below path b.rest p (clear p h).0 (clear p h).1
    split p q (inr h) (inr k) = map.apart p q (retained files test p h).1 (retained files test q k).1

pub edit_keeps : (files : FileMap) (edit : Edit) → IsFileMap files → is_path (edit_path edit) ≡ true → ComesFromFiles edit → IsFileMap (edited files edit)
edit_keeps files (Put kind path bytes) map fits from = put_keeps path _ files fits map
edit_keeps files (Remove path) map fits from = removed_keeps files _ map
edit_keeps files (RemoveFile path) map fits from = removed_keeps files _ map
edit_keeps files (Graft path source other) map fits from = graft_keeps path source other files fits from map

pub edits_keep : (files : FileMap) (edits : List Edit) → IsFileMap files → list_all (λ edit. is_path (edit_path edit)) edits ≡ true → AllByRecursion ComesFromFiles edits
    → IsFileMap (edited_by files edits)
edits_keep files [] map fits from = map
edits_keep files (edit ∷ edits) map fits from =
    let both = and_parts (is_path (edit_path edit)) (list_all (λ e. is_path (edit_path e)) edits) fits in
    edits_keep (edited files edit) edits (edit_keeps files edit map both.0 from.0) both.1 from.1
