-- Folders that are made by an entry below them that is removed again, and cursors at them.
use Rattle.std.proofs.Common.{ℕ, ◌≡◌, ◌≢◌, ◌<◌, ◌≤◌, Bool, true, false, List, [], ◌∷◌, ◌++◌, Option, Some, None, refl, sym, ap, subst, ◌∙◌, inl, inr, arith, length, get_or, if◌then◌else◌}
use Rattle.std.specs.Prelude.{bytes_eq, is_some}
use Rattle.std.specs.Borrow.{Bor}
use Rattle.gix_object_nodes.specs.Files.{Bytes, Path, Leaf, FileMap, Trees, HasNoneBelow, behind, removed, put, put_at, cleared, through}
use Rattle.gix_object_nodes.specs.Nodes.{Slots, child_of, files_of_node, entry_at, entry_from, Way, onto, IsForest, IsFolderAt, LeadsTo, IsPutIn}
use Rattle.gix_object_nodes.specs.Marks.{Mark, Marks, AreMarksKept, AreOnPath}
use Rattle.gix_object_editor.proofs.Opening.{at_or_off}
use Rattle.gix_object_nodes.proofs.Paths.{same_name, name_itself, by_test, behind_is, onto-append}
use Rattle.gix_object_nodes.proofs.Ways.{down, child_no_file}
use Rattle.gix_object_editor.proofs.SlotChange.{removes, way_above, way_kept}
use Rattle.gix_object_editor.proofs.Walked.{names}
use Rattle.gix_object_editor.proofs.Entered.{none_met, cut_entries, not_flipped}
use Rattle.gix_object_editor.proofs.Edits.{below_end, none_left}

-- ---- paths

append_one : (p : Path) (x : Bytes) (rest : Path) → (p ++ x ∷ []) ++ rest ≡ p ++ x ∷ rest
append_one [] x rest = refl
append_one (n ∷ p) x rest = ap (λ q. n ∷ q) (append_one p x rest)

pub same_front : (p q : Path) (x y : Bytes) → p ++ x ∷ [] ≡ q ++ y ∷ [] → p ≡ q
same_front [] [] x y e = refl
same_front [] (m ∷ []) x y e = absurd (cc e)
same_front [] (m ∷ k ∷ q) x y e = absurd (cc e)
same_front (n ∷ []) [] x y e = absurd (cc e)
same_front (n ∷ k ∷ p) [] x y e = absurd (cc e)
same_front (n ∷ p) (m ∷ q) x y e =
    let first : n ≡ m = cc in
    let rest : p ++ x ∷ [] ≡ q ++ y ∷ [] = cc in
    ap (λ k. k ∷ p) first ∙ ap (λ r. m ∷ r) (same_front p q x y rest)

-- what begins a path with one name more begins the path, unless it is the longer one
same_beginnings : (p q : Path) (x : Bytes) → behind (p ++ x ∷ []) q ≡ None → is_some (behind q (p ++ x ∷ [])) ≡ is_some (behind q p)
same_beginnings p [] x e = refl
same_beginnings [] (m ∷ q) x e = elim (by_test (bytes_eq x m)) [
  | inl t ↦ let none : Some q ≡ None = ap (λ b. if b then Some q else None) (sym t) ∙ e in absurd (cc none)
  | inr f ↦ ap (λ b. is_some (if b then behind q [] else None)) (not_flipped x m f)
]
same_beginnings (n ∷ p) (m ∷ q) x e = elim (by_test (bytes_eq m n)) [
  | inl t ↦
      let other : bytes_eq n m ≡ true = ap (bytes_eq n) (same_name m n t) ∙ name_itself n in
      let later : behind (p ++ x ∷ []) q ≡ None = ap (λ b. if b then behind (p ++ x ∷ []) q else None) (sym other) ∙ e in
      ap (λ b. is_some (if b then behind q (p ++ x ∷ []) else None)) t ∙ same_beginnings p q x later ∙ sym (ap (λ b. is_some (if b then behind q p else None)) t)
  | inr f ↦ ap (λ b. is_some (if b then behind q (p ++ x ∷ []) else None)) f ∙ sym (ap (λ b. is_some (if b then behind q p else None)) f)
]

-- ---- files

-- an entry that is put below a path and taken out again
pub cleared_by : (trees : Trees) (p : Path) (x : Bytes) (leaf : Leaf) (files : FileMap) → HasNoneBelow p files
    → (q : Path) → removed (p ++ x ∷ []) (put trees (p ++ x ∷ []) leaf files) q ≡ cleared p files q
cleared_by trees p x leaf files none q = by_behind (behind (p ++ x ∷ []) q) refl
  where
    gone : (rest : Path) → behind (p ++ x ∷ []) q ≡ Some rest → cleared p files q ≡ None
    gone rest e = elim (by_test (is_some (behind q p))) [
      | inl t ↦ ap (λ b. if b then None else files q) t
      | inr f ↦ ap (λ b. if b then None else files q) f ∙ ap files (behind_is (p ++ x ∷ []) q rest e ∙ append_one p x rest) ∙ none x rest
    ]

    by_behind : (o : Option Path) → behind (p ++ x ∷ []) q ≡ o → removed (p ++ x ∷ []) (put trees (p ++ x ∷ []) leaf files) q ≡ cleared p files q
    by_behind (Some rest) e = ap (λ o. if is_some o then None else put trees (p ++ x ∷ []) leaf files q) e ∙ sym (gone rest e)
    by_behind None e =
        ap (λ o. if is_some o then None else put_at trees leaf o (if is_some (behind q (p ++ x ∷ [])) then None else files q)) e
        ∙ ap (λ b. if b then None else files q) (same_beginnings p q x e)

too_long : (p : Path) (k : Bytes) (r : Path) → behind (p ++ k ∷ r) p ≡ None
too_long [] k r = refl
too_long (n ∷ p) k r = ap (λ b. if b then behind (p ++ k ∷ r) p else None) (name_itself n) ∙ too_long p k r

-- no file is at a beginning of a folder's path
no_file : (trees : Trees) (slots : Slots) (way : Path) (j : ℕ) → Way slots way j → (q : Path) → is_some (behind q (onto way [])) ≡ true → files_of_node trees slots 0 q ≡ None
no_file trees slots [] j w [] t = refl
no_file trees slots [] j w (m ∷ q) t = absurd (cc t)
no_file trees slots (n ∷ way) j w q t = by_behind (no_file trees slots way w.0 w.1 q) (behind (onto way [] ++ n ∷ []) q) refl
  where
    whole : is_some (behind q (onto way [] ++ n ∷ [])) ≡ true
    whole = ap (λ p. is_some (behind q p)) (sym (onto-append way [] (n ∷ []))) ∙ t

    at_end : (rest : Path) → q ≡ (onto way [] ++ n ∷ []) ++ rest → files_of_node trees slots 0 q ≡ None
    at_end [] e =
        ap (files_of_node trees slots 0) (e ∙ append_one (onto way []) n [] ∙ sym (onto-append way [] (n ∷ [])))
        ∙ down trees slots way w.0 n [] w.1 ∙ child_no_file trees slots (slots w.0 n) j w.2
    at_end (k ∷ rest) e =
        let none : behind q (onto way [] ++ n ∷ []) ≡ None = ap (λ p. behind p (onto way [] ++ n ∷ [])) e ∙ too_long (onto way [] ++ n ∷ []) k rest in
        let no : true ≡ false = sym whole ∙ ap is_some none in
        absurd (cc no)

    by_behind : (is_some (behind q (onto way [])) ≡ true → files_of_node trees slots 0 q ≡ None) → (o : Option Path) → behind (onto way [] ++ n ∷ []) q ≡ o → files_of_node trees slots 0 q ≡ None
    by_behind above (Some rest) e = at_end rest (behind_is (onto way [] ++ n ∷ []) q rest e)
    by_behind above None e = above (sym (same_beginnings (onto way []) q n e) ∙ whole)

pub folder_clear : (trees : Trees) (slots : Slots) (path : Path) (j : ℕ) → LeadsTo slots path j [] → (q : Path) → cleared path (files_of_node trees slots 0) q ≡ files_of_node trees slots 0 q
folder_clear trees slots path j leads q = elim (by_test (is_some (behind q path))) [
  | inl t ↦ ap (λ b. if b then None else files_of_node trees slots 0 q) t ∙ sym (no_file trees slots leads.0 j leads.1 q (ap (λ p. is_some (behind q p)) leads.2 ∙ t))
  | inr f ↦ ap (λ b. if b then None else files_of_node trees slots 0 q) f
]

-- no file is below where names lead to no folder
pub none_below : (trees : Trees) (slots : Slots) (way : Path) (at : ℕ) (p : Path) → Way slots way at → 0 < length p → IsFolderAt slots at (get_or p 0 []) None → HasNoneBelow (onto way p) (files_of_node trees slots 0)
none_below trees slots way at [] w some plain = absurd (omega arith)
none_below trees slots way at (name ∷ left) w some plain = λ m rest.
    below_end slots (onto way (name ∷ left)) at name left trees m rest (way, w, refl) ∙ none_left slots at name left trees m rest plain

module _ (mid new : Slots) (more : ℕ) (ok : IsForest mid more) (path : Path) (x : Bytes) (end : ℕ) (put_in : IsPutIn mid (path ++ x ∷ []) end) (here : new end x ≡ None)
    (others : (i : ℕ) (m : Bytes) → ((i ≡ end) → (m ≡ x) → ⊥) → new i m ≡ mid i m) where
  down_to : onto put_in.3.0 [] ≡ path
  down_to = put_in.3.2 ∙ sym (same_front path put_in.0 x put_in.1 put_in.2)

  -- what leads to a folder whose only entry was taken out
  pub made_leads : LeadsTo new path end []
  made_leads =
      let same : (i : ℕ) (m : Bytes) → i < end → new i m ≡ mid i m = λ i m lt. others i m (λ e _. absurd (omega arith)) in
      (put_in.3.0, way_above mid new more end ok same put_in.3.0 end (omega arith) put_in.3.1, down_to)

  pub made_files : (trees : Trees) (leaf : Leaf) (files : FileMap) → HasNoneBelow path files → ((q : Path) → files_of_node trees mid 0 q ≡ put trees (path ++ x ∷ []) leaf files q)
      → (q : Path) → files_of_node trees new 0 q ≡ cleared path files q
  made_files trees leaf files none puts q =
      removes trees mid new more ok end x put_in.3.0 put_in.3.1 others here q
      ∙ ap (λ p. if is_some (behind p q) then None else files_of_node trees mid 0 q) (onto-append put_in.3.0 [] (x ∷ []) ∙ ap (λ p. p ++ x ∷ []) down_to)
      ∙ ap (λ y. if is_some (behind (path ++ x ∷ []) q) then None else y) (puts q)
      ∙ cleared_by trees path x leaf files none q

  pub taken_entries : (trees : Trees) (q : Path) → entry_from none_met trees new 0 q ≡ removed (path ++ x ∷ []) (entry_from none_met trees mid 0) q
  taken_entries trees q =
      cut_entries trees mid new more ok end x put_in.3.0 put_in.3.1 (λ i m lt off. others i m off) here q
      ∙ ap (λ p. removed p (entry_from none_met trees mid 0) q) (onto-append put_in.3.0 [] (x ∷ []) ∙ ap (λ p. p ++ x ∷ []) down_to)

-- a slot without an opened tree is taken out
module _ (mid new : Slots) (x : Bytes) (end : ℕ) (here : new end x ≡ None) (others : (i : ℕ) (m : Bytes) → ((i ≡ end) → (m ≡ x) → ⊥) → new i m ≡ mid i m) where
  pub taken_link : (i : ℕ) (n : Bytes) (c : ℕ) → child_of (new i n) ≡ Some c → new i n ≡ mid i n
  taken_link i n c e = elim (at_or_off i end n x) [
    | inl y ↦
        let none : child_of (new i n) ≡ None = ap (λ k. child_of (new k n)) y.0 ∙ ap (λ k. child_of (new end k)) y.1 ∙ ap child_of here in
        absurd (cc (sym none ∙ e))
    | inr off ↦ others i n off
  ]

  pub taken_marks : (state : Bool) (old : Slots) (was now fin : Marks) (bound more : ℕ) → ((i : ℕ) → fin i ≡ now i) → AreMarksKept state old mid was now bound more → AreMarksKept state old new was fin bound more
  taken_marks state old was now fin bound more same kept = record {
    same = λ i lt. same i ∙ kept.same i lt;
    fresh = λ i le lt. ap (λ (m : Mark). m.changed) (same i) ∙ kept.fresh i le lt;
    before = λ i le lt. subst (λ (m : Mark). m.parent < i) (sym (same i)) (kept.before i le lt);
    up = λ i n c e le. ap (λ (m : Mark). m.parent) (same c) ∙ kept.up i n c (ap child_of (sym (taken_link i n c e)) ∙ e) le;
    links = λ i n c e lt. taken_link i n c e ∙ kept.links i n c (ap child_of (sym (taken_link i n c e)) ∙ e) lt;
  }

  pub taken_ways : (more : ℕ) → IsForest mid more → (path : Path) (bound : ℕ) → ((j : ℕ) → j < more → j ≤ end) → AreOnPath mid path bound more → AreOnPath new path bound more
  taken_ways more ok path bound last made j le lt =
      let so = made j le lt in
      let same : (i : ℕ) (m : Bytes) → i < end → new i m ≡ mid i m = λ i m less. others i m (λ e _. absurd (omega (arith, e, less))) in
      (so.0, so.1, so.2, so.3, (so.4.0, way_above mid new more end ok same so.4.0 j (last j lt) so.4.1, so.4.2))

names_push : (xs : List (Bor (List ℕ))) (x : Bor (List ℕ)) → names (xs ++ x ∷ []) ≡ names xs ++ x.now ∷ []
names_push [] x = refl
names_push (y ∷ xs) x = ap (λ p. y.now ∷ p) (names_push xs x)

pub names_pushed : (ok : Bool) (xs ys : List (Bor (List ℕ))) (x : Bor (List ℕ)) → ok ≡ true → ys ≡ (if ok then xs ++ x ∷ [] else xs) → names ys ≡ names xs ++ x.now ∷ []
names_pushed ok xs ys x was e = ap names e ∙ ap (λ b. names (if b then xs ++ x ∷ [] else xs)) was ∙ names_push xs x

-- ---- ways

-- an edit at an opened tree, or after it, leaves the way to a tree above
pub still_way : (old mid new : Slots) (more from at : ℕ) → IsForest mid more → ((i : ℕ) (m : Bytes) (c : ℕ) → child_of (old i m) ≡ Some c → child_of (mid i m) ≡ Some c)
    → from ≤ at → ((i : ℕ) (m : Bytes) → i < at → new i m ≡ mid i m) → (way : Path) → Way old way from → Way new way from
still_way old mid new more from at ok links le same way w = way_above mid new more at ok same way from le (way_kept old mid links way from w)

-- an entry is that of the opened tree above it
entry_at_way : (slots : Slots) (way : Path) (j : ℕ) (name : Bytes) (rest : Path) → Way slots way j → entry_at slots 0 (onto way (name ∷ rest)) ≡ entry_at slots j (name ∷ rest)
entry_at_way slots [] j name rest w = ap (λ k. entry_at slots k (name ∷ rest)) w
entry_at_way slots (n ∷ way) j name rest w =
    entry_at_way slots way w.0 n (name ∷ rest) w.1 ∙ ap (λ o. through o (λ c. entry_at slots c (name ∷ rest))) w.2

-- the path below a cursor
pub below_base : (way base names : Path) → onto way [] ≡ base → onto way names ≡ base ++ names
below_base way base names e = onto-append way [] names ∙ ap (λ p. p ++ names) e

pub entry_below : (slots : Slots) (base : Path) (j : ℕ) (p : List (Bor (List ℕ))) → LeadsTo slots base j [] → p ≢ [] → entry_at slots j (names p) ≡ entry_at slots 0 (base ++ names p)
entry_below slots base j [] leads some = absurd (some refl)
entry_below slots base j (n ∷ p) leads some =
    sym (entry_at_way slots leads.0 j n.now (names p) leads.1) ∙ ap (entry_at slots 0) (below_base leads.0 base (names (n ∷ p)) leads.2)

-- ---- names with one more

pub two_long : (p : Path) (xs : List (Bor (List ℕ))) → names xs ≡ p ++ [] ∷ [] → 0 < length p → 1 < length xs
two_long [] xs e some = absurd (omega (arith, some))
two_long (n ∷ p) [] e some = absurd (cc e)
two_long (n ∷ []) (x ∷ []) e some = absurd (cc e)
two_long (n ∷ m ∷ p) (x ∷ []) e some = absurd (cc e)
two_long (n ∷ p) (x ∷ y ∷ xs) e some = omega arith

pub same_first_name : (p q : Path) → 0 < length p → get_or (p ++ q) 0 [] ≡ get_or p 0 []
same_first_name [] q some = absurd (omega (arith, some))
same_first_name (n ∷ p) q some = refl
