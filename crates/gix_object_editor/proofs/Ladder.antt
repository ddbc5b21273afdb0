-- Trees with one slot each, put after the others and then linked.
use Rattle.std.proofs.Common.{ℕ, zero, suc, ◌≡◌, ◌≢◌, ◌<◌, ◌≤◌, ◌+◌, ◌-◌, ◌++◌, ◌⊎◌, Bool, true, List, [], ◌∷◌, Some, None, refl, sym, ap, subst, ◌∙◌, inl, inr, arith, length, get_or, drop, if◌then◌else◌}
use Rattle.std.specs.Prelude.{bytes_eq, is_some}
use Rattle.std.specs.Borrow.{Bor}
use Rattle.std.proofs.lemmas.List.{length-drop}
use Rattle.std.proofs.lemmas.Bool.{cases_lt}
use Rattle.gix_object_nodes.specs.declared.node.Node.{Node}
use Rattle.gix_object_nodes.specs.declared.node.Slot.{Slot}
use Rattle.gix_object_nodes.specs.Files.{Bytes, Path, Trees, behind, through, files_of_entry, put, put_at}
use Rattle.gix_object_nodes.specs.Nodes.{Slots, slots_of, child_or, child_of, leaf_in, files_of_slot, files_of_node, slot_entry, entry_from, IsForest, IsFolderAt, Way, onto, LeadsTo, IsPutIn}
use Rattle.gix_object_editor.specs.Laid.{IsOnly, IsRung, IsLadder, IsLaid, laid, laid_at}
use Rattle.gix_object_editor.specs.Grown.{IsForestOf, KeepsFront, KeepsMarks}
use Rattle.gix_object_editor.specs.Asked.{front_of}
use Rattle.gix_object_editor.proofs.Asking.{front_has}
use Rattle.gix_object_editor.proofs.Cuts.{hung_null}
use Rattle.gix_object_editor.proofs.Kept.{hung_each, hung_names, in_front, in_tail}
use Rattle.std.specs.List.{Contains}
use Rattle.gix_object_editor.specs.Entries.{made_leaf}
use Rattle.gix_object_nodes.specs.Marks.{Mark, Marks, marks_of, mark_below, rung_parent, AreMarksKept, AreOnPath, KeepsRest}
use Rattle.gix_object_editor.proofs.Opening.{same_through, linked_more, at_or_off}
use Rattle.gix_object_nodes.proofs.Paths.{same_name, name_itself, by_test, onto-append}
use Rattle.gix_object_nodes.proofs.Slots.{none_past}
use Rattle.gix_object_editor.proofs.Walked.{names, names_length}
use Rattle.gix_object_nodes.proofs.Ways.{child_files, child_no_file}
use Rattle.gix_object_editor.proofs.SlotChange.{lays, way_kept, way_above}
use Rattle.gix_object_editor.proofs.Standing.{child_entry}
use Rattle.gix_object_editor.proofs.Entered.{none_met, closed_entry, laid_entries}
use Rattle.gix_hash.specs.Id.{id_of}

-- nodes after the others change no file
pub front_files : (trees : Trees) (slots new : Slots) (bound : ℕ) → IsForest slots bound → ((i : ℕ) (m : Bytes) → i < bound → new i m ≡ slots i m)
    → (q : Path) (i : ℕ) → i < bound → files_of_node trees new i q ≡ files_of_node trees slots i q
front_files trees slots new bound ok front [] i lt = refl
front_files trees slots new bound ok front (n ∷ rest) i lt =
    ap (λ o. through o (files_of_slot trees new rest)) (front i n lt)
    ∙ same_through trees slots new rest (slots i n) (λ c is. front_files trees slots new bound ok front rest c (ok.within i n c is))

-- ---- a ladder that grows

rung_kept : (slots new : Slots) (first : ℕ) (names : Path) (s : Slot) (n k : ℕ) → ((i : ℕ) (m : Bytes) → i < n → new i m ≡ slots i m) → first + k < n
    → IsRung slots first names s k → IsRung new first names s k
rung_kept slots new first names s n k front lt r = record {
  slot = r.slot;
  only = (front (first + k) (get_or names k []) lt ∙ r.only.0, λ m apart. front (first + k) m lt ∙ r.only.1 m apart);
  leads = r.leads;
  folder = r.folder;
  ends = r.ends;
}

pub one_rung_more : (names : Path) (slots new : Slots) (first n i : ℕ) (s rung : Slot) → n ≡ first + i → ((j : ℕ) (m : Bytes) → j < n → new j m ≡ slots j m)
    → new n (get_or names i []) ≡ Some rung → ((m : Bytes) → m ≢ get_or names i [] → new n m ≡ None)
    → (suc i < length names → child_of (Some rung) ≡ Some (suc n)) → (suc i < length names → leaf_in rung ≡ made_leaf (id_of s.oid).kind) → (suc i ≡ length names → rung ≡ s)
    → ((k : ℕ) → k < i → IsRung slots first names s k) → (k : ℕ) → k < i + 1 → IsRung new first names s k
one_rung_more names slots new first n i s rung at front stands apart leads folder ends before k lt = elim (cases_lt k i) [
  | inl less ↦ let inside : first + k < n = omega arith in rung_kept slots new first names s n k front inside (before k less)
  | inr le ↦
      let same : i ≡ k = omega arith in
      subst (IsRung new first names s) same (record {
        slot = rung;
        only = subst (λ j. IsOnly new j (get_or names i []) rung) at (stands, apart);
        leads = λ inner. leads inner ∙ ap (λ j. Some (suc j)) at;
        folder = folder;
        ends = ends;
      })
]

-- ---- the files of a ladder

module _ (trees : Trees) (new : Slots) (s : Slot) (closed : s.child ≡ None) where
  entry : (rest : Path) → files_of_slot trees new rest s ≡ files_of_entry trees rest (leaf_in s)
  entry [] = ap (λ o. child_or o (λ c. None) (files_of_entry trees [] (leaf_in s))) closed
  entry (m ∷ rest) = ap (λ o. child_or o (λ c. files_of_node trees new c (m ∷ rest)) (files_of_entry trees (m ∷ rest) (leaf_in s))) closed

  first_rung : (name : Bytes) (names : Path) (n : ℕ) (slot : Slot) → IsOnly new (n + 0) name slot → (m : Bytes) (rest : Path)
      → files_of_slot trees new rest slot ≡ put_at trees (leaf_in s) (behind names rest) None
      → files_of_node trees new n (m ∷ rest) ≡ put_at trees (leaf_in s) (behind (name ∷ names) (m ∷ rest)) None
  first_rung name names n slot only m rest below =
      let at : n ≡ n + 0 = omega arith in
      elim (by_test (bytes_eq name m)) [
        | inl t ↦
            let same : name ≡ m = same_name name m t in
            ap (λ i. through (new i m) (files_of_slot trees new rest)) at ∙ ap (λ k. through (new (n + 0) k) (files_of_slot trees new rest)) (sym same)
            ∙ ap (λ o. through o (files_of_slot trees new rest)) only.0 ∙ below
            ∙ sym (ap (λ b. put_at trees (leaf_in s) (if b then behind names rest else None) None) t)
        | inr f ↦
            let apart : m ≢ name = λ same. let yes : bytes_eq name m ≡ true = ap (bytes_eq name) same ∙ name_itself name in cc in
            ap (λ i. through (new i m) (files_of_slot trees new rest)) at ∙ ap (λ o. through o (files_of_slot trees new rest)) (only.1 m apart)
            ∙ sym (ap (λ b. put_at trees (leaf_in s) (if b then behind names rest else None) None) f)
      ]

  next_rung : (name next : Bytes) (more : Path) (n k : ℕ) → IsRung new n (name ∷ next ∷ more) s (suc k) → IsRung new (suc (n + 0)) (next ∷ more) s k
  next_rung name next more n k r =
      let at : n + suc k ≡ suc (n + 0) + k = omega arith in
      record {
        slot = r.slot;
        only = subst (λ i. IsOnly new i (get_or (next ∷ more) k []) r.slot) at r.only;
        leads = λ lt. let less : suc (suc k) < length (name ∷ next ∷ more) = omega arith in r.leads less ∙ ap (λ i. Some (suc i)) at;
        folder = λ lt. let less : suc (suc k) < length (name ∷ next ∷ more) = omega (arith, lt) in r.folder less;
        ends = λ e. r.ends (ap suc e);
      }

  pub ladder_files : (names : Path) (n : ℕ) → 0 < length names → ((k : ℕ) → k < length names → IsRung new n names s k) → (m : Bytes) (rest : Path)
      → files_of_node trees new n (m ∷ rest) ≡ put_at trees (leaf_in s) (behind names (m ∷ rest)) None
  ladder_files [] n some rungs m rest = absurd (omega arith)
  ladder_files (name ∷ []) n some rungs m rest =
      let r = rungs 0 some in
      first_rung name [] n r.slot r.only m rest (ap (files_of_slot trees new rest) (r.ends refl) ∙ entry rest)
  ladder_files (name ∷ next ∷ more) n some rungs m [] =
      let r = rungs 0 some in
      let two : 1 < length (name ∷ next ∷ more) = omega arith in
      first_rung name (next ∷ more) n r.slot r.only m [] (child_no_file trees new (Some r.slot) (suc (n + 0)) (r.leads two))
  ladder_files (name ∷ next ∷ more) n some rungs m (k ∷ rest) =
      let r = rungs 0 some in
      let two : 1 < length (name ∷ next ∷ more) = omega arith in
      let later : 0 < length (next ∷ more) = omega arith in
      first_rung name (next ∷ more) n r.slot r.only m (k ∷ rest) (
      child_files trees new k rest (Some r.slot) (suc (n + 0)) (r.leads two)
      ∙ ladder_files (next ∷ more) (suc (n + 0)) later (λ j lt. let less : suc j < length (name ∷ next ∷ more) = omega arith in next_rung name next more n j (rungs (suc j) less)) k rest)

  -- ---- its entries

  first_entry : (name : Bytes) (names : Path) (n : ℕ) (slot : Slot) → IsOnly new (n + 0) name slot → (m : Bytes) (rest : Path)
      → slot_entry none_met trees new rest slot ≡ laid trees (leaf_in s) names rest
      → entry_from none_met trees new n (m ∷ rest) ≡ laid trees (leaf_in s) (name ∷ names) (m ∷ rest)
  first_entry name names n slot only m rest below =
      let at : n ≡ n + 0 = omega arith in
      elim (by_test (bytes_eq name m)) [
        | inl t ↦
            let same : name ≡ m = same_name name m t in
            ap (λ i. through (new i m) (slot_entry none_met trees new rest)) at ∙ ap (λ k. through (new (n + 0) k) (slot_entry none_met trees new rest)) (sym same)
            ∙ ap (λ o. through o (slot_entry none_met trees new rest)) only.0 ∙ below
            ∙ sym (ap (λ b. if b then laid trees (leaf_in s) names rest else None) t)
        | inr f ↦
            let apart : m ≢ name = λ same. let yes : bytes_eq name m ≡ true = ap (bytes_eq name) same ∙ name_itself name in cc in
            ap (λ i. through (new i m) (slot_entry none_met trees new rest)) at ∙ ap (λ o. through o (slot_entry none_met trees new rest)) (only.1 m apart)
            ∙ sym (ap (λ b. if b then laid trees (leaf_in s) names rest else None) f)
      ]

  pub ladder_entries : (names : Path) (n : ℕ) → 0 < length names → ((k : ℕ) → k < length names → IsRung new n names s k) → (m : Bytes) (rest : Path)
      → entry_from none_met trees new n (m ∷ rest) ≡ laid trees (leaf_in s) names (m ∷ rest)
  ladder_entries [] n some rungs m rest = absurd (omega arith)
  ladder_entries (name ∷ []) n some rungs m rest =
      let r = rungs 0 some in
      first_entry name [] n r.slot r.only m rest (ap (slot_entry none_met trees new rest) (r.ends refl) ∙ closed_entry trees new s closed rest)
  ladder_entries (name ∷ next ∷ more) n some rungs m [] =
      let r = rungs 0 some in
      let two : 1 < length (name ∷ next ∷ more) = omega arith in
      first_entry name (next ∷ more) n r.slot r.only m [] (ap Some (r.folder two))
  ladder_entries (name ∷ next ∷ more) n some rungs m (k ∷ rest) =
      let r = rungs 0 some in
      let two : 1 < length (name ∷ next ∷ more) = omega arith in
      let later : 0 < length (next ∷ more) = omega arith in
      first_entry name (next ∷ more) n r.slot r.only m (k ∷ rest) (
      child_entry none_met trees new k rest (Some r.slot) (suc (n + 0)) (r.leads two)
      ∙ ladder_entries (next ∷ more) (suc (n + 0)) later (λ j lt. let less : suc j < length (name ∷ next ∷ more) = omega arith in next_rung name next more n j (rungs (suc j) less)) k rest)

-- the way down a ladder
pub ladder_end : (new : Slots) (s : Slot) (closed : s.child ≡ None) (names : Path) (n : ℕ) (way : Path) → Way new way n → 0 < length names → ((k : ℕ) → k < length names → IsRung new n names s k)
    → IsPutIn new (onto way names) (n + (length names - 1))
ladder_end new s closed [] n way w some rungs = absurd (omega arith)
ladder_end new s closed (name ∷ []) n way w some rungs =
    let at : n ≡ n + (length (name ∷ []) - 1) = omega arith in
    subst (IsPutIn new (onto way (name ∷ []))) at (onto way [], name, onto-append way [] (name ∷ []), (way, w, refl))
ladder_end new s closed (name ∷ next ∷ more) n way w some rungs =
    let r = rungs 0 some in
    let two : 1 < length (name ∷ next ∷ more) = omega arith in
    let later : 0 < length (next ∷ more) = omega arith in
    let here : n ≡ n + 0 = omega arith in
    let link : child_of (new n name) ≡ Some (suc (n + 0)) = ap (λ i. child_of (new i name)) here ∙ ap child_of r.only.0 ∙ r.leads two in
    let at : suc (n + 0) + (length (next ∷ more) - 1) ≡ n + (length (name ∷ next ∷ more) - 1) = omega arith in
    subst (IsPutIn new (onto way (name ∷ next ∷ more))) at
    (ladder_end new s closed (next ∷ more) (suc (n + 0)) (name ∷ way) (n, w, link) later
    (λ j lt. let less : suc j < length (name ∷ next ∷ more) = omega arith in next_rung (λ id. None) new s closed name next more n j (rungs (suc j) less)))

-- each tree of a ladder lies on the way down it
pub ladder_way : (new : Slots) (s : Slot) (closed : s.child ≡ None) (names : Path) (n : ℕ) (way : Path) → Way new way n → (k : ℕ) → k < length names → ((k : ℕ) → k < length names → IsRung new n names s k)
    → (front : Path) × (rest : Path) × (rest ≢ []) × (front ++ rest ≡ onto way names) × LeadsTo new front (n + k) []
ladder_way new s closed [] n way w k lt rungs = absurd (omega (arith, lt))
ladder_way new s closed (name ∷ more) n way w zero lt rungs =
    let at : n ≡ n + 0 = omega arith in
    (onto way [], name ∷ more, λ e. cc e, sym (onto-append way [] (name ∷ more)), (way, subst (Way new way) at w, refl))
ladder_way new s closed (name ∷ []) n way w (suc k) lt rungs = absurd (omega (arith, lt))
ladder_way new s closed (name ∷ next ∷ more) n way w (suc k) lt rungs =
    let some : 0 < length (name ∷ next ∷ more) = omega arith in
    let r = rungs 0 some in
    let two : 1 < length (name ∷ next ∷ more) = omega arith in
    let here : n ≡ n + 0 = omega arith in
    let link : child_of (new n name) ≡ Some (suc (n + 0)) = ap (λ i. child_of (new i name)) here ∙ ap child_of r.only.0 ∙ r.leads two in
    let less : k < length (next ∷ more) = omega (arith, lt) in
    let at : suc (n + 0) + k ≡ n + suc k = omega arith in
    let later = ladder_way new s closed (next ∷ more) (suc (n + 0)) (name ∷ way) (n, w, link) k less
    (λ j lt. let more_lt : suc j < length (name ∷ next ∷ more) = omega (arith, lt) in next_rung (λ id. None) new s closed name next more n j (rungs (suc j) more_lt)) in
    (later.0, later.1, later.2, later.3, subst (λ j. LeadsTo new later.0 j []) at later.4)

rung_less : (at first k : ℕ) → at < first → rung_parent at first k < first + k
rung_less at first zero lt = omega (arith, lt)
rung_less at first (suc k) lt = omega arith

-- ---- a ladder after a forest

module _ (slots mid : Slots) (bound more : ℕ) (ok : IsForest slots bound) (names : Path) (s : Slot) (closed : s.child ≡ None)
    (front : (i : ℕ) (m : Bytes) → i < bound → mid i m ≡ slots i m) (rungs : (k : ℕ) → k < length names → IsRung mid bound names s k)
    (len : more ≡ bound + length names) (past : (i : ℕ) (m : Bytes) → more ≤ i → mid i m ≡ None) where
  -- where a rung leads
  rung_link : (i : ℕ) (m : Bytes) (c : ℕ) → bound ≤ i → child_of (mid i m) ≡ Some c → (m ≡ get_or names (i - bound) []) × (c ≡ suc i) × (suc i < more)
  rung_link i m c le e = elim (cases_lt i more) [
    | inr above ↦ let none : child_of (mid i m) ≡ None = ap child_of (past i m above) in absurd (cc (sym none ∙ e))
    | inl lt ↦
        let at : i ≡ bound + (i - bound) = omega arith in
        let less : i - bound < length names = omega arith in
        let r = rungs (i - bound) less in
        elim (by_test (bytes_eq m (get_or names (i - bound) []))) [
          | inr f ↦
              let apart : m ≢ get_or names (i - bound) [] = λ same. let yes : bytes_eq m (get_or names (i - bound) []) ≡ true = ap (bytes_eq m) (sym same) ∙ name_itself m in cc in
              let none : child_of (mid i m) ≡ None = ap (λ j. child_of (mid j m)) at ∙ ap child_of (r.only.1 m apart) in
              absurd (cc (sym none ∙ e))
          | inl t ↦
              let same : m ≡ get_or names (i - bound) [] = same_name m (get_or names (i - bound) []) t in
              let here : child_of (mid i m) ≡ child_of (Some r.slot) =
              ap (λ j. child_of (mid j m)) at ∙ ap (λ n. child_of (mid (bound + (i - bound)) n)) same ∙ ap child_of r.only.0 in
              elim (cases_lt (suc (i - bound)) (length names)) [
                | inl inner ↦
                    let next : Some c ≡ Some (suc (bound + (i - bound))) = sym e ∙ here ∙ r.leads inner in
                    let is : c ≡ suc (bound + (i - bound)) = cc in
                    (same, omega arith, omega arith)
                | inr last ↦
                    let end : suc (i - bound) ≡ length names = omega arith in
                    let none : child_of (mid i m) ≡ None = here ∙ ap (λ u. child_of (Some u)) (r.ends end) ∙ ap (λ o. child_or o (λ d. Some d) None) closed in
                    absurd (cc (sym none ∙ e))
              ]
        ]
  ]

  old_link : (i : ℕ) (m : Bytes) (c : ℕ) → i < bound → child_of (mid i m) ≡ Some c → child_of (slots i m) ≡ Some c
  old_link i m c lt e = ap child_of (sym (front i m lt)) ∙ e

  one_link : (i j c : ℕ) (n m : Bytes) → child_of (mid i n) ≡ Some c → child_of (mid j m) ≡ Some c → (i ≡ j) × (n ≡ m)
  one_link i j c n m e f = elim (cases_lt i bound) [
    | inl lt ↦ elim (cases_lt j bound) [
      | inl less ↦ ok.one i j c n m (old_link i n c lt e) (old_link j m c less f)
      | inr le ↦ let w : c < bound = ok.within i n c (old_link i n c lt e) in let r = rung_link j m c le f in let is = r.1 in absurd (omega arith)
    ]
    | inr ge ↦ elim (cases_lt j bound) [
      | inl less ↦ let w : c < bound = ok.within j m c (old_link j m c less f) in let r = rung_link i n c ge e in let is = r.1 in absurd (omega arith)
      | inr le ↦
          let a = rung_link i n c ge e in
          let b = rung_link j m c le f in
          let x = a.1 in
          let y = b.1 in
          let same : i ≡ j = omega arith in
          (same, a.0 ∙ ap (λ k. get_or names (k - bound) []) same ∙ sym b.0)
    ]
  ]

  pub ladder_forest : IsForest mid more
  ladder_forest = record {
    rooted = let r = ok.rooted in omega arith;
    forward = λ i n c e. elim (cases_lt i bound) [
      | inl lt ↦ ok.forward i n c (old_link i n c lt e)
      | inr le ↦ let r = rung_link i n c le e in let is = r.1 in omega arith
    ];
    within = λ i n c e. elim (cases_lt i bound) [
      | inl lt ↦ let w = ok.within i n c (old_link i n c lt e) in omega arith
      | inr le ↦ let r = rung_link i n c le e in let is = r.1 in let less = r.2 in omega arith
    ];
    one = one_link;
  }

  free : (i : ℕ) (n : Bytes) → child_of (mid i n) ≡ Some bound → ⊥
  free i n e = elim (cases_lt i bound) [
    | inl lt ↦ let w = ok.within i n bound (old_link i n bound lt e) in absurd (omega arith)
    | inr le ↦ let r = rung_link i n bound le e in let is = r.1 in absurd (omega arith)
  ]

  module _ (new : Slots) (at : ℕ) (name : Bytes) (top : Slot) (below : at < bound) (some : 0 < length names) (stands : new at name ≡ Some top) (linked : child_of (Some top) ≡ Some bound)
      (others : (i : ℕ) (m : Bytes) → ((i ≡ at) → (m ≡ name) → ⊥) → new i m ≡ mid i m) where
    -- the ladder, linked
    pub linked_forest : IsForest new more
    linked_forest =
        let less : bound < more = omega arith in
        linked_more mid new more ladder_forest at name bound below less free (λ i n d e. elim (at_or_off i at n name) [
          | inl x ↦
              let here : child_of (new i n) ≡ Some bound = ap (λ k. child_of (new k n)) x.0 ∙ ap (λ k. child_of (new at k)) x.1 ∙ ap child_of stands ∙ linked in
              let same : d ≡ bound = cc in
              inl (x.0, x.1, same)
          | inr off ↦ inr (ap child_of (sym (others i n off)) ∙ e)
        ])

    rung_stays : (k : ℕ) → IsRung mid bound names s k → IsRung new bound names s k
    rung_stays k r =
        let off : (bound + k ≡ at) → ⊥ = λ e. absurd (omega arith) in
        record {
          slot = r.slot;
          only = (others (bound + k) (get_or names k []) (λ e _. off e) ∙ r.only.0, λ m apart. others (bound + k) m (λ e _. off e) ∙ r.only.1 m apart);
          leads = r.leads;
          folder = r.folder;
          ends = r.ends;
        }

    kept_links : (i : ℕ) (m : Bytes) (c : ℕ) → child_of (slots i m) ≡ Some c → child_of (mid i m) ≡ Some c
    kept_links i m c e =
        let up = ok.forward i m c e in
        let in_it = ok.within i m c e in
        let lt : i < bound = omega arith in
        ap child_of (front i m lt) ∙ e

    pub linked_files : (next : Bytes) (rest : Path) → names ≡ next ∷ rest → IsFolderAt slots at name None → (trees : Trees) (way : Path) → Way slots way at
        → (q : Path) → files_of_node trees new 0 q ≡ put trees (onto way (name ∷ next ∷ rest)) (leaf_in s) (files_of_node trees slots 0) q
    linked_files next rest is plain trees way reached q =
        let root : 0 < bound = ok.rooted in
        lays trees mid new more ladder_forest at name way (way_kept slots mid kept_links way at reached) others bound (leaf_in s) next rest (ap child_of stands ∙ linked)
        (λ m below_m. ladder_files trees new s closed names bound some (λ k lt. rung_stays k (rungs k lt)) m below_m ∙ ap (λ p. put_at trees (leaf_in s) (behind p (m ∷ below_m)) None) is)
        (λ m more_m. front_files trees slots mid bound ok front (name ∷ m ∷ more_m) at below ∙ plain trees m more_m) q
        ∙ ap (λ x. put_at trees (leaf_in s) (behind (onto way (name ∷ next ∷ rest)) q) (if is_some (behind q (onto way (name ∷ next ∷ rest))) then None else x))
        (front_files trees slots mid bound ok front q 0 root)

    is_linked : child_of (new at name) ≡ Some bound
    is_linked = ap child_of stands ∙ linked

    pub linked_entries : leaf_in top ≡ made_leaf (id_of s.oid).kind → (trees : Trees) (way : Path) → Way slots way at
        → (q : Path) → entry_from none_met trees new 0 q ≡ laid_at trees (leaf_in s) names (behind (onto way (name ∷ [])) q) (entry_from none_met trees slots 0 q)
    linked_entries made trees way reached q =
        laid_entries trees slots new bound ok at name way reached (λ i m lt off. others i m off ∙ front i m lt) (leaf_in s) names below_name q
      where
        empty_not : (names : Path) → 0 < length names → laid trees (leaf_in s) names [] ≡ Some (made_leaf (id_of s.oid).kind)
        empty_not [] lt = absurd (omega (arith, lt))
        empty_not (n ∷ ns) lt = refl

        below_name : (rest : Path) → through (new at name) (slot_entry none_met trees new rest) ≡ laid trees (leaf_in s) names rest
        below_name [] = ap (λ o. through o (slot_entry none_met trees new [])) stands ∙ ap Some made ∙ sym (empty_not names some)
        below_name (m ∷ rest) =
            child_entry none_met trees new m rest (new at name) bound is_linked
            ∙ ladder_entries trees new s closed names bound some (λ k lt. rung_stays k (rungs k lt)) m rest

    pub linked_end : (way : Path) → Way slots way at → IsPutIn new (onto way (name ∷ names)) (bound + (length names - 1))
    linked_end way reached =
        let same : (i : ℕ) (m : Bytes) → i < at → new i m ≡ slots i m = λ i m lt.
        let less : i < bound = omega (arith, below) in
        others i m (λ e _. absurd (omega arith)) ∙ front i m less in
        let down : Way new way at = way_above slots new bound at ok same way at (omega arith) reached in
        ladder_end new s closed names bound (name ∷ way) (at, down, ap child_of stands ∙ linked) some (λ k lt. rung_stays k (rungs k lt))

    rung_mark : (state : Bool) (now : Marks) → ((k : ℕ) → k < length names → now (bound + k) ≡ mark_below (rung_parent at bound k) state) → (i : ℕ) → bound ≤ i → i < more → now i ≡ mark_below (rung_parent at bound (i - bound)) state
    rung_mark state now made i le lt =
        let is : i ≡ bound + (i - bound) = omega (arith, le) in
        let less : i - bound < length names = omega (arith, le, lt, len) in
        ap now is ∙ made (i - bound) less

    pub linked_marks : (state : Bool) (was now : Marks) → ((i : ℕ) → i < bound → now i ≡ was i) → ((k : ℕ) → k < length names → now (bound + k) ≡ mark_below (rung_parent at bound k) state) → AreMarksKept state slots new was now bound more
    linked_marks state was now same made = record {
      same = same;
      fresh = λ i le lt. ap (λ (x : Mark). x.changed) (rung_mark state now made i le lt);
      before = λ i le lt.
          let up : rung_parent at bound (i - bound) < bound + (i - bound) = rung_less at bound (i - bound) below in
          let less : rung_parent at bound (i - bound) < i = omega (arith, up, le) in
          subst (λ (x : Mark). x.parent < i) (sym (rung_mark state now made i le lt)) less;
      up = λ i n c e le. elim (cases_lt i bound) [
        | inl early ↦ elim (at_or_off i at n name) [
          | inl x ↦
              let here : child_of (new i n) ≡ Some bound = ap (λ k. child_of (new k n)) x.0 ∙ ap (λ k. child_of (new at k)) x.1 ∙ is_linked in
              let is : c ≡ bound = one c bound (sym e ∙ here) in
              let first : bound ≡ bound + 0 = omega arith in
              ap (λ k. (now k).parent) (is ∙ first) ∙ ap (λ (x : Mark). x.parent) (made 0 some) ∙ sym x.0
          | inr off ↦
              let w : c < bound = ok.within i n c (ap child_of (sym (front i n early)) ∙ ap child_of (sym (others i n off)) ∙ e) in
              absurd (omega (arith, w, le))
        ]
        | inr late ↦
            let link : child_of (mid i n) ≡ Some c = ap child_of (sym (others i n (λ is _. absurd (omega (arith, is, late, below))))) ∙ e in
            let r = rung_link i n c late link in
            let is = r.1 in
            let within = r.2 in
            let at_c : c ≡ bound + suc (i - bound) = omega (arith, is, late) in
            let less : suc (i - bound) < length names = omega (arith, within, late, len) in
            let back : bound + (i - bound) ≡ i = omega (arith, late) in
            ap (λ k. (now k).parent) at_c ∙ ap (λ (x : Mark). x.parent) (made (suc (i - bound)) less) ∙ back
      ];
      links = λ i n c e lt. elim (at_or_off i at n name) [
        | inl x ↦
            let here : child_of (new i n) ≡ Some bound = ap (λ k. child_of (new k n)) x.0 ∙ ap (λ k. child_of (new at k)) x.1 ∙ is_linked in
            let is : c ≡ bound = one c bound (sym e ∙ here) in
            absurd (omega (arith, is, lt))
        | inr off ↦
            let up : i < c = linked_forest.forward i n c e in
            let early : i < bound = omega (arith, up, lt) in
            others i n off ∙ front i n early
      ];
    }
      where
        one : (c d : ℕ) → Some c ≡ Some d → c ≡ d
        one c d e = cc

    pub linked_ways : (way : Path) → Way slots way at → AreOnPath new (onto way (name ∷ names)) bound more
    linked_ways way reached i le lt =
        let same : (i : ℕ) (m : Bytes) → i < at → new i m ≡ slots i m = λ i m lt.
        let less : i < bound = omega (arith, below) in
        others i m (λ e _. absurd (omega arith)) ∙ front i m less in
        let down : Way new way at = way_above slots new bound at ok same way at (omega arith) reached in
        let is : bound + (i - bound) ≡ i = omega (arith, le) in
        let less : i - bound < length names = omega (arith, le, lt, len) in
        let so = ladder_way new s closed names bound (name ∷ way) (at, down, is_linked) (i - bound) less (λ k lt. rung_stays k (rungs k lt)) in
        (so.0, so.1, so.2, so.3, subst (λ j. LeadsTo new so.0 j []) is so.4)

-- ---- the same of nodes

rest_names : (path : List (Bor (List ℕ))) → 1 < length path → (next : Bytes) × (rest : Path) × (names path ≡ get_or (names path) 0 [] ∷ next ∷ rest) × (names (drop 1 path) ≡ next ∷ rest)
rest_names [] lt = absurd (omega arith)
rest_names (p ∷ []) lt = absurd (omega arith)
rest_names (p ∷ q ∷ path) lt = (q.now, names path, refl, refl)

-- trees that were pushed, each in the one before it, of which the first was put into the slot of a name
pub record Hung (old mid new : List Node) (path tail : List (Bor (List ℕ))) (s top : Slot) (state : Bool) (at : ℕ) (name : Bytes) : Type 0 where
  pub ok : IsForestOf old
  pub two : 1 < length path
  pub tail_is : tail ≡ drop 1 path
  pub closed : s.child ≡ None
  pub front : KeepsFront old mid
  pub ladder : IsLadder old at tail s state mid
  pub name_is : get_or (names path) 0 [] ≡ name
  pub below : at < length old
  pub stands : slots_of new at name ≡ Some top
  pub linked : child_of (Some top) ≡ Some (length old)
  pub leaf : leaf_in top ≡ made_leaf (id_of s.oid).kind
  pub rest : KeepsRest mid at name new

module _ {old mid new : List Node} {path tail : List (Bor (List ℕ))} {s top : Slot} {state : Bool} {at : ℕ} {name : Bytes} (h : Hung old mid new path tail s top state at name) where
  tail_long : length (names tail) ≡ length tail
  tail_long = names_length tail

  some : 0 < length (names tail)
  some = omega (arith, h.two, tail_long, ap length h.tail_is, length-drop 1 path)

  long : length mid ≡ length old + length (names tail)
  long = omega (arith, h.ladder.len, tail_long)

  rungs_named : (k : ℕ) → k < length (names tail) → IsRung (slots_of mid) (length old) (names tail) s k
  rungs_named k lt = let less : k < length tail = omega (arith, tail_long) in h.ladder.rungs k less

  past : (i : ℕ) (m : Bytes) → length mid ≤ i → slots_of mid i m ≡ None
  past i m le = none_past mid i m le

  path_is : name ∷ names tail ≡ names path
  path_is =
      let parts = rest_names path h.two in
      ap (λ p. name ∷ p) (ap names h.tail_is ∙ parts.3) ∙ ap (λ n. n ∷ parts.0 ∷ parts.1) (sym h.name_is) ∙ sym parts.2

  hung_files : IsFolderAt (slots_of old) at (get_or (names path) 0 []) None → (trees : Trees) (way : Path) → Way (slots_of old) way at
      → (q : Path) → files_of_node trees (slots_of new) 0 q ≡ put trees (onto way (names path)) (leaf_in s) (files_of_node trees (slots_of old) 0) q
  hung_files plain trees way reached q =
      let parts = rest_names path h.two in
      let is : names path ≡ name ∷ parts.0 ∷ parts.1 = parts.2 ∙ ap (λ n. n ∷ parts.0 ∷ parts.1) h.name_is in
      let plain_here : IsFolderAt (slots_of old) at name None = subst (λ n. IsFolderAt (slots_of old) at n None) h.name_is plain in
      linked_files (slots_of old) (slots_of mid) (length old) (length mid) h.ok (names tail) s h.closed h.front.slots rungs_named long past (slots_of new) at name top h.below some h.stands h.linked h.rest.others
      parts.0 parts.1 (ap names h.tail_is ∙ parts.3) plain_here trees way reached q
      ∙ ap (λ p. put trees (onto way p) (leaf_in s) (files_of_node trees (slots_of old) 0) q) (sym is)

  hung_entries : (trees : Trees) (way : Path) → Way (slots_of old) way at → (q : Path)
      → entry_from none_met trees (slots_of new) 0 q ≡ laid_at trees (leaf_in s) (names (drop 1 path)) (behind (onto way (get_or (names path) 0 [] ∷ [])) q) (entry_from none_met trees (slots_of old) 0 q)
  hung_entries trees way reached q =
      let stood = entry_from none_met trees (slots_of old) 0 q in
      linked_entries (slots_of old) (slots_of mid) (length old) (length mid) h.ok (names tail) s h.closed h.front.slots rungs_named long past (slots_of new) at name top h.below some h.stands h.linked h.rest.others
      h.leaf trees way reached q
      ∙ ap (λ (xs : List (Bor (List ℕ))). laid_at trees (leaf_in s) (names xs) (behind (onto way (name ∷ [])) q) stood) h.tail_is
      ∙ ap (λ m. laid_at trees (leaf_in s) (names (drop 1 path)) (behind (onto way (m ∷ [])) q) stood) (sym h.name_is)

  hung_end : (k : ℕ) → suc k ≡ length mid → (way : Path) → Way (slots_of old) way at → IsPutIn (slots_of new) (onto way (names path)) k
  hung_end k end way reached =
      let last : length old + (length (names tail) - 1) ≡ k = omega (arith, long, some, end) in
      subst (IsPutIn (slots_of new) (onto way (names path))) last
      (subst (λ p. IsPutIn (slots_of new) (onto way p) (length old + (length (names tail) - 1))) path_is
      (linked_end (slots_of old) (slots_of mid) (length old) (length mid) h.ok (names tail) s h.closed h.front.slots rungs_named long past (slots_of new) at name top h.below some h.stands h.linked h.rest.others way reached))

  hung_marks : KeepsMarks state old new
  hung_marks =
      subst (AreMarksKept state (slots_of old) (slots_of new) (marks_of old) (marks_of new) (length old)) (sym h.rest.len)
      (linked_marks (slots_of old) (slots_of mid) (length old) (length mid) h.ok (names tail) s h.closed h.front.slots rungs_named long past (slots_of new) at name top h.below some h.stands h.linked h.rest.others
      state (marks_of old) (marks_of new) (λ i lt. h.rest.marks i ∙ h.front.marks i lt) (λ k lt. let less : k < length tail = omega (arith, tail_long, lt) in h.rest.marks (length old + k) ∙ h.ladder.marked k less))

  hung_ways : (way : Path) → Way (slots_of old) way at → AreOnPath (slots_of new) (onto way (names path)) (length old) (length new)
  hung_ways way reached =
      subst (AreOnPath (slots_of new) (onto way (names path)) (length old)) (sym h.rest.len)
      (subst (λ p. AreOnPath (slots_of new) (onto way p) (length old) (length mid)) path_is
      (linked_ways (slots_of old) (slots_of mid) (length old) (length mid) h.ok (names tail) s h.closed h.front.slots rungs_named long past (slots_of new) at name top h.below some h.stands h.linked h.rest.others way reached))

  hung_rungs : (end : ℕ) → suc end ≡ length mid → (i : ℕ) (m : Bytes) (u : Slot) → length old ≤ i → slots_of new i m ≡ Some u → (i ≡ end) ⊎ Contains (front_of (names path)) m
  hung_rungs end last i m u le is =
      let stood : slots_of mid i m ≡ Some u = sym (h.rest.others i m (λ e _. absurd (omega (arith, e, le, h.below)))) ∙ is in
      elim (hung_names (slots_of mid) (length old) (names tail) s rungs_named (λ j n gone. none_past mid j n (omega (arith, gone, long))) i m u le stood) [
        | inl e ↦ inl (omega (arith, e, last, long))
        | inr found ↦ inr (subst (Contains (front_of (names path))) (in_front path found.0 (subst (λ (xs : List (Bor (List ℕ))). suc found.0 < length (names xs)) h.tail_is found.1)
            ∙ ap (λ (xs : List (Bor (List ℕ))). get_or (names xs) found.0 []) (sym h.tail_is) ∙ sym found.2)
            (front_has (names path) (suc found.0) (omega (arith, found.1, tail_long, ap length h.tail_is, length-drop 1 path, names_length path))))
      ]

  -- the slot is laid
  pub hung_laid : (end : ℕ) → suc end ≡ length mid → IsFolderAt (slots_of old) at (get_or (names path) 0 []) None → IsLaid old at path s state new end
  hung_laid end ends plain = record {
    appends = record {
      forest = subst (IsForest (slots_of new)) (sym h.rest.len)
          (linked_forest (slots_of old) (slots_of mid) (length old) (length mid) h.ok (names tail) s h.closed h.front.slots rungs_named long past (slots_of new) at name top h.below some h.stands h.linked h.rest.others);
      longer = omega (arith, h.front.longer, h.rest.len);
      others = λ i m lt off. h.rest.others i m (λ e same. off e (same ∙ sym h.name_is)) ∙ h.front.slots i m lt;
      marks = hung_marks;
    };
    within = omega (arith, ends, h.rest.len);
    files = hung_files plain;
    entries = hung_entries;
    put_in = hung_end end ends;
    each = λ has fit each.
        let some_names : 0 < length (names path) = omega (arith, names_length path, h.two) in
        hung_each (slots_of old) (slots_of mid) (slots_of new) (length old) at name top (names path) (names tail) (leaf_in s) has h.front.slots h.ladder.leaves
        (λ m in_it. in_tail path m (subst (λ (xs : List (Bor (List ℕ))). Contains (names xs) m) h.tail_is in_it)) h.stands h.leaf h.rest.others fit some_names h.name_is each;
    null = λ more none. hung_null (slots_of old) (slots_of mid) (slots_of new) (length old) at name top (names tail) (leaf_in s) h.ok h.front.slots h.ladder.leaves none h.stands h.leaf h.rest.others;
    last = λ more. (omega (arith, ends, h.rest.len), omega (arith, ends, long, some));
    rungs = hung_rungs end ends;
    made = hung_ways;
  }
