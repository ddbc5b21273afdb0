-- Marks of opened trees, and what an edit leaves of those that it doesn't change.
use Rattle.std.proofs.Common.{ℕ, zero, suc, ◌≡◌, ◌≢◌, ◌<◌, ◌≤◌, ◌⊎◌, Bool, true, false, [], ◌∷◌, ◌++◌, Option, Some, None, refl, sym, ap, subst, ◌∙◌, inl, inr, arith, length}
use Rattle.std.proofs.lemmas.Bool.{cases_eq, cases_lt}
use Rattle.gix_object_nodes.specs.declared.node.Node.{Node}
use Rattle.gix_object_nodes.specs.declared.node.Slot.{Slot}
use Rattle.gix_object_nodes.specs.Files.{Bytes, Path, Trees, through, files_of_entry}
use Rattle.gix_object_nodes.specs.Nodes.{Slots, slot_in, slots_of, child_of, leaf_in, files_of_slot, files_of_node, IsForest, Way, onto, LeadsTo}
use Rattle.gix_object_nodes.specs.Marks.{Mark, Marks, mark_below, mark_of, marks_of, AreMarkedBut, AreMarked, AreMarksKept, AreMarkedUp, IsMarkedFor, IsIdle, IsOnWay, AreAsRead}
use Rattle.gix_object_nodes.proofs.Paths.{by_test, onto-append}
use Rattle.gix_object_editor.proofs.Opening.{at_or_off, same_through}
use Rattle.gix_object_editor.proofs.Filled.{null_none}
use Rattle.gix_object_nodes.proofs.Ways.{unique, closed_files}

-- ---- nodes that are put after the others

pub not_yet : (m : Mark) → m.changed ≡ false → m.changed ≡ true → ⊥
not_yet m f t = cc (sym f ∙ t)

lower : (m n : Mark) (i : ℕ) → m ≡ n → n.parent < i → m.parent < i
lower m n i e lt = subst (λ (k : Mark). k.parent < i) (sym e) lt

pub marks_none : (state : Bool) (slots : Slots) (marks : Marks) (bound : ℕ) → IsForest slots bound → AreMarksKept state slots slots marks marks bound bound
marks_none state slots marks bound ok = record {
  same = λ i lt. refl;
  fresh = λ i le lt. absurd (omega (arith, le, lt));
  before = λ i le lt. absurd (omega (arith, le, lt));
  up = λ i n c e le. let w = ok.within i n c e in absurd (omega (arith, le, w));
  links = λ i n c e lt. refl;
}

-- slots and marks that are as they were
pub marks_same : (state : Bool) (old new : Slots) (was now : Marks) (bound more : ℕ) → IsForest old bound → bound ≡ more → ((i : ℕ) (m : Bytes) → new i m ≡ old i m) → ((i : ℕ) → i < bound → now i ≡ was i)
    → AreMarksKept state old new was now bound more
marks_same state old new was now bound more ok e slots marks = record {
  same = marks;
  fresh = λ i le lt. absurd (omega (arith, le, lt, e));
  before = λ i le lt. absurd (omega (arith, le, lt, e));
  up = λ i n c is le. let w = ok.within i n c (ap child_of (sym (slots i n)) ∙ is) in absurd (omega (arith, le, w));
  links = λ i n c is lt. slots i n;
}

pub marks_then : (state : Bool) (a b c : Slots) (u v w : Marks) (k l m : ℕ) → k ≤ l → l ≤ m → AreMarksKept state a b u v k l → AreMarksKept state b c v w l m → AreMarksKept state a c u w k m
marks_then state a b c u v w k l m kl lm first second = record {
  same = λ i lt. let less : i < l = omega (arith, lt, kl) in second.same i less ∙ first.same i lt;
  fresh = λ i le lt. elim (cases_lt i l) [
    | inl less ↦ ap (λ (x : Mark). x.changed) (second.same i less) ∙ first.fresh i le less
    | inr ge ↦ second.fresh i ge lt
  ];
  before = λ i le lt. elim (cases_lt i l) [
    | inl less ↦ lower (w i) (v i) i (second.same i less) (first.before i le less)
    | inr ge ↦ second.before i ge lt
  ];
  up = λ i n d e le. elim (cases_lt d l) [
    | inl less ↦ ap (λ (x : Mark). x.parent) (second.same d less) ∙ first.up i n d (ap child_of (sym (second.links i n d e less)) ∙ e) le
    | inr ge ↦ second.up i n d e ge
  ];
  links = λ i n d e lt.
      let less : d < l = omega (arith, lt, kl) in
      second.links i n d e less ∙ first.links i n d (ap child_of (sym (second.links i n d e less)) ∙ e) lt;
}

module _ (old new : Slots) (was now : Marks) (bound more : ℕ) (old_ok : IsForest old bound) (marked : AreMarked old was bound) (state : Bool) (kept : AreMarksKept state old new was now bound more) where
  still_before : (i : ℕ) → 0 < i → i < more → (now i).parent < i
  still_before i some lt = elim (cases_lt i bound) [
    | inl less ↦ lower (now i) (was i) i (kept.same i less) (marked.before i some less)
    | inr ge ↦ kept.before i ge lt
  ]

  still_up : (i : ℕ) (n : Bytes) (c : ℕ) → child_of (new i n) ≡ Some c → (now c).parent ≡ i
  still_up i n c e = elim (cases_lt c bound) [
    | inl less ↦ ap (λ (x : Mark). x.parent) (kept.same c less) ∙ marked.up i n c (ap child_of (sym (kept.links i n c e less)) ∙ e)
    | inr ge ↦ kept.up i n c e ge
  ]

  -- what leads to a tree of before
  still_closed : (i : ℕ) (n : Bytes) (c : ℕ) → child_of (new i n) ≡ Some c → c < bound → (now c).changed ≡ true → (now i).changed ≡ true
  still_closed i n c e lt t =
      let link : child_of (old i n) ≡ Some c = ap child_of (sym (kept.links i n c e lt)) ∙ e in
      let up : i < c = old_ok.forward i n c link in
      let less : i < bound = omega (arith, up, lt) in
      ap (λ (x : Mark). x.changed) (kept.same i less) ∙ marked.closed i n c link (ap (λ (x : Mark). x.changed) (sym (kept.same c lt)) ∙ t)

  -- trees that were opened
  pub opened_marked : IsForest new more → ((i : ℕ) → bound ≤ i → i < more → (now i).changed ≡ false) → AreMarked new now more
  opened_marked ok fresh = record {
    before = still_before;
    up = still_up;
    closed = λ i n c e t. elim (cases_lt c bound) [
      | inl less ↦ still_closed i n c e less t
      | inr ge ↦ absurd (not_yet (now c) (fresh c ge (ok.within i n c e)) t)
    ];
  }

  -- folders that were made below one
  pub laid_marked : (at : ℕ) (name : Bytes) → IsForest new more → ((i : ℕ) → bound ≤ i → i < more → (now i).changed ≡ true)
      → ((i : ℕ) (m : Bytes) → i < bound → ((i ≡ at) → (m ≡ name) → ⊥) → new i m ≡ old i m) → AreMarkedBut at new now more
  laid_marked at name ok fresh others = record {
    before = still_before;
    up = still_up;
    closed = λ i n c e t. elim (cases_lt c bound) [
      | inl less ↦ inl (still_closed i n c e less t)
      | inr ge ↦
          let up : i < c = ok.forward i n c e in
          let within : c < more = ok.within i n c e in
          elim (cases_lt i bound) [
            | inr late ↦ let lt : i < more = omega (arith, up, within) in inl (fresh i late lt)
            | inl early ↦ elim (at_or_off i at n name) [
              | inl x ↦ inr x.0
              | inr off ↦ let w : c < bound = old_ok.within i n c (ap child_of (sym (others i n early off)) ∙ e) in absurd (omega (arith, w, ge))
            ]
          ]
    ];
  }

-- fewer links
pub fewer_marked : (at : ℕ) (old new : Slots) (was now : Marks) (bound : ℕ) → AreMarked old was bound → ((i : ℕ) → now i ≡ was i) → ((i : ℕ) (n : Bytes) (c : ℕ) → child_of (new i n) ≡ Some c → child_of (old i n) ≡ Some c)
    → AreMarkedBut at new now bound
fewer_marked at old new was now bound marked same fewer = record {
  before = λ i some lt. lower (now i) (was i) i (same i) (marked.before i some lt);
  up = λ i n c e. ap (λ (x : Mark). x.parent) (same c) ∙ marked.up i n c (fewer i n c e);
  closed = λ i n c e t. inl (ap (λ (x : Mark). x.changed) (same i) ∙ marked.closed i n c (fewer i n c e) (ap (λ (x : Mark). x.changed) (sym (same c)) ∙ t));
}

-- ---- marks on the way up

-- the trees from one up to another, without it, are marked
pub record IsClimbing (slots : Slots) (was now : Marks) (at above bound : ℕ) : Type 0 where
  pub marked : AreMarkedBut above slots now bound
  pub here : (at ≡ above) ⊎ ((now at).changed ≡ true)
  pub kept : (j : ℕ) → (was j).changed ≡ true → (now j).changed ≡ true
  pub only : (way : Path) → Way slots way at → IsOnWay slots way above × ((j : ℕ) → (now j).changed ≡ true → ((was j).changed ≡ true) ⊎ IsOnWay slots way j)

pub climb_first : (slots : Slots) (was : Marks) (at bound : ℕ) → AreMarkedBut at slots was bound → IsClimbing slots was was at at bound
climb_first slots was at bound marked = record {
  marked = marked;
  here = inl refl;
  kept = λ j e. e;
  only = λ way w. (([], way, refl, w), λ j e. inl e);
}

module _ (slots : Slots) (bound : ℕ) (ok : IsForest slots bound) (was mid now : Marks) (at above : ℕ) (so : IsClimbing slots was mid at above bound) (within : above < bound)
    (here : now above ≡ mark_below (mid above).parent true) (others : (i : ℕ) → i ≢ above → now i ≡ mid i) where
  same_parent : (i : ℕ) → (now i).parent ≡ (mid i).parent
  same_parent i = elim (cases_eq i above) [
    | inl e ↦ ap (λ k. (now k).parent) e ∙ ap (λ (x : Mark). x.parent) here ∙ ap (λ k. (mid k).parent) (sym e)
    | inr ne ↦ ap (λ (x : Mark). x.parent) (others i ne)
  ]

  is_marked : (now above).changed ≡ true
  is_marked = ap (λ (x : Mark). x.changed) here

  more_marked : (j : ℕ) → (mid j).changed ≡ true → (now j).changed ≡ true
  more_marked j t = elim (cases_eq j above) [
    | inl e ↦ ap (λ k. (now k).changed) e ∙ is_marked
    | inr ne ↦ ap (λ (x : Mark). x.changed) (others j ne) ∙ t
  ]

  was_marked : (j : ℕ) → (now j).changed ≡ true → (j ≡ above) ⊎ ((mid j).changed ≡ true)
  was_marked j t = elim (cases_eq j above) [
    | inl e ↦ inl e
    | inr ne ↦ inr (ap (λ (x : Mark). x.changed) (sym (others j ne)) ∙ t)
  ]

  first_kept : (now at).changed ≡ true
  first_kept = elim so.here [
    | inl e ↦ ap (λ k. (now k).changed) e ∙ is_marked
    | inr t ↦ more_marked at t
  ]

  old_closed : (i : ℕ) (n : Bytes) (c : ℕ) → child_of (slots i n) ≡ Some c → (mid c).changed ≡ true → (now i).changed ≡ true
  old_closed i n c e t = elim (so.marked.closed i n c e t) [
    | inl held ↦ more_marked i held
    | inr same ↦ ap (λ k. (now k).changed) same ∙ is_marked
  ]

  only_more : (way : Path) → Way slots way at → (j : ℕ) → (now j).changed ≡ true → ((was j).changed ≡ true) ⊎ IsOnWay slots way j
  only_more way w j t = elim (was_marked j t) [
    | inl e ↦ inr (subst (IsOnWay slots way) (sym e) (so.only way w).0)
    | inr old ↦ (so.only way w).1 j old
  ]

  next_on_way : (way : Path) → IsOnWay slots way above → 0 < above → IsOnWay slots way (now above).parent
  next_on_way way on some = by_front on.0 on.1 on.2 on.3
    where
      by_front : (below front : Path) → way ≡ below ++ front → Way slots front above → IsOnWay slots way (now above).parent
      by_front below [] e w = absurd (omega (arith, w, some))
      by_front below (n ∷ front) e w =
          let up : w.0 ≡ (now above).parent = sym (so.marked.up w.0 n above w.2) ∙ sym (same_parent above) in
          (below ++ n ∷ [], front, e ∙ one_on below n front, subst (Way slots front) up w.1)
        where
          one_on : (p : Path) (n : Bytes) (q : Path) → p ++ n ∷ q ≡ (p ++ n ∷ []) ++ q
          one_on [] n q = refl
          one_on (m ∷ p) n q = ap (λ r. m ∷ r) (one_on p n q)

  pub climb_more : 0 < above → IsClimbing slots was now at (now above).parent bound
  climb_more some = record {
    marked = record {
      before = λ i pos lt. subst (λ k. k < i) (sym (same_parent i)) (so.marked.before i pos lt);
      up = λ i n c e. same_parent c ∙ so.marked.up i n c e;
      closed = λ i n c e t. elim (was_marked c t) [
        | inl same ↦ inr (sym (so.marked.up i n c e) ∙ sym (same_parent c) ∙ ap (λ k. (now k).parent) same)
        | inr old ↦ inl (old_closed i n c e old)
      ];
    };
    here = inr first_kept;
    kept = λ j t. more_marked j (so.kept j t);
    only = λ way w. (next_on_way way (so.only way w).0 some, only_more way w);
  }

  pub climb_end : above ≡ 0 → AreMarkedUp slots was now at bound
  climb_end root = record {
    marked = record {
      before = λ i pos lt. subst (λ k. k < i) (sym (same_parent i)) (so.marked.before i pos lt);
      up = λ i n c e. same_parent c ∙ so.marked.up i n c e;
      closed = λ i n c e t. elim (was_marked c t) [
        | inl same ↦ let up : i < c = ok.forward i n c e in absurd (omega (arith, up, same, root))
        | inr old ↦ old_closed i n c e old
      ];
    };
    here = first_kept;
    kept = λ j t. more_marked j (so.kept j t);
    only = only_more;
  }

-- ---- a slot that is taken out

pub marked_for : (old mid new : Slots) (was now fin : Marks) (at : ℕ) (name : Bytes) (bound more : ℕ) → more ≡ bound → new ≡ mid → ((i : ℕ) → now i ≡ was i)
    → ((i : ℕ) (m : Bytes) → ((i ≡ at) → (m ≡ name) → ⊥) → mid i m ≡ old i m) → AreMarkedUp mid now fin at more → IsMarkedFor old new was fin at bound bound
marked_for old mid new was now fin at name bound more len same marks others up = subst (λ f. IsMarkedFor old f was fin at bound bound) (sym same) (record {
  marked = subst (AreMarked mid fin) len up.marked;
  kept = λ j t. up.kept j (ap (λ (x : Mark). x.changed) (marks j) ∙ t);
  still = λ i n lt f. elim (cases_eq i at) [
    | inl e ↦ absurd (not_yet (fin i) f (ap (λ k. (fin k).changed) e ∙ up.here))
    | inr ne ↦ inl (others i n (λ e _. ne e))
  ];
  only = λ way w j t. elim (up.only way w j t) [
    | inl yet ↦ inl (ap (λ (x : Mark). x.changed) (sym (marks j)) ∙ yet)
    | inr on ↦ inr on
  ];
})

-- no more than a made folder is taken out, and no mark changes
pub idle_marked : (old new : Slots) (was fin : Marks) (at : ℕ) (name : Bytes) (bound : ℕ) → AreMarked old was bound → IsIdle was (old at name) → new at name ≡ None
    → ((i : ℕ) (m : Bytes) → ((i ≡ at) → (m ≡ name) → ⊥) → new i m ≡ old i m) → ((i : ℕ) → fin i ≡ was i) → IsMarkedFor old new was fin at bound bound
idle_marked old new was fin at name bound marked idle here others marks = record {
  marked = record {
    before = λ i some lt. lower (fin i) (was i) i (marks i) (marked.before i some lt);
    up = λ i n c e. ap (λ (x : Mark). x.parent) (marks c) ∙ marked.up i n c (fewer i n c e);
    closed = λ i n c e t. ap (λ (x : Mark). x.changed) (marks i) ∙ marked.closed i n c (fewer i n c e) (ap (λ (x : Mark). x.changed) (sym (marks c)) ∙ t);
  };
  kept = λ j t. ap (λ (x : Mark). x.changed) (marks j) ∙ t;
  still = λ i n lt f. elim (at_or_off i at n name) [
    | inl x ↦ inr (ap (λ k. new k n) x.0 ∙ ap (new at) x.1 ∙ here, subst (IsIdle was) (sym (ap (λ k. old k n) x.0 ∙ ap (old at) x.1)) idle)
    | inr off ↦ inl (others i n off)
  ];
  only = λ way w j t. inl (ap (λ (x : Mark). x.changed) (sym (marks j)) ∙ t);
}
  where
    fewer : (i : ℕ) (n : Bytes) (c : ℕ) → child_of (new i n) ≡ Some c → child_of (old i n) ≡ Some c
    fewer i n c e = elim (at_or_off i at n name) [
      | inl x ↦ let none : child_of (new i n) ≡ None = ap child_of (ap (λ k. new k n) x.0 ∙ ap (new at) x.1 ∙ here) in absurd (cc (sym none ∙ e))
      | inr off ↦ ap child_of (sym (others i n off)) ∙ e
    ]

-- ---- what an edit leaves of the trees that it doesn't mark

module _ (trees : Trees) (mid new : Slots) (was fin : Marks) (bound more : ℕ) (ok : IsForest mid bound) (marked : AreMarked new fin more)
    (still : (i : ℕ) (name : Bytes) → i < bound → (fin i).changed ≡ false → (new i name ≡ mid i name) ⊎ ((new i name ≡ None) × IsIdle was (mid i name))) (read : AreAsRead trees mid was) where
  -- what is no more than a made folder has no files
  idle_none : (i : ℕ) (n : Bytes) (rest : Path) (o : Option Slot) → mid i n ≡ o → IsIdle was o → through o (files_of_slot trees mid rest) ≡ None
  idle_none i n rest None is idle = refl
  idle_none i n rest (Some s) is idle = read i n s idle.0 is idle.1 idle.3 rest ∙ null_none trees (leaf_in s) idle.2 rest

  below_unchanged : (i : ℕ) (n : Bytes) (c : ℕ) → child_of (new i n) ≡ Some c → (fin i).changed ≡ false → (fin c).changed ≡ false
  below_unchanged i n c e f = elim (by_test (fin c).changed) [
    | inl t ↦ absurd (not_yet (fin i) f (marked.closed i n c e t))
    | inr g ↦ g
  ]

  unchanged_files : (q : Path) (i : ℕ) → i < bound → (fin i).changed ≡ false → files_of_node trees new i q ≡ files_of_node trees mid i q
  unchanged_files [] i lt f = refl
  unchanged_files (n ∷ rest) i lt f = elim (still i n lt f) [
    | inl same ↦
        ap (λ o. through o (files_of_slot trees new rest)) same
        ∙ same_through trees mid new rest (mid i n) (λ c is. unchanged_files rest c (ok.within i n c is) (below_unchanged i n c (ap child_of same ∙ is) f))
    | inr gone ↦ ap (λ o. through o (files_of_slot trees new rest)) gone.0 ∙ sym (idle_none i n rest (mid i n) refl gone.1)
  ]

  pub edited_as_read : ((c : ℕ) → c < bound → (was c).changed ≡ true → (fin c).changed ≡ true) → ((c : ℕ) → bound ≤ c → c < more → (fin c).changed ≡ true)
      → IsForest new more → ((i : ℕ) (n : Bytes) (c : ℕ) → child_of (new i n) ≡ Some c → c < bound → new i n ≡ mid i n) → AreAsRead trees new fin
  edited_as_read kept fresh new_ok links i n s c stands is f rest = elim (cases_lt c bound) [
    | inr ge ↦
        let within : c < more = new_ok.within i n c (ap child_of stands ∙ is) in
        absurd (not_yet (fin c) f (fresh c ge within))
    | inl lt ↦
        let stood : mid i n ≡ Some s = sym (links i n c (ap child_of stands ∙ is) lt) ∙ stands in
        let unmarked : (was c).changed ≡ false = elim (by_test (was c).changed) [ inl t ↦ absurd (not_yet (fin c) f (kept c lt t)) | inr g ↦ g ] in
        same_through trees mid new rest (Some s) (λ d child. let same : c ≡ d = one c d (sym is ∙ child) in subst (λ k. files_of_node trees new k rest ≡ files_of_node trees mid k rest) same (unchanged_files rest c lt f))
        ∙ read i n s c stood is unmarked rest
  ]
    where
      one : (c d : ℕ) → Some c ≡ Some d → c ≡ d
      one c d e = cc

-- ---- one tree that is opened

module _ (slots new : Slots) (was now : Marks) (bound more : ℕ) (ok : IsForest slots bound) (new_ok : IsForest new more) (next : more ≡ suc bound) (at : ℕ) (name : Bytes) (s t : Slot) (lt : at < bound)
    (stood : slots at name ≡ Some s) (closed : s.child ≡ None) (stands : new at name ≡ Some t) (linked : child_of (Some t) ≡ Some bound) (fresh : (m : Bytes) → child_of (new bound m) ≡ None)
    (agree : (i : ℕ) (m : Bytes) → i < bound → ((i ≡ at) → (m ≡ name) → ⊥) → new i m ≡ slots i m)
    (past : (i : ℕ) (m : Bytes) → bound < i → new i m ≡ None)
    (same : (i : ℕ) → i < bound → now i ≡ was i) (mark : now bound ≡ mark_below at false) where
  is_link : child_of (new at name) ≡ Some bound
  is_link = ap child_of stands ∙ linked

  early : (i : ℕ) (n : Bytes) (c : ℕ) → child_of (new i n) ≡ Some c → i < bound
  early i n c e = let up : i < c = new_ok.forward i n c e in let w : c < more = new_ok.within i n c e in omega (arith, up, w, next)

  old_slot : (i : ℕ) (n : Bytes) (c : ℕ) → child_of (new i n) ≡ Some c → c < bound → new i n ≡ slots i n
  old_slot i n c e less = elim (at_or_off i at n name) [
    | inl x ↦
        let here : child_of (new i n) ≡ Some bound = ap (λ k. child_of (new k n)) x.0 ∙ ap (λ k. child_of (new at k)) x.1 ∙ is_link in
        let both : c ≡ bound = one c bound (sym e ∙ here) in
        absurd (omega (arith, both, less))
    | inr off ↦ agree i n (early i n c e) off
  ]
    where
      one : (c d : ℕ) → Some c ≡ Some d → c ≡ d
      one c d e = cc

  pub marks_one : AreMarksKept false slots new was now bound more
  marks_one = record {
    same = same;
    fresh = λ i le less. let is : bound ≡ i = omega (arith, le, less, next) in ap (λ k. (now k).changed) (sym is) ∙ ap (λ (x : Mark). x.changed) mark;
    before = λ i le less. let is : bound ≡ i = omega (arith, le, less, next) in subst (λ k. (now k).parent < k) is (subst (λ (x : Mark). x.parent < bound) (sym mark) lt);
    up = λ i n c e le.
        let w : c < more = new_ok.within i n c e in
        let is : c ≡ bound = omega (arith, le, w, next) in
        ap (λ k. (now k).parent) is ∙ ap (λ (x : Mark). x.parent) mark ∙ sym (new_ok.one i at bound n name (e ∙ ap (λ k. Some k) is) is_link).0;
    links = old_slot;
  }

  pub read_one : (trees : Trees) → ((q : Path) (i : ℕ) → i < bound → files_of_node trees new i q ≡ files_of_node trees slots i q) → leaf_in t ≡ leaf_in s → AreAsRead trees slots was → AreAsRead trees new now
  read_one trees files leaf read i n u c there is f rest = elim (at_or_off i at n name) [
    | inl x ↦
        let here : new i n ≡ Some t = ap (λ k. new k n) x.0 ∙ ap (new at) x.1 ∙ stands in
        let same_slot : u ≡ t = one_of u t (sym there ∙ here) in
        ap (λ o. through o (files_of_slot trees new rest)) (sym there)
        ∙ files (n ∷ rest) i less
        ∙ ap (λ o. through o (files_of_slot trees slots rest)) (ap (λ k. slots k n) x.0 ∙ ap (slots at) x.1 ∙ stood)
        ∙ closed_files trees slots s closed rest ∙ ap (files_of_entry trees rest) (sym leaf ∙ ap leaf_in (sym same_slot))
    | inr off ↦
        let stood_so : slots i n ≡ Some u = sym (agree i n less off) ∙ there in
        let within : c < bound = ok.within i n c (ap child_of stood_so ∙ is) in
        ap (λ o. through o (files_of_slot trees new rest)) (sym there)
        ∙ files (n ∷ rest) i less
        ∙ ap (λ o. through o (files_of_slot trees slots rest)) stood_so
        ∙ read i n u c stood_so is (ap (λ (x : Mark). x.changed) (sym (same c within)) ∙ f) rest
  ]
    where
      less : i < bound
      less = early i n c (ap child_of there ∙ is)

      one_of : (u t : Slot) → Some u ≡ Some t → u ≡ t
      one_of u t e = cc

-- slots that lead to no opened tree
pub read_none : (trees : Trees) (slots : Slots) (marks : Marks) → ((i : ℕ) (m : Bytes) → child_of (slots i m) ≡ None) → AreAsRead trees slots marks
read_none trees slots marks closed i n s c there is f rest = absurd (cc (sym (closed i n) ∙ ap child_of there ∙ is))

-- the same slots and marks
pub read_same : (trees : Trees) (old new : Slots) (was now : Marks) (bound : ℕ) → IsForest old bound → new ≡ old → ((i : ℕ) → i < bound → now i ≡ was i) → AreAsRead trees old was → AreAsRead trees new now
read_same trees old new was now bound ok slots marks read = subst (λ k. AreAsRead trees k now) (sym slots) (λ i n s c there is f rest.
    let within : c < bound = ok.within i n c (ap child_of there ∙ is) in
    read i n s c there is (ap (λ (x : Mark). x.changed) (sym (marks c within)) ∙ f) rest)

-- ---- a root that was just opened

pub one_closed : (node : Node) → ((m : Bytes) → child_of (slot_in node m) ≡ None) → (i : ℕ) (m : Bytes) → child_of (slots_of (node ∷ []) i m) ≡ None
one_closed node closed zero m = closed m
one_closed node closed (suc i) m = refl

pub one_unchanged : (node : Node) → (mark_of node).changed ≡ false → (i : ℕ) → (marks_of (node ∷ []) i).changed ≡ false
one_unchanged node mark zero = mark
one_unchanged node mark (suc i) = refl

pub one_marked : (node : Node) → ((m : Bytes) → child_of (slot_in node m) ≡ None) → AreMarked (slots_of (node ∷ [])) (marks_of (node ∷ [])) (length (node ∷ []))
one_marked node closed = record {
  before = λ i some lt. absurd (omega (arith, some, lt));
  up = λ i n c e. absurd (cc (sym (one_closed node closed i n) ∙ e));
  closed = λ i n c e t. absurd (cc (sym (one_closed node closed i n) ∙ e));
}

-- ---- which trees are marked

-- a way to a tree that was there before
pub way_before : (old new : Slots) (bound more : ℕ) → IsForest new more → ((i : ℕ) (n : Bytes) (c : ℕ) → child_of (new i n) ≡ Some c → c < bound → new i n ≡ old i n) → (way : Path) (j : ℕ) → j < bound → Way new way j → Way old way j
way_before old new bound more ok links [] j lt w = w
way_before old new bound more ok links (n ∷ way) j lt w =
    let up : w.0 < j = ok.forward w.0 n j w.2 in
    let less : w.0 < bound = omega (arith, up, lt) in
    (w.0, way_before old new bound more ok links way w.0 less w.1, ap child_of (sym (links w.0 n j w.2 lt)) ∙ w.2)

onto_two : (below front q : Path) → onto (below ++ front) q ≡ onto front (onto below q)
onto_two [] front q = refl
onto_two (n ∷ below) front q = onto_two below front (n ∷ q)

-- a tree on a way lies above what is after the way's end
pub on_way_above : (slots : Slots) (bound : ℕ) → IsForest slots bound → (way : Path) (j : ℕ) (tree rest path : Path) → IsOnWay slots way j → LeadsTo slots tree j [] → rest ≢ [] → onto way rest ≡ path
    → (more : Path) × (more ≢ []) × (tree ++ more ≡ path)
on_way_above slots bound ok way j tree rest path on leads some e =
    let same : on.1 ≡ leads.0 = unique slots bound ok on.1 leads.0 j on.3 leads.1 in
    let whole : onto on.1 (onto on.0 rest) ≡ path = sym (onto_two on.0 on.1 rest) ∙ ap (λ w. onto w rest) (sym on.2) ∙ e in (
      onto on.0 rest,
      longer on.0 rest some,
      ap (λ p. p ++ onto on.0 rest) (sym leads.2 ∙ ap (λ w. onto w []) (sym same)) ∙ sym (onto-append on.1 [] (onto on.0 rest)) ∙ whole,
    )
  where
    longer : (w rest : Path) → rest ≢ [] → onto w rest ≢ []
    longer [] rest some = some
    longer (n ∷ w) rest some = longer w (n ∷ rest) (λ e. cc e)
