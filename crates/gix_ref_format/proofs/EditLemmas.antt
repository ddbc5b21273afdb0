-- Lines in the order of their names, and the records that they leave.
use Rattle.std.proofs.Common.{◌≡◌, ◌∙◌, ap, refl, sym, subst, ℕ, suc, ◌+◌, ◌<◌, Bool, true, false, cond, not, ◌&&◌, ◌||◌, List, [], ◌∷◌, ◌++◌, map, length, get_or, Option, Some, None, option_map, arith, append_assoc}
use Rattle.std.specs.Prelude.{find, bytes_eq, IfSome, option_and_then}
use Rattle.std.specs.Option.{option_to_list}
use Rattle.std.specs.List.{filter, list_any}
use Rattle.std.specs.List.Sorted.{IsPermutation, IsSortedBy, IsStableBy, ties}
use Rattle.std.specs.Ordering.{is_lt, is_eq, nat_cmp, ordering_reverse}
use Rattle.std.specs.declared.cmp.Ordering.{Ordering}
use Rattle.std.specs.declared.cmp.Ordering.TheVariants.{Less, Equal, Greater}
use Rattle.std.specs.Cmp.Lexicographic.{slice_cmp}
use Rattle.std.proofs.lemmas.Cmp.{nat_list_cmp_total}
use Rattle.std.proofs.lemmas.Map.Text.{is_eq-slice_cmp}
use Rattle.std.proofs.lemmas.Slice.Eq.{bytes_eq-Decides}
use Rattle.std.proofs.lemmas.Bool.{or_parts}
use Rattle.std.proofs.lemmas.List.Sorted.{list_any-IsPermutation, sorted_far, ranks_by}
use Rattle.gix_ref_format.specs.Packed.{Record}
use Rattle.gix_ref_format.specs.PackedBuffer.{hit}
use Rattle.gix_ref_format.specs.declared.packed.edit.Edit.{Edit}
use Rattle.gix_ref_format.specs.declared.packed.edit.Edit.TheVariants.{Write, Remove}
use Rattle.gix_ref_format.specs.Edited.{Line, line_of, lines_of, line_at, under, ComesBefore, Ascend, IsEdited, own_line, is_same, standing, NoneFalls, Rises, Arranges}

abbrev pub cmp : List ℕ → List ℕ → Ordering
cmp = slice_cmp nat_cmp

pub clash : {A : Type 0} → true ≡ false → A
clash e = absurd (go e)
  where
    go : true ≡ false → ⊥
    go e = cc

pub same_of : (x y : List ℕ) → bytes_eq x y ≡ true → x ≡ y
same_of x y e = (bytes_eq-Decides x y).0 e

pub itself : (x : List ℕ) → bytes_eq x x ≡ true
itself x = (bytes_eq-Decides x x).1 refl

pub less_than : (x y : List ℕ) → is_lt (cmp y x) ≡ false → bytes_eq x y ≡ false → cmp x y ≡ Less
less_than x y not_below differs = go (cmp x y) refl
  where
    go : (o : Ordering) → cmp x y ≡ o → cmp x y ≡ Less
    go Less is = is
    go Equal is = clash (sym (ap is_eq is) ∙ is_eq-slice_cmp x y ∙ differs)
    go Greater is = clash (sym (ap (λ o. is_lt (ordering_reverse o)) is) ∙ sym (ap is_lt (nat_list_cmp_total.antisymm y x)) ∙ not_below)

pub differs_from_less : (x y : List ℕ) → cmp x y ≡ Less → bytes_eq y x ≡ false
differs_from_less x y less = sym (is_eq-slice_cmp y x) ∙ ap is_eq (nat_list_cmp_total.antisymm y x ∙ ap ordering_reverse less)

-- ---- lines that say records of their own names

abbrev AllNamed : List Line → Type 0
AllNamed [] = Unit {0}
AllNamed (line ∷ rest) = IfSome line.says (λ r. r.name ≡ line.name) × AllNamed rest

edits_named : (edits : List Edit) → AllNamed (lines_of edits)
edits_named [] = tt
edits_named (Write r ∷ edits) = (refl, edits_named edits)
edits_named (Remove name ∷ edits) = (tt, edits_named edits)

abbrev says : Option Line → Option Record
says line = option_and_then (λ (l : Line). l.says) line

-- ---- what comes before all

pub before_all : (n m : List ℕ) (rs : List Record) → cmp n m ≡ Less → ComesBefore m rs → ComesBefore n rs
before_all n m [] less before = tt
before_all n m (r ∷ rs) less before = (nat_list_cmp_total.trans n m r.name less before.0, before_all n m rs less before.1)

pub before_none : (n : List ℕ) (rs : List Record) → ComesBefore n rs → hit rs n ≡ None
before_none n [] before = refl
before_none n (r ∷ rs) before =
    ap (λ (b : Bool). cond b (Some r) (hit rs n)) (differs_from_less n r.name before.0) ∙ before_none n rs before.1

abbrev Stands : List ℕ → List Record → Type 0
Stands n rs = ComesBefore n rs × Ascend rs

stands : (n : List ℕ) (lines : List Line) → NoneFalls n lines → Rises lines → AllNamed lines → Stands n (standing (Some n) lines)
stands n [] falls rises named = (tt, tt)
stands n (line ∷ rest) falls rises named =
    go (bytes_eq n line.name) refl (stands n rest falls.1 rises.1 named.1) (stands line.name rest rises.0 rises.1 named.1)
  where
    add : (said : Option Record) → IfSome said (λ r. r.name ≡ line.name) → cmp n line.name ≡ Less → (rs : List Record) → Stands line.name rs → Stands n (option_to_list said ++ rs)
    add None is less rs behind = (before_all n line.name rs less behind.0, behind.1)
    add (Some r) is less rs behind = (
      (ap (cmp n) is ∙ less, before_all n line.name rs less behind.0),
      (subst (λ (m : List ℕ). ComesBefore m rs) (sym is) behind.0, behind.1),
    )

    go : (b : Bool) → bytes_eq n line.name ≡ b → Stands n (standing (Some n) rest) → Stands line.name (standing (Some line.name) rest)
        → Stands n (cond b (standing (Some n) rest) (option_to_list line.says ++ standing (Some line.name) rest))
    go true is same behind = same
    go false is same behind = add line.says named.0 (less_than n line.name falls.0 is) (standing (Some line.name) rest) behind

-- ---- the record of a name

says_if : (b : Bool) (line : Line) (rest : Option Line) → cond b line.says (says rest) ≡ says (cond b (Some line) rest)
says_if true line rest = refl
says_if false line rest = refl

-- a line and the records after it
added : (line : Line) (rest : List Line) (rs : List Record) (name : List ℕ) → IfSome line.says (λ r. r.name ≡ line.name) → ComesBefore line.name rs
    → (bytes_eq line.name name ≡ false → hit rs name ≡ says (line_at rest name)) → hit (option_to_list line.says ++ rs) name ≡ says (line_at (line ∷ rest) name)
added line rest rs name named before other = go (bytes_eq line.name name) refl line.says named ∙ says_if (bytes_eq line.name name) line (line_at rest name)
  where
    go : (b : Bool) → bytes_eq line.name name ≡ b → (said : Option Record) → IfSome said (λ r. r.name ≡ line.name)
        → hit (option_to_list said ++ rs) name ≡ cond b said (says (line_at rest name))
    go true is None same = subst (λ (m : List ℕ). hit rs m ≡ None) (same_of line.name name is) (before_none line.name rs before)
    go true is (Some r) same = ap (λ (b : Bool). cond b (Some r) (hit rs name)) (ap (λ m. bytes_eq m name) same ∙ is)
    go false is None same = other is
    go false is (Some r) same = ap (λ (b : Bool). cond b (Some r) (hit rs name)) (ap (λ m. bytes_eq m name) same ∙ is) ∙ other is

stands_for : (n : List ℕ) (lines : List Line) → NoneFalls n lines → Rises lines → AllNamed lines → (name : List ℕ) → bytes_eq n name ≡ false
    → hit (standing (Some n) lines) name ≡ says (line_at lines name)
stands_for n [] falls rises named name other = refl
stands_for n (line ∷ rest) falls rises named name other =
    go (bytes_eq n line.name) refl (stands_for n rest falls.1 rises.1 named.1 name other) (stands_for line.name rest rises.0 rises.1 named.1 name)
  where
    go : (b : Bool) → bytes_eq n line.name ≡ b → hit (standing (Some n) rest) name ≡ says (line_at rest name)
        → (bytes_eq line.name name ≡ false → hit (standing (Some line.name) rest) name ≡ says (line_at rest name))
        → hit (cond b (standing (Some n) rest) (option_to_list line.says ++ standing (Some line.name) rest)) name ≡ says (line_at (line ∷ rest) name)
    go true is same behind =
        same ∙ ap (λ (b : Bool). says (cond b (Some line) (line_at rest name))) (sym (ap (λ m. bytes_eq m name) (sym (same_of n line.name is)) ∙ other))
    go false is same behind =
        added line rest (standing (Some line.name) rest) name named.0 (stands line.name rest rises.0 rises.1 named.1).0 behind

pub standing_is : (lines : List Line) → Rises lines → AllNamed lines → Ascend (standing None lines) × ((name : List ℕ) → hit (standing None lines) name ≡ says (line_at lines name))
standing_is [] rises named = (tt, λ name. refl)
standing_is (line ∷ rest) rises named =
    let behind = stands line.name rest rises.0 rises.1 named.1 in (
      ascends line.says named.0 behind,
      λ name. added line rest (standing (Some line.name) rest) name named.0 behind.0 (λ other. stands_for line.name rest rises.0 rises.1 named.1 name other),
    )
  where
    ascends : (said : Option Record) → IfSome said (λ r. r.name ≡ line.name) → Stands line.name (standing (Some line.name) rest) → Ascend (option_to_list said ++ standing (Some line.name) rest)
    ascends None is behind = behind.1
    ascends (Some r) is behind = (subst (λ (m : List ℕ). ComesBefore m (standing (Some line.name) rest)) (sym is) behind.0, behind.1)

-- ---- lines before those of records

own_says : (rs : List Record) (name : List ℕ) → says (line_at (map own_line rs) name) ≡ hit rs name
own_says [] name = refl
own_says (r ∷ rs) name = go (bytes_eq r.name name) (own_says rs name)
  where
    go : (b : Bool) → says (line_at (map own_line rs) name) ≡ hit rs name → says (cond b (Some (own_line r)) (line_at (map own_line rs) name)) ≡ cond b (Some r) (hit rs name)
    go true rest = refl
    go false rest = rest

says_both : (lines : List Line) (rs : List Record) (name : List ℕ) → says (line_at (lines ++ map own_line rs) name) ≡ under (line_at lines name) (hit rs name)
says_both [] rs name = own_says rs name
says_both (line ∷ lines) rs name = go (bytes_eq line.name name) (says_both lines rs name)
  where
    go : (b : Bool) → says (line_at (lines ++ map own_line rs) name) ≡ under (line_at lines name) (hit rs name)
        → says (cond b (Some line) (line_at (lines ++ map own_line rs) name)) ≡ under (cond b (Some line) (line_at lines name)) (hit rs name)
    go true rest = refl
    go false rest = rest

pub edited_is : (records : List Record) (edits : List Edit) (lines arranged : List Edit) (after : List Record)
    → lines_of lines ≡ lines_of edits ++ map own_line records → Arranges (lines_of lines) (lines_of arranged) → after ≡ standing None (lines_of arranged)
    → IsEdited records (lines_of edits) after
edited_is records edits lines arranged after all is out =
    let told = standing_is (lines_of arranged) is.rises (edits_named arranged) in
    record {
      ascend = subst (λ (rs : List Record). Ascend rs) (sym out) told.0;
      each = λ name. ap (λ rs. hit rs name) out ∙ told.1 name ∙ ap says (is.first name) ∙ ap (λ ls. says (line_at ls name)) all ∙ says_both (lines_of edits) records name;
    }

-- ---- what a sort arranges

abbrev pub by_name : Edit → Edit → Bool
by_name one other = is_lt (cmp (line_of one).name (line_of other).name)

abbrev first : {X : Type 0} → List X → Option X
first [] = None
first (x ∷ xs) = Some x

find_filtered : {X : Type 0} (p : X → Bool) (xs : List X) → find p xs ≡ first (filter p xs)
find_filtered p [] = refl
find_filtered p (x ∷ xs) = go (p x) (find_filtered p xs)
  where
    go : (b : Bool) → find p xs ≡ first (filter p xs) → cond b (Some x) (find p xs) ≡ first (cond b (x ∷ filter p xs) (filter p xs))
    go true rest = refl
    go false rest = rest

filter_alike : {X : Type 0} (p q : X → Bool) → ((x : X) → p x ≡ q x) → (xs : List X) → filter p xs ≡ filter q xs
filter_alike p q same [] = refl
filter_alike p q same (x ∷ xs) =
    ap (λ b. cond b (x ∷ filter p xs) (filter p xs)) (same x) ∙ ap (λ l. cond (q x) (x ∷ l) l) (filter_alike p q same xs)

found_passes : {X : Type 0} (p : X → Bool) (xs : List X) (x : X) → find p xs ≡ Some x → p x ≡ true
found_passes p [] x found = absurd (go found)
  where
    go : None ≡ Some x → ⊥
    go e = cc
found_passes p (y ∷ ys) x found = go (p y) refl (found_passes p ys x)
  where
    go : (b : Bool) → p y ≡ b → (find p ys ≡ Some x → p x ≡ true) → p x ≡ true
    go true is rest = ap p (sym (same (sym (ap (λ (b : Bool). cond b (Some y) (find p ys)) is) ∙ found))) ∙ is
      where
        same : Some y ≡ Some x → y ≡ x
        same e = cc
    go false is rest = rest (sym (ap (λ (b : Bool). cond b (Some y) (find p ys)) is) ∙ found)

not_any : {X : Type 0} (p : X → Bool) (xs : List X) → find p xs ≡ None → list_any p xs ≡ false
not_any p [] found = refl
not_any p (y ∷ ys) found = go (p y) refl (not_any p ys)
  where
    differ : Some y ≡ None → ⊥
    differ e = cc

    go : (b : Bool) → p y ≡ b → (find p ys ≡ None → list_any p ys ≡ false) → list_any p (y ∷ ys) ≡ false
    go true is rest = absurd (differ (sym (ap (λ (b : Bool). cond b (Some y) (find p ys)) is) ∙ found))
    go false is rest = ap (λ b. b || list_any p ys) is ∙ rest (sym (ap (λ (b : Bool). cond b (Some y) (find p ys)) is) ∙ found)

none_found : {X : Type 0} (p : X → Bool) (xs : List X) → list_any p xs ≡ false → find p xs ≡ None
none_found p [] any = refl
none_found p (y ∷ ys) any =
    let parts = or_parts (p y) (list_any p ys) any in
    ap (λ (b : Bool). cond b (Some y) (find p ys)) parts.0 ∙ none_found p ys parts.1

both_ways : (o : Ordering) → (not (is_lt (ordering_reverse o)) && not (is_lt o)) ≡ is_eq o
both_ways Less = refl
both_ways Equal = refl
both_ways Greater = refl

tied : (x y : List ℕ) → (not (is_lt (cmp x y)) && not (is_lt (cmp y x))) ≡ bytes_eq y x
tied x y =
    ap (λ r. not (is_lt r) && not (is_lt (cmp y x))) (nat_list_cmp_total.antisymm x y)
    ∙ both_ways (cmp y x)
    ∙ is_eq-slice_cmp y x

abbrev named : List ℕ → Edit → Bool
named name edit = bytes_eq (line_of edit).name name

line_found : (edits : List Edit) (name : List ℕ) → line_at (lines_of edits) name ≡ option_map line_of (find (named name) edits)
line_found [] name = refl
line_found (e ∷ edits) name = go (named name e) (line_found edits name)
  where
    go : (b : Bool) → line_at (lines_of edits) name ≡ option_map line_of (find (named name) edits)
        → cond b (Some (line_of e)) (line_at (lines_of edits) name) ≡ option_map line_of (cond b (Some e) (find (named name) edits))
    go true rest = refl
    go false rest = rest

found_sorted : (xs ys : List Edit) → IsPermutation xs ys → IsStableBy by_name xs ys → (name : List ℕ) → find (named name) ys ≡ find (named name) xs
found_sorted xs ys moved stable name = go (find (named name) xs) refl
  where
    go : (o : Option Edit) → find (named name) xs ≡ o → find (named name) ys ≡ find (named name) xs
    go None is = none_found (named name) ys (sym (list_any-IsPermutation (named name) xs ys moved) ∙ not_any (named name) xs is) ∙ sym is
    go (Some x) is =
        let same : (line_of x).name ≡ name = same_of (line_of x).name name (found_passes (named name) xs x is) in
        let like : (e : Edit) → named name e ≡ ties by_name x e = λ e. ap (bytes_eq (line_of e).name) (sym same) ∙ sym (tied (line_of x).name (line_of e).name) in
        find_filtered (named name) ys
        ∙ ap first (filter_alike (named name) (ties by_name x) like ys ∙ stable x ∙ sym (filter_alike (named name) (ties by_name x) like xs))
        ∙ sym (find_filtered (named name) xs)

none_falls : (n : List ℕ) (xs : List Edit) → ((j : ℕ) (d : Edit) → j < length xs → is_lt (cmp (line_of (get_or xs j d)).name n) ≡ false) → NoneFalls n (lines_of xs)
none_falls n [] all = tt
none_falls n (x ∷ xs) all = (all 0 x (omega arith), none_falls n xs (λ j d inside. all (suc j) d (omega (arith, inside))))

sorted_rises : (xs : List Edit) → IsSortedBy by_name xs → Rises (lines_of xs)
sorted_rises [] sorted = tt
sorted_rises (x ∷ xs) sorted = (
  none_falls (line_of x).name xs (λ j d inside. sorted_far by_name (ranks_by nat_list_cmp_total (λ (e : Edit). (line_of e).name)) (x ∷ xs) sorted 0 (suc j) d (omega arith) (omega (arith, inside))),
  sorted_rises xs (λ k d low high.
      let next : suc k + 1 ≡ suc (k + 1) = omega arith in
      subst (λ (n : ℕ). by_name (get_or (x ∷ xs) n d) (get_or xs k d) ≡ false) next (sorted (suc k) d (omega arith) (omega (arith, high)))),
)

pub arranges : (xs ys : List Edit) → IsPermutation xs ys → IsStableBy by_name xs ys → IsSortedBy by_name ys → Arranges (lines_of xs) (lines_of ys)
arranges xs ys moved stable sorted = record {
  first = λ name. line_found ys name ∙ ap (option_map line_of) (found_sorted xs ys moved stable name) ∙ sym (line_found xs name);
  rises = sorted_rises ys sorted;
}

-- ---- along the lines

last_is : (last : Option (List ℕ)) (name : List ℕ) → is_same last name ≡ true → last ≡ Some name
last_is None name same = clash (sym same)
last_is (Some other) name same = ap Some (same_of other name same)

pub stands_on : (before after whole : List Record) (last : Option (List ℕ)) (line : Line) (rest : List Line) → is_same last line.name ≡ false → after ≡ before ++ option_to_list line.says
    → before ++ standing last (line ∷ rest) ≡ whole → after ++ standing (Some line.name) rest ≡ whole
stands_on before after whole last line rest other added all =
    ap (λ rs. rs ++ standing (Some line.name) rest) added ∙ append_assoc before (option_to_list line.says) (standing (Some line.name) rest)
    ∙ ap (λ (b : Bool). before ++ cond b (standing last rest) (option_to_list line.says ++ standing (Some line.name) rest)) (sym other) ∙ all

pub stands_still : (before after whole : List Record) (last : Option (List ℕ)) (line : Line) (rest : List Line) → is_same last line.name ≡ true → after ≡ before
    → before ++ standing last (line ∷ rest) ≡ whole → after ++ standing (Some line.name) rest ≡ whole
stands_still before after whole last line rest same kept all =
    ap (λ rs. rs ++ standing (Some line.name) rest) kept ∙ ap (λ l. before ++ standing l rest) (sym (last_is last line.name same))
    ∙ ap (λ (b : Bool). before ++ cond b (standing last rest) (option_to_list line.says ++ standing (Some line.name) rest)) (sym same) ∙ all
