-- What the rules of partial names say of a name's components.
use Rattle.std.proofs.Common.{◌≡◌, ◌≢◌, ℕ, zero, suc, ◌+◌, ◌-◌, Bool, true, false, not, ◌&&◌, ◌||◌, ◌==◌, nat_eq, List, [], ◌∷◌, ◌++◌, length, take, drop, refl, sym, ◌∙◌, ap, subst, append_assoc, codes, bytes_eq, arith, tests}
use Rattle.std.specs.List.{list_all, list_any, join_with_byte}
use Rattle.std.proofs.lemmas.List.Splits.{join_with_byte-slice_split}
use Rattle.std.proofs.lemmas.Slice.Eq.{bytes_eq-Decides}
use Rattle.gix_object_lines.specs.NameTest as rules
use Rattle.history_model.specs.Bytes.{Bytes, begins, ends, is_empty}
use Rattle.history_model.specs.FileMap.{components}
use Rattle.std.proofs.lemmas.Bool.{not-true, or_right, false_from_ne_true, or_left, and_parts}
use Rattle.history_model.proofs.EntryLemmas.{parts, taken}

-- a component: not empty, no dot first, no `.lock` last
abbrev pub is_name_component : Bytes → Bool
is_name_component part = not (is_empty part) && not (begins (codes ".") part) && not (ends (codes ".lock") part)

-- ---- texts that begin with, contain or end with a part

begins_so : (part rest : Bytes) → rules.begins part (part ++ rest) ≡ true
begins_so part rest = (bytes_eq-Decides part (take (length part) (part ++ rest))).1 (sym (taken part rest))

holds_so : (part rest : Bytes) → rules.holds part (part ++ rest) ≡ true
holds_so [] [] = refl
holds_so [] (b ∷ rest) = or_left (rules.begins [] (b ∷ rest)) (rules.holds [] rest) (begins_so [] (b ∷ rest))
holds_so (b ∷ part) rest = or_left (rules.begins (b ∷ part) (b ∷ part ++ rest)) (rules.holds (b ∷ part) (part ++ rest)) (begins_so (b ∷ part) rest)

holds_later : (part front rest : Bytes) → rules.holds part rest ≡ true → rules.holds part (front ++ rest) ≡ true
holds_later part [] rest h = h
holds_later part (b ∷ front) rest h = or_right (rules.begins part (b ∷ front ++ rest)) (rules.holds part (front ++ rest)) (holds_later part front rest h)

back_of : (front back : Bytes) → drop (length (front ++ back) - length back) (front ++ back) ≡ back
back_of front back = ap (λ n. drop n (front ++ back)) (let sum = Rattle.std.proofs.Common.length-append front back in omega arith) ∙ gone front
  where
    gone : (f : Bytes) → drop (length f) (f ++ back) ≡ back
    gone [] = refl
    gone (b ∷ f) = gone f

ends_so : (front back : Bytes) → rules.ends back (front ++ back) ≡ true
ends_so front back = (bytes_eq-Decides back (drop (length (front ++ back) - length back) (front ++ back))).1 (sym (back_of front back))

ends_parts : (back text : Bytes) → rules.ends back text ≡ true → text ≡ take (length text - length back) text ++ back
ends_parts back text h =
    sym (parts (length text - length back) text)
    ∙ ap (λ t. take (length text - length back) text ++ t) (sym ((bytes_eq-Decides back (drop (length text - length back) text)).0 h))

one_byte : (a b : ℕ) → (nat_eq a b && true) ≡ true → a ≡ b
one_byte a b h = grind (arith, tests, (and_parts (nat_eq a b) true h).0)

-- ---- a text at the beginning of a component

record Good (text : Bytes) : Type 0 where
  some : text ≢ []
  no_slash_first : rules.begins (codes "/") text ≡ false
  no_dot_first : rules.begins (codes ".") text ≡ false
  no_slash_last : rules.ends (codes "/") text ≡ false
  no_lock_last : rules.ends (codes ".lock") text ≡ false
  no_two_slashes : rules.holds (codes "//") text ≡ false
  no_dot_behind : rules.holds (codes "/.") text ≡ false
  no_lock_before : rules.holds (codes ".lock/") text ≡ false

-- its first component passes
last_one : (part : Bytes) → Good part → is_name_component part ≡ true
last_one [] good = absurd (good.some refl)
last_one (b ∷ part) good = λ i. not (good.no_dot_first i) && not (good.no_lock_last i)

module _ (part tail : Bytes) (good : Good (part ++ 47 ∷ tail)) where
  clash : {A : Type 0} (b : Bool) → b ≡ true → b ≡ false → A
  clash true h k = absurd cc
  clash false h k = absurd cc

  lock_free : ends (codes ".lock") part ≡ false
  lock_free = false_from_ne_true (ends (codes ".lock") part) (λ h.
      let front = take (length part - 5) part in
      let is : part ++ 47 ∷ tail ≡ front ++ (codes ".lock/" ++ tail) = ap (λ p. p ++ 47 ∷ tail) (ends_parts (codes ".lock") part h) ∙ append_assoc front (codes ".lock") (47 ∷ tail) in
      clash (rules.holds (codes ".lock/") (part ++ 47 ∷ tail)) (ap (rules.holds (codes ".lock/")) is ∙ holds_later (codes ".lock/") front _ (holds_so (codes ".lock/") tail)) good.no_lock_before)

  first_one : is_name_component part ≡ true
  first_one = by_byte part refl
    where
      by_byte : (p : Bytes) → part ≡ p → is_name_component p ≡ true
      by_byte [] e = clash (rules.begins (codes "/") (part ++ 47 ∷ tail)) (ap (λ q. rules.begins (codes "/") (q ++ 47 ∷ tail)) e) good.no_slash_first
      by_byte (b ∷ p) e =
          let dot : rules.begins (codes ".") (b ∷ p ++ 47 ∷ tail) ≡ false = ap (λ q. rules.begins (codes ".") (q ++ 47 ∷ tail)) (sym e) ∙ good.no_dot_first in
          let lock : ends (codes ".lock") (b ∷ p) ≡ false = ap (ends (codes ".lock")) (sym e) ∙ lock_free in
          λ i. not (dot i) && not (lock i)

  rest_good : Good tail
  rest_good = record {
    some = λ none. clash (rules.ends (codes "/") (part ++ 47 ∷ tail)) (ap (λ t. rules.ends (codes "/") (part ++ 47 ∷ t)) none ∙ ends_so part (codes "/")) good.no_slash_last;
    no_slash_first = no_first 47 (λ t. holds_so (codes "//") t) good.no_two_slashes;
    no_dot_first = no_first 46 (λ t. holds_so (codes "/.") t) good.no_dot_behind;
    no_slash_last = no_last (codes "/") good.no_slash_last;
    no_lock_last = no_last (codes ".lock") good.no_lock_last;
    no_two_slashes = none_later (codes "//") good.no_two_slashes;
    no_dot_behind = none_later (codes "/.") good.no_dot_behind;
    no_lock_before = none_later (codes ".lock/") good.no_lock_before;
  }
    where
      no_first : (b : ℕ) → ((t : Bytes) → rules.holds (47 ∷ b ∷ []) (47 ∷ b ∷ t) ≡ true) → rules.holds (47 ∷ b ∷ []) (part ++ 47 ∷ tail) ≡ false → rules.begins (b ∷ []) tail ≡ false
      no_first b here none = by_byte tail refl
        where
          by_byte : (t : Bytes) → tail ≡ t → rules.begins (b ∷ []) t ≡ false
          by_byte [] e = refl
          by_byte (c ∷ t) e = false_from_ne_true (nat_eq b c && true) (λ h.
              clash (rules.holds (47 ∷ b ∷ []) (part ++ 47 ∷ tail))
              (ap (λ u. rules.holds (47 ∷ b ∷ []) (part ++ 47 ∷ u)) (e ∙ ap (λ x. x ∷ t) (sym (one_byte b c h))) ∙ holds_later (47 ∷ b ∷ []) part (47 ∷ b ∷ t) (here t)) none)

      no_last : (back : Bytes) → rules.ends back (part ++ 47 ∷ tail) ≡ false → rules.ends back tail ≡ false
      no_last back none = false_from_ne_true (rules.ends back tail) (λ h.
          let front = take (length tail - length back) tail in
          let is : part ++ 47 ∷ tail ≡ (part ++ 47 ∷ front) ++ back = ap (λ t. part ++ 47 ∷ t) (ends_parts back tail h) ∙ sym (append_assoc part (47 ∷ front) back) in
          clash (rules.ends back (part ++ 47 ∷ tail)) (ap (rules.ends back) is ∙ ends_so (part ++ 47 ∷ front) back) none)

      none_later : (inner : Bytes) → rules.holds inner (part ++ 47 ∷ tail) ≡ false → rules.holds inner tail ≡ false
      none_later inner none = false_from_ne_true (rules.holds inner tail) (λ h.
          clash (rules.holds inner (part ++ 47 ∷ tail))
          (ap (rules.holds inner) (sym (append_assoc part (47 ∷ []) tail)) ∙ holds_later inner (part ++ 47 ∷ []) tail h) none)

parts_pass : (parts : List Bytes) → Good (join_with_byte 47 parts) → list_all is_name_component parts ≡ true
parts_pass [] good = refl
parts_pass (part ∷ []) good = λ i. last_one part good i && true
parts_pass (part ∷ other ∷ parts) good =
    let tail = join_with_byte 47 (other ∷ parts) in
    λ i. first_one part tail good i && parts_pass (other ∷ parts) (rest_good part tail good) i

-- ---- a name

differs : (b : Bool) → not b ≡ true → b ≡ true → ⊥
differs true h k = cc
differs false h k = cc

record Tested (name : Bytes) : Type 0 where
  good : Good name
  unbarred : list_any rules.is_barred name ≡ false

tested : (name : Bytes) → rules.is_partial_name name ≡ true → Tested name
tested name h =
    let a = and_parts _ _ h in
    let b = and_parts _ _ a.1 in
    let c = and_parts _ _ b.1 in
    let d = and_parts _ _ c.1 in
    let e = and_parts _ _ d.1 in
    let f = and_parts _ _ e.1 in
    let g = and_parts _ _ f.1 in
    let k = and_parts _ _ g.1 in
    let l = and_parts _ _ k.1 in
    let m = and_parts _ _ l.1 in
    record {
      good = record {
        some = λ none. differs (bytes_eq name []) a.0 ((bytes_eq-Decides name []).1 none);
        no_slash_first = not-true _ k.0;
        no_dot_first = not-true _ b.0;
        no_slash_last = not-true _ l.0;
        no_lock_last = not-true _ d.0;
        no_two_slashes = not-true _ m.0;
        no_dot_behind = not-true _ c.0;
        no_lock_before = not-true _ e.0;
      };
      unbarred = not-true _ g.0;
    }

pub components_of : (name : Bytes) → rules.is_partial_name name ≡ true → list_all is_name_component (components name) ≡ true
components_of name h = parts_pass (components name) (subst Good (sym (join_with_byte-slice_split 47 name)) (tested name h).good)

pub unbarred_of : (name : Bytes) → rules.is_partial_name name ≡ true → list_any rules.is_barred name ≡ false
unbarred_of name h = (tested name h).unbarred
