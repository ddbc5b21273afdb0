-- The lines of a file of packed names, and the records of the first of them.
use Rattle.std.proofs.Common.{◌≡◌, ℕ, drop, zero, suc, ◌+◌, ◌≤◌, ◌==◌, Bool, true, false, cond, List, [], ◌∷◌, ◌++◌, map, take, length, Option, Some, None, option_map, is_some, refl, sym, ◌∙◌, ap, subst, arith}
use Rattle.std.specs.Prelude.{option_and_then}
use Rattle.std.specs.List.{AllByRecursion, onto_first}
use Rattle.std.proofs.lemmas.Option.{same_Some}
use Rattle.gix_hash.specs.Id.{Id}
use Rattle.gix_hash.specs.Kind.{hex_len}
use Rattle.history_model.specs.Forms.{is_id}
use Rattle.history_model.specs.PackedNames.{id_from_hex}
use Rattle.history_model.proofs.IdLemmas.{id_from_hex-is_id}
use Rattle.gix_hash.specs.declared.kind.Kind.{Kind}
use Rattle.gix_ref_format.specs.Lines.{cut_line, lines}
use Rattle.gix_ref_format.specs.Packed.{Record, Item, Good, Bad, items, item_of, next_number, record_line, peel_line, peel_behind, all_good, record_text, with_item, without_peel}
use Rattle.history_check_names.specs.Packed.{first_lines}

-- ---- lines

take_none : (n : ℕ) (ls : List (List ℕ)) → ls ≡ [] → take n ls ≡ []
take_none zero ls none = refl
take_none (suc n) [] none = refl
take_none (suc n) (l ∷ ls) none = cc

-- the first lines of a text are its first lines
pub lines_first : (n : ℕ) (text : List ℕ) → lines (first_lines n text) ≡ take n (lines text)
lines_first zero text = refl
lines_first (suc n) [] = refl
lines_first (suc n) (byte ∷ rest) = by_end (lines_first n rest) (lines_first (suc n) rest) (byte == 10) refl
  where
    onto : (xs : List (List ℕ)) → onto_first byte (take (suc n) xs) ≡ take (suc n) (onto_first byte xs)
    onto [] = ap (λ ls. (byte ∷ []) ∷ ls) (sym (take_none n [] refl))
    onto (x ∷ xs) = refl

    by_end : lines (first_lines n rest) ≡ take n (lines rest) → lines (first_lines (suc n) rest) ≡ take (suc n) (lines rest) → (b : Bool) → (byte == 10) ≡ b → lines (cond b (byte ∷ first_lines n rest) (byte ∷ first_lines (suc n) rest)) ≡ take (suc n) (cond b ((10 ∷ []) ∷ lines rest) (onto_first byte (lines rest)))
    by_end ended going true is = ap (λ b. cond b ((10 ∷ []) ∷ lines (first_lines n rest)) (onto_first byte (lines (first_lines n rest)))) is ∙ ap (λ ls. (10 ∷ []) ∷ ls) ended
    by_end ended going false is = ap (λ b. cond b ((10 ∷ []) ∷ lines (first_lines (suc n) rest)) (onto_first byte (lines (first_lines (suc n) rest)))) is ∙ ap (onto_first byte) going ∙ onto (lines rest)

-- ---- how many lines records have

abbrev pub weight : Record → ℕ
weight r = cond (is_some r.peeled) 2 1

abbrev pub weights : List Record → ℕ
weights [] = 0
weights (r ∷ records) = weight r + weights records

abbrev pub with_peel : Record → Option Id → Record
with_peel r peel = record { name = r.name; target = r.target; peeled = peel }

abbrev behind : List Record → Option (List Record) → Option (List Record)
behind seen more = option_map (λ rs. seen ++ rs) more

none_some : {A X : Type 0} {x : X} → None ≡ Some x → A
none_some e = cc

item_head : {x y : Item} {xs ys : List Item} → x ∷ xs ≡ y ∷ ys → x ≡ y
item_head e = cc

item_tail : {x y : Item} {xs ys : List Item} → x ∷ xs ≡ y ∷ ys → xs ≡ ys
item_tail e = cc

no_items : {A : Type 0} {x : Item} {xs : List Item} → [] ≡ x ∷ xs → A
no_items e = cc

good_one : {r s : Record} → Good r ≡ Good s → r ≡ s
good_one e = cc

not_good : {A : Type 0} {n : ℕ} {l : List ℕ} {r : Record} → Bad n l ≡ Good r → A
not_good e = cc

module _ (kind : Kind) where
  -- the lines after some records, and what the first of all lines give
  pub record Passed (seen : List Record) (left : List Item) (ls : List (List ℕ)) : Type 0 where
    pub rest : List (List ℕ)
    pub number : ℕ
    pub left_is : items kind number false rest ≡ left
    pub fits : weights seen ≤ length ls
    pub gives : (m j : ℕ) → (k : ℕ) × (all_good (items kind m false (take (weights seen + j) ls)) ≡ behind seen (all_good (items kind k false (take j rest))))

  behind_none : (o : Option (List Record)) → o ≡ behind [] o
  behind_none None = refl
  behind_none (Some rs) = refl

  one_more : (r : Record) (seen : List Record) (o : Option (List Record)) → with_item (Good r) (behind seen o) ≡ behind (r ∷ seen) o
  one_more r seen None = refl
  one_more r seen (Some rs) = refl

  -- a record's own line, whatever comes after it
  pub at_record : (m : ℕ) (line : List ℕ) (ls : List (List ℕ)) (r : Record) → record_line kind line ≡ Some r
      → all_good (items kind m false (line ∷ ls)) ≡ with_item (Good (with_peel r (peel_behind kind (Some r) ls))) (all_good (items kind (next_number m) (is_some (peel_behind kind (Some r) ls)) ls))
  at_record m line ls r is = ap (λ o. all_good (item_of m line (peel_behind kind o ls) o ∷ items kind (next_number m) (is_some (peel_behind kind o ls)) ls)) is

  no_peel : (r : Record) (n : ℕ) (ls : List (List ℕ)) → peel_behind kind (Some r) ls ≡ None → peel_behind kind (Some r) (take n ls) ≡ None
  no_peel r zero ls none = refl
  no_peel r (suc n) [] none = refl
  no_peel r (suc n) (l ∷ ls) none = none

  pub passed : (left : List Item) (seen : List Record) (n : ℕ) (ls : List (List ℕ)) → items kind n false ls ≡ map Good seen ++ left → Passed seen left ls
  passed left [] n ls is = record { rest = ls; number = n; left_is = is; fits = omega arith; gives = λ m j. let e : weights [] + j ≡ j = omega arith in (m, ap (λ n. all_good (items kind m false (take n ls))) e ∙ behind_none _) }
  passed left (r ∷ seen) n [] is = no_items is
  passed left (r ∷ seen) n (line ∷ ls) is = by_line (λ k more same. passed left seen k more same) (record_line kind line) refl (item_head is) (item_tail is)
    where
      by_line : ((k : ℕ) (more : List (List ℕ)) → items kind k false more ≡ map Good seen ++ left → Passed seen left more) → (o : Option Record) → record_line kind line ≡ o → item_of n line (peel_behind kind (record_line kind line) ls) (record_line kind line) ≡ Good r
          → items kind (next_number n) (is_some (peel_behind kind (record_line kind line) ls)) ls ≡ map Good seen ++ left → Passed (r ∷ seen) left (line ∷ ls)
      by_line recur None at first more = not_good (sym (ap (λ o. item_of n line (peel_behind kind o ls) o) at) ∙ first)
      by_line recur (Some found) at first more = by_peel recur ls (peel_behind kind (Some found) ls) refl
          (sym (good_one (sym (ap (λ o. item_of n line (peel_behind kind o ls) o) at) ∙ first)))
          (sym (ap (λ o. items kind (next_number n) (is_some (peel_behind kind o ls)) ls) at) ∙ more)
        where
          by_peel : ((k : ℕ) (more : List (List ℕ)) → items kind k false more ≡ map Good seen ++ left → Passed seen left more) → (ls : List (List ℕ)) (peel : Option Id) → peel_behind kind (Some found) ls ≡ peel → r ≡ with_peel found (peel_behind kind (Some found) ls)
              → items kind (next_number n) (is_some (peel_behind kind (Some found) ls)) ls ≡ map Good seen ++ left → Passed (r ∷ seen) left (line ∷ ls)
          by_peel recur ls None none same more =
              let p = recur (next_number n) ls (sym (ap (λ o. items kind (next_number n) (is_some o) ls) none) ∙ more) in
              let is_r : with_peel found None ≡ r = sym (same ∙ ap (with_peel found) none) in
              let light : weight r ≡ 1 = ap weight (sym is_r) in
              record {
                rest = p.rest;
                number = p.number;
                left_is = p.left_is;
                fits = omega (arith, p.fits, light);
                gives = λ m j.
                    let q = p.gives (next_number m) j in (
                      q.0,
                      ap (λ n. all_good (items kind m false (take n (line ∷ ls)))) (let e : weights (r ∷ seen) + j ≡ suc (weights seen + j) = omega (arith, light) in e)
                          ∙ at_record m line (take (weights seen + j) ls) found at
                          ∙ ap (λ o. with_item (Good (with_peel found o)) (all_good (items kind (next_number m) (is_some o) (take (weights seen + j) ls)))) (no_peel found (weights seen + j) ls none)
                          ∙ ap (with_item (Good (with_peel found None))) q.1
                          ∙ one_more (with_peel found None) seen _
                          ∙ ap (λ x. behind (x ∷ seen) (all_good (items kind q.0 false (take j p.rest)))) is_r,
                    );
              }
          by_peel recur [] (Some id) some same more = none_some some
          by_peel recur (l ∷ ls) (Some id) some same more =
              let p = recur (next_number (next_number n)) ls (sym (ap (λ o. items kind (next_number n) (is_some o) (l ∷ ls)) some) ∙ more) in
              let is_r : with_peel found (Some id) ≡ r = sym (same ∙ ap (with_peel found) some) in
              let heavy : weight r ≡ 2 = ap weight (sym is_r) in
              record {
                rest = p.rest;
                number = p.number;
                left_is = p.left_is;
                fits = omega (arith, p.fits, heavy);
                gives = λ m j.
                    let q = p.gives (next_number (next_number m)) j in (
                      q.0,
                      ap (λ n. all_good (items kind m false (take n (line ∷ l ∷ ls)))) (let e : weights (r ∷ seen) + j ≡ suc (suc (weights seen + j)) = omega (arith, heavy) in e)
                          ∙ at_record m line (l ∷ take (weights seen + j) ls) found at
                          ∙ ap (λ o. with_item (Good (with_peel found o)) (all_good (items kind (next_number m) (is_some o) (l ∷ take (weights seen + j) ls)))) some
                          ∙ ap (with_item (Good (with_peel found (Some id)))) q.1
                          ∙ one_more (with_peel found (Some id)) seen _
                          ∙ ap (λ x. behind (x ∷ seen) (all_good (items kind q.0 false (take j p.rest)))) is_r,
                    );
              }

  -- ---- the first of lines that all are records

  -- the records of some first lines have the first of the names
  pub record Begins (all : List Record) (m : ℕ) (taken : Bool) (ls : List (List ℕ)) (j : ℕ) : Type 0 where
    pub some : List Record
    pub more : List (List ℕ)
    pub good : all_good (items kind m taken (take j ls)) ≡ Some some
    pub names : map (λ (r : Record). r.name) all ≡ map (λ (r : Record). r.name) some ++ more

  no_lines : (all : List Record) (m : ℕ) (taken : Bool) (ls : List (List ℕ)) (j : ℕ) → take j ls ≡ [] → Begins all m taken ls j
  no_lines all m taken ls j none = record {
    some = [];
    more = map (λ (r : Record). r.name) all;
    good = ap (λ t. all_good (items kind m taken t)) none;
    names = refl;
  }

  pub all_more : {r : Record} {all : List Record} (o : Option (List Record)) → with_item (Good r) o ≡ Some all → (more : List Record) × (o ≡ Some more) × (r ∷ more ≡ all)
  all_more None e = none_some e
  all_more {r} (Some more) e = (more, refl, same_Some (r ∷ more) _ e)

  pub begins : (ls : List (List ℕ)) (m : ℕ) (taken : Bool) (all : List Record) → all_good (items kind m taken ls) ≡ Some all → (j : ℕ) → Begins all m taken ls j
  begins ls m taken all is zero = no_lines all m taken ls zero refl
  begins [] m taken all is (suc j) = no_lines all m taken [] (suc j) (take_none (suc j) [] refl)
  begins (line ∷ ls) m true all is (suc j) =
      let rest = begins ls (next_number m) false all is j in
      record { some = rest.some; more = rest.more; good = rest.good; names = rest.names }
  begins (line ∷ ls) m false all is (suc j) = by_line (λ k taken more e. begins ls k taken more e j) (record_line kind line) refl is
    where
      by_line : ((k : ℕ) (taken : Bool) (more : List Record) → all_good (items kind k taken ls) ≡ Some more → Begins more k taken ls j) → (o : Option Record) → record_line kind line ≡ o
          → all_good (items kind m false (line ∷ ls)) ≡ Some all → Begins all m false (line ∷ ls) (suc j)
      by_line recur None at e = none_some (sym (ap (λ o. all_good (item_of m line (peel_behind kind o ls) o ∷ items kind (next_number m) (is_some (peel_behind kind o ls)) ls)) at) ∙ e)
      by_line recur (Some found) at e = by_rest ls j recur (all_more (all_good (items kind (next_number m) (is_some (peel_behind kind (Some found) ls)) ls)) (sym (at_record m line ls found at) ∙ e))
        where
          by_rest : (ls : List (List ℕ)) (j : ℕ) → ((k : ℕ) (taken : Bool) (more : List Record) → all_good (items kind k taken ls) ≡ Some more → Begins more k taken ls j)
              → (more : List Record) × (all_good (items kind (next_number m) (is_some (peel_behind kind (Some found) ls)) ls) ≡ Some more) × (with_peel found (peel_behind kind (Some found) ls) ∷ more ≡ all)
              → Begins all m false (line ∷ ls) (suc j)
          by_rest ls zero recur (more, good, is_all) = record {
            some = with_peel found None ∷ [];
            more = map (λ (r : Record). r.name) more;
            good = at_record m line [] found at;
            names = ap (map (λ (r : Record). r.name)) (sym is_all);
          }
          by_rest [] (suc j) recur (more, good, is_all) = record {
            some = with_peel found None ∷ [];
            more = map (λ (r : Record). r.name) more;
            good = at_record m line (take (suc j) []) found at;
            names = ap (map (λ (r : Record). r.name)) (sym is_all);
          }
          by_rest (l ∷ ls) (suc j) recur (more, good, is_all) =
              let rest = recur (next_number m) (is_some (peel_line kind l)) more good in
              record {
                some = with_peel found (peel_line kind l) ∷ rest.some;
                more = rest.more;
                good = at_record m line (l ∷ take j ls) found at ∙ ap (with_item (Good (with_peel found (peel_line kind l)))) rest.good;
                names = ap (map (λ (r : Record). r.name)) (sym is_all) ∙ ap (λ ns. found.name ∷ ns) rest.names;
              }

  -- ---- the ids of records

  line_id : (line : List ℕ) (r : Record) → record_line kind line ≡ Some r → is_id kind r.target ≡ true
  line_id line r is = by_cut (cut_line line) is
    where
      by_hex : (text digits : List ℕ) (b : Bool) (o : Option Id) → id_from_hex kind digits ≡ o → cond b (option_map (without_peel text) o) None ≡ Some r → is_id kind r.target ≡ true
      by_hex text digits false o read e = none_some e
      by_hex text digits true None read e = none_some e
      by_hex text digits true (Some id) read e = ap (λ (x : Record). is_id kind x.target) (sym (same_Some (without_peel text id) r e)) ∙ id_from_hex-is_id kind digits id read

      by_cut : (o : Option (List ℕ)) → option_and_then (record_text kind) o ≡ Some r → is_id kind r.target ≡ true
      by_cut None e = none_some e
      by_cut (Some text) e = by_hex (drop (hex_len kind + 1) text) (take (hex_len kind) text) _ (id_from_hex kind (take (hex_len kind) text)) refl e

  pub all_ids : (ls : List (List ℕ)) (n : ℕ) (taken : Bool) (all : List Record) → all_good (items kind n taken ls) ≡ Some all → AllByRecursion (λ (r : Record). is_id kind r.target ≡ true) all
  all_ids [] n taken all is = subst (AllByRecursion (λ (r : Record). is_id kind r.target ≡ true)) (same_Some [] all is) tt
  all_ids (line ∷ ls) n true all is = all_ids ls (next_number n) false all is
  all_ids (line ∷ ls) n false all is = by_line (λ taken more e. all_ids ls (next_number n) taken more e) (record_line kind line) refl is
    where
      by_line : ((taken : Bool) (more : List Record) → all_good (items kind (next_number n) taken ls) ≡ Some more → AllByRecursion (λ (r : Record). is_id kind r.target ≡ true) more) → (o : Option Record) → record_line kind line ≡ o
          → all_good (items kind n false (line ∷ ls)) ≡ Some all → AllByRecursion (λ (r : Record). is_id kind r.target ≡ true) all
      by_line recur None at e = none_some (sym (ap (λ o. all_good (item_of n line (peel_behind kind o ls) o ∷ items kind (next_number n) (is_some (peel_behind kind o ls)) ls)) at) ∙ e)
      by_line recur (Some found) at e =
          let rest = all_more (all_good (items kind (next_number n) (is_some (peel_behind kind (Some found) ls)) ls)) (sym (at_record n line ls found at) ∙ e) in
          subst (AllByRecursion (λ (r : Record). is_id kind r.target ≡ true)) rest.2 (line_id line found at, recur (is_some (peel_behind kind (Some found) ls)) rest.0 rest.1)
