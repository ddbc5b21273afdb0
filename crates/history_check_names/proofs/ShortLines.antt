-- Each line of a file of packed names, except its header, ends and is short.
use Rattle.std.proofs.Common.{◌≡◌, ◌≢◌, ◌⊎◌, inl, inr, ℕ, ◌+◌, ◌-◌, ◌≤◌, ◌<◌, ◌==◌, Bool, true, false, cond, not, ◌&&◌, List, [], ◌∷◌, ◌++◌, take, drop, length, nat_eq, Option, Some, None, option_map, is_some, refl, sym, ◌∙◌, ap, subst, arith, append_assoc, length-take, length-drop}
use Rattle.std.specs.Prelude.{option_and_then}
use Rattle.std.specs.List.{AllByRecursion, ends_with, list_all, onto_first}
use Rattle.std.proofs.lemmas.Bool.{and_parts, cases_lt, eqb-true}
use Rattle.std.proofs.lemmas.Option.{same_Some}
use Rattle.gix_hash.specs.Id.{Id}
use Rattle.gix_hash.specs.Kind.{hex_len}
use Rattle.gix_hash.specs.declared.kind.Kind.{Kind}
use Rattle.gix_hash.specs.declared.kind.Kind.TheVariants.{Sha1, Sha256}
use Rattle.gix_object_lines.specs.NameTest.{begins, is_full_name}
use Rattle.gix_ref_format.specs.Lines.{cut_line, lines, without_last}
use Rattle.gix_ref_format.specs.Packed.{Record, all_good, header_line, header_of, is_headed, item_of, items, items_behind_header, next_number, packed_records, peel_behind, peel_line, record_line, record_text, without_peel}
use Rattle.gix_ref_format.specs.declared.packed.Header.{Header}
use Rattle.history_model.specs.Bytes.{Bytes, has_byte}
use Rattle.history_model.specs.Forms.{is_name}
use Rattle.history_model.specs.PackedNames.{id_from_hex, says_sorted}
use Rattle.history_check_names.specs.Packed.{are_good_names, first_lines, is_packed_text, record_names}
use Rattle.history_check_names.specs.PackedRead.{IsEnded}
use Rattle.history_check_names.proofs.GoodNames.{good_parts}
use Rattle.history_check_names.proofs.PackedLines.{all_more, at_record}
use Rattle.history_check_names.proofs.PackedTexts.{text_by, text_none}
use Rattle.history_check_names.proofs.Sizes.{name_short, no_id}

none_some : {A X : Type 0} {x : X} → None ≡ Some x → A
none_some e = cc

-- ---- one line

-- the line has its line feed, and no more than so many bytes
pub record Fits (line : Bytes) : Type 0 where
  pub ended : ends_with nat_eq line (10 ∷ []) ≡ true
  pub short : length line ≤ 2_000

cut_fits : (line text : Bytes) → cut_line line ≡ Some text → length text ≤ 1_900 → Fits line
cut_fits line text is few = by_end (ends_with nat_eq line (10 ∷ [])) refl is
  where
    by_return : (b : Bool) → cond b (take (length (take (length line - 1) line) - 1) (take (length line - 1) line)) (take (length line - 1) line) ≡ text → length line ≤ 2_000
    by_return true same = omega (arith, few, ap length same, length-take (length (take (length line - 1) line) - 1) (take (length line - 1) line), length-take (length line - 1) line)
    by_return false same = omega (arith, few, ap length same, length-take (length line - 1) line)

    by_end : (b : Bool) → ends_with nat_eq line (10 ∷ []) ≡ b → cond b (Some (without_last 13 (take (length line - 1) line))) None ≡ Some text → Fits line
    by_end false at e = none_some e
    by_end true at e = record { ended = at; short = by_return (ends_with nat_eq (take (length line - 1) line) (13 ∷ [])) (same_Some (without_last 13 (take (length line - 1) line)) text e) }

hex_few : (kind : Kind) → hex_len kind ≤ 64
hex_few Sha1 = omega arith
hex_few Sha256 = omega arith

record_fits : (kind : Kind) (line : Bytes) (r : Record) → record_line kind line ≡ Some r → is_name r.name ≡ true → Fits line
record_fits kind line r is named = by_cut (cut_line line) refl is
  where
    by_test : (text : Bytes) (b : Bool) (o : Option Id) → cond b (option_map (without_peel (drop (hex_len kind + 1) text)) o) None ≡ Some r → length text ≤ 1_900
    by_test text false o e = none_some e
    by_test text true None e = none_some e
    by_test text true (Some id) e =
        let name : drop (hex_len kind + 1) text ≡ r.name = ap (λ (x : Record). x.name) (same_Some (without_peel (drop (hex_len kind + 1) text) id) r e) in
        omega (arith, hex_few kind, name_short r.name named, ap length name, length-drop (hex_len kind + 1) text)

    by_cut : (o : Option Bytes) → cut_line line ≡ o → option_and_then (record_text kind) o ≡ Some r → Fits line
    by_cut None at e = none_some e
    by_cut (Some text) at e = cut_fits line text at (by_test text (begins (32 ∷ []) (drop (hex_len kind) text) && is_full_name (drop (hex_len kind + 1) text)) (id_from_hex kind (take (hex_len kind) text)) e)

peel_fits : (kind : Kind) (line : Bytes) (id : Id) → peel_line kind line ≡ Some id → Fits line
peel_fits kind line id is = by_cut (cut_line line) refl is
  where
    by_size : (text : Bytes) → id_from_hex kind (drop 1 text) ≡ Some id → (64 < length (drop 1 text)) ⊎ (length (drop 1 text) ≤ 64) → length text ≤ 1_900
    by_size text e (inl long) = none_some (sym (no_id kind (drop 1 text) long) ∙ e)
    by_size text e (inr few) = omega (arith, few, length-drop 1 text)

    by_test : (text : Bytes) (b : Bool) → cond b (id_from_hex kind (drop 1 text)) None ≡ Some id → length text ≤ 1_900
    by_test text false e = none_some e
    by_test text true e = by_size text e (cases_lt 64 (length (drop 1 text)))

    by_cut : (o : Option Bytes) → cut_line line ≡ o → option_and_then (λ text. cond (begins (94 ∷ []) text) (id_from_hex kind (drop 1 text)) None) o ≡ Some id → Fits line
    by_cut None at e = none_some e
    by_cut (Some text) at e = cut_fits line text at (by_test text (begins (94 ∷ []) text) e)

-- ---- all lines

-- the first of the lines, if it is a peeled id's
abbrev first_peel : Kind → List Bytes → Option Id
first_peel kind [] = None
first_peel kind (l ∷ ls) = peel_line kind l

peel_same : (kind : Kind) (r : Record) (ls : List Bytes) → peel_behind kind (Some r) ls ≡ first_peel kind ls
peel_same kind r [] = refl
peel_same kind r (l ∷ ls) = refl

lines_fit : (kind : Kind) (ls : List Bytes) (n : ℕ) (taken : Bool) (all : List Record) → all_good (items kind n taken ls) ≡ Some all → list_all is_name (record_names all) ≡ true → (taken ≡ true → is_some (first_peel kind ls) ≡ true)
    → AllByRecursion Fits ls
lines_fit kind [] n taken all is named peel = tt
lines_fit kind (line ∷ ls) n true all is named peel = (by_peel (peel_line kind line) refl (peel refl), lines_fit kind ls (next_number n) false all is named (λ e. absurd (cc e)))
  where
    by_peel : (o : Option Id) → peel_line kind line ≡ o → is_some o ≡ true → Fits line
    by_peel None at some = absurd (cc some)
    by_peel (Some id) at some = peel_fits kind line id at
lines_fit kind (line ∷ ls) n false all is named peel = by_line (λ taken more e names p. lines_fit kind ls (next_number n) taken more e names p) (record_line kind line) refl is
  where
    by_line : ((taken : Bool) (more : List Record) → all_good (items kind (next_number n) taken ls) ≡ Some more → list_all is_name (record_names more) ≡ true → (taken ≡ true → is_some (first_peel kind ls) ≡ true) → AllByRecursion Fits ls)
        → (o : Option Record) → record_line kind line ≡ o → all_good (items kind n false (line ∷ ls)) ≡ Some all → AllByRecursion Fits (line ∷ ls)
    by_line recur None at e = none_some (sym (ap (λ o. all_good (item_of n line (peel_behind kind o ls) o ∷ items kind (next_number n) (is_some (peel_behind kind o ls)) ls)) at) ∙ e)
    by_line recur (Some found) at e =
        let rest = all_more kind (all_good (items kind (next_number n) (is_some (peel_behind kind (Some found) ls)) ls)) (sym (at_record kind n line ls found at) ∙ e) in
        let names = and_parts (is_name found.name) (list_all is_name (record_names rest.0)) (ap (λ rs. list_all is_name (record_names rs)) rest.2 ∙ named) in
        (record_fits kind line found at names.0, recur (is_some (peel_behind kind (Some found) ls)) rest.0 rest.1 names.1 (λ t. ap is_some (sym (peel_same kind found ls)) ∙ t))

-- ---- the last line of a text

-- the lines of a text after a first one
record After (text : Bytes) (ls : List Bytes) : Type 0 where
  first : Bytes
  rest : List Bytes
  are : ls ≡ first ∷ rest
  last : (l : Bytes) → lines text ≡ l ∷ [] → AllByRecursion Fits rest → Fits l

after_feed : (w text : Bytes) → After text (lines (w ++ 10 ∷ text))
after_feed [] text = record { first = 10 ∷ []; rest = lines text; are = refl; last = λ l is all. (subst (AllByRecursion Fits) is all).0 }
after_feed (b ∷ w) text = by_end (after_feed w text) (b == 10)
  where
    by_end : After text (lines (w ++ 10 ∷ text)) → (t : Bool) → After text (cond t ((10 ∷ []) ∷ lines (w ++ 10 ∷ text)) (onto_first b (lines (w ++ 10 ∷ text))))
    by_end a true = record { first = 10 ∷ []; rest = lines (w ++ 10 ∷ text); are = refl; last = λ l is all. a.last l is (subst (AllByRecursion Fits) a.are all).1 }
    by_end a false = record { first = b ∷ a.first; rest = a.rest; are = ap (onto_first b) a.are; last = a.last }

-- a text's first line is one line
pub one_line : (text : Bytes) → text ≢ [] → lines (first_lines 1 text) ≡ first_lines 1 text ∷ []
one_line [] some = absurd (some refl)
one_line (b ∷ rest) some = by_end (one_line rest) (b == 10) refl
  where
    onto : (rest : Bytes) → (rest ≢ [] → lines (first_lines 1 rest) ≡ first_lines 1 rest ∷ []) → onto_first b (lines (first_lines 1 rest)) ≡ (b ∷ first_lines 1 rest) ∷ []
    onto [] h = refl
    onto (c ∷ rest) h = ap (onto_first b) (h (λ e. absurd (cc e)))

    by_end : (rest ≢ [] → lines (first_lines 1 rest) ≡ first_lines 1 rest ∷ []) → (t : Bool) → (b == 10) ≡ t → lines (cond t (b ∷ first_lines 0 rest) (b ∷ first_lines 1 rest)) ≡ cond t (b ∷ first_lines 0 rest) (b ∷ first_lines 1 rest) ∷ []
    by_end recur true is = ap (λ t. cond t ((10 ∷ []) ∷ []) ((b ∷ []) ∷ [])) is ∙ ap (λ c. (c ∷ []) ∷ []) (sym (eqb-true b 10 is))
    by_end recur false is = ap (λ t. cond t ((10 ∷ []) ∷ lines (first_lines 1 rest)) (onto_first b (lines (first_lines 1 rest)))) is ∙ onto rest recur

-- ---- a text with a last line that doesn't fit

module _ (kind : Kind) (whole line : Bytes) (one : lines line ≡ line ∷ []) (bad : Fits line → ⊥) where
  fits : (ls : List Bytes) (n : ℕ) (records : List Record) → all_good (items kind n false ls) ≡ Some records → list_all is_name (record_names records) ≡ true → AllByRecursion Fits ls
  fits ls n records e named = lines_fit kind ls n false records e named (λ t. absurd (cc t))

  alone : whole ≡ [] → lines (whole ++ line) ≡ line ∷ []
  alone none = ap (λ w. lines (w ++ line)) none ∙ one

  after : (w : Bytes) → whole ≡ w ++ 10 ∷ [] → After line (lines (whole ++ line))
  after w is = subst (λ t. After line (lines t)) (sym (ap (λ x. x ++ line) is ∙ append_assoc w (10 ∷ []) line)) (after_feed w line)

  bare : (records : List Record) → IsEnded whole → all_good (items kind 1 false (lines (whole ++ line))) ≡ Some records → list_all is_name (record_names records) ≡ true → ⊥
  bare records (inl none) e named = bad (subst (AllByRecursion Fits) (alone none) (fits (lines (whole ++ line)) 1 records e named)).0
  bare records (inr (w, is)) e named = let a = after w is in bad (a.last line one (subst (AllByRecursion Fits) a.are (fits (lines (whole ++ line)) 1 records e named)).1)

  headed : (records : List Record) → IsEnded whole → (whole ≡ [] → ends_with nat_eq line (10 ∷ []) ≡ false) → option_and_then all_good (items_behind_header kind (lines (whole ++ line))) ≡ Some records
      → list_all is_name (record_names records) ≡ true → ⊥
  headed records (inl none) header e named = none_some (sym (ap (λ ls. option_and_then all_good (items_behind_header kind ls)) (alone none) ∙ no_header) ∙ e)
    where
      no_header : option_and_then all_good (option_map (λ _. items kind 2 false []) (header_line line)) ≡ None
      no_header = ap (λ b. option_and_then all_good (option_map (λ _. items kind 2 false []) (option_and_then header_of (cond b (Some (without_last 13 (take (length line - 1) line))) None)))) (header none)
  headed records (inr (w, is)) header e named =
      let a = after w is in
      by_header a.rest (a.last line one) (header_line a.first) (sym (ap (λ ls. option_and_then all_good (items_behind_header kind ls)) a.are) ∙ e)
    where
      by_header : (rest : List Bytes) → (AllByRecursion Fits rest → Fits line) → (o : Option Header) → option_and_then all_good (option_map (λ _. items kind 2 false rest) o) ≡ Some records → ⊥
      by_header rest last None e = none_some e
      by_header rest last (Some h) e = bad (last (fits rest 2 records e named))

  -- it is no file of packed names
  pub bad_last : IsEnded whole → (whole ≡ [] → is_headed line ≡ true → ends_with nat_eq line (10 ∷ []) ≡ false) → is_packed_text kind (whole ++ line) ≡ false
  bad_last ended header = by_records (packed_records kind (whole ++ line)) refl
    where
      by_head : (records : List Record) → list_all is_name (record_names records) ≡ true → (b : Bool) → is_headed (whole ++ line) ≡ b
          → option_and_then all_good (cond b (items_behind_header kind (lines (whole ++ line))) (Some (items kind 1 false (lines (whole ++ line))))) ≡ Some records → ⊥
      by_head records named false is e = bare records ended e named
      by_head records named true is e = headed records ended (λ none. header none (ap (λ w. is_headed (w ++ line)) (sym none) ∙ is)) e named

      by_good : (records : List Record) → packed_records kind (whole ++ line) ≡ Some records → (b : Bool) → is_packed_text kind (whole ++ line) ≡ b → b ≡ false
      by_good records is false good = refl
      by_good records is true good =
          let parts = and_parts (not (has_byte 13 (whole ++ line))) (are_good_names (says_sorted (whole ++ line)) (record_names records)) (sym (text_by kind (whole ++ line) records (whole ++ line) is) ∙ good) in
          absurd (by_head records (good_parts (says_sorted (whole ++ line)) (record_names records) parts.1).all (is_headed (whole ++ line)) refl is)

      by_records : (o : Option (List Record)) → packed_records kind (whole ++ line) ≡ o → is_packed_text kind (whole ++ line) ≡ false
      by_records None is = text_none kind (whole ++ line) (whole ++ line) is
      by_records (Some records) is = by_good records is (is_packed_text kind (whole ++ line)) refl
