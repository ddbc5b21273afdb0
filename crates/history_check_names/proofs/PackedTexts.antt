-- Which line of a text is the first that a file of packed names can't have.
use Rattle.std.proofs.Common.{◌≡◌, ◌≢◌, ℕ, zero, suc, ◌+◌, ◌≤◌, Bool, true, false, cond, not, ◌&&◌, List, [], ◌∷◌, ◌++◌, map, take, length, Option, Some, None, option_map, unwrap_or, refl, sym, ◌∙◌, ap, subst, arith, append-nil}
use Rattle.std.specs.Prelude.{◌==◌, option_and_then}
use Rattle.std.specs.List.{AllByRecursion, onto_first}
use Rattle.std.proofs.lemmas.Bool.{and_from, and_parts, or_from, or_parts}
use Rattle.gix_hash.specs.declared.kind.Kind.{Kind}
use Rattle.gix_ref_format.specs.Lines.{lines}
use Rattle.gix_ref_format.specs.Packed.{Record, Item, Good, Bad, items, item_of, record_line, peel_behind, all_good, header_line, is_headed, items_behind_header, packed_items, packed_records}
use Rattle.gix_ref_format.specs.declared.packed.Header.{Header}
use Rattle.history_model.specs.Bytes.{has_byte}
use Rattle.history_model.specs.Forms.{is_id}
use Rattle.history_model.specs.PackedNames.{first_header, packed_with, says_sorted}
use Rattle.history_check_names.specs.Packed.{first_lines, record_names, is_good_file, are_good_names, is_packed_text, records_in, HasBadRecord}
use Rattle.history_check_names.proofs.PackedLines.{lines_first, weights, with_peel, Passed, passed, begins, all_ids}
use Rattle.history_check_names.proofs.GoodNames.{good_front}

none_some : {A X : Type 0} {x : X} → None ≡ Some x → A
none_some e = cc

-- ---- the header

-- what a text begins with, its first lines begin with
pub headed_first : (n : ℕ) (text : List ℕ) → is_headed (first_lines (suc n) text) ≡ is_headed text
headed_first n [] = refl
headed_first n (byte ∷ rest) = by_end _
  where
    by_end : (b : Bool) → is_headed (cond b (byte ∷ first_lines n rest) (byte ∷ first_lines (suc n) rest)) ≡ is_headed (byte ∷ rest)
    by_end true = refl
    by_end false = refl

-- how many lines the header has
abbrev pub lead : List ℕ → ℕ
lead text = cond (is_headed text) 1 0

sorted_first : (n : ℕ) (text : List ℕ) → says_sorted (first_lines (suc n) text) ≡ says_sorted text
sorted_first n text = ap (λ ls. unwrap_or (option_map (λ (header : Header). header.sorted) (first_header ls)) false) (lines_first (suc n) text) ∙ go (lines text)
  where
    go : (ls : List (List ℕ)) → unwrap_or (option_map (λ (header : Header). header.sorted) (first_header (take (suc n) ls))) false ≡ unwrap_or (option_map (λ (header : Header). header.sorted) (first_header ls)) false
    go [] = refl
    go (l ∷ ls) = refl

-- the lines after the header, of which all items are
pub record Behind (kind : Kind) (text : List ℕ) (all : List Item) : Type 0 where
  pub rest : List (List ℕ)
  pub number : ℕ
  pub are : items kind number false rest ≡ all
  pub some : (k : ℕ) → packed_records kind (first_lines (lead text + k) text) ≡ all_good (items kind number false (take k rest))
  pub fits : length rest ≤ length (lines text)

behind_all : (kind : Kind) (text : List ℕ) (all : List Item) → packed_items kind text ≡ Some all → Behind kind text all
behind_all kind text all is = by_head (is_headed text) refl
  where
    one : {a b : List Item} → Some a ≡ Some b → a ≡ b
    one e = cc

    by_head : (b : Bool) → is_headed text ≡ b → Behind kind text all
    by_head false bare = record {
      rest = lines text;
      number = 1;
      are = one (sym (ap (λ h. cond h (items_behind_header kind (lines text)) (Some (items kind 1 false (lines text)))) bare) ∙ is);
      some = λ k. ap (λ n. packed_records kind (first_lines n text)) (let e : lead text + k ≡ k = omega (arith, ap {B = ℕ} (λ h. cond h 1 0) bare) in e) ∙ plain k;
      fits = omega arith;
    }
      where
        plain : (k : ℕ) → packed_records kind (first_lines k text) ≡ all_good (items kind 1 false (take k (lines text)))
        plain zero = refl
        plain (suc k) =
            ap (λ h. option_and_then all_good (cond h (items_behind_header kind (lines (first_lines (suc k) text))) (Some (items kind 1 false (lines (first_lines (suc k) text)))))) (headed_first k text ∙ bare)
            ∙ ap (λ ls. all_good (items kind 1 false ls)) (lines_first (suc k) text)
    by_head true headed = by_lines (lines text) refl (sym (ap (λ h. cond h (items_behind_header kind (lines text)) (Some (items kind 1 false (lines text)))) headed) ∙ is)
      where
        by_lines : (ls : List (List ℕ)) → lines text ≡ ls → items_behind_header kind ls ≡ Some all → Behind kind text all
        by_lines [] at e = none_some e
        by_lines (first ∷ rest) at e = by_header (header_line first) refl e
          where
            by_header : (o : Option Header) → header_line first ≡ o → option_map (λ _. items kind 2 false rest) o ≡ Some all → Behind kind text all
            by_header None h e = none_some e
            by_header (Some header) h e = record {
              rest = rest;
              number = 2;
              are = one e;
              some = λ k.
                  ap (λ n. packed_records kind (first_lines n text)) (let n : lead text + k ≡ suc k = omega (arith, ap {B = ℕ} (λ h. cond h 1 0) headed) in n)
                  ∙ ap (λ b. option_and_then all_good (cond b (items_behind_header kind (lines (first_lines (suc k) text))) (Some (items kind 1 false (lines (first_lines (suc k) text)))))) (headed_first k text ∙ headed)
                  ∙ ap (λ ls. option_and_then all_good (items_behind_header kind ls)) (lines_first (suc k) text ∙ ap (take (suc k)) at)
                  ∙ ap (λ o. option_and_then all_good (option_map (λ _. items kind 2 false (take k rest)) o)) h;
              fits = omega (arith, ap length at);
            }

few_lines : (text : List ℕ) → length (lines text) ≤ length text
few_lines [] = omega arith
few_lines (byte ∷ rest) = by_end (few_lines rest) _
  where
    onto : (xs : List (List ℕ)) → length xs ≤ length rest → length (onto_first byte xs) ≤ suc (length rest)
    onto [] few = omega arith
    onto (x ∷ xs) few = omega (arith, few)

    by_end : length (lines rest) ≤ length rest → (b : Bool) → length (cond b ((10 ∷ []) ∷ lines rest) (onto_first byte (lines rest))) ≤ suc (length rest)
    by_end few true = omega (arith, few)
    by_end few false = onto (lines rest) few

-- ---- carriage returns

was_not : (b : Bool) → not b ≡ true → b ≡ false
was_not true e = cc
was_not false e = refl

never : (b : Bool) → (b && false) ≡ false
never true = refl
never false = refl

plain_first : (n : ℕ) (text : List ℕ) → has_byte 13 text ≡ false → has_byte 13 (first_lines n text) ≡ false
plain_first zero text plain = refl
plain_first (suc n) [] plain = refl
plain_first (suc n) (byte ∷ rest) plain =
    let parts = or_parts (byte == 13) (has_byte 13 rest) plain in
    by_end parts.0 (plain_first n rest parts.1) (plain_first (suc n) rest parts.1) (byte == 10)
  where
    by_end : (byte == 13) ≡ false → has_byte 13 (first_lines n rest) ≡ false → has_byte 13 (first_lines (suc n) rest) ≡ false
        → (b : Bool) → has_byte 13 (cond b (byte ∷ first_lines n rest) (byte ∷ first_lines (suc n) rest)) ≡ false
    by_end here ended going true = or_from (byte == 13) (has_byte 13 (first_lines n rest)) here ended
    by_end here ended going false = or_from (byte == 13) (has_byte 13 (first_lines (suc n) rest)) here going

module _ (kind : Kind) (text : List ℕ) where
  -- ---- texts by their records

  pub text_by : (some : List Record) (front : List ℕ) → packed_records kind front ≡ Some some → is_packed_text kind front ≡ (not (has_byte 13 front) && are_good_names (says_sorted front) (record_names some))
  text_by some front is = ap (λ o. unwrap_or (option_map (is_good_file) (option_map (packed_with front) o)) false) is

  pub text_none : (front : List ℕ) → packed_records kind front ≡ None → is_packed_text kind front ≡ false
  text_none front is = ap (λ o. unwrap_or (option_map (is_good_file) (option_map (packed_with front) o)) false) is

  -- the first lines, of which these are the records
  lines_by : has_byte 13 text ≡ false → (n : ℕ) (some : List Record) → packed_records kind (first_lines n text) ≡ Some some → are_good_names (says_sorted text) (record_names some) ≡ true → is_packed_text kind (first_lines n text) ≡ true
  lines_by plain zero some is good = refl
  lines_by plain (suc n) some is good =
      text_by some (first_lines (suc n) text) is ∙ ap (λ b. not b && are_good_names (says_sorted (first_lines (suc n) text)) (record_names some)) (plain_first (suc n) text plain)
      ∙ ap (λ s. are_good_names s (record_names some)) (sorted_first n text) ∙ good

  lines_bad : (n : ℕ) (some : List Record) → packed_records kind (first_lines (suc n) text) ≡ Some some → are_good_names (says_sorted text) (record_names some) ≡ false → is_packed_text kind (first_lines (suc n) text) ≡ false
  lines_bad n some is bad =
      text_by some (first_lines (suc n) text) is ∙ ap (λ s. not (has_byte 13 (first_lines (suc n) text)) && are_good_names s (record_names some)) (sorted_first n text)
      ∙ ap (λ g. not (has_byte 13 (first_lines (suc n) text)) && g) bad ∙ never (not (has_byte 13 (first_lines (suc n) text)))

  -- ---- the header is none

  pub bad_header : packed_items kind text ≡ None → HasBadRecord kind text 1
  bad_header none = record { before = 0; number_is = refl; good = refl; bad = by_head (is_headed text) refl }
    where
      by_head : (b : Bool) → is_headed text ≡ b → is_packed_text kind (first_lines 1 text) ≡ false
      by_head false bare = none_some (sym none ∙ ap (λ h. cond h (items_behind_header kind (lines text)) (Some (items kind 1 false (lines text)))) bare)
      by_head true headed = text_none (first_lines 1 text)
          (ap (λ b. option_and_then all_good (cond b (items_behind_header kind (lines (first_lines 1 text))) (Some (items kind 1 false (lines (first_lines 1 text)))))) (headed_first 0 text ∙ headed)
          ∙ ap (λ ls. option_and_then all_good (items_behind_header kind ls)) (lines_first 1 text)
          ∙ by_lines (lines text) (sym (ap (λ h. cond h (items_behind_header kind (lines text)) (Some (items kind 1 false (lines text)))) headed) ∙ none))
        where
          by_header : (o : Option Header) (rest : List (List ℕ)) → option_map (λ _. items kind 2 false rest) o ≡ None → option_and_then all_good (option_map (λ _. items kind 2 false []) o) ≡ None
          by_header None rest e = refl
          by_header (Some header) rest e = none_some (sym e)

          by_lines : (ls : List (List ℕ)) → items_behind_header kind ls ≡ None → option_and_then all_good (items_behind_header kind (take 1 ls)) ≡ None
          by_lines [] e = refl
          by_lines (first ∷ rest) e = by_header (header_line first) rest e

  -- ---- records that were read so far

  module _ (seen : List Record) (left : List Item) (given : packed_items kind text ≡ Some (map Good seen ++ left)) where
    abbrev b : Behind kind text (map Good seen ++ left)
    b = behind_all kind text (map Good seen ++ left) given

    abbrev p : Passed kind seen left b.rest
    p = passed kind left seen b.number b.rest b.are

    -- the number of the line that comes next
    abbrev pub line_next : ℕ
    line_next = lead text + 1 + weights seen

    seen_first : packed_records kind (first_lines (lead text + weights seen) text) ≡ Some seen
    seen_first =
        let q = p.gives b.number 0 in
        b.some (weights seen) ∙ ap (λ n. all_good (items kind b.number false (take n b.rest))) (let e : weights seen ≡ weights seen + 0 = omega arith in e) ∙ q.1 ∙ ap Some (append-nil seen)

    pub few : lead text + weights seen ≤ length text + 1
    few = by_head (is_headed text)
      where
        by_head : (h : Bool) → cond h 1 0 + weights seen ≤ length text + 1
        by_head true = omega (arith, p.fits, b.fits, few_lines text)
        by_head false = omega (arith, p.fits, b.fits, few_lines text)

    module _ (plain : has_byte 13 text ≡ false) (good : are_good_names (says_sorted text) (record_names seen) ≡ true) where
      good_so_far : is_packed_text kind (first_lines (lead text + weights seen) text) ≡ true
      good_so_far = lines_by plain (lead text + weights seen) seen seen_first good

      bad_at : is_packed_text kind (first_lines (suc (lead text + weights seen)) text) ≡ false → HasBadRecord kind text line_next
      bad_at bad =
          let e : line_next ≡ suc (lead text + weights seen) = omega arith in
          record { before = lead text + weights seen; number_is = omega arith; good = good_so_far; bad = ap (λ n. is_packed_text kind (first_lines n text)) e ∙ bad }

      -- what the next line gives
      next_gives : packed_records kind (first_lines (suc (lead text + weights seen)) text) ≡ option_map (λ rs. seen ++ rs) (all_good (items kind (p.gives b.number 1).0 false (take 1 p.rest)))
      next_gives =
          ap (λ n. packed_records kind (first_lines n text)) (let e : suc (lead text + weights seen) ≡ lead text + (weights seen + 1) = omega arith in e)
          ∙ b.some (weights seen + 1) ∙ (p.gives b.number 1).1

      item_head : {x y : Item} {xs ys : List Item} → x ∷ xs ≡ y ∷ ys → x ≡ y
      item_head e = cc

      no_items : {A : Type 0} {x : Item} {xs : List Item} → [] ≡ x ∷ xs → A
      no_items e = cc

      -- a line that is no record
      pub bad_line : (item : Item) (more : List Item) → left ≡ item ∷ more → ((r : Record) → item ≢ Good r) → HasBadRecord kind text line_next
      bad_line item more is none = bad_at (text_none (first_lines (suc (lead text + weights seen)) text) (next_gives ∙ by_lines p.rest (p.left_is ∙ is)))
        where
          by_lines : (ls : List (List ℕ)) → items kind p.number false ls ≡ item ∷ more → option_map (λ rs. seen ++ rs) (all_good (items kind (p.gives b.number 1).0 false (take 1 ls))) ≡ None
          by_lines [] e = no_items e
          by_lines (l ∷ ls) e = by_record (record_line kind l) refl (item_head e)
            where
              by_record : (o : Option Record) → record_line kind l ≡ o → item_of p.number l (peel_behind kind (record_line kind l) ls) (record_line kind l) ≡ item
                  → option_map (λ rs. seen ++ rs) (all_good (items kind (p.gives b.number 1).0 false (l ∷ []))) ≡ None
              by_record None at first = ap (λ o. option_map (λ rs. seen ++ rs) (all_good (item_of (p.gives b.number 1).0 l (peel_behind kind o []) o ∷ []))) at
              by_record (Some r) at first = absurd (none (with_peel r (peel_behind kind (Some r) ls)) (sym first ∙ ap (λ o. item_of p.number l (peel_behind kind o ls) o) at))

      -- a record whose name can't follow the names before it
      pub bad_name : (r : Record) (more : List Item) → left ≡ Good r ∷ more → are_good_names (says_sorted text) (record_names seen ++ r.name ∷ []) ≡ false → HasBadRecord kind text line_next
      bad_name r more is bad = bad_at (by_lines p.rest (p.left_is ∙ is) next_gives)
        where
          with_one : (s : Record) → s.name ≡ r.name → record_names (seen ++ s ∷ []) ≡ record_names seen ++ r.name ∷ []
          with_one s same = go seen
            where
              go : (rs : List Record) → record_names (rs ++ s ∷ []) ≡ record_names rs ++ r.name ∷ []
              go [] = ap (λ n. n ∷ []) same
              go (q ∷ rs) = ap (λ ns. q.name ∷ ns) (go rs)

          by_lines : (ls : List (List ℕ)) → items kind p.number false ls ≡ Good r ∷ more
              → packed_records kind (first_lines (suc (lead text + weights seen)) text) ≡ option_map (λ rs. seen ++ rs) (all_good (items kind (p.gives b.number 1).0 false (take 1 ls)))
              → is_packed_text kind (first_lines (suc (lead text + weights seen)) text) ≡ false
          by_lines [] e gives = no_items e
          by_lines (l ∷ ls) e gives = by_record (record_line kind l) refl (item_head e)
            where
              name_of_item : (s : Record) → Good s ≡ Good r → s.name ≡ r.name
              name_of_item s e = cc

              not_good : {A : Type 0} {n : ℕ} {l : List ℕ} {r : Record} → Bad n l ≡ Good r → A
              not_good e = cc

              by_record : (o : Option Record) → record_line kind l ≡ o → item_of p.number l (peel_behind kind (record_line kind l) ls) (record_line kind l) ≡ Good r
                  → is_packed_text kind (first_lines (suc (lead text + weights seen)) text) ≡ false
              by_record None at first = not_good (sym (ap (λ o. item_of p.number l (peel_behind kind o ls) o) at) ∙ first)
              by_record (Some s) at first =
                  let same = name_of_item (with_peel s (peel_behind kind (Some s) ls)) (sym (ap (λ o. item_of p.number l (peel_behind kind o ls) o) at) ∙ first) in
                  lines_bad (lead text + weights seen) (seen ++ with_peel s None ∷ [])
                  (gives ∙ ap (λ o. option_map (λ rs. seen ++ rs) (all_good (item_of (p.gives b.number 1).0 l (peel_behind kind o []) o ∷ []))) at)
                  (ap (are_good_names (says_sorted text)) (with_one (with_peel s None) same) ∙ bad)

  -- ---- all records

  all_good_of : (rs : List Record) → all_good (map Good rs) ≡ Some rs
  all_good_of [] = refl
  all_good_of (r ∷ rs) = ap (option_map (λ more. r ∷ more)) (all_good_of rs)

  pub all_read : (seen : List Record) → packed_items kind text ≡ Some (map Good seen ++ []) → packed_records kind text ≡ Some seen
  all_read seen given = ap (option_and_then all_good) given ∙ ap all_good (append-nil (map Good seen)) ∙ all_good_of seen

  pub all_stand : (seen : List Record) → has_byte 13 text ≡ false → packed_records kind text ≡ Some seen → are_good_names (says_sorted text) (record_names seen) ≡ true → is_packed_text kind text ≡ true
  all_stand seen plain read good = text_by seen text read ∙ and_from (not (has_byte 13 text)) (are_good_names (says_sorted text) (record_names seen)) (ap not plain) good

  -- ---- the first lines of a file of packed names are one

  pub first_stand : is_packed_text kind text ≡ true → (n : ℕ) → is_packed_text kind (first_lines n text) ≡ true
  first_stand good n = by_items (packed_items kind text) refl
    where
      by_all : (items : List Item) → packed_items kind text ≡ Some items → (o : Option (List Record)) → all_good items ≡ o → is_packed_text kind (first_lines n text) ≡ true
      by_all items at None is = absurd (cc (sym good ∙ text_none text (ap (option_and_then all_good) at ∙ is)))
      by_all all at (Some records) is = by_number n
        where
          b : Behind kind text all
          b = behind_all kind text all at

          parts : (not (has_byte 13 text) ≡ true) × (are_good_names (says_sorted text) (record_names records) ≡ true)
          parts = and_parts (not (has_byte 13 text)) (are_good_names (says_sorted text) (record_names records)) (sym (text_by records text (ap (option_and_then all_good) at ∙ is)) ∙ good)

          plain : has_byte 13 text ≡ false
          plain = was_not (has_byte 13 text) parts.0

          names_good : are_good_names (says_sorted text) (record_names records) ≡ true
          names_good = parts.1

          far : (k : ℕ) → is_packed_text kind (first_lines (lead text + k) text) ≡ true
          far k =
              let some = begins kind b.rest b.number false records (ap all_good b.are ∙ is) k in
              lines_by plain (lead text + k) some.some (b.some k ∙ some.good) (good_front (says_sorted text) (record_names some.some) some.more (ap (are_good_names (says_sorted text)) (sym some.names) ∙ names_good))

          by_number : (n : ℕ) → is_packed_text kind (first_lines n text) ≡ true
          by_number zero = refl
          by_number (suc n) = by_head (is_headed text) refl
            where
              by_head : (h : Bool) → is_headed text ≡ h → is_packed_text kind (first_lines (suc n) text) ≡ true
              by_head true headed = ap (λ m. is_packed_text kind (first_lines m text)) (let e : suc n ≡ lead text + n = omega (arith, ap {B = ℕ} (λ h. cond h 1 0) headed) in e) ∙ far n
              by_head false bare = ap (λ m. is_packed_text kind (first_lines m text)) (let e : suc n ≡ lead text + suc n = omega (arith, ap {B = ℕ} (λ h. cond h 1 0) bare) in e) ∙ far (suc n)

      by_items : (o : Option (List Item)) → packed_items kind text ≡ o → is_packed_text kind (first_lines n text) ≡ true
      by_items None at = absurd (cc (sym good ∙ text_none text (ap (option_and_then all_good) at)))
      by_items (Some all) at = by_all all at (all_good all) refl

  -- ---- the ids of the records

  pub text_ids : AllByRecursion (λ (r : Record). is_id kind r.target ≡ true) (records_in kind text)
  text_ids = by_items (packed_items kind text) refl
    where
      by_all : (all : List Item) → packed_items kind text ≡ Some all → (o : Option (List Record)) → all_good all ≡ o → AllByRecursion (λ (r : Record). is_id kind r.target ≡ true) (unwrap_or o [])
      by_all all at None is = tt
      by_all all at (Some records) is = let b = behind_all kind text all at in all_ids kind b.rest b.number false records (ap all_good b.are ∙ is)

      by_items : (o : Option (List Item)) → packed_items kind text ≡ o → AllByRecursion (λ (r : Record). is_id kind r.target ≡ true) (records_in kind text)
      by_items None at = subst (λ o. AllByRecursion (λ (r : Record). is_id kind r.target ≡ true) (unwrap_or (option_and_then all_good o) [])) (sym at) tt
      by_items (Some all) at = subst (λ o. AllByRecursion (λ (r : Record). is_id kind r.target ≡ true) (unwrap_or (option_and_then all_good o) [])) (sym at) (by_all all at (all_good all) refl)
