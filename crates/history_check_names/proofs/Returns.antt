-- Which line is the first that a file of packed names can't have, told by the lines before it.
use Rattle.std.proofs.Common.{◌≡◌, ◌⊎◌, inl, inr, refl, sym, ◌∙◌, ap, subst, ℕ, zero, suc, ◌+◌, ◌-◌, ◌<◌, ◌≤◌, Bool, true, false, cond, not, ◌&&◌, ◌||◌, List, [], ◌∷◌, ◌++◌, length, take, Option, Some, None, arith, length-append, append-nil, append_assoc}
use Rattle.std.specs.Prelude.{◌==◌}
use Rattle.std.proofs.lemmas.Bool.{cases_lt, or_parts}
use Rattle.std.proofs.lemmas.List.Folds.{list_any-append}
use Rattle.gix_hash.specs.declared.kind.Kind.{Kind}
use Rattle.gix_ref_format.specs.Packed.{Record, packed_records}
use Rattle.history_model.specs.Bytes.{Bytes, has_byte}
use Rattle.history_model.specs.PackedNames.{says_sorted}
use Rattle.history_check_names.specs.Packed.{HasBadRecord, are_good_names, first_lines, is_packed_text, record_names}
use Rattle.history_check_names.specs.PackedRead.{AreLinesOf, IsEnded, IsPackedFault}
use Rattle.history_texts.specs.declared.open_error.OpenError.{OpenError}
use Rattle.history_texts.specs.declared.open_error.OpenError.TheVariants.{BadPacked}
use Rattle.history_check_names.proofs.PackedTexts.{text_by, text_none}

-- ---- the first lines

-- the first of the first lines
first_first : (m n : ℕ) (text : Bytes) → m ≤ n → first_lines m (first_lines n text) ≡ first_lines m text
first_first zero n text few = refl
first_first (suc m) zero text few = absurd (omega (arith, few))
first_first (suc m) (suc n) [] few = refl
first_first (suc m) (suc n) (byte ∷ rest) few = by_end (first_first m n rest (omega (arith, few))) (first_first (suc m) (suc n) rest few) (byte == 10) refl
  where
    by_end : first_lines m (first_lines n rest) ≡ first_lines m rest → first_lines (suc m) (first_lines (suc n) rest) ≡ first_lines (suc m) rest → (b : Bool) → (byte == 10) ≡ b
        → first_lines (suc m) (cond b (byte ∷ first_lines n rest) (byte ∷ first_lines (suc n) rest)) ≡ cond b (byte ∷ first_lines m rest) (byte ∷ first_lines (suc m) rest)
    by_end ended going true is = ap (λ b. cond b (byte ∷ first_lines m (first_lines n rest)) (byte ∷ first_lines (suc m) (first_lines n rest))) is ∙ ap (λ t. byte ∷ t) ended
    by_end ended going false is = ap (λ b. cond b (byte ∷ first_lines m (first_lines (suc n) rest)) (byte ∷ first_lines (suc m) (first_lines (suc n) rest))) is ∙ ap (λ t. byte ∷ t) going

-- the first lines go on after bytes that end no line
pub into_line : (line more : Bytes) (n : ℕ) → has_byte 10 line ≡ false → first_lines (suc n) (line ++ more) ≡ line ++ first_lines (suc n) more
into_line [] more n none = refl
into_line (b ∷ line) more n none =
    let parts = or_parts (b == 10) (has_byte 10 line) none in
    ap (λ t. cond t (b ∷ first_lines n (line ++ more)) (b ∷ first_lines (suc n) (line ++ more))) parts.0 ∙ ap (λ t. b ∷ t) (into_line line more n parts.1)

-- ---- lines that are counted

pub record IsCounted (text rest : Bytes) (count : ℕ) : Type 0 where
  pub done : Bytes
  pub are : text ≡ done ++ rest
  pub few : count ≤ length done
  pub ended : IsEnded done
  pub first : (n : ℕ) (more : Bytes) → first_lines (count + n) (done ++ more) ≡ done ++ first_lines n more

pub none_counted : (text rest : Bytes) (count : ℕ) → rest ≡ text → count ≡ 0 → IsCounted text rest count
none_counted text rest count same none = subst (λ r. IsCounted text r count) (sym same) (subst (IsCounted text text) (sym none) (record {
  done = [];
  are = refl;
  few = omega arith;
  ended = inl refl;
  first = λ n more. ap (λ k. first_lines k more) (let e : 0 + n ≡ n = omega arith in e);
}))

module _ (text rest : Bytes) (count : ℕ) (so_far : IsCounted text rest count) where
  pub one_counted : (line behind : Bytes) → rest ≡ line ++ 10 ∷ behind → has_byte 10 line ≡ false → IsCounted text behind (count + 1)
  one_counted line behind cut none = record {
    done = so_far.done ++ (line ++ 10 ∷ []);
    are = so_far.are ∙ ap (λ r. so_far.done ++ r) cut ∙ grouped behind;
    few = omega (arith, so_far.few, length-append so_far.done (line ++ 10 ∷ []), length-append line (10 ∷ []));
    ended = inr (so_far.done ++ line, sym (append_assoc so_far.done line (10 ∷ [])));
    first = λ n more.
        ap (λ t. first_lines (count + 1 + n) t) (sym (grouped more)) ∙ ap (λ k. first_lines k (so_far.done ++ (line ++ 10 ∷ more))) (let e : count + 1 + n ≡ count + suc n = omega arith in e)
        ∙ so_far.first (suc n) (line ++ 10 ∷ more) ∙ ap (λ t. so_far.done ++ t) (into_line line (10 ∷ more) n none) ∙ grouped (first_lines n more);
  }
    where
      grouped : (more : Bytes) → so_far.done ++ (line ++ 10 ∷ more) ≡ (so_far.done ++ (line ++ 10 ∷ [])) ++ more
      grouped more = simp append_assoc

  pub count_small : count ≤ length text
  count_small = omega (arith, so_far.few, ap length so_far.are, length-append so_far.done rest)

  pub all_counted : (whole : Bytes) (end : ℕ) → has_byte 10 rest ≡ false → whole ≡ take end text → end ≡ length text - length rest → AreLinesOf text whole count
  all_counted whole end none is ends = subst (λ w. AreLinesOf text w count) (sym same) (record { rest = rest; are = so_far.are; endless = none; few = so_far.few; ended = so_far.ended; first = so_far.first })
    where
      front : (xs : Bytes) → take (length xs) (xs ++ rest) ≡ xs
      front [] = empty rest
        where
          empty : (ys : Bytes) → take 0 ys ≡ []
          empty [] = refl
          empty (y ∷ ys) = refl
      front (x ∷ xs) = ap (λ t. x ∷ t) (front xs)

      same : whole ≡ so_far.done
      same =
          is ∙ ap (λ n. take n text) (let e : end ≡ length so_far.done = omega (arith, ends, ap length so_far.are, length-append so_far.done rest) in e)
          ∙ ap (take (length so_far.done)) so_far.are ∙ front so_far.done

-- ---- the lines in a beginning of a text

module _ (kind : Kind) (text front more whole : Bytes) (count : ℕ) (cut : text ≡ front ++ more) (lines : AreLinesOf front whole count) where
  whole_text : text ≡ whole ++ (lines.rest ++ more)
  whole_text = cut ∙ ap (λ t. t ++ more) lines.are ∙ append_assoc whole lines.rest more

  first_whole : first_lines count text ≡ whole
  first_whole =
      ap (first_lines count) whole_text ∙ ap (λ n. first_lines n (whole ++ (lines.rest ++ more))) (let e : count ≡ count + 0 = omega arith in e)
      ∙ lines.first 0 (lines.rest ++ more) ∙ append-nil whole

  first_next : first_lines (count + 1) text ≡ whole ++ (lines.rest ++ first_lines 1 more)
  first_next = ap (first_lines (count + 1)) whole_text ∙ lines.first 1 (lines.rest ++ more) ∙ ap (λ t. whole ++ t) (into_line lines.rest more 0 lines.endless)

  -- they are good, and with the next line they aren't
  pub bad_after : (number : ℕ) → number ≡ count + 1 → is_packed_text kind whole ≡ true → is_packed_text kind (whole ++ (lines.rest ++ first_lines 1 more)) ≡ false → HasBadRecord kind text number
  bad_after number is good bad = record {
    before = count;
    number_is = is;
    good = ap (is_packed_text kind) first_whole ∙ good;
    bad = ap (λ n. is_packed_text kind (first_lines n text)) is ∙ ap (is_packed_text kind) first_next ∙ bad;
  }

  few_first : (m : ℕ) → m ≤ count → first_lines m whole ≡ first_lines m text
  few_first m few = ap (first_lines m) (sym first_whole) ∙ first_first m count text few

  all_first : (m : ℕ) → count ≤ m → first_lines m whole ≡ whole
  all_first m many =
      ap (λ n. first_lines n whole) (let e : m ≡ count + (m - count) = omega (arith, many) in e) ∙ ap (first_lines (count + (m - count))) (sym (append-nil whole))
      ∙ lines.first (m - count) [] ∙ ap (λ t. whole ++ t) (none_left (m - count)) ∙ append-nil whole
    where
      none_left : (n : ℕ) → first_lines n [] ≡ []
      none_left zero = refl
      none_left (suc n) = refl

  -- one of them is bad
  line_bad : (number : ℕ) → HasBadRecord kind whole number → HasBadRecord kind text number
  line_bad number bad = by_place (cases_lt count number)
    where
      wrong : true ≡ false → ⊥
      wrong e = cc

      by_place : (count < number) ⊎ (number ≤ count) → HasBadRecord kind text number
      by_place (inr few) = record {
        before = bad.before;
        number_is = bad.number_is;
        good = ap (is_packed_text kind) (sym (few_first bad.before (omega (arith, few, bad.number_is)))) ∙ bad.good;
        bad = ap (is_packed_text kind) (sym (few_first number few)) ∙ bad.bad;
      }
      by_place (inl many) = absurd (wrong (
          sym (ap (is_packed_text kind) (sym (all_first bad.before (omega (arith, many, bad.number_is)))) ∙ bad.good)
          ∙ ap (is_packed_text kind) (sym (all_first number (omega (arith, many)))) ∙ bad.bad))

  pub fault_bad : (error : OpenError) → IsPackedFault kind whole error → IsPackedFault kind text error
  fault_bad (BadPacked number) fault = line_bad number fault
  fault_bad _ fault = fault

-- ---- a text with a carriage return

-- no text that has one is a file of packed names
returns_bad : (kind : Kind) (text : Bytes) → has_byte 13 text ≡ true → is_packed_text kind text ≡ false
returns_bad kind text has = go (packed_records kind text) refl
  where
    go : (o : Option (List Record)) → packed_records kind text ≡ o → is_packed_text kind text ≡ false
    go None is = text_none kind [] text is
    go (Some records) is = text_by kind [] records text is ∙ ap (λ b. not b && are_good_names (says_sorted text) (record_names records)) has

-- the lines before its line are good
pub return_bad : (kind : Kind) (text front back whole : Bytes) (count : ℕ) → text ≡ front ++ 13 ∷ back → AreLinesOf front whole count → (number : ℕ) → number ≡ count + 1 → is_packed_text kind whole ≡ true → HasBadRecord kind text number
return_bad kind text front back whole count cut lines number is good = bad_after kind text front (13 ∷ back) whole count cut lines number is good (returns_bad kind (whole ++ (lines.rest ++ first_lines 1 (13 ∷ back))) has)
  where
    either : (b : Bool) → (b || true) ≡ true
    either true = refl
    either false = refl

    has : has_byte 13 (whole ++ (lines.rest ++ 13 ∷ first_lines 1 back)) ≡ true
    has =
        list_any-append (λ b. b == 13) whole (lines.rest ++ 13 ∷ first_lines 1 back)
        ∙ ap (λ b. has_byte 13 whole || b) (list_any-append (λ b. b == 13) lines.rest (13 ∷ first_lines 1 back) ∙ either (has_byte 13 lines.rest)) ∙ either (has_byte 13 whole)
