-- Files of packed names in which some line has no end, or none within a piece.
use Rattle.std.proofs.Common.{◌≡◌, ◌≢◌, ◌⊎◌, inl, inr, ℕ, zero, suc, ◌+◌, ◌-◌, ◌≤◌, ◌<◌, Bool, true, false, not, ◌&&◌, ◌||◌, [], ◌∷◌, ◌++◌, take, drop, length, nat_eq, refl, sym, ◌∙◌, ap, subst, arith, append_assoc, append-nil, length-append, length-take, length-drop, take-append-drop}
use Rattle.std.specs.Prelude.{◌==◌, min, Option, None, option_map, unwrap_or}
use Rattle.std.specs.List.{ends_with}
use lib.Seq.{take-add, take_all}
use Rattle.std.proofs.lemmas.Bool.{and_from, cases_lt, eqb-true, or_from}
use Rattle.std.proofs.lemmas.List.{drop-append-le, drop-drop, nil_from_length}
use Rattle.std.proofs.lemmas.List.Folds.{list_any-append}
use Rattle.gix_hash.specs.declared.kind.Kind.{Kind}
use Rattle.gix_ref_file.specs.Tree.{part}
use Rattle.gix_ref_format.specs.Lines.{lines}
use Rattle.gix_ref_format.specs.Packed.{is_headed}
use Rattle.history_model.specs.Bytes.{Bytes, has_byte}
use Rattle.history_model.proofs.FormatLemmas.{ends_so}
use Rattle.history_model.proofs.PartLemmas.{one_is_in}
use Rattle.history_check_names.specs.Logs.{max_piece}
use Rattle.history_check_names.specs.Packed.{HasBadRecord, first_lines, is_packed_text}
use Rattle.history_check_names.specs.PackedRead.{AreLinesOf, HasGoodFront, IsEndlessAt, IsLinesEnd, IsPackedCause, IsPackedFault, MayBePacked, is_in_header}
use Rattle.history_texts.specs.declared.open_error.OpenError.{OpenError}
use Rattle.history_texts.specs.declared.open_error.OpenError.TheVariants.{BadPacked, Memory}
use Rattle.history_check_names.proofs.LogTexts.{left_lacks}
use Rattle.history_check_names.proofs.PackedTexts.{headed_first}
use Rattle.history_check_names.proofs.Returns.{bad_after, fault_bad, into_line}
use Rattle.history_check_names.proofs.ShortLines.{Fits, bad_last, one_line}
use Rattle.history_check_names.proofs.Sizes.{no_size}

clash : {A : Type 0} {b : Bool} → b ≡ true → b ≡ false → A
clash t f = absurd (cc (sym t ∙ f))

-- ---- texts without a line feed

-- such a text is its first line
whole_line : (text : Bytes) → has_byte 10 text ≡ false → first_lines 1 text ≡ text
whole_line text lacks = ap (first_lines 1) (sym (append-nil text)) ∙ into_line text [] 0 lacks ∙ append-nil text

unended : (text : Bytes) → has_byte 10 text ≡ false → ends_with nat_eq text (10 ∷ []) ≡ false
unended text lacks = by_end (ends_with nat_eq text (10 ∷ [])) refl
  where
    by_end : (b : Bool) → ends_with nat_eq text (10 ∷ []) ≡ b → b ≡ false
    by_end false is = refl
    by_end true is = clash (ap (has_byte 10) (ends_so text is) ∙ one_is_in 10 (take (length text - 1) text) []) lacks

both_lack : (one other : Bytes) → has_byte 10 one ≡ false → has_byte 10 other ≡ false → has_byte 10 (one ++ other) ≡ false
both_lack one other first second = list_any-append (λ b. b == 10) one other ∙ or_from (has_byte 10 one) (has_byte 10 other) first second

-- ---- a place from which on no line ends

module _ (kind : Kind) (text whole : Bytes) (at count : ℕ) (are : AreLinesOf (take at text) whole count) (e : IsEndlessAt text at) where
  -- the line that the place is in, and what follows it
  abbrev tail : Bytes
  tail = are.rest ++ drop at text

  abbrev line : Bytes
  line = are.rest ++ first_lines 1 (drop at text)

  cut : text ≡ take at text ++ drop at text
  cut = sym (take-append-drop at text)

  tail_some : tail ≢ []
  tail_some none = absurd (omega (arith, e.some, ap length none, length-append are.rest (drop at text), length-drop at text))

  line_is : first_lines 1 tail ≡ line
  line_is = into_line are.rest (drop at text) 0 are.endless

  one : lines line ≡ line ∷ []
  one = subst (λ l. lines l ≡ l ∷ []) line_is (one_line tail tail_some)

  long_line : 2_000 < length (drop at text) → 2_000 < length line
  long_line long = omega (
    arith,
    long,
    length-append are.rest (first_lines 1 (drop at text)),
    ap length (ap (first_lines 1) (sym (take-append-drop max_piece (drop at text))) ∙ into_line (take max_piece (drop at text)) (drop max_piece (drop at text)) 0 e.endless),
    length-append (take max_piece (drop at text)) (first_lines 1 (drop max_piece (drop at text))),
    length-take max_piece (drop at text),
  )

  short_line : length (drop at text) ≤ 2_000 → ends_with nat_eq line (10 ∷ []) ≡ false
  short_line few =
      let lacks : has_byte 10 (drop at text) ≡ false = ap (has_byte 10) (sym (take_all max_piece (drop at text) (omega (arith, few)))) ∙ e.endless in
      unended line (ap (λ l. has_byte 10 (are.rest ++ l)) (whole_line (drop at text) lacks) ∙ both_lack are.rest (drop at text) are.endless lacks)

  no_fit : Fits line → ⊥
  no_fit fits = by_size (cases_lt 2_000 (length (drop at text)))
    where
      by_size : (2_000 < length (drop at text)) ⊎ (length (drop at text) ≤ 2_000) → ⊥
      by_size (inl long) = absurd (omega (arith, long_line long, fits.short))
      by_size (inr few) = clash fits.ended (short_line few)

  -- if it is a header, it has no end
  headless : whole ≡ [] → is_headed line ≡ true → ends_with nat_eq line (10 ∷ []) ≡ false
  headless none headed =
      let front : take at text ≡ are.rest = are.are ∙ ap (λ w. w ++ are.rest) none in
      let all : text ≡ tail = cut ∙ ap (λ f. f ++ drop at text) front in
      let first : is_headed text ≡ true = ap is_headed all ∙ sym (headed_first 0 tail) ∙ ap is_headed line_is ∙ headed in
      let before : has_byte 10 (take at text) ≡ false = ap (has_byte 10) front ∙ are.endless in
      let lacks : has_byte 10 tail ≡ false = ap (has_byte 10) (sym all) ∙ e.header (and_from (is_headed text) (not (has_byte 10 (take at text))) first (ap not before)) in
      unended line (ap (has_byte 10) (sym line_is ∙ whole_line tail lacks) ∙ lacks)

  endless_bad : (number : ℕ) → number ≡ count + 1 → is_packed_text kind whole ≡ true → HasBadRecord kind text number
  endless_bad number is good = bad_after kind text (take at text) (drop at text) whole count cut are number is good (bad_last kind whole line one no_fit are.ended headless)

-- the line after a good front is bad, if no line ends after it
pub front_bad : (kind : Kind) (text : Bytes) (len at number : ℕ) → len ≡ length text → IsLinesEnd text at → at ≢ len → HasGoodFront kind text at number → HasBadRecord kind text number
front_bad kind text len at number size told inside good = by_stop told.stops
  where
    by_stop : (at ≡ length text) ⊎ IsEndlessAt text at → HasBadRecord kind text number
    by_stop (inl all) = absurd (inside (all ∙ sym size))
    by_stop (inr e) = endless_bad kind text good.whole at good.count good.are e number good.number_is good.good

-- ---- what isn't refused

pub none_long : (kind : Kind) (o : Option Bytes) → None ≡ option_map length o → MayBePacked kind (unwrap_or o [])
none_long kind o none = subst (λ o. MayBePacked kind (unwrap_or o [])) (sym (no_size o none)) (inl (omega (arith)))

pub no_longer : (kind : Kind) (text : Bytes) (len : ℕ) → len ≡ length text → len ≤ max_piece → MayBePacked kind text
no_longer kind text len size few = inl (omega (arith, size, few))

pub long_lines : (kind : Kind) (text : Bytes) (len at number : ℕ) → len ≡ length text → at ≡ len → HasGoodFront kind text max_piece number → IsLinesEnd text at → MayBePacked kind text
long_lines kind text len at number size same good ends = inr (record { number = number; front = good; ends = subst (IsLinesEnd text) (same ∙ size) ends })

-- ---- the first lines

-- a fault of the lines in a beginning of the text is a fault of the text
pub front_fault : (kind : Kind) (text front whole : Bytes) (most count : ℕ) (error : OpenError) → front ≡ part text 0 most → AreLinesOf front whole count → IsPackedFault kind whole error → IsPackedFault kind text error
front_fault kind text front whole most count error is are fault =
    fault_bad kind text front (drop most text) whole count (sym (take-append-drop most text) ∙ ap (λ f. f ++ drop most text) (sym is)) are error fault

pub good_front : (kind : Kind) (text front whole : Bytes) (most count : ℕ) → front ≡ part text 0 most → AreLinesOf front whole count → is_packed_text kind whole ≡ true → HasGoodFront kind text most (count + 1)
good_front kind text front whole most count is are good = record { whole = whole; count = count; are = subst (λ f. AreLinesOf f whole count) is are; good = good; number_is = refl }

pub packed_cause : (A : Type 0) (kind : Kind) (text : Bytes) (error : OpenError) → IsPackedFault kind text error → IsPackedCause A kind text error
packed_cause A kind text (BadPacked number) h = h
packed_cause A kind text Memory h = tt
packed_cause A kind text _ h = absurd h

-- ---- the search

in_parts : (x y : Bool) → (x && not y) ≡ true → (x ≡ true) × (y ≡ false)
in_parts true false h = (refl, refl)
in_parts true true h = absurd (cc h)
in_parts false y h = absurd (cc h)

-- up to this byte, of so many, some line ends within each piece, unless it begins in the header
pub record IsSearchedTo (Honest : Type 0) (text : Bytes) (len at : ℕ) (in_header : Bool) : Type 0 where
  pub within : at ≤ len
  pub header : Honest → in_header ≡ is_in_header text at
  pub ends : Honest → (k : ℕ) → k < at → is_in_header text k ≡ false → has_byte 10 (take max_piece (drop k text)) ≡ true

pub none_searched : (Honest : Type 0) (text first : Bytes) (len : ℕ) (in_header : Bool) → (Honest → first ≡ part text 0 (min 1 max_piece)) → in_header ≡ is_headed first → IsSearchedTo Honest text len 0 in_header
none_searched Honest text first len in_header is told = record {
  within = omega arith;
  header = λ honest. told ∙ ap is_headed (is honest) ∙ by_text text;
  ends = λ honest k below. absurd (omega (arith, below));
}
  where
    by_text : (t : Bytes) → is_headed (take 1 t) ≡ is_in_header t 0
    by_text [] = refl
    by_text (b ∷ t) = right (is_headed (b ∷ t))
      where
        right : (h : Bool) → h ≡ (h && true)
        right true = refl
        right false = refl

pub same_search : (Honest : Type 0) (text : Bytes) (len at next : ℕ) (in_header still : Bool) → next ≡ at → still ≡ in_header → IsSearchedTo Honest text len at in_header → IsSearchedTo Honest text len next still
same_search Honest text len at next in_header still there is searched = subst (λ n. IsSearchedTo Honest text len n still) (sym there) (subst (IsSearchedTo Honest text len at) (sym is) searched)

-- whether a text is empty
pub emptied : (text : Bytes) (b : Bool) → b ≡ (length text == 0) → b ≡ true → text ≡ []
emptied text b is h = nil_from_length text (eqb-true (length text) 0 (sym is ∙ h))

pub filled : (text : Bytes) (b : Bool) → b ≡ (length text == 0) → b ≡ false → text ≢ []
filled text b is h none = clash (is ∙ ap (λ t. length t == 0) none) h

-- what a piece is at its place
piece_there : (text piece : Bytes) (len at : ℕ) → len ≡ length text → piece ≡ part text at (min (len - at) max_piece) → piece ≡ take max_piece (drop at text)
piece_there text piece len at size is = is ∙ by_size (cases_lt max_piece (len - at))
  where
    by_size : (max_piece < len - at) ⊎ (len - at ≤ max_piece) → take (min (len - at) max_piece) (drop at text) ≡ take max_piece (drop at text)
    by_size (inl over) = ap (λ n. take n (drop at text)) (let e : min (len - at) max_piece ≡ max_piece = omega (arith, over) in e)
    by_size (inr few) = take_all (min (len - at) max_piece) (drop at text) (omega (arith, few, size, length-drop at text)) ∙ sym (take_all max_piece (drop at text) (omega (arith, few, size, length-drop at text)))

-- the first bytes of a text lack what more of them lack
front_lacks : (k n : ℕ) (text : Bytes) → k ≤ n → has_byte 10 (take n text) ≡ false → has_byte 10 (take k text) ≡ false
front_lacks k n text few lacks = left_lacks 10 (take k text) (take (n - k) (drop k text))
    (ap (has_byte 10) (sym (take-add k (n - k) text)) ∙ ap (λ m. has_byte 10 (take m text)) (let e : k + (n - k) ≡ n = omega (arith, few) in e) ∙ lacks)

module _ (Honest : Type 0) (text piece whole : Bytes) (len at count : ℕ) (in_header : Bool) (searched : IsSearchedTo Honest text len at in_header) (size : Honest → len ≡ length text) (inside : at < len)
    (is : Honest → piece ≡ part text at (min (len - at) max_piece)) (few : length piece ≤ len - at) (are : AreLinesOf piece whole count) where
  sizes : length piece ≡ length whole + length are.rest
  sizes = ap length are.are ∙ length-append whole are.rest

  pub taken_within : at + length whole ≤ len
  taken_within = omega (arith, inside, few, sizes)

  -- lines end in the piece
  pub piece_passed : whole ≢ [] → IsSearchedTo Honest text len (at + length whole) false
  piece_passed some = by_end are.ended
    where
      by_end : (whole ≡ []) ⊎ ((w : Bytes) × (whole ≡ w ++ 10 ∷ [])) → IsSearchedTo Honest text len (at + length whole) false
      by_end (inl none) = absurd (some none)
      by_end (inr (w, told)) = record { within = taken_within; header = λ honest. sym (out honest); ends = ends }
        where
          there : Honest → drop at text ≡ w ++ 10 ∷ (are.rest ++ drop max_piece (drop at text))
          there honest =
              sym (take-append-drop max_piece (drop at text)) ∙ ap (λ p. p ++ drop max_piece (drop at text)) (sym (piece_there text piece len at (size honest) (is honest)) ∙ are.are ∙ ap (λ x. x ++ are.rest) told)
              ∙ append_assoc (w ++ 10 ∷ []) are.rest (drop max_piece (drop at text)) ∙ append_assoc w (10 ∷ []) (are.rest ++ drop max_piece (drop at text))

          wide : Honest → length whole ≤ max_piece
          wide honest = omega (arith, sizes, ap length (piece_there text piece len at (size honest) (is honest)), length-take max_piece (drop at text))

          w_size : length whole ≡ length w + 1
          w_size = ap length told ∙ length-append w (10 ∷ [])

          -- from each byte of the taken lines on there is a line feed
          feed : Honest → (j n : ℕ) → j ≤ length w → length w < j + n → has_byte 10 (take n (drop j (drop at text))) ≡ true
          feed honest j n low high =
              let x = drop j w in
              let back = are.rest ++ drop max_piece (drop at text) in
              ap (λ t. has_byte 10 (take n t)) (ap (drop j) (there honest) ∙ drop-append-le j w (10 ∷ back) low)
              ∙ ap (has_byte 10) (cut_at x back n (omega (arith, low, high, length-drop j w)))
              ∙ one_is_in 10 x (take (n - length x - 1) back)
            where
              cut_at : (x back : Bytes) (n : ℕ) → length x < n → take n (x ++ 10 ∷ back) ≡ x ++ 10 ∷ take (n - length x - 1) back
              cut_at [] back n over = from_one n over
                where
                  from_one : (n : ℕ) → 0 < n → take n (10 ∷ back) ≡ 10 ∷ take (n - 0 - 1) back
                  from_one zero over = absurd (omega (arith, over))
                  from_one (suc n) over = ap (λ m. 10 ∷ take m back) (let e : n ≡ suc n - 0 - 1 = omega arith in e)
              cut_at (b ∷ x) back zero over = absurd (omega (arith, over))
              cut_at (b ∷ x) back (suc n) over = ap (λ t. b ∷ t) (cut_at x back n (omega (arith, over))) ∙ ap (λ m. b ∷ (x ++ 10 ∷ take m back)) (let e : n - length x - 1 ≡ suc n - suc (length x) - 1 = omega arith in e)

          out : Honest → is_in_header text (at + length whole) ≡ false
          out honest =
              ap (λ h. is_headed text && not h)
              (ap (has_byte 10) (take-add at (length whole) text) ∙ list_any-append (λ b. b == 10) (take at text) (take (length whole) (drop at text))
              ∙ ap (λ h. has_byte 10 (take at text) || h) (feed honest 0 (length whole) (omega arith) (omega (arith, w_size))) ∙ either (has_byte 10 (take at text)))
              ∙ never (is_headed text)
            where
              either : (b : Bool) → (b || true) ≡ true
              either true = refl
              either false = refl

              never : (b : Bool) → (b && false) ≡ false
              never true = refl
              never false = refl

          ends : Honest → (k : ℕ) → k < at + length whole → is_in_header text k ≡ false → has_byte 10 (take max_piece (drop k text)) ≡ true
          ends honest k below outside = by_place (cases_lt k at)
            where
              by_place : (k < at) ⊎ (at ≤ k) → has_byte 10 (take max_piece (drop k text)) ≡ true
              by_place (inl before) = searched.ends honest k before outside
              by_place (inr behind) =
                  ap (λ t. has_byte 10 (take max_piece t)) (ap (λ n. drop n text) (let e : k ≡ at + (k - at) = omega (arith, behind) in e) ∙ sym (drop-drop (k - at) at text))
                  ∙ feed honest (k - at) max_piece (omega (arith, below, behind, w_size)) (omega (arith, w_size, wide honest, behind))

  -- no line ends in the piece
  module _ (none : whole ≡ []) where
    lacks : Honest → has_byte 10 (take max_piece (drop at text)) ≡ false
    lacks honest = ap (has_byte 10) (sym (piece_there text piece len at (size honest) (is honest)) ∙ are.are ∙ ap (λ w. w ++ are.rest) none) ∙ are.endless

    pub header_passed : in_header ≡ true → IsSearchedTo Honest text len (at + min (len - at) max_piece) true
    header_passed within = record { within = omega (arith, inside); header = λ honest. sym (still honest (at + min (len - at) max_piece) (omega arith)); ends = ends }
      where
        here : Honest → (is_headed text ≡ true) × (has_byte 10 (take at text) ≡ false)
        here honest = in_parts (is_headed text) (has_byte 10 (take at text)) (sym (searched.header honest) ∙ within)

        all_lack : Honest → has_byte 10 (take (at + max_piece) text) ≡ false
        all_lack honest = ap (has_byte 10) (take-add at max_piece text) ∙ both_lack (take at text) (take max_piece (drop at text)) (here honest).1 (lacks honest)

        still : Honest → (k : ℕ) → k ≤ at + max_piece → is_in_header text k ≡ true
        still honest k near = and_from (is_headed text) (not (has_byte 10 (take k text))) (here honest).0 (ap not (front_lacks k (at + max_piece) text near (all_lack honest)))

        ends : Honest → (k : ℕ) → k < at + min (len - at) max_piece → is_in_header text k ≡ false → has_byte 10 (take max_piece (drop k text)) ≡ true
        ends honest k below outside = clash (still honest k (omega (arith, below))) outside

    pub stopped : in_header ≡ false → Honest → IsLinesEnd text at
    stopped outside honest = record {
      ends = searched.ends honest;
      stops = inr (record {
        some = omega (arith, inside, size honest);
        endless = lacks honest;
        header = λ there. clash there (sym (searched.header honest) ∙ outside);
      });
    }

module _ (Honest : Type 0) (text : Bytes) (len at : ℕ) (in_header : Bool) (searched : IsSearchedTo Honest text len at in_header) (size : Honest → len ≡ length text) (over : len ≤ at) where
  -- the header has no end
  pub header_endless : in_header ≡ true → Honest → IsLinesEnd text 0
  header_endless within honest =
      let here = in_parts (is_headed text) (has_byte 10 (take at text)) (sym (searched.header honest) ∙ within) in
      let lacks : has_byte 10 text ≡ false = ap (has_byte 10) (sym (take_all at text (omega (arith, over, size honest)))) ∙ here.1 in
      record {
        ends = λ k below. absurd (omega (arith, below));
        stops = inr (record {
          some = not_empty text here.0;
          endless = left_lacks 10 (take max_piece text) (drop max_piece text) (ap (has_byte 10) (take-append-drop max_piece text) ∙ lacks);
          header = λ there. lacks;
        });
      }
    where
      not_empty : (t : Bytes) → is_headed t ≡ true → 0 < length t
      not_empty [] h = absurd (cc h)
      not_empty (b ∷ t) h = omega arith
