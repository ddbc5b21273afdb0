-- The whole lines of a text are a beginning of it.
use Rattle.std.proofs.Common.{◌≡◌, ◌≢◌, refl, sym, ◌∙◌, ap, subst, ℕ, zero, suc, ◌-◌, ◌<◌, ◌≤◌, ◌+◌, Bool, true, false, cond, ◌||◌, ◌==◌, [], ◌∷◌, ◌++◌, length, take, drop, get_or, arith, tests, append_assoc, length-append, take-append-drop}
use Rattle.std.proofs.lemmas.Bool.{false_from_ne_true}
use Rattle.std.proofs.lemmas.List.{take_at}
use Rattle.gix_ref_file.specs.Tree.{part}
use Rattle.history_model.specs.Bytes.{Bytes, has_byte}
use Rattle.history_model.specs.Logs.{whole_lines}
use Rattle.history_recovery.proofs.FilePieces.{take_more}

-- ---- what is after the front of a text

lacks_behind : (front text : Bytes) → has_byte 10 text ≡ false → has_byte 10 (front ++ text) ≡ has_byte 10 front
lacks_behind [] text lacks = lacks
lacks_behind (c ∷ front) text lacks = ap (λ t. (c == 10) || t) (lacks_behind front text lacks)

pub lines_before : (front text : Bytes) → has_byte 10 text ≡ false → whole_lines (front ++ text) ≡ whole_lines front
lines_before [] [] lacks = refl
lines_before [] (b ∷ text) lacks = ap (λ t. cond t (b ∷ whole_lines text) []) lacks
lines_before (c ∷ front) text lacks = λ i. cond (lacks_behind (c ∷ front) text lacks i) (c ∷ lines_before front text lacks i) []

has_behind : (front text : Bytes) → has_byte 10 text ≡ true → has_byte 10 (front ++ text) ≡ true
has_behind [] text has = has
has_behind (c ∷ front) text has = go (c == 10) (has_behind front text has)
  where
    go : (b : Bool) → has_byte 10 (front ++ text) ≡ true → (b || has_byte 10 (front ++ text)) ≡ true
    go true rest = refl
    go false rest = rest

pub lines_behind : (front text : Bytes) → has_byte 10 text ≡ true → whole_lines (front ++ text) ≡ front ++ whole_lines text
lines_behind [] text has = refl
lines_behind (c ∷ front) text has = λ i. cond (has_behind (c ∷ front) text has i) (c ∷ lines_behind front text has i) []

line_goes_on : (front : Bytes) (b : ℕ) → (b == 10) ≡ false → whole_lines (front ++ b ∷ []) ≡ whole_lines front
line_goes_on front b other = lines_before front (b ∷ []) (ap (λ t. t || false) other)

line_ends : (front : Bytes) → whole_lines (front ++ 10 ∷ []) ≡ front ++ 10 ∷ []
line_ends front = lines_behind front (10 ∷ []) refl

-- ---- the whole lines of a piece

none_lacks : (text : Bytes) → whole_lines text ≡ [] → has_byte 10 text ≡ false
none_lacks [] none = refl
none_lacks (b ∷ text) none = go (has_byte 10 (b ∷ text)) none
  where
    go : (has : Bool) → cond has (b ∷ whole_lines text) [] ≡ [] → has ≡ false
    go true none = cc
    go false none = refl

some_has : (text : Bytes) → whole_lines text ≢ [] → has_byte 10 text ≡ true
some_has [] some = absurd (some refl)
some_has (b ∷ text) some = go (has_byte 10 (b ∷ text)) some
  where
    go : (has : Bool) → cond has (b ∷ whole_lines text) [] ≢ [] → has ≡ true
    go true some = refl
    go false some = absurd (some refl)

lines_begin : (text : Bytes) → (rest : Bytes) × (text ≡ whole_lines text ++ rest)
lines_begin [] = ([], refl)
lines_begin (b ∷ text) = go (has_byte 10 (b ∷ text)) (lines_begin text)
  where
    go : (has : Bool) → (rest : Bytes) × (text ≡ whole_lines text ++ rest) → (rest : Bytes) × (b ∷ text ≡ cond has (b ∷ whole_lines text) [] ++ rest)
    go true (rest, is) = (rest, ap (λ t. b ∷ t) is)
    go false so_far = (b ∷ text, refl)

pub lines_short : (text : Bytes) → length (whole_lines text) ≤ length text
lines_short text = let rest = lines_begin text in omega (arith, ap length rest.1, length-append (whole_lines text) rest.0)

is_zero : (n : ℕ) → (n == 0) ≡ true → n ≡ 0
is_zero n none = grind (arith, tests)

pub no_lines : (text : Bytes) → (length text == 0) ≡ true → text ≡ []
no_lines [] none = refl
no_lines (b ∷ text) none = absurd (omega (arith, is_zero (length (b ∷ text)) none))

pub some_lines : (text : Bytes) → (length text == 0) ≡ false → text ≢ []
some_lines text some none = let wrong : true ≡ false = sym (ap (λ t. length t == 0) none) ∙ some in cc wrong

module _ (text piece : Bytes) (start most end : ℕ) (is : piece ≡ part text start most) (end_is : end ≡ start + most) (so_far : whole_lines text ≡ whole_lines (take end text)) where
  piece_behind : take end text ≡ take start text ++ piece
  piece_behind = ap (λ n. take n text) end_is ∙ take_more start most text ∙ ap (λ p. take start text ++ p) (sym is)

  -- the last line feed isn't in the piece
  pub lines_earlier : whole_lines piece ≡ [] → whole_lines text ≡ whole_lines (take start text)
  lines_earlier none = so_far ∙ ap whole_lines piece_behind ∙ lines_before (take start text) piece (none_lacks piece none)

  -- the last line feed is in the piece
  pub lines_end : whole_lines piece ≢ [] → take (start + length (whole_lines piece)) text ≡ whole_lines text
  lines_end some =
      take_more start (length (whole_lines piece)) text ∙ ap (λ p. take start text ++ p) front
      ∙ sym (so_far ∙ ap whole_lines piece_behind ∙ lines_behind (take start text) piece (some_has piece some))
    where
      behind : (more : Bytes) × (drop start text ≡ whole_lines piece ++ more)
      behind =
          let rest = lines_begin piece in
          let more = drop most (drop start text) in (
            rest.0 ++ more,
            sym (take-append-drop most (drop start text)) ∙ ap (λ p. p ++ more) (sym is ∙ rest.1) ∙ append_assoc (whole_lines piece) rest.0 more,
          )

      front : part text start (length (whole_lines piece)) ≡ whole_lines piece
      front = ap (take (length (whole_lines piece))) behind.1 ∙ take_at (whole_lines piece) behind.0 (length (whole_lines piece)) refl

-- ---- the last line feed, byte by byte

-- the last byte of a beginning
last_of : (n : ℕ) (text : Bytes) → n < length text → take (suc n) text ≡ take n text ++ get_or text n 0 ∷ []
last_of n [] below = absurd (omega (arith, below))
last_of zero (b ∷ text) below = refl
last_of (suc n) (b ∷ text) below = ap (λ t. b ∷ t) (last_of n text (omega (arith, below)))

one_less : (end : ℕ) → 0 < end → suc (end - 1) ≡ end
one_less end some = omega (arith, some)

last_taken : (end : ℕ) (text : Bytes) → 0 < end → end ≤ length text → take end text ≡ take (end - 1) text ++ get_or text (end - 1) 0 ∷ []
last_taken end text some fits = ap (λ n. take n text) (sym (one_less end some)) ∙ last_of (end - 1) text (omega (arith, some, fits))

not_ten : (b : ℕ) → b ≢ 10 → (b == 10) ≡ false
not_ten b other = false_from_ne_true (b == 10) (λ is. other (grind (arith, tests)))

pub shorter_too : (end : ℕ) (text : Bytes) → 0 < end → end ≤ length text → get_or text (end - 1) 0 ≢ 10 → whole_lines (take end text) ≡ whole_lines (take (end - 1) text)
shorter_too end text some fits other = ap whole_lines (last_taken end text some fits) ∙ line_goes_on (take (end - 1) text) (get_or text (end - 1) 0) (not_ten (get_or text (end - 1) 0) other)

pub ends_there : (end : ℕ) (text : Bytes) → 0 < end → end ≤ length text → get_or text (end - 1) 0 ≡ 10 → whole_lines (take end text) ≡ take end text
ends_there end text some fits is =
    let last : take end text ≡ take (end - 1) text ++ 10 ∷ [] = last_taken end text some fits ∙ ap (λ b. take (end - 1) text ++ b ∷ []) is in
    ap whole_lines last ∙ line_ends (take (end - 1) text) ∙ sym last

pub nothing_left : (end : ℕ) (text : Bytes) → end ≤ 0 → whole_lines (take end text) ≡ take end text
nothing_left end text none = subst (λ n. whole_lines (take n text) ≡ take n text) (zero_is end none) refl
  where
    zero_is : (n : ℕ) → n ≤ 0 → 0 ≡ n
    zero_is n few = omega (arith, few)
