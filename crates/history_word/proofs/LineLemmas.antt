-- The words of a line.
use Rattle.std.proofs.Common.{◌≡◌, ◌↔◌, ℕ, ◌+◌, ◌≤◌, ◌<◌, ◌^◌, ◌==◌, Bool, Bor, true, false, not, ◌&&◌, ◌||◌, List, [], ◌∷◌, length, Option, Some, None, nat_lt, nat_le, refl, sym, ap, subst, ◌∙◌, ne_eqb, arith, decimal}
use Rattle.std.specs.Prelude.{cond}
use Rattle.std.specs.List.{list_all, onto_first, join_with_byte}
use Rattle.std.specs.Option.{option_copied, is_some}
use Rattle.std.specs.Prelude.{IfSome, IfNone}
use Rattle.std.proofs.lemmas.Bool.Decides.{nat_tests}
use Rattle.std.proofs.lemmas.List.Splits.{slice_split_none, slice_split_at, length-slice_split, join_with_byte-slice_split}
use Rattle.history_model.specs.Bytes.{Bytes, has_byte, is_empty}
use Rattle.history_model.specs.Spelling.{Line, is_word, is_part, max_line}
use Rattle.history_model.specs.Lines as lines
use Rattle.history_word.specs.LineTable as table
use Rattle.history_model.specs.LineWords.{words_of}
use Rattle.history_word.specs.LineTable.{heading_of, number_of}
use Rattle.history_word.specs.TableRuns.{IsLineAt}
use Rattle.history_word.proofs.TableLaws.{number_decimal, decimal_number, heading_told, heading_reads, heading_words, some_words}
use Rattle.history_word.specs.declared.heading.Heading.{Heading}
use Rattle.history_word.specs.Held.{IsUnbroken}
use Rattle.history_word.specs.Lines.{split_words, words_left, words_size, are_nonempty, IsCut}
use Rattle.history_word.specs.declared.place.Place.{Place}
use Rattle.history_word.specs.Drafts.{place_of, Says}
use Rattle.history_word.specs.Come.{IsLine}
use Rattle.std.proofs.lemmas.Bool.{or_parts, and_parts}

-- a line that is cut at its first space has the word before it, and then the others
pub cut_words : (line word : Bytes) (rest : Option Bytes) → IsCut line word rest → split_words line ≡ word ∷ words_left rest
cut_words line word None h = ap split_words h.0 ∙ slice_split_none (λ b. b == 32) word (λ k d l. ne_eqb _ _ (h.1 k d l))
cut_words line word (Some rest) h = ap split_words h.0 ∙ slice_split_at (λ b. b == 32) word 32 rest (λ k d l. ne_eqb _ _ (h.1 k d l)) refl

pub done_is : (rest : Option (Bor (List ℕ))) (done : Bool) → not done ≡ is_some rest → (done ≡ true) ↔ (words_left (option_copied rest) ≡ [])
done_is None true n = (λ e. refl, λ e. refl)
done_is None false n = absurd cc
done_is (Some line) true n = absurd cc
done_is (Some line) false n = (λ e. cc, λ e. absurd (omega (arith, ap length e, length-slice_split (λ b. b == 32) line.now)))

size_next : (b : ℕ) (line : Bytes) (ws : List Bytes) (t : Bool) → words_size ws ≡ length line + 1 → words_size (cond t ([] ∷ ws) (onto_first b ws)) ≡ length (b ∷ line) + 1
size_next b line ws true e = omega (arith, e)
size_next b line [] false e = absurd (omega (arith, e))
size_next b line (w ∷ ws) false e = omega (arith, e)

-- the words of a line are as long as it is, with a byte after the last
pub split_size : (line : Bytes) → words_size (split_words line) ≡ length line + 1
split_size [] = refl
split_size (b ∷ line) = size_next b line (split_words line) (b == 32) (split_size line)

-- ---- numbers

pub no_number : (w : Bytes) → ((n : ℕ) → n < 2 ^ 64 → w ≡ decimal n → ⊥) → number_of w ≡ None
no_number w f = at (number_of w) refl
  where
    at : (o : Option ℕ) → number_of w ≡ o → o ≡ None
    at None e = refl
    at (Some n) e =
        let found = decimal_number w n e in
        let small : n < 2 ^ 64 = grind (arith, nat_tests, found.1) in
        absurd (f n small found.0)

pub a_number : (w : Bytes) (n : ℕ) → n < 2 ^ 64 → w ≡ decimal n → number_of w ≡ Some n
a_number w n small e =
    let test : nat_lt n (2 ^ 64) ≡ true = grind (arith, nat_tests) in
    ap number_of e ∙ number_decimal n test

-- ---- words without spaces and line feeds

abbrev without : ℕ → Bytes → Bool
without d w = not (has_byte d w)

clean_first : (d b : ℕ) (ws : List Bytes) → (b == d) ≡ false → list_all (without d) ws ≡ true → list_all (without d) (onto_first b ws) ≡ true
clean_first d b [] e h = both (not ((b == d) || false)) true (ap (λ o. not (o || false)) e) refl
  where
    both : (x y : Bool) → x ≡ true → y ≡ true → (x && y) ≡ true
    both true y e f = f
    both false y e f = cc
clean_first d b (w ∷ ws) e h = ap (λ o. not (o || has_byte d w) && list_all (without d) ws) e ∙ h

split_next : (d b : ℕ) (line : Bytes) (t : Bool) → (b == 32) ≡ t → ((b == 32) ≡ false → (b == d) ≡ false) → list_all (without d) (split_words line) ≡ true → list_all (without d) (split_words (b ∷ line)) ≡ true
split_next d b line true e other h = ap (λ t. list_all (without d) (cond t ([] ∷ split_words line) (onto_first b (split_words line)))) e ∙ h
split_next d b line false e other h = ap (λ t. list_all (without d) (cond t ([] ∷ split_words line) (onto_first b (split_words line)))) e ∙ clean_first d b (split_words line) (other e) h

no_space : (line : Bytes) → list_all (without 32) (split_words line) ≡ true
no_space [] = refl
no_space (b ∷ line) = split_next 32 b line (b == 32) refl (λ e. e) (no_space line)

no_line_feed : (line : Bytes) → IsUnbroken line → list_all (without 10) (split_words line) ≡ true
no_line_feed [] h = refl
no_line_feed (b ∷ line) h = let parts = or_parts (b == 10) (has_byte 10 line) h in split_next 10 b line (b == 32) refl (λ e. parts.0) (no_line_feed line parts.1)

all_three : (ws : List Bytes) → are_nonempty ws ≡ true → list_all (without 32) ws ≡ true → list_all (without 10) ws ≡ true → list_all is_word ws ≡ true
all_three [] e f g = refl
all_three (w ∷ ws) e f g =
    let x = and_parts (not (is_empty w)) (are_nonempty ws) e in
    let y = and_parts (without 32 w) (list_all (without 32) ws) f in
    let z = and_parts (without 10 w) (list_all (without 10) ws) g in
    let rest = all_three ws x.1 y.1 z.1 in
    three (not (is_empty w)) (without 32 w) (without 10 w) (list_all is_word ws) x.0 y.0 z.0 rest
  where
    three : (a b c d : Bool) → a ≡ true → b ≡ true → c ≡ true → d ≡ true → (((a && b) && c) && d) ≡ true
    three true true true d e f g h = h
    three false b c d e f g h = cc
    three true false c d e f g h = cc
    three true true false d e f g h = cc

pub are_nonempty-words : (ws : List Bytes) → list_all is_word ws ≡ true → are_nonempty ws ≡ true
are_nonempty-words [] e = refl
are_nonempty-words (w ∷ ws) e =
    let parts = and_parts (is_word w) (list_all is_word ws) e in
    let first = and_parts (not (is_empty w)) (without 32 w) (and_parts (not (is_empty w) && without 32 w) (without 10 w) parts.0).0 in
    ap (λ a. a && are_nonempty ws) first.0 ∙ are_nonempty-words ws parts.1

-- ---- what a line says

fits_line : (line : Bytes) → IsUnbroken line → length line ≤ 4096 → are_nonempty (split_words line) ≡ true → is_part (Line (split_words line)) ≡ true
fits_line line whole short nonempty =
    let size : nat_le (length (join_with_byte 32 (split_words line))) max_line ≡ true = ap (λ t. nat_le (length t) max_line) (join_with_byte-slice_split 32 line) ∙ grind (arith, nat_tests) in
    both (list_all is_word (split_words line)) _ (all_three (split_words line) nonempty (no_space line) (no_line_feed line whole)) size
  where
    both : (x y : Bool) → x ≡ true → y ≡ true → (x && y) ≡ true
    both true y e f = f
    both false y e f = cc

pub found_line : (line : Bytes) (result : Option Heading) → IsUnbroken line → length line ≤ 4096 → are_nonempty (split_words line) ≡ true → Says result (heading_of (split_words line)) → IfSome result (λ said. IsLine said line)
found_line line None whole short nonempty says = tt
found_line line (Some said) whole short nonempty says = at (heading_of (split_words line)) refl says
  where
    at : (o : Option lines.Heading) → heading_of (split_words line) ≡ o → Says (Some said) o → IsLine said line
    at None e s = absurd s
    at (Some h) e s =
        let told = heading_told (split_words line) h e in
        record {
          heading = h;
          spelled = sym (join_with_byte-slice_split 32 line) ∙ ap (join_with_byte 32) told.0;
          known = subst (λ ws. is_part (Line ws) ≡ true) told.0 (fits_line line whole short nonempty);
          sized = told.1;
          is = s;
        }

words_at : (line : Bytes) (place : table.Place) (at : IsLineAt place line) → split_words line ≡ words_of at.heading
words_at line place at = ap split_words at.spelled ∙ heading_words (words_of at.heading) (some_words at.heading) at.known

pub no_line : (line : Bytes) (result : Option Heading) → Says result (heading_of (split_words line)) → IfNone result ((place : Place) → ¬ (IsLineAt (place_of place) line))
no_line line (Some said) says = tt
no_line line None says = λ place at.
    let found : heading_of (split_words line) ≡ Some at.heading = ap heading_of (words_at line (place_of place) at) ∙ heading_reads at.heading at.sized in
    let nowhere = subst (Says None) found says in
    let e = sym (nowhere place) ∙ at.stands in
    cc

pub no_empty_word : (line : Bytes) → are_nonempty (split_words line) ≡ false → (place : Place) → ¬ (IsLineAt (place_of place) line)
no_empty_word line e place at =
    let words = and_parts (list_all is_word (words_of at.heading)) _ at.known in
    let nonempty : are_nonempty (split_words line) ≡ true = ap are_nonempty (words_at line (place_of place) at) ∙ are_nonempty-words (words_of at.heading) words.0 in
    cc
