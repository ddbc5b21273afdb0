-- The line of a trailer.
use Rattle.std.proofs.Common.{◌≡◌, ◌≢◌, ◌∙◌, ap, refl, sym, subst, ℕ, suc, ◌+◌, ◌<◌, ◌≤◌, Bool, true, false, List, [], ◌∷◌, ◌++◌, Option, Some, None, length, take, drop, one-add, length-take-le, take-append-drop, inl, inr, arith}
use Rattle.std.specs.Prelude.{MatchOption, codes, nat_lt}
use Rattle.std.specs.Option.{option_map}
use Rattle.std.specs.List.{prefix_len, list_all}
use Rattle.std.proofs.lemmas.Bool.{cond-true, cond-false, cases_Bool, and_parts, and_from, ltb-true, lt-ltb}
use Rattle.std.proofs.lemmas.List.{take_at, drop_at}
use Rattle.std.proofs.lemmas.List.Sums.{prefix_len-le-length}
use Rattle.std.proofs.lemmas.Slice.Eq.{bytes_eq-Decides}
use Rattle.gix_object_message.specs.Lines.{begins_with}
use Rattle.gix_object_message.specs.Trailer.{Trailer, SpellsTrailer, is_token_byte, token_len, is_trailer_line, trailer_of}
use Rattle.gix_object_message.specs.White.{trim}
use Rattle.gix_object_message.specs.Views.{trailer_text}
use Rattle.gix_object_message.specs.declared.trailer.TrailerRef.{TrailerRef}

-- ---- the longest front that passes a test

all_front : (p : ℕ → Bool) (xs : List ℕ) → list_all p (take (prefix_len p xs) xs) ≡ true
all_front p [] = refl
all_front p (x ∷ xs) =
    elim (cases_Bool (p x)) [
      | inl is ↦
          ap (λ n. list_all p (take n (x ∷ xs))) (cond-true (p x) (1 + prefix_len p xs) 0 is ∙ one-add (prefix_len p xs))
          ∙ and_from (p x) (list_all p (take (prefix_len p xs) xs)) is (all_front p xs)
      | inr is ↦ ap (λ n. list_all p (take n (x ∷ xs))) (cond-false (p x) (1 + prefix_len p xs) 0 is)
    ]

front_len : (p : ℕ → Bool) (front : List ℕ) (b : ℕ) (rest : List ℕ) → list_all p front ≡ true → p b ≡ false → prefix_len p (front ++ b ∷ rest) ≡ length front
front_len p [] b rest all stop = cond-false (p b) (1 + prefix_len p rest) 0 stop
front_len p (x ∷ front) b rest all stop =
    let parts = and_parts (p x) (list_all p front) all in
    cond-true (p x) (1 + prefix_len p (front ++ b ∷ rest)) 0 parts.0
    ∙ one-add (prefix_len p (front ++ b ∷ rest))
    ∙ ap suc (front_len p front b rest parts.1 stop)

-- ---- both ways

abbrev pub spelled_trailer : List ℕ → Trailer
spelled_trailer line = record { token = take (token_len line) line; value = trim (drop 2 (drop (token_len line) line)) }

filled : (text : List ℕ) → 0 < length text → text ≢ []
filled text some none = let e : length text ≡ 0 = ap length none in omega arith

spells : (line : List ℕ) → is_trailer_line line ≡ true → SpellsTrailer line (spelled_trailer line)
spells line is =
    let n = token_len line in
    let parts = and_parts (nat_lt 0 n) (begins_with (codes ": ") (drop n line)) is in
    let some : 0 < n = ltb-true 0 n parts.0 in
    let low : n ≤ length line = prefix_len-le-length is_token_byte line in
    let size : length (take n line) ≡ n = length-take-le n line low in
    let colon : take 2 (drop n line) ≡ codes ": " = (bytes_eq-Decides (take 2 (drop n line)) (codes ": ")).0 parts.1 in
    record {
      rest = drop 2 (drop n line);
      spelled = sym (take-append-drop n line) ∙ ap (λ t. take n line ++ t) (sym (take-append-drop 2 (drop n line)) ∙ ap (λ c. c ++ drop 2 (drop n line)) colon);
      some = filled (take n line) (omega arith);
      token = all_front is_token_byte line;
      value = refl;
    }

some_length : (text : List ℕ) → text ≢ [] → 0 < length text
some_length [] some = absurd (some refl)
some_length (b ∷ text) some = omega arith

pub trailer_of_spelled : (line : List ℕ) (trailer : Trailer) → SpellsTrailer line trailer → trailer_of line ≡ Some trailer
trailer_of_spelled line trailer is =
    let token = trailer.token in
    let behind = codes ": " ++ is.rest in
    let n : token_len line ≡ length token = ap token_len is.spelled ∙ front_len is_token_byte token 58 (32 ∷ is.rest) is.token refl in
    let rest : drop (token_len line) line ≡ behind = ap (λ k. drop k line) n ∙ ap (drop (length token)) is.spelled ∙ drop_at token behind (length token) refl in
    let front : take (token_len line) line ≡ token = ap (λ k. take k line) n ∙ ap (take (length token)) is.spelled ∙ take_at token behind (length token) refl in
    let some : nat_lt 0 (token_len line) ≡ true = ap (nat_lt 0) n ∙ lt-ltb 0 (length token) (some_length token is.some) in
    let colon : begins_with (codes ": ") (drop (token_len line) line) ≡ true = ap (begins_with (codes ": ")) rest in
    let value : trim (drop 2 (drop (token_len line) line)) ≡ trailer.value = ap (λ t. trim (drop 2 t)) rest ∙ sym is.value in
    cond-true (is_trailer_line line) (Some (spelled_trailer line)) None (and_from _ _ some colon)
    ∙ ap (λ t. Some (record { token = t; value = trim (drop 2 (drop (token_len line) line)) })) front
    ∙ ap (λ v. Some (record { token = token; value = v })) value

pub spells_from : (line : List ℕ) (r : Option TrailerRef) → option_map trailer_text r ≡ trailer_of line → MatchOption r ((trailer : Trailer) → ¬ SpellsTrailer line trailer) (λ trailer. SpellsTrailer line (trailer_text trailer))
spells_from line None is = λ trailer spelled. let e : None ≡ Some trailer = is ∙ trailer_of_spelled line trailer spelled in absurd cc
spells_from line (Some r) is =
    elim (cases_Bool (is_trailer_line line)) [
      | inl told ↦
          let e : Some (trailer_text r) ≡ Some (spelled_trailer line) = is ∙ cond-true (is_trailer_line line) (Some (spelled_trailer line)) None told in
          let same : trailer_text r ≡ spelled_trailer line = cc in
          subst (SpellsTrailer line) (sym same) (spells line told)
      | inr plain ↦
          let e : Some (trailer_text r) ≡ None = is ∙ cond-false (is_trailer_line line) (Some (spelled_trailer line)) None plain in
          absurd cc
    ]
