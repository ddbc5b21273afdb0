-- A log cut at its line feeds.
use Rattle.std.proofs.Common.{◌≡◌, ℕ, ◌-◌, Bool, false, ◌==◌, List, [], ◌∷◌, ◌++◌, map, take, reverse, length, refl, sym, ◌∙◌, ap, subst, arith, append_assoc, length-append, Bor}
use Rattle.std.specs.List.{All, flat_map, list_any, slice_split}
use Rattle.std.proofs.Math.Seq.{take-append_seam}
use Rattle.std.proofs.lemmas.Bool.{or_parts}
use Rattle.std.proofs.lemmas.List.{length-map, reverse-append, reverse-reverse, take-map}
use Rattle.std.proofs.lemmas.List.Elements.{All-nil, All-cons, All-head, All-tail, All-append}
use Rattle.std.proofs.lemmas.List.Splits.{slice_split_at, slice_split_none}
use Rattle.gix_object_lines.specs.Bytes.{Lacks}
use Rattle.history_model.specs.Bytes.{Bytes, line}

-- ---- lists

All-reverse : {X : Type 0} (P : X → Type 0) (xs : List X) → All P xs → All P (reverse xs)
All-reverse P [] all = all
All-reverse P (x ∷ xs) all =
    subst (All P) (sym (reverse-append (x ∷ []) xs)) (All-append P (reverse xs) (x ∷ []) (All-reverse P xs (All-tail P x xs all)) (All-cons P x [] (All-head P x xs all) (All-nil P)))

map_both : {X Y : Type 0} (f : X → Y) (xs ys : List X) → map f (xs ++ ys) ≡ map f xs ++ map f ys
map_both f [] ys = refl
map_both f (x ∷ xs) ys = ap (λ zs. f x ∷ zs) (map_both f xs ys)

pub map-reverse : {X Y : Type 0} (f : X → Y) (xs : List X) → map f (reverse xs) ≡ reverse (map f xs)
map-reverse f [] = refl
map-reverse f (x ∷ xs) =
    ap (map f) (reverse-append (x ∷ []) xs) ∙ map_both f (reverse xs) (x ∷ []) ∙ ap (λ ys. ys ++ f x ∷ []) (map-reverse f xs) ∙ sym (reverse-append (f x ∷ []) (map f xs))

-- ---- lines

abbrev pub is_feed : ℕ → Bool
is_feed byte = byte == 10

no_feed : (text : Bytes) → Lacks 10 text → All (λ byte. is_feed byte ≡ false) text
no_feed [] lacks = All-nil (λ byte. is_feed byte ≡ false)
no_feed (b ∷ text) lacks =
    let parts = or_parts (is_feed b) (list_any is_feed text) lacks in
    All-cons (λ byte. is_feed byte ≡ false) b text parts.0 (no_feed text parts.1)

-- lines that are cut at each line feed, with what follows the last
lines_split : (lines : List Bytes) (rest : Bytes) → All (Lacks 10) lines → Lacks 10 rest → slice_split is_feed (flat_map line lines ++ rest) ≡ lines ++ rest ∷ []
lines_split [] rest all lacks = slice_split_none is_feed rest (no_feed rest lacks)
lines_split (text ∷ lines) rest all lacks =
    ap (slice_split is_feed) (append_assoc (line text) (flat_map line lines) rest ∙ append_assoc text (10 ∷ []) (flat_map line lines ++ rest))
    ∙ slice_split_at is_feed text 10 (flat_map line lines ++ rest) (no_feed text (All-head (Lacks 10) text lines all)) refl
    ∙ ap (λ parts. text ∷ parts) (lines_split lines rest (All-tail (Lacks 10) text lines all) lacks)

pub newest_first : (log : Bytes) (parts left turned : List (Bor Bytes)) (lines : List Bytes) (rest : Bytes) (n : ℕ) → map (λ part. part.now) parts ≡ slice_split is_feed log → length parts ≡ n → left ≡ take (n - 1) parts → turned ≡ reverse left
    → All (Lacks 10) lines → Lacks 10 rest → log ≡ flat_map line (reverse lines) ++ rest → map (λ part. part.now) turned ≡ lines
newest_first log parts left turned lines rest n cut all_parts is_left is_turned all lacks is_log =
    let texts : map (λ (part : Bor Bytes). part.now) parts ≡ reverse lines ++ rest ∷ [] = cut ∙ ap (slice_split is_feed) is_log ∙ lines_split (reverse lines) rest (All-reverse (Lacks 10) lines all) lacks in
    let count : n - 1 ≡ length (reverse lines) = omega (arith, length-map parts (λ (part : Bor Bytes). part.now), ap length texts, length-append (reverse lines) (rest ∷ [])) in
    let kept : map (λ (part : Bor Bytes). part.now) left ≡ reverse lines =
    ap (map (λ (part : Bor Bytes). part.now)) is_left ∙ sym (take-map (λ (part : Bor Bytes). part.now) (n - 1) parts) ∙ ap (take (n - 1)) texts
    ∙ ap (λ n. take n (reverse lines ++ rest ∷ [])) count ∙ take-append_seam (reverse lines) (rest ∷ []) in
    ap (map (λ (part : Bor Bytes). part.now)) is_turned ∙ map-reverse (λ (part : Bor Bytes). part.now) left ∙ ap reverse kept ∙ reverse-reverse lines
