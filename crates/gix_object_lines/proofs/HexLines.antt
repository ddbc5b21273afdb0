-- The parts of a line of a word and digits.
use Rattle.std.proofs.Common.{◌≡◌, ◌∙◌, ap, sym, List, ℕ, [], ◌∷◌, ◌++◌, append_assoc, length, take, drop}
use Rattle.std.proofs.lemmas.List.{append-nil, append_cancel_left, take-append-drop}
use Rattle.std.proofs.Math.Seq.{take-append_seam, drop-append_seam}
use Rattle.std.specs.List.{IsSplitAt}
use Rattle.gix_object_lines.specs.HexLine.{hex_line}

pub after_word : (word digits : List ℕ) → hex_line word digits ≡ word ++ (32 ∷ digits ++ 10 ∷ [])
after_word word digits = append_assoc word (32 ∷ digits) (10 ∷ [])

pub after_digits : (word digits : List ℕ) → hex_line word digits ≡ ((word ++ 32 ∷ []) ++ digits) ++ 10 ∷ []
after_digits word digits = ap (λ t. t ++ 10 ∷ []) (sym (append_assoc word (32 ∷ []) digits))

pub after_space : (word digits : List ℕ) → hex_line word digits ≡ (word ++ 32 ∷ []) ++ (digits ++ 10 ∷ [])
after_space word digits = after_digits word digits ∙ append_assoc (word ++ 32 ∷ []) digits (10 ∷ [])

pub at_end : (word digits : List ℕ) → hex_line word digits ≡ (((word ++ 32 ∷ []) ++ digits) ++ 10 ∷ []) ++ []
at_end word digits = after_digits word digits ∙ sym (append-nil _)

-- what follows the word and the space
pub behind_space : (word digits rest input behind : List ℕ) → input ≡ hex_line word digits ++ rest → input ≡ word ++ 32 ∷ behind → behind ≡ digits ++ 10 ∷ rest
behind_space word digits rest input behind is cut =
    let same : 32 ∷ behind ≡ 32 ∷ (digits ++ 10 ∷ rest) =
    append_cancel_left word (32 ∷ behind) (32 ∷ (digits ++ 10 ∷ rest))
    (sym cut ∙ is ∙ append_assoc (word ++ 32 ∷ digits) (10 ∷ []) rest ∙ append_assoc word (32 ∷ digits) (10 ∷ rest)) in
    cc

-- the digits are the first so many bytes
pub same_digits : (count : ℕ) (behind digits after digits' rest : List ℕ) → IsSplitAt behind count digits after → length digits' ≡ count → behind ≡ digits' ++ 10 ∷ rest
    → (digits ≡ digits') × (after ≡ 10 ∷ rest)
same_digits count behind digits after digits' rest split len is = (
  split.1 ∙ ap (λ n. take n behind) (sym len) ∙ ap (take (length digits')) is ∙ take-append_seam digits' (10 ∷ rest),
  split.2 ∙ ap (λ n. drop n behind) (sym len) ∙ ap (drop (length digits')) is ∙ drop-append_seam digits' (10 ∷ rest),
)

-- the two parts of a split
pub split_whole : (count : ℕ) (behind digits after : List ℕ) → IsSplitAt behind count digits after → behind ≡ digits ++ after
split_whole count behind digits after split =
    sym (take-append-drop count behind) ∙ ap (λ d. d ++ drop count behind) (sym split.1) ∙ ap (λ a. digits ++ a) (sym split.2)
