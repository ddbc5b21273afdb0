-- A header has one kind and one size.
use Rattle.std.proofs.Common.{◌≡◌, ◌∙◌, ap, refl, sym, ℕ, ◌+◌, ◌-◌, ◌*◌, ◌<◌, ◌^◌, List, [], ◌∷◌, ◌++◌, length, drop, length-append, append_assoc, arith}
use Rattle.std.specs.Prelude.{decimal, slice_index, Result, Ok}
use Rattle.std.proofs.Math.Seq.{drop-append_seam}
use Rattle.std.proofs.lemmas.Fmt.{decimal_injective}
use Rattle.gix_object_lines.specs.Bytes.{Lacks}
use Rattle.gix_object_lines.specs.Header.{header_text}
use Rattle.gix_object_lines.specs.Kind.{kind_word}
use Rattle.gix_object_lines.specs.declared.kind.Kind.{Kind}
use Rattle.gix_object_lines.specs.declared.kind.Kind.TheVariants.{Tree, Blob, Commit, Tag}
use Rattle.gix_object_lines.proofs.Cuts.{cut_once}
use Rattle.gix_object_lines.proofs.Numbers.{decimal_lacks}

pub word_lacks_space : (kind : Kind) → Lacks 32 (kind_word kind)
word_lacks_space Tree = refl
word_lacks_space Blob = refl
word_lacks_space Commit = refl
word_lacks_space Tag = refl

pub kind_word-injective : (a b : Kind) → kind_word a ≡ kind_word b → a ≡ b
kind_word-injective Tree Tree e = refl
kind_word-injective Blob Blob e = refl
kind_word-injective Commit Commit e = refl
kind_word-injective Tag Tag e = refl
kind_word-injective _ _ e = let differs = ap (λ word. slice_index word 0 + 1000 * length word) e in absurd (omega (arith, differs))

-- a header's text before a content, cut at its space and its zero byte
pub header_cut : (word digits content : List ℕ) → (word ++ 32 ∷ digits ++ 0 ∷ []) ++ content ≡ word ++ 32 ∷ (digits ++ 0 ∷ content)
header_cut word digits content =
    append_assoc (word ++ 32 ∷ digits) (0 ∷ []) content ∙ append_assoc word (32 ∷ digits) (0 ∷ content)

-- how much comes before a content
pub length_before : (front content : List ℕ) → length (front ++ content) - length content ≡ length front
length_before front content = omega (arith, length-append front content)

pub content_behind : (front content : List ℕ) → drop (length (front ++ content) - length content) (front ++ content) ≡ content
content_behind front content = ap (λ n. drop n (front ++ content)) (length_before front content) ∙ drop-append_seam front content

pub first_cut : (kind : Kind) (size : ℕ) (content input word rest : List ℕ) → input ≡ header_text kind size ++ content → input ≡ word ++ 32 ∷ rest → Lacks 32 word
    → (word ≡ kind_word kind) × (rest ≡ decimal size ++ 0 ∷ content)
first_cut kind size content input word rest is cut lacks =
    cut_once 32 word rest (kind_word kind) (decimal size ++ 0 ∷ content) lacks (word_lacks_space kind)
    (sym cut ∙ is ∙ header_cut (kind_word kind) (decimal size) content)

pub second_cut : (size : ℕ) (content rest digits behind : List ℕ) → size < 2 ^ 64 → rest ≡ decimal size ++ 0 ∷ content → rest ≡ digits ++ 0 ∷ behind → Lacks 0 digits
    → (digits ≡ decimal size) × (behind ≡ content)
second_cut size content rest digits behind fits is cut lacks =
    cut_once 0 digits behind (decimal size) content lacks (decimal_lacks 0 size (omega arith) fits) (sym cut ∙ is)

-- an input that was cut twice begins with a header
pub whole_text : (kind : Kind) (size : ℕ) (input word rest digits content : List ℕ) → input ≡ word ++ 32 ∷ rest → word ≡ kind_word kind → rest ≡ digits ++ 0 ∷ content → digits ≡ decimal size
    → input ≡ header_text kind size ++ content
whole_text kind size input word rest digits content cut word_is later digits_are =
    cut ∙ ap (λ w. w ++ 32 ∷ rest) word_is ∙ ap (λ r. kind_word kind ++ 32 ∷ r) (later ∙ ap (λ d. d ++ 0 ∷ content) digits_are)
    ∙ sym (header_cut (kind_word kind) (decimal size) content)

pub taken : (kind : Kind) (size : ℕ) (input content : List ℕ) → input ≡ header_text kind size ++ content → length input - length content ≡ length (header_text kind size)
taken kind size input content whole = ap (λ i. length i - length content) whole ∙ length_before (header_text kind size) content

pub behind : (kind : Kind) (size : ℕ) (input content : List ℕ) → input ≡ header_text kind size ++ content
    → input ≡ header_text kind size ++ drop (length input - length content) input
behind kind size input content whole =
    let left : drop (length input - length content) input ≡ content = ap (λ i. drop (length i - length content) i) whole ∙ content_behind (header_text kind size) content in
    whole ∙ ap (λ t. header_text kind size ++ t) (sym left)

-- what was read is what is there
pub same_header : {E : Type 0} (kind k : Kind) (size n : ℕ) (input content : List ℕ) → size < 2 ^ 64 → n < 2 ^ 64 → input ≡ header_text kind size ++ content → kind_word k ≡ kind_word kind → decimal n ≡ decimal size
    → ◌≡◌ {A = Result (Kind × ℕ × ℕ) E} (Ok (k, n, length input - length content)) (Ok (kind, size, length (header_text kind size)))
same_header kind k size n input content fits fits' whole words digits =
    let kinds = kind_word-injective k kind words in
    let sizes = decimal_injective n size fits' fits digits in
    let lengths = taken kind size input content whole in
    cc (kinds, sizes, lengths)
