-- Texts line by line.
use Rattle.std.proofs.Common.{◌≡◌, ◌≢◌, ◌∙◌, ap, refl, sym, ℕ, ◌+◌, false, cond, List, [], ◌∷◌, ◌++◌, length, take, drop, rules}
use Rattle.std.specs.Prelude.{◌==◌}
use Rattle.std.specs.List.{onto_first}
use Rattle.std.proofs.lemmas.Bool.{ne_eqb}
use Rattle.gix_object_lines.specs.Bytes.{Lacks}
use Rattle.gix_object_lines.proofs.Cuts.{lacks_head, lacks_tail}
use Rattle.gix_ref_format.specs.Lines.{lines}

-- a byte that isn't a line feed is put before the first line
other_first : (byte : ℕ) (rest : List ℕ) → (byte == 10) ≡ false → lines (byte ∷ rest) ≡ onto_first byte (lines rest)
other_first byte rest e = ap (λ t. cond t ((10 ∷ []) ∷ lines rest) (onto_first byte (lines rest))) e

pub lines_cut : (line rest : List ℕ) → Lacks 10 line → lines (line ++ 10 ∷ rest) ≡ (line ++ 10 ∷ []) ∷ lines rest
lines_cut [] rest lacks = refl
lines_cut (byte ∷ line) rest lacks =
    other_first byte (line ++ 10 ∷ rest) (ne_eqb byte 10 (lacks_head 10 byte line lacks))
    ∙ ap (onto_first byte) (lines_cut line rest (lacks_tail 10 byte line lacks))

pub lines_last : (byte : ℕ) (line : List ℕ) → Lacks 10 (byte ∷ line) → lines (byte ∷ line) ≡ (byte ∷ line) ∷ []
lines_last byte [] lacks = other_first byte [] (ne_eqb byte 10 (lacks_head 10 byte [] lacks))
lines_last byte (next ∷ line) lacks =
    other_first byte (next ∷ line) (ne_eqb byte 10 (lacks_head 10 byte (next ∷ line) lacks))
    ∙ ap (onto_first byte) (lines_last next line (lacks_tail 10 byte (next ∷ line) lacks))

pub lines_rest : (text : List ℕ) → Lacks 10 text → text ≢ [] → lines text ≡ text ∷ []
lines_rest [] lacks some = absurd (some refl)
lines_rest (byte ∷ line) lacks some = lines_last byte line lacks

cut_front : (line rest : List ℕ) → take (length line + 1) (line ++ 10 ∷ rest) ≡ line ++ 10 ∷ []
cut_front [] rest = refl
cut_front (byte ∷ line) rest = search (rules, cut_front line rest)

cut_back : (line rest : List ℕ) → drop (length line + 1) (line ++ 10 ∷ rest) ≡ rest
cut_back [] rest = refl
cut_back (byte ∷ line) rest = search (rules, cut_back line rest)

pub lines_split : (text line rest first after : List ℕ) → text ≡ line ++ 10 ∷ rest → Lacks 10 line → first ≡ take (length line + 1) text → after ≡ drop (length line + 1) text
    → lines text ≡ first ∷ lines after
lines_split text line rest first after is lacks front back =
    ap lines is ∙ lines_cut line rest lacks
    ∙ ap (λ t. t ∷ lines rest) (sym (front ∙ ap (take (length line + 1)) is ∙ cut_front line rest))
    ∙ ap (λ t. first ∷ lines t) (sym (back ∙ ap (drop (length line + 1)) is ∙ cut_back line rest))
