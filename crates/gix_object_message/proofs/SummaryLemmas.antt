-- A title in one line.
use Rattle.std.proofs.Common.{◌≡◌, ◌≢◌, ◌∙◌, ap, refl, sym, ℕ, ◌<◌, List, [], ◌∷◌, ◌++◌, map, length, append_assoc, append-nil, arith}
use Rattle.std.specs.Prelude.{slice_index}
use Rattle.std.specs.List.{concat, join_with_byte}
use Rattle.gix_object_message.specs.Lines.{lines_of}
use Rattle.gix_object_message.specs.White.{trim_end}
use Rattle.gix_object_message.proofs.BodyLemmas.{concat-lines_of}
use Rattle.gix_object_message.proofs.LineLemmas.{lines_of-nil, lines_of_whole}

abbrev pub joined : List (List ℕ) → List ℕ
joined lines = join_with_byte 32 (map trim_end lines)

joined_more : (line : List ℕ) (lines : List (List ℕ)) → lines ≢ [] → joined (line ∷ lines) ≡ trim_end line ++ 32 ∷ joined lines
joined_more line [] some = absurd (some refl)
joined_more line (next ∷ lines) some = refl

some_line : (text : List ℕ) → 0 < length text → lines_of text ≢ []
some_line text some none =
    let empty : [] ≡ text = ap concat (sym none) ∙ concat-lines_of text in
    omega (arith, ap length empty)

-- a line and a space, where more lines follow
pub step_more : (whole items rest line behind : List ℕ) → items ++ joined (lines_of rest) ≡ whole → lines_of rest ≡ line ∷ lines_of behind → 0 < length behind → ((items ++ trim_end line) ++ 32 ∷ []) ++ joined (lines_of behind) ≡ whole
step_more whole items rest line behind so_far cut some =
    append_assoc (items ++ trim_end line) (32 ∷ []) (joined (lines_of behind))
    ∙ append_assoc items (trim_end line) (32 ∷ joined (lines_of behind))
    ∙ ap (λ x. items ++ x) (sym (ap joined cut ∙ joined_more line (lines_of behind) (some_line behind some)))
    ∙ so_far

-- the last line
pub step_last : (whole items rest line behind : List ℕ) → items ++ joined (lines_of rest) ≡ whole → lines_of rest ≡ line ∷ lines_of behind → behind ≡ [] → (items ++ trim_end line) ++ joined (lines_of behind) ≡ whole
step_last whole items rest line behind so_far cut none =
    let no_lines : lines_of behind ≡ [] = ap lines_of none ∙ lines_of-nil in
    let one : joined (lines_of rest) ≡ trim_end line = ap joined (cut ∙ ap (λ ls. line ∷ ls) no_lines) in
    ap (λ ls. (items ++ trim_end line) ++ joined ls) no_lines
    ∙ append-nil (items ++ trim_end line)
    ∙ ap (λ x. items ++ x) (sym one)
    ∙ so_far

pub joined_all : (whole items rest : List ℕ) → items ++ joined (lines_of rest) ≡ whole → rest ≡ [] → items ≡ whole
joined_all whole items rest so_far none =
    sym (append-nil items) ∙ ap (λ ls. items ++ joined ls) (sym (ap lines_of none ∙ lines_of-nil)) ∙ so_far

-- without a line feed
pub joined_one : (text : List ℕ) → ((k : ℕ) → k < length text → slice_index text k ≡ 10 → ⊥) → trim_end text ≡ text → joined (lines_of text) ≡ text
joined_one [] nowhere bare = ap joined lines_of-nil
joined_one (b ∷ text) nowhere bare = ap joined (lines_of_whole (b ∷ text) (omega arith) nowhere) ∙ bare
