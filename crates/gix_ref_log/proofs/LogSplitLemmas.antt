-- Texts that are split at line feeds, by their first and by their last line.
use Rattle.std.proofs.Common.{◌≡◌, ◌∙◌, ap, refl, sym, inl, inr, ℕ, Bool, true, false, List, [], ◌∷◌, ◌++◌, length, arith}
use Rattle.std.specs.Prelude.{◌==◌, ◌⊎◌, cond, reverse}
use Rattle.std.specs.List.{slice_split, onto_first}
use Rattle.std.proofs.lemmas.Bool.{ne_eqb, eqb-false}
use Rattle.std.proofs.lemmas.Bool.Decides.{Decides-eqb}
use Rattle.std.proofs.lemmas.List.{reverse-append, length-reverse}
use Rattle.std.proofs.lemmas.List.Splits.{slice_split-cons_no}
use Rattle.gix_object_lines.specs.Bytes.{Lacks}
use Rattle.gix_object_lines.proofs.Cuts.{lacks_head, lacks_tail}
use Rattle.gix_object_lines.proofs.CutLemmas.{lacks_cons}
use Rattle.gix_ref_log.specs.LogLine.{is_feed}

-- without a line feed the text is one line
pub split_none : (text : List ℕ) → Lacks 10 text → slice_split is_feed text ≡ text ∷ []
split_none [] l = refl
split_none (x ∷ text) l =
    slice_split-cons_no is_feed x text (ne_eqb x 10 (lacks_head 10 x text l)) ∙ ap (onto_first x) (split_none text (lacks_tail 10 x text l))

-- the first line comes off
pub split_first : (line rest : List ℕ) → Lacks 10 line → slice_split is_feed (line ++ 10 ∷ rest) ≡ line ∷ slice_split is_feed rest
split_first [] rest l = refl
split_first (x ∷ line) rest l =
    slice_split-cons_no is_feed x (line ++ 10 ∷ rest) (ne_eqb x 10 (lacks_head 10 x line l)) ∙ ap (onto_first x) (split_first line rest (lacks_tail 10 x line l))

-- ---- the last line

abbrev pub IsCons : List (List ℕ) → Type 0
IsCons parts = (head : List ℕ) × (tail : List (List ℕ)) × (parts ≡ head ∷ tail)

cons_cond : (b : Bool) (x : ℕ) (parts : List (List ℕ)) → IsCons parts → IsCons (cond b ([] ∷ parts) (onto_first x parts))
cons_cond true x parts is = ([], parts, refl)
cons_cond false x parts is = (x ∷ is.0, is.1, ap (onto_first x) is.2)

pub split_cons : (text : List ℕ) → IsCons (slice_split is_feed text)
split_cons [] = ([], [], refl)
split_cons (x ∷ text) = cons_cond (is_feed x) x (slice_split is_feed text) (split_cons text)

more_cond : (b : Bool) (x : ℕ) (parts parts' more : List (List ℕ)) → parts' ≡ parts ++ more → IsCons parts
    → cond b ([] ∷ parts') (onto_first x parts') ≡ cond b ([] ∷ parts) (onto_first x parts) ++ more
more_cond true x parts parts' more e is = ap (λ s. [] ∷ s) e
more_cond false x parts parts' more e is =
    ap (onto_first x) e ∙ ap (λ s. onto_first x (s ++ more)) is.2 ∙ sym (ap (λ s. onto_first x s ++ more) is.2)

split_more : (text line : List ℕ) → Lacks 10 line → slice_split is_feed (text ++ 10 ∷ line) ≡ slice_split is_feed text ++ line ∷ []
split_more [] line l = ap (λ s. [] ∷ s) (split_none line l)
split_more (x ∷ text) line l = more_cond (is_feed x) x (slice_split is_feed text) (slice_split is_feed (text ++ 10 ∷ line)) (line ∷ []) (split_more text line l) (split_cons text)

pub split_last : (text line : List ℕ) → Lacks 10 line → reverse (slice_split is_feed (text ++ 10 ∷ line)) ≡ line ∷ reverse (slice_split is_feed text)
split_last text line l = ap reverse (split_more text line l) ∙ reverse-append (slice_split is_feed text) (line ∷ [])

pub reverse_some : (text : List ℕ) → reverse (slice_split is_feed text) ≡ [] → ⊥
reverse_some text none =
    let is = split_cons text in
    let a = length-reverse (slice_split is_feed text) in
    let b : length (reverse (slice_split is_feed text)) ≡ 0 = ap (λ (s : List (List ℕ)). length s) none in
    let d : length (slice_split is_feed text) ≡ length (is.0 ∷ is.1) = ap (λ (s : List (List ℕ)). length s) is.2 in
    omega (arith, a, b, d)

-- ---- where the last line feed is

abbrev pub IsCutLast : List ℕ → Type 0
IsCutLast text = (front : List ℕ) × (back : List ℕ) × (text ≡ front ++ 10 ∷ back) × Lacks 10 back

pub last_feed : (text : List ℕ) → Lacks 10 text ⊎ IsCutLast text
last_feed [] = inl refl
last_feed (x ∷ text) = further (last_feed text)
  where
    at_head : (b : Bool) → (x == 10) ≡ b → Lacks 10 text → Lacks 10 (x ∷ text) ⊎ IsCutLast (x ∷ text)
    at_head true e l = inr ([], text, ap (λ y. y ∷ text) ((Decides-eqb x 10).0 e), l)
    at_head false e l = inl (lacks_cons 10 x text (eqb-false x 10 e) l)

    further : Lacks 10 text ⊎ IsCutLast text → Lacks 10 (x ∷ text) ⊎ IsCutLast (x ∷ text)
    further (inl l) = at_head (x == 10) refl l
    further (inr cut) = inr (x ∷ cut.0, cut.1, ap (λ t. x ∷ t) cut.2, cut.3)
