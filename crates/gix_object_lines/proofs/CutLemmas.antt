-- Where bytes are cut at the last byte of a value, and bytes that a text lacks.
use Rattle.std.proofs.Common.{◌≡◌, ◌∙◌, ap, refl, sym, ℕ, ◌+◌, ◌<◌, Bool, true, false, not, ◌||◌, List, [], ◌∷◌, ◌++◌, length, take, drop, length-drop, get_or-drop, arith}
use Rattle.std.specs.Prelude.{◌==◌, slice_index}
use Rattle.std.specs.List.{list_any}
use Rattle.std.proofs.lemmas.Bool.{ne_eqb, not-false}
use Rattle.std.proofs.lemmas.List.Folds.{list_any-append}
use Rattle.gix_object_lines.specs.Bytes.{Lacks}
use Rattle.gix_object_lines.proofs.Cuts.{lacks_from, lacks_head, lacks_tail, lacks_not, cut_at}

-- no later place has it
pub lacks_behind : (byte : ℕ) (text : List ℕ) (at : ℕ) → ((k : ℕ) → at < k → k < length text → slice_index text k ≡ byte → ⊥) → Lacks byte (drop (at + 1) text)
lacks_behind byte text at nowhere =
    lacks_from byte (drop (at + 1) text) (λ k within is.
    nowhere (at + 1 + k) (omega arith) (omega (arith, length-drop (at + 1) text)) (sym (get_or-drop (at + 1) text k 0) ∙ is))

-- a text lacks what both its parts lack
pub lacks_both : (byte : ℕ) (a b : List ℕ) → Lacks byte a → Lacks byte b → Lacks byte (a ++ b)
lacks_both byte a b l k = list_any-append (λ other. other == byte) a b ∙ ap (λ t. t || list_any (λ other. other == byte) b) l ∙ k

pub lacks_cons : (byte x : ℕ) (text : List ℕ) → (x ≡ byte → ⊥) → Lacks byte text → Lacks byte (x ∷ text)
lacks_cons byte x text differs l = ap (λ t. t || list_any (λ other. other == byte) text) (ne_eqb x byte differs) ∙ l

-- there is one last place
pub cut_last_once : (byte : ℕ) (front rest front' rest' : List ℕ) → Lacks byte rest → Lacks byte rest' → front ++ byte ∷ rest ≡ front' ++ byte ∷ rest' → (front ≡ front') × (rest ≡ rest')
cut_last_once byte [] rest [] rest' l l' e = (refl, cc)
cut_last_once byte [] rest (x ∷ front') rest' l l' e = let tails : rest ≡ front' ++ byte ∷ rest' = cc in absurd (lacks_not byte front' rest' (ap (list_any (λ other. other == byte)) (sym tails) ∙ l))
cut_last_once byte (x ∷ front) rest [] rest' l l' e = let tails : front ++ byte ∷ rest ≡ rest' = cc in absurd (lacks_not byte front rest (ap (list_any (λ other. other == byte)) tails ∙ l'))
cut_last_once byte (x ∷ front) rest (y ∷ front') rest' l l' e =
    let heads : x ≡ y = cc in
    let tails : front ++ byte ∷ rest ≡ front' ++ byte ∷ rest' = cc in
    let later = cut_last_once byte front rest front' rest' l l' tails in
    (ap (λ b. b ∷ front) heads ∙ ap (λ t. y ∷ t) later.0, later.1)

-- if the byte is there, the text doesn't lack it
pub lacks_at : (byte : ℕ) (text : List ℕ) (at : ℕ) → at < length text → Lacks byte text → slice_index text at ≡ byte → ⊥
lacks_at byte text at below l is = lacks_not byte (take at text) (drop (at + 1) text) (ap (list_any (λ other. other == byte)) (sym (cut_at byte text at below is)) ∙ l)

pub lacks_it : (byte : ℕ) (text front rest : List ℕ) → text ≡ front ++ byte ∷ rest → Lacks byte text → ⊥
lacks_it byte text front rest is l = lacks_not byte front rest (ap (list_any (λ other. other == byte)) (sym is) ∙ l)

-- ---- tests

pub lacks_front : (byte : ℕ) (a b : List ℕ) → Lacks byte (a ++ b) → Lacks byte a
lacks_front byte [] b l = refl
lacks_front byte (x ∷ a) b l = lacks_cons byte x a (lacks_head byte x (a ++ b) l) (lacks_front byte a b (lacks_tail byte x (a ++ b) l))
