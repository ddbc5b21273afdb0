-- Where bytes are cut at the first byte of a value.
use Rattle.std.proofs.Common.{◌≡◌, ◌∙◌, ap, refl, sym, ℕ, suc, ◌+◌, ◌<◌, Bool, true, false, ◌||◌, List, [], ◌∷◌, ◌++◌, length, take, drop, length-take-le, arith}
use Rattle.std.specs.Prelude.{◌==◌, slice_index}
use Rattle.std.specs.List.{list_any}
use Rattle.std.proofs.Math.Seq.{drop-cons}
use Rattle.std.proofs.lemmas.Bool.{ne_eqb, eqb-false, or_parts}
use Rattle.std.proofs.lemmas.List.{take-append-drop, get_or-take}
use Rattle.gix_object_lines.specs.Bytes.{Lacks}

-- if the byte is at no place, the text lacks it
pub lacks_from : (byte : ℕ) (text : List ℕ) → ((k : ℕ) → k < length text → slice_index text k ≡ byte → ⊥) → Lacks byte text
lacks_from byte [] nowhere = refl
lacks_from byte (x ∷ text) nowhere =
    ap (λ b. b || list_any (λ other. other == byte) text) (ne_eqb x byte (nowhere 0 (omega arith)))
    ∙ lacks_from byte text (λ k below. nowhere (suc k) (omega arith))

-- what is before and after a place
pub cut_at : (byte : ℕ) (text : List ℕ) (at : ℕ) → at < length text → slice_index text at ≡ byte → text ≡ take at text ++ byte ∷ drop (at + 1) text
cut_at byte text at below is =
    let next : suc at ≡ at + 1 = omega arith in
    sym (take-append-drop at text)
    ∙ ap (λ rest. take at text ++ rest) (drop-cons text at 0 below ∙ ap (λ b. b ∷ drop (suc at) text) is ∙ ap (λ n. byte ∷ drop n text) next)

-- no earlier place has it
pub lacks_before : (byte : ℕ) (text : List ℕ) (at : ℕ) → at < length text → ((k : ℕ) → k < at → slice_index text k ≡ byte → ⊥) → Lacks byte (take at text)
lacks_before byte text at below nowhere =
    lacks_from byte (take at text) (λ k within is.
    let len = length-take-le at text (omega arith) in
    let before : k < at = omega arith in
    nowhere k before (sym (get_or-take at text k 0 before) ∙ is))

pub lacks_head : (byte x : ℕ) (text : List ℕ) → Lacks byte (x ∷ text) → x ≡ byte → ⊥
lacks_head byte x text lacks = eqb-false x byte (or_parts _ _ lacks).0

pub lacks_tail : (byte x : ℕ) (text : List ℕ) → Lacks byte (x ∷ text) → Lacks byte text
lacks_tail byte x text lacks = (or_parts _ _ lacks).1

-- there is one first place
pub cut_once : (byte : ℕ) (front rest front' rest' : List ℕ) → Lacks byte front → Lacks byte front' → front ++ byte ∷ rest ≡ front' ++ byte ∷ rest' → (front ≡ front') × (rest ≡ rest')
cut_once byte [] rest [] rest' l l' e = (refl, cc)
cut_once byte [] rest (x ∷ front') rest' l l' e = let same : x ≡ byte = cc in absurd (lacks_head byte x front' l' same)
cut_once byte (x ∷ front) rest [] rest' l l' e = let same : x ≡ byte = cc in absurd (lacks_head byte x front l same)
cut_once byte (x ∷ front) rest (y ∷ front') rest' l l' e =
    let heads : x ≡ y = cc in
    let tails : front ++ byte ∷ rest ≡ front' ++ byte ∷ rest' = cc in
    let later = cut_once byte front rest front' rest' (lacks_tail byte x front l) (lacks_tail byte y front' l') tails in
    (ap (λ b. b ∷ front) heads ∙ ap (λ t. y ∷ t) later.0, later.1)

-- a text with the byte doesn't lack it
pub lacks_not : (byte : ℕ) (front rest : List ℕ) → Lacks byte (front ++ byte ∷ rest) → ⊥
lacks_not byte [] rest l = lacks_head byte byte rest l refl
lacks_not byte (x ∷ front) rest l = lacks_not byte front rest (lacks_tail byte x (front ++ byte ∷ rest) l)
