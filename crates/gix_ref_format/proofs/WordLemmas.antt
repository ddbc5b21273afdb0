-- What follows the first slash, and words that are completed.
use Rattle.std.proofs.Common.{◌≡◌, ◌∙◌, ap, refl, sym, ℕ, Bool, false, cond, List, [], ◌∷◌, ◌++◌, Some, None}
use Rattle.std.specs.Prelude.{◌==◌}
use Rattle.std.proofs.lemmas.Bool.{ne_eqb}
use Rattle.gix_object_lines.specs.Bytes.{Lacks}
use Rattle.gix_object_lines.proofs.Cuts.{lacks_head, lacks_tail}
use Rattle.gix_ref_format.specs.Lookup.{behind_slash, is_complete, word_names, lookup_names}

other_byte : (byte : ℕ) (rest : List ℕ) → (byte == 47) ≡ false → behind_slash (byte ∷ rest) ≡ behind_slash rest
other_byte byte rest e = ap (λ t. cond t (Some rest) (behind_slash rest)) e

pub no_slash : (text : List ℕ) → Lacks 47 text → behind_slash text ≡ None
no_slash [] lacks = refl
no_slash (byte ∷ rest) lacks = other_byte byte rest (ne_eqb byte 47 (lacks_head 47 byte rest lacks)) ∙ no_slash rest (lacks_tail 47 byte rest lacks)

slash_here : (front rest : List ℕ) → Lacks 47 front → behind_slash (front ++ 47 ∷ rest) ≡ Some rest
slash_here [] rest lacks = refl
slash_here (byte ∷ front) rest lacks =
    other_byte byte (front ++ 47 ∷ rest) (ne_eqb byte 47 (lacks_head 47 byte front lacks)) ∙ slash_here front rest (lacks_tail 47 byte front lacks)

pub slash_at : (text front rest : List ℕ) → text ≡ front ++ 47 ∷ rest → Lacks 47 front → behind_slash text ≡ Some rest
slash_at text front rest is lacks = ap behind_slash is ∙ slash_here front rest lacks

-- a word that isn't complete is completed
pub completed : (text word : List ℕ) → text ≡ word → is_complete text ≡ false → word_names text ≡ lookup_names word
completed text word same short = sym (ap (λ (t : Bool). cond t (text ∷ []) (word_names text)) short) ∙ ap lookup_names same
