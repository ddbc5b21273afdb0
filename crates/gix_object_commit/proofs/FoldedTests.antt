-- The test of a value as headers hold it.
use Rattle.std.proofs.Common.{◌≡◌, ◌∙◌, ap, refl, ℕ, true, false, List, [], ◌∷◌, ◌++◌}
use Rattle.std.specs.Prelude.{◌≢◌, ◌&&◌, if◌then◌else◌}
use Rattle.std.proofs.lemmas.Bool.{ne_eqb}
use Rattle.gix_object_lines.specs.Bytes.{Lacks}
use Rattle.gix_object_lines.proofs.Cuts.{lacks_head, lacks_tail}
use Rattle.gix_object_commit.specs.Writing.{is_folded, begins_with_space}

pub plain_byte : (byte : ℕ) (rest : List ℕ) → (byte ≡ 10 → ⊥) → is_folded (byte ∷ rest) ≡ is_folded rest
plain_byte byte rest differs = ap (λ t. (if t then begins_with_space rest else true) && is_folded rest) (ne_eqb byte 10 differs)

-- what is in one line says nothing
pub folded_behind : (line after : List ℕ) → Lacks 10 line → is_folded (line ++ 10 ∷ after) ≡ (begins_with_space after && is_folded after)
folded_behind [] after lacks = refl
folded_behind (byte ∷ line) after lacks = plain_byte byte (line ++ 10 ∷ after) (lacks_head 10 byte line lacks) ∙ folded_behind line after (lacks_tail 10 byte line lacks)

pub folded_line : (line : List ℕ) → Lacks 10 line → is_folded line ≡ true
folded_line [] lacks = refl
folded_line (byte ∷ line) lacks = plain_byte byte line (lacks_head 10 byte line lacks) ∙ folded_line line (lacks_tail 10 byte line lacks)

pub spaced_further : (after further : List ℕ) → after ≡ 32 ∷ further → (begins_with_space after && is_folded after) ≡ is_folded further
spaced_further after further is = ap (λ a. begins_with_space a && is_folded a) is

pub unspaced_not : (after : List ℕ) → ((further : List ℕ) → after ≢ 32 ∷ further) → begins_with_space after ≡ false
unspaced_not [] none = refl
unspaced_not (byte ∷ after) none = ne_eqb byte 32 (λ is. none after (ap (λ b. b ∷ after) is))
