-- The folders of objects and names, below which their files are.
use Rattle.std.proofs.Common.{◌≡◌, ◌⊎◌, inl, inr, refl, sym, ◌∙◌, ap, ℕ, zero, suc, ◌<◌, ◌≤◌, Bool, true, false, ◌&&◌, ◌||◌, List, [], ◌∷◌, ◌++◌, take, drop, length, arith}
use Rattle.std.specs.Prelude.{◌==◌, nat_lt, codes}
use Rattle.std.specs.List.{list_all}
use Rattle.std.proofs.lemmas.Bool.Decides.{Decides-eqb}
use borrow.Author.Tests.{ltb-true}
use Rattle.history_model.specs.Bytes.{Bytes, has_byte}
use Rattle.history_model.specs.Objects.{hex}
use Rattle.history_model.specs.Forms.{is_id}
use Rattle.history_model.proofs.IdLemmas.{has_kind, id_digits, length-hex}
use Rattle.gix_hash.specs.Id.{Id}
use Rattle.gix_hash.specs.Kind.{hex_len}
use Rattle.gix_hash.specs.Spelling.{hex_character, hex_text}
use Rattle.gix_hash.specs.declared.kind.Kind.{Kind}
use Rattle.gix_hash.specs.declared.kind.Kind.TheVariants.{Sha1, Sha256}
use Rattle.history_model.specs.Places.{is_lower_hex, is_object_folder}
use Rattle.gix_ref_way.specs.Ways.{IsAbove}
use Rattle.std.proofs.lemmas.Bool.{and_parts}
use Rattle.history_texts.proofs.FirstParts.{Behind, behind, none_above}

-- ---- objects
lower_digit : (d : ℕ) → d < 16 → is_lower_hex (hex_character d) ≡ true
lower_digit zero below = refl
lower_digit (suc zero) below = refl
lower_digit (suc (suc zero)) below = refl
lower_digit (suc (suc (suc zero))) below = refl
lower_digit (suc (suc (suc (suc zero)))) below = refl
lower_digit (suc (suc (suc (suc (suc zero))))) below = refl
lower_digit (suc (suc (suc (suc (suc (suc zero)))))) below = refl
lower_digit (suc (suc (suc (suc (suc (suc (suc zero))))))) below = refl
lower_digit (suc (suc (suc (suc (suc (suc (suc (suc zero)))))))) below = refl
lower_digit (suc (suc (suc (suc (suc (suc (suc (suc (suc zero))))))))) below = refl
lower_digit (suc (suc (suc (suc (suc (suc (suc (suc (suc (suc zero)))))))))) below = refl
lower_digit (suc (suc (suc (suc (suc (suc (suc (suc (suc (suc (suc zero))))))))))) below = refl
lower_digit (suc (suc (suc (suc (suc (suc (suc (suc (suc (suc (suc (suc zero)))))))))))) below = refl
lower_digit (suc (suc (suc (suc (suc (suc (suc (suc (suc (suc (suc (suc (suc zero))))))))))))) below = refl
lower_digit (suc (suc (suc (suc (suc (suc (suc (suc (suc (suc (suc (suc (suc (suc zero)))))))))))))) below = refl
lower_digit (suc (suc (suc (suc (suc (suc (suc (suc (suc (suc (suc (suc (suc (suc (suc zero))))))))))))))) below = refl
lower_digit (suc (suc (suc (suc (suc (suc (suc (suc (suc (suc (suc (suc (suc (suc (suc (suc d)))))))))))))))) below = absurd (omega (arith, below))

digits_lower : (digits : List ℕ) → list_all (λ d. nat_lt d 16) digits ≡ true → list_all is_lower_hex (hex_text digits) ≡ true
digits_lower [] low = refl
digits_lower (d ∷ digits) low =
    let parts = and_parts (nat_lt d 16) (list_all (λ d. nat_lt d 16) digits) low in
    (λ i. lower_digit d (ltb-true _ _ parts.0) i && digits_lower digits parts.1 i)

pub hex_lower : (kind : Kind) (id : Id) → is_id kind id ≡ true → list_all is_lower_hex (hex id) ≡ true
hex_lower kind id is = digits_lower id.digits (id_digits kind id is)

pub no_slash_lower : (h : Bytes) → list_all is_lower_hex h ≡ true → has_byte 47 h ≡ false
no_slash_lower [] lower = refl
no_slash_lower (a ∷ h) lower =
    let parts = and_parts (is_lower_hex a) (list_all is_lower_hex h) lower in
    (λ i. no_slash a parts.0 i || no_slash_lower h parts.1 i)
  where
    no_slash : (a : ℕ) → is_lower_hex a ≡ true → (a == 47) ≡ false
    no_slash a lower = by_test (a == 47) refl
      where
        by_test : (b : Bool) → (a == 47) ≡ b → (a == 47) ≡ false
        by_test true slash = let wrong : false ≡ true = ap is_lower_hex (sym ((Decides-eqb a 47).0 slash)) ∙ lower in absurd (cc wrong)
        by_test false other = other

pub two_digits : (kind : Kind) (id : Id) → is_id kind id ≡ true → 2 ≤ length (hex id)
two_digits kind id is = at_least kind (length-hex id ∙ (has_kind kind id is).whole)
  where
    at_least : (kind : Kind) → length (hex id) ≡ hex_len kind → 2 ≤ length (hex id)
    at_least Sha1 long = omega (arith, long)
    at_least Sha256 long = omega (arith, long)

pub object_above : (h place : Bytes) → 2 ≤ length h → list_all is_lower_hex h ≡ true → IsAbove place (codes "objects/" ++ take 2 h ++ 47 ∷ drop 2 h) → is_object_folder place ≡ true
object_above [] place long lower above = absurd (omega (arith, long))
object_above (a ∷ []) place long lower above = absurd (omega (arith, long))
object_above (a ∷ b ∷ h) place long lower (rest, is) = from_first (behind (codes "objects") (a ∷ b ∷ 47 ∷ h) place rest refl is)
  where
    rest_lower : list_all is_lower_hex h ≡ true
    rest_lower = (and_parts (is_lower_hex b) (list_all is_lower_hex h) (and_parts (is_lower_hex a) (list_all is_lower_hex (b ∷ h)) lower).1).1

    two_lower : list_all is_lower_hex (a ∷ b ∷ []) ≡ true
    two_lower = (λ i. (and_parts (is_lower_hex a) (list_all is_lower_hex (b ∷ h)) lower).0 i && ((and_parts (is_lower_hex b) (list_all is_lower_hex h) (and_parts (is_lower_hex a) (list_all is_lower_hex (b ∷ h)) lower).1).0 i && true))

    from_second : (inner : Bytes) → Behind (a ∷ b ∷ []) h inner rest → is_object_folder (codes "objects/" ++ inner) ≡ true
    from_second inner (inl same) = ap (λ p. is_object_folder (codes "objects/" ++ p)) same ∙ two_lower
    from_second inner (inr (deeper, same, left)) = absurd (none_above h deeper rest (no_slash_lower h rest_lower) left)

    from_first : Behind (codes "objects") (a ∷ b ∷ 47 ∷ h) place rest → is_object_folder place ≡ true
    from_first (inl same) = ap is_object_folder same
    from_first (inr (inner, same, left)) = ap is_object_folder same ∙ from_second inner (behind (a ∷ b ∷ []) h inner rest (no_slash_lower (a ∷ b ∷ []) two_lower) left)
