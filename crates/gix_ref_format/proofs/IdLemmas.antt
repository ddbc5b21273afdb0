-- Texts that spell ids.
use Rattle.std.proofs.Common.{◌≡◌, ℕ, Bool, true, false, cond, List, [], ◌∷◌, map, length, refl, sym, ◌∙◌, ap, subst, arith, tests, Option, Some, None, option_map, is_some, unwrap_or, ◌==◌}
use Rattle.std.specs.List.{list_all}
use Rattle.hex.specs.Hex.{hex_digit_value}
use Rattle.gix_hash.specs.declared.kind.Kind.{Kind}
use Rattle.gix_hash.specs.Kind.{hex_len}
use Rattle.gix_hash.specs.Id.{Id}
use Rattle.gix_hash.specs.Spelling.{IsHexOf}
use Rattle.gix_hash.specs.OrderLaws.{same_id}
use Rattle.gix_ref_format.specs.Ids.{id_from_hex}
use Rattle.std.proofs.lemmas.Bool.{and_parts, eqb-true}
use Rattle.std.proofs.lemmas.Option.{same_Some}

pub same_number : (a b : ℕ) → a ≡ b → (a == b) ≡ true
same_number a b h = grind (arith, tests)

none_is_some : {X A : Type 0} (x : X) → None ≡ Some x → A
none_is_some x e = cc

-- what is read of a text
abbrev read_all : List ℕ → List ℕ
read_all text = map (λ c. unwrap_or (hex_digit_value c) 0) text

abbrev all_read : List ℕ → Bool
all_read text = list_all (λ c. is_some (hex_digit_value c)) text

spelled_all : (text digits : List ℕ) → IsHexOf text digits → (all_read text ≡ true) × (read_all text ≡ digits)
spelled_all [] [] e = (refl, refl)
spelled_all [] (d ∷ digits) e = cc
spelled_all (c ∷ text) [] e = cc
spelled_all (c ∷ text) (d ∷ digits) e =
    let first : hex_digit_value c ≡ Some d = cc in
    let others : map hex_digit_value text ≡ map (λ (d : ℕ). Some d) digits = cc in
    let rest = spelled_all text digits others in
    (rw first rest.0, rw (first, rest.1) refl)

all_spelled : (text : List ℕ) → all_read text ≡ true → IsHexOf text (read_all text)
all_spelled [] h = refl
all_spelled (c ∷ text) h =
    let parts = and_parts (is_some (hex_digit_value c)) (all_read text) h in
    rw (some_read (hex_digit_value c) parts.0, all_spelled text parts.1) refl
  where
    some_read : (o : Option ℕ) → is_some o ≡ true → o ≡ Some (unwrap_or o 0)
    some_read None h = cc
    some_read (Some d) h = refl

module _ (kind : Kind) (text : List ℕ) where
  -- an id of the kind with these digits
  abbrev of_digits : List ℕ → Id
  of_digits digits = record { kind = kind; digits = digits }

  -- what is read, by whether the length fits and all characters are digits
  abbrev read_if : Bool → Bool → Option Id
  read_if whole all = cond whole (option_map of_digits (cond all (Some (read_all text)) None)) None

  read_parts : (whole all : Bool) (id : Id) → read_if whole all ≡ Some id → (whole ≡ true) × (all ≡ true) × (of_digits (read_all text) ≡ id)
  read_parts true true id e = (refl, refl, same_Some (of_digits (read_all text)) id e)
  read_parts true false id e = none_is_some id e
  read_parts false all id e = none_is_some id e

  -- exactly a text of the kind's length that spells an id of that kind in hexadecimal is read as it
  pub id_from_hex-reads : (id : Id) → length text ≡ hex_len kind → IsHexOf text id.digits → id.kind ≡ kind → id_from_hex kind text ≡ Some id
  id_from_hex-reads id whole spelled of_kind =
      let read = spelled_all text id.digits spelled in
      ap (λ t. read_if t (all_read text)) (same_number (length text) (hex_len kind) whole)
      ∙ ap (λ t. read_if true t) read.0
      ∙ ap Some (same_id (of_digits (read_all text)) id (sym of_kind) read.1)

  pub id_from_hex-tells : (id : Id) → id_from_hex kind text ≡ Some id → (length text ≡ hex_len kind) × IsHexOf text id.digits × (id.kind ≡ kind)
  id_from_hex-tells id e =
      let parts = read_parts (length text == hex_len kind) (all_read text) id e in
      let same = parts.2 in (
        eqb-true (length text) (hex_len kind) parts.0,
        subst (λ (i : Id). IsHexOf text i.digits) same (all_spelled text parts.1),
        sym (ap (λ (i : Id). i.kind) same),
      )
