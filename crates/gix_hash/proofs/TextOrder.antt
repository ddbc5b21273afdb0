-- The order of texts and of what they spell.
use Rattle.std.proofs.Common.{◌≡◌, ℕ, ◌+◌, ◌-◌, ◌<◌, ◌≤◌, List, [], ◌∷◌, refl, sym, ap, ◌∙◌, arith, inl, inr, ◌⊎◌, nat_cmp}
use Rattle.std.proofs.lemmas.Bool.{cases_lt}
use Rattle.std.specs.declared.cmp.Ordering.TheVariants.{Less, Greater}
use Rattle.gix_hash.specs.Kind.{kind_number}
use Rattle.gix_hash.specs.Id.{Id}
use Rattle.gix_hash.specs.Order.{digits_cmp, id_cmp}
use Rattle.gix_hash.specs.Spelling.{hex_character, hex_text}
use Rattle.gix_hash.proofs.LawLemmas.{AreDigits, none, more}
use Rattle.gix_hash.proofs.LowerCase.{letter, numeral}
use Rattle.gix_hash.proofs.Compared.{cmp_less, cmp_equal, cmp_greater}

-- a digit's character by arithmetic
character_is : (d : ℕ) → d < 16 → ((d < 10) × (hex_character d ≡ d + 48)) ⊎ ((10 ≤ d) × (hex_character d ≡ d + 87))
character_is d low = elim (cases_lt d 10) [
  | inl small ↦ inl (small, numeral d small)
  | inr large ↦
      let back : d - 10 + 10 ≡ d = omega arith in
      let is : hex_character (d - 10 + 10) ≡ d - 10 + 97 = letter (d - 10) (omega arith) in
      let sum : d - 10 + 97 ≡ d + 87 = omega arith in
      inr (large, ap hex_character (sym back) ∙ (is ∙ sum))
]

-- characters ascend as their digits do
character_less : (x y : ℕ) → x < y → y < 16 → hex_character x < hex_character y
character_less x y less low =
    elim (character_is x (omega arith)) [
      | inl a ↦ elim (character_is y low) [
        | inl b ↦ let e = a.1 in let f = b.1 in omega arith
        | inr b ↦ let e = a.1 in let f = b.1 in let g = a.0 in omega arith
      ]
      | inr a ↦ elim (character_is y low) [
        | inl b ↦ let g = a.0 in let f = b.0 in absurd (omega arith)
        | inr b ↦ let e = a.1 in let f = b.1 in omega arith
      ]
    ]

character_cmp : (x y : ℕ) → x < 16 → y < 16 → nat_cmp (hex_character x) (hex_character y) ≡ nat_cmp x y
character_cmp x y lx ly =
    elim (cases_lt x y) [
      | inl less ↦ cmp_less (hex_character x) (hex_character y) (character_less x y less ly) ∙ sym (cmp_less x y less)
      | inr others ↦ elim (cases_lt y x) [
        | inl greater ↦ cmp_greater (hex_character x) (hex_character y) (character_less y x greater lx) ∙ sym (cmp_greater x y greater)
        | inr rest ↦
            let same : x ≡ y = omega arith in
            cmp_equal (hex_character x) (hex_character y) (ap hex_character same) ∙ sym (cmp_equal x y same)
      ]
    ]

-- texts are ordered as their digits
pub text_cmp : (xs ys : List ℕ) → AreDigits xs → AreDigits ys → digits_cmp (hex_text xs) (hex_text ys) ≡ digits_cmp xs ys
text_cmp [] [] none none = refl
text_cmp [] (y ∷ ys) none hy = refl
text_cmp (x ∷ xs) [] hx none = refl
text_cmp (x ∷ xs) (y ∷ ys) (more lx hx) (more ly hy) = rw (character_cmp x y lx ly, text_cmp xs ys hx hy) refl

-- the order of ids where the kinds differ, and where they do not
pub order_less : (a b : Id) → kind_number a.kind < kind_number b.kind → id_cmp a b ≡ Less
order_less a b h = rw (cmp_less (kind_number a.kind) (kind_number b.kind) h) refl

pub order_greater : (a b : Id) → kind_number b.kind < kind_number a.kind → id_cmp a b ≡ Greater
order_greater a b h = rw (cmp_greater (kind_number a.kind) (kind_number b.kind) h) refl

pub order_same : (a b : Id) → a.kind ≡ b.kind → id_cmp a b ≡ digits_cmp a.digits b.digits
order_same a b h = rw (cmp_equal (kind_number a.kind) (kind_number b.kind) (ap kind_number h)) refl

pub order_texts : (a b : Id) → a.kind ≡ b.kind → AreDigits a.digits → AreDigits b.digits → id_cmp a b ≡ digits_cmp (hex_text a.digits) (hex_text b.digits)
order_texts a b h ha hb = order_same a b h ∙ sym (text_cmp a.digits b.digits ha hb)
