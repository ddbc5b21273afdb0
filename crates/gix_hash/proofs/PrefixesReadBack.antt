-- What was printed of a change id or of a prefix is read back.
use Rattle.std.proofs.Common.{◌≡◌, ℕ, ◌≤◌, List, length, map, Option, Some, Result, Ok, Err, sym, ap, ◌∙◌, arith}
use Rattle.std.specs.Prelude.{◌↔◌, MatchResult, IsOkAnd, IfOk}
use Rattle.std.proofs.lemmas.List.{length-map}
use Rattle.hex.specs.Hex.{hex_digit_value}
use Rattle.gix_hash.specs.declared.kind.Kind.{Kind}
use Rattle.gix_hash.specs.declared.object_id.decode.Error.{Error}
use Rattle.gix_hash.specs.declared.prefix.from_hex.Error as reading
use Rattle.gix_hash.specs.declared.prefix.from_hex.Error.TheVariants.{TooShort, TooLong, Invalid}
use Rattle.gix_hash.specs.Kind.{kind_for_digits}
use Rattle.gix_hash.specs.Id.{Id}
use Rattle.gix_hash.specs.Prefix.{SpellsPrefix, IsTextFault}
use Rattle.gix_hash.specs.Spelling.{hex_character, hex_text}
use Rattle.gix_hash.specs.ReverseSpelling.{reverse_digit_value, IsReverseHexOfId}
use Rattle.gix_hash.specs.Views.{IsFaultOf}
use Rattle.gix_hash.specs.OrderLaws.{same_id}
use Rattle.gix_hash.proofs.LawLemmas.{AreDigits, hex_text-IsHexOf, one_reading, same_values}
use Rattle.gix_hash.proofs.Reading.{refused_whole}
use Rattle.gix_hash.proofs.ReadBack.{all_values}

-- a text that spells a change id is read as that change id
pub read_change_id : (text : List ℕ) (a : Id) (r : Result Id Error) → IsReverseHexOfId text a
    → MatchResult r (IsReverseHexOfId text) (IsFaultOf reverse_digit_value text) → IsOkAnd r (λ id. id ≡ a)
read_change_id text a (Ok id) h m = one_reading id a (sym m.whole ∙ h.whole) (sym m.spelled ∙ h.spelled)
read_change_id text a (Err e) h m = absurd (all_values reverse_digit_value text a.digits h.spelled (refused_whole reverse_digit_value text a.kind e h.whole m))

-- a printed prefix of 1 to 64 digits
module _ (p : Id) (text : List ℕ) (some : 1 ≤ length p.digits) (fits : length p.digits ≤ 64) (digits : AreDigits p.digits) (is : text ≡ hex_text p.digits) where
  printed_length : length text ≡ length p.digits
  printed_length = ap (λ (t : List ℕ). length t) is ∙ length-map p.digits hex_character

  printed_values : map hex_digit_value text ≡ map (λ (d : ℕ). Some d) p.digits
  printed_values = ap (λ (t : List ℕ). map hex_digit_value t) is ∙ hex_text-IsHexOf p.digits digits

  not_refused : (e : reading.Error) → IsTextFault hex_digit_value 1 text e → ⊥
  not_refused (TooShort n) h = let len = printed_length in let least = h.1 in omega arith
  not_refused (TooLong n) h = let len = printed_length in let most = h.1 in omega arith
  not_refused Invalid h = all_values hex_digit_value text p.digits printed_values h.2

  -- is read with its digits
  pub read_digits : (r : Result Id reading.Error) → MatchResult r (SpellsPrefix hex_digit_value 1 text) (IsTextFault hex_digit_value 1 text)
      → IsOkAnd r (λ read. read.digits ≡ p.digits)
  read_digits (Ok read) h = same_values read.digits p.digits (sym h.spelled ∙ printed_values)
  read_digits (Err e) h = absurd (not_refused e h)

  -- in the kind of as many
  pub read_kind : (r : Result Id reading.Error) → MatchResult r (SpellsPrefix hex_digit_value 1 text) (IsTextFault hex_digit_value 1 text)
      → IfOk r (λ read. kind_for_digits (length p.digits) ≡ Some read.kind)
  read_kind (Ok read) h = sym (ap kind_for_digits printed_length) ∙ h.kind
  read_kind (Err e) h = tt

  -- as itself exactly if that is its kind
  pub read_itself : (r : Result Id reading.Error) → MatchResult r (SpellsPrefix hex_digit_value 1 text) (IsTextFault hex_digit_value 1 text)
      → IfOk r (λ read. (read ≡ p) ↔ (kind_for_digits (length p.digits) ≡ Some p.kind))
  read_itself (Ok read) h =
      let kind : kind_for_digits (length p.digits) ≡ Some read.kind = sym (ap kind_for_digits printed_length) ∙ h.kind in (
        λ e. kind ∙ ap (λ (i : Id). Some i.kind) e,
        λ k.
            let same : ◌≡◌ {A = Option Kind} (Some read.kind) (Some p.kind) = sym kind ∙ k in
            let kinds : read.kind ≡ p.kind = cc in
            same_id read p kinds (same_values read.digits p.digits (sym h.spelled ∙ printed_values)),
      )
  read_itself (Err e) h = tt
