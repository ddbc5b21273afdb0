use Rattle.std.proofs.Common.{◌≡◌, ◌≤◌, ◌∙◌, ap, [], ◌∷◌, ◌++◌, length, take, drop, append_assoc, arith, subst, sym, ℕ, List}
use Rattle.std.specs.Prelude.{codes}
use Rattle.gix_hash.specs.Id.{Id, id_of}
use Rattle.gix_hash.specs.Kind.{byte_len}
use Rattle.gix_hash.specs.Views.{IsBytesOf}
use Rattle.gix_hash.specs.declared.kind.Kind.{Kind}
use Rattle.gix_hash.specs.declared.kind.Kind.TheVariants.{Sha1, Sha256}
use Rattle.gix_hash.proofs.ByteLists.{id-digits_len}
use Rattle.history_model.specs.Bytes.{Bytes}
use Rattle.history_model.specs.Objects.{hex}
use Rattle.history_model.proofs.IdLemmas.{length-hex}
use Rattle.history_texts.proofs.place.object_place.Goals as goal

long_enough : (id : Id) (bytes : List ℕ) → IsBytesOf bytes id → 2 ≤ length (hex id)
long_enough id bytes is = omega (arith, length-hex id, id-digits_len id bytes is, some_bytes id.kind)
  where
    some_bytes : (kind : Kind) → 1 ≤ byte_len kind
    some_bytes Sha1 = omega arith
    some_bytes Sha256 = omega arith

pub split_at-requires : goal.split_at-requires
split_at-requires c = subst (λ digits. 2 ≤ length digits) (sym c.hex_digits.ensures) (long_enough (id_of c.args.id.now) _ c.as_bytes-bytes.ensures)

joined : (front first rest hex a b d e : Bytes) → a ≡ front → b ≡ a ++ first → d ≡ b ++ 47 ∷ [] → e ≡ d ++ rest → rest ≡ drop 2 hex → first ≡ take 2 hex
    → e ≡ front ++ take 2 hex ++ 47 ∷ drop 2 hex
joined front first rest hex a b d e is_a is_b is_d is_e is_rest is_first =
    is_e ∙ (λ i. is_d i ++ is_rest i) ∙ (λ i. (is_b i ++ 47 ∷ []) ++ drop 2 hex) ∙ (λ i. ((is_a i ++ is_first i) ++ 47 ∷ []) ++ drop 2 hex)
    ∙ append_assoc (front ++ take 2 hex) (47 ∷ []) (drop 2 hex)

pub returns : goal.returns
returns c =
    joined (codes "objects/") _ _ (hex (id_of c.args.id.now)) c.extend_from_slice.new.self.items c.extend_from_slice-2.new.self.items c.push.new.self.items _
    (c.in_ok-extend_from_slice.ensures.items ∙ ap (λ items. items ++ codes "objects/") c.in_ok-place.ensures.items)
    c.in_ok-extend_from_slice-2.ensures.items c.in_ok-push.ensures.items c.in_ok-extend_from_slice-3.ensures.items
    (c.split_at.ensures.back ∙ ap (drop 2) c.hex_digits.ensures) (c.split_at.ensures.front ∙ ap (take 2) c.hex_digits.ensures)
