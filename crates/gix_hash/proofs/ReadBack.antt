-- What was printed is read back.
use Rattle.std.proofs.Common.{◌≡◌, ℕ, List, map, Option, Some, None, Result, Ok, Err, sym, ◌∙◌}
use Rattle.std.specs.Prelude.{Any, MatchResult, IsOkAnd}
use Rattle.hex.specs.Hex.{hex_digit_value}
use Rattle.gix_hash.specs.declared.object_id.ObjectId.{ObjectId}
use Rattle.gix_hash.specs.declared.object_id.decode.Error.{Error}
use Rattle.gix_hash.specs.Id.{Id, id_of}
use Rattle.gix_hash.specs.Views.{IsHexOfId, IsFaultOf}
use Rattle.gix_hash.proofs.LawLemmas.{one_reading}
use Rattle.gix_hash.proofs.Reading.{any_through, refused_whole}

-- a text whose characters have values has none without
pub all_values : (value : ℕ → Option ℕ) (text digits : List ℕ) → map value text ≡ map (λ (d : ℕ). Some d) digits → Any (λ c. value c ≡ None) text → ⊥
all_values value text digits e h =
    let found = any_through value (λ (d : ℕ). Some d) text digits e h in
    let bad : Some found.1 ≡ None = found.4 in
    cc

-- a text that spells an id is read as that id
pub read_id : (text : List ℕ) (a : Id) (r : Result ObjectId Error) → IsHexOfId text a
    → MatchResult r (λ id. IsHexOfId text (id_of id)) (IsFaultOf hex_digit_value text) → IsOkAnd r (λ id. id_of id ≡ a)
read_id text a (Ok id) h m = one_reading (id_of id) a (sym m.whole ∙ h.whole) (sym m.spelled ∙ h.spelled)
read_id text a (Err e) h m = absurd (all_values hex_digit_value text a.digits h.spelled (refused_whole hex_digit_value text a.kind e h.whole m))
