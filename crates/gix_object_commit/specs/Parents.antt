-- The ids of a commit's parents, one after another.
use Rattle.std.specs.Prelude.{ℕ, ◌≡◌, List, [], ◌∷◌, drop, map, Option, None, Some}
use Rattle.bstr.specs.BStr.{bstr_bytes}
use Rattle.gix_hash.specs.Id.{id_of}
use Rattle.gix_hash.specs.Views.{IsHexOfId}
use Rattle.gix_hash.specs.declared.object_id.ObjectId.{ObjectId}
use Rattle.gix_object_commit.specs.declared.commit.ids.Parents as ids

-- the digits of the ids that are left
abbrev pub digits_left : ids.Parents → List (List ℕ)
digits_left parents = map bstr_bytes (drop parents.place parents.digits.now)

-- the id of the first digits that are left, and the others are left then; nothing if none are
abbrev pub GivesId : ids.Parents → Option ObjectId → ids.Parents → Type 0
GivesId old None new = (digits_left old ≡ []) × (digits_left new ≡ [])
GivesId old (Some id) new =
    (digits : List ℕ) × (digits_left old ≡ digits ∷ digits_left new) × IsHexOfId digits (id_of id)
