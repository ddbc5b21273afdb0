-- A change id's field against what contracts see of it.
use Rattle.std.specs.Prelude.{◌≡◌}
use Rattle.std.proofs.Common.{ap}
use Rattle.gix_hash.specs.declared.change_id.ChangeId.TheInside.{Inside}
use Rattle.gix_hash.specs.declared.object_id.ObjectId.{ObjectId}
use Rattle.gix_hash.specs.Id.{Id, id_of}
use Rattle.gix_hash.specs.Packed.{object_id_of, object_id_of-id_of}

-- the id that a change id is
abbrev pub change_view : Inside → Id
change_view c = id_of c.0

-- the field of an id
abbrev pub change_inverse : Id → Inside
change_inverse id = record { 0 = object_id_of id }

-- a change id is found by its id
pub change_inverse_ok : (c : Inside) → change_inverse (change_view c) ≡ c
change_inverse_ok c =
    ap (λ (id : ObjectId). let inside : Inside = record { 0 = id } in inside)
    (object_id_of-id_of c.0)
