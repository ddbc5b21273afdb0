-- The test of ids distinguishes different ones.
use Rattle.std.proofs.Common.{◌≡◌, sym, ◌∙◌, ap, true}
use Rattle.gix_hash.specs.declared.object_id.ObjectId.{ObjectId}
use Rattle.gix_hash.specs.Id.{id_of}
use Rattle.gix_hash.specs.Packed.{object_id_of, object_id_of-id_of}
use Rattle.gix_hash.specs.OrderLaws.{id_eq-same, id_eq-itself}
use Rattle.gix_traverse_graph.specs.Numbered.{same_id}
use Rattle.gix_traverse_graph.proofs.Slow.{TellsApart}

pub same_from_test : (x y : ObjectId) → same_id x y ≡ true → x ≡ y
same_from_test x y e =
    let same : id_of x ≡ id_of y = id_eq-same (id_of x) (id_of y) e in
    sym (object_id_of-id_of x) ∙ ap object_id_of same ∙ object_id_of-id_of y

pub same_id_apart : TellsApart same_id
same_id_apart = record { same = same_from_test; itself = λ x. id_eq-itself (id_of x) }

pub test_from_same : (x y : ObjectId) → x ≡ y → same_id x y ≡ true
test_from_same x y e = ap (same_id x) (sym e) ∙ same_id_apart.itself x
