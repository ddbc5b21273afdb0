-- What references are made of, and become.
use Rattle.std.specs.Prelude.{ℕ, ◌≡◌, List}
use Rattle.gix_hash.specs.Id.{id_of}
use Rattle.gix_ref_name.specs.Names.{name_of}
use Rattle.gix_ref_name.specs.Namespaces.{outside_of}
use Rattle.gix_ref_name.specs.Targets.{ToObject, target_view}
use Rattle.gix_ref_format.specs.declared.packed.Reference.{Reference as Packed}
use Rattle.gix_ref_store.specs.Stripped.{points_outside}
use Rattle.gix_ref_store.specs.declared.reference.Reference.{Reference}

-- the reference that a packed record holds
abbrev pub IsOfRecord : Packed → Reference → Type 0
IsOfRecord held r =
    (r.name ≡ name_of held.name) × (target_view r.target ≡ ToObject (id_of held.target))
    × (r.peeled ≡ held.object)

-- the same without a namespace's front in its name and target
abbrev pub IsOutside : List ℕ → Reference → Reference → Type 0
IsOutside namespace old new =
    (new.name ≡ outside_of namespace old.name)
    × (target_view new.target ≡ points_outside namespace (target_view old.target))
    × (new.peeled ≡ old.peeled)
