-- What a target is outside of a namespace.
use Rattle.std.specs.Prelude.{ℕ, List}
use Rattle.gix_ref_name.specs.Namespaces.{outside_of}
use Rattle.gix_ref_name.specs.Targets.{Points, ToObject, ToName}

abbrev pub points_outside : List ℕ → Points → Points
points_outside namespace (ToObject id) = ToObject id
points_outside namespace (ToName name) = ToName (outside_of namespace name)
