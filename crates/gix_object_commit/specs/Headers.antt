-- Further headers by name.
use Rattle.std.specs.Prelude.{ℕ, nat_eq, Bool, List, [], ◌∷◌, Option, None, Some, map, filter, if◌then◌else◌}
use Rattle.std.specs.Cmp.Lexicographic.{pointwise}
use Rattle.gix_object_commit.specs.Commit.{Field}

abbrev pub is_named : List ℕ → Field → Bool
is_named name field = pointwise nat_eq field.name name

-- the value of the first header of this name, unchanged
abbrev pub first_value : List ℕ → List Field → Option (List ℕ)
first_value name [] = None
first_value name (field ∷ fields) =
    if is_named name field then Some field.value else first_value name fields

-- the values of all headers of this name, in order, unchanged
abbrev pub values_named : List ℕ → List Field → List (List ℕ)
values_named name fields = map (λ (field : Field). field.value) (filter (is_named name) fields)
