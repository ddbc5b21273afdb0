-- Namespaces (gitnamespaces: `GIT_NAMESPACE=foo/bar` stores references below
-- `refs/namespaces/foo/refs/namespaces/bar/`).
use Rattle.std.specs.Prelude.{ℕ, ◌==◌, List, ◌++◌, codes, if◌then◌else◌}
use Rattle.std.specs.List.{flat_map, slice_split}
use Rattle.gix_object_lines.specs.NameTest.{is_full_name}
use Rattle.gix_ref_name.specs.Fronts.{without_front}

-- what a component of the namespace adds to the front
abbrev pub level : List ℕ → List ℕ
level component = codes "refs/namespaces/" ++ component ++ codes "/"

-- all components, in order
abbrev pub expanded : List ℕ → List ℕ
expanded name = flat_map level (slice_split (λ byte. byte == 47) name)

-- the name without the namespace, if that is a full name
abbrev pub outside_of : List ℕ → List ℕ → List ℕ
outside_of namespace name =
    let rest = without_front namespace name in if is_full_name rest then rest else name
