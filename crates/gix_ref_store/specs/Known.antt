-- Names as a store knows them: with their characters composed, if the options say so (git-config,
-- `core.precomposeUnicode`).
use Rattle.std.specs.Prelude.{ℕ, Bool, List, bytes_eq, if◌then◌else◌}
use Rattle.gix_ref_name.specs.Composed.{composed}

abbrev pub known_as : Bool → List ℕ → List ℕ
known_as composes name = if composes then composed name else name

-- the name is as the store knows it
abbrev pub is_known : Bool → List ℕ → Bool
is_known composes name = bytes_eq (known_as composes name) name
