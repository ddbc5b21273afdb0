-- What listings return: each of the wanted names that exists or can't be read, once, ascending by
-- bytes.
use Rattle.std.specs.Prelude.{ℕ, ◌≡◌, ◌≢◌, ◌↔◌, Bool, ◌&&◌, ◌||◌, List, [], map, codes, bytes_eq, IsTrue}
use Rattle.std.specs.List.{Contains}
use Rattle.gix_object_lines.specs.NameTest.{begins, ends, is_capitals}
use Rattle.gix_ref_file.specs.Tree.{IsAscending}
use Rattle.gix_ref_store.specs.Folders.{is_below}
use Rattle.gix_ref_store.specs.Known.{known_as, is_known}
use Rattle.gix_ref_store.specs.RefStates.{RefState, Absent, Met}
use Rattle.gix_ref_store.specs.declared.store.file.Store.{Store}

-- the name is this one, or below it; of one that ends with a slash, the name begins so
abbrev pub is_within : List ℕ → List ℕ → Bool
is_within folder name =
    bytes_eq name folder
    || (is_below folder name || (ends (codes "/") folder && begins folder name))

-- a name below `refs/` that is wanted, as a store knows it
abbrev pub is_listed : Bool → (List ℕ → Bool) → List ℕ → Bool
is_listed composes asked name =
    begins (codes "refs/") name && (asked name && is_known composes name)

-- all of them
abbrev pub all_names : {F : Type 0} → Store F → List ℕ → Bool
all_names store = is_listed store.options.precompose_unicode (begins [])

-- those that begin so
abbrev pub names_with : {F : Type 0} → Store F → List ℕ → List ℕ → Bool
names_with store front =
    is_listed store.options.precompose_unicode
    (begins (known_as store.options.precompose_unicode front))

-- the one of this name, and those below it
abbrev pub names_within : {F : Type 0} → Store F → List ℕ → List ℕ → Bool
names_within store folder =
    is_listed store.options.precompose_unicode
    (is_within (known_as store.options.precompose_unicode folder))

-- capital letters and `_` that end in `HEAD`
abbrev pub is_pseudo : List ℕ → Bool
is_pseudo name = is_capitals name && ends (codes "HEAD") name

-- each of the wanted names that doesn't read as absent, with what it reads as
pub record IsListing (read : List ℕ → RefState) (asked : List ℕ → Bool)
    (out : List Met) : Type 0 where
  pub ascending : IsAscending (map (λ met. met.name) out)
  pub each : (name : List ℕ) (r : RefState)
      → Contains out (record { name = name; ref_state = r })
      ↔ (IsTrue (asked name) × (read name ≡ r) × (r ≢ Absent))
