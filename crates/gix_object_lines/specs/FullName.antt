-- Full names of references: names as git-check-ref-format takes them without `--allow-onelevel`,
-- and those of one component that Git keeps beside `refs`, as HEAD and FETCH_HEAD (gitglossary,
-- "pseudoref": capital letters and underscores).
use Rattle.std.specs.Prelude.{ℕ, ◌≡◌, ◌≤◌, ◌⊎◌, List, All, Contains}
use Rattle.gix_object_lines.specs.PartialName.{IsPartialName}

-- a capital letter or `_`
abbrev pub IsCapital : ℕ → Type 0
IsCapital byte = ((65 ≤ byte) × (byte ≤ 90)) ⊎ (byte ≡ 95)

pub record IsFullName (name : List ℕ) : Type 0 where
  pub partial : IsPartialName name
  -- rule 2, or capitals alone
  pub parted : Contains name 47 ⊎ All IsCapital name
