-- Names of references, whole or not: the rules of git-check-ref-format except its second, as under
-- `--allow-onelevel`.
use Rattle.std.specs.Prelude.{ℕ, ◌≡◌, ◌≢◌, ◌<◌, ◌⊎◌, List, [], ◌++◌, codes, Any, Contains}
use Rattle.gix_object_lines.specs.Bytes.{IsBeginningOf}

abbrev pub EndsWith : List ℕ → List ℕ → Type 0
EndsWith back name = (rest : List ℕ) × (name ≡ rest ++ back)

abbrev pub Holds : List ℕ → List ℕ → Type 0
Holds part name = (front : List ℕ) × ((rest : List ℕ) × (name ≡ front ++ (part ++ rest)))

-- a control character, a space or another that no name holds (rules 4, 5 and 10)
abbrev pub IsBarred : ℕ → Type 0
IsBarred byte = (byte < 32) ⊎ ((byte ≡ 127) ⊎ Contains (codes " ~^:?*[\\") byte)

pub record IsPartialName (name : List ℕ) : Type 0 where
  pub some : name ≢ []
  -- rule 1: no component begins with a dot or ends with `.lock`
  pub no_dot_first : ¬ IsBeginningOf (codes ".") name
  pub no_dot_behind_slash : ¬ Holds (codes "/.") name
  pub no_lock_last : ¬ EndsWith (codes ".lock") name
  pub no_lock_before_slash : ¬ Holds (codes ".lock/") name
  -- rule 3
  pub no_two_dots : ¬ Holds (codes "..") name
  -- rules 4, 5 and 10
  pub no_barred_byte : ¬ Any IsBarred name
  -- rule 6
  pub no_slash_first : ¬ IsBeginningOf (codes "/") name
  pub no_slash_last : ¬ EndsWith (codes "/") name
  pub no_two_slashes : ¬ Holds (codes "//") name
  -- rules 7, 8 and 9
  pub no_dot_last : ¬ EndsWith (codes ".") name
  pub no_at_brace : ¬ Holds (codes "@{") name
  pub no_at_alone : name ≢ codes "@"
