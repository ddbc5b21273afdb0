-- Levels of trust in a key's owner (git-config, `gpg.minTrustLevel`; GnuPG, doc/DETAILS,
-- `TRUST_..`).
use Rattle.std.specs.Prelude.{ℕ, ◌≡◌, List, codes, map}
use Rattle.std.specs.Char.{to_ascii_lowercase}
use Rattle.gix_object_signature.specs.declared.verify.trust.TrustLevel.{TrustLevel}
use Rattle.gix_object_signature.specs.declared.verify.trust.TrustLevel.TheVariants.{Undefined, Never, Marginal, Fully, Ultimate}

abbrev pub level_word : TrustLevel → List ℕ
level_word Undefined = codes "undefined"
level_word Never = codes "never"
level_word Marginal = codes "marginal"
level_word Fully = codes "fully"
level_word Ultimate = codes "ultimate"

-- the word of this level, letter case aside
abbrev pub NamesLevel : List ℕ → TrustLevel → Type 0
NamesLevel value level = map to_ascii_lowercase value ≡ level_word level

abbrev pub NamesNoLevel : List ℕ → Type 0
NamesNoLevel value = (level : TrustLevel) → ¬ NamesLevel value level
