-- Spaces before a name.
use Rattle.std.proofs.Common.{◌≡◌, ◌≢◌, ap, refl, ℕ, Bool, true, false, cond, List, [], ◌∷◌}
use Rattle.std.specs.Prelude.{◌==◌}
use Rattle.gix_ref_format.specs.Loose.{without_spaces}
use Rattle.std.proofs.lemmas.Bool.{eqb-true}

-- where no space begins the text, none is taken off
pub no_space : (text : List ℕ) → ((rest : List ℕ) → text ≢ 32 ∷ rest) → without_spaces text ≡ text
no_space [] none = refl
no_space (byte ∷ rest) none = go (byte == 32) refl
  where
    go : (t : Bool) → (byte == 32) ≡ t → cond t (without_spaces rest) (byte ∷ rest) ≡ byte ∷ rest
    go true e = absurd (none rest (ap (λ b. b ∷ rest) (eqb-true byte 32 e)))
    go false e = refl
