-- The causes that a commit's name gives.
use Rattle.std.proofs.Common.{◌≡◌, Bool, true, false, cond, not, ◌||◌, [], ◌∷◌, refl, ◌∙◌, ap, Option, Some, None, bytes_eq, codes}
use Rattle.std.specs.List.{list_any}
use Rattle.history_model.specs.Bytes.{begins}
use Rattle.history_model.specs.Repository.{Repository}
use Rattle.history_model.specs.Forms.{is_name, is_private, IsWritten}
use Rattle.history_model.specs.Words.{head_word}
use Rattle.history_model.specs.Commands.{Commit, CommitCommand}
use Rattle.history_model.specs.Meaning.{branch_or_name}
use Rattle.history_model.specs.declared.Cause.{Cause}
use Rattle.history_model.specs.declared.Cause.TheVariants.{BadName, PrivateName}
use Rattle.history_plans.specs.CommitCauses.{first_among, name_form_causes}
use Rattle.history_repository.specs.NameForms.{form_cause}
use Rattle.std.proofs.lemmas.Bool.{and_parts}

-- ---- causes

abbrev by_tests : Bool → Bool → Option Cause
by_tests bad private = cond bad (Some BadName) (cond private (Some PrivateName) None)

module _ (r : Repository) (sent : CommitCommand) where
  abbrev by_head : Bool → Option Cause
  by_head head = by_tests (list_any (λ n. not (is_name n)) (cond head [] (sent.name ∷ [])) || false) (list_any is_private (cond head [] (sent.name ∷ [])))

  -- HEAD is no name
  pub head_named : bytes_eq sent.name head_word ≡ true → first_among name_form_causes r (Commit sent) ≡ None
  head_named is = ap by_head is

  pub other_named : bytes_eq sent.name head_word ≡ false → first_among name_form_causes r (Commit sent) ≡ form_cause sent.name
  other_named is = ap by_head is ∙ told (is_name sent.name) (is_private sent.name)
    where
      told : (x y : Bool) → by_tests ((not x || false) || false) (y || false) ≡ by_tests (not x) y
      told true true = refl
      told true false = refl
      told false y = refl

  pub head_means : bytes_eq sent.name head_word ≡ true → branch_or_name r sent.name ≡ r.branch
  head_means is = ap (λ b. cond b r.branch sent.name) is

  pub other_means : bytes_eq sent.name head_word ≡ false → branch_or_name r sent.name ≡ sent.name
  other_means is = ap (λ b. cond b r.branch sent.name) is

pub branch_formed : (r : Repository) → IsWritten r → is_name r.branch ≡ true
branch_formed r written = (and_parts (is_name r.branch) (begins (codes "refs/heads/") r.branch) written.branch).0
