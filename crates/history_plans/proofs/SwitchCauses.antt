-- What a `switch` is refused for.
use Rattle.std.proofs.Common.{◌≡◌, Bool, true, false, cond, not, ◌&&◌, ◌||◌, refl, ◌∙◌, ap, Option, None, Some, bytes_eq}
use Rattle.history_model.specs.Bytes.{Bytes, begins}
use Rattle.history_model.specs.Forms.{heads_front, is_branch, is_name, is_private}
use Rattle.history_model.specs.Commands.{Switch}
use Rattle.history_model.specs.Causes.{first_cause}
use Rattle.history_model.specs.declared.Cause.{Cause}
use Rattle.history_model.specs.declared.Cause.TheVariants.{BadName, PrivateName, NothingMoves}
use Rattle.history_model.proofs.WholePaths.{begins_parts}
use Rattle.history_model.specs.Repository as plain

-- ---- causes

abbrev by_tests : Bool → Bool → Bool → Option Cause
by_tests bad private same = cond bad (Some BadName) (cond private (Some PrivateName) (cond same (Some NothingMoves) None))

module _ (r : plain.Repository) (name : Bytes) where
  causes : first_cause r (Switch name) ≡ by_tests ((not (is_name name) || false) || not (begins heads_front name)) (is_private name || false) (bytes_eq name r.branch)
  causes = refl

  pub name_refused : is_branch name ≡ false → first_cause r (Switch name) ≡ Some BadName
  name_refused none = causes ∙ told (is_name name) (begins heads_front name) (is_private name || false) (bytes_eq name r.branch) none
    where
      told : (x y private same : Bool) → (x && y) ≡ false → by_tests ((not x || false) || not y) private same ≡ Some BadName
      told true true private same e = cc
      told true false private same e = refl
      told false y private same e = refl

  -- none below refs/heads/ is private
  left_cause : is_branch name ≡ true → first_cause r (Switch name) ≡ cond (bytes_eq name r.branch) (Some NothingMoves) None
  left_cause is = causes ∙ told (is_name name) (begins heads_front name) refl is
    where
      told : (x y : Bool) → begins heads_front name ≡ y → (x && y) ≡ true
          → by_tests ((not x || false) || not y) (is_private name || false) (bytes_eq name r.branch) ≡ cond (bytes_eq name r.branch) (Some NothingMoves) None
      told true true front e = ap (λ p. cond (p || false) (Some PrivateName) (cond (bytes_eq name r.branch) (Some NothingMoves) None)) (ap is_private (begins_parts heads_front name front))
      told true false front e = cc
      told false y front e = cc

  pub same_refused : is_branch name ≡ true → bytes_eq name r.branch ≡ true → first_cause r (Switch name) ≡ Some NothingMoves
  same_refused is same = left_cause is ∙ ap (λ b. cond b (Some NothingMoves) None) same

  pub none_refused : is_branch name ≡ true → bytes_eq name r.branch ≡ false → first_cause r (Switch name) ≡ None
  none_refused is other = left_cause is ∙ ap (λ b. cond b (Some NothingMoves) None) other
