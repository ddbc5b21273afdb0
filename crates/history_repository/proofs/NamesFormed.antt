-- Names that a repository can hold.
use Rattle.std.proofs.Common.{◌≡◌, Bool, true, false, cond, not, ◌&&◌, ◌||◌, refl, ◌∙◌, Some, None}
use Rattle.history_model.specs.Bytes.{Bytes}
use Rattle.history_model.specs.Forms.{is_name, is_private}
use Rattle.history_model.specs.declared.Cause.TheVariants.{BadName, PrivateName}
use Rattle.history_repository.specs.NameForms.{form_cause}

pub formed_of : (name : Bytes) → form_cause name ≡ None → is_name name ≡ true
formed_of name h = go (is_name name) h
  where
    go : (b : Bool) → cond (not b) (Some BadName) (cond (is_private name) (Some PrivateName) None) ≡ None → b ≡ true
    go true h = refl
    go false h = cc
