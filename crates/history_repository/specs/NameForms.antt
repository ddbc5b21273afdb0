-- Which names a repository can hold.
use Rattle.std.specs.Prelude.{Option, Some, None, not, if◌then◌else◌}
use Rattle.history_model.specs.Forms.{is_name, is_private}
use Rattle.history_model.specs.Bytes.{Bytes}
use Rattle.history_model.specs.declared.Cause.{Cause}
use Rattle.history_model.specs.declared.Cause.TheVariants.{BadName, PrivateName}

-- why a repository can't hold a name
abbrev pub form_cause : Bytes → Option Cause
form_cause name =
    if not (is_name name) then Some BadName else if is_private name then Some PrivateName
    else None
