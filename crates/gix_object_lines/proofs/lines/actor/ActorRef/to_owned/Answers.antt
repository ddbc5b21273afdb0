use Rattle.std.proofs.Common.{◌≡◌, sym, subst, refl, inl, List, ℕ, Result, Ok, Err}
use Rattle.bstr.specs.BStr.{bstr_bytes}
use Rattle.gix_object_lines.specs.Time.{SpellsTime}
use Rattle.gix_object_lines.specs.Actor.{TellsTime}
use Rattle.gix_object_lines.specs.declared.lines.time.Time.{Time}
use Rattle.gix_object_lines.proofs.ActorLemmas.{untold}
use Rattle.gix_object_lines.proofs.lines.actor.ActorRef.to_owned.Goals as goal

pub returns-in_default-clause-refused : goal.returns-in_default-clause-refused
returns-in_default-clause-refused c = (λ _ told. untold _ _ c.in_default.field-0 c.as_bytes.ensures c.in_default.ensures.every told, λ _. refl)

pub returns-in_default-clause-faults : goal.returns-in_default-clause-faults
returns-in_default-clause-faults c = inl (refl, λ told. untold _ _ c.in_default.field-0 c.as_bytes.ensures c.in_default.ensures.every told)
