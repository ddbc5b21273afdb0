-- What a call's result means, from that of the call below it.
use Rattle.std.proofs.Common.{◌≡◌, refl, subst, sym, ℕ, List, Option, Some, Result, Ok, Err}
use Rattle.std.specs.Prelude.{IsSome}
use Rattle.gix_hash.specs.Id.{Id}
use Rattle.gix_hash.specs.declared.object_id.ObjectId.{ObjectId}
use Rattle.gix_object_lookup.specs.Table.{Object, Table}
use Rattle.gix_object_lines.specs.Writes.{Refusal, Writes, cause_of}
use Rattle.gix_object_lines.specs.declared.write.Error as write
use Rattle.gix_object_lines.specs.declared.write.Error.TheVariants.{Writer, Header, TagName, Filename}
use Rattle.gix_object_write.specs.Keeping.{Keeps, KeepFault, told_as}
use Rattle.gix_object_write.specs.declared.write.Error.{Error}
use Rattle.gix_object_write.specs.declared.write.Error.TheVariants.{Failed, Read, Memory}

module _ (unread honest may_refuse : Type 0) (old new : Table) (id : Id) (object : Object) where
  -- what can't be unread may be
  pub keeps_too : (result : Result ObjectId Error) → Keeps ⊥ honest may_refuse old new id object result → Keeps unread honest may_refuse old new id object result
  keeps_too (Ok told) is = is
  keeps_too (Err Failed) is = is
  keeps_too (Err Read) is = absurd is.0
  keeps_too (Err Memory) is = is

some_cause : (refusal : Option Refusal) (cause : write.Error) → cause_of refusal ≡ Some cause → IsSome (cause_of refusal)
some_cause refusal cause is = subst IsSome (sym is) refl

-- a content that isn't written
pub unwritten : (U : Type 0) (honest may_refuse : Type 0) (table : Table) (id : Id) (object : Object) (before after : Option (List ℕ)) (text : List ℕ) (refusal : Option Refusal) (error : write.Error)
    → Writes {U = U} before after text refusal (Err error) → KeepFault (IsSome (cause_of refusal)) honest may_refuse table table id object (told_as error)
unwritten U honest may_refuse table id object before after text refusal (Writer error) is = λ _ _. refl
unwritten U honest may_refuse table id object before after text refusal (Header error) is = (some_cause refusal (Header error) is.0, λ _ _. refl)
unwritten U honest may_refuse table id object before after text refusal (TagName error) is = (some_cause refusal (TagName error) is.0, λ _ _. refl)
unwritten U honest may_refuse table id object before after text refusal (Filename error) is = (some_cause refusal (Filename error) is.0, λ _ _. refl)
