-- What calls keep, one after another: honest files stay so, and their counts of failed calls.
use Rattle.std.proofs.Common.{◌≡◌, ◌≤◌, ◌∙◌, ap, refl, subst, sym, arith, Result, Ok, Err}
use Rattle.std.specs.Prelude.{IsErrOf, OnOk}
use Rattle.gix_ref_file.specs.declared.files.FileError.{FileError}
use Rattle.gix_ref_file.specs.declared.files.FileError.TheVariants.{Failed, Memory}
use Rattle.gix_ref_file.specs.declared.files.Files.{Ghosts}
use Rattle.history_store.specs.Calls.{KeepsHonesty}

-- what holds at `Ok` and at `Memory` holds unless `Failed` is reported
pub unless_failed : {T K : Type 0} (result : Result T FileError) → OnOk result K → (IsErrOf result Memory → K) → (IsErrOf result Failed → ⊥) → K
unless_failed (Ok x) fine short other = fine
unless_failed (Err Memory) fine short other = short refl
unless_failed (Err Failed) fine short other = absurd (other refl)

module _ {F : Type 0} (files : Ghosts F) where
  pub same_honesty : (R : Type 0) (a b : F) → b ≡ a → KeepsHonesty files R a b
  same_honesty R a b same = subst (KeepsHonesty files R a) (sym same) (record { honest = λ h. h; later = omega arith; unfailed = λ unsaid. refl })

  pub more_honesty : (P R : Type 0) (a b : F) → KeepsHonesty files P a b → (P → R) → KeepsHonesty files R a b
  more_honesty P R a b h more = record { honest = h.honest; later = h.later; unfailed = λ unsaid. h.unfailed (λ p. unsaid (more p)) }

  -- the first of two calls reports no failed call that both don't report
  pub then_honesty : (P R : Type 0) (a b c : F) → KeepsHonesty files P a b → KeepsHonesty files R b c → (P → R) → KeepsHonesty files R a c
  then_honesty P R a b c h k more = record {
    honest = λ first. k.honest (h.honest first);
    later = omega (arith, h.later, k.later);
    unfailed = λ unsaid. k.unfailed unsaid ∙ h.unfailed (λ p. unsaid (more p));
  }

  -- of a call that says by four facts what it keeps
  pub honesty_of : {T : Type 0} (a b : F) (result : Result T FileError) → (files.is_honest a → files.is_honest b) → files.failures a ≤ files.failures b
      → OnOk result (files.failures b ≡ files.failures a) → (IsErrOf result Memory → files.failures b ≡ files.failures a) → KeepsHonesty files (IsErrOf result Failed) a b
  honesty_of a b result honest later fine short = record { honest = honest; later = later; unfailed = unless_failed result fine short }

  -- a call that fails so, with an error that is no want of memory only if it is a failed call
  pub unprepared_part : {T : Type 0} (a b : F) (error : FileError) → (files.is_honest a → files.is_honest b) → files.failures a ≤ files.failures b
      → (error ≡ Memory → files.failures b ≡ files.failures a) → KeepsHonesty files (IsErrOf {T = T} (Err error) Failed) a b
  unprepared_part a b error honest later short = record { honest = honest; later = later; unfailed = λ other. by_case error (λ is. other (ap Err is)) short }
    where
      by_case : {K : Type 0} (error : FileError) → (error ≡ Failed → ⊥) → (error ≡ Memory → K) → K
      by_case Failed other short = absurd (other refl)
      by_case Memory other short = short refl

  -- a call that failed at nothing, and then another
  pub prepared_part : (a b c : F) (R : Type 0) → (files.is_honest a → files.is_honest b) → files.failures a ≤ files.failures b → files.failures b ≡ files.failures a → KeepsHonesty files R b c
      → KeepsHonesty files R a c
  prepared_part a b c R honest later unfailed k = record { honest = λ first. k.honest (honest first); later = omega (arith, later, k.later); unfailed = λ unsaid. k.unfailed unsaid ∙ unfailed }
