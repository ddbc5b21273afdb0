-- The request to a program that verifies, as Git makes it, and what its answer means
-- (gpg-interface.c: `check_signature`, `verify_gpg_signed_buffer`).
use Rattle.std.specs.Prelude.{ℕ, true, ◌≡◌, ◌≢◌, ◌≤◌, List, [], ◌∷◌, codes, Result, Ok, Err}
use Rattle.bstr.specs.BStr.{bstr_bytes}
use Rattle.gix_object_signature.specs.Armor.{BeginsArmor, BeginsNoArmor}
use Rattle.gix_object_signature.specs.Asking.{error_of}
use Rattle.gix_object_signature.specs.Run.{Argument, Plain, File, Request}
use Rattle.gix_object_signature.specs.Status.{status_of, trust_of}
use Rattle.gix_object_signature.specs.VerifyingSsh.{VerifiesSsh}
use Rattle.gix_object_signature.specs.declared.format.Format.{Format}
use Rattle.gix_object_signature.specs.declared.format.Format.TheVariants as format
use Rattle.gix_object_signature.specs.declared.run.Answer.{Answer}
use Rattle.gix_object_signature.specs.declared.run.RunError as run
use Rattle.gix_object_signature.specs.declared.verify.Error as verify
use Rattle.gix_object_signature.specs.declared.verify.Error.TheVariants.{UnsupportedFormat, FormatMismatch, Memory}
use Rattle.gix_object_signature.specs.declared.verify.Options.{Options}
use Rattle.gix_object_signature.specs.declared.verify.Options.TheVariants.{OpenPgp, X509, Ssh}
use Rattle.gix_object_signature.specs.declared.verify.Outcome.{Outcome}
use Rattle.gix_object_signature.specs.declared.verify.Status.TheVariants.{Good}
use Rattle.gix_object_signature.specs.declared.verify.trust.TrustLevel.{TrustLevel}
use Rattle.gix_object_signature.specs.declared.verify.trust.TrustLevel.TheVariants.{Undefined, Never, Marginal, Fully, Ultimate}

-- ---- the request

abbrev pub format_of : Options → Format
format_of (OpenPgp program minimum) = format.OpenPgp
format_of (X509 program minimum) = format.X509
format_of (Ssh program allowed revoked minimum) = format.Ssh

-- the words that the programs of OpenPGP and X.509 share
abbrev pub verifying_words : List ℕ → List Argument
verifying_words signature =
    Plain (codes "--status-fd=1") ∷ Plain (codes "--verify") ∷ File signature ∷ Plain (codes "-")
    ∷ []

abbrev pub gpg_request : List ℕ → List ℕ → List ℕ → Request
gpg_request program signature content =
    record {
      words =
          Plain program ∷ Plain (codes "--keyid-format=long") ∷ verifying_words signature;
      input =
          content;
    }

abbrev pub gpgsm_request : List ℕ → List ℕ → List ℕ → Request
gpgsm_request program signature content =
    record { words = Plain program ∷ verifying_words signature; input = content }

-- ---- what the answer means

abbrev pub outcome_of : TrustLevel → Result Answer run.RunError → Result Outcome verify.Error
outcome_of minimum (Err cause) = Err (error_of cause)
outcome_of minimum (Ok answer) =
    Ok
    (record {
      status =
          status_of answer.output;
      trust =
          trust_of answer.output;
      minimum_trust = minimum;
      has_signer = true;
      answer = answer;
    })

-- from least to most
abbrev pub rank_of : TrustLevel → ℕ
rank_of Undefined = 0
rank_of Never = 1
rank_of Marginal = 2
rank_of Fully = 3
rank_of Ultimate = 4

-- the program agreed, the signature is good and someone's, and its key is trusted enough
pub record IsValid (outcome : Outcome) : Type 0 where
  pub succeeded : outcome.answer.succeeded ≡ true
  pub signed : outcome.has_signer ≡ true
  pub good : outcome.status ≡ Good
  pub trusted : rank_of outcome.minimum_trust ≤ rank_of outcome.trust

-- ---- verifying

-- the request is run once
pub record AsksOnce {R : Type 0} (answers : R → Request → Result Answer run.RunError → R → Type 0)
    (before : R) (request : Request) (minimum : TrustLevel) (result : Result Outcome verify.Error)
    (after : R) : Type 0 where
  pub answer : Result Answer run.RunError
  pub answered : answers before request answer after
  pub told : result ≡ outcome_of minimum answer

abbrev pub VerifiesBy : {R : Type 0} → (R → Request → Result Answer run.RunError → R → Type 0) → R
    → List ℕ → List ℕ → Options → Result Outcome verify.Error → R → Type 0
VerifiesBy answers before content signature (OpenPgp program minimum) result after =
    AsksOnce answers before
    (gpg_request (bstr_bytes program) signature content) minimum result after
VerifiesBy answers before content signature (X509 program minimum) result after =
    AsksOnce answers before
    (gpgsm_request (bstr_bytes program) signature content) minimum result after
VerifiesBy answers before content signature (Ssh program allowed revoked minimum) result after =
    VerifiesSsh answers before program allowed revoked minimum signature content result after

-- a signature of another format runs nothing, nor does one whose content has no memory
pub data Verifies {R : Type 0} (answers : R → Request → Result Answer run.RunError → R → Type 0)
    (before : R) (content signature : List ℕ) (options : Options)
    (result : Result Outcome verify.Error) (after : R) : Type 0 where
  NoFormat : BeginsNoArmor signature → result ≡ Err UnsupportedFormat → after ≡ before
      → Verifies answers before content signature options result after
  OtherFormat : (other : Format) → BeginsArmor signature other → other ≢ format_of options
      → result ≡ Err FormatMismatch → after ≡ before
      → Verifies answers before content signature options result after
  NoMemory : BeginsArmor signature (format_of options) → result ≡ Err Memory → after ≡ before
      → Verifies answers before content signature options result after
  Asked : BeginsArmor signature (format_of options)
      → VerifiesBy answers before content signature options result after
      → Verifies answers before content signature options result after
