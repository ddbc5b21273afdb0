-- The requests to ssh-keygen that verify a signature, one after another, as Git makes them, and
-- what the last answer means (gpg-interface.c: `verify_ssh_signed_buffer`, `parse_ssh_output`).
use Rattle.std.specs.Prelude.{ℕ, ⊤, Bool, true, false, not, ◌&&◌, ◌==◌, ◌≡◌, nat_eq, List, [], ◌∷◌, ◌++◌, codes, filter, length, IsTrue, IsFalse, Option, None, Some, Result, Ok, Err}
use Rattle.std.specs.List.{slice_split, starts_with}
use Rattle.std.specs.Str.{bytes_eq}
use Rattle.bstr.specs.BStr.{bstr_bytes}
use Rattle.bstr.specs.declared.bstr.BStr.{BStr}
use Rattle.gix_object_signature.specs.Asking.{Asks}
use Rattle.gix_object_signature.specs.Run.{Argument, Plain, File, Request}
use Rattle.gix_object_signature.specs.Signing.{without_cr}
use Rattle.gix_object_signature.specs.SignedTime.{TimeWord, TellsNoTime}
use Rattle.gix_object_signature.specs.SshVerdict.{status_of, trust_of}
use Rattle.gix_object_signature.specs.declared.run.Answer.{Answer}
use Rattle.gix_object_signature.specs.declared.run.RunError as run
use Rattle.gix_object_signature.specs.declared.verify.Error as verify
use Rattle.gix_object_signature.specs.declared.verify.Error.TheVariants.{CommitTime, Memory}
use Rattle.gix_object_signature.specs.declared.verify.Outcome.{Outcome}
use Rattle.gix_object_signature.specs.declared.verify.trust.TrustLevel.{TrustLevel}
use Rattle.gix_object_signature.specs.declared.verify.ssh.Keygen.{Keygen}

-- ---- the requests

-- what every request is made of
pub record Question : Type 0 where
  pub program : List ℕ
  pub allowed : List ℕ
  pub revoked : Option (List ℕ)
  pub signature : List ℕ
  pub time : Option (List ℕ)

abbrev pub path_of : Option BStr → Option (List ℕ)
path_of None = None
path_of (Some path) = Some (bstr_bytes path)

abbrev pub question_of : Keygen → Question
question_of keygen =
    record {
      program =
          bstr_bytes keygen.program;
      allowed =
          bstr_bytes keygen.allowed;
      revoked =
          path_of keygen.revoked;
      signature = bstr_bytes keygen.signature;
      time = path_of keygen.time;
    }

abbrev pub time_words : Option (List ℕ) → List Argument
time_words None = []
time_words (Some word) = Plain word ∷ []

abbrev pub revoked_words : Option (List ℕ) → List Argument
revoked_words None = []
revoked_words (Some path) = Plain (codes "-r") ∷ Plain path ∷ []

-- who may have made the signature
abbrev pub find_request : Question → Request
find_request question = record {
  words =
      Plain question.program ∷ Plain (codes "-Y") ∷ Plain (codes "find-principals")
      ∷ Plain (codes "-f") ∷ Plain question.allowed
      ∷ Plain (codes "-s") ∷ File question.signature ∷ time_words question.time;
  input = [];
}

-- whether it is a signature of the content at all
abbrev pub check_request : Question → List ℕ → Request
check_request question content = record {
  words =
      Plain question.program ∷ Plain (codes "-Y") ∷ Plain (codes "check-novalidate")
      ∷ Plain (codes "-n") ∷ Plain (codes "git")
      ∷ Plain (codes "-s") ∷ File question.signature ∷ time_words question.time;
  input = content;
}

-- whether it is this one's
abbrev pub verify_request : Question → List ℕ → List ℕ → Request
verify_request question content principal = record {
  words =
      Plain question.program ∷ Plain (codes "-Y") ∷ Plain (codes "verify") ∷ Plain (codes "-n")
      ∷ Plain (codes "git") ∷ Plain (codes "-f") ∷ Plain question.allowed
      ∷ Plain (codes "-I") ∷ Plain principal ∷ Plain (codes "-s") ∷ File question.signature
      ∷ (time_words question.time ++ revoked_words question.revoked);
  input = content;
}

-- ---- what an answer means

-- someone was found
abbrev pub finds : Answer → Bool
finds answer = answer.succeeded && not (bytes_eq answer.output [])

-- each line that isn't empty, without a carriage return at its end
abbrev pub principals : List ℕ → List (List ℕ)
principals text =
    filter (λ line. not (length line == 0)) (slice_split (λ byte. byte == 10) (without_cr text))

-- it is this one's
abbrev pub agrees : Answer → Bool
agrees answer = answer.succeeded && starts_with nat_eq answer.output (codes "Good")

-- a signature of no principal is never valid, whatever is reported
abbrev pub outcome_of : TrustLevel → Bool → Result Answer verify.Error → Result Outcome verify.Error
outcome_of minimum known (Err error) = Err error
outcome_of minimum known (Ok answer) =
    Ok
    (record {
      status =
          status_of answer.output;
      trust =
          trust_of answer.output;
      minimum_trust = minimum;
      has_signer = known;
      answer = answer;
    })

-- ---- one request after another

-- no request follows it
abbrev pub Ends : Result Answer verify.Error → Type 0
Ends (Err error) = ⊤
Ends (Ok answer) = IsTrue (agrees answer)

-- each name is tried in turn, up to the first that signed or an error; otherwise the last answer
-- counts
pub data Tries {R : Type 0} (answers : R → Request → Result Answer run.RunError → R → Type 0)
    (ask : List ℕ → Request) : R → List (List ℕ) → Answer → Result Answer verify.Error → R
    → Type 0 where
  NoneLeft : (before : R) (last : Answer) → Tries answers ask before [] last (Ok last) before
  Ended : (before after : R) (name : List ℕ) (more : List (List ℕ)) (last : Answer)
      (result : Result Answer verify.Error) → Asks answers before (ask name) result after
      → Ends result
      → Tries answers ask before (name ∷ more) last result after
  Refused : (before between after : R) (name : List ℕ) (more : List (List ℕ))
      (last answer : Answer) (result : Result Answer verify.Error)
      → Asks answers before (ask name) (Ok answer) between → IsFalse (agrees answer)
      → Tries answers ask between more answer result after
      → Tries answers ask before (name ∷ more) last result after

-- each of the principals that an answer names is tried in turn; or no memory is left for their
-- names, and nothing is run
pub data TriesFound {R : Type 0} (answers : R → Request → Result Answer run.RunError → R → Type 0)
    (question : Question) (content : List ℕ) (before : R) (found : Answer)
    (result : Result Answer verify.Error) (after : R) : Type 0 where
  NoMemory : result ≡ Err Memory → after ≡ before
      → TriesFound answers question content before found result after
  TriedAll : Tries answers (verify_request question content) before
      (principals found.output) found result after
      → TriesFound answers question content before found result after

-- the principals are looked up first; if none is found, the signature is checked without one
pub data Asked {R : Type 0} (answers : R → Request → Result Answer run.RunError → R → Type 0)
    (before : R) (question : Question) (content : List ℕ) (minimum : TrustLevel)
    (result : Result Outcome verify.Error) (after : R) : Type 0 where
  NotFound : (error : verify.Error)
      → Asks answers before (find_request question) (Err error) after → result ≡ Err error
      → Asked answers before question content minimum result after
  NoSigner : (found : Answer) (between : R)
      → Asks answers before (find_request question) (Ok found) between → IsFalse (finds found)
      → (last : Result Answer verify.Error)
      → Asks answers between (check_request question content) last after
      → result ≡ outcome_of minimum false last
      → Asked answers before question content minimum result after
  NoNames : (found : Answer) → Asks answers before (find_request question) (Ok found) after
      → IsTrue (finds found) → result ≡ Err Memory
      → Asked answers before question content minimum result after
  Tried : (found : Answer) (between : R)
      → Asks answers before (find_request question) (Ok found) between → IsTrue (finds found)
      → (last : Result Answer verify.Error)
      → Tries answers (verify_request question content) between
      (principals found.output) found last after → result ≡ outcome_of minimum true last
      → Asked answers before question content minimum result after

-- a content whose time can't be given runs nothing
pub data VerifiesSsh {R : Type 0}
    (answers : R → Request → Result Answer run.RunError → R → Type 0) (before : R)
    (program allowed : BStr) (revoked : Option BStr) (minimum : TrustLevel)
    (signature content : List ℕ) (result : Result Outcome verify.Error) (after : R) : Type 0 where
  NoTime : TellsNoTime content → result ≡ Err CommitTime → after ≡ before
      → VerifiesSsh answers before program allowed revoked minimum signature content result after
  Timed : (time : Option (List ℕ)) → TimeWord content time
      → Asked answers before
      (record {
        program =
            bstr_bytes program;
        allowed =
            bstr_bytes allowed;
        revoked =
            path_of revoked;
        signature = signature;
        time = time;
      }) content minimum result after
      → VerifiesSsh answers before program allowed revoked minimum signature content result after
