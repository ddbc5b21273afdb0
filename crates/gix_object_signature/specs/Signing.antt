-- The request to a program that signs, as Git makes it, and what its answer means (gpg-interface.c:
-- `sign_buffer_gpg`, `sign_buffer_ssh`).
use Rattle.std.specs.Prelude.{ℕ, Bool, not, ◌&&◌, ◌==◌, ◌≡◌, ◌⊎◌, nat_eq, List, [], ◌∷◌, ◌++◌, codes, drop, IsOk, Option, None, Some, Result, Ok, Err, if◌then◌else◌, MatchOption}
use Rattle.std.specs.List.{list_any, slice_split, starts_with}
use Rattle.std.specs.Str.{bytes_eq}
use Rattle.bstr.specs.BStr.{bstr_bytes}
use Rattle.bstr.specs.declared.bstr.BStr.{BStr}
use Rattle.gix_object_lines.specs.declared.decode.Error as decode
use Rattle.gix_object_lines.specs.declared.decode.Error.TheVariants as reading
use Rattle.gix_object_signature.specs.Run.{Argument, Plain, File, ToSign, Request}
use Rattle.gix_object_signature.specs.declared.format.Format.{Format}
use Rattle.gix_object_signature.specs.declared.format.Format.TheVariants.{OpenPgp, X509, Ssh}
use Rattle.gix_object_signature.specs.declared.run.Answer.{Answer}
use Rattle.gix_object_signature.specs.declared.run.RunError as run
use Rattle.gix_object_signature.specs.declared.run.RunError.TheVariants as cause
use Rattle.gix_object_signature.specs.declared.sign.Error.{Error}
use Rattle.gix_object_signature.specs.declared.sign.Error.TheVariants.{Decode, TemporaryFile, Spawn, Communicate, Memory, Failed, MissingSigningKey, MissingSignatureConfirmation, MissingSshSignature}
use Rattle.gix_object_signature.specs.declared.sign.Options.{Options}

-- ---- keys

-- the public key itself, if it is given in place of a file: all after `key::`, or the whole if it
-- begins `ssh-`
abbrev pub literal_key : List ℕ → Option (List ℕ)
literal_key key =
    if starts_with nat_eq key (codes "key::") then Some (drop 5 key)
    else (if starts_with nat_eq key (codes "ssh-") then Some key else None)

abbrev pub text_of : Option BStr → Option (List ℕ)
text_of None = None
text_of (Some text) = Some (bstr_bytes text)

-- an empty key is none for SSH
abbrev pub key_for : Format → Option (List ℕ) → Option (List ℕ)
key_for OpenPgp key = key
key_for X509 key = key
key_for Ssh None = None
key_for Ssh (Some key) = if bytes_eq key [] then None else Some key

abbrev pub key_of : Options → Option (List ℕ)
key_of options = key_for options.format (text_of options.signing_key)

-- ---- the request

abbrev pub gpg_request : List ℕ → List ℕ → List ℕ → Request
gpg_request program key content = record {
  words = Plain program ∷ Plain (codes "--status-fd=2") ∷ Plain (codes "-bsau") ∷ Plain key ∷ [];
  input = content;
}

-- a key that is no file's name is put into one, and its other half is the agent's
abbrev pub key_words : List ℕ → Option (List ℕ) → List Argument
key_words key None = Plain key ∷ []
key_words key (Some literal) = File literal ∷ Plain (codes "-U") ∷ []

abbrev pub ssh_request_by : List Argument → List ℕ → List ℕ → Request
ssh_request_by key program content = record {
  words =
      Plain program ∷ Plain (codes "-Y") ∷ Plain (codes "sign") ∷ Plain (codes "-n")
      ∷ Plain (codes "git") ∷ Plain (codes "-f") ∷ (key ++ ToSign content ∷ []);
  input = [];
}

abbrev pub ssh_request : List ℕ → List ℕ → List ℕ → Request
ssh_request program key content = ssh_request_by (key_words key (literal_key key)) program content

abbrev pub request_for : Format → List ℕ → List ℕ → List ℕ → Request
request_for OpenPgp = gpg_request
request_for X509 = gpg_request
request_for Ssh = ssh_request

-- ---- what the answer means

abbrev pub error_of : run.RunError → Error
error_of cause.TemporaryFile = TemporaryFile
error_of cause.Spawn = Spawn
error_of cause.Communicate = Communicate
error_of cause.Memory = Memory

-- what was to be signed wasn't read, or no memory was left for it
abbrev pub reading_error : decode.Error → Error
reading_error reading.Memory = Memory
reading_error fault = Decode fault

-- a line of the status reports that a signature was made (GnuPG, doc/DETAILS)
abbrev pub is_confirmed : List ℕ → Bool
is_confirmed text =
    list_any (λ line. starts_with nat_eq line (codes "[GNUPG:] SIG_CREATED "))
    (slice_split (λ byte. byte == 10) text)

-- the text without each carriage return that a line feed follows
abbrev pub without_cr : List ℕ → List ℕ
without_cr [] = []
without_cr (byte ∷ rest) =
    if byte == 13 && starts_with nat_eq rest (10 ∷ []) then without_cr rest
    else byte ∷ without_cr rest

abbrev pub gpg_signature : Answer → Result (List ℕ) Error
gpg_signature answer =
    if not answer.succeeded then Err Failed
    else
    (if is_confirmed answer.errors then Ok (without_cr answer.output)
    else Err MissingSignatureConfirmation)

abbrev pub ssh_signature : Answer → Result (List ℕ) Error
ssh_signature answer =
    if not answer.succeeded then Err Failed
    else
    (if bytes_eq answer.output [] then Err MissingSshSignature
    else Ok (without_cr answer.output))

abbrev pub signature_of : Format → Result Answer run.RunError → Result (List ℕ) Error
signature_of format (Err cause) = Err (error_of cause)
signature_of OpenPgp (Ok answer) = gpg_signature answer
signature_of X509 (Ok answer) = gpg_signature answer
signature_of Ssh (Ok answer) = ssh_signature answer

-- ---- signing

-- this, or no memory was left for it
abbrev pub IsOrMemory : Result (List ℕ) Error → Result (List ℕ) Error → Type 0
IsOrMemory wanted result = (result ≡ wanted) ⊎ (IsOk wanted × (result ≡ Err Memory))

-- the request is run once, and the answer's signature is the result
pub record Asks {R : Type 0} (answers : R → Request → Result Answer run.RunError → R → Type 0)
    (before : R) (request : Request) (format : Format) (result : Result (List ℕ) Error)
    (after : R) : Type 0 where
  pub answer : Result Answer run.RunError
  pub answered : answers before request answer after
  pub told : IsOrMemory (signature_of format answer) result

-- without a key nothing is run
abbrev pub Signs : {R : Type 0} → (R → Request → Result Answer run.RunError → R → Type 0) → R
    → List ℕ → Options → Result (List ℕ) Error → R → Type 0
Signs answers before content options result after =
    MatchOption (key_of options) ((result ≡ Err MissingSigningKey) × (after ≡ before))
    (λ key. Asks answers before
    (request_for options.format
    (bstr_bytes options.program) key content) options.format result after)
