-- Signing a commit (Git's commit.c: `commit_tree_extended`, `sign_with_header`; builtin/commit.c:
-- `exclude_gpgsig`).
use Rattle.std.specs.Prelude.{ℕ, nat_eq, Bool, not, ◌||◌, ◌≡◌, List, [], ◌∷◌, ◌++◌, filter, Option, None, Some, Result, Ok, Err}
use Rattle.std.specs.Cmp.Lexicographic.{pointwise}
use Rattle.gix_hash.specs.Id.{id_of}
use Rattle.gix_hash.specs.declared.kind.Kind.TheVariants.{Sha1, Sha256}
use Rattle.gix_object_lines.specs.Bytes.{without_last_feed}
use Rattle.gix_object_lines.specs.Writes.{cause_of}
use Rattle.gix_object_lines.specs.declared.decode.Error as decode
use Rattle.gix_object_lines.specs.declared.write.Error as write
use Rattle.gix_object_signature.specs.Run.{Request}
use Rattle.gix_object_signature.specs.Signing.{Signs, reading_error}
use Rattle.gix_object_signature.specs.declared.run.Answer.{Answer}
use Rattle.gix_object_signature.specs.declared.run.RunError as run
use Rattle.gix_object_signature.specs.declared.sign.Error.{Error}
use Rattle.gix_object_signature.specs.declared.sign.Error.TheVariants.{Encode, Memory}
use Rattle.gix_object_signature.specs.declared.sign.Options.{Options}
use Rattle.gix_object_commit.specs.Commit.{Parts, commit_text}
use Rattle.gix_object_commit.specs.Owned.{IsCommitOf, OwningFault}
use Rattle.gix_object_commit.specs.OwnedText.{own_parts_with, own_refusal_with}
use Rattle.gix_object_commit.specs.Signature.{signature_name}
use Rattle.gix_object_commit.specs.declared.commit.owned.Commit.{Commit}
use Rattle.gix_object_commit.specs.declared.header.ExtraHeader.{ExtraHeader}

-- ---- what is signed: the commit as it is written without signatures of either hash function

abbrev pub is_signature : ExtraHeader → Bool
is_signature header =
    pointwise nat_eq header.name (signature_name Sha1)
    || pointwise nat_eq header.name (signature_name Sha256)

abbrev pub unsigned : List ExtraHeader → List ExtraHeader
unsigned headers = filter (λ header. not (is_signature header)) headers

abbrev pub unsigned_text : Commit → List ℕ
unsigned_text commit = commit_text (own_parts_with (unsigned commit.extra_headers.items) commit)

-- why that isn't written, if it isn't
abbrev pub unsigned_fault : Commit → Option write.Error
unsigned_fault commit = cause_of (own_refusal_with (unsigned commit.extra_headers.items) commit)

-- ---- the header of the signature

-- named for the hash function of the commit's ids; the line feed that ends the header ends the
-- signature's last line too
abbrev pub signature_header : Commit → List ℕ → ExtraHeader
signature_header commit signature =
    record { name = signature_name (id_of commit.tree).kind; value = without_last_feed signature }

-- ---- what becomes of the commit

-- the same commit with these further headers in the place of its own
pub record IsWithHeaders (commit : Commit) (headers : List ExtraHeader)
    (other : Commit) : Type 0 where
  pub tree : other.tree ≡ commit.tree
  pub parents : other.parents ≡ commit.parents
  pub author : other.author ≡ commit.author
  pub committer : other.committer ≡ commit.committer
  pub encoding : other.encoding ≡ commit.encoding
  pub message : other.message ≡ commit.message
  pub own_headers : other.extra_headers.items ≡ headers

abbrev pub IsAsBefore : Commit → Commit → Type 0
IsAsBefore commit left = IsWithHeaders commit commit.extra_headers.items left

-- the signature comes after the other headers, in place of all signatures that were there
abbrev pub IsSignedBy : List ℕ → Commit → Commit → Type 0
IsSignedBy signature commit signed =
    IsWithHeaders commit
    (unsigned commit.extra_headers.items ++ signature_header commit signature ∷ []) signed

-- the commit is signed; or it is as before, if there is no signature or no memory is left for its
-- header
abbrev pub TakesSignature : Commit → Result (List ℕ) Error → Result (Unit {0}) Error → Commit
    → Type 0
TakesSignature commit (Ok signature) (Ok _) left = IsSignedBy signature commit left
TakesSignature commit (Ok signature) (Err error) left = (error ≡ Memory) × IsAsBefore commit left
TakesSignature commit (Err cause) (Ok _) left = ⊥
TakesSignature commit (Err cause) (Err error) left = (error ≡ cause) × IsAsBefore commit left

-- ---- signing

-- a commit that isn't written without its signatures runs nothing, nor does one whose text has no
-- memory; otherwise its text is signed once
pub data SignsCommit {R : Type 0}
    (answers : R → Request → Result Answer run.RunError → R → Type 0) (before : R)
    (commit : Commit) (options : Options) (result : Result (Unit {0}) Error) (after : R)
    (left : Commit) : Type 0 where
  Unwritten : (fault : write.Error) → unsigned_fault commit ≡ Some fault
      → result ≡ Err (Encode fault) → after ≡ before → IsAsBefore commit left
      → SignsCommit answers before commit options result after left
  NoMemory : result ≡ Err Memory → after ≡ before → IsAsBefore commit left
      → SignsCommit answers before commit options result after left
  Asked : unsigned_fault commit ≡ None → (answer : Result (List ℕ) Error)
      → Signs answers before (unsigned_text commit) options answer after
      → TakesSignature commit answer result left
      → SignsCommit answers before commit options result after left

-- the same of a borrowed commit's parts, which are owned first
pub data SignsParts {R : Type 0} (answers : R → Request → Result Answer run.RunError → R → Type 0)
    (before : R) (parts : Parts) (options : Options) (result : Result Commit Error)
    (after : R) : Type 0 where
  NotOwned : (fault : decode.Error) → OwningFault parts fault → result ≡ Err (reading_error fault)
      → after ≡ before → SignsParts answers before parts options result after
  Signed : (own left : Commit) → IsCommitOf parts own
      → SignsCommit answers before own options (Ok tt) after left → result ≡ Ok left
      → SignsParts answers before parts options result after
  Unsigned : (own left : Commit) (error : Error) → IsCommitOf parts own
      → SignsCommit answers before own options (Err error) after left → result ≡ Err error
      → SignsParts answers before parts options result after
