-- A commit that is signed, or that stays as it was.
use Rattle.std.proofs.Common.{◌≡◌, ◌∙◌, ap, refl, ℕ, List, Some, None, Result, Ok, Err, ◌⊎◌, inl, inr}
use Rattle.std.specs.Prelude.{IfOk, IfErr}
use Rattle.gix_hash.specs.declared.kind.Kind.{Kind}
use Rattle.gix_hash.specs.Id.{id_of}
use Rattle.gix_object_lines.specs.declared.write.Error as write
use Rattle.gix_object_signature.specs.Run.{Request}
use Rattle.gix_object_signature.specs.Signing.{Signs}
use Rattle.gix_object_signature.specs.declared.run.Answer.{Answer}
use Rattle.gix_object_signature.specs.declared.run.RunError as run
use Rattle.gix_object_signature.specs.declared.sign.Error.{Error}
use Rattle.gix_object_signature.specs.declared.sign.Error.TheVariants.{Encode, Memory}
use Rattle.gix_object_signature.specs.declared.sign.Options.{Options}
use Rattle.gix_object_lines.specs.Bytes.{without_last_feed}
use Rattle.gix_object_commit.specs.Signature.{signature_name}
use Rattle.gix_object_commit.specs.Signing.{IsAsBefore, SignsCommit, Unwritten, NoMemory, Asked, unsigned_fault, unsigned_text, signature_header}
use Rattle.gix_object_commit.specs.declared.commit.owned.Commit.{Commit}
use Rattle.gix_object_commit.specs.declared.header.ExtraHeader.{ExtraHeader}

pub stays : (commit : Commit) → IsAsBefore commit commit
stays commit = record { tree = refl; parents = refl; author = refl; committer = refl; encoding = refl; message = refl; own_headers = refl }

-- a header by its parts
pub header_is : (header : ExtraHeader) (commit : Commit) (signature : List ℕ) (kind : Kind) → kind ≡ (id_of commit.tree).kind → header.name ≡ signature_name kind → header.value ≡ without_last_feed signature
    → header ≡ signature_header commit signature
header_is header commit signature kind same name value =
    let named = name ∙ ap signature_name same in
    λ i. record { name = named i; value = value i }

module _ {R : Type 0} (answers : R → Request → Result Answer run.RunError → R → Type 0) (before : R) (options : Options) where
  pub no_text : (commit : Commit) (error : Error) → (error ≡ Memory) ⊎ ((fault : write.Error) × (unsigned_fault commit ≡ Some fault) × (error ≡ Encode fault))
      → SignsCommit answers before commit options (Err error) before commit
  no_text commit error (inl is) = NoMemory (ap Err is) refl (stays commit)
  no_text commit error (inr fault) = Unwritten fault.0 fault.1 (ap Err fault.2) refl (stays commit)

  module _ (after : R) (commit : Commit) (fine : unsigned_fault commit ≡ None) where
    pub signed_so : (answer : Result (List ℕ) Error) → Signs answers before (unsigned_text commit) options answer after
        → IfOk answer (λ signature. (unsigned_fault commit ≡ None) × Signs answers before (unsigned_text commit) options (Ok signature) after)
    signed_so (Ok signature) signs = (fine, signs)
    signed_so (Err error) signs = tt

    pub not_signed : (answer : Result (List ℕ) Error) → Signs answers before (unsigned_text commit) options answer after
        → IfErr answer (λ error. SignsCommit answers before commit options (Err error) after commit)
    not_signed (Ok signature) signs = tt
    not_signed (Err error) signs = Asked fine (Err error) signs (refl, stays commit)
