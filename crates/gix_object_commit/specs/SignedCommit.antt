-- A commit's signature and what it signs (gitformat-signature, "commit signatures"; Git's
-- hash-function-transition, "Signed Commits"): its first header of the signature's name, and the
-- commit without that header.
use Rattle.std.specs.Prelude.{ℕ, ◌≡◌, List, [], ◌++◌, Option, None, Some, if◌then◌else◌}
use Rattle.gix_hash.specs.declared.kind.Kind.{Kind}
use Rattle.bstr.specs.BStr.{bstr_bytes}
use Rattle.gix_object_commit.specs.declared.ref_iter.signature.CommitSignature.{CommitSignature}
use Rattle.gix_object_commit.specs.Commit.{Field, Parts, field_text}
use Rattle.gix_object_commit.specs.Headers.{is_named}
use Rattle.gix_object_commit.specs.ReadingOn.{Tells, TellsFirst}
use Rattle.gix_object_commit.specs.Signature.{signature_name}
use Rattle.gix_object_commit.specs.Tokens.{Part, Header, Message, Place, start, IsNext}
use Rattle.gix_object_commit.specs.LineViews.{field_of}

-- a commit cut at a header
pub record Cut : Type 0 where
  pub before : List ℕ
  pub header : Field
  pub behind : List ℕ

abbrev pub cut_of : CommitSignature → Cut
cut_of signature = record {
  before = bstr_bytes signature.signed_data.before;
  header = field_of signature.header;
  behind = bstr_bytes signature.signed_data.behind;
}

-- a header of the signature's name holds the signature; the message says that there is none, since
-- no header follows it
abbrev pub signature_told : Kind → Part → Option (Option Field)
signature_told kind (Header field) =
    if is_named (signature_name kind) field then Some (Some field) else None
signature_told kind (Message message) = Some None
signature_told kind _ = None

-- the commit is cut at the first header of the signature's name: no part before it has one
pub record IsSigned (kind : Kind) (input : List ℕ) (cut : Cut) : Type 0 where
  pub at : Place
  pub past : Place
  pub none_before : Tells (signature_told kind) (start kind input) [] at
  pub next : IsNext at (Header cut.header) past
  pub named : cut.header.name ≡ signature_name kind
  pub whole : input ≡ cut.before ++ (field_text cut.header ++ cut.behind)
  pub left : cut.behind ≡ past.input

-- the signature, or none if the message comes first
abbrev pub FindsSignature : Kind → List ℕ → Option Cut → Type 0
FindsSignature kind input None = TellsFirst (signature_told kind) (start kind input) None
FindsSignature kind input (Some cut) = IsSigned kind input cut

-- a commit with these headers in the place of its own
abbrev pub with_headers : Parts → List Field → Parts
with_headers parts headers = record {
  tree = parts.tree;
  parents = parts.parents;
  author = parts.author;
  committer = parts.committer;
  encoding = parts.encoding;
  headers = headers;
  message = parts.message;
}
