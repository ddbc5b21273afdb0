-- Loose objects: a header and the content after it, as many bytes as the header says (Git User
-- Manual, "Object storage format"; git-fsck refuses fewer bytes than that, and more).
use Rattle.std.specs.Prelude.{ℕ, ◌≡◌, ◌≢◌, ◌<◌, ◌^◌, List, ◌++◌, length}
use Rattle.gix_hash.specs.declared.kind.Kind as hash
use Rattle.gix_object_lines.specs.Header.{header_text, HeaderFault}
use Rattle.gix_object_lines.specs.declared.kind.Kind.{Kind}
use Rattle.gix_object_lines.specs.declared.decode.Error.{Error}
use Rattle.gix_object_lines.specs.declared.decode.Error.TheVariants.{Memory}
use Rattle.gix_object_any.specs.Object.{Value, Tells, ContentFault}
use Rattle.gix_object_any.specs.declared.object.LooseDecodeError.{LooseDecodeError}
use Rattle.gix_object_any.specs.declared.object.LooseDecodeError.TheVariants.{InvalidHeader, ContentLength, InvalidContent, OutOfMemory}

-- the header of an object of this kind and content, and then the content
abbrev pub loose_text : Kind → List ℕ → List ℕ
loose_text kind content = header_text kind (length content) ++ content

-- the bytes are a loose object with this value
pub record IsLoose (ids : hash.Kind) (input : List ℕ) (value : Value) : Type 0 where
  pub kind : Kind
  pub content : List ℕ
  pub spelled : input ≡ loose_text kind content
  pub told : Tells ids kind content value

-- the header says another length than what follows it has, and one that a header can say
pub record HasOtherLength (input : List ℕ) : Type 0 where
  pub kind : Kind
  pub size : ℕ
  pub content : List ℕ
  pub spelled : input ≡ header_text kind size ++ content
  pub counted : size < 2 ^ 64
  pub other : size ≢ length content

-- why bytes aren't cut into a header and its content
abbrev pub CutFault : List ℕ → LooseDecodeError → Type 0
CutFault input (InvalidHeader error) = HeaderFault input error
CutFault input ContentLength = HasOtherLength input
CutFault input (InvalidContent error) = ⊥
CutFault input OutOfMemory = ⊥

-- header and content are there, and the content isn't read
abbrev pub HasUnreadContent : hash.Kind → List ℕ → Error → Type 0
HasUnreadContent ids input error =
    (kind : Kind) × (content : List ℕ) × (input ≡ loose_text kind content)
    × ContentFault ids kind content error

abbrev pub LooseFault : hash.Kind → List ℕ → LooseDecodeError → Type 0
LooseFault ids input (InvalidHeader error) = HeaderFault input error
LooseFault ids input ContentLength = HasOtherLength input
LooseFault ids input (InvalidContent error) =
    HasUnreadContent ids input error × (error ≢ Memory)
LooseFault ids input OutOfMemory = HasUnreadContent ids input Memory
