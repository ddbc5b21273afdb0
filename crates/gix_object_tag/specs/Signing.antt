-- What signing makes of a tag: the signature follows the text that it signs (git, builtin/tag.c:
-- `build_tag_object` makes the text, and `do_sign` appends the signature).
use Rattle.std.specs.Prelude.{ℕ, ◌≡◌, List, ◌++◌, Option, None, Some, Result, Ok, Err}
use Rattle.bstr.specs.BStr.{bstr_bytes}
use Rattle.gix_object_lines.specs.Bytes.{without_last_feed}
use Rattle.gix_object_lines.specs.Writes.{cause_of}
use Rattle.gix_object_lines.specs.declared.decode.Error as decode
use Rattle.gix_object_lines.specs.declared.write.Error as write
use Rattle.gix_object_signature.specs.Run.{Request}
use Rattle.gix_object_signature.specs.Signed.{signed_bytes}
use Rattle.gix_object_signature.specs.Signing.{Signs, reading_error}
use Rattle.gix_object_signature.specs.declared.format.SignatureRef.{SignatureRef}
use Rattle.gix_object_signature.specs.declared.run.Answer.{Answer}
use Rattle.gix_object_signature.specs.declared.run.RunError as run
use Rattle.gix_object_signature.specs.declared.sign.Error.{Error}
use Rattle.gix_object_signature.specs.declared.sign.Error.TheVariants.{Encode, Memory}
use Rattle.gix_object_signature.specs.declared.sign.Options.{Options}
use Rattle.gix_object_signature.specs.declared.signed.SignedData.{SignedData}
use Rattle.gix_object_tag.specs.Owned.{IsTagOf, OwningFault}
use Rattle.gix_object_tag.specs.OwnedText.{own_parts, is_bad_actor}
use Rattle.gix_object_tag.specs.Tag.{Parts}
use Rattle.gix_object_tag.specs.TagText.{tag_text, line_refusal}
use Rattle.gix_object_tag.specs.declared.tag.owned.Tag.{Tag}

-- the message of a tag that has no signature ends with the line feed that parts the two then
abbrev pub parted : Option (List ℕ) → List ℕ → List ℕ
parted None message = without_last_feed message
parted (Some _) message = message

-- the tag with this signature in the place of its own
abbrev pub with_signature : List ℕ → Tag → Tag
with_signature signature tag =
    record tag { message = parted tag.pgp_signature tag.message; pgp_signature = Some signature }

-- what is written of the tag before its signature, whichever that is
abbrev pub IsTextToSign : Tag → List ℕ → Type 0
IsTextToSign tag text =
    (signature : List ℕ) → tag_text (own_parts (with_signature signature tag)) ≡ text ++ signature

-- why a line of the tag isn't written, if one isn't
abbrev pub write_fault : Tag → Option write.Error
write_fault tag = cause_of (line_refusal (own_parts tag) (is_bad_actor tag.tagger))

-- ---- signing

-- the tag with the signature that was returned
abbrev pub signed_with : Tag → Result (List ℕ) Error → Result Tag Error
signed_with tag (Ok signature) = Ok (with_signature signature tag)
signed_with tag (Err error) = Err error

-- what a call on a tag leaves: the tag, or why it failed
abbrev pub left_of : {U : Type 0} → Result U Error → Tag → Result Tag Error
left_of (Ok _) tag = Ok tag
left_of (Err error) tag = Err error

-- a tag with a line that can't be written runs nothing, nor does one whose text has no memory;
-- otherwise its text is signed once
pub data SignsTag {R : Type 0} (answers : R → Request → Result Answer run.RunError → R → Type 0)
    (before : R) (tag : Tag) (options : Options) (result : Result Tag Error)
    (after : R) : Type 0 where
  Unwritten : (fault : write.Error) → write_fault tag ≡ Some fault → result ≡ Err (Encode fault)
      → after ≡ before → SignsTag answers before tag options result after
  NoMemory : result ≡ Err Memory → after ≡ before → SignsTag answers before tag options result after
  Asked : write_fault tag ≡ None → (text : List ℕ) → IsTextToSign tag text
      → (answer : Result (List ℕ) Error) → Signs answers before text options answer after
      → result ≡ signed_with tag answer → SignsTag answers before tag options result after

-- the same of a borrowed tag's parts, which are owned first
pub data SignsParts {R : Type 0} (answers : R → Request → Result Answer run.RunError → R → Type 0)
    (before : R) (parts : Parts) (options : Options) (result : Result Tag Error)
    (after : R) : Type 0 where
  NotOwned : (fault : decode.Error) → OwningFault parts.target parts.tagger fault
      → result ≡ Err (reading_error fault) → after ≡ before
      → SignsParts answers before parts options result after
  Owned : (tag : Tag) → IsTagOf parts tag → SignsTag answers before tag options result after
      → SignsParts answers before parts options result after

-- ---- reading a signed tag

-- this signature is found, and this text is what it signs
abbrev pub TellsSigned : List ℕ → List ℕ → Option (SignatureRef × SignedData) → Type 0
TellsSigned text signature None = ⊥
TellsSigned text signature (Some (found, signed)) =
    (bstr_bytes found.signature ≡ signature) × (signed_bytes signed ≡ text)
