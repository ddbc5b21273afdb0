-- What is read of a signed tag.
use Rattle.std.proofs.Common.{◌≡◌, ◌∙◌, ap, refl, sym, subst, ℕ, true, List, ◌++◌, Option, Some, None, Result, Ok, Err}
use Rattle.std.specs.Prelude.{IsOkAnd}
use Rattle.std.proofs.lemmas.List.{append-nil, append_cancel_right}
use Rattle.bstr.specs.BStr.{bstr_bytes}
use Rattle.gix_hash.specs.declared.kind.Kind as hash
use Rattle.gix_object_lines.specs.declared.decode.Error.{Error}
use Rattle.gix_object_signature.specs.declared.format.SignatureRef.{SignatureRef}
use Rattle.gix_object_signature.specs.declared.signed.SignedData.{SignedData}
use Rattle.gix_object_tag.specs.Format.{IsInFormat}
use Rattle.gix_object_tag.specs.OwnedText.{own_parts, is_bad_actor}
use Rattle.gix_object_tag.specs.Signature.{IsBare, IsSignedBy}
use Rattle.gix_object_tag.specs.Signing.{IsTextToSign, TellsSigned, with_signature, write_fault}
use Rattle.gix_object_tag.specs.Tag.{Parts, SpellsRest, Nothing, Body, SpellsTag}
use Rattle.gix_object_tag.specs.TagText.{tag_text}
use Rattle.gix_object_tag.specs.declared.tag.owned.Tag.{Tag}
use Rattle.gix_object_tag.proofs.OwnedReadBack.{good_tagger}
use Rattle.gix_object_tag.proofs.ReadBack.{passes, written_spells}

-- ---- a signature that was read begins with an armor

rest_bare : (input message : List ℕ) (signature : Option (List ℕ)) → SpellsRest input message signature → IsBare signature → signature ≡ None
rest_bare input message signature (Nothing a b none) bare = none
rest_bare input message None (Body body is told) bare = refl
rest_bare input message (Some s) (Body body is told) bare = absurd (bare s refl told.1.armored.format told.1.armored.armor)

pub unsigned : (kind : hash.Kind) (input : List ℕ) (parts : Parts) → SpellsTag kind input parts → IsBare parts.signature → IsSignedBy input parts.signature None
unsigned kind input parts is bare = subst (λ o. IsSignedBy input o None) (sym (rest_bare is.after_tagger parts.message parts.signature is.rest bare)) tt

-- ---- the signed tag is read back

signed_spells : (kind : hash.Kind) (tag : Tag) (signature : List ℕ) → write_fault tag ≡ None → IsInFormat kind (own_parts (with_signature signature tag))
    → SpellsTag kind (tag_text (own_parts (with_signature signature tag))) (own_parts (with_signature signature tag))
signed_spells kind tag signature fault format =
    let pass = passes (own_parts tag) (is_bad_actor tag.tagger) true fault in
    written_spells kind (own_parts (with_signature signature tag)) pass.1 (good_tagger tag.tagger pass.2) format

tells : (input text signature : List ℕ) (found : Option (SignatureRef × SignedData)) → input ≡ text ++ signature → IsSignedBy input (Some signature) found → TellsSigned text signature found
tells input text signature None whole h = absurd h
tells input text signature (Some (found, signed)) whole h =
    let same : signature ≡ bstr_bytes found.signature = let e = h.0.signature in cc in
    let before = append_cancel_right (bstr_bytes signed.before) text signature (sym h.1 ∙ whole) in
    (sym same, ap (λ t. bstr_bytes signed.before ++ t) h.2 ∙ append-nil (bstr_bytes signed.before) ∙ before)

ok_tells : (input text signature : List ℕ) (result : Result (Option (SignatureRef × SignedData)) Error) → input ≡ text ++ signature → IsOkAnd result (IsSignedBy input (Some signature)) → IsOkAnd result (TellsSigned text signature)
ok_tells input text signature (Ok found) whole h = tells input text signature found whole h
ok_tells input text signature (Err error) whole h = h

pub read_tells : (kind : hash.Kind) (written : List ℕ) (result : Result (Option (SignatureRef × SignedData)) Error) (tag : Tag) (text signature : List ℕ)
    → ((parts : Parts) → SpellsTag kind written parts → IsOkAnd result (IsSignedBy written parts.signature)) → write_fault tag ≡ None → IsInFormat kind (own_parts (with_signature signature tag))
    → IsTextToSign tag text → written ≡ text ++ signature → IsOkAnd result (TellsSigned text signature)
read_tells kind written result tag text signature every fault format is whole =
    let parts = own_parts (with_signature signature tag) in
    ok_tells written text signature result whole (every parts (subst (λ t. SpellsTag kind t parts) (is signature ∙ sym whole) (signed_spells kind tag signature fault format)))
