-- Signing a tag.
use Rattle.std.proofs.Common.{◌≡◌, ◌∙◌, ap, refl, sym, List, [], ◌∷◌, ◌++◌, ℕ, append_assoc, Some, Result, Err, inl, inr}
use Rattle.std.specs.Prelude.{◌⊎◌}
use Rattle.std.proofs.lemmas.List.{append-nil}
use Rattle.gix_object_lines.specs.Kind.{kind_word}
use Rattle.gix_object_lines.specs.declared.write.Error as write
use Rattle.gix_object_signature.specs.Run.{Request}
use Rattle.gix_object_signature.specs.declared.run.Answer.{Answer}
use Rattle.gix_object_signature.specs.declared.run.RunError as run
use Rattle.gix_object_signature.specs.declared.sign.Error.{Error}
use Rattle.gix_object_signature.specs.declared.sign.Error.TheVariants.{Encode, Memory}
use Rattle.gix_object_signature.specs.declared.sign.Options.{Options}
use Rattle.gix_object_tag.specs.OwnedText.{own_parts}
use Rattle.gix_object_tag.specs.Signing.{with_signature, parted, IsTextToSign, SignsTag, Unwritten, write_fault}
use Rattle.gix_object_tag.specs.Signing as signing
use Rattle.gix_object_tag.specs.TagText.{head_text, name_line, tagger_line, body_text, tag_text}
use Rattle.gix_object_tag.specs.declared.tag.owned.Tag.{Tag}

-- ---- the text to sign is what is written with an empty signature

body_ends : (message signature : List ℕ) → body_text message (Some signature) ≡ body_text message (Some []) ++ signature
body_ends [] signature = refl
body_ends (byte ∷ message) signature = ap (λ t. 10 ∷ byte ∷ t) (sym (append_assoc message (10 ∷ []) signature))

four_end : (a b c d d' back : List ℕ) → d' ≡ d ++ back → a ++ (b ++ (c ++ (d' ++ []))) ≡ (a ++ (b ++ (c ++ (d ++ [])))) ++ back
four_end a b c d d' back is =
    ap (λ t. a ++ (b ++ (c ++ t))) (append-nil d' ∙ is ∙ ap (λ t. t ++ back) (sym (append-nil d)))
    ∙ sym (append_assoc a (b ++ (c ++ (d ++ []))) back ∙ ap (λ t. a ++ t) (append_assoc b (c ++ (d ++ [])) back ∙ ap (λ t. b ++ t) (append_assoc c (d ++ []) back)))

pub text_to_sign : (tag : Tag) (text : List ℕ) → text ≡ tag_text (own_parts (with_signature [] tag)) → IsTextToSign tag text
text_to_sign tag text is signature =
    let parts = own_parts tag in
    let message = parted tag.pgp_signature tag.message in
    four_end (head_text parts.target (kind_word parts.target_kind)) (name_line parts.name) (tagger_line parts.tagger) (body_text message (Some [])) (body_text message (Some signature)) signature (body_ends message signature)
    ∙ ap (λ t. t ++ signature) (sym is)

-- ---- nothing is run

pub not_asked : {R : Type 0} (answers : R → Request → Result Answer run.RunError → R → Type 0) (before : R) (tag : Tag) (options : Options) (error : Error)
    → (error ≡ Memory) ⊎ ((fault : write.Error) × (write_fault tag ≡ Some fault) × (error ≡ Encode fault)) → SignsTag answers before tag options (Err error) before
not_asked answers before tag options error (inl none) = signing.NoMemory (ap Err none) refl
not_asked answers before tag options error (inr (fault, told, is)) = Unwritten fault told (ap Err is) refl
