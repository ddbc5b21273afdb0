-- A tag that was read is written to the bytes that it was read from.
use Rattle.std.proofs.Common.{◌≡◌, ◌≢◌, ◌∙◌, ap, refl, sym, ℕ, List, [], ◌∷◌, ◌++◌, append_assoc, append-nil, Option, Some, None, inl, inr}
use Rattle.std.specs.Prelude.{codes}
use Rattle.gix_hash.specs.declared.kind.Kind as hash
use Rattle.gix_object_lines.specs.HexLine.{hex_line}
use Rattle.gix_object_lines.specs.Kind.{kind_word}
use Rattle.gix_object_lines.specs.Person.{Person}
use Rattle.gix_object_tag.specs.Tag.{Parts, IsLine, SpellsTagger, SpellsRest, Nothing, Body, SpellsTag}
use Rattle.gix_object_tag.specs.TagText.{name_line, tagger_line, body_text, tag_text}
use Rattle.gix_object_tag.proofs.ReadBack.{shape}

line_is : (word input value after : List ℕ) → IsLine word input value after → input ≡ (word ++ (value ++ 10 ∷ [])) ++ after
line_is word input value after line =
    line.spelled ∙ sym (append_assoc word (value ++ 10 ∷ []) after ∙ ap (λ t. word ++ t) (append_assoc value (10 ∷ []) after))

tagger_is : (input : List ℕ) (tagger : Option Person) (after : List ℕ) → SpellsTagger input tagger after → input ≡ tagger_line tagger ++ after
tagger_is input None after is = is.0
tagger_is input (Some tagger) after is =
    line_is (codes "tagger ") input is.text after is.line
    ∙ ap (λ text. (codes "tagger " ++ (text ++ 10 ∷ [])) ++ after) (is.actor.cut.spelled ∙ sym (shape tagger.name (codes " <") tagger.email (codes "> ") tagger.time))

body_is : (input message : List ℕ) (signature : Option (List ℕ)) → message ≢ [] → SpellsRest input message signature → input ≡ body_text message signature
body_is input message signature some (Nothing end empty unsigned) = absurd (some empty)
body_is input message None some (Body body spelled is) = spelled ∙ ap (λ b. 10 ∷ b) is.0
body_is input [] (Some signature) some (Body body spelled is) = absurd (some refl)
body_is input (byte ∷ message) (Some signature) some (Body body spelled (front, signed, inl ends)) =
    spelled ∙ ap (λ b. 10 ∷ b) (signed.armored.spelled ∙ ap (λ t. t ++ signature) ends ∙ append_assoc (byte ∷ message) (10 ∷ []) signature)
body_is input (byte ∷ message) (Some signature) some (Body body spelled (front, signed, inr empty)) = absurd (some empty.1)

pub read_is_written : (kind : hash.Kind) (input : List ℕ) (parts : Parts) → SpellsTag kind input parts → parts.message ≢ [] → tag_text parts ≡ input
read_is_written kind input parts is some =
    let word = codes "type " ++ (kind_word parts.target_kind ++ 10 ∷ []) in
    let body = body_text parts.message parts.signature in
    let from_body : is.after_tagger ≡ body ++ [] = body_is is.after_tagger parts.message parts.signature some is.rest ∙ sym (append-nil body) in
    let from_tagger : is.after_name ≡ tagger_line parts.tagger ++ (body ++ []) = tagger_is is.after_name parts.tagger is.after_tagger is.tagger ∙ ap (λ t. tagger_line parts.tagger ++ t) from_body in
    let from_name : is.after_kind ≡ name_line parts.name ++ (tagger_line parts.tagger ++ (body ++ [])) =
    line_is (codes "tag ") is.after_kind parts.name is.after_name is.name.line ∙ ap (λ t. name_line parts.name ++ t) from_tagger in
    let from_kind : is.after_target ≡ word ++ (name_line parts.name ++ (tagger_line parts.tagger ++ (body ++ []))) =
    line_is (codes "type ") is.after_target (kind_word parts.target_kind) is.after_kind is.target_kind ∙ ap (λ t. word ++ t) from_name in
    sym (is.target.spelled ∙ ap (λ t. hex_line (codes "object") parts.target ++ t) from_kind
    ∙ sym (append_assoc (hex_line (codes "object") parts.target) word (name_line parts.name ++ (tagger_line parts.tagger ++ (body ++ [])))))
