-- A tag that was read is written without a refusal.
use Rattle.std.proofs.Common.{◌≡◌, refl, ℕ, Bool, true, false, not, ◌||◌, ◌&&◌, List, [], ◌∷◌, length, Option, None, Some}
use Rattle.std.specs.Prelude.{◌==◌}
use Rattle.std.proofs.lemmas.Bool.Decides.{Decides-eqb}
use Rattle.gix_hash.specs.Kind.{hex_len}
use Rattle.gix_hash.specs.declared.kind.Kind as hash
use Rattle.gix_hash.specs.declared.kind.Kind.TheVariants.{Sha1, Sha256}
use Rattle.gix_object_lines.specs.HexLine.{IsHex, is_id}
use Rattle.gix_object_lines.specs.Kind.{kind_word}
use Rattle.gix_object_lines.proofs.TimeTests.{tells_time-Decides}
use Rattle.gix_object_lines.specs.Person.{Person}
use Rattle.gix_object_tag.specs.Format.{TellsWhen}
use Rattle.gix_object_tag.specs.NameTest.{name_fault}
use Rattle.gix_object_tag.specs.Pieces.{first_refusal}
use Rattle.gix_object_tag.specs.Tag.{Parts, SpellsTag}
use Rattle.gix_object_tag.specs.TagText.{head_text, name_line, name_refusal, is_marked_tagger, is_bad_tagger, unspellable_unless, tagger_piece, body_piece, tag_refusal}
use Rattle.gix_object_tag.proofs.BodyTests.{is_whole_body-Decides}
use Rattle.gix_object_tag.proofs.ReadFormat.{read_in_format}
use Rattle.std.proofs.lemmas.Bool.{or_right}

pub target_is_id : (kind : hash.Kind) (target : List ℕ) → IsHex (hex_len kind) target → is_id target ≡ true
target_is_id Sha1 target is = let len = (Decides-eqb (length target) 40).1 is.0 in λ i. (len i || length target == 64) && is.1 i
target_is_id Sha256 target is = let len = or_right (length target == 40) (length target == 64) ((Decides-eqb (length target) 64).1 is.0) in λ i. len i && is.1 i

tagger_is_good : (tagger : Option Person) → is_marked_tagger tagger ≡ false → TellsWhen tagger → is_bad_tagger tagger ≡ false
tagger_is_good None plain tells = refl
tagger_is_good (Some tagger) plain tells = let told = (tells_time-Decides tagger.time).1 tells in λ i. plain i || not (told i)

pub accepted : (kind : hash.Kind) (input : List ℕ) (parts : Parts) → SpellsTag kind input parts → name_fault parts.name ≡ None → is_marked_tagger parts.tagger ≡ false → tag_refusal parts (is_bad_tagger parts.tagger) ≡ None
accepted kind input parts is named plain =
    let format = read_in_format kind input parts is in
    let target = target_is_id kind parts.target format.target in
    let tagger = tagger_is_good parts.tagger plain format.tagger in
    let whole = (is_whole_body-Decides parts.message parts.signature).1 format.body in
    λ i. first_refusal (
    record { text = head_text parts.target (kind_word parts.target_kind); refusal = unspellable_unless (target i) }
    ∷ record { text = name_line parts.name; refusal = name_refusal (named i) }
    ∷ tagger_piece parts (tagger i)
    ∷ body_piece parts (whole i)
    ∷ []
    )
