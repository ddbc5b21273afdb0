-- What is written of a tag that owns its parts spells it.
use Rattle.std.proofs.Common.{◌≡◌, refl, false, ◌||◌, length, Option, Some, None}
use Rattle.std.specs.Prelude.{FitsSigned, IfSome}
use Rattle.std.specs.Int.{w64}
use Rattle.gix_hash.specs.Id.{id_of}
use Rattle.gix_hash.specs.Kind.{hex_len}
use Rattle.gix_hash.specs.Spelling.{hex_text, IsHexOf}
use Rattle.gix_object_lines.specs.Writes.{cause_of}
use Rattle.gix_object_lines.specs.declared.lines.actor.Actor.{Actor}
use Rattle.gix_object_lines.proofs.HexDigits.{digits_are_hex}
use Rattle.gix_object_lines.proofs.TimeLemmas.{time_written}
use Rattle.gix_object_tag.specs.Format.{TellsWhen}
use Rattle.gix_object_tag.specs.OwnedText.{own_tagger, own_parts, is_bad_actor, is_bad_offset}
use Rattle.gix_object_tag.specs.Tag.{SpellsTag}
use Rattle.gix_object_tag.specs.TagText.{is_marked, is_marked_tagger, tag_text, tag_refusal}
use Rattle.gix_object_tag.specs.declared.tag.owned.Tag.{Tag}
use Rattle.gix_object_tag.proofs.ActorLines.{spellable}
use Rattle.gix_object_tag.specs.BodyTest.{is_whole_body}
use Rattle.gix_object_tag.proofs.BodyTests.{is_whole_body-Decides}
use Rattle.gix_object_tag.proofs.ReadBack.{passes, written_spells}
use Rattle.std.proofs.lemmas.Bool.{or_parts}

-- ---- taggers

pub good_tagger : (tagger : Option Actor) → is_bad_actor tagger ≡ false → is_marked_tagger (own_tagger tagger) ≡ false
good_tagger None e = refl
good_tagger (Some actor) e = (or_parts (is_marked actor.name || is_marked actor.email) (is_bad_offset actor.time.offset) e).0

tells_when : (tagger : Option Actor) → IfSome tagger (λ actor. FitsSigned w64 actor.time.seconds) → is_bad_actor tagger ≡ false → TellsWhen (own_tagger tagger)
tells_when None fits e = tt
tells_when (Some actor) fits e =
    let both = or_parts (is_marked actor.name || is_marked actor.email) (is_bad_offset actor.time.offset) e in
    let marks = or_parts (is_marked actor.name) (is_marked actor.email) both.0 in
    (actor.time, time_written actor.time fits (spellable actor.name actor.email actor.time marks.0 marks.1 both.1).1.offset_spellable)

-- ---- the whole

pub owned_spells : (tag : Tag) → length (hex_text (id_of tag.target).digits) ≡ hex_len (id_of tag.target).kind → IsHexOf (hex_text (id_of tag.target).digits) (id_of tag.target).digits
    → IfSome tag.tagger (λ actor. FitsSigned w64 actor.time.seconds) → cause_of (tag_refusal (own_parts tag) (is_bad_actor tag.tagger)) ≡ None
    → SpellsTag (id_of tag.target).kind (tag_text (own_parts tag)) (own_parts tag)
owned_spells tag whole spelled fits ok =
    let parts = own_parts tag in
    let pass = passes parts (is_bad_actor tag.tagger) (is_whole_body tag.message tag.pgp_signature) ok in
    written_spells (id_of tag.target).kind parts pass.1 (good_tagger tag.tagger pass.2) (record {
      target = (whole, digits_are_hex (hex_text (id_of tag.target).digits) (id_of tag.target).digits spelled);
      tagger = tells_when tag.tagger fits pass.2;
      body = (is_whole_body-Decides tag.message tag.pgp_signature).0 pass.3;
    })
