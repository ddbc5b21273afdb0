-- What the values of the crate hold.
use Rattle.std.specs.Prelude.{ℕ, List, Option, None, Some}
use Rattle.std.specs.Option.{option_map}
use Rattle.bstr.specs.BStr.{bstr_bytes}
use Rattle.bstr.specs.declared.bstr.BStr.{BStr}
use Rattle.gix_object_lines.specs.declared.lines.actor.ActorRef.{ActorRef}
use Rattle.gix_object_lines.specs.Person.{person_of, Person}
use Rattle.gix_object_tag.specs.declared.tag.TagRef.{TagRef}
use Rattle.gix_object_tag.specs.Tag.{Parts}

abbrev pub tagger_of : Option ActorRef → Option Person
tagger_of None = None
tagger_of (Some actor) = Some (person_of actor)

abbrev pub text_of : Option BStr → Option (List ℕ)
text_of text = option_map bstr_bytes text

abbrev pub parts_of : TagRef → Parts
parts_of tag = record {
  target = bstr_bytes tag.target;
  target_kind = tag.target_kind;
  name = bstr_bytes tag.name;
  tagger = tagger_of tag.tagger;
  message = bstr_bytes tag.message;
  signature = text_of tag.pgp_signature;
}
