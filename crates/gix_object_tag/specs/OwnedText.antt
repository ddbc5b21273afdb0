-- A tag that owns its parts, as it is written.
use Rattle.std.specs.Prelude.{ℤ, Bool, false, not, ◌||◌, ◌==◌, nat_lt, ◌%◌, Option, None, Some, unsigned_abs}
use Rattle.gix_hash.specs.Id.{id_of}
use Rattle.gix_hash.specs.Spelling.{hex_text}
use Rattle.gix_object_lines.specs.declared.lines.actor.Actor.{Actor}
use Rattle.gix_object_lines.specs.Person.{own_person, Person}
use Rattle.gix_object_tag.specs.Tag.{Parts}
use Rattle.gix_object_tag.specs.TagText.{is_marked}
use Rattle.gix_object_tag.specs.declared.tag.owned.Tag.{Tag}

abbrev pub own_tagger : Option Actor → Option Person
own_tagger None = None
own_tagger (Some actor) = Some (own_person actor)

-- the id's digits are written in lower case
abbrev pub own_parts : Tag → Parts
own_parts tag = record {
  target = hex_text (id_of tag.target).digits;
  target_kind = tag.target_kind;
  name = tag.name;
  tagger = own_tagger tag.tagger;
  message = tag.message;
  signature = tag.pgp_signature;
}

-- not whole minutes, or 100 hours and more
abbrev pub is_bad_offset : ℤ → Bool
is_bad_offset offset =
    not (unsigned_abs offset % 60 == 0) || not (nat_lt (unsigned_abs offset) 360_000)

abbrev pub is_bad_actor : Option Actor → Bool
is_bad_actor None = false
is_bad_actor (Some actor) =
    (is_marked actor.name || is_marked actor.email) || is_bad_offset actor.time.offset
