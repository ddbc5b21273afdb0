-- Which tags that were read are written.
use Rattle.std.specs.Prelude.{◌≡◌, false, None}
use Rattle.gix_object_tag.specs.NameTest.{name_fault}
use Rattle.gix_object_tag.specs.Tag.{Parts}
use Rattle.gix_object_tag.specs.TagText.{is_marked_tagger}

-- the name is one that Git makes, and the tagger's name and email have no `<`, `>` or line feed
abbrev pub IsWritable : Parts → Type 0
IsWritable parts = (name_fault parts.name ≡ None) × (is_marked_tagger parts.tagger ≡ false)
