use Rattle.std.proofs.Common.{◌≡◌, map, take}
use Rattle.history_texts.specs.Written.{naming_of}
use Rattle.history_check_objects.specs.Links.{plain_link}
use Rattle.history_check_objects.specs.Surveying.{links_of}
use Rattle.history_check_objects.proofs.reading.plain_links.Given as goal

-- the links so far
abbrev pub invariant-loop-object : goal.invariant-loop-object
invariant-loop-object l = links_of l.links.items ≡ map plain_link (map naming_of (take l.object-index l.named))
