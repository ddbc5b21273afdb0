use Rattle.std.proofs.Common.{◌≡◌, [], map, length}
use Rattle.std.specs.Prelude.{◌⊎◌}
use Rattle.gix_object_commit.specs.Commit.{field_text, IsField}
use Rattle.gix_object_commit.specs.Reading.{IsUnspaced}
use Rattle.gix_object_commit.specs.LineViews.{field_of}
use Rattle.gix_object_commit.proofs.Lines.{BeginsMessage}
use Rattle.gix_object_commit.proofs.Progress.{Progress}
use Rattle.gix_object_commit.proofs.commit.decode.read_headers.Given as goal

abbrev pub invariant-headers : goal.invariant-headers
invariant-headers l = Progress field_text IsField BeginsMessage l.input (map field_of l.headers.items) l.rest × ((map field_of l.headers.items ≡ []) ⊎ IsUnspaced l.rest)

abbrev pub decreases-headers : goal.decreases-headers
decreases-headers l = length l.rest
