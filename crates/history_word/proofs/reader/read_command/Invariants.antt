use Rattle.std.proofs.Common.{◌≡◌, List, [], Some}
use Rattle.history_model.specs.Spelling.{Part, parts_text}
use Rattle.history_word.specs.TableRuns.{at, reached}
use Rattle.history_word.specs.Buffer.{work}
use Rattle.history_word.specs.Taking.{Took, AsksForMore}
use Rattle.history_word.specs.Drafts.{place_of}
use Rattle.history_word.specs.Come.{HasCome}
use Rattle.history_word.proofs.reader.read_command.Given as goal

abbrev pub invariant-loop-alloc : goal.invariant-loop-alloc
invariant-loop-alloc g l =
    (parts : List Part) × Took g.R.Source.left g.R.Source.readings l.fn.source l.fn.buffer l.source l.buffer (parts_text parts)
    × (reached parts ≡ Some (at [] (place_of l.place))) × HasCome l.place l.draft parts
    × AsksForMore l.fn.source l.fn.buffer l.source (parts_text parts)

abbrev pub decreases-loop-alloc : goal.decreases-loop-alloc
decreases-loop-alloc g l = work l.buffer
