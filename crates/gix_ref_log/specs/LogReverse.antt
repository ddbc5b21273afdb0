-- Where the lines of a log are from its end.
use Rattle.gix_ref_log.specs.LogBackward.{Stand}
use Rattle.gix_ref_log.specs.declared.iter.backward.Reverse.{Reverse}

abbrev pub stand_of : {R : Type 0} → Reverse R → Stand
stand_of reader = record {
  is_done = reader.is_done;
  end = reader.end;
  held = reader.held;
  buffer = reader.buffer.now;
  given = reader.given;
}
