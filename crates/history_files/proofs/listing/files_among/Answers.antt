use Rattle.std.proofs.Common.{◌∙◌, ap, sym, ◌++◌}
use Rattle.std.specs.Prelude.{option_to_list}
use Rattle.gix_traverse_tree.specs.Recorder.{recorded_of}
use Rattle.history_files.specs.Reading.{line_recorded}
use Rattle.history_files.proofs.Lines.{one_more}
use Rattle.history_files.proofs.listing.files_among.Goals as goal

pub loop-entry-preserved : goal.loop-entry-preserved
loop-entry-preserved c =
    c.in_ok-add_file.ensures
    ∙ ap (λ lines. lines ++ option_to_list (line_recorded (recorded_of c.entry-item.result))) c.loop-entry.invariant
    ∙ sym (one_more c.args.records.now c.loop-entry.entry-index c.entry-item.result c.loop-entry-test.true c.entry-item.is)
