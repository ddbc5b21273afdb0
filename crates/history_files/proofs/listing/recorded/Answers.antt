use Rattle.std.proofs.Common.{ap, sym, subst, Result}
use Rattle.gix_traverse_tree.specs.declared.recorder.Recorder.{Recorder}
use Rattle.history_files.specs.declared.error.ReadError.{ReadError}
use Rattle.gix_hash.specs.Id.{id_of}
use Rattle.history_files.specs.Reading.{OwnFault, StopsBelow}
use Rattle.history_files.proofs.Breaks.{below_failed, from_err, stops_below}
use Rattle.history_files.proofs.Lines.{recorded_lines, own_fault}
use Rattle.history_files.proofs.listing.recorded.Goals as goal

pub returns-in-Ok-clause-files : goal.returns-in-Ok-clause-files
returns-in-Ok-clause-files g c = λ honest kind files is.
    recorded_lines (g.S.Lookup.table c.args.store.now) kind honest files (id_of c.args.root.now) is c.new-recorder.result c.depthfirst.new.delegate c.new-recorder.ensures c.in-Ok.ensures.whole

pub returns-in-Err-clause-refused : goal.returns-in-Err-clause-refused
returns-in-Err-clause-refused g c = λ honest kind files is.
    subst (OwnFault (g.S.Lookup.may_fail c.args.store.now)) (sym c.read_error.ensures)
    (own_fault (g.S.Lookup.table c.args.store.now) kind honest files c.args.root.now is c.new-recorder.result c.depthfirst.new.delegate c.in-Err.error c.in-Err.ensures.stopped)

pub returns-in-Err-clause-stopped : goal.returns-in-Err-clause-stopped
returns-in-Err-clause-stopped g c =
    let store = c.args.store.now in
    subst (StopsBelow (g.S.Lookup.is_honest store) (g.S.Lookup.may_fail store) (g.S.Lookup.table store) c.args.root.now) (sym c.read_error.ensures)
    (stops_below (g.S.Lookup.table store) c.args.root.now c.new-recorder.result c.depthfirst.new.delegate c.in-Err.error c.in-Err.ensures.stopped)

pub returns-in-Err-clause-failed : goal.returns-in-Err-clause-failed
returns-in-Err-clause-failed g c = λ e.
    below_failed (g.S.Lookup.table c.args.store.now) c.args.root.now c.read_error.result (returns-in-Err-clause-stopped g c)
    (ap (λ (r : Result Recorder ReadError). from_err r c.read_error.result) e)
