use Rattle.std.proofs.Common.{inl, inr, ◌∙◌}
use Rattle.std.proofs.lemmas.Result.{err_from_is_err_and}
use Rattle.gix_traverse_topo.proofs.Turning.{gives_of, take_refused, take_falls}
use Rattle.gix_traverse_topo.proofs.iter.give.Goals as goal

pub returns-clause-gives : goal.returns-clause-gives
returns-clause-gives c =
    gives_of c.take.result c.args.number.0 c.args.along c.args.known.now c.count_row_off.new.known c.take.new.self c.args.ready.now c.count_row_off.new.ready
    c.in_ok-count_row_off.ensures.ids c.in_ok-count_row_off.ensures.all_facts c.take.ensures.counts (c.take.ensures.as_many ∙ c.in_ok-count_row_off.ensures.as_many) c.in_ok-check.ensures.read c.take.ensures.others c.in_ok-count_row_off.ensures.off c.take.ensures.taken

pub returns-clause-refused : goal.returns-clause-refused
returns-clause-refused c = take_refused c.take.result c.args.number.0 c.args.along c.args.known.now c.count_row_off.new.known c.in_ok-count_row_off.ensures.ids c.in_ok-count_row_off.ensures.all_facts c.take.ensures.refused

pub returns-clause-falls : goal.returns-clause-falls
returns-clause-falls c = take_falls c.take.result c.args.known.now c.count_row_off.new.known c.take.new.self c.args.ready.now c.count_row_off.new.ready c.take.ensures.hidden c.take.ensures.counts c.in_ok-count_row_off.ensures.falls

pub returns-in_err-check-clause-refused : goal.returns-in_err-check-clause-refused
returns-in_err-check-clause-refused c =
    let p = err_from_is_err_and c.from_residual.result c.from_residual.ensures.1 in
    rw (p.1, p.2) (λ way h before hs xs facts at goes once. inr (c.in_err-check.ensures.refused facts at))

pub returns-in_err-count_row_off-clause-refused : goal.returns-in_err-count_row_off-clause-refused
returns-in_err-count_row_off-clause-refused c =
    let p = err_from_is_err_and c.from_residual-in_err-count_row_off.result c.from_residual-in_err-count_row_off.ensures.1 in
    rw (p.1, p.2) (λ way h before hs xs facts at goes once. inl (c.in_err-count_row_off.ensures.refused way h before hs xs facts at goes once))
