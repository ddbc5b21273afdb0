use Rattle.gix_traverse_topo.proofs.Turning.{popped_none, turn_falls, steps, turn_of}
use Rattle.gix_traverse_topo.proofs.iter.Topo.turn.Goals as goal

pub returns-in-Ok-clause-ids : goal.returns-in-Ok-clause-ids
returns-in-Ok-clause-ids g c = c.in-Ok.ensures.ids

pub returns-in-Ok-clause-hidden : goal.returns-in-Ok-clause-hidden
returns-in-Ok-clause-hidden g c = c.in-Ok.ensures.hidden

pub returns-in-Ok-clause-stood : goal.returns-in-Ok-clause-stood
returns-in-Ok-clause-stood g c = λ sorting rows h tips hs xs finished st.
    steps sorting rows h tips c.args.self.now.parents hs xs finished c.args.self.now.known c.args.self.now.ready st c.in_ok-pending.pending c.pop.new.self c.in_ok-pending.ensures.popped c.give.new.known c.give.new.ready c.in-Ok.info c.in-Ok.ensures.ids c.in-Ok.ensures.hidden c.in-Ok.ensures.gives

pub returns-in-Ok-clause-ended : goal.returns-in-Ok-clause-ended
returns-in-Ok-clause-ended g c = λ e. absurd (popped_none c.args.self.now.ready c.pop.new.self c.in_ok-pending.pending c.in_ok-pending.ensures.popped e)

pub returns-in-Ok-clause-falls : goal.returns-in-Ok-clause-falls
returns-in-Ok-clause-falls g c = turn_falls c.args.self.now.known c.give.new.known c.args.self.now.ready c.pop.new.self c.give.new.ready c.in_ok-pending.pending c.in_ok-pending.ensures.popped c.in-Ok.ensures.falls

pub returns-in-Err-clause-ids : goal.returns-in-Err-clause-ids
returns-in-Err-clause-ids g c = c.in-Err.ensures.ids

pub returns-in-Err-clause-hidden : goal.returns-in-Err-clause-hidden
returns-in-Err-clause-hidden g c = c.in-Err.ensures.hidden

pub returns-in-Err-clause-refused : goal.returns-in-Err-clause-refused
returns-in-Err-clause-refused g c = λ sorting rows tips finished h hs xs st.
    turn_of sorting rows h tips c.args.self.now.parents hs xs finished c.args.self.now.known c.args.self.now.ready st c.in_ok-pending.pending c.pop.new.self c.in_ok-pending.ensures.popped c.in-Err.error c.in-Err.ensures.refused

pub returns-in-Err-clause-ended : goal.returns-in-Err-clause-ended
returns-in-Err-clause-ended g c = λ e. absurd (popped_none c.args.self.now.ready c.pop.new.self c.in_ok-pending.pending c.in_ok-pending.ensures.popped e)
