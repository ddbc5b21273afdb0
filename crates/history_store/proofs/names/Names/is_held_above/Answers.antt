use Rattle.std.proofs.Common.{◌∙◌, sym, take, arith}
use Rattle.gix_ref_way.proofs.Above.{above_slash}
use Rattle.history_store.proofs.Meetings.{one_passed, all_passed, none_reads, some_reads}
use Rattle.history_store.proofs.names.Names.is_held_above.Goals as goal
use Rattle.history_store.proofs.names.Names.is_held_above.Goals.{then-byte-eq47+in_ok-find+else-is_some, else-byte-eq47}

pub loop-end-init : goal.loop-end-init
loop-end-init g c = λ honest keeps other above below. absurd (omega (arith, below))

pub returns-then-is_some-clause-found : goal.returns-then-is_some-clause-found
returns-then-is_some-clause-found g c = λ honest keeps.
    let name = c.args.name.now in
    let end = c.loop-end.end in
    let tree = (g.F.Files.history c.args.self.now.store.files).tree in
    (take end name, above_slash name end c.loop-end-test.true c.if-byte-eq47.true, some_reads c.args.self.now.kind tree (take end name) c.in_ok-find.field-0 (c.in_ok-find.ensures.found honest keeps) (sym c.is_some.ensures ∙ c.if-is_some.true))

pub loop-end-preserved : goal.loop-end-preserved
loop-end-preserved g c = λ honest keeps.
    let tree = (g.F.Files.history c.args.self.now.store.files).tree in
    one_passed c.loop-end.end c.args.self.now.kind c.args.name.now tree (c.loop-end.invariant honest keeps) (λ slash. elim c.if-byte-eq47.branch [
      | then-byte-eq47+in_ok-find+else-is_some w ↦
          none_reads c.args.self.now.kind tree (take c.loop-end.end c.args.name.now) w.in_ok-find.field-0 (w.in_ok-find.ensures.found honest keeps) (sym w.is_some.ensures ∙ w.if-is_some.false)
      | else-byte-eq47 w ↦ absurd (w.if-byte-eq47.false slash)
    ])

pub returns-clause-found : goal.returns-clause-found
returns-clause-found g c = λ honest keeps. all_passed c.loop-end.end c.args.self.now.kind c.args.name.now (g.F.Files.history c.args.self.now.store.files).tree (omega (arith, c.loop-end-test.false)) (c.loop-end.invariant honest keeps)
