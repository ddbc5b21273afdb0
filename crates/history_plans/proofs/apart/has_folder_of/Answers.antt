use Rattle.std.proofs.Common.{◌∙◌, arith, sym, take}
use Rattle.gix_ref_way.proofs.Above.{above_slash}
use Rattle.history_plans.proofs.ApartLemmas.{all_passed, found_by_bytes, one_found, one_passed}
use Rattle.history_plans.proofs.apart.has_folder_of.Goals as goal
use Rattle.history_plans.proofs.apart.has_folder_of.Goals.{then-byte-eq47+else-contains, else-byte-eq47}

pub returns-then-contains : goal.returns-then-contains
returns-then-contains c =
    let place = take c.loop-end.end c.args.name.now in
    sym (one_found place c.args.name.now c.args.names.now.keys (above_slash c.args.name.now c.loop-end.end c.loop-end-test.true c.if-byte-eq47.true)
    (sym (found_by_bytes c.args.names.now.keys place) ∙ sym c.contains.ensures ∙ c.if-contains.true))

pub loop-end-preserved : goal.loop-end-preserved
loop-end-preserved c =
    one_passed c.loop-end.end c.args.name.now c.args.names.now.keys c.loop-end.invariant (λ slash. elim c.if-byte-eq47.branch [
      | then-byte-eq47+else-contains w ↦ sym (found_by_bytes c.args.names.now.keys (take c.loop-end.end c.args.name.now)) ∙ sym w.contains.ensures ∙ w.if-contains.false
      | else-byte-eq47 w ↦ absurd (w.if-byte-eq47.false slash)
    ])

pub returns : goal.returns
returns c = sym (all_passed c.loop-end.end c.args.name.now c.args.names.now.keys (omega (arith, c.loop-end-test.false)) c.loop-end.invariant)
