use Rattle.std.proofs.Common.{◌≡◌, ap, refl, rules, ℕ, ◌<◌, ◌≤◌, List, length, min, arith}
use Rattle.gix_ref_log.proofs.LogGivesLemmas.{begins}
use Rattle.gix_ref_log.proofs.iter.reverse.Goals as goal

pub returns-clause-begins : goal.returns-clause-begins
returns-clause-begins g c = λ honest.
    let log = g.R.ReadAt.contents c.args.log in
    let all = c.in-Ok.ensures.told honest in
    let len = c.read_before.ensures.len in
    let some : 0 < length c.args.buffer.now = search rules in
    let inside : c.in-Ok.len ≤ length log = omega (arith, all) in
    let held : c.in_ok-held.held ≡ min c.in-Ok.len (length c.read_before.new.buffer) = omega (arith, c.in_ok-held.ensures.held, len) in
    let room : 0 < length c.read_before.new.buffer = omega (arith, some, len) in (
      refl,
      begins log c.in-Ok.len c.in_ok-held.held (length c.without_feed-kept.result.now) c.read_before.new.buffer (c.in_ok-held.ensures.told honest inside) all held room
          (ap (λ (t : List ℕ). length t) c.without_feed-kept.ensures.bytes),
    )
