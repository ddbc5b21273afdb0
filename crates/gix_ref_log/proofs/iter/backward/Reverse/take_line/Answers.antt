use Rattle.std.proofs.Common.{◌≡◌, ◌∙◌, ap, refl, sym, subst, Err, ℕ, List, ◌<◌, ◌+◌, ◌-◌, [], length, take, drop, arith}
use Rattle.std.proofs.lemmas.List.{drop-take}
use Rattle.gix_ref_log.specs.LogPlace.{IsWindow}
use Rattle.gix_ref_log.proofs.LogGivesLemmas.{gives_error, gives_line}
use Rattle.gix_ref_log.proofs.LogWindowLemmas.{ends_first, goes_on, live, too_long}
use Rattle.gix_ref_log.proofs.iter.backward.Reverse.take_line.Goals as goal

pub returns-in-Err-clause-told : goal.returns-in-Err-clause-told
returns-in-Err-clause-told g c = λ left honest at.
    let s = c.args.self.now in
    let window = (live s.is_done _ _ c.requires at).0 in
    gives_error (length s.buffer.now) g.R.ReadAt.may_fail g.R.ReadAt.gives_all s.given left c.in-Err.error
    (λ long. too_long (g.R.ReadAt.contents s.log) s.is_done s.end s.held s.buffer.now left (length s.buffer.now) c.requires at (c.in-Err.ensures.too_long honest window (ap Err long)))
    (λ failed. c.in-Err.ensures.failed (ap Err failed))
    (λ short all. c.in-Err.ensures.short honest all window (ap Err short))
    (λ empty. c.in-Err.ensures.some_buffer (ap Err empty))
    c.in-Err.ensures.no_decode

pub returns-then-start-eq0-clause-told : goal.returns-then-start-eq0-clause-told
returns-then-start-eq0-clause-told g c = λ left honest at.
    let s = c.args.self.now in
    let log = g.R.ReadAt.contents s.log in
    let room = length s.buffer.now in
    let buffer = c.read_last-read.new.buffer in
    let start = c.in-Ok.found.0 in
    let held = c.in-Ok.found.1 in
    let text = take (held - start) (drop start buffer) in
    let is = c.in-Ok.ensures.told honest (live s.is_done _ _ c.requires at).0 in
    let bounds = c.in-Ok.ensures.bounds in
    let sum : start + (held - start) ≡ held = omega (arith, bounds.0) in
    let text_is = sym (drop-take start (held - start) buffer) ∙ ap (λ n. drop start (take n buffer)) sum in
    let none : start ≡ 0 = omega (arith, c.if-start-eq0.true) in
    let next = ends_first log s.is_done s.end s.held s.buffer.now left held start buffer text room c.requires at is bounds.1 bounds.2 c.read_last-read.ensures.len text_is none in
    ([], refl, rw c.ok_or-line.ensures.value (gives_line room g.R.ReadAt.may_fail g.R.ReadAt.gives_all s.given left text [] c.in-Ok.found.2 next.0 next.1 c.in-Ok.ensures.own))

pub returns-clause-told : goal.returns-clause-told
returns-clause-told g c = λ left honest at.
    let s = c.args.self.now in
    let log = g.R.ReadAt.contents s.log in
    let room = length s.buffer.now in
    let buffer = c.read_last-read.new.buffer in
    let start = c.in-Ok.found.0 in
    let held = c.in-Ok.found.1 in
    let text = take (held - start) (drop start buffer) in
    let is = c.in-Ok.ensures.told honest (live s.is_done _ _ c.requires at).0 in
    let bounds = c.in-Ok.ensures.bounds in
    let sum : start + (held - start) ≡ held = omega (arith, bounds.0) in
    let text_is = sym (drop-take start (held - start) buffer) ∙ ap (λ n. drop start (take n buffer)) sum in
    let some : 0 < start = omega (arith, c.if-start-eq0.false) in
    let next = goes_on log s.is_done s.end s.held s.buffer.now left held start buffer text room c.requires at is bounds.1 bounds.2 c.read_last-read.ensures.len text_is some in
    let window = λ (b : List ℕ) (same : buffer ≡ b). subst (IsWindow log (s.end - (held - start + 1)) (start - 1)) same next.1.0 in
    (next.0, (window _ refl, next.1.1), rw c.ok_or-line.ensures.value (gives_line room g.R.ReadAt.may_fail g.R.ReadAt.gives_all s.given left text next.0 c.in-Ok.found.2 next.2 next.3 c.in-Ok.ensures.own))
