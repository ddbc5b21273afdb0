use Rattle.std.proofs.Common.{◌≡◌, ◌-◌, ◌<◌, length, ap, ◌∙◌, ◌+◌, ◌^◌, arith, [], ◌++◌, take, sym, subst, inl, inr, rules}
use Rattle.std.proofs.lemmas.List.{append-nil, length-drop, length-take, take-append-le}
use Rattle.std.proofs.lemmas.Result.{err_from_is_err_and}
use Rattle.history_word.specs.Held.{held, IsUnbroken}
use Rattle.history_word.specs.Buffer.{unread}
use Rattle.history_word.proofs.HeldLemmas.{held_more, held_kept, length-held, length-filled}
use Rattle.history_word.proofs.TakingLemmas.{consumes_none, reading_counts, told, took_none}
use Rattle.history_word.proofs.buffer.Buffer.fill.Goals as goal

pub returns-in_default-clause-took : goal.returns-in_default-clause-took
returns-in_default-clause-took g c = took_none g.R.Source.left g.R.Source.readings c.args.source.now c.args.self.now

pub invariant_of-self : goal.invariant_of-self
invariant_of-self g c =
    let b = c.make_room.new.self in
    let same = held_kept b.start b.end _ b.bytes c.read.new.buffer (omega (arith, b.ordered)) (omega (arith, b.sized, b.within)) in
    record {
      ordered = b.ordered;
      within = b.within;
      sized = length-filled b.end _ b.bytes c.read.new.buffer (omega (arith, b.sized, b.within)) (omega (arith, c.read.auto.buffer, length-drop b.end b.bytes, b.sized)) ∙ b.sized;
      unbroken = subst (λ bytes. IsUnbroken (take b.scanned bytes)) (sym same) b.unbroken;
    }

pub invariant_of-self-2 : goal.invariant_of-self-2
invariant_of-self-2 g c =
    let b = c.make_room.new.self in
    let n = c.in_ok-count.count in
    let more = held_more b.start b.end n _ b.bytes c.read.new.buffer (omega (arith, b.ordered)) (omega (arith, b.sized, b.within)) c.in_ok-count.ensures.bound.0 in
    let size = length-held b.start b.end b.bytes (omega (arith, b.sized, b.within)) in
    record {
      ordered = omega (arith, b.ordered);
      within = omega (arith, c.in_ok-count.ensures.bound.0, c.read.auto.buffer, length-drop b.end b.bytes, b.sized);
      sized = length-filled b.end _ b.bytes c.read.new.buffer (omega (arith, b.sized, b.within)) (omega (arith, c.read.auto.buffer, length-drop b.end b.bytes, b.sized)) ∙ b.sized;
      unbroken = subst (λ bytes. IsUnbroken (take b.scanned bytes)) (sym more)
          (subst IsUnbroken (sym (take-append-le b.scanned (held b.start b.end b.bytes) (take n c.read.new.buffer) (omega (arith, size, b.ordered)))) b.unbroken);
    }

pub returns-in_err-count-clause-took : goal.returns-in_err-count-clause-took
returns-in_err-count-clause-took g c =
    let b = c.make_room.new.self in
    record {
      more = [];
      came = consumes_none _ _ c.in_err-count.ensures.bytes;
      same = append-nil _ ∙ sym (held_kept b.start b.end _ b.bytes c.read.new.buffer (omega (arith, b.ordered)) (omega (arith, b.sized, b.within)) ∙ c.make_room.ensures.same);
      less_work = omega (arith, c.make_room.ensures.size, c.make_room.ensures.readings);
      made = 0;
      made_through = omega (arith, c.make_room.ensures.readings);
      counted = omega (arith, c.read.ensures.counted);
      gave = inl (omega arith);
    }

pub returns-in_err-count-clause-err : goal.returns-in_err-count-clause-err
returns-in_err-count-clause-err g c =
    let b = c.make_room.new.self in
    let p = err_from_is_err_and c.from_residual.result c.from_residual.ensures.1 in
    rw p.1 (inl (sym c.in_err-count.ensures.failed, held_kept b.start b.end _ b.bytes c.read.new.buffer (omega (arith, b.ordered)) (omega (arith, b.sized, b.within)) ∙ c.make_room.ensures.same))

pub returns-then-readings-clause-took : goal.returns-then-readings-clause-took
returns-then-readings-clause-took g c =
    let b = c.make_room.new.self in
    let n = c.in_ok-count.count in
    let last : c.in-Some.readings ≡ 2 ^ 64 - 1 = search rules in
    record {
      more = take n c.read.new.buffer;
      came = c.in_ok-count.ensures.bytes.0;
      same = ap (λ xs. xs ++ take n c.read.new.buffer) (sym c.make_room.ensures.same) ∙ sym (held_more b.start b.end n _ b.bytes c.read.new.buffer (omega (arith, b.ordered)) (omega (arith, b.sized, b.within)) c.in_ok-count.ensures.bound.0);
      less_work = omega (arith, c.make_room.ensures.size, c.make_room.ensures.readings, b.ordered, c.in_ok-count.ensures.bound.0, c.read.auto.buffer, length-drop b.end b.bytes, b.sized);
      made = 1;
      made_through = omega (arith, c.readings_after-self.ensures.last last, c.make_room.ensures.readings);
      counted = omega (arith, c.read.ensures.counted);
      gave = inr (omega (arith, c.make_room.ensures.readings), omega (arith, c.readings_after-self.ensures.last last, last), omega arith);
    }

pub returns-clause-took : goal.returns-clause-took
returns-clause-took g c =
    let b = c.make_room.new.self in
    let n = c.in_ok-count.count in
    let k = reading_counts b.readings c.readings_after-self.result c.in-Some.readings n (omega (arith, c.make_room.ensures.readings)) c.readings_after-self.ensures.gave (λ none. c.readings_after-self.ensures.idle none (search rules))
    (omega (arith, b.ordered, c.in_ok-count.ensures.bound.0, c.read.auto.buffer, length-drop b.end b.bytes, b.sized)) in
    record {
      more = take n c.read.new.buffer;
      came = c.in_ok-count.ensures.bytes.0;
      same = ap (λ xs. xs ++ take n c.read.new.buffer) (sym c.make_room.ensures.same) ∙ sym (held_more b.start b.end n _ b.bytes c.read.new.buffer (omega (arith, b.ordered)) (omega (arith, b.sized, b.within)) c.in_ok-count.ensures.bound.0);
      less_work = omega (arith, k.1, k.4, c.make_room.ensures.size, c.make_room.ensures.readings, b.ordered, c.in_ok-count.ensures.bound.0, c.read.auto.buffer, length-drop b.end b.bytes, b.sized);
      made = k.0;
      made_through = k.1 ∙ ap (λ r. r + k.0) c.make_room.ensures.readings;
      counted = omega (arith, c.read.ensures.counted, k.3);
      gave = inl (omega (arith, k.2, length-take n c.read.new.buffer, c.in_ok-count.ensures.bound.0));
    }

pub returns-clause-ok : goal.returns-clause-ok
returns-clause-ok g c =
    let b = c.make_room.new.self in
    let n = c.in_ok-count.count in
    let o = c.args.self.now in
    let same = held_more b.start b.end n _ b.bytes c.read.new.buffer (omega (arith, b.ordered)) (omega (arith, b.sized, b.within)) c.in_ok-count.ensures.bound.0 in
    let size : length (unread o) ≡ o.end - o.start = length-held o.start o.end o.bytes (omega (arith, o.sized, o.within)) in
    let room : b.end < 8192 = c.make_room.ensures.room (omega (arith, size, c.requires, c.make_room.ensures.size)) in
    told n (unread o) _ c.read.new.buffer _
    (same ∙ ap (λ xs. xs ++ take n c.read.new.buffer) c.make_room.ensures.same)
    c.in_ok-count.ensures.bound.0
    (λ e. c.in_ok-count.ensures.bytes.1 e (omega (arith, c.read.auto.buffer, room, b.sized, length-drop b.end b.bytes)))
