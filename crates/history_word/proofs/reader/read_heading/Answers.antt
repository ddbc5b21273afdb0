use Rattle.std.proofs.Common.{◌≡◌, ◌+◌, ◌++◌, take, None, subst, arith, ap, sym, ◌∙◌}
use Rattle.std.specs.Option.{option_map}
use Rattle.std.proofs.lemmas.List.{length-append, length-take}
use Rattle.history_model.specs.Bytes.{line}
use Rattle.history_word.specs.TableRuns.{next_offered, IsLineAt}
use Rattle.history_word.specs.Buffer.{unread}
use Rattle.history_word.specs.Drafts.{place_of}
use Rattle.history_word.proofs.TakingLemmas.{took_then, skipped, came_unread}
use Rattle.history_word.proofs.ProgressLemmas.{line_taken, strange_stops, one_heading}
use Rattle.history_word.proofs.reader.read_heading.Goals as goal

pub returns-in_default : goal.returns-in_default
returns-in_default g c =
    let w = c.in_ok-length.ensures in
    let b = c.read_line.new.buffer in
    let n = c.in_ok-length.length in (
      unread b,
      came_unread g.R.Source.left g.R.Source.readings _ _ _ _ w.0 w.1 w.2.0,
      strange_stops (place_of c.args.place) n (unread b) c.requires w.2.1
          (λ at. c.in_default.ensures.none c.args.place (subst (λ u. IsLineAt (place_of c.args.place) (take n u)) (sym c.unread.ensures) at)),
      λ e. absurd cc,
    )

pub returns-in_default-next : goal.returns-in_default-next
returns-in_default-next g c =
    let w = c.in_ok-length.ensures in
    let b = c.read_line.new.buffer in
    let n = c.in_ok-length.length in
    let l = c.in-Some.ensures.found in (
      unread b,
      came_unread g.R.Source.left g.R.Source.readings _ _ _ _ w.0 w.1 w.2.0,
      strange_stops (place_of c.args.place) n (unread b) c.requires w.2.1
          (λ at.
          let text : take n (unread b) ≡ take n c.unread.result.now = ap (take n) (sym c.unread.ensures) in
          let same = one_heading l.heading at.heading (take n (unread b)) (text ∙ l.spelled) l.known l.sized at.spelled at.known at.sized in
          let none : next_offered (place_of c.args.place) l.heading ≡ None = sym (c.next.ensures l.heading l.is) ∙ ap (option_map place_of) c.in_default-next.is in
          let e = sym none ∙ ap (next_offered (place_of c.args.place)) same ∙ at.stands in
          cc),
      λ e. absurd cc,
    )

pub returns : goal.returns
returns g c =
    let w = c.in_ok-length.ensures in
    let b = c.read_line.new.buffer in
    let n = c.in_ok-length.length in
    let s = w.2.1 in
    let l = c.in-Some.ensures.found in (
      w.0 ++ take (n + 1) (unread b),
      took_then g.R.Source.left g.R.Source.readings _ _ _ _ _ _ w.0 (take (n + 1) (unread b)) w.1
          (skipped g.R.Source.left g.R.Source.readings _ b c.skip.new.self (n + 1) (omega (arith, s.within)) c.skip.ensures.rest c.skip.ensures.readings c.skip.ensures.work),
      (
        record {
          heading = l.heading;
          spelled = ap (λ xs. xs ++ take (n + 1) (unread b)) w.2.0 ∙ line_taken n (unread b) s ∙ ap line (ap (take n) (sym c.unread.ensures) ∙ l.spelled);
          known = l.known;
          sized = l.sized;
          stands = sym (c.next.ensures l.heading l.is) ∙ ap (option_map place_of) c.in-Some-next.is;
          is = l.is;
        },
        λ all. w.2.2 (omega (arith, all, length-append w.0 (take (n + 1) (unread b)), length-take (n + 1) (unread b), s.within)),
      ),
    )
