use Rattle.std.proofs.Common.{◌≡◌, ◌++◌, [], refl, sym, ap, subst, ◌∙◌, rules}
use Rattle.std.proofs.lemmas.Result.{err_from_is_err_and}
use Rattle.history_word.specs.TableRuns.{at}
use Rattle.history_word.specs.LineTable as table
use Rattle.history_model.specs.Spelling.{parts_text}
use Rattle.history_model.specs.Stage.{opens}
use Rattle.history_word.proofs.TableLaws.{run_on}
use Rattle.history_word.specs.Taking.{Took, AsksForMore}
use Rattle.history_word.specs.Progress.{StopsFrom, IsCauseOf}
use Rattle.history_word.specs.Drafts.{place_of}
use Rattle.history_word.specs.Come.{HasCome}
use Rattle.history_word.specs.declared.place.Place.TheVariants as place
use Rattle.history_word.proofs.TakingLemmas.{asks_then, took_then, took_none}
use Rattle.history_word.proofs.StopLemmas.{stops_then}
use Rattle.history_word.proofs.ProgressLemmas.{stops_after, cause_is, text_then}
use Rattle.history_word.proofs.CommandLemmas.{spells}
use Rattle.history_word.proofs.reader.read_command.Goals as goal

pub loop-alloc-init : goal.loop-alloc-init
loop-alloc-init g c = ([], took_none g.R.Source.left g.R.Source.readings c.args.source.now c.args.buffer.now, refl, refl, λ _. refl)

pub loop-alloc-preserved : goal.loop-alloc-preserved
loop-alloc-preserved g c =
    let i = c.loop-alloc.invariant in
    let r = c.in_ok-place.ensures in
    let t = r.2.0 in
    let spelled = ap (λ x. parts_text i.0 ++ x) t.spelled ∙ sym (text_then i.0 t.parts) in (
      i.0 ++ t.parts,
      subst (Took g.R.Source.left g.R.Source.readings c.args.source.now c.args.buffer.now c.read_part.new.source c.read_part.new.buffer)
          spelled
          (took_then g.R.Source.left g.R.Source.readings _ _ _ _ _ _ (parts_text i.0) r.0 i.1 r.1),
      run_on opens refl i.0 t.parts (at [] (place_of c.loop-alloc.place)) i.2 ∙ t.leads,
      t.come i.0 i.3,
      subst (AsksForMore c.args.source.now c.args.buffer.now c.read_part.new.source) spelled (asks_then g.R.Source.left g.R.Source.readings _ _ _ _ _ (parts_text i.0) r.0 i.1 i.4 r.2.1),
    )

pub returns-in_err-place : goal.returns-in_err-place
returns-in_err-place g c =
    let p = err_from_is_err_and c.from_residual.result c.from_residual.ensures.1 in
    let i = c.loop-alloc.invariant in
    let here = place_of c.loop-alloc.place in
    rw (p.1, p.2) (stops_then g.R.Source.left g.R.Source.has_failed g.R.Source.readings _ _ _ _ _ _ (parts_text i.0) (StopsFrom [] here) IsCauseOf
    (λ ys m bad. cause_is (parts_text i.0 ++ ys) m (stops_after [] [] table.Start here i.0 (parts_text i.0) ys m i.2 refl bad))
    c.in_err-place.field-0.0 i.1 c.in_err-place.ensures)

pub returns-in-Some : goal.returns-in-Some
returns-in-Some g c =
    let i = c.loop-alloc.invariant in
    let done : c.loop-alloc.place ≡ place.Done = search rules in
    let come = subst (λ p. HasCome p c.loop-alloc.draft i.0) done i.3 in
    (parts_text i.0, i.1, (come.0, spells i.0 (place_of c.loop-alloc.place) c.loop-alloc.draft come.0 i.2 come.1 come.2, c.in-Some.ensures come.0 come.2.has, i.4))

pub returns-in-None : goal.returns-in-None
returns-in-None g c =
    let i = c.loop-alloc.invariant in
    let done : c.loop-alloc.place ≡ place.Done = search rules in
    let come = subst (λ p. HasCome p c.loop-alloc.draft i.0) done i.3 in
    (parts_text i.0, i.1, (come.0, spells i.0 (place_of c.loop-alloc.place) c.loop-alloc.draft come.0 i.2 come.1 come.2, c.is_changing-is_changing.ensures come.0 come.2.has, i.4))
