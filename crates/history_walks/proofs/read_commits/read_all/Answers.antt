use Rattle.std.proofs.Common.{◌≡◌, ◌∙◌, ap, not, sym, subst, true}
use Rattle.gix_hash.specs.Id.{Id}
use Rattle.gix_traverse_commit.specs.Giving.{GivesNext}
use Rattle.gix_traverse_commit.specs.Simply.{graph_of, objects_of}
use Rattle.gix_traverse_commit_known.specs.Told.{rows_of}
use Rattle.gix_traverse_commit_known.specs.declared.accept.All.{All}
use Rattle.history_walks.specs.Faults.{WalkFault, as_walked}
use Rattle.history_walks.specs.declared.error.WalkError.TheVariants.{Memory}
use Rattle.history_walks.proofs.Reading.{HasRead, none_told, one_read, one_rowed, some_told}
use Rattle.history_walks.proofs.Walking.{all_given, stops_walk, told_error}
use Rattle.history_walks.proofs.read_commits.read_all.Goals as goal
use Rattle.history_walks.proofs.read_commits.read_all.Goals.{then-is_none+in_ok-content+in_ok-insert+in-Some-1, then-is_none+in_ok-content+in_ok-insert+in-None-1, else-is_none}

abbrev goes : All → Id → All → Type 0
goes before id after = after ≡ before

pub walk-preserved : goal.walk-preserved
walk-preserved g c =
    elim c.if-is_none.branch [
      | then-is_none+in_ok-content+in_ok-insert+in-Some-1 w ↦ subst (λ x. HasRead g.F.Lookup.is_honest g.F.Lookup.may_fail g.F.Lookup.table g.F.Lookup.ids c.args.walk c.next.new.self x) (sym w.contents-is)
          (one_read g.F.Lookup.is_honest g.F.Lookup.may_fail g.F.Lookup.table g.F.Lookup.ids c.args.walk goes c.walk.walk c.next.new.self c.walk.contents c.walk.invariant c.in-Some.info c.in_ok-info.info c.in-Some.ensures.steps c.in_ok-info.was
          w.insert.new.self (none_told c.in_ok-info.info.generation (c.is_none.ensures ∙ ap not w.if-is_none.true)) w.in_ok-content.content (w.in_ok-content.ensures.items ∙ w.commit_data.ensures) w.in_ok-insert.ensures.updates)
      | then-is_none+in_ok-content+in_ok-insert+in-None-1 w ↦ subst (λ x. HasRead g.F.Lookup.is_honest g.F.Lookup.may_fail g.F.Lookup.table g.F.Lookup.ids c.args.walk c.next.new.self x) (sym w.contents-is)
          (one_read g.F.Lookup.is_honest g.F.Lookup.may_fail g.F.Lookup.table g.F.Lookup.ids c.args.walk goes c.walk.walk c.next.new.self c.walk.contents c.walk.invariant c.in-Some.info c.in_ok-info.info c.in-Some.ensures.steps c.in_ok-info.was
          w.insert.new.self (none_told c.in_ok-info.info.generation (c.is_none.ensures ∙ ap not w.if-is_none.true)) w.in_ok-content.content (w.in_ok-content.ensures.items ∙ w.commit_data.ensures) w.in_ok-insert.ensures.updates)
      | else-is_none w ↦
          let told = some_told c.in_ok-info.info.generation (c.is_none.ensures ∙ ap not w.if-is_none.false) in
          subst (λ x. HasRead g.F.Lookup.is_honest g.F.Lookup.may_fail g.F.Lookup.table g.F.Lookup.ids c.args.walk c.next.new.self x) (sym w.contents-is)
          (one_rowed g.F.Lookup.is_honest g.F.Lookup.may_fail g.F.Lookup.table g.F.Lookup.ids c.args.walk goes c.walk.walk c.next.new.self c.walk.contents c.walk.invariant c.in-Some.info c.in_ok-info.info c.in-Some.ensures.steps c.in_ok-info.was told.0 told.1)
    ]

pub walk-preserved-after-is_none : goal.walk-preserved-after-is_none
walk-preserved-after-is_none g c =
    elim c.if-is_none.branch [
      | then-is_none+in_ok-content+in_ok-insert+in-Some-1 w ↦ subst (λ x. HasRead g.F.Lookup.is_honest g.F.Lookup.may_fail g.F.Lookup.table g.F.Lookup.ids c.args.walk c.next.new.self x) (sym w.contents-is)
          (one_read g.F.Lookup.is_honest g.F.Lookup.may_fail g.F.Lookup.table g.F.Lookup.ids c.args.walk goes c.walk.walk c.next.new.self c.walk.contents c.walk.invariant c.in-Some.info c.in_ok-info.info c.in-Some.ensures.steps c.in_ok-info.was
          w.insert.new.self (none_told c.in_ok-info.info.generation (c.is_none.ensures ∙ ap not w.if-is_none.true)) w.in_ok-content.content (w.in_ok-content.ensures.items ∙ w.commit_data.ensures) w.in_ok-insert.ensures.updates)
      | then-is_none+in_ok-content+in_ok-insert+in-None-1 w ↦ subst (λ x. HasRead g.F.Lookup.is_honest g.F.Lookup.may_fail g.F.Lookup.table g.F.Lookup.ids c.args.walk c.next.new.self x) (sym w.contents-is)
          (one_read g.F.Lookup.is_honest g.F.Lookup.may_fail g.F.Lookup.table g.F.Lookup.ids c.args.walk goes c.walk.walk c.next.new.self c.walk.contents c.walk.invariant c.in-Some.info c.in_ok-info.info c.in-Some.ensures.steps c.in_ok-info.was
          w.insert.new.self (none_told c.in_ok-info.info.generation (c.is_none.ensures ∙ ap not w.if-is_none.true)) w.in_ok-content.content (w.in_ok-content.ensures.items ∙ w.commit_data.ensures) w.in_ok-insert.ensures.updates)
      | else-is_none w ↦
          let told = some_told c.in_ok-info.info.generation (c.is_none.ensures ∙ ap not w.if-is_none.false) in
          subst (λ x. HasRead g.F.Lookup.is_honest g.F.Lookup.may_fail g.F.Lookup.table g.F.Lookup.ids c.args.walk c.next.new.self x) (sym w.contents-is)
          (one_rowed g.F.Lookup.is_honest g.F.Lookup.may_fail g.F.Lookup.table g.F.Lookup.ids c.args.walk goes c.walk.walk c.next.new.self c.walk.contents c.walk.invariant c.in-Some.info c.in_ok-info.info c.in-Some.ensures.steps c.in_ok-info.was told.0 told.1)
    ]

pub returns-in_err-info-clause-refused : goal.returns-in_err-info-clause-refused
returns-in_err-info-clause-refused g c =
    let read = c.walk.invariant in
    λ is h told a sure made. told_error (WalkFault (g.F.Lookup.may_fail (objects_of c.args.walk)) (rows_of (graph_of c.args.walk)) (g.F.Lookup.table (objects_of c.args.walk)) h a.tips a.hidden) c.from_residual.result (as_walked c.in_err-info.field-0.0)
    c.from_residual.ensures.1
    (stops_walk g.F.Lookup.is_honest g.F.Lookup.may_fail g.F.Lookup.table g.F.Lookup.ids goes c.args.walk c.walk.walk c.next.new.self read.0 read.1.objects read.1.rows read.1.stands c.in-Some.info c.in_err-info.field-0.0 c.in-Some.ensures.steps c.in_err-info.was is h told a sure
    made)

pub returns-in_err-insert-clause-refused : goal.returns-in_err-insert-clause-refused
returns-in_err-insert-clause-refused g c =
    λ is h told a sure made. told_error (WalkFault (g.F.Lookup.may_fail (objects_of c.args.walk)) (rows_of (graph_of c.args.walk)) (g.F.Lookup.table (objects_of c.args.walk)) h a.tips a.hidden) c.from_residual-in_err-insert.result Memory
    c.from_residual-in_err-insert.ensures.1 tt

pub returns-clause-reads : goal.returns-clause-reads
returns-clause-reads g c =
    let read = c.walk.invariant in
    let before = c.walk.walk in
    let steps = subst (λ item. GivesNext (λ _ _. true) goes (g.F.Lookup.is_honest (objects_of before)) (g.F.Lookup.may_fail (objects_of before)) (g.F.Lookup.table (objects_of before)) (g.F.Lookup.ids (objects_of before)) before item c.next.new.self) c.in_default.is c.next.ensures.steps in
    λ is h told a sure made. (
      read.0,
      all_given g.F.Lookup.is_honest g.F.Lookup.may_fail g.F.Lookup.table g.F.Lookup.ids goes c.args.walk before c.next.new.self read.0 read.1.objects read.1.rows read.1.stands steps is h told a sure made,
      read.1.kept is h told,
    )
