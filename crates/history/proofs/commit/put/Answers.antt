use Rattle.std.proofs.lemmas.Result.{err_from_is_err_and}
use Rattle.std.proofs.Common.{◌≡◌, ◌∙◌, refl, Err, [], ◌∷◌, ◌⊎◌, ap, inl, inr, sym}
use Rattle.history_store.specs.KeptIds.{kept}
use Rattle.history.proofs.Puts.{folders_now, value_passes, value_stored, value_free, value_taken, value_known, put_stopped}
use Rattle.history_store.proofs.ObjectParts.{values_are_objects}
use Rattle.history_repository.specs.Faults.{fault_of_put}
use Rattle.history_repository.specs.declared.stopped.Stopped.TheVariants as stops
use Rattle.history_store.proofs.Honesty.{more_honesty}
use Rattle.history_store.specs.declared.objects.PutMadeError.TheVariants as puts
use Rattle.history.proofs.commit.put.Goals as goal

unchanged : {F T A : Type 0} (tree : F → T) (new old : F) → A ⊎ (new ≡ old) → A ⊎ (tree new ≡ tree old)
unchanged tree new old (inl gone) = inl gone
unchanged tree new old (inr same) = inr (ap tree same)

counted : {A B C : Type 0} → A ⊎ C → A ⊎ B ⊎ C
counted (inl risen) = inl risen
counted (inr may) = inr (inr may)

pub returns-in_err-put_made-clause-alone : goal.returns-in_err-put_made-clause-alone
returns-in_err-put_made-clause-alone g c =
    let stopped = err_from_is_err_and c.from_residual.result c.from_residual.ensures.1 in
    record {
      kept = record { names = refl; branch = refl; rows = refl; failed = refl };
      kind = c.put_made.ensures.keeps.kind;
      objects = more_honesty g.F.Files _ _ _ _ c.put_made.ensures.keeps.part
          (λ told. let is : c.in_err-put_made.field-0.0 ≡ puts.File = cc (told, c.in_err-put_made.was) in stopped.1 ∙ ap Err (stopped.2 ∙ ap (λ error. stops.Fault (fault_of_put error)) is));
      exist = c.put_made.ensures.exist;
    }

pub returns-clause-alone : goal.returns-clause-alone
returns-clause-alone g c = record {
  kept = record { names = refl; branch = refl; rows = refl; failed = refl };
  kind = c.put_made.ensures.keeps.kind;
  objects = more_honesty g.F.Files _ _ _ _ c.put_made.ensures.keeps.part (λ told. absurd (cc (told, c.in_ok-put_made.was)));
  exist = c.put_made.ensures.exist;
}

pub returns-in_err-put_made-clause-puts : goal.returns-in_err-put_made-clause-puts
returns-in_err-put_made-clause-puts g c = λ value is.
    let kind = c.args.repository.now.objects.kind in
    let old = g.F.Files.history c.args.repository.now.objects.files in
    let new = g.F.Files.history c.put_made.new.self.files in
    let error = c.in_err-put_made.field-0.0 in
    let stopped = err_from_is_err_and c.from_residual.result c.from_residual.ensures.1 in
    record {
      stores = λ values stand known.
          put_stopped _ kind values (value ∷ []) new.tree error c.from_residual.result (stopped.1 ∙ ap Err stopped.2)
          (λ failed. counted (c.put_made.ensures.failed (stand.honest, stand.exist.folders) (values_are_objects kind old.tree values stand.holds stand.own_ids) (c.in_err-put_made.was ∙ ap Err failed)))
          (λ id taken. value_taken kind old.tree new.tree values value c.args.object.now is stand.holds stand.own_ids (c.put_made.ensures.refuses.taken id (c.in_err-put_made.was ∙ ap Err taken) stand.honest));
      passes = λ values stand known.
          value_passes kind old new values value c.args.object.now is stand.holds stand.own_ids
          (λ taken. ap g.F.Files.history (c.put_made.ensures.refuses.untouched stand.honest taken)) (c.put_made.ensures.writes.moments stand.honest);
      known = λ values known. rw (stopped.1) tt;
    }

pub returns-clause-puts : goal.returns-clause-puts
returns-clause-puts g c = λ value is.
    let kind = c.args.repository.now.objects.kind in
    let old = g.F.Files.history c.args.repository.now.objects.files in
    let new = g.F.Files.history c.put_made.new.self.files in
    let put = c.in_ok-put_made.ensures in
    record {
      stores = λ values stand known. (
        value_free kind old.tree new.tree values value c.args.object.now is stand.holds stand.own_ids (put.refuses.free stand.honest),
        value_stored kind old.tree new.tree values value c.args.object.now is stand.holds stand.own_ids (put.refuses.free stand.honest) (put.writes.stored stand.honest)
            (folders_now c.args.object.now old new (c.put_made.ensures.writes.moments stand.honest))
            (unchanged (λ files. (g.F.Files.history files).tree) _ _ (put.writes.finished stand.honest)),
      );
      passes = λ values stand known.
          value_passes kind old new values value c.args.object.now is stand.holds stand.own_ids
          (λ taken. ap g.F.Files.history (c.put_made.ensures.refuses.untouched stand.honest taken)) (c.put_made.ensures.writes.moments stand.honest);
      known = λ values known.
          value_known kind (kept c.args.repository.now.objects.ids) (kept c.put_made.new.self.ids) values value _ (sym is.id) c.in_ok-put_made.ensures.known known;
    }
