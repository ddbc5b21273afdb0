use Rattle.std.proofs.Common.{[], Err, ap, refl, subst, sym, ◌∙◌, arith}
use Rattle.std.proofs.lemmas.List.{append-nil}
use Rattle.std.proofs.lemmas.Option.{same_Some}
use Rattle.gix_ref_file.specs.History.{trees}
use Rattle.history_rounds.proofs.RoundsMade.{failed_recovering, grown, recovered_part, recovered_whole, still_honest, stayed}
use Rattle.history_rounds.proofs.rounds.round.Goals as goal

pub returns-then-not-has_failed-clause-round : goal.returns-then-not-has_failed-clause-round
returns-then-not-has_failed-clause-round g c = λ r honest_objects honest_names whole.
    let F = g.F.Files in
    let same = c.in-Ok.ensures.ok in
    let ran = c.run-ended.ensures.runs r same.2 (c.in-Ok.ensures.same r honest_objects honest_names whole) in
    stayed F.history F.failures F.reading_may_fail c.args.kind c.args.objects c.args.names c.in-Ok.repository c.run-ended.new.repository same.0 same.1 r ran.new ran.commands ran.replies ran.read ran.written whole
    (c.run-ended.ensures.later r same.2 (c.in-Ok.ensures.same r honest_objects honest_names whole)) _ _ c.run-ended.result ran.ends ran.traced _ _ ran.reads ran.writes
    c.into_parts-objects.result.0 c.into_parts-objects.result.1 c.into_parts-objects.result.0 c.into_parts-objects.result.1 c.into_parts-objects.ensures.objects c.into_parts-objects.ensures.names
    ([], sym (append-nil (trees (F.history c.into_parts-objects.result.0)))) ([], sym (append-nil (trees (F.history c.into_parts-objects.result.1)))) (omega arith) (omega arith)
    (sym c.has_failed-has_failed.ensures ∙ c.if-not-has_failed.true) refl

pub returns-in-Ok-recover-clause-round : goal.returns-in-Ok-recover-clause-round
returns-in-Ok-recover-clause-round g c = λ r honest_objects honest_names whole.
    let F = g.F.Files in
    let same = c.in-Ok.ensures.ok in
    let ran = c.run-ended.ensures.runs r same.2 (c.in-Ok.ensures.same r honest_objects honest_names whole) in
    let left = still_honest F _ c.in-Ok.repository c.run-ended.new.repository c.args.objects c.args.names c.into_parts-objects.result.0 c.into_parts-objects.result.1 same.0 same.1 c.run-ended.ensures.keeps c.into_parts-objects.ensures.objects c.into_parts-objects.ensures.names honest_objects honest_names in
    let recovery = c.in-Ok-recover.ensures in
    recovered_whole F.history F.failures F.reading_may_fail c.args.kind c.args.objects c.args.names c.in-Ok.repository c.run-ended.new.repository same.0 same.1 r ran.new ran.commands ran.replies ran.read ran.written whole
    (c.run-ended.ensures.later r same.2 (c.in-Ok.ensures.same r honest_objects honest_names whole)) _ _ c.run-ended.result ran.ends ran.traced _ _ ran.reads ran.writes
    c.into_parts-objects.result.0 c.into_parts-objects.result.1 c.recover.new.objects c.recover.new.names c.into_parts-objects.ensures.objects c.into_parts-objects.ensures.names
    (grown _ _ (recovery.objects_alike left.0)) (grown _ _ (recovery.names_alike left.1)) recovery.objects.later recovery.names.later (recovery.recovered left.0 left.1)

pub returns-in-Err-recover-clause-round : goal.returns-in-Err-recover-clause-round
returns-in-Err-recover-clause-round g c = λ r honest_objects honest_names whole.
    let F = g.F.Files in
    let same = c.in-Ok.ensures.ok in
    let ran = c.run-ended.ensures.runs r same.2 (c.in-Ok.ensures.same r honest_objects honest_names whole) in
    let left = still_honest F _ c.in-Ok.repository c.run-ended.new.repository c.args.objects c.args.names c.into_parts-objects.result.0 c.into_parts-objects.result.1 same.0 same.1 c.run-ended.ensures.keeps c.into_parts-objects.ensures.objects c.into_parts-objects.ensures.names honest_objects honest_names in
    let recovery = c.in-Err-recover.ensures in (
      recovered_part F.history F.failures F.reading_may_fail c.args.kind c.args.objects c.args.names c.in-Ok.repository c.run-ended.new.repository same.0 same.1 r ran.new ran.commands ran.replies ran.read ran.written whole
          (c.run-ended.ensures.later r same.2 (c.in-Ok.ensures.same r honest_objects honest_names whole)) _ _ c.run-ended.result ran.ends ran.traced _ _ ran.reads ran.writes
          c.into_parts-objects.result.0 c.into_parts-objects.result.1 c.recover.new.objects c.recover.new.names c.into_parts-objects.ensures.objects c.into_parts-objects.ensures.names
          (grown _ _ (recovery.objects_alike left.0)) (grown _ _ (recovery.names_alike left.1)) recovery.objects.later recovery.names.later (recovery.left left.0 left.1),
      λ told. failed_recovering F _ c.in-Ok.repository c.run-ended.new.repository c.args.objects c.args.names c.into_parts-objects.result.0 c.into_parts-objects.result.1 same.0 same.1
          c.run-ended.ensures.keeps c.into_parts-objects.ensures.objects c.into_parts-objects.ensures.names c.recover.new.objects c.recover.new.names (recovery.failed left.0 left.1 (ap Err told)),
    )

-- ---- if the parts aren't opened

pub returns-in-Err-clause-round : goal.returns-in-Err-clause-round
returns-in-Err-clause-round g c = λ r honest_objects honest_names whole. c.in-Err.ensures.accepted r honest_objects honest_names whole

pub returns-in-Err-clause-unopened : goal.returns-in-Err-clause-unopened
returns-in-Err-clause-unopened g c =
    let back = c.in-Err.ensures.handed_back in
    (back.0, back.1, refl, refl)

pub returns-in-Err-clause-refused : goal.returns-in-Err-clause-refused
returns-in-Err-clause-refused g c = c.in-Err.ensures.refused

-- ---- honest parts

pub returns-in-Err-clause-honest : goal.returns-in-Err-clause-honest
returns-in-Err-clause-honest g c = λ honest_objects honest_names.
    let back = c.in-Err.ensures.handed_back in
    (subst g.F.Files.is_honest (sym back.0) honest_objects, subst g.F.Files.is_honest (sym back.1) honest_names)

pub returns-then-not-has_failed-clause-honest : goal.returns-then-not-has_failed-clause-honest
returns-then-not-has_failed-clause-honest g c = λ honest_objects honest_names.
    let F = g.F.Files in
    let same = c.in-Ok.ensures.ok in
    let left = still_honest F _ c.in-Ok.repository c.run-ended.new.repository c.args.objects c.args.names c.into_parts-objects.result.0 c.into_parts-objects.result.1 same.0 same.1 c.run-ended.ensures.keeps c.into_parts-objects.ensures.objects c.into_parts-objects.ensures.names honest_objects honest_names in
    left

pub returns-in-Ok-recover-clause-honest : goal.returns-in-Ok-recover-clause-honest
returns-in-Ok-recover-clause-honest g c = λ honest_objects honest_names.
    let F = g.F.Files in
    let same = c.in-Ok.ensures.ok in
    let left = still_honest F _ c.in-Ok.repository c.run-ended.new.repository c.args.objects c.args.names c.into_parts-objects.result.0 c.into_parts-objects.result.1 same.0 same.1 c.run-ended.ensures.keeps c.into_parts-objects.ensures.objects c.into_parts-objects.ensures.names honest_objects honest_names in
    (c.in-Ok-recover.ensures.objects.honest left.0, c.in-Ok-recover.ensures.names.honest left.1)

pub returns-in-Err-recover-clause-honest : goal.returns-in-Err-recover-clause-honest
returns-in-Err-recover-clause-honest g c = λ honest_objects honest_names.
    let F = g.F.Files in
    let same = c.in-Ok.ensures.ok in
    let left = still_honest F _ c.in-Ok.repository c.run-ended.new.repository c.args.objects c.args.names c.into_parts-objects.result.0 c.into_parts-objects.result.1 same.0 same.1 c.run-ended.ensures.keeps c.into_parts-objects.ensures.objects c.into_parts-objects.ensures.names honest_objects honest_names in
    (c.in-Err-recover.ensures.objects.honest left.0, c.in-Err-recover.ensures.names.honest left.1)

-- ---- how the run ended

pub returns-then-not-has_failed-clause-read : goal.returns-then-not-has_failed-clause-read
returns-then-not-has_failed-clause-read g c = λ told. c.run-ended.ensures.read (same_Some _ _ told)

pub returns-then-not-has_failed-clause-write : goal.returns-then-not-has_failed-clause-write
returns-then-not-has_failed-clause-write g c = λ told. c.run-ended.ensures.write (same_Some _ _ told)

pub returns-in-Ok-recover-clause-read : goal.returns-in-Ok-recover-clause-read
returns-in-Ok-recover-clause-read g c = λ told. c.run-ended.ensures.read (same_Some _ _ told)

pub returns-in-Ok-recover-clause-write : goal.returns-in-Ok-recover-clause-write
returns-in-Ok-recover-clause-write g c = λ told. c.run-ended.ensures.write (same_Some _ _ told)

pub returns-in-Err-recover-clause-read : goal.returns-in-Err-recover-clause-read
returns-in-Err-recover-clause-read g c = λ told. c.run-ended.ensures.read (same_Some _ _ told)

pub returns-in-Err-recover-clause-write : goal.returns-in-Err-recover-clause-write
returns-in-Err-recover-clause-write g c = λ told. c.run-ended.ensures.write (same_Some _ _ told)
