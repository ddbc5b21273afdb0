use Rattle.std.proofs.Common.{◌≡◌, ◌∙◌, false, inr, refl, sym, ap, subst, List, option_map, Vec, arith}
use Rattle.std.proofs.lemmas.Result.{err_from_is_err_and}
use Rattle.std.specs.Prelude.{◌⊎◌, IsTrue}
use Rattle.std.specs.List.{AllByRecursion, list_all}
use Rattle.std.specs.declared.alloc.Global.{Global}
use Rattle.gix_ref_file.specs.Calls.{HasFault}
use Rattle.gix_ref_file.specs.History.{Adds}
use Rattle.gix_ref_file.specs.Tree.{is_path}
use Rattle.gix_ref_edit.specs.declared.change.RefEdit.{RefEdit}
use Rattle.gix_ref_store.specs.Finds.{records_in}
use Rattle.gix_ref_store.specs.Lookups.{reads_with}
use Rattle.gix_ref_store.specs.Places.{Base, packed_place, place}
use Rattle.gix_ref_store.specs.RefStates.{state_among}
use Rattle.gix_ref_store.specs.Stores.{base_of}
use Rattle.gix_ref_way.specs.Ways.{FoldersOnlyOf}
use Rattle.gix_ref_way.proofs.Rooms.{only_now, onlys_joined, onlys_same}
use Rattle.gix_ref_lock.specs.Moments.{SameButLocks}
use Rattle.gix_ref_lock.specs.Needs.{AreBeside}
use Rattle.gix_ref_lock.specs.declared.act.Move.{Move}
use Rattle.gix_ref_lock.proofs.FileMoves.{now_of}
use Rattle.gix_ref_lock.proofs.LockPaths.{locks_joined}
use Rattle.gix_ref_lock.specs.Locks.{lock_of, OthersStay}
use Rattle.gix_ref_transaction.specs.Modes.{objects_in, removes}
use Rattle.gix_ref_transaction.specs.Repacking.{AreRepacked}
use Rattle.gix_ref_transaction.specs.Resolving.{IfUnresolved, PackFault, SomeChangeFault}
use Rattle.gix_ref_lock.specs.Moves.{Once, lock_paths}
use Rattle.gix_ref_transaction.specs.Causes.{SomeEditFault}
use Rattle.gix_ref_transaction.specs.Errors.{Counts, MayBeLeft}
use Rattle.gix_ref_transaction.specs.Locking.{AreHeld, IsLockable}
use Rattle.gix_ref_transaction.specs.LogLines.{AllLined, logging}
use Rattle.gix_ref_transaction.specs.Preparing.{IsPacked, IsPrepared, asked_with}
use Rattle.gix_ref_transaction.specs.Paths.{edit_paths, has_twice, name_paths, places_of}
use Rattle.gix_ref_transaction.specs.Plans.{AllHold, AllPlanned, AllTested}
use Rattle.gix_ref_transaction.specs.Reads.{AllGiveKind, AllReadBack, prepared_of}
use Rattle.gix_ref_transaction.specs.Rollback.{AllGone, all_locks}
use Rattle.gix_ref_transaction.proofs.Committable.{all_same_but, can_commit, commit_once, records_same_but, same_but}
use Rattle.gix_ref_transaction.proofs.Counting.{after_no_records, after_unresolved, quiet_other, records_cause, records_count, records_quiet, records_unresolved, some_edit}
use Rattle.gix_ref_transaction.proofs.Faults.{by_all, by_records}
use Rattle.gix_ref_transaction.proofs.LockedEdits.{held_now, names_beside, names_paths, not_lockable}
use Rattle.gix_ref_transaction.proofs.Plannings.{among_alike, tested_alike, all_lined_alike, some_fault_alike}
use Rattle.gix_ref_transaction.proofs.Prepares.{is_prepared, mode_packs}
use Rattle.gix_ref_transaction.proofs.Repacked.{locks_alone, repacked_on}
use Rattle.gix_ref_transaction.proofs.Stores.{records_here, records_there, store_joined}
use Rattle.gix_ref_transaction.proofs.Rollbacks.{all_once, of_records, with_records, dropped_back}
use Rattle.gix_ref_transaction.proofs.transaction.locked.Goals as goal

pub returns-in_err-records-clause-moments : goal.returns-in_err-records-clause-moments
returns-in_err-records-clause-moments g c = λ honest.
    locks_alone (base_of c.args.store.now) (g.F.Files.history c.args.store.now.files) (g.F.Files.history c.repack.new.store.files) (c.repack.ensures.moments honest)

pub returns-in-Ok-clause-moments : goal.returns-in-Ok-clause-moments
returns-in-Ok-clause-moments g c = λ honest.
    let old = g.F.Files.history c.args.store.now.files in
    let mid = g.F.Files.history c.repack.new.store.files in
    let then = g.F.Files.history c.plan_all.new.store.files in
    let first = c.repack.ensures.keeps.honest honest in
    locks_joined old mid then (locks_alone (base_of c.args.store.now) old mid (c.repack.ensures.moments honest)) (c.plan_all.ensures.moments first)

pub returns-in-Err-clause-moments : goal.returns-in-Err-clause-moments
returns-in-Err-clause-moments g c = λ honest.
    let old = g.F.Files.history c.args.store.now.files in
    let mid = g.F.Files.history c.repack.new.store.files in
    let then = g.F.Files.history c.plan_all.new.store.files in
    let new = g.F.Files.history c.drop_all.new.files in
    let first = c.repack.ensures.keeps.honest honest in
    locks_joined old then new (locks_joined old mid then (locks_alone (base_of c.args.store.now) old mid (c.repack.ensures.moments honest)) (c.plan_all.ensures.moments first)) (c.drop_all.ensures.moments (c.plan_all.ensures.keeps.honest first))

-- ---- what the calls want
pub plan_all-requires-clause-paths : goal.plan_all-requires-clause-paths
plan_all-requires-clause-paths g c =
    subst (λ (base : Base). IsTrue (list_all is_path (name_paths base c.deref-2.result.now))) (sym c.repack.ensures.keeps.base)
    (subst (λ (es : List RefEdit). IsTrue (list_all is_path (name_paths (base_of c.args.store.now) es))) (sym c.deref-2.ensures.value) (names_paths (base_of c.args.store.now) c.args.edits.items c.requires.paths))

pub finish-requires : goal.finish-requires
finish-requires g c =
    let b = base_of c.args.store.now in
    let gone = removes c.args.packed_refs.now in
    let planned = subst (λ (base : Base). AllPlanned base gone c.deref-2.result.now c.plan_all.new.moves.items) c.repack.ensures.keeps.base c.in-Ok.ensures.planned in
    let own = subst (λ (es : List RefEdit). AllPlanned b gone es c.plan_all.new.moves.items) c.deref-2.ensures.value planned in
    commit_once b gone c.args.edits.items c.plan_all.new.moves.items own c.in_ok-records.records c.in_ok-records.ensures.at c.requires.apart

-- ---- packed records aren't locked
pub returns-in_err-records-clause-locked : goal.returns-in_err-records-clause-locked
returns-in_err-records-clause-locked g c = λ asked honest split.
    let f = g.F.Files.failures in
    let old = g.F.Files.history c.args.store.now.files in
    let mid = g.F.Files.history c.repack.new.store.files in
    let a = asked_with g.F.Files.history c.args.store.now c.args.packed c.args.committer asked in
    let error = c.in_err-records.field-0.0 in
    let lock = lock_of (packed_place a.base) in
    let stay = now_of (OthersStay lock old.tree) old mid (λ path apart. refl) (c.repack.ensures.moments honest) in
    let p = err_from_is_err_and c.from_residual.result c.from_residual.ensures.1 in
    rw (p.1, p.2) (record {
      causes = inr (c.args.edits.items, split, by_records a.lines a.base a.tree g.F.Files.reading_may_fail c.args.edits.items error);
      counted = records_count (f c.args.store.now.files) (f c.repack.new.store.files) error;
      records = λ can of. records_cause (HasFault f g.F.Files.reading_may_fail c.args.store.now.files c.repack.new.store.files) error ((c.in_err-records.ensures.failed honest).failed can.0 can.1) of;
      rolled_back = of_records (f c.args.store.now.files) (f c.repack.new.store.files) lock old.tree mid.tree error stay (c.in_err-records.ensures.failed honest).rolled_back;
    })

pub returns-in_err-records-clause-resolves : goal.returns-in_err-records-clause-resolves
returns-in_err-records-clause-resolves g c = λ honest told.
    let why = PackFault g.F.Files.reading_may_fail g.O.Lookup.may_fail g.O.Lookup.table (objects_in c.args.packed_refs.now) in
    let p = err_from_is_err_and c.from_residual.result c.from_residual.ensures.1 in
    rw (p.1, p.2) (records_unresolved (SomeChangeFault why c.args.edits.items) c.in_err-records.field-0.0
    (subst (λ (es : List RefEdit). IfUnresolved (SomeChangeFault why es) c.in_err-records.field-0.0) c.deref.ensures.value (c.in_err-records.ensures.resolves honest told)))

pub returns-in_err-records-clause-folders : goal.returns-in_err-records-clause-folders
returns-in_err-records-clause-folders g c = λ honest.
    onlys_same (places_of (base_of c.args.store.now) c.args.edits.items) (g.F.Files.history c.args.store.now.files) (g.F.Files.history c.repack.new.store.files) (c.repack.ensures.folders honest)

-- ---- an edit is refused
pub returns-in-Err-clause-locked : goal.returns-in-Err-clause-locked
returns-in-Err-clause-locked g c = λ asked honest split.
    let f = g.F.Files.failures in
    let may = g.F.Files.reading_may_fail in
    let old = g.F.Files.history c.args.store.now.files in
    let mid = g.F.Files.history c.repack.new.store.files in
    let then = (g.F.Files.history c.plan_all.new.store.files).tree in
    let new = (g.F.Files.history c.drop_all.new.files).tree in
    let a = asked_with g.F.Files.history c.args.store.now c.args.packed c.args.committer asked in
    let b = base_of c.args.store.now in
    let options = c.args.store.now.options in
    let edits = c.args.edits.items in
    let records = c.in_ok-records.records in
    let moves = c.plan_all.new.moves.items in
    let error = c.in-Err.error in
    let told = c.drop_all.ensures.told in
    let first = c.repack.ensures.keeps.honest honest in
    let second = c.plan_all.ensures.keeps.honest first in
    let lock = lock_of (packed_place b) in
    let stay = now_of (OthersStay lock old.tree) old mid (λ path apart. refl) (c.repack.ensures.moments honest) in
    let same = now_of (SameButLocks old.tree) old mid (λ path none. refl) (locks_alone b old mid (c.repack.ensures.moments honest)) in
    let unplanned = c.in-Err.ensures.failed first in
    let fault = some_fault_alike options c.repack.new.store.options b (base_of c.repack.new.store) old.tree mid.tree (records_in c.args.packed) c.args.committer same c.repack.ensures.keeps.options c.repack.ensures.keeps.base
    may c.deref-2.result.now error unplanned.cause in
    let of = some_edit (logging c.repack.new.store.options (reads_with c.repack.new.store mid.tree c.args.packed) c.args.committer) (base_of c.repack.new.store) mid.tree may c.deref-2.result.now error unplanned.cause in
    let held = held_now records mid.tree then (c.plan_all.ensures.stay first) (records_there _ c.in_ok-records.records mid.tree (c.in_ok-records.ensures.held honest)) in
    let own : moves ≡ c.deref-in-Err.result.now = sym c.deref-in-Err.ensures.value in
    let all = subst (λ (ms : List Move). AreHeld records ms then) own (record { packed = held; each = (c.plan_all.ensures.taken first).held }) in
    let once = subst (λ (ms : List Move). Once (all_locks records ms)) own (all_once records moves mid.tree (records_there _ c.in_ok-records.records mid.tree (c.in_ok-records.ensures.held honest)) (c.plan_all.ensures.taken first).fresh (c.plan_all.ensures.taken first).once) in
    let counts = c.drop_all.ensures.counted (f c.args.store.now.files) second (omega (arith, c.repack.ensures.keeps.later, c.plan_all.ensures.keeps.later)) all once
    (subst (λ n. Counts n (f c.plan_all.new.store.files) error) (c.in_ok-records.ensures.keeps.quiet tt) unplanned.counted) in
    let came = with_records lock records old.tree mid.tree stay (records_here _ c.in_ok-records.records mid.tree (c.in_ok-records.ensures.held honest)) (λ none. ap (λ s. (g.F.Files.history s.files).tree) (c.in_ok-records.ensures.idle none)) in
    let dropped = subst (λ (ms : List Move). AllGone ms records then new ⊎ MayBeLeft c.drop_all.result) c.deref-in-Err.ensures.value (c.drop_all.ensures.rolled_back second) in
    record {
      causes = inr (
        edits,
        split,
        by_all a.lines b old.tree may edits error c.drop_all.result told
            (λ is. not_lockable b edits old.tree mid.tree stay c.requires.apart (λ once beside all. unplanned.refused is
            (subst (λ (es : List RefEdit). has_twice (name_paths (base_of c.repack.new.store) es) ≡ false) (sym c.deref-2.ensures.value) (subst (λ (base : Base). has_twice (name_paths base edits) ≡ false) (sym c.repack.ensures.keeps.base) once))
            (subst (λ (es : List RefEdit). AreBeside (name_paths (base_of c.repack.new.store) es)) (sym c.deref-2.ensures.value) (subst (λ (base : Base). AreBeside (name_paths base edits)) (sym c.repack.ensures.keeps.base) beside))
            (subst (λ (es : List RefEdit). AllByRecursion (λ e. IsLockable mid.tree (place (base_of c.repack.new.store) e.name)) es) (sym c.deref-2.ensures.value) (subst (λ (base : Base). AllByRecursion (λ e. IsLockable mid.tree (place base e.name)) edits) (sym c.repack.ensures.keeps.base) all))))
            (subst (λ (es : List RefEdit). SomeEditFault a.lines b old.tree may es error) c.deref-2.ensures.value fault),
      );
      counted = counts;
      records = λ can of_records. absurd (after_no_records error c.drop_all.result told of of_records);
      rolled_back = dropped_back (f c.args.store.now.files) (f c.repack.new.store.files) (f c.plan_all.new.store.files) (f c.drop_all.new.files) moves records old.tree mid.tree then new error c.drop_all.result
          c.repack.ensures.keeps.later c.drop_all.ensures.later came unplanned.rolled_back told counts dropped;
    }

pub returns-in-Err-clause-folders : goal.returns-in-Err-clause-folders
returns-in-Err-clause-folders g c = λ honest.
    let old = g.F.Files.history c.args.store.now.files in
    let mid = g.F.Files.history c.repack.new.store.files in
    let then = g.F.Files.history c.plan_all.new.store.files in
    let new = g.F.Files.history c.drop_all.new.files in
    let first = c.repack.ensures.keeps.honest honest in
    let b = base_of c.args.store.now in
    let paths = places_of b c.args.edits.items in
    let own = subst (λ (es : List RefEdit). Adds (FoldersOnlyOf (places_of b es) mid.tree) mid then) c.deref-2.ensures.value (subst (λ (base : Base). Adds (FoldersOnlyOf (places_of base c.deref-2.result.now) mid.tree) mid then) c.repack.ensures.keeps.base (c.plan_all.ensures.folders first)) in
    onlys_joined paths old then new (onlys_joined paths old mid then (onlys_same paths old mid (c.repack.ensures.folders honest)) own) (onlys_same paths then new (c.drop_all.ensures.folders (c.plan_all.ensures.keeps.honest first)))

pub returns-in-Err-clause-resolves : goal.returns-in-Err-clause-resolves
returns-in-Err-clause-resolves g c = λ honest told.
    let why = PackFault g.F.Files.reading_may_fail g.O.Lookup.may_fail g.O.Lookup.table (objects_in c.args.packed_refs.now) in
    let first = c.repack.ensures.keeps.honest honest in
    let mid = (g.F.Files.history c.repack.new.store.files).tree in
    let of = some_edit (logging c.repack.new.store.options (reads_with c.repack.new.store mid c.args.packed) c.args.committer) (base_of c.repack.new.store) mid g.F.Files.reading_may_fail c.deref-2.result.now c.in-Err.error (c.in-Err.ensures.failed first).cause in
    after_unresolved (SomeChangeFault why c.args.edits.items) c.in-Err.error c.drop_all.result c.drop_all.ensures.told of

-- ---- all are locked
pub returns-in-Ok-clause-locked : goal.returns-in-Ok-clause-locked
returns-in-Ok-clause-locked g c = λ asked honest split.
    let old = g.F.Files.history c.args.store.now.files in
    let mid = g.F.Files.history c.repack.new.store.files in
    let then = g.F.Files.history c.plan_all.new.store.files in
    let first = c.repack.ensures.keeps.honest honest in
    let a = asked_with g.F.Files.history c.args.store.now c.args.packed c.args.committer asked in
    let b = base_of c.args.store.now in
    let options = c.args.store.now.options in
    let gone = removes c.args.packed_refs.now in
    let edits = c.args.edits.items in
    let moves = c.plan_all.new.moves.items in
    let records = c.in_ok-records.records in
    let known = records_in c.args.packed in
    let paths = places_of b edits in
    let lock = lock_of (packed_place b) in
    let given = c.deref-2.ensures.value in
    let bases = c.repack.ensures.keeps.base in
    let stay = now_of (OthersStay lock old.tree) old mid (λ path apart. refl) (c.repack.ensures.moments honest) in
    let same = now_of (SameButLocks old.tree) old mid (λ path none. refl) (locks_alone b old mid (c.repack.ensures.moments honest)) in
    let tested = tested_alike (reads_with c.repack.new.store mid.tree c.args.packed) a.lines.read
    (λ name. ap (λ (base : Base). state_among base mid.tree known name) bases ∙ among_alike b old.tree mid.tree known same name)
    c.deref-2.result.now (c.in-Ok.ensures.made first).tested in
    let lined = all_lined_alike options c.repack.new.store.options b (base_of c.repack.new.store) old.tree mid.tree known c.args.committer same c.repack.ensures.keeps.options bases
    gone c.deref-2.result.now moves c.in-Ok.ensures.planned (c.in-Ok.ensures.made first).lines in
    let planned = subst (λ (es : List RefEdit). AllPlanned b gone es moves) given (subst (λ (base : Base). AllPlanned base gone c.deref-2.result.now moves) bases c.in-Ok.ensures.planned) in
    let own = subst (λ (es : List RefEdit). Adds (FoldersOnlyOf (places_of b es) mid.tree) mid then) given (subst (λ (base : Base). Adds (FoldersOnlyOf (places_of base c.deref-2.result.now) mid.tree) mid then) bases (c.plan_all.ensures.folders first)) in
    let only = only_now paths old then (onlys_joined paths old mid then (onlys_same paths old mid (c.repack.ensures.folders honest)) own) in
    let few = records_same_but lock records old.tree mid.tree stay (records_here _ c.in_ok-records.records mid.tree (c.in_ok-records.ensures.held honest)) (λ none. ap (λ s. (g.F.Files.history s.files).tree) (c.in_ok-records.ensures.idle none)) in
    let locked = all_same_but records moves old.tree mid.tree then.tree few (same_but (lock_paths moves) mid.tree then.tree (c.plan_all.ensures.stay first) (c.in-Ok.ensures.made first).locked) in
    let held : AreHeld records moves then.tree = record { packed = held_now records mid.tree then.tree (c.plan_all.ensures.stay first) (records_there _ c.in_ok-records.records mid.tree (c.in_ok-records.ensures.held honest)); each = (c.plan_all.ensures.taken first).held } in
    let beside = λ (apart : AreBeside (edit_paths b edits)). subst (λ (es : List RefEdit). AreBeside (name_paths (base_of c.repack.new.store) es)) (sym given) (subst (λ (base : Base). AreBeside (name_paths base edits)) (sym bases) (names_beside b edits apart)) in
    let whole : prepared_of c.finish.result.edits.items c.finish.result.moves.items c.finish.result.packed ≡ prepared_of edits moves records = λ i. prepared_of (c.finish.ensures.edits i).items (c.finish.ensures.moves i).items (c.finish.ensures.packed i) in
    subst (IsPrepared a then.tree) (sym whole) (record {
      split = split;
      tested = subst (λ (es : List RefEdit). AllTested a.lines.read es) given tested;
      texts = subst (λ (es : List RefEdit). AllHold then.tree es moves) given (c.in-Ok.ensures.made first).texts;
      lines = subst (λ (es : List RefEdit). AllLined a.lines b old.tree es moves) given lined;
      locked = locked;
      held = held;
      room = λ room. can_commit b gone edits moves planned records c.in_ok-records.ensures.at old.tree then.tree c.requires.paths only locked held ((c.in-Ok.ensures.made first).room (beside room.apart)) room;
    })

pub returns-in-Ok-clause-packed : goal.returns-in-Ok-clause-packed
returns-in-Ok-clause-packed g c = λ honest told known.
    let old = g.F.Files.history c.args.store.now.files in
    let mid = g.F.Files.history c.repack.new.store.files in
    let then = g.F.Files.history c.plan_all.new.store.files in
    let first = c.repack.ensures.keeps.honest honest in
    let b = base_of c.args.store.now in
    let gone = removes c.args.packed_refs.now in
    let packs = option_map g.O.Lookup.table (objects_in c.args.packed_refs.now) in
    let edits = c.args.edits.items in
    let moves = c.plan_all.new.moves.items in
    let records = c.in_ok-records.records in
    let given = c.deref-2.ensures.value in
    let same = now_of (SameButLocks old.tree) old then (λ path none. refl) (locks_joined old mid then (locks_alone b old mid (c.repack.ensures.moments honest)) (c.plan_all.ensures.moments first)) in
    let planned = subst (λ (es : List RefEdit). AllPlanned b gone es moves) given (subst (λ (base : Base). AllPlanned base gone c.deref-2.result.now moves) c.repack.ensures.keeps.base c.in-Ok.ensures.planned) in
    let texts = subst (λ (es : List RefEdit). AllHold then.tree es moves) given (c.in-Ok.ensures.made first).texts in
    let repacked = repacked_on b packs old.tree mid.tree then.tree edits records (c.plan_all.ensures.stay first) (subst (λ (es : List RefEdit). AreRepacked b packs old.tree mid.tree es records) c.deref.ensures.value (c.in_ok-records.ensures.repacked honest told known)) in
    let back = subst (λ (base : Base). AllGiveKind base.kind edits → AllReadBack base.kind edits) (c.plan_all.ensures.keeps.base ∙ c.repack.ensures.keeps.base) c.finish.ensures.back in
    let whole : prepared_of c.finish.result.edits.items c.finish.result.moves.items c.finish.result.packed ≡ prepared_of edits moves records = λ i. prepared_of (c.finish.ensures.edits i).items (c.finish.ensures.moves i).items (c.finish.ensures.packed i) in
    subst (IsPacked b packs gone old.tree then.tree) (sym whole) (record {
      repacked = repacked;
      prepared = is_prepared b packs gone old.tree then.tree (prepared_of edits moves records) (mode_packs g.O.Lookup.table c.args.packed_refs.now) planned texts same c.requires.apart back repacked;
    })

pub returns-in-Ok-clause-planned : goal.returns-in-Ok-clause-planned
returns-in-Ok-clause-planned g c =
    let b = base_of c.args.store.now in
    let gone = removes c.args.packed_refs.now in
    let planned = subst (λ (base : Base). AllPlanned base gone c.deref-2.result.now c.plan_all.new.moves.items) c.repack.ensures.keeps.base c.in-Ok.ensures.planned in
    let own = subst (λ (es : List RefEdit). AllPlanned b gone es c.plan_all.new.moves.items) c.deref-2.ensures.value planned in
    subst (λ (v : Vec RefEdit Global). AllPlanned b gone v.items c.finish.result.moves.items) (sym c.finish.ensures.edits)
    (subst (λ (v : Vec Move Global). AllPlanned b gone c.args.edits.items v.items) (sym c.finish.ensures.moves) own)

pub returns-in-Ok-clause-folders : goal.returns-in-Ok-clause-folders
returns-in-Ok-clause-folders g c = λ honest.
    let old = g.F.Files.history c.args.store.now.files in
    let mid = g.F.Files.history c.repack.new.store.files in
    let then = g.F.Files.history c.plan_all.new.store.files in
    let first = c.repack.ensures.keeps.honest honest in
    let b = base_of c.args.store.now in
    let paths = places_of b c.args.edits.items in
    let own = subst (λ (es : List RefEdit). Adds (FoldersOnlyOf (places_of b es) mid.tree) mid then) c.deref-2.ensures.value (subst (λ (base : Base). Adds (FoldersOnlyOf (places_of base c.deref-2.result.now) mid.tree) mid then) c.repack.ensures.keeps.base (c.plan_all.ensures.folders first)) in
    onlys_joined paths old mid then (onlys_same paths old mid (c.repack.ensures.folders honest)) own

-- ---- what is kept
pub returns-in_err-records-clause-keeps : goal.returns-in_err-records-clause-keeps
returns-in_err-records-clause-keeps g c =
    let f = g.F.Files.failures in
    let kept = c.in_err-records.ensures.keeps in
    let p = err_from_is_err_and c.from_residual.result c.from_residual.ensures.1 in
    rw (p.1, p.2) (record {
      honest = kept.honest;
      base = kept.base;
      options = kept.options;
      later = kept.later;
      quiet = records_quiet (f c.repack.new.store.files ≡ f c.args.store.now.files) c.in_err-records.field-0.0 kept.quiet (λ early. ap (λ s. f s.files) (c.in_err-records.ensures.early early));
    })

pub returns-in-Ok-clause-keeps : goal.returns-in-Ok-clause-keeps
returns-in-Ok-clause-keeps g c = store_joined g.F.Files c.args.store.now c.repack.new.store c.plan_all.new.store c.in_ok-records.ensures.keeps c.in-Ok.ensures.keeps (λ quiet. (tt, tt))

pub returns-in-Err-clause-keeps : goal.returns-in-Err-clause-keeps
returns-in-Err-clause-keeps g c =
    let kept = store_joined g.F.Files c.args.store.now c.repack.new.store c.plan_all.new.store c.in_ok-records.ensures.keeps c.in-Err.ensures.keeps (λ quiet. (tt, quiet)) in
    record {
      honest = λ honest. c.drop_all.ensures.honest (kept.honest honest);
      base = kept.base;
      options = kept.options;
      later = omega (arith, kept.later, c.drop_all.ensures.later);
      quiet = λ quiet.
          let parts = c.drop_all.ensures.memory (quiet_other c.drop_all.result quiet) in
          parts.1 ∙ kept.quiet parts.0;
    }
