use Rattle.std.proofs.Common.{◌≡◌, ◌∙◌, ◌++◌, [], ◌∷◌, inr, refl, sym, ap, subst, None, arith}
use Rattle.std.proofs.lemmas.Result.{err_from_is_err_and}
use Rattle.gix_ref_file.proofs.Histories.{adds_nothing, adds_weaker}
use Rattle.gix_ref_store.specs.Finds.{records_in}
use Rattle.gix_ref_store.specs.Lookups.{reads_with}
use Rattle.std.specs.Prelude.{Contains, IsTrue}
use Rattle.gix_ref_lock.specs.Moves.{Once, lock_paths}
use Rattle.std.specs.List.{AllByRecursion, list_all}
use Rattle.gix_ref_file.specs.Changes.{is_file_at, may_hold_file}
use Rattle.gix_ref_file.specs.History.{Adds}
use Rattle.gix_ref_file.specs.Tree.{is_path}
use Rattle.gix_ref_way.specs.Ways.{FoldersOnlyOf, file_at}
use Rattle.gix_ref_way.proofs.Rooms.{only_now, only_weaker, onlys_joined}
use Rattle.gix_ref_store.specs.Places.{Base, place}
use Rattle.gix_ref_store.specs.RefStates.{RefState, state_among}
use Rattle.gix_ref_store.specs.Stores.{base_of}
use Rattle.gix_ref_lock.specs.Contents.{lock_path_of, place_of}
use Rattle.gix_ref_lock.specs.Moments.{SameButLocks}
use Rattle.gix_ref_lock.proofs.PathLists.{all_append}
use Rattle.gix_ref_lock.proofs.FileMoves.{now_of}
use Rattle.gix_ref_lock.proofs.LockPaths.{locks_joined}
use Rattle.gix_ref_transaction.specs.Calls.{AreTaken}
use Rattle.gix_ref_transaction.specs.LogLines.{line_in, logging}
use Rattle.gix_ref_transaction.specs.Modes.{removes}
use Rattle.gix_ref_transaction.specs.Plans.{IsTested, IsPlanOf}
use Rattle.gix_ref_transaction.proofs.Plannings.{LinedIn, among_alike, keeps_joined, zipping_begins, testing_begins, one_zipped, one_tested, zipping_ends, testing_ends, holding_ends, is_among, lined_alike, fault_alike}
use Rattle.gix_ref_transaction.specs.Errors.{Counts}
use Rattle.gix_ref_transaction.specs.Locking.{ArePaths, IsLockable}
use Rattle.gix_ref_transaction.specs.Paths.{name_paths, places_of}
use Rattle.gix_ref_transaction.proofs.Lockings.{first_paths, held_still, later_paths, lockable, none_held, one_of, own_among, place_own, places_front, places_own, rooms_still}
use Rattle.gix_ref_transaction.specs.Preparing.{asked_with}
use Rattle.gix_ref_transaction.proofs.Stores.{store_joined}
use Rattle.gix_ref_transaction.proofs.Rollbacks.{one_more, after_error, free_before, once_more}
use Rattle.gix_ref_transaction.proofs.Twice.{once_of}
use Rattle.gix_ref_transaction.proofs.transaction.plan_all.Goals as goal

pub edits-init : goal.edits-init
edits-init g c = record {
  kept = record { honest = λ honest. honest; base = refl; options = refl; later = omega arith; quiet = λ quiet. refl };
  moments = λ honest. adds_nothing (g.F.Files.history c.args.store.now.files);
  locked = λ honest path none there. there;
  folders = λ honest. adds_nothing (g.F.Files.history c.args.store.now.files);
  taken = λ honest.
      let old = (g.F.Files.history c.args.store.now.files).tree in
      record {
        held = none_held (λ m. IsTrue (is_file_at old (lock_path_of m))) c.args.moves.now.items c.requires.none;
        fresh = none_held (λ m. file_at old (lock_path_of m) ≡ None) c.args.moves.now.items c.requires.none;
        once = subst (λ ms. Once (lock_paths ms)) (sym c.requires.none) tt;
      };
  room = λ honest beside. none_held (λ m. IsTrue (may_hold_file (g.F.Files.history c.args.store.now.files).tree (place_of m))) c.args.moves.now.items c.requires.none;
  paths = c.requires.paths;
  none = c.requires.none;
  planned = zipping_begins (IsPlanOf (base_of c.args.store.now) (removes c.args.packed_refs.now)) c.args.edits.now c.args.moves.now.items;
  stay = λ honest path text stood. stood;
  lined = λ honest. zipping_begins (LinedIn (logging c.args.store.now.options (reads_with c.args.store.now (g.F.Files.history c.args.store.now.files).tree c.args.packed) c.args.committer) (base_of c.args.store.now) (g.F.Files.history c.args.store.now.files).tree) c.args.edits.now c.args.moves.now.items;
  tested = λ honest. testing_begins (reads_with c.args.store.now (g.F.Files.history c.args.store.now.files).tree c.args.packed) c.args.edits.now c.args.moves.now.items (g.F.Files.history c.args.store.now.files).tree;
}

pub returns-in_err-planned-clause-moments : goal.returns-in_err-planned-clause-moments
returns-in_err-planned-clause-moments g c = λ honest.
    locks_joined (g.F.Files.history c.args.store.now.files) (g.F.Files.history c.edits.store.files) (g.F.Files.history c.plan.new.store.files)
    (c.edits.invariant.moments honest) (c.plan.ensures.moments (c.edits.invariant.kept.honest honest))

pub edits-preserved : goal.edits-preserved
edits-preserved g c =
    let so_far = c.edits.invariant in
    let old = g.F.Files.history c.args.store.now.files in
    let mid = g.F.Files.history c.edits.store.files in
    let new = g.F.Files.history c.plan.new.store.files in
    let b = base_of c.args.store.now in
    let edit = c.in-Some.edit.now in
    let others = c.in-Some.others.now in
    let made = c.in_ok-planned.planned in
    let records = records_in c.args.packed in
    let gone = removes c.args.packed_refs.now in
    record {
      kept = store_joined g.F.Files c.args.store.now c.edits.store c.plan.new.store so_far.kept c.in_ok-planned.ensures.keeps (λ quiet. (tt, tt));
      moments = λ honest. locks_joined old mid new (so_far.moments honest) (c.plan.ensures.moments (so_far.kept.honest honest));
      locked = λ honest. one_more c.edits.moves.items c.push.new.self.items made old.tree mid.tree new.tree c.in_ok-push.ensures.items (so_far.locked honest) (c.in_ok-planned.ensures.made (so_far.kept.honest honest)).locked;
      folders = λ honest.
          let paths = places_of b c.args.edits.now in
          let own = subst (λ (base : Base). Adds (FoldersOnlyOf (place base edit.name ∷ []) mid.tree) mid new) so_far.kept.base (c.plan.ensures.folders (so_far.kept.honest honest)) in
          let split = so_far.planned.split ∙ ap (λ r. so_far.planned.done ++ r) c.in-Some.ensures.cases.0 in
          onlys_joined paths old mid new (so_far.folders honest) (adds_weaker mid new own (λ x only. only_weaker (place b edit.name ∷ []) paths mid.tree x
          (λ path is. subst (λ es. Contains (places_of b es) path) (sym split) (places_own b so_far.planned.done edit others path is)) only));
      taken = λ honest.
          let still = so_far.kept.honest honest in
          let made_so = c.in_ok-planned.ensures.made still in
          let taken = so_far.taken honest in
          let pushed = sym c.in_ok-push.ensures.items in
          record {
            held = subst (λ ms. AllByRecursion (λ m. IsTrue (is_file_at new.tree (lock_path_of m))) ms) pushed
                (all_append (λ m. IsTrue (is_file_at new.tree (lock_path_of m))) c.edits.moves.items (made ∷ []) (held_still mid.tree new.tree (c.plan.ensures.stay still) c.edits.moves.items taken.held) (made_so.held, tt));
            fresh = subst (λ ms. AllByRecursion (λ m. file_at old.tree (lock_path_of m) ≡ None) ms) pushed
                (all_append (λ m. file_at old.tree (lock_path_of m) ≡ None) c.edits.moves.items (made ∷ []) taken.fresh (free_before old.tree mid.tree (so_far.stay honest) (lock_path_of made) made_so.free, tt));
            once = subst (λ ms. Once (lock_paths ms)) pushed (once_more c.edits.moves.items made mid.tree taken.held made_so.free taken.once);
          };
      room = λ honest beside.
          let still = so_far.kept.honest honest in
          let split = so_far.planned.split ∙ ap (λ r. so_far.planned.done ++ r) c.in-Some.ensures.cases.0 in
          let all = name_paths b c.args.edits.now in
          let only = subst (λ (base : Base). FoldersOnlyOf (place base edit.name ∷ []) mid.tree new.tree) so_far.kept.base (only_now (place (base_of c.edits.store) edit.name ∷ []) mid new (c.plan.ensures.folders still)) in
          let rooms = rooms_still b gone all mid.tree new.tree edit beside only
          (λ path is. subst (λ es. Contains (name_paths b es) path) (sym split) (own_among b so_far.planned.done edit others path (place_own b edit path is)))
          so_far.planned.done c.edits.moves.items (so_far.planned.zipped so_far.none)
          (λ path is. subst (λ es. Contains (name_paths b es) path) (sym split) (places_front b so_far.planned.done (edit ∷ others) path is)) (so_far.room honest beside) in
          subst (λ ms. AllByRecursion (λ m. IsTrue (may_hold_file new.tree (place_of m))) ms) (sym c.in_ok-push.ensures.items)
          (all_append (λ m. IsTrue (may_hold_file new.tree (place_of m))) c.edits.moves.items (made ∷ []) rooms ((c.in_ok-planned.ensures.made still).room, tt));
      paths = later_paths b edit others (subst (λ es. IsTrue (list_all is_path (name_paths b es))) c.in-Some.ensures.cases.0 so_far.paths);
      none = so_far.none;
      planned = one_zipped (IsPlanOf b gone) c.args.edits.now c.edits.rest.now others edit c.args.moves.now.items c.edits.moves.items c.push.new.self.items made c.in-Some.ensures.cases.0 c.in_ok-push.ensures.items so_far.planned
          (subst (λ (base : Base). IsPlanOf base gone edit made) so_far.kept.base c.in_ok-planned.ensures.planned);
      stay = λ honest. keeps_joined old.tree mid.tree new.tree (so_far.stay honest) (c.plan.ensures.stay (so_far.kept.honest honest));
      lined = λ honest.
          let still = so_far.kept.honest honest in
          let same = now_of (SameButLocks old.tree) old mid (λ path none. refl) (so_far.moments honest) in
          one_zipped (LinedIn (logging c.args.store.now.options (reads_with c.args.store.now old.tree c.args.packed) c.args.committer) b old.tree) c.args.edits.now c.edits.rest.now others edit c.args.moves.now.items c.edits.moves.items c.push.new.self.items made c.in-Some.ensures.cases.0 c.in_ok-push.ensures.items (so_far.lined honest)
          (lined_alike c.args.store.now.options c.edits.store.options b (base_of c.edits.store) old.tree mid.tree records c.args.committer edit (line_in made.act) same c.plan.ensures.full so_far.kept.options so_far.kept.base (c.in_ok-planned.ensures.made still).acted.line);
      tested = λ honest.
          let still = so_far.kept.honest honest in
          let same = now_of (SameButLocks old.tree) old mid (λ path none. refl) (so_far.moments honest) in
          one_tested (reads_with c.args.store.now old.tree c.args.packed) c.args.edits.now c.edits.rest.now others edit c.args.moves.now.items c.edits.moves.items c.push.new.self.items made mid.tree new.tree
          c.in-Some.ensures.cases.0 c.in_ok-push.ensures.items (so_far.tested honest)
          (subst (λ (state : RefState). IsTested edit state) (among_alike b old.tree mid.tree records same edit.name)
          (subst (λ (base : Base). IsTested edit (state_among base mid.tree records edit.name)) so_far.kept.base (c.in_ok-planned.ensures.made still).acted.tested))
          (c.plan.ensures.stay still) (c.in_ok-planned.ensures.made still).acted.text;
    }

pub returns-clause-planned : goal.returns-clause-planned
returns-clause-planned g c =
    zipping_ends (IsPlanOf (base_of c.args.store.now) (removes c.args.packed_refs.now)) c.args.edits.now c.edits.rest.now c.args.moves.now.items c.edits.moves.items c.in_default.ensures.cases c.edits.invariant.planned c.requires.none

pub returns-in_err-push-clause-moments : goal.returns-in_err-push-clause-moments
returns-in_err-push-clause-moments g c = λ honest.
    locks_joined (g.F.Files.history c.args.store.now.files) (g.F.Files.history c.edits.store.files) (g.F.Files.history c.plan.new.store.files)
    (c.edits.invariant.moments honest) (c.plan.ensures.moments (c.edits.invariant.kept.honest honest))

pub plan-requires : goal.plan-requires
plan-requires g c =
    let b = base_of c.args.store.now in
    let here = subst (λ es. IsTrue (list_all is_path (name_paths b es))) c.in-Some.ensures.cases.0 c.edits.invariant.paths in
    subst (λ (base : Base). ArePaths (place base c.in-Some.edit.now.name)) (sym c.edits.invariant.kept.base) (first_paths b c.in-Some.edit.now c.in-Some.others.now here)

pub returns-in_err-planned-clause-stay : goal.returns-in_err-planned-clause-stay
returns-in_err-planned-clause-stay g c = λ honest.
    keeps_joined (g.F.Files.history c.args.store.now.files).tree (g.F.Files.history c.edits.store.files).tree (g.F.Files.history c.plan.new.store.files).tree (c.edits.invariant.stay honest) (c.plan.ensures.stay (c.edits.invariant.kept.honest honest))

pub returns-in_err-push-clause-stay : goal.returns-in_err-push-clause-stay
returns-in_err-push-clause-stay g c = λ honest.
    keeps_joined (g.F.Files.history c.args.store.now.files).tree (g.F.Files.history c.edits.store.files).tree (g.F.Files.history c.plan.new.store.files).tree (c.edits.invariant.stay honest) (c.plan.ensures.stay (c.edits.invariant.kept.honest honest))

pub returns-in_err-planned-clause-folders : goal.returns-in_err-planned-clause-folders
returns-in_err-planned-clause-folders g c = λ honest.
    let so_far = c.edits.invariant in
    let old = g.F.Files.history c.args.store.now.files in
    let mid = g.F.Files.history c.edits.store.files in
    let new = g.F.Files.history c.plan.new.store.files in
    let b = base_of c.args.store.now in
    let edit = c.in-Some.edit.now in
    let paths = places_of b c.args.edits.now in
    let own = subst (λ (base : Base). Adds (FoldersOnlyOf (place base edit.name ∷ []) mid.tree) mid new) so_far.kept.base (c.plan.ensures.folders (so_far.kept.honest honest)) in
    let split = so_far.planned.split ∙ ap (λ r. so_far.planned.done ++ r) c.in-Some.ensures.cases.0 in
    onlys_joined paths old mid new (so_far.folders honest) (adds_weaker mid new own (λ x only. only_weaker (place b edit.name ∷ []) paths mid.tree x
    (λ path is. subst (λ es. Contains (places_of b es) path) (sym split) (places_own b so_far.planned.done edit c.in-Some.others.now path is)) only))

pub returns-in_err-push-clause-folders : goal.returns-in_err-push-clause-folders
returns-in_err-push-clause-folders g c = λ honest.
    let so_far = c.edits.invariant in
    let old = g.F.Files.history c.args.store.now.files in
    let mid = g.F.Files.history c.edits.store.files in
    let new = g.F.Files.history c.plan.new.store.files in
    let b = base_of c.args.store.now in
    let edit = c.in-Some.edit.now in
    let paths = places_of b c.args.edits.now in
    let own = subst (λ (base : Base). Adds (FoldersOnlyOf (place base edit.name ∷ []) mid.tree) mid new) so_far.kept.base (c.plan.ensures.folders (so_far.kept.honest honest)) in
    let split = so_far.planned.split ∙ ap (λ r. so_far.planned.done ++ r) c.in-Some.ensures.cases.0 in
    onlys_joined paths old mid new (so_far.folders honest) (adds_weaker mid new own (λ x only. only_weaker (place b edit.name ∷ []) paths mid.tree x
    (λ path is. subst (λ es. Contains (places_of b es) path) (sym split) (places_own b so_far.planned.done edit c.in-Some.others.now path is)) only))

pub returns-clause-folders : goal.returns-clause-folders
returns-clause-folders g c = λ honest. c.edits.invariant.folders honest

-- ---- what is kept, and taken
pub returns-in_err-planned-clause-keeps : goal.returns-in_err-planned-clause-keeps
returns-in_err-planned-clause-keeps g c =
    let p = err_from_is_err_and c.from_residual.result c.from_residual.ensures.1 in
    rw (p.1, p.2) (store_joined g.F.Files c.args.store.now c.edits.store c.plan.new.store c.edits.invariant.kept c.in_err-planned.ensures.keeps (λ quiet. (tt, quiet)))

pub returns-in_err-push-clause-keeps : goal.returns-in_err-push-clause-keeps
returns-in_err-push-clause-keeps g c = store_joined g.F.Files c.args.store.now c.edits.store c.plan.new.store c.edits.invariant.kept c.in_ok-planned.ensures.keeps (λ quiet. (tt, tt))

pub returns-clause-keeps : goal.returns-clause-keeps
returns-clause-keeps g c =
    let kept = c.edits.invariant.kept in
    record { honest = kept.honest; base = kept.base; options = kept.options; later = kept.later; quiet = λ quiet. kept.quiet tt }

pub returns-clause-taken : goal.returns-clause-taken
returns-clause-taken g c = λ honest. c.edits.invariant.taken honest

pub returns-in_err-planned-clause-taken : goal.returns-in_err-planned-clause-taken
returns-in_err-planned-clause-taken g c = λ honest.
    let so_far = c.edits.invariant in
    let taken = so_far.taken honest in
    record {
      held = held_still (g.F.Files.history c.edits.store.files).tree (g.F.Files.history c.plan.new.store.files).tree (c.plan.ensures.stay (so_far.kept.honest honest)) c.edits.moves.items taken.held;
      fresh = taken.fresh;
      once = taken.once;
    }

pub returns-in_err-push-clause-taken : goal.returns-in_err-push-clause-taken
returns-in_err-push-clause-taken g c = λ honest.
    let so_far = c.edits.invariant in
    let old = (g.F.Files.history c.args.store.now.files).tree in
    let new = (g.F.Files.history c.plan.new.store.files).tree in
    let taken = so_far.taken honest in
    subst (λ ms. AreTaken ms old new) (sym c.in_err-push.ensures.items) (record {
      held = held_still (g.F.Files.history c.edits.store.files).tree new (c.plan.ensures.stay (so_far.kept.honest honest)) c.edits.moves.items taken.held;
      fresh = taken.fresh;
      once = taken.once;
    })

-- ---- an edit is refused
pub returns-in_err-planned-clause-failed : goal.returns-in_err-planned-clause-failed
returns-in_err-planned-clause-failed g c = λ honest.
    let so_far = c.edits.invariant in
    let f = g.F.Files.failures in
    let old = g.F.Files.history c.args.store.now.files in
    let mid = g.F.Files.history c.edits.store.files in
    let new = g.F.Files.history c.plan.new.store.files in
    let b = base_of c.args.store.now in
    let gone = removes c.args.packed_refs.now in
    let edit = c.in-Some.edit.now in
    let others = c.in-Some.others.now in
    let edits = c.args.edits.now in
    let error = c.in_err-planned.field-0.0 in
    let unplanned = c.in_err-planned.ensures.failed (so_far.kept.honest honest) in
    let same = now_of (SameButLocks old.tree) old mid (λ path none. refl) (so_far.moments honest) in
    let among = is_among (IsPlanOf b gone) edits c.edits.rest.now others edit c.args.moves.now.items c.edits.moves.items c.in-Some.ensures.cases.0 so_far.planned in
    let fault = fault_alike c.args.store.now.options c.edits.store.options b (base_of c.edits.store) old.tree mid.tree (records_in c.args.packed) c.args.committer edit g.F.Files.reading_may_fail error same c.plan.ensures.full so_far.kept.options so_far.kept.base unplanned.cause in
    let split = so_far.planned.split ∙ ap (λ r. so_far.planned.done ++ r) c.in-Some.ensures.cases.0 in
    let only = only_now (places_of b edits) old mid (so_far.folders honest) in
    let p = err_from_is_err_and c.from_residual.result c.from_residual.ensures.1 in
    rw (p.1, p.2) (record {
      cause = (edit, among, c.plan.ensures.full, fault);
      refused = λ is once beside all.
          let mine = one_of (λ e. IsLockable old.tree (place b e.name)) so_far.planned.done edit others (subst (λ es. AllByRecursion (λ e. IsLockable old.tree (place b e.name)) es) split all) in
          let here = lockable b gone edits so_far.planned.done others edit c.edits.moves.items old.tree mid.tree split (so_far.planned.zipped so_far.none) (so_far.locked honest) only (once_of (name_paths b edits) once) beside mine in
          unplanned.untaken.refused is (subst (λ (base : Base). IsLockable mid.tree (place base edit.name)) (sym so_far.kept.base) here);
      counted = subst (λ n. Counts n (f c.plan.new.store.files) error) (so_far.kept.quiet tt) unplanned.untaken.counted;
      rolled_back = after_error (f c.args.store.now.files) (f c.edits.store.files) (f c.plan.new.store.files) (lock_paths c.edits.moves.items) old.tree mid.tree new.tree error so_far.kept.later (so_far.locked honest) unplanned.untaken.rolled_back;
    })

pub returns-in_err-push-clause-failed : goal.returns-in_err-push-clause-failed
returns-in_err-push-clause-failed g c = λ honest.
    let so_far = c.edits.invariant in
    let b = base_of c.args.store.now in
    let edit = c.in-Some.edit.now in
    let among = is_among (IsPlanOf b (removes c.args.packed_refs.now)) c.args.edits.now c.edits.rest.now c.in-Some.others.now edit c.args.moves.now.items c.edits.moves.items c.in-Some.ensures.cases.0 so_far.planned in
    let p = err_from_is_err_and c.from_residual-in_err-push.result c.from_residual-in_err-push.ensures.1 in
    rw (p.1, p.2) (record { cause = (edit, among, c.plan.ensures.full, tt); refused = λ is. cc; counted = tt; rolled_back = inr (inr tt) })

-- ---- all are planned
pub returns-clause-made : goal.returns-clause-made
returns-clause-made g c = λ honest.
    let so_far = c.edits.invariant in
    let now = (g.F.Files.history c.edits.store.files).tree in
    let edits = c.args.edits.now in
    let rest = c.edits.rest.now in
    let before = c.args.moves.now.items in
    let moves = c.edits.moves.items in
    let a = asked_with g.F.Files.history c.args.store.now c.args.packed c.args.committer edits in
    let ends = c.in_default.ensures.cases in
    record {
      tested = testing_ends a.lines.read edits rest before moves now ends (so_far.tested honest);
      texts = holding_ends a.lines.read edits rest before moves now ends (so_far.tested honest) c.requires.none;
      lines = zipping_ends (LinedIn a.lines a.base a.tree) edits rest before moves ends (so_far.lined honest) c.requires.none;
      locked = so_far.locked honest;
      room = so_far.room honest;
    }
