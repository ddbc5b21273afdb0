use Rattle.std.proofs.lemmas.Result.{on_ok_weaker, err_from_is_err_and}
use Rattle.gix_ref_file.proofs.Histories.{adds_weaker, adds_joined}
use Rattle.gix_ref_way.proofs.Rooms.{onlys_joined}
use Rattle.gix_ref_lock.specs.Needs.{log_paths}
use Rattle.gix_ref_lock.specs.declared.act.Move.{Move}
use Rattle.gix_ref_lock.proofs.Needed.{since}
use Rattle.gix_ref_lock.proofs.OnWays.{updating, forgetting, is_shown}
use Rattle.gix_ref_lock.proofs.PathLists.{all_of}
use Rattle.gix_ref_lock.proofs.commit.show_updates.Goals as goal

pub returns-in_err-make_all-clause-moments : goal.returns-in_err-make_all-clause-moments
returns-in_err-make_all-clause-moments g c = λ once honest.
    let old = g.F.Files.history c.args.files.now in
    adds_weaker old (g.F.Files.history c.make_all.new.files) (c.make_all.ensures.moments once honest) (updating c.args.moves.now old.tree)

pub returns-clause-moments : goal.returns-clause-moments
returns-clause-moments g c = λ once honest.
    let old = g.F.Files.history c.args.files.now in
    let mid = g.F.Files.history c.make_all.new.files in
    let new = g.F.Files.history c.make_all-2.new.files in
    let moves = c.args.moves.now in
    adds_joined old mid new (adds_weaker old mid (c.make_all.ensures.moments once honest) (updating moves old.tree))
    (adds_weaker mid new (c.make_all-2.ensures.moments once (c.make_all.ensures.keeps.honest honest)) (forgetting moves old.tree mid.tree (c.in_ok-make_all.ensures.made once honest)))

pub returns-clause-shown : goal.returns-clause-shown
returns-clause-shown g c = λ once honest.
    let old = (g.F.Files.history c.args.files.now).tree in
    let mid = (g.F.Files.history c.make_all.new.files).tree in
    let new = (g.F.Files.history c.make_all-2.new.files).tree in
    on_ok_weaker c.make_all-2.result (is_shown c.args.moves.now old mid new (c.in_ok-make_all.ensures.made once honest)) (c.make_all-2.ensures.made once (c.make_all.ensures.keeps.honest honest))

pub returns-clause-folders : goal.returns-clause-folders
returns-clause-folders g c = λ once honest.
    onlys_joined (log_paths c.args.moves.now) (g.F.Files.history c.args.files.now) (g.F.Files.history c.make_all.new.files) (g.F.Files.history c.make_all-2.new.files)
    (c.make_all.ensures.folders once honest) (c.make_all-2.ensures.folders once (c.make_all.ensures.keeps.honest honest))

pub returns-clause-failed : goal.returns-clause-failed
returns-clause-failed g c = λ once beside honest can.
    let f = g.F.Files.failures in
    since g.F.Files.reading_may_fail (f c.args.files.now) (f c.make_all.new.files) (f c.make_all-2.new.files) c.make_all-2.result c.make_all.ensures.keeps.later
    (c.make_all-2.ensures.failed once beside (c.make_all.ensures.keeps.honest honest) (all_of (λ (m : Move). Unit {0}) c.args.moves.now (λ m. tt)))

pub returns-in_err-make_all-clause-failed : goal.returns-in_err-make_all-clause-failed
returns-in_err-make_all-clause-failed g c = λ once beside honest can.
    let p = err_from_is_err_and c.from_residual.result c.from_residual.ensures.1 in
    rw (p.1, p.2) (c.in_err-make_all.ensures.failed once beside honest can)

pub returns-in_err-make_all-clause-folders : goal.returns-in_err-make_all-clause-folders
returns-in_err-make_all-clause-folders g c = λ once honest. c.make_all.ensures.folders once honest
