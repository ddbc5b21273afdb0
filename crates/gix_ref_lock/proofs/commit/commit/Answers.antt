use Rattle.std.proofs.Common.{subst}
use Rattle.gix_ref_file.proofs.Histories.{adds_weaker, adds_joined}
use Rattle.gix_ref_way.proofs.Rooms.{onlys_joined, onlys_same}
use Rattle.gix_ref_lock.specs.Committing.{OnTheWay}
use Rattle.gix_ref_lock.specs.Needs.{log_paths, IsOutOfMemory}
use Rattle.gix_ref_lock.proofs.Needed.{after_cause}
use Rattle.gix_ref_lock.proofs.FileMoves.{now_of}
use Rattle.gix_ref_lock.proofs.OnWays.{once_moves, way_begins, way_given_back}
use Rattle.gix_ref_lock.proofs.Kept.{honest_joined, honest_of}
use Rattle.gix_ref_lock.proofs.commit.commit.Goals as goal

pub returns-in-Err-clause-moments : goal.returns-in-Err-clause-moments
returns-in-Err-clause-moments g c = λ once honest.
    let old = g.F.Files.history c.args.files.now in
    let mid = g.F.Files.history c.make.new.files in
    let new = g.F.Files.history c.give_back_all.new.files in
    let t = c.args.packed in
    let ms = c.args.moves.now in
    let first = c.make.ensures.moments once honest in
    let way = now_of (OnTheWay t ms old.tree) old mid (way_begins t ms old.tree) first in
    adds_joined old mid new first
    (adds_weaker mid new (c.give_back_all.ensures.moments (once_moves t ms once) (c.make.ensures.keeps.honest honest)) (λ x may. way_given_back t ms old.tree mid.tree x once way may))

pub returns-in-Err-clause-folders : goal.returns-in-Err-clause-folders
returns-in-Err-clause-folders g c = λ once honest.
    let old = g.F.Files.history c.args.files.now in
    let mid = g.F.Files.history c.make.new.files in
    let new = g.F.Files.history c.give_back_all.new.files in
    let logs = log_paths c.args.moves.now in
    onlys_joined logs old mid new (c.make.ensures.folders once honest) (onlys_same logs mid new (c.give_back_all.ensures.keeps.folders (c.make.ensures.keeps.honest honest)))

pub returns-in-Err-clause-failed : goal.returns-in-Err-clause-failed
returns-in-Err-clause-failed g c = λ once honest can.
    let f = g.F.Files.failures in
    after_cause (f c.args.files.now) (f c.make.new.files) (f c.give_back_all.new.files) c.in-Err.error c.after.result c.give_back_all.result c.make.ensures.keeps.later c.give_back_all.ensures.keeps.later
    (c.in-Err.ensures.failed once honest can) c.after.ensures.told (c.give_back_all.ensures.failed (c.make.ensures.keeps.honest honest))

pub returns-in-Err-clause-keeps : goal.returns-in-Err-clause-keeps
returns-in-Err-clause-keeps g c =
    honest_joined g.F.Files c.args.files.now c.make.new.files c.give_back_all.new.files c.in-Err.ensures.keeps (honest_of g.F.Files c.make.new.files c.give_back_all.new.files c.give_back_all.ensures.keeps)
    (λ short. let kept = c.after.ensures.kept short in (subst IsOutOfMemory kept.0 short, kept.1))
