use Rattle.gix_ref_file.specs.Tree.{bytes_at}
use Rattle.gix_ref_lock.proofs.LockLemmas.{put_then_back}
use Rattle.std.proofs.Common.{◌∙◌, ap}
use Rattle.std.specs.Prelude.{Err}
use Rattle.gix_ref_lock.proofs.GivenUp.{not_replaced}
use Rattle.gix_ref_lock.proofs.Kept.{kept_joined}
use Rattle.gix_ref_lock.proofs.packed.replace.Goals as goal

pub returns-in-Err-clause-moments : goal.returns-in-Err-clause-moments
returns-in-Err-clause-moments g c = λ honest.
    let old = g.F.Files.history c.args.files.now in
    let mid = g.F.Files.history c.put.new.files in
    let new = g.F.Files.history c.unreplaced.new.files in
    let lock = c.args.lock.now in
    put_then_back lock.place.items lock.path.items (bytes_at old.tree lock.path.items) old mid new lock.beside (c.put.ensures.moments honest) (c.unreplaced.ensures.moments (c.put.ensures.keeps.honest honest))

pub returns-in-Err-clause-failed : goal.returns-in-Err-clause-failed
returns-in-Err-clause-failed g c = λ honest held may.
    not_replaced _ _ _ c.in-Err.error c.unreplaced.result c.put.ensures.keeps.later c.unreplaced.ensures.keeps.later (λ failed. c.put.ensures.failed honest held may (c.in-Err.is ∙ ap Err failed)) (c.unreplaced.ensures.told (c.put.ensures.keeps.honest honest))

pub returns-in-Err-clause-keeps : goal.returns-in-Err-clause-keeps
returns-in-Err-clause-keeps g c = kept_joined g.F.Files c.args.files.now c.put.new.files c.unreplaced.new.files c.in-Err.ensures.keeps c.unreplaced.ensures.keeps (λ short. (c.unreplaced.ensures.kept short, short))
