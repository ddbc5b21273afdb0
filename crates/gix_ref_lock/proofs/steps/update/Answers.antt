use Rattle.std.proofs.Common.{◌≡◌, inl, refl, sym, subst, List, Option, Vec, ℕ}
use Rattle.std.specs.declared.alloc.Global.{Global}
use Rattle.std.specs.Prelude.{OnOk}
use Rattle.gix_ref_file.specs.Tree.{bytes_at}
use Rattle.gix_ref_file.specs.History.{Adds, History}
use Rattle.gix_ref_file.proofs.Histories.{adds_weaker, adds_joined}
use Rattle.gix_ref_lock.specs.Locks.{OthersStay, MayBePut}
use Rattle.std.proofs.lemmas.Result.{on_ok_weaker, err_from_is_err_and}
use Rattle.gix_ref_lock.specs.Contents.{act_line, place_of, lock_path_of, log_path_of}
use Rattle.gix_ref_lock.specs.Needs.{CanNote, noted_logs, logs_of}
use Rattle.gix_ref_way.specs.Ways.{FoldersOnlyOf}
use Rattle.gix_ref_way.proofs.Rooms.{only_now, onlys_joined, onlys_same}
use Rattle.gix_ref_lock.proofs.Needed.{told_cause, since, lock_after, place_after}
use Rattle.gix_ref_lock.specs.Moments.{MayNote, NotesLog}
use Rattle.gix_ref_lock.specs.declared.act.Act.{Act}
use Rattle.gix_ref_lock.specs.declared.act.Move.{Move}
use Rattle.gix_ref_lock.proofs.ActMoves.{noting_put, putting, is_put, noting_note, giving_note, is_note, noting_pack, is_pack}
use Rattle.gix_ref_lock.proofs.FileMoves.{on_told, now_of}
use Rattle.gix_ref_lock.proofs.Kept.{honest_joined, honest_of}
use Rattle.gix_ref_lock.proofs.steps.update.Goals as goal

pub returns-in_ok-note-in-Put-clause-moments : goal.returns-in_ok-note-in-Put-clause-moments
returns-in_ok-note-in-Put-clause-moments g c = λ apart honest.
    let m = c.args.made.now in
    let line = c.in-Put.line in
    let old = g.F.Files.history c.args.files.now in
    let mid = g.F.Files.history c.note.new.files in
    let new = g.F.Files.history c.put.new.files in
    let first = subst (λ (p : List ℕ). Adds (MayNote line p old.tree) old mid) c.deref.ensures.value (c.note.ensures.moments honest) in
    let is_noted = subst (λ (p : List ℕ). NotesLog line p old.tree mid.tree) c.deref.ensures.value (c.in_ok-note-in-Put.ensures.noted honest) in
    adds_joined old mid new (adds_weaker old mid first (noting_put m apart line old.tree c.in-Put.is))
    (adds_weaker mid new (c.put.ensures.moments (c.note.ensures.keeps.honest honest)) (putting m apart line old.tree c.in-Put.is mid.tree is_noted))

pub returns-in_ok-note-in-Put-clause-made : goal.returns-in_ok-note-in-Put-clause-made
returns-in_ok-note-in-Put-clause-made g c = λ apart honest.
    let m = c.args.made.now in
    let line = c.in-Put.line in
    let old = g.F.Files.history c.args.files.now in
    let mid = g.F.Files.history c.note.new.files in
    let new = g.F.Files.history c.put.new.files in
    let is_noted = subst (λ (p : List ℕ). NotesLog line p old.tree mid.tree) c.deref.ensures.value (c.in_ok-note-in-Put.ensures.noted honest) in
    let may = now_of (MayBePut (place_of m) (lock_path_of m) (bytes_at mid.tree (lock_path_of m)) mid.tree) mid new (record { here = inl refl; others = λ path a b. refl }) (c.put.ensures.moments (c.note.ensures.keeps.honest honest)) in
    on_told _ c.outcome_of_call.result c.put.result tt c.outcome_of_call.ensures.done
    (on_ok_weaker c.put.result (is_put m apart line old.tree c.in-Put.is mid.tree is_noted new.tree may) (c.put.ensures.put (c.note.ensures.keeps.honest honest)))

pub returns-in_ok-note-in-Note-clause-moments : goal.returns-in_ok-note-in-Note-clause-moments
returns-in_ok-note-in-Note-clause-moments g c = λ apart honest.
    let m = c.args.made.now in
    let line = c.in-Note.line in
    let old = g.F.Files.history c.args.files.now in
    let mid = g.F.Files.history c.note-in-Note.new.files in
    let new = g.F.Files.history c.give_back.new.files in
    let first = subst (λ (p : List ℕ). Adds (MayNote line p old.tree) old mid) c.deref-in-Note.ensures.value (c.note-in-Note.ensures.moments honest) in
    let is_noted = subst (λ (p : List ℕ). NotesLog line p old.tree mid.tree) c.deref-in-Note.ensures.value (c.in_ok-note-in-Note.ensures.noted honest) in
    adds_joined old mid new (adds_weaker old mid first (noting_note m apart line old.tree c.in-Note.is))
    (adds_weaker mid new (c.give_back.ensures.moments (c.note-in-Note.ensures.keeps.honest honest)) (giving_note m apart line old.tree c.in-Note.is mid.tree is_noted))

pub returns-in_ok-note-in-Note-clause-made : goal.returns-in_ok-note-in-Note-clause-made
returns-in_ok-note-in-Note-clause-made g c = λ apart honest.
    let m = c.args.made.now in
    let line = c.in-Note.line in
    let old = g.F.Files.history c.args.files.now in
    let mid = g.F.Files.history c.note-in-Note.new.files in
    let new = g.F.Files.history c.give_back.new.files in
    let is_noted = subst (λ (p : List ℕ). NotesLog line p old.tree mid.tree) c.deref-in-Note.ensures.value (c.in_ok-note-in-Note.ensures.noted honest) in
    let stay = now_of (OthersStay (lock_path_of m) mid.tree) mid new (λ path apart. refl) (c.give_back.ensures.moments (c.note-in-Note.ensures.keeps.honest honest)) in
    on_told _ c.outcome_of_call-in-Note.result c.give_back.result tt c.outcome_of_call-in-Note.ensures.done
    (on_ok_weaker c.give_back.result (is_note m apart line old.tree c.in-Note.is mid.tree is_noted new.tree stay) (c.give_back.ensures.gone (c.note-in-Note.ensures.keeps.honest honest)))

pub returns-in-Pack-clause-moments : goal.returns-in-Pack-clause-moments
returns-in-Pack-clause-moments g c = λ apart honest.
    let m = c.args.made.now in
    let line = c.in-Pack.line in
    let old = g.F.Files.history c.args.files.now in
    let new = g.F.Files.history c.note-in-Pack.new.files in
    let first = subst (λ (p : List ℕ). Adds (MayNote line p old.tree) old new) c.deref-in-Pack.ensures.value (c.note-in-Pack.ensures.moments honest) in
    adds_weaker old new first (λ x may. noting_pack m apart line c.in-Pack.is old.tree x may)

pub returns-in-Pack-clause-made : goal.returns-in-Pack-clause-made
returns-in-Pack-clause-made g c = λ apart honest.
    let m = c.args.made.now in
    let line = c.in-Pack.line in
    let old = (g.F.Files.history c.args.files.now).tree in
    let new = (g.F.Files.history c.note-in-Pack.new.files).tree in
    on_ok_weaker c.note-in-Pack.result (is_pack m apart line c.in-Pack.is old new)
    (subst (λ (p : List ℕ). OnOk c.note-in-Pack.result (NotesLog line p old new)) c.deref-in-Pack.ensures.value (c.note-in-Pack.ensures.noted honest))

pub returns-in_ok-note-in-Put-clause-failed : goal.returns-in_ok-note-in-Put-clause-failed
returns-in_ok-note-in-Put-clause-failed g c = λ apart beside honest can.
    let m = c.args.made.now in
    let line = c.in-Put.line in
    let old = g.F.Files.history c.args.files.now in
    let mid = g.F.Files.history c.note.new.files in
    let first = subst (λ (p : List ℕ). Adds (FoldersOnlyOf (noted_logs line p) old.tree) old mid) c.deref.ensures.value (c.note.ensures.folders honest) in
    let f = g.F.Files.failures in
    let is_noted = subst (λ (p : List ℕ). NotesLog line p old.tree mid.tree) c.deref.ensures.value (c.in_ok-note-in-Put.ensures.noted honest) in
    let held = lock_after m apart beside line old.tree mid.tree is_noted can.held in
    since g.F.Files.reading_may_fail (f c.args.files.now) (f c.note.new.files) (f c.put.new.files) c.outcome_of_call.result c.note.ensures.keeps.later
    (told_cause c.put.result c.outcome_of_call.result c.outcome_of_call.ensures.failed (λ failed. inl (c.put.ensures.failed (c.note.ensures.keeps.honest honest) held (place_after m apart beside line old.tree mid.tree (only_now (noted_logs line (log_path_of m)) old mid first) can.place) failed)))

pub returns-in_ok-note-in-Note-clause-failed : goal.returns-in_ok-note-in-Note-clause-failed
returns-in_ok-note-in-Note-clause-failed g c = λ apart beside honest can.
    let m = c.args.made.now in
    let line = c.in-Note.line in
    let old = g.F.Files.history c.args.files.now in
    let mid = g.F.Files.history c.note-in-Note.new.files in
    let first = subst (λ (p : List ℕ). Adds (FoldersOnlyOf (noted_logs line p) old.tree) old mid) c.deref-in-Note.ensures.value (c.note-in-Note.ensures.folders honest) in
    let f = g.F.Files.failures in
    let is_noted = subst (λ (p : List ℕ). NotesLog line p old.tree mid.tree) c.deref-in-Note.ensures.value (c.in_ok-note-in-Note.ensures.noted honest) in
    let held = lock_after m apart beside line old.tree mid.tree is_noted can.held in
    since g.F.Files.reading_may_fail (f c.args.files.now) (f c.note-in-Note.new.files) (f c.give_back.new.files) c.outcome_of_call-in-Note.result c.note-in-Note.ensures.keeps.later
    (told_cause c.give_back.result c.outcome_of_call-in-Note.result c.outcome_of_call-in-Note.ensures.failed (λ failed. inl (c.give_back.ensures.held (c.note-in-Note.ensures.keeps.honest honest) held failed)))

pub returns-in-Pack-clause-failed : goal.returns-in-Pack-clause-failed
returns-in-Pack-clause-failed g c = λ apart beside honest can.
    let m = c.args.made.now in
    let line = c.in-Pack.line in
    let old = (g.F.Files.history c.args.files.now).tree in
    c.note-in-Pack.ensures.failed honest (subst (λ (p : List ℕ). CanNote line p old) (sym c.deref-in-Pack.ensures.value) (subst (λ act. CanNote (act_line act) (log_path_of m) old) c.in-Pack.is can.log))

pub returns-in_err-note-in-Put-clause-failed : goal.returns-in_err-note-in-Put-clause-failed
returns-in_err-note-in-Put-clause-failed g c = λ apart beside honest can.
    let m = c.args.made.now in
    let line = c.in-Put.line in
    let old = (g.F.Files.history c.args.files.now).tree in
    let own = subst (λ (p : List ℕ). CanNote line p old) (sym c.deref.ensures.value) (subst (λ act. CanNote (act_line act) (log_path_of m) old) c.in-Put.is can.log) in
    let p = err_from_is_err_and c.from_residual.result c.from_residual.ensures.1 in
    rw (p.1, p.2) (c.in_err-note-in-Put.ensures.failed honest own)

pub returns-in_err-note-in-Note-clause-failed : goal.returns-in_err-note-in-Note-clause-failed
returns-in_err-note-in-Note-clause-failed g c = λ apart beside honest can.
    let m = c.args.made.now in
    let line = c.in-Note.line in
    let old = (g.F.Files.history c.args.files.now).tree in
    let own = subst (λ (p : List ℕ). CanNote line p old) (sym c.deref-in-Note.ensures.value) (subst (λ act. CanNote (act_line act) (log_path_of m) old) c.in-Note.is can.log) in
    let p = err_from_is_err_and c.from_residual-in_err-note-in-Note.result c.from_residual-in_err-note-in-Note.ensures.1 in
    rw (p.1, p.2) (c.in_err-note-in-Note.ensures.failed honest own)

pub returns-in_err-note-in-Put-clause-moments : goal.returns-in_err-note-in-Put-clause-moments
returns-in_err-note-in-Put-clause-moments g c = λ apart honest.
    let line = c.in-Put.line in
    let old = g.F.Files.history c.args.files.now in
    let mid = g.F.Files.history c.note.new.files in
    let first = subst (λ (p : List ℕ). Adds (MayNote line p old.tree) old mid) c.deref.ensures.value (c.note.ensures.moments honest) in
    adds_weaker old mid first (noting_put c.args.made.now apart line old.tree c.in-Put.is)

pub returns-in_err-note-in-Note-clause-moments : goal.returns-in_err-note-in-Note-clause-moments
returns-in_err-note-in-Note-clause-moments g c = λ apart honest.
    let line = c.in-Note.line in
    let old = g.F.Files.history c.args.files.now in
    let mid = g.F.Files.history c.note-in-Note.new.files in
    let first = subst (λ (p : List ℕ). Adds (MayNote line p old.tree) old mid) c.deref-in-Note.ensures.value (c.note-in-Note.ensures.moments honest) in
    adds_weaker old mid first (noting_note c.args.made.now apart line old.tree c.in-Note.is)

pub returns-in_ok-note-in-Put-clause-keeps : goal.returns-in_ok-note-in-Put-clause-keeps
returns-in_ok-note-in-Put-clause-keeps g c =
    honest_joined g.F.Files c.args.files.now c.note.new.files c.put.new.files c.in_ok-note-in-Put.ensures.keeps (honest_of g.F.Files c.note.new.files c.put.new.files c.put.ensures.keeps)
    (λ quiet. (tt, c.outcome_of_call.ensures.quiet (λ no. no) quiet))

pub returns-in_ok-note-in-Note-clause-keeps : goal.returns-in_ok-note-in-Note-clause-keeps
returns-in_ok-note-in-Note-clause-keeps g c =
    honest_joined g.F.Files c.args.files.now c.note-in-Note.new.files c.give_back.new.files c.in_ok-note-in-Note.ensures.keeps (honest_of g.F.Files c.note-in-Note.new.files c.give_back.new.files c.give_back.ensures.keeps)
    (λ quiet. (tt, c.outcome_of_call-in-Note.ensures.quiet (λ no. no) quiet))

pub returns-in_err-note-in-Put-clause-keeps : goal.returns-in_err-note-in-Put-clause-keeps
returns-in_err-note-in-Put-clause-keeps g c =
    let p = err_from_is_err_and c.from_residual.result c.from_residual.ensures.1 in
    rw (p.1, p.2) c.in_err-note-in-Put.ensures.keeps

pub returns-in_err-note-in-Note-clause-keeps : goal.returns-in_err-note-in-Note-clause-keeps
returns-in_err-note-in-Note-clause-keeps g c =
    let p = err_from_is_err_and c.from_residual-in_err-note-in-Note.result c.from_residual-in_err-note-in-Note.ensures.1 in
    rw (p.1, p.2) c.in_err-note-in-Note.ensures.keeps

-- folders come as the line is noted
noted_folders : (m : Move) (line : Option (Vec ℕ Global)) (act : Act) (p : List ℕ) (old mid : History) → m.act ≡ act → act_line act ≡ line → p ≡ log_path_of m → Adds (FoldersOnlyOf (noted_logs line p) old.tree) old mid
    → Adds (FoldersOnlyOf (logs_of m) old.tree) old mid
noted_folders m line act p old mid is has here first =
    subst (λ act. Adds (FoldersOnlyOf (noted_logs (act_line act) (log_path_of m)) old.tree) old mid) (sym is)
    (subst (λ (l : Option (Vec ℕ Global)). Adds (FoldersOnlyOf (noted_logs l (log_path_of m)) old.tree) old mid) (sym has)
    (subst (λ (q : List ℕ). Adds (FoldersOnlyOf (noted_logs line q) old.tree) old mid) here first))

pub returns-in_err-note-in-Put-clause-folders : goal.returns-in_err-note-in-Put-clause-folders
returns-in_err-note-in-Put-clause-folders g c = λ honest.
    noted_folders c.args.made.now c.in-Put.line _ c.deref.result.now (g.F.Files.history c.args.files.now) (g.F.Files.history c.note.new.files) c.in-Put.is refl c.deref.ensures.value (c.note.ensures.folders honest)

pub returns-in_ok-note-in-Put-clause-folders : goal.returns-in_ok-note-in-Put-clause-folders
returns-in_ok-note-in-Put-clause-folders g c = λ honest.
    let m = c.args.made.now in
    let old = g.F.Files.history c.args.files.now in
    let mid = g.F.Files.history c.note.new.files in
    let new = g.F.Files.history c.put.new.files in
    onlys_joined (logs_of m) old mid new (noted_folders m c.in-Put.line _ c.deref.result.now old mid c.in-Put.is refl c.deref.ensures.value (c.note.ensures.folders honest))
    (onlys_same (logs_of m) mid new (c.put.ensures.keeps.folders (c.note.ensures.keeps.honest honest)))

pub returns-in_err-note-in-Note-clause-folders : goal.returns-in_err-note-in-Note-clause-folders
returns-in_err-note-in-Note-clause-folders g c = λ honest.
    noted_folders c.args.made.now c.in-Note.line _ c.deref-in-Note.result.now (g.F.Files.history c.args.files.now) (g.F.Files.history c.note-in-Note.new.files) c.in-Note.is refl c.deref-in-Note.ensures.value (c.note-in-Note.ensures.folders honest)

pub returns-in_ok-note-in-Note-clause-folders : goal.returns-in_ok-note-in-Note-clause-folders
returns-in_ok-note-in-Note-clause-folders g c = λ honest.
    let m = c.args.made.now in
    let old = g.F.Files.history c.args.files.now in
    let mid = g.F.Files.history c.note-in-Note.new.files in
    let new = g.F.Files.history c.give_back.new.files in
    onlys_joined (logs_of m) old mid new (noted_folders m c.in-Note.line _ c.deref-in-Note.result.now old mid c.in-Note.is refl c.deref-in-Note.ensures.value (c.note-in-Note.ensures.folders honest))
    (onlys_same (logs_of m) mid new (c.give_back.ensures.keeps.folders (c.note-in-Note.ensures.keeps.honest honest)))

pub returns-in-Pack-clause-folders : goal.returns-in-Pack-clause-folders
returns-in-Pack-clause-folders g c = λ honest.
    noted_folders c.args.made.now c.in-Pack.line _ c.deref-in-Pack.result.now (g.F.Files.history c.args.files.now) (g.F.Files.history c.note-in-Pack.new.files) c.in-Pack.is refl c.deref-in-Pack.ensures.value (c.note-in-Pack.ensures.folders honest)
