use Rattle.std.proofs.Common.{ap}
use Rattle.std.specs.Prelude.{Err}
use Rattle.std.proofs.lemmas.Result.{err_from_is_err_and}
use Rattle.gix_ref_way.proofs.Rooms.{way_only}
use Rattle.gix_ref_transaction.proofs.Counting.{counts_file, file_memory}
use Rattle.gix_ref_transaction.proofs.Takings.{file_no_lock, file_take}
use Rattle.gix_ref_transaction.proofs.plan.clear.Goals as goal

pub returns-in_err-try_make_way-clause-folders : goal.returns-in_err-try_make_way-clause-folders
returns-in_err-try_make_way-clause-folders g c = λ honest.
    way_only c.args.place.now (g.F.Files.history c.args.files.now) (g.F.Files.history c.try_make_way.new.files) (c.try_make_way.ensures.folders honest) (c.try_make_way.ensures.stay honest)

pub returns-in-Free-clause-folders : goal.returns-in-Free-clause-folders
returns-in-Free-clause-folders g c = λ honest.
    way_only c.args.place.now (g.F.Files.history c.args.files.now) (g.F.Files.history c.try_make_way.new.files) (c.try_make_way.ensures.folders honest) (c.try_make_way.ensures.stay honest)

pub returns-in-Blocked-clause-folders : goal.returns-in-Blocked-clause-folders
returns-in-Blocked-clause-folders g c = λ honest.
    way_only c.args.place.now (g.F.Files.history c.args.files.now) (g.F.Files.history c.try_make_way.new.files) (c.try_make_way.ensures.folders honest) (c.try_make_way.ensures.stay honest)

pub returns-in-Unread-clause-folders : goal.returns-in-Unread-clause-folders
returns-in-Unread-clause-folders g c = λ honest.
    way_only c.args.place.now (g.F.Files.history c.args.files.now) (g.F.Files.history c.try_make_way.new.files) (c.try_make_way.ensures.folders honest) (c.try_make_way.ensures.stay honest)

pub returns-in_err-try_make_way-clause-counted : goal.returns-in_err-try_make_way-clause-counted
returns-in_err-try_make_way-clause-counted g c = λ honest.
    let f = g.F.Files.failures in
    let p = err_from_is_err_and c.from_residual.result c.from_residual.ensures.1 in
    rw (p.1, p.2) (counts_file c.in_err-try_make_way.field-0.0 (f c.args.files.now) (f c.try_make_way.new.files) (λ is. c.in_err-try_make_way.ensures.failed honest c.requires (ap Err is)))

pub returns-in_err-try_make_way-clause-refused : goal.returns-in_err-try_make_way-clause-refused
returns-in_err-try_make_way-clause-refused g c = λ honest.
    let p = err_from_is_err_and c.from_residual.result c.from_residual.ensures.1 in
    rw (p.1, p.2) (λ is. absurd (file_no_lock c.in_err-try_make_way.field-0.0 is))

pub returns-in_err-try_make_way-clause-failed : goal.returns-in_err-try_make_way-clause-failed
returns-in_err-try_make_way-clause-failed g c =
    let p = err_from_is_err_and c.from_residual.result c.from_residual.ensures.1 in
    rw (p.1, p.2) (file_take g.F.Files.reading_may_fail c.in_err-try_make_way.field-0.0)

pub returns-in-Free-clause-room : goal.returns-in-Free-clause-room
returns-in-Free-clause-room g c = λ honest. c.in_ok-try_make_way.ensures.free honest c.requires c.in-Free.is

pub returns-in-Blocked-clause-refused : goal.returns-in-Blocked-clause-refused
returns-in-Blocked-clause-refused g c = λ honest is. c.in_ok-try_make_way.ensures.blocked honest c.in-Blocked.is

pub returns-in-Unread-clause-failed : goal.returns-in-Unread-clause-failed
returns-in-Unread-clause-failed g c = c.in_ok-try_make_way.ensures.unread c.in-Unread.is

pub returns-in_err-try_make_way-clause-keeps : goal.returns-in_err-try_make_way-clause-keeps
returns-in_err-try_make_way-clause-keeps g c =
    let p = err_from_is_err_and c.from_residual.result c.from_residual.ensures.1 in
    rw (p.1, p.2) (record {
      honest = c.try_make_way.ensures.honest;
      later = c.try_make_way.ensures.later;
      quiet = λ other. c.in_err-try_make_way.ensures.memory (ap Err (file_memory c.in_err-try_make_way.field-0.0 other));
    })
