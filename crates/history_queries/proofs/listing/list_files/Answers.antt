use Rattle.std.proofs.Common.{◌≡◌, ◌∙◌, ap, map}
use Rattle.std.specs.FinMap.{entries}
use Rattle.history_model.specs.Answers.{file_line}
use Rattle.history_files.specs.Reading.{line_of}
use Rattle.history_model.specs.Commands.{Files}
use Rattle.history_model.specs.Replies.{FilesAre, reply_text}
use Rattle.history_queries.proofs.Answered.{reading_fault, unread, handed_on, files_refused, reads_commit, files_answered, root_at}
use Rattle.history_queries.proofs.listing.list_files.Goals as goal
use Rattle.gix_hash.specs.Id.{id_of}

pub returns-in_err-commit : goal.returns-in_err-commit
returns-in_err-commit g c = λ r s.
    let sent = Files c.args.word.now in
    handed_on g.F.Files.reading_may_fail r sent c.from_residual.result _ c.from_residual.ensures.1
    (unread g.F.Files.reading_may_fail r sent c.args.word.now _ (files_refused r s.whole.whole c.args.word.now) (c.in_err-commit.ensures r s))

pub returns-in_err-root : goal.returns-in_err-root
returns-in_err-root g c = λ r s.
    let sent = Files c.args.word.now in
    let meant = c.in_ok-commit.ensures r s in
    let read = reads_commit r s.whole.whole c.args.word.now (id_of c.in_ok-commit.commit.id) meant.0 in
    handed_on g.F.Files.reading_may_fail r sent c.from_residual-in_err-root.result _ c.from_residual-in_err-root.ensures.1
    (reading_fault g.F.Files.reading_may_fail r sent _ (c.in_err-root.ensures r read.0 s read.1 meant.1))

pub returns-in_err-files : goal.returns-in_err-files
returns-in_err-files g c = λ r s.
    let sent = Files c.args.word.now in
    let meant = c.in_ok-commit.ensures r s in
    let read = reads_commit r s.whole.whole c.args.word.now (id_of c.in_ok-commit.commit.id) meant.0 in
    let folder = root_at r s.whole.whole.store (id_of c.in_ok-commit.commit.id) read.0 c.in_ok-root.root read.1 (c.in_ok-root.ensures r read.0 s read.1 meant.1) in
    handed_on g.F.Files.reading_may_fail r sent c.from_residual-in_err-files.result _ c.from_residual-in_err-files.ensures.1
    (reading_fault g.F.Files.reading_may_fail r sent _ (c.in_err-files.ensures r read.0.files s folder))

pub returns : goal.returns
returns g c = λ r s.
    let meant = c.in_ok-commit.ensures r s in
    let read = reads_commit r s.whole.whole c.args.word.now (id_of c.in_ok-commit.commit.id) meant.0 in
    let folder = root_at r s.whole.whole.store (id_of c.in_ok-commit.commit.id) read.0 c.in_ok-root.root read.1 (c.in_ok-root.ensures r read.0 s read.1 meant.1) in
    let files : map line_of c.in_ok-files.files.items ≡ map (file_line r.kind) (entries read.0.files) = c.in_ok-files.ensures r read.0.files s folder in
    files_answered r s.whole.whole g.F.Files.reading_may_fail c.args.word.now (id_of c.in_ok-commit.commit.id) read.0 c.in_ok-files.files.items c.in_ok-files_text.field-0
    meant.0 read.1 files (c.in_ok-files_text.ensures ∙ ap (λ found. reply_text (FilesAre (map line_of found))) c.deref.ensures.value)
