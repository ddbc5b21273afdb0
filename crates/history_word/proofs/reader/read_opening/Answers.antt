use Rattle.std.proofs.Common.{[], ◌∷◌, refl}
use Rattle.std.proofs.lemmas.Result.{err_from_is_err_and}
use Rattle.history_word.specs.Sizes.{listed}
use Rattle.history_word.specs.LineTable as table
use Rattle.history_word.specs.Progress.{IsNoField, StopsFrom}
use Rattle.history_word.proofs.TakingLemmas.{took_none}
use Rattle.history_word.proofs.StopLemmas.{stops_then}
use Rattle.history_word.proofs.LineEndLemmas.{field_first_stops}
use Rattle.history_word.proofs.DraftLemmas.{commit_opens, tag_opens, move_opens, rename_opens, delete_opens, files_opens, show_opens, path_opens, names_opens, folder_opens, past_opens, switch_opens, pack_opens, index_opens, log_opens}
use Rattle.history_word.proofs.reader.read_opening.Goals as goal

pub returns-in-Commit : goal.returns-in-Commit
returns-in-Commit g c = rw (c.in-Commit.is) ([], took_none g.R.Source.left g.R.Source.readings c.args.source.now c.args.buffer.now, (commit_opens c.in-Commit.name c.in-Commit.expect _ c.commit.ensures, λ _. refl))

pub returns-in-Tag : goal.returns-in-Tag
returns-in-Tag g c = rw (c.in-Tag.is) ([], took_none g.R.Source.left g.R.Source.readings c.args.source.now c.args.buffer.now, (tag_opens c.in-Tag.target _ c.tag.ensures, λ _. refl))

pub returns-in-Move : goal.returns-in-Move
returns-in-Move g c = rw (c.in-Move.is) ([], took_none g.R.Source.left g.R.Source.readings c.args.source.now c.args.buffer.now, (move_opens _ c.new_move.ensures, λ _. refl))

pub returns-in-Rename : goal.returns-in-Rename
returns-in-Rename g c = rw (c.in-Rename.is) ([], took_none g.R.Source.left g.R.Source.readings c.args.source.now c.args.buffer.now, (rename_opens c.in-Rename.from c.in-Rename.to _ c.rename.ensures, λ _. refl))

pub returns-in-Delete : goal.returns-in-Delete
returns-in-Delete g c = rw (c.in-Delete.is) ([], took_none g.R.Source.left g.R.Source.readings c.args.source.now c.args.buffer.now, (delete_opens c.in-Delete.name c.in-Delete.expect _ c.delete.ensures, λ _. refl))

pub returns-in-Files : goal.returns-in-Files
returns-in-Files g c = rw (c.in-Files.is) ([], took_none g.R.Source.left g.R.Source.readings c.args.source.now c.args.buffer.now, (files_opens c.in-Files.word, λ _. refl))

pub returns-in-Show : goal.returns-in-Show
returns-in-Show g c = rw (c.in-Show.is) ([], took_none g.R.Source.left g.R.Source.readings c.args.source.now c.args.buffer.now, (show_opens c.in-Show.word _ c.show.ensures, λ _. refl))

pub returns-in_err-path-in-ShowPath : goal.returns-in_err-path-in-ShowPath
returns-in_err-path-in-ShowPath g c =
    let p = err_from_is_err_and c.from_residual.result c.from_residual.ensures.1 in
    rw (p.1, p.2, c.in-ShowPath.is) (stops_then g.R.Source.left g.R.Source.has_failed g.R.Source.readings _ _ _ _ _ _ [] (IsNoField c.in-ShowPath.path)
    (λ bytes cause. (place : table.Place) → StopsFrom (c.in-ShowPath.path ∷ []) place bytes cause)
    (λ ys m bad place. field_first_stops c.in-ShowPath.path [] place ys m bad)
    c.in_err-path-in-ShowPath.field-0.0 (took_none g.R.Source.left g.R.Source.readings c.args.source.now c.args.buffer.now) c.in_err-path-in-ShowPath.ensures)

pub returns-in_ok-path-in-ShowPath : goal.returns-in_ok-path-in-ShowPath
returns-in_ok-path-in-ShowPath g c =
    let a = c.in_ok-path-in-ShowPath.ensures in
    rw (c.in-ShowPath.is) (a.0, a.1, (path_opens c.in-ShowPath.word c.in-ShowPath.path a.0 _ a.2.0 a.2.1 a.2.2 (λ w x. c.show_path.ensures w a.2.0 x a.2.3), a.2.4))

pub returns-in-Names : goal.returns-in-Names
returns-in-Names g c = rw (c.in-Names.is) ([], took_none g.R.Source.left g.R.Source.readings c.args.source.now c.args.buffer.now, (names_opens, λ _. refl))

pub returns-in-NamesIn : goal.returns-in-NamesIn
returns-in-NamesIn g c = rw (c.in-NamesIn.is) ([], took_none g.R.Source.left g.R.Source.readings c.args.source.now c.args.buffer.now, (folder_opens c.in-NamesIn.folder, λ _. refl))

pub returns-in-Past : goal.returns-in-Past
returns-in-Past g c = rw (c.in-Past.is) ([], took_none g.R.Source.left g.R.Source.readings c.args.source.now c.args.buffer.now, (past_opens c.in-Past.word, λ _. refl))

pub returns-in-Switch : goal.returns-in-Switch
returns-in-Switch g c = rw (c.in-Switch.is) ([], took_none g.R.Source.left g.R.Source.readings c.args.source.now c.args.buffer.now, (switch_opens c.in-Switch.name, λ _. refl))

pub returns-in-Pack : goal.returns-in-Pack
returns-in-Pack g c = rw (c.in-Pack.is) ([], took_none g.R.Source.left g.R.Source.readings c.args.source.now c.args.buffer.now, (pack_opens, λ _. refl))

pub returns-in-Index : goal.returns-in-Index
returns-in-Index g c = rw (c.in-Index.is) ([], took_none g.R.Source.left g.R.Source.readings c.args.source.now c.args.buffer.now, (index_opens, λ _. refl))

pub returns-in_err-read_log-in-Log : goal.returns-in_err-read_log-in-Log
returns-in_err-read_log-in-Log g c =
    let p = err_from_is_err_and c.from_residual-in_err-read_log-in-Log.result c.from_residual-in_err-read_log-in-Log.ensures.1 in
    rw (p.1, p.2, c.in-Log.is) (stops_then g.R.Source.left g.R.Source.has_failed g.R.Source.readings _ _ _ _ _ _ []
    (λ bytes cause. (place : table.Place) → StopsFrom (listed c.in-Log.line.paths) place bytes cause)
    (λ bytes cause. (place : table.Place) → StopsFrom (listed c.in-Log.line.paths) place bytes cause)
    (λ ys m bad. bad)
    c.in_err-read_log-in-Log.field-0.0 (took_none g.R.Source.left g.R.Source.readings c.args.source.now c.args.buffer.now) c.in_err-read_log-in-Log.ensures)

pub returns-in_ok-read_log-in-Log : goal.returns-in_ok-read_log-in-Log
returns-in_ok-read_log-in-Log g c =
    let a = c.in_ok-read_log-in-Log.ensures in
    rw (c.in-Log.is) (a.0, a.1, (log_opens c.in-Log.line c.in_ok-read_log-in-Log.field-0 a.0 a.2.0, a.2.1))
