use Rattle.std.proofs.Common.{◌∙◌, ap, is_some}
use Rattle.history_model.specs.Places.{file_at}
use Rattle.history_check_names.proofs.Sizes.{some_size}
use Rattle.history_check_names.proofs.file.is_file.Goals as goal

pub returns-clause-found : goal.returns-clause-found
returns-clause-found g c = λ honest.
    c.is_some.ensures ∙ ap is_some (c.in_ok-file_len.ensures.found honest) ∙ some_size (file_at (g.F.Files.history c.args.files.now).tree c.args.path.now)
