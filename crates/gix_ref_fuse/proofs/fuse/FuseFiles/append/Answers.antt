use Rattle.std.proofs.Common.{ap, subst, sym}
use Rattle.gix_ref_file.specs.Changes.{to_append, cut}
use Rattle.gix_ref_file.specs.History.{Makes}
use Rattle.gix_ref_file.proofs.Histories.{stopped}
use Rattle.gix_ref_fuse.proofs.fuse.FuseFiles.append.Goals as goal

pub returns-in-Part-clause-change : goal.returns-in-Part-clause-change
returns-in-Part-clause-change g c honest =
    let history = g.F.Files.history in
    let same = c.change_turn.ensures.files in
    let change = to_append c.args.path.now c.args.bytes.now in
    let part = c.append-part.ensures.change (subst g.F.Files.is_honest (sym same) honest) in
    stopped c.min-kept.result change _ _ _ _ _
    (subst (λ files. Makes (cut c.min-kept.result change) (history files) (history c.append-part.new.self) c.append-part.result) same part)
    (ap history c.failed_part.ensures.files)
