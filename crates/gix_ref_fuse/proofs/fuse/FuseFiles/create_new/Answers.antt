use Rattle.std.proofs.Common.{ap, subst, sym}
use Rattle.gix_ref_file.specs.Changes.{to_create, cut}
use Rattle.gix_ref_file.specs.History.{Makes}
use Rattle.gix_ref_file.proofs.Histories.{stopped}
use Rattle.gix_ref_fuse.proofs.fuse.FuseFiles.create_new.Goals as goal

pub returns-in-Part-clause-change : goal.returns-in-Part-clause-change
returns-in-Part-clause-change g c honest =
    let history = g.F.Files.history in
    let same = c.change_turn.ensures.files in
    let change = to_create c.args.path.now c.args.bytes.now in
    let part = c.create_new-part.ensures.change (subst g.F.Files.is_honest (sym same) honest) in
    stopped c.min-kept.result change _ _ _ _ _
    (subst (λ files. Makes (cut c.min-kept.result change) (history files) (history c.create_new-part.new.self) c.create_new-part.result) same part)
    (ap history c.failed_part.ensures.files)
