use Rattle.std.proofs.Common.{◌∙◌, ap, sym}
use Rattle.gix_ref_file.specs.Tree.{is_folder, node_at}
use Rattle.gix_ref_way.proofs.Upward.{all_above}
use Rattle.gix_ref_way.proofs.folders.make_missing.Goals as goal

pub returns-in-Ok-true-clause-made : goal.returns-in-Ok-true-clause-made
returns-in-Ok-true-clause-made g c = λ honest.
    let tree = (g.F.Files.history c.args.files.now).tree in
    all_above tree c.args.path.now (g.met.F.Files.rooted c.args.files.now honest)
    (ap (λ p. is_folder (node_at tree p)) (sym c.parent.ensures) ∙ sym (c.in-Ok-true.ensures.found honest) ∙ c.in-Ok-true.field-0-is ∙ c.in-Ok-true.field-0-test)
