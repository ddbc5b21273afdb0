use Rattle.std.proofs.Common.{◌∙◌, sym, ap}
use Rattle.gix_traverse_tree.specs.Folders.{number_in}
use Rattle.gix_traverse_tree.proofs.Numbering.{folder_at}
use Rattle.gix_traverse_tree.proofs.folders.number_at.Goals as goal

pub returns : goal.returns
returns c =
    c.number.ensures
    ∙ sym (folder_at c.args.folders.now c.args.at c.index-folders-at.result c.args.name.now c.requires ∙ ap (λ n. number_in n c.args.name.now) (sym c.index-folders-at.is))
