use Rattle.std.proofs.Common.{◌∙◌, ap}
use Rattle.std.proofs.lemmas.List.{length-set}
use Rattle.gix_traverse_tree.specs.Folders.{number_in}
use Rattle.gix_traverse_tree.proofs.Called.{on_ok}
use Rattle.gix_traverse_tree.proofs.Numbering.{set_here, set_others}
use Rattle.gix_traverse_tree.proofs.folders.put_at.Goals as goal

pub returns-clause-here : goal.returns-clause-here
returns-clause-here c =
    on_ok c.put.result _ _
    (λ e. set_here c.args.folders.now.items c.args.at c.put.new.self c.args.name.now c.requires ∙ e) c.put.ensures.here

pub returns-clause-others : goal.returns-clause-others
returns-clause-others c =
    set_others c.args.folders.now.items c.args.at c.index_mut.result.now c.put.new.self c.args.name.now c.requires
    (λ other ne. c.put.ensures.others other ne ∙ ap (λ folder. number_in folder other) c.index_mut.ensures.value)

pub returns-clause-len : goal.returns-clause-len
returns-clause-len c = length-set c.args.folders.now.items c.args.at c.put.new.self
