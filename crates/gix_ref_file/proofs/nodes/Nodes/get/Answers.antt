use Rattle.std.proofs.Common.{◌∙◌, ap}
use Rattle.std.specs.Prelude.{option_map}
use Rattle.std.specs.FinMap as map
use Rattle.gix_ref_file.specs.Nodes.{node_of}
use Rattle.gix_ref_file.proofs.Entries.{get_node, option_map-copied}
use Rattle.gix_ref_file.proofs.nodes.Nodes.get.Goals as goal

pub returns : goal.returns
returns c =
    option_map-copied c.get.result ∙ ap (option_map node_of) c.get.ensures.value ∙ get_node c.self.inside.entries.entries c.args.path.now c.self.invariant ∙ ap (λ m. map.get m c.args.path.now) c.self.view_is
