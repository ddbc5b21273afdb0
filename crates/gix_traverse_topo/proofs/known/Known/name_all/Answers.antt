use Rattle.std.proofs.Common.{◌+◌, List, [], get_or, take, refl, ◌∙◌}
use Rattle.std.proofs.lemmas.Option.{slice_get-get_or}
use Rattle.gix_hash.specs.declared.object_id.ObjectId.{ObjectId}
use Rattle.gix_hash.specs.declared.object_id.ObjectId.TheVariants.{Sha1}
use Rattle.gix_traverse_graph.specs.Numbered.{same_id}
use Rattle.gix_traverse_graph.specs.Order.{At}
use Rattle.gix_traverse_topo.specs.Turns.{times}
use Rattle.gix_traverse_topo.specs.declared.known.Node.{Node}
use Rattle.gix_traverse_topo.proofs.Walking.{so_none, so_more, so_all, so_named, names_number, names_row_none, names_row_more, names_row_all}
use Rattle.gix_traverse_topo.proofs.Flagged.{first_same, hidden_same}
use Rattle.gix_traverse_topo.proofs.known.Known.name_all.Goals as goal

pub row-init : goal.row-init
row-init c = record {
  hidden = refl;
  meets = so_none c.args.parents.now c.args.self.now.ids.keys c.args.self.now.nodes.items;
  names = names_row_none c.args.parents.now c.args.self.now.ids.keys c.args.self.now.nodes.items;
}

pub row-preserved : goal.row-preserved
row-preserved c =
    let inv = c.row.invariant in
    let ids : List ObjectId = c.args.parents.now in
    let y : ObjectId = get_or ids c.row.id-index (Sha1 []) in
    let here : At ids c.row.id-index y = slice_get-get_or ids c.row.id-index (Sha1 []) c.row-test.true in
    let keys : List ObjectId = c.args.self.now.ids.keys in
    let nodes : List Node = c.args.self.now.nodes.items in
    let keys' : List ObjectId = c.number.new.self.ids.keys in
    let middle : List Node = c.number.new.self.nodes.items in
    let meets = so_more ids keys nodes c.row.self.ids.keys c.row.self.nodes.items c.row.id-index y keys' middle inv.meets here c.in_ok-number.ensures.keys c.in_ok-number.ensures.told c.in_ok-number.ensures.many in
    let names = names_number (λ z. times (same_id z) (take c.row.id-index ids)) keys nodes c.row.self.ids.keys c.row.self.nodes.items keys' middle inv.names inv.meets.many c.in_ok-number.ensures.names in
    let (count, at, set_is) = c.in_ok-add_name.ensures.added in
    record {
      hidden = hidden_same middle c.add_name.new.nodes.items c.add_name.ensures.flags ∙ c.number.ensures.hidden ∙ inv.hidden;
      meets = so_named ids keys nodes keys' middle c.add_name.new.nodes.items (c.row.id-index + 1) meets c.add_name.ensures.all_facts;
      names = names_row_more ids c.row.id-index y keys nodes keys' middle c.add_name.new.nodes.items c.in_ok-number.number.0 count here meets.once c.in_ok-number.ensures.number at set_is names;
    }

pub returns-clause-meets : goal.returns-clause-meets
returns-clause-meets c = so_all c.args.parents.now c.args.self.now.ids.keys c.args.self.now.nodes.items c.row.self.ids.keys c.row.self.nodes.items c.row.id-index c.row.invariant.meets c.row-test.false

pub returns-clause-names : goal.returns-clause-names
returns-clause-names c = names_row_all c.args.parents.now c.row.id-index c.args.self.now.ids.keys c.args.self.now.nodes.items c.row.self.ids.keys c.row.self.nodes.items c.row-test.false c.row.invariant.names

pub returns-in_err-add_name-clause-hidden : goal.returns-in_err-add_name-clause-hidden
returns-in_err-add_name-clause-hidden c = hidden_same c.number.new.self.nodes.items c.add_name.new.nodes.items c.add_name.ensures.flags ∙ c.number.ensures.hidden ∙ c.row.invariant.hidden

pub invariant_of-self : goal.invariant_of-self
invariant_of-self c = record { hidden_first = first_same c.number.new.self.nodes.items c.add_name.new.nodes.items c.add_name.ensures.flags c.number.new.self.hidden_first }
