use Rattle.std.proofs.Common.{List, [], get_or, refl, ◌∙◌}
use Rattle.std.proofs.lemmas.Option.{slice_get-get_or}
use Rattle.gix_hash.specs.declared.object_id.ObjectId.{ObjectId}
use Rattle.gix_hash.specs.declared.object_id.ObjectId.TheVariants.{Sha1}
use Rattle.gix_traverse_graph.specs.Order.{At}
use Rattle.gix_traverse_topo.proofs.Walking.{so_none, so_more, so_all, names_kept, names_number}
use Rattle.gix_traverse_topo.proofs.known.Known.meet.Goals as goal

pub met-init : goal.met-init
met-init c = record {
  hidden = refl;
  meets = so_none c.args.met.now c.args.self.now.ids.keys c.args.self.now.nodes.items;
  names = names_kept c.args.self.now.ids.keys c.args.self.now.nodes.items;
}

pub met-preserved : goal.met-preserved
met-preserved c =
    let inv = c.met.invariant in
    let ids : List ObjectId = c.args.met.now in
    let y : ObjectId = get_or ids c.met.id-index (Sha1 []) in
    let here : At ids c.met.id-index y = slice_get-get_or ids c.met.id-index (Sha1 []) c.met-test.true in
    record {
      hidden = c.number.ensures.hidden ∙ inv.hidden;
      meets = so_more ids c.args.self.now.ids.keys c.args.self.now.nodes.items c.met.self.ids.keys c.met.self.nodes.items c.met.id-index y c.number.new.self.ids.keys c.number.new.self.nodes.items inv.meets here c.in_ok-number.ensures.keys c.in_ok-number.ensures.told c.in_ok-number.ensures.many;
      names = names_number (λ _. 0) c.args.self.now.ids.keys c.args.self.now.nodes.items c.met.self.ids.keys c.met.self.nodes.items c.number.new.self.ids.keys c.number.new.self.nodes.items inv.names inv.meets.many c.in_ok-number.ensures.names;
    }

pub returns-clause-meets : goal.returns-clause-meets
returns-clause-meets c = so_all c.args.met.now c.args.self.now.ids.keys c.args.self.now.nodes.items c.met.self.ids.keys c.met.self.nodes.items c.met.id-index c.met.invariant.meets c.met-test.false

pub returns-clause-names : goal.returns-clause-names
returns-clause-names c = c.met.invariant.names
