use Rattle.std.proofs.Common.{◌<◌, ◌^◌, length, rules, []}
use Rattle.gix_hash.specs.declared.object_id.ObjectId.TheVariants.{Sha1}
use Rattle.gix_hash.proofs.Edges.{between_edges, edges_in_order, falls_at}
use Rattle.gix_hash.proofs.run.prefix_run.Goals as goal

pub edge_of-past-requires-clause-room : goal.edge_of-past-requires-clause-room
edge_of-past-requires-clause-room c =
    let small : length c.args.ids.now < 2 ^ 64 = search rules in
    c.edge_of-first.ensures.calls 64 small

pub returns-clause-matches : goal.returns-clause-matches
returns-clause-matches c =
    between_edges c.args.ids.now c.args.prefix.now c.edge_of-first.result c.edge_of-past.result
    c.edge_of-first.ensures.before c.edge_of-first.ensures.after c.edge_of-past.ensures.before c.edge_of-past.ensures.after

pub returns-clause-within : goal.returns-clause-within
returns-clause-within c = (
  edges_in_order c.args.ids.now c.args.prefix.now c.edge_of-first.result c.edge_of-past.result (Sha1 []) c.edge_of-first.ensures.within
      c.edge_of-first.ensures.before c.edge_of-past.ensures.after,
  c.edge_of-past.ensures.within,
)

pub returns-clause-order : goal.returns-clause-order
returns-clause-order c =
    falls_at c.args.ids.now c.args.prefix.now c.edge_of-first.result c.edge_of-past.result c.edge_of-past.ensures.within
    c.edge_of-first.ensures.before c.edge_of-first.ensures.after c.edge_of-past.ensures.before c.edge_of-past.ensures.after
