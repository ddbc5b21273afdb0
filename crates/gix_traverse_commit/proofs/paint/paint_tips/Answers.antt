use Rattle.std.proofs.Common.{refl, List, [], get_or, true}
use Rattle.std.proofs.lemmas.Option.{slice_get-get_or}
use Rattle.gix_hash.specs.declared.object_id.ObjectId.{ObjectId}
use Rattle.gix_hash.specs.declared.object_id.ObjectId.TheVariants.{Sha1}
use Rattle.gix_traverse_commit_known.specs.Nodes.{is_hidden}
use Rattle.gix_traverse_commit_known.specs.Painting.{every}
use Rattle.gix_traverse_commit_known.proofs.Keeping.{kept_meet, kept_start}
use Rattle.gix_traverse_graph.proofs.Lists.{contains_from_at}
use Rattle.gix_traverse_commit_known.proofs.Painting.{painted_one, pushes_held, pushes_queues}
use Rattle.gix_traverse_commit.proofs.Awaited.{paints_more}
use Rattle.gix_traverse_commit.proofs.paint.paint_tips.Goals as goal

pub tips-preserved : goal.tips-preserved
tips-preserved c =
    let ids : List ObjectId = c.args.hidden.now in
    let id : ObjectId = get_or ids c.tips.id-index (Sha1 []) in
    let here = slice_get-get_or ids c.tips.id-index (Sha1 []) c.tips-test.true in
    record {
      only = paints_more c.args.known.now c.tips.known c.paint_one.new.known c.tips.invariant.only c.in_ok-paint_one.ensures.only;
      painted = λ w. painted_one c.tips.known.nodes c.paint_one.new.known.nodes c.tips.painted.items c.paint_one.new.painted.items id (c.tips.invariant.painted w) c.in_ok-paint_one.ensures.marked c.in_ok-paint_one.ensures.queued;
      rowed = λ rows a b. pushes_held rows (is_hidden c.tips.known.nodes id) c.tips.painted.items c.paint_one.new.painted.items id c.in_ok-paint_one.ensures.queued (c.tips.invariant.rowed rows a b) (b id (contains_from_at ids c.tips.id-index id here));
      walked = λ along w. kept_meet along ids every (is_hidden c.tips.known.nodes) (is_hidden c.paint_one.new.known.nodes) true [] c.tips.painted.items c.paint_one.new.painted.items 0 c.tips.id-index id (c.tips.invariant.walked along w) here (pushes_queues (is_hidden c.tips.known.nodes id) c.tips.painted.items c.paint_one.new.painted.items id c.in_ok-paint_one.ensures.queued) c.in_ok-paint_one.ensures.marked (λ f. refl);
    }

pub returns-clause-walked : goal.returns-clause-walked
returns-clause-walked c = λ along w. kept_start along c.args.hidden.now every (is_hidden c.tips.known.nodes) [] c.tips.painted.items c.tips.id-index refl (c.tips.invariant.walked along w) c.tips-test.false
