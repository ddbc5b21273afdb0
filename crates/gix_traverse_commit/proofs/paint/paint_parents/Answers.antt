use Rattle.std.proofs.Common.{refl, List, [], get_or, true, ◌≡◌, ◌≤◌, length, subst, Some, slice_get}
use Rattle.std.proofs.lemmas.Option.{slice_get-get_or}
use Rattle.gix_hash.specs.declared.object_id.ObjectId.{ObjectId}
use Rattle.gix_hash.specs.declared.object_id.ObjectId.TheVariants.{Sha1}
use Rattle.gix_traverse_commit_known.specs.Nodes.{is_hidden}
use Rattle.gix_traverse_commit_known.specs.Painting.{every}
use Rattle.gix_traverse_commit_known.proofs.Keeping.{kept_parent, kept_row}
use Rattle.gix_traverse_graph.proofs.Lists.{contains_from_at}
use Rattle.gix_traverse_commit_known.proofs.Painting.{painted_one, pushes_held, pushes_keep, pushes_queues}
use Rattle.gix_traverse_commit.proofs.Awaited.{paints_more}
use Rattle.gix_traverse_commit.proofs.paint.paint_parents.Goals as goal

pub parents-preserved : goal.parents-preserved
parents-preserved c =
    let ids : List ObjectId = c.args.parents.now in
    let id : ObjectId = get_or ids c.parents.parent-index (Sha1 []) in
    let here = slice_get-get_or ids c.parents.parent-index (Sha1 []) c.parents-test.true in
    record {
      only = paints_more c.args.known.now c.parents.known c.paint_one.new.known c.parents.invariant.only c.in_ok-paint_one.ensures.only;
      painted = λ w. painted_one c.parents.known.nodes c.paint_one.new.known.nodes c.parents.painted.items c.paint_one.new.painted.items id (c.parents.invariant.painted w) c.in_ok-paint_one.ensures.marked c.in_ok-paint_one.ensures.queued;
      rowed = λ rows a b. pushes_held rows (is_hidden c.parents.known.nodes id) c.parents.painted.items c.paint_one.new.painted.items id c.in_ok-paint_one.ensures.queued (c.parents.invariant.rowed rows a b) (b id (contains_from_at ids c.parents.parent-index id here));
      longer = λ k x a. pushes_keep (is_hidden c.parents.known.nodes id) c.parents.painted.items c.paint_one.new.painted.items id c.in_ok-paint_one.ensures.queued k x (c.parents.invariant.longer k x a);
      walked = λ along tips child p e w r. kept_parent along tips every (is_hidden c.parents.known.nodes) (is_hidden c.paint_one.new.known.nodes) true [] c.parents.painted.items c.paint_one.new.painted.items p c.parents.parent-index id child (c.parents.invariant.walked along tips child p e w r)
          (subst (λ (zs : List ObjectId). slice_get zs c.parents.parent-index ≡ Some id) e here) (pushes_queues (is_hidden c.parents.known.nodes id) c.parents.painted.items c.paint_one.new.painted.items id c.in_ok-paint_one.ensures.queued) c.in_ok-paint_one.ensures.marked (λ f. refl);
    }

pub returns-clause-walked : goal.returns-clause-walked
returns-clause-walked c = λ along tips child p e w r.
    kept_row along tips every (is_hidden c.parents.known.nodes) c.parents.painted.items p c.parents.parent-index child (c.parents.invariant.walked along tips child p e w r) (subst (λ (row : List ObjectId). length row ≤ c.parents.parent-index) e c.parents-test.false)
