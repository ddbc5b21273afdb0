use Rattle.std.proofs.Common.{refl, cond, ◌∷◌, List, [], ◌++◌, get_or, ◌∙◌, ◌≡◌, ◌≤◌, length, subst, Some, slice_get, sym, ap, Bool}
use Rattle.std.specs.Prelude.{not, ◌&&◌}
use Rattle.std.proofs.lemmas.Option.{slice_get-get_or}
use Rattle.gix_hash.specs.Id.{Id, id_of}
use Rattle.gix_hash.specs.declared.object_id.ObjectId.{ObjectId}
use Rattle.gix_hash.specs.declared.object_id.ObjectId.TheVariants.{Sha1}
use Rattle.gix_traverse_commit_known.specs.Nodes.{is_hidden, is_met}
use Rattle.gix_traverse_commit_known.specs.Ending.{times_in}
use Rattle.gix_traverse_commit_known.proofs.Ending.{and_not, gains_more, gains_none, gains_queued}
use Rattle.gix_traverse_commit_known.proofs.Keeping.{kept_row, kept_step, stays_met, unmet_before}
use Rattle.gix_traverse_graph.proofs.Lists.{contains_from_at}
use Rattle.gix_traverse_commit_known.proofs.Painting.{queues_held}
use Rattle.gix_traverse_graph.specs.Order.{IsListOf}
use Rattle.gix_traverse_commit_known.specs.Meeting.{MarksMet}
use Rattle.gix_traverse_commit_known.proofs.Chosen.{take_all}
use Rattle.gix_traverse_commit_known.proofs.Meeting.{Fresh, asks_more, flags_none, flags_step, meets_none, meets_step, parent_met, parent_or_met}
use Rattle.gix_traverse_commit_known.proofs.meet.meet_parents.Goals as goal

pub parents-preserved : goal.parents-preserved
parents-preserved g c =
    let ids : List ObjectId = c.args.parents.now in
    let id : ObjectId = get_or ids c.parents.parent-index (Sha1 []) in
    let here = slice_get-get_or ids c.parents.parent-index (Sha1 []) c.parents-test.true in
    let accepts = g.P.Accept.accepts in
    record {
      accepts = c.meet.ensures.accepts ∙ c.parents.invariant.accepts;
      turns = c.in_ok-meet.ensures.turns ∙ c.parents.invariant.turns;
      hidden = λ q. c.in_ok-meet.ensures.hidden q ∙ c.parents.invariant.hidden q;
      grown = λ q h. stays_met (is_met c.parents.known.nodes) (is_met c.meet.new.known.nodes) (is_hidden c.parents.known.nodes id) id q c.in_ok-meet.ensures.met (c.parents.invariant.grown q h);
      left = gains_more c.args.known.now.nodes c.parents.known.nodes c.meet.new.known.nodes (times_in c.args.known.now.queue) (times_in c.parents.known.queue) (times_in c.meet.new.known.queue) c.parents.invariant.left
          (gains_queued c.parents.known.nodes c.meet.new.known.nodes c.parents.known.queue c.meet.new.known.queue id (not (is_hidden c.parents.known.nodes id) && accepts c.parents.predicate (id_of id))
          (λ x h. stays_met (is_met c.parents.known.nodes) (is_met c.meet.new.known.nodes) (is_hidden c.parents.known.nodes id) id x c.in_ok-meet.ensures.met h)
          (λ j. parent_met (is_met c.parents.known.nodes) (is_met c.meet.new.known.nodes) (is_hidden c.parents.known.nodes id) id c.in_ok-meet.ensures.met (and_not (is_hidden c.parents.known.nodes id) (accepts c.parents.predicate (id_of id)) j))
          c.in_ok-meet.ensures.queued);
      rowed = λ rows a b. queues_held rows (is_met c.parents.known.nodes id) (not (is_hidden c.parents.known.nodes id) && accepts c.parents.predicate (id_of id)) c.parents.known.queue c.meet.new.known.queue id c.in_ok-meet.ensures.queued (c.parents.invariant.rowed rows a b) (b id (contains_from_at ids c.parents.parent-index id here));
      walked = λ along keep tips listed child which e w r. kept_step along tips keep (is_met c.parents.known.nodes) (is_met c.meet.new.known.nodes) (is_hidden c.parents.known.nodes id) (accepts c.parents.predicate (id_of id)) listed c.parents.known.queue c.meet.new.known.queue (length listed) c.parents.parent-index id child (c.parents.invariant.walked along keep tips listed child which e w r)
          (subst (λ (zs : List ObjectId). slice_get zs c.parents.parent-index ≡ Some id) e here) c.in_ok-meet.ensures.queued c.in_ok-meet.ensures.met
          (λ f. which id (unmet_before (is_met c.args.known.now.nodes) (is_met c.parents.known.nodes) id (c.parents.invariant.grown id) f) ∙ ap (λ (b : Bool). not b && accepts c.args.predicate.now (id_of id)) (sym (c.parents.invariant.hidden id)) ∙ ap (λ (a : Id → Bool). not (is_hidden c.parents.known.nodes id) && a (id_of id)) (sym c.parents.invariant.accepts));
      flags = flags_step (is_met c.args.known.now.nodes) (is_hidden c.args.known.now.nodes) (is_met c.parents.known.nodes) (is_met c.meet.new.known.nodes) (is_hidden c.parents.known.nodes id) ids c.parents.parent-index id here c.parents.invariant.flags (c.parents.invariant.hidden id) c.in_ok-meet.ensures.met;
      once = (let (xs, asks, w) = c.parents.invariant.once in
          let has = is_met c.parents.known.nodes in
          let has' = is_met c.meet.new.known.nodes in
          let hidden = is_hidden c.parents.known.nodes id in
          let more : List ObjectId = cond (has id) [] (cond hidden [] (id ∷ [])) in
          let now = c.in_ok-meet.ensures.met in (
            xs ++ more,
            asks_more g.P.Accept.goes xs more c.args.predicate.now c.parents.predicate c.meet.new.predicate asks c.in_ok-meet.ensures.asked,
            meets_step (is_met c.args.known.now.nodes) (is_hidden c.args.known.now.nodes) has has' hidden ids xs c.parents.parent-index id here w (c.parents.invariant.hidden id)
                (λ x h. stays_met has has' hidden id x now h) (parent_or_met has has' hidden id now) (parent_met has has' hidden id now),
          ));
    }

pub returns-clause-walked : goal.returns-clause-walked
returns-clause-walked g c = λ along keep tips listed child which e w r.
    kept_row along tips keep (is_met c.parents.known.nodes) (listed ++ c.parents.known.queue) (length listed) c.parents.parent-index child (c.parents.invariant.walked along keep tips listed child which e w r) (subst (λ (row : List ObjectId). length row ≤ c.parents.parent-index) e c.parents-test.false)

pub parents-init : goal.parents-init
parents-init g c = record {
  accepts = refl;
  turns = refl;
  hidden = λ q. refl;
  grown = λ q h. h;
  left = gains_none c.args.known.now.nodes (times_in c.args.known.now.queue);
  rowed = λ rows a b. a;
  walked = λ along keep tips listed child which e w r. (w, r);
  flags = flags_none (is_met c.args.known.now.nodes) (is_hidden c.args.known.now.nodes);
  once = ([], refl, meets_none (is_met c.args.known.now.nodes) (is_hidden c.args.known.now.nodes));
}

pub returns-clause-asked : goal.returns-clause-asked
returns-clause-asked g c =
    let (xs, asks, w) = c.parents.invariant.once in
    (xs, subst (λ (ps : List ObjectId). IsListOf (Fresh (is_met c.args.known.now.nodes) (is_hidden c.args.known.now.nodes) ps) xs) (take_all c.args.parents.now c.parents.parent-index c.parents-test.false) w.list, asks)

pub returns-clause-alone : goal.returns-clause-alone
returns-clause-alone g c = record {
  turns = c.parents.invariant.turns;
  painted = c.parents.invariant.hidden;
  gains = c.parents.invariant.left;
}

pub returns-clause-flags : goal.returns-clause-flags
returns-clause-flags g c = subst (λ (ps : List ObjectId). MarksMet c.args.known.now.nodes ps c.parents.known.nodes) (take_all c.args.parents.now c.parents.parent-index c.parents-test.false) c.parents.invariant.flags
