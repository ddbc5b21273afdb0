use Rattle.std.proofs.Common.{refl, List, [], get_or, ◌∙◌, sym, ap, subst}
use Rattle.std.specs.Prelude.{not}
use Rattle.std.proofs.lemmas.Option.{slice_get-get_or}
use Rattle.gix_hash.specs.declared.object_id.ObjectId.{ObjectId}
use Rattle.gix_hash.specs.declared.object_id.ObjectId.TheVariants.{Sha1}
use Rattle.gix_traverse_commit_known.specs.Nodes.{is_hidden, is_met}
use Rattle.gix_traverse_commit_known.specs.Ending.{times_in}
use Rattle.gix_traverse_commit_known.proofs.Ending.{gains_more, gains_none, gains_queued}
use Rattle.gix_traverse_commit_known.proofs.Keeping.{kept_meet, kept_start, met_itself, met_more, unmet_before}
use Rattle.gix_traverse_graph.proofs.Lists.{contains_from_at}
use Rattle.gix_traverse_commit_known.specs.Meeting.{MarksAll}
use Rattle.gix_traverse_commit_known.proofs.Chosen.{take_all}
use Rattle.gix_traverse_commit_known.proofs.Meeting.{all_none, all_step}
use Rattle.gix_traverse_commit_known.proofs.Painting.{queues_held}
use Rattle.gix_traverse_commit_known.proofs.meet.queue_tips.Goals as goal

pub tips-init : goal.tips-init
tips-init c = record {
  turns = refl;
  hidden = λ q. refl;
  grown = λ q h. h;
  left = gains_none c.args.known.now.nodes (times_in c.args.known.now.queue);
  met = all_none c.args.known.now.nodes;
  rowed = λ rows a b. a;
  walked = λ along keep which w. w;
}

pub tips-preserved : goal.tips-preserved
tips-preserved c =
    let ids : List ObjectId = c.args.tips.now in
    let id : ObjectId = get_or ids c.tips.tip-index (Sha1 []) in
    let here = slice_get-get_or ids c.tips.tip-index (Sha1 []) c.tips-test.true in
    record {
      turns = c.in_ok-queue_tip.ensures.turns ∙ c.tips.invariant.turns;
      hidden = λ q. c.in_ok-queue_tip.ensures.hidden q ∙ c.tips.invariant.hidden q;
      grown = λ q h. met_more (is_met c.tips.known.nodes) (is_met c.queue_tip.new.known.nodes) id q c.in_ok-queue_tip.ensures.met (c.tips.invariant.grown q h);
      left = gains_more c.args.known.now.nodes c.tips.known.nodes c.queue_tip.new.known.nodes (times_in c.args.known.now.queue) (times_in c.tips.known.queue) (times_in c.queue_tip.new.known.queue) c.tips.invariant.left
          (gains_queued c.tips.known.nodes c.queue_tip.new.known.nodes c.tips.known.queue c.queue_tip.new.known.queue id (not (is_hidden c.tips.known.nodes id))
          (λ x h. met_more (is_met c.tips.known.nodes) (is_met c.queue_tip.new.known.nodes) id x c.in_ok-queue_tip.ensures.met h)
          (λ j. met_itself (is_met c.tips.known.nodes) (is_met c.queue_tip.new.known.nodes) id c.in_ok-queue_tip.ensures.met)
          c.in_ok-queue_tip.ensures.queued);
      met = all_step c.args.known.now.nodes c.tips.known.nodes c.queue_tip.new.known.nodes ids c.tips.tip-index id here c.tips.invariant.met c.in_ok-queue_tip.ensures.met;
      rowed = λ rows a b. queues_held rows (is_met c.tips.known.nodes id) (not (is_hidden c.tips.known.nodes id)) c.tips.known.queue c.queue_tip.new.known.queue id c.in_ok-queue_tip.ensures.queued (c.tips.invariant.rowed rows a b) (b id (contains_from_at ids c.tips.tip-index id here));
      walked = λ along keep which w. kept_meet along ids keep (is_met c.tips.known.nodes) (is_met c.queue_tip.new.known.nodes) (not (is_hidden c.tips.known.nodes id)) [] c.tips.known.queue c.queue_tip.new.known.queue 0 c.tips.tip-index id (c.tips.invariant.walked along keep which w) here c.in_ok-queue_tip.ensures.queued c.in_ok-queue_tip.ensures.met
          (λ f. which id (contains_from_at ids c.tips.tip-index id here) (unmet_before (is_met c.args.known.now.nodes) (is_met c.tips.known.nodes) id (c.tips.invariant.grown id) f) ∙ ap not (sym (c.tips.invariant.hidden id)));
    }

pub returns-clause-walked : goal.returns-clause-walked
returns-clause-walked c = λ along keep which w. kept_start along c.args.tips.now keep (is_met c.tips.known.nodes) [] c.tips.known.queue c.tips.tip-index refl (c.tips.invariant.walked along keep which w) c.tips-test.false

pub returns-clause-alone : goal.returns-clause-alone
returns-clause-alone c = record {
  turns = c.tips.invariant.turns;
  painted = c.tips.invariant.hidden;
  gains = c.tips.invariant.left;
}

pub returns-clause-met : goal.returns-clause-met
returns-clause-met c = subst (λ (ts : List ObjectId). MarksAll c.args.known.now.nodes ts c.tips.known.nodes) (take_all c.args.tips.now c.tips.tip-index c.tips-test.false) c.tips.invariant.met
