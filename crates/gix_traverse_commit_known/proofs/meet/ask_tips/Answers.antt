use Rattle.std.proofs.Common.{◌∙◌, refl, cond, false, sym, subst, List, [], ◌∷◌, ◌++◌, take, get_or, Bool}
use Rattle.std.proofs.lemmas.Option.{slice_get-get_or}
use Rattle.gix_hash.specs.Id.{Id}
use Rattle.gix_hash.specs.declared.object_id.ObjectId.{ObjectId}
use Rattle.gix_hash.specs.declared.object_id.ObjectId.TheVariants.{Sha1}
use Rattle.std.specs.Prelude.{Contains}
use Rattle.gix_traverse_commit_known.specs.Nodes.{is_asked}
use Rattle.gix_traverse_graph.specs.Order.{IsListOf}
use Rattle.gix_traverse_commit_known.specs.Asked.{AreAsked}
use Rattle.gix_traverse_commit_known.proofs.Chosen.{take_all}
use Rattle.gix_traverse_commit_known.proofs.Simply.{take_push}
use Rattle.gix_traverse_commit_known.proofs.Keeping.{met_itself, met_more}
use Rattle.gix_traverse_commit_known.proofs.Meeting.{Fresh, asks_more, list_same, meets_none, meets_step, tip_or_met}
use Rattle.gix_traverse_commit_known.proofs.meet.ask_tips.Goals as goal

pub tips-preserved : goal.tips-preserved
tips-preserved g c =
    let ids : List ObjectId = c.args.tips.now in
    let id : ObjectId = get_or ids c.tips.tip-index (Sha1 []) in
    let here = slice_get-get_or ids c.tips.tip-index (Sha1 []) c.tips-test.true in
    record {
      accepts = c.ask_tip.ensures.accepts ∙ c.tips.invariant.accepts;
      queue = c.in_ok-ask_tip.ensures.queue ∙ c.tips.invariant.queue;
      turns = c.in_ok-ask_tip.ensures.turns ∙ c.tips.invariant.turns;
      asked = (λ w.
          let old = subst (λ (f : Id → Bool). AreAsked f (take c.tips.tip-index ids) c.tips.known.nodes) (sym c.tips.invariant.accepts) (c.tips.invariant.asked w) in
          let new = c.in_ok-ask_tip.ensures.asked (take c.tips.tip-index ids) old in
          subst (λ (ts : List ObjectId). AreAsked (g.P.Accept.accepts c.args.predicate.now) ts c.ask_tip.new.known.nodes) (sym (take_push ids c.tips.tip-index id here))
          (subst (λ (f : Id → Bool). AreAsked f (take c.tips.tip-index ids ++ id ∷ []) c.ask_tip.new.known.nodes) c.tips.invariant.accepts new));
      once = (let (xs, asks, w) = c.tips.invariant.once in
          let more : List ObjectId = cond (is_asked c.tips.known.nodes id) [] (id ∷ []) in
          let now = c.in_ok-ask_tip.ensures.marked in (
            xs ++ more,
            asks_more g.P.Accept.goes xs more c.args.predicate.now c.tips.predicate c.ask_tip.new.predicate asks c.in_ok-ask_tip.ensures.once,
            meets_step (is_asked c.args.known.now.nodes) (λ _. false) (is_asked c.tips.known.nodes) (is_asked c.ask_tip.new.known.nodes) false ids xs c.tips.tip-index id here w refl
                (λ x h. met_more (is_asked c.tips.known.nodes) (is_asked c.ask_tip.new.known.nodes) id x now h) (tip_or_met (is_asked c.tips.known.nodes) (is_asked c.ask_tip.new.known.nodes) id now) (λ _. met_itself (is_asked c.tips.known.nodes) (is_asked c.ask_tip.new.known.nodes) id now),
          ));
    }

pub tips-init : goal.tips-init
tips-init g c = record {
  accepts = refl;
  queue = refl;
  turns = refl;
  asked = λ w. record { refused = w.refused; accepted = λ x k m. w.accepted x k m; asked = w.asked; unpainted = w.unpainted };
  once = ([], refl, meets_none (is_asked c.args.known.now.nodes) (λ _. false));
}

pub returns-clause-once : goal.returns-clause-once
returns-clause-once g c = λ unasked.
    let (xs, asks, w) = c.tips.invariant.once in
    let whole = subst (λ (ts : List ObjectId). IsListOf (Fresh (is_asked c.args.known.now.nodes) (λ _. false) ts) xs) (take_all c.args.tips.now c.tips.tip-index c.tips-test.false) w.list in
    (xs, list_same (Fresh (is_asked c.args.known.now.nodes) (λ _. false) c.args.tips.now) (Contains c.args.tips.now) xs (λ x f. f.0) (λ x k. (k, unasked x, refl)) whole, asks)

pub returns-clause-asked : goal.returns-clause-asked
returns-clause-asked g c = λ w.
    let v = subst (λ (ts : List ObjectId). AreAsked (g.P.Accept.accepts c.args.predicate.now) ts c.tips.known.nodes) (take_all c.args.tips.now c.tips.tip-index c.tips-test.false) (c.tips.invariant.asked w) in
    record { refused = v.refused; accepted = v.accepted; unpainted = v.unpainted }
