use Rattle.std.proofs.Common.{◌≡◌, ◌∙◌, sym, ap, subst, inl, inr, List, [], ◌∷◌, ◌++◌, append_assoc}
use Rattle.std.specs.Prelude.{Contains}
use Rattle.gix_hash.specs.declared.object_id.ObjectId.{ObjectId}
use Rattle.gix_traverse_commit_known.specs.Nodes.{Node, has, is_hidden, is_met}
use Rattle.gix_traverse_commit_known.specs.declared.nodes.WalkFlags.{WalkFlags}
use Rattle.gix_traverse_commit_known.proofs.Pending.{in_head, in_tail}
use Rattle.gix_traverse_commit_known.proofs.Simply.{hidden_same, taken_off, unmet_from}
use Rattle.gix_traverse_commit_known.proofs.Timely.{in_cons, in_nil}
use Rattle.gix_traverse_commit_known.specs.declared.nodes.TheConstants.WalkFlags.{SEEN, UNINTERESTING}
use Rattle.gix_traverse_commit_known.proofs.anew.take_all.Goals as goal

pub queued-preserved : goal.queued-preserved
queued-preserved c =
    let inv = c.queued.invariant in
    let id : ObjectId = c.in-Some.id in
    let old : List ObjectId = c.queued.known.queue in
    let rest : List ObjectId = c.mark.new.self.queue in
    let first : old ≡ id ∷ rest = c.in-Some.ensures.first ∙ ap (λ (zs : List ObjectId). id ∷ zs) (sym c.in_ok-mark.ensures.queue) in
    let popped = c.take_queued.new.self.nodes in
    let still = c.take_queued.ensures.nodes in
    let flags : WalkFlags = c.as_unmet.result in
    let new = c.in_ok-mark.ensures.marked in
    record {
      list = ap (λ (zs : List ObjectId). zs ++ rest) c.in_ok-push.ensures.items ∙ append_assoc c.queued.tips.items (id ∷ []) rest ∙ ap (λ (zs : List ObjectId). c.queued.tips.items ++ zs) (sym first) ∙ inv.list;
      inside = λ q k. inv.inside q (subst (λ (zs : List ObjectId). Contains zs q) (sym first) (in_tail id rest q k));
      turns = c.in_ok-mark.ensures.turns ∙ c.take_queued.ensures.turns ∙ inv.turns;
      hidden = λ q. hidden_same popped c.mark.new.self.nodes id flags new (c.as_unmet.ensures.hidden ∙ c.as_asked.ensures.hidden ∙ ap (λ (k : WalkFlags). has k UNINTERESTING) c.flags-flags.ensures) q ∙ ap (λ (ns : List Node). is_hidden ns q) still ∙ inv.hidden q;
      met = (λ q m.
          let (before, other) = taken_off popped c.mark.new.self.nodes id flags new (λ (k : WalkFlags). has k SEEN) c.as_unmet.ensures.met q m in
          let (was, kept) = inv.met q (sym (ap (λ (ns : List Node). is_met ns q) still) ∙ before) in
          (was, λ k. elim (in_cons id rest q (subst (λ (zs : List ObjectId). Contains zs q) first (kept k))) [ inl e ↦ absurd (other (sym e)) | inr d ↦ d ]));
      unmet = (λ q u. elim (unmet_from popped c.mark.new.self.nodes id flags new q u) [
        | inl e ↦ inr (inv.inside q (subst (λ (zs : List ObjectId). Contains zs q) (sym first) (subst (λ (z : ObjectId). Contains (id ∷ rest) z) e (in_head id rest))))
        | inr f ↦ inv.unmet q (sym (ap (λ (ns : List Node). is_met ns q) still) ∙ f)
      ]);
    }

pub returns-clause-hidden : goal.returns-clause-hidden
returns-clause-hidden c = λ q. ap (λ (ns : List Node). is_hidden ns q) c.take_queued.ensures.nodes ∙ c.queued.invariant.hidden q

pub returns-clause-met : goal.returns-clause-met
returns-clause-met c = λ q m. let (was, kept) = c.queued.invariant.met q (sym (ap (λ (ns : List Node). is_met ns q) c.take_queued.ensures.nodes) ∙ m) in (was, λ k. in_nil q (subst (λ (zs : List ObjectId). Contains zs q) c.in_default.ensures.none (kept k)))

pub returns-clause-unmet : goal.returns-clause-unmet
returns-clause-unmet c = λ q u. c.queued.invariant.unmet q (sym (ap (λ (ns : List Node). is_met ns q) c.take_queued.ensures.nodes) ∙ u)
