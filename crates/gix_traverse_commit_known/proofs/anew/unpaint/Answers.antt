use Rattle.std.proofs.Common.{◌∙◌, sym, ap, subst, inl, inr, List, [], take, get_or}
use Rattle.std.specs.Prelude.{Contains}
use Rattle.std.proofs.lemmas.Option.{slice_get-get_or}
use Rattle.gix_hash.specs.declared.object_id.ObjectId.{ObjectId}
use Rattle.gix_hash.specs.declared.object_id.ObjectId.TheVariants.{Sha1}
use Rattle.gix_traverse_commit_known.specs.Nodes.{has, is_hidden}
use Rattle.gix_traverse_commit_known.specs.declared.nodes.WalkFlags.{WalkFlags}
use Rattle.gix_traverse_commit_known.proofs.Chosen.{take_all}
use Rattle.gix_traverse_commit_known.proofs.NodeLemmas.{hidden_among}
use Rattle.gix_traverse_commit_known.proofs.Simply.{in_push, met_same, taken_off, take_push}
use Rattle.gix_traverse_commit_known.specs.declared.nodes.TheConstants.WalkFlags.{SEEN, UNINTERESTING}
use Rattle.gix_traverse_commit_known.proofs.anew.unpaint.Goals as goal
use Rattle.std.proofs.lemmas.Bool.{false_from_ne_true}

pub ids-preserved : goal.ids-preserved
ids-preserved c =
    let inv = c.ids.invariant in
    let items : List ObjectId = c.deref-id-items.result.now in
    let id : ObjectId = get_or items c.ids.id-index (Sha1 []) in
    let here = slice_get-get_or items c.ids.id-index (Sha1 []) c.ids-test.true in
    let flags : WalkFlags = c.as_shown.result in
    let new = c.in_ok-mark.ensures.marked in
    record {
      queue = c.in_ok-mark.ensures.queue ∙ c.ids.invariant.queue;
      turns = c.in_ok-mark.ensures.turns ∙ c.ids.invariant.turns;
      met = λ q. met_same c.ids.known.nodes c.mark.new.self.nodes id flags new (c.as_shown.ensures.met ∙ ap (λ (k : WalkFlags). has k SEEN) c.flags-flags.ensures) q ∙ inv.met q;
      left = (λ q h.
          let (before, other) = taken_off c.ids.known.nodes c.mark.new.self.nodes id flags new (λ (k : WalkFlags). has k UNINTERESTING) c.as_shown.ensures.hidden q h in
          let (was, out) = inv.left q before in
          (was, λ k. elim (in_push (take c.ids.id-index items) id q (subst (λ (zs : List ObjectId). Contains zs q) (take_push items c.ids.id-index id here) k)) [ inl d ↦ out d | inr e ↦ other (sym e) ]));
    }

pub returns-clause-unpainted : goal.returns-clause-unpainted
returns-clause-unpainted c = λ x. false_from_ne_true (is_hidden c.ids.known.nodes x) (λ h.
    let (was, out) = c.ids.invariant.left x h in
    let all = take_all c.deref-id-items.result.now c.ids.id-index c.ids-test.false ∙ c.deref-id-items.ensures.value in
    out (subst (λ (zs : List ObjectId). Contains zs x) (sym (all ∙ c.in_ok-ids.ensures)) (hidden_among c.args.known.now.nodes x was)))
