use Rattle.std.proofs.Common.{rules, ◌≡◌, ◌∙◌, List, [], ◌∷◌, ◌++◌, sym, ap, subst}
use Rattle.gix_hash.specs.declared.object_id.ObjectId.{ObjectId}
use Rattle.gix_traverse_commit_known.specs.Known.{HaveNodes, KnownCommits, ids_at, turns_of}
use Rattle.gix_traverse_commit_known.specs.Waiting.{numbers_of, pendings}
use Rattle.gix_traverse_commit_known.proofs.KnownLemmas.{have_kept, have_push, ids_kept, ids_push, keeps_named, turns_kept}
use Rattle.gix_traverse_commit_known.proofs.known.Known.enqueue.Goals as goal

pub invariant_of-self-in_err-push_back : goal.invariant_of-self-in_err-push_back
invariant_of-self-in_err-push_back c =
    let up = keeps_named c.self.inside.nodes c.mark.new.self c.args.id c.in_ok-number.ensures.named in
    let same : c.push_back.new.self.items ≡ c.self.inside.queue.items = search rules in
    record {
      queued = subst (HaveNodes c.mark.new.self) (sym same) (have_kept c.self.inside.nodes c.mark.new.self c.self.inside.queue.items c.self.invariant.queued up);
      wait = have_kept c.self.inside.nodes c.mark.new.self (numbers_of (pendings c.self.inside.waiting)) c.self.invariant.wait up;
    }

pub invariant_of-self-2 : goal.invariant_of-self-2
invariant_of-self-2 c =
    let up = keeps_named c.self.inside.nodes c.mark.new.self c.args.id c.in_ok-number.ensures.named in
    let more : c.push_back.new.self.items ≡ c.self.inside.queue.items ++ c.in_ok-number.number ∷ [] = search rules in
    record {
      queued = subst (HaveNodes c.mark.new.self) (sym more) (have_push c.mark.new.self c.self.inside.queue.items c.in_ok-number.number c.args.id (have_kept c.self.inside.nodes c.mark.new.self c.self.inside.queue.items c.self.invariant.queued up) c.in_ok-number.ensures.numbered);
      wait = have_kept c.self.inside.nodes c.mark.new.self (numbers_of (pendings c.self.inside.waiting)) c.self.invariant.wait up;
    }

pub returns-clause-queued : goal.returns-clause-queued
returns-clause-queued c =
    let up = keeps_named c.self.inside.nodes c.mark.new.self c.args.id c.in_ok-number.ensures.named in
    let more : c.push_back.new.self.items ≡ c.self.inside.queue.items ++ c.in_ok-number.number ∷ [] = search rules in
    ap (ids_at c.mark.new.self) more
    ∙ ids_push c.mark.new.self c.self.inside.queue.items c.in_ok-number.number c.args.id c.in_ok-number.ensures.numbered
    ∙ ap (λ (xs : List ObjectId). xs ++ c.args.id ∷ []) (ids_kept c.self.inside.nodes c.mark.new.self c.self.inside.queue.items c.self.invariant.queued up ∙ ap (λ (k : KnownCommits). k.queue) c.self.view_is)

pub returns-clause-turns : goal.returns-clause-turns
returns-clause-turns c =
    let up = keeps_named c.self.inside.nodes c.mark.new.self c.args.id c.in_ok-number.ensures.named in
    turns_kept c.self.inside.nodes c.mark.new.self (pendings c.self.inside.waiting) c.self.invariant.wait up ∙ ap turns_of c.self.view_is
