use Rattle.std.proofs.Common.{refl, arith, ◌≡◌, ◌∙◌, ap, sym, ℕ, List, [], ◌∷◌, length, take, get_or, subst, zero, suc, ◌≤◌}
use Rattle.gix_hash.specs.declared.object_id.ObjectId.{ObjectId}
use Rattle.gix_hash.specs.declared.object_id.ObjectId.TheVariants.{Sha1}
use Rattle.gix_traverse_graph.specs.Numbered.{same_id}
use Rattle.std.specs.List.{list_any}
use Rattle.std.proofs.lemmas.Option.{slice_get-get_or}
use Rattle.std.specs.HashSet.{contains}
use Rattle.gix_traverse_graph.specs.Commits.{asked_parents}
use Rattle.gix_traverse_graph.specs.RowCommits.{commits_of}
use Rattle.gix_traverse_graph.specs.Standing.{Walked}
use Rattle.gix_traverse_graph.proofs.Walked.{walked_none, walked_meet, walked_start, hides_push}
use Rattle.gix_traverse_graph.proofs.walk.Walk.without.Goals as goal

pub tips-init : goal.tips-init
tips-init c =
    let W : List ObjectId → Type 0 = λ zs. Walked (asked_parents c.args.parents (commits_of c.args.rows.now)) c.args.tips.now c.args.hides.now (λ q. contains same_id c.hides.seen q) zs 0 0 in
    let all : take c.hides.id-index c.args.hides.now ≡ c.args.hides.now = take-all c.hides.id-index c.args.hides.now c.hides-test.false in
    subst W (sym c.new-queue.ensures.items) (walked_none (asked_parents c.args.parents (commits_of c.args.rows.now)) c.args.tips.now c.args.hides.now (λ q. contains same_id c.hides.seen q) (λ q. c.hides.invariant q ∙ ap (list_any (same_id q)) all))
  where
    take-all : (n : ℕ) (xs : List ObjectId) → length xs ≤ n → take n xs ≡ xs
    take-all zero [] l = refl
    take-all zero (x ∷ xs) l = absurd (omega arith)
    take-all (suc n) [] l = refl
    take-all (suc n) (x ∷ xs) l = ap (λ (ys : List ObjectId). x ∷ ys) (take-all n xs (omega arith))

pub tips-preserved : goal.tips-preserved
tips-preserved c =
    let tips : List ObjectId = c.args.tips.now in
    walked_meet (asked_parents c.args.parents (commits_of c.args.rows.now)) tips c.args.hides.now (λ q. contains same_id c.tips.seen q) _ [] c.tips.queue.items c.meet.new.queue.items 0 c.tips.tip-index (get_or tips c.tips.tip-index (Sha1 [])) c.tips.invariant (slice_get-get_or tips c.tips.tip-index (Sha1 []) c.tips-test.true) c.in_ok-meet.ensures.queued c.in_ok-meet.ensures.seen

pub returns-clause-walked : goal.returns-clause-walked
returns-clause-walked c = walked_start (asked_parents c.args.parents (commits_of c.args.rows.now)) c.args.tips.now c.args.hides.now (λ q. contains same_id c.tips.seen q) [] c.tips.queue.items c.tips.tip-index refl c.tips.invariant c.tips-test.false

pub hides-preserved : goal.hides-preserved
hides-preserved c =
    let hides : List ObjectId = c.args.hides.now in
    hides_push hides c.hides.id-index (get_or hides c.hides.id-index (Sha1 [])) (λ q. contains same_id c.hides.seen q) (λ q. contains same_id c.mark_seen.new.seen q) (slice_get-get_or hides c.hides.id-index (Sha1 []) c.hides-test.true) c.hides.invariant c.in_ok-mark_seen.ensures
