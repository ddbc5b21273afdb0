use Rattle.std.proofs.Common.{arith, ◌≡◌, ◌∙◌, ap, sym, ℕ, List, [], ◌∷◌, ◌++◌, ◌<◌, ◌+◌, ◌-◌, ◌≤◌, length, length-append, subst, Bool, inl, inr}
use Rattle.std.specs.Prelude.{Contains}
use Rattle.std.specs.HashSet.{contains}
use Rattle.std.proofs.lemmas.Result.{err_from_is_err_and}
use Rattle.gix_hash.specs.declared.object_id.ObjectId.{ObjectId}
use Rattle.gix_traverse_graph.specs.Commits.{asked_parents, Reached}
use Rattle.gix_traverse_graph.specs.Numbered.{same_id}
use Rattle.gix_traverse_graph.specs.RowCommits.{commits_of}
use Rattle.gix_traverse_graph.specs.Rows.{Holds}
use Rattle.gix_traverse_graph.specs.Standing.{WalkedAll, NotIn}
use Rattle.gix_traverse_graph.specs.declared.parents.Parents.{Parents}
use Rattle.gix_traverse_graph.specs.declared.rows.Row.{Row}
use Rattle.gix_traverse_graph.proofs.Lists.{at_from_contains, contains_from_at, at_from_push, none_at_nil}
use Rattle.gix_traverse_graph.proofs.Walked.{walked_end, walked_all, listed_fits, of_missing}
use Rattle.gix_traverse_graph.proofs.walk.list_all.Goals as goal

none_yet : (P : ObjectId → Type 0) (xs : List ObjectId) → xs ≡ [] → (x : ObjectId) → Contains xs x → P x
none_yet P xs e x c = let (k, a) = at_from_contains [] x (subst (λ (ys : List ObjectId). Contains ys x) e c) in absurd (none_at_nil k x a)

pub walk-init : goal.walk-init
walk-init c =
    let P : List ObjectId → Type 0 = λ zs. WalkedAll (asked_parents c.args.parents (commits_of c.args.rows.now)) c.args.tips.now c.args.hides.now (λ q. contains same_id c.in_ok-walk.walk.seen q) (zs ++ c.in_ok-walk.walk.queue.items) (length zs) in
    (c.in_ok-walk.ensures.rows, c.in_ok-walk.ensures.parents, subst P (sym c.new-listed.ensures.items) c.in_ok-walk.ensures.walked, none_yet (Holds c.args.rows.now) c.new-listed.result.items c.new-listed.ensures.items)

-- what a walk over these rows says, of the rows that it has
moved : (rows rows' : List Row) (parents parents' : Parents) (tips hides listed listed' queue queue' : List ObjectId) (has has' : ObjectId → Bool) (id : ObjectId) → rows' ≡ rows → parents' ≡ parents → listed' ≡ listed ++ id ∷ [] → WalkedAll (asked_parents parents (commits_of rows)) tips hides has (listed ++ queue) (length listed) → ((tips hides listed : List ObjectId) → WalkedAll (asked_parents parents' (commits_of rows')) tips hides has (listed ++ queue) (length listed) → WalkedAll (asked_parents parents' (commits_of rows')) tips hides has' ((listed ++ id ∷ []) ++ queue') (length (listed ++ id ∷ []))) → WalkedAll (asked_parents parents (commits_of rows)) tips hides has' (listed' ++ queue') (length listed')
moved rows rows' parents parents' tips hides listed listed' queue queue' has has' id en ep el w step =
    let from : (p : Parents) (ns : List Row) → Type 0 = λ p ns. WalkedAll (asked_parents p (commits_of ns)) tips hides has (listed ++ queue) (length listed) in
    let to : (p : Parents) (ns : List Row) → Type 0 = λ p ns. WalkedAll (asked_parents p (commits_of ns)) tips hides has' ((listed ++ id ∷ []) ++ queue') (length (listed ++ id ∷ [])) in
    let r = step tips hides listed (subst (λ (p : Parents). from p rows') (sym ep) (subst (λ (ns : List Row). from parents ns) (sym en) w)) in
    let s : to parents rows = subst (λ (ns : List Row). to parents ns) en (subst (λ (p : Parents). to p rows') ep r) in
    subst (λ (zs : List ObjectId). WalkedAll (asked_parents parents (commits_of rows)) tips hides has' (zs ++ queue') (length zs)) (sym el) s

kept : (rows rows' : List Row) (id : ObjectId) (listed listed' : List ObjectId) → rows' ≡ rows → Holds rows' id → listed' ≡ listed ++ id ∷ [] → ((x : ObjectId) → Contains listed x → Holds rows x) → (x : ObjectId) → Contains listed' x → Holds rows x
kept rows rows' id listed listed' e h el all x c =
    let (k, b) = at_from_contains (listed ++ id ∷ []) x (subst (λ (ys : List ObjectId). Contains ys x) el c) in
    elim (at_from_push listed id k x b) [
      | inl before ↦ all x (contains_from_at listed k x before)
      | inr here ↦ subst (λ (y : ObjectId). Holds rows y) (sym here.1) (subst (λ (ns : List Row). Holds ns id) e h)
    ]

shorter : (n a b : ℕ) → b ≤ n → b ≡ a + 1 → n - b < n - a
shorter n a b l e = omega arith

pub walk-preserved : goal.walk-preserved
walk-preserved c =
    let (en, ep, w, all) = c.walk.invariant in
    let more = rw c.in_ok-id.was at c.in-Some.ensures.more in
    let stored = rw c.in_ok-id.was at c.in-Some.ensures.stored in (
      c.in-Some.ensures.rows ∙ en,
      c.in-Some.ensures.parents ∙ ep,
      moved c.args.rows.now c.walk.walk.rows.now c.args.parents c.walk.walk.parents c.args.tips.now c.args.hides.now c.walk.listed.items c.append.new.listed.items c.walk.walk.queue.items c.next.new.self.queue.items (λ q. contains same_id c.walk.walk.seen q) (λ q. contains same_id c.next.new.self.seen q) c.in_ok-id.id en ep c.in_ok-append.ensures w more,
      kept c.args.rows.now c.walk.walk.rows.now c.in_ok-id.id c.walk.listed.items c.append.new.listed.items en stored c.in_ok-append.ensures all,
    )

pub walk-smaller : goal.walk-smaller
walk-smaller c =
    let (en, ep, w, all) = c.walk.invariant in
    let more = rw c.in_ok-id.was at c.in-Some.ensures.more in
    let stored = rw c.in_ok-id.was at c.in-Some.ensures.stored in
    let w' = moved c.args.rows.now c.walk.walk.rows.now c.args.parents c.walk.walk.parents c.args.tips.now c.args.hides.now c.walk.listed.items c.append.new.listed.items c.walk.walk.queue.items c.next.new.self.queue.items (λ q. contains same_id c.walk.walk.seen q) (λ q. contains same_id c.next.new.self.seen q) c.in_ok-id.id en ep c.in_ok-append.ensures w more in
    let all' = kept c.args.rows.now c.walk.walk.rows.now c.in_ok-id.id c.walk.listed.items c.append.new.listed.items en stored c.in_ok-append.ensures all in
    let fits = listed_fits c.args.rows.now (asked_parents c.args.parents (commits_of c.args.rows.now)) c.args.tips.now c.args.hides.now (λ q. contains same_id c.next.new.self.seen q) c.append.new.listed.items c.next.new.self.queue.items w' all' in
    shorter (length c.args.rows.now) (length c.walk.listed.items) (length c.append.new.listed.items) fits (ap length c.in_ok-append.ensures ∙ length-append c.walk.listed.items (c.in_ok-id.id ∷ []))

pub returns-clause-listed : goal.returns-clause-listed
returns-clause-listed c =
    let (en, ep, w, all) = c.walk.invariant in
    walked_all c.args.rows.now c.args.tips.now c.args.hides.now c.args.parents (λ q. contains same_id c.walk.walk.seen q) c.walk.listed.items
    (walked_end c.args.rows.now c.args.tips.now c.args.hides.now c.args.parents (λ q. contains same_id c.walk.walk.seen q) c.walk.listed.items c.walk.walk.queue.items w c.in_default.ensures.end)
    (λ x. Reached (asked_parents c.args.parents (commits_of c.args.rows.now)) (NotIn c.args.hides.now) c.args.tips.now x) (λ x r. r) (λ x r. r)

-- a commit without a row, said of the rows that the walk was given
missing_moved : (rows rows' : List Row) (parents parents' : Parents) (tips hides listed queue : List ObjectId) (has : ObjectId → Bool) → rows' ≡ rows → parents' ≡ parents → WalkedAll (asked_parents parents (commits_of rows)) tips hides has (listed ++ queue) (length listed) → (x : ObjectId) → ((¬ Holds rows' x) × ((tips hides listed : List ObjectId) → WalkedAll (asked_parents parents' (commits_of rows')) tips hides has (listed ++ queue) (length listed) → Reached (asked_parents parents' (commits_of rows')) (NotIn hides) tips x)) → (¬ Holds rows x) × Reached (asked_parents parents (commits_of rows)) (NotIn hides) tips x
missing_moved rows rows' parents parents' tips hides listed queue has en ep w x h =
    let from : (p : Parents) (ns : List Row) → Type 0 = λ p ns. WalkedAll (asked_parents p (commits_of ns)) tips hides has (listed ++ queue) (length listed) in
    let to : (p : Parents) (ns : List Row) → Type 0 = λ p ns. Reached (asked_parents p (commits_of ns)) (NotIn hides) tips x in
    let r = h.1 tips hides listed (subst (λ (p : Parents). from p rows') (sym ep) (subst (λ (ns : List Row). from parents ns) (sym en) w)) in
    (subst (λ (ns : List Row). ¬ Holds ns x) en h.0, subst (λ (ns : List Row). to parents ns) en (subst (λ (p : Parents). to p rows') ep r))

pub returns-in_err-id-clause-missing : goal.returns-in_err-id-clause-missing
returns-in_err-id-clause-missing c =
    let (en, ep, w, all) = c.walk.invariant in
    let rows = c.args.rows.now in
    let rows' = c.walk.walk.rows.now in
    let has : ObjectId → Bool = λ q. contains same_id c.walk.walk.seen q in
    let p = err_from_is_err_and c.from_residual-in_err-id.result c.from_residual-in_err-id.ensures.1 in
    let missing = rw c.in_err-id.was at c.in-Some.ensures.missing in
    rw (p.1, p.2) (of_missing
    (λ x. (¬ Holds rows' x) × ((tips hides listed : List ObjectId) → WalkedAll (asked_parents c.walk.walk.parents (commits_of rows')) tips hides has (listed ++ c.walk.walk.queue.items) (length listed) → Reached (asked_parents c.walk.walk.parents (commits_of rows')) (NotIn hides) tips x))
    (λ x. (¬ Holds rows x) × Reached (asked_parents c.args.parents (commits_of rows)) (NotIn c.args.hides.now) c.args.tips.now x)
    (missing_moved rows rows' c.args.parents c.walk.walk.parents c.args.tips.now c.args.hides.now c.walk.listed.items c.walk.walk.queue.items has en ep w)
    c.in_err-id.field-0.0 missing)
