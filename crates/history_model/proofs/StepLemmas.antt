-- The laws on steps and repositories.
use Rattle.std.proofs.Common.{◌≡◌, ℕ, ◌⊎◌, Bool, true, false, cond, not, ◌&&◌, ◌||◌, List, [], ◌∷◌, refl, sym, ◌∙◌, ap, subst, inl, inr, Option, Some, None, is_some, IsTrue, bytes_eq, option_map, unwrap_or, find, filter, slice_get, Contains, zero, suc, MatchBool}
use Rattle.std.specs.List.{list_any}
use Rattle.std.specs.Ordering.{eq_by_cmp}
use Rattle.std.specs.FinMap.{get, get-insert, get-remove, insert, remove}
use Rattle.std.proofs.lemmas.Cmp.{nat_list_cmp_total}
use Rattle.history_model.specs.Bytes.{Bytes}
use Rattle.history_model.specs.FileMap.{FileMap}
use Rattle.history_model.specs.Objects.{CommitValue, StoredFolder, id_of}
use Rattle.gix_hash.specs.Id.{Id, null_id}
use Rattle.history_model.specs.Repository.{Repository, Reference, id_at, stands, commit_at}
use Rattle.history_model.specs.Commands.{Command, Commit, Tag, Move, Rename, Delete, Switch, Pack, Index, Names, Files, Past, Log, Show, LogCommand}
use Rattle.history_model.specs.Replies.{Reply, RefusedFor, Faulted, LogIs, FilesAre, ShowsCommit, ShowsContent}
use Rattle.history_model.specs.Meaning.{after, moved_reference, history_actor}
use Rattle.history_model.specs.Causes.{first_cause, holds, in_order}
use Rattle.history_model.specs.Answers.{Answers, StandsForCommit, IsWalk, commits_of, walk_request, kept, differs_at, files_shown, commit_shown, content_shown}
use Rattle.gix_traverse_graph.proofs.Listing.{one_set}
use Rattle.history_model.specs.Steps.{Step, is_faulted, Accepts}
use Rattle.history_model.specs.Stops.{LeftByStop, Between, IsNotLost, is_changing}
use Rattle.history_model.specs.laws.Trees.{TreesAreCanonical}
use Rattle.history_model.specs.laws.Determined.{StepsAreDetermined, ListsAlike, AreAlike, RepliesTellTheState}
use Rattle.history_model.specs.laws.Stopping.{RenamesLoseNothing, StopsMayLeaveAll}
use Rattle.history_model.specs.declared.Cause.{Cause}
use Rattle.history_model.proofs.LogLemmas.{some_order, walks_alike}
use Rattle.history_model.proofs.WholeLists.{In}
use Rattle.history_model.proofs.WholeSteps.{contains_in, in_contains}
use Rattle.history_model.specs.declared.Cause.TheVariants.{NameTwice, NoSuchName, Taken}
use Rattle.std.proofs.lemmas.Option.{same_Some}
use Rattle.history_model.proofs.EntryLemmas.{key_same, none_there}
use Rattle.history_model.proofs.PlaceLemmas.{same_key}
use Rattle.std.proofs.lemmas.Bool.{or_parts}

-- ---- trees

abbrev files_in : FileMap → Rattle.history_model.specs.Objects.Value → FileMap
files_in d (StoredFolder files) = files
files_in d _ = d

pub trees_are_canonical : TreesAreCanonical
trees_are_canonical r a b m n whole at_a at_b = (
  λ e. ap (files_in m) (same_Some (StoredFolder m) (StoredFolder n) (sym at_a ∙ ap (get r.objects) e ∙ at_b)),
  λ e. (whole.store).own_ids a (StoredFolder m) at_a ∙ ap (λ files. id_of r.kind (StoredFolder files)) e ∙ sym ((whole.store).own_ids b (StoredFolder n) at_b),
)

-- ---- steps

-- what a step without a fault is: a refusal, or an answer
outcome : (old new : Repository) (command : Command) (reply : Reply) → is_faulted reply ≡ false → Step old command reply new
    → ((cause : Cause) × (reply ≡ RefusedFor cause) × (first_cause old command ≡ Some cause) × (new ≡ old)) ⊎ Accepts old command reply new
outcome old new command (RefusedFor cause) f h = inl (cause, refl, h.0, h.1)
outcome old new command (Faulted fault) f h = cc
outcome old new command reply f h = inr h

same_commit : (r : Repository) (word : Bytes) (i j : Id) (a b : CommitValue) → StandsForCommit r word i a → StandsForCommit r word j b → (i ≡ j) × (a ≡ b)
same_commit r word i j a b h k =
    let ids : i ≡ j = same_Some i j (sym h.read ∙ k.read) in
    (ids, same_Some a b (sym h.holds ∙ ap (commit_at r) ids ∙ k.holds))

-- ---- logs

from_filter : (test : Id → Bool) (id : Id) (xs : List Id) → In id (filter test xs) → In id xs × (test id ≡ true)
from_filter test id [] h = absurd h
from_filter test id (x ∷ xs) h = go (from_filter test id xs) (test x) refl h
  where
    go : (In id (filter test xs) → In id xs × (test id ≡ true)) → (b : Bool) → test x ≡ b → In id (cond b (x ∷ filter test xs) (filter test xs)) → In id (x ∷ xs) × (test id ≡ true)
    go more true e (inl same) = (inl same, ap test same ∙ e)
    go more true e (inr further) = (inr (more further).0, (more further).1)
    go more false e further = (inr (more further).0, (more further).1)

into_filter : (test : Id → Bool) (id : Id) → test id ≡ true → (xs : List Id) → In id xs → In id (filter test xs)
into_filter test id passes [] h = absurd h
into_filter test id passes (x ∷ xs) (inl same) = subst (λ b. In id (cond b (x ∷ filter test xs) (filter test xs))) (sym (ap test (sym same) ∙ passes)) (inl same)
into_filter test id passes (x ∷ xs) (inr further) = go (into_filter test id passes xs further) (test x)
  where
    go : In id (filter test xs) → (b : Bool) → In id (cond b (x ∷ filter test xs) (filter test xs))
    go more true = inr more
    go more false = more

in_kept : (test : Id → Bool) (xs ys : List Id) → ((id : Id) → Contains xs id → Contains ys id) → (id : Id) → Contains (filter test xs) id → Contains (filter test ys) id
in_kept test xs ys same id h =
    let at = from_filter test id xs (contains_in (filter test xs) id h) in
    in_contains (filter test ys) id (into_filter test id at.1 ys (contains_in ys id (same id (in_contains xs id at.0))))

-- two walks of one request
walks_same : (r : Repository) (c : LogCommand) (paths : List Bytes) (xs ys : List Id) → IsWalk c.order (commits_of r) (walk_request r c) xs → IsWalk c.order (commits_of r) (walk_request r c) ys
    → (id : Id) → Contains (kept r paths xs) id → Contains (kept r paths ys) id
walks_same r c paths xs ys h k id = go paths
  where
    same : (id : Id) → Contains xs id → Contains ys id
    same id at = (one_set (commits_of r) (walk_request r c) xs ys (λ x. refl) (some_order c.order (commits_of r) (walk_request r c) xs h) (some_order c.order (commits_of r) (walk_request r c) ys k) id).0 at

    go : (paths : List Bytes) → Contains (kept r paths xs) id → Contains (kept r paths ys) id
    go [] = same id
    go (path ∷ paths) = in_kept (differs_at r (path ∷ paths)) xs ys same id

log_same : (r : Repository) (c : LogCommand) (x y : Reply) → Answers r (Log c) x → Answers r (Log c) y → ListsAlike r c x y
log_same r c x y (xs, (walked, h, e), f) (ys, (other, k, g), l) = record {
  walk = walked;
  other = other;
  walked = h;
  other_walked = k;
  x_is = f ∙ ap LogIs e;
  y_is = l ∙ ap LogIs g;
  same = λ id. (λ at. walks_same r c c.paths walked other h k id at, λ at. walks_same r c c.paths other walked k h id at);
  choice = walks_alike r (walk_request r c) (λ x. refl) c.order walked other h k;
}

same_alike : (r : Repository) (command : Command) (x y : Reply) → x ≡ y → AreAlike r command x y
same_alike r (Commit c) x y e = e
same_alike r (Tag c) x y e = e
same_alike r (Move c) x y e = e
same_alike r (Rename from to) x y e = e
same_alike r (Delete name at) x y e = e
same_alike r (Switch name) x y e = e
same_alike r Pack x y e = e
same_alike r Index x y e = e
same_alike r (Names folder) x y e = e
same_alike r (Past name) x y e = e
same_alike r (Log c) x y e = inl e
same_alike r (Files word) x y e = e
same_alike r (Show word path) x y e = e

answers_same : (r : Repository) (command : Command) (x y : Reply) → Answers r command x → Answers r command y → AreAlike r command x y
answers_same r (Commit c) x y a b = a ∙ sym b
answers_same r (Tag c) x y a b = a ∙ sym b
answers_same r (Move c) x y a b = a ∙ sym b
answers_same r (Rename from to) x y a b = a ∙ sym b
answers_same r (Delete name at) x y a b = a ∙ sym b
answers_same r (Switch name) x y a b = a ∙ sym b
answers_same r Pack x y a b = a ∙ sym b
answers_same r Index x y a b = a ∙ sym b
answers_same r (Names folder) x y a b = a ∙ sym b
answers_same r (Past name) x y a b = a ∙ sym b
answers_same r (Log c) x y a b = inr (log_same r c x y a b)
answers_same r (Files word) x y (i, m, h, e) (j, n, k, g) =
    e ∙ ap (λ commit. FilesAre (files_shown r commit.files)) (same_commit r word i j m n h k).1 ∙ sym g
answers_same r (Show word None) x y (i, m, h, e) (j, n, k, g) =
    let same = same_commit r word i j m n h k in
    e ∙ ap (λ id. ShowsCommit (commit_shown r id m)) same.0 ∙ ap (λ commit. ShowsCommit (commit_shown r j commit)) same.1 ∙ sym g
answers_same r (Show word (Some path)) x y (i, m, u, h, p, e) (j, n, v, k, q, g) =
    let same = same_commit r word i j m n h k in
    let contents : u ≡ v = same_Some u v (sym p ∙ ap (λ commit. get commit.files path) same.1 ∙ q) in
    e ∙ ap (λ content. ShowsContent (content_shown r content)) contents ∙ sym g

none_some : {A X : Type 0} (x : X) → Some x ≡ None → A
none_some x e = absurd (subst (λ o. IsTrue (is_some o) → ⊥) (sym e) (λ h. cc) refl)

pub steps_are_determined : StepsAreDetermined
steps_are_determined old a b command x y fx fy h k = go (outcome old a command x fx h) (outcome old b command y fy k)
  where
    go : ((cause : Cause) × (x ≡ RefusedFor cause) × (first_cause old command ≡ Some cause) × (a ≡ old)) ⊎ Accepts old command x a
        → ((cause : Cause) × (y ≡ RefusedFor cause) × (first_cause old command ≡ Some cause) × (b ≡ old)) ⊎ Accepts old command y b → AreAlike old command x y × (a ≡ b)
    go (inl (c, e, first, s)) (inl (d, g, second, t)) = (same_alike old command x y (e ∙ ap RefusedFor (same_Some c d (sym first ∙ second)) ∙ sym g), s ∙ sym t)
    go (inl (c, e, first, s)) (inr v) = none_some c (sym first ∙ v.no_cause)
    go (inr u) (inl (d, g, second, t)) = none_some d (sym second ∙ u.no_cause)
    go (inr u) (inr v) = (answers_same old command x y u.answer v.answer, u.result ∙ sym v.result)

pub replies_tell_the_state : RepliesTellTheState
replies_tell_the_state old new command (RefusedFor cause) h g = h.1
replies_tell_the_state old new command (Faulted fault) h g = unchanged command h.1 g
  where
    unchanged : (command : Command) → MatchBool (Rattle.history_model.specs.Stops.is_changing command) (LeftByStop old command new) (new ≡ old) → not (Rattle.history_model.specs.Stops.is_changing command && true) ≡ true → new ≡ old
    unchanged (Commit c) h g = cc
    unchanged (Tag c) h g = cc
    unchanged (Move c) h g = cc
    unchanged (Rename from to) h g = cc
    unchanged (Delete name at) h g = cc
    unchanged (Switch name) h g = cc
    unchanged Pack h g = cc
    unchanged Index h g = h
    unchanged (Names folder) h g = h
    unchanged (Files word) h g = h
    unchanged (Past name) h g = h
    unchanged (Log c) h g = h
    unchanged (Show word path) h g = h
replies_tell_the_state old new command reply h g = h.result

-- ---- renames

-- the test fails, and so do the later ones
pub passed : {X : Type 0} (b : Bool) (x : X) (rest : Option X) → cond b (Some x) rest ≡ None → (b ≡ false) × (rest ≡ None)
passed true x rest e = cc
passed false x rest e = (refl, e)

-- if nothing is found, the test fails at each place
none_at : {X : Type 0} (test : X → Bool) (xs : List X) → find test xs ≡ None → (i : ℕ) (x : X) → slice_get xs i ≡ Some x → test x ≡ false
none_at test [] e i x h = none_some x (sym h)
none_at test (y ∷ ys) e zero x h = subst (λ z. test z ≡ false) (same_Some y x h) (passed (test y) y (find test ys) e).0
none_at test (y ∷ ys) e (suc i) x h = none_at test ys (passed (test y) y (find test ys) e).1 i x h

no_cause : (r : Repository) (c : Command) → first_cause r c ≡ None → (i : ℕ) (cause : Cause) → slice_get in_order i ≡ Some cause → holds cause r c ≡ false
no_cause r c e i cause h = none_at (λ cause. holds cause r c) in_order e i cause h

stands_so : (b : Bool) → (not b || false) ≡ false → b ≡ true
stands_so true e = refl
stands_so false e = cc

held : (none : Id) (o : Option Reference) → is_some o ≡ true → Some (unwrap_or (option_map (λ ref. ref.id) o) none) ≡ option_map (λ ref. ref.id) o
held none None e = cc
held none (Some ref) e = refl

pub renames_lose_nothing : RenamesLoseNothing
renames_lose_nothing old x from to none left = record {
  somewhere = between.not_lost;
  from_holds = elim ((between.names from).id) [ inl e ↦ inl e | inr e ↦ inr (e ∙ from_gone) ];
  to_holds = elim ((between.names to).id) [ inl e ↦ inr (e ∙ to_free) | inr e ↦ inl (e ∙ to_made) ];
}
  where
    between : Between old (Rename from to) x
    between = subst (λ o. MatchBool (not (is_some o)) (Between old (Rename from to) x) (x ≡ old)) none left.1

    made : Reference
    made = moved_reference old to (unwrap_or (id_at old from) (null_id old.kind)) history_actor (Rattle.std.specs.Prelude.codes "rename")

    differ : bytes_eq from to ≡ false
    differ = no_cause old (Rename from to) none 2 NameTwice refl

    stood : stands old from ≡ true
    stood = stands_so _ (no_cause old (Rename from to) none 7 NoSuchName refl)

    free : stands old to ≡ false
    free = (or_parts _ _ (no_cause old (Rename from to) none 8 Taken refl)).0

    from_gone : id_at (after old (Rename from to)) from ≡ None
    from_gone = ap (option_map (λ ref. ref.id))
        (get-insert nat_list_cmp_total (remove old.names from) to made from
        ∙ ap (λ b. cond b (Some made) (get (remove old.names from) from)) (same_key from to ∙ differ)
        ∙ get-remove nat_list_cmp_total old.names from from
        ∙ ap (λ b. cond b None (get old.names from)) (key_same from))

    to_free : id_at old to ≡ None
    to_free = ap (option_map (λ ref. ref.id)) (none_there (get old.names to) free)

    to_made : id_at (after old (Rename from to)) to ≡ id_at old from
    to_made = ap (option_map (λ ref. ref.id))
        (get-insert nat_list_cmp_total (remove old.names from) to made to
        ∙ ap (λ b. cond b (Some made) (get (remove old.names from) to)) (key_same to))
        ∙ held (null_id old.kind) (get old.names from) stood

-- ---- a stop that leaves all as it was

not_lost_before : (old : Repository) (command : Command) → IsNotLost old command old
not_lost_before old (Rename from to) = inl refl
not_lost_before old (Commit c) = tt
not_lost_before old (Tag c) = tt
not_lost_before old (Move c) = tt
not_lost_before old (Delete name at) = tt
not_lost_before old (Switch name) = tt
not_lost_before old Pack = tt
not_lost_before old Index = tt
not_lost_before old (Names folder) = tt
not_lost_before old (Files word) = tt
not_lost_before old (Past name) = tt
not_lost_before old (Log c) = tt
not_lost_before old (Show word path) = tt

either_way : (b : Bool) {P Q : Type 0} → P → Q → MatchBool b P Q
either_way true p q = p
either_way false p q = q

pub stops_may_leave_all : StopsMayLeaveAll
stops_may_leave_all old command whole = (
  whole,
  either_way (is_changing command && not (is_some (first_cause old command))) (record {
    kind = refl;
    stored = record { keeps = λ id value at. at; no_more = λ id value at. inl at };
    names = λ name. record { id = inl refl; moves = inl refl; log_follows_name = inl refl };
    branch = inl refl;
    not_lost = not_lost_before old command;
  }) refl,
)
