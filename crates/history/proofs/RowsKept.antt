-- The rows that a repository keeps follow from its replies.
use Rattle.std.proofs.Common.{◌≡◌, ◌∙◌, ap, refl, sym, subst, arith, ℕ, Bool, true, false, not, ◌&&◌, ◌||◌, List, [], ◌∷◌, ◌++◌, length, pos, Option, Some, None, option_and_then, option_map, unwrap_or, Result, Ok, Err, Vec}
use Rattle.std.specs.Prelude.{Contains, IsErrAnd, MatchBool, OnErr, OnOk}
use Rattle.std.specs.FinMap.{empty, get, keys}
use Rattle.std.specs.declared.alloc.Global.{Global}
use Rattle.std.proofs.lemmas.List.{length-map}
use Rattle.gix_traverse_graph.specs.Rows.{AreRows, IsRowsFault}
use Rattle.gix_traverse_graph.specs.declared.rows.Row.{Row}
use Rattle.gix_traverse_graph.specs.declared.rows.RowsError.{RowsError}
use Rattle.history_model.specs.Answers.{Answers, counted, is_counted, row_of, rows_of}
use Rattle.history_model.specs.Commands.{Command, Commit, Tag, Move, Rename, Delete, Switch, Pack, Index, Names, Files, Past, Log, Show}
use Rattle.history_model.specs.Objects.{CommitValue, folder_id}
use Rattle.history_model.specs.Replies.{Reply, Indexed, RefusedFor, Faulted, reply_text}
use Rattle.history_model.specs.Repository.{Repository, as_commit, commit_at}
use Rattle.gix_ref_file.specs.History.{History}
use Rattle.history_model.specs.Meaning.{after}
use Rattle.history_model.specs.Moments.{ActsOn, Moment}
use Rattle.history_model.specs.Steps.{Step, Steps, goes_on, rows_after, some_failed}
use Rattle.history_model.specs.Stops.{is_changing}
use Rattle.history_model.specs.declared.Cause.{Cause}
use Rattle.history_model.proofs.WholeGrowth.{holds_value}
use Rattle.history_model.proofs.WholeLists.{of_map}
use Rattle.history_walks.specs.Rows.{AreTheRows, SaysRow}
use Rattle.history_walks.proofs.Counted.{counted_holds}
use Rattle.history_walks.proofs.Members.{in_from_contains, of_filter}
use Rattle.history_repository.specs.Reads.{GivesMeant, IsReadingFault, OnlyAnswers}
use Rattle.history_repository.specs.Faults.{rows_fault}
use Rattle.history_repository.specs.KeptRows.{AgreeRows, TellsRow}
use Rattle.history.specs.Indexed.{FollowsRows, KeepsRows}
use Rattle.history.specs.Acts.{LeavesRows}
use Rattle.history_repository.specs.Face.{rows_in}
use Rattle.history_repository.specs.Stands.{Stands}
use Rattle.history_repository.specs.declared.stopped.Stopped.{Stopped}
use Rattle.history_repository.specs.declared.stopped.Stopped.TheVariants.{Fault}
use Rattle.history_queries.proofs.Answered.{handed_on, reading_fault}
use Rattle.gix_traverse_graph.specs.declared.rows.RowsError.TheVariants as rows_errors
use Rattle.history_model.specs.Answers as model
use Rattle.history_model.specs.declared.Fault as faults
use Rattle.history_model.specs.declared.Fault.TheVariants as model_faults
use Rattle.history_repository.specs.declared.repository.Repository as own

-- the repository's own rows agree with it
pub rows_agree : (r : Repository) (rows : List Row) → AreTheRows (rows_of r) rows → AreRows rows → AgreeRows r.kind r.objects rows
rows_agree r rows are graph = record { told = told; graph = graph }
  where
    told : (row : Row) → Contains rows row → TellsRow r.kind r.objects row
    told row c =
        let (p, among, says) = are.only row c in
        let (id, i, same) = of_map (row_of r) p (counted r) (in_from_contains (rows_of r) p among) in
        let (commit, at) = holds_value r id (counted_holds r id (of_filter (is_counted r) (keys r.objects) id i)) in
        let is : SaysRow row (row_of r id) = subst (SaysRow row) same says in
        let found : commit_at r id ≡ Some commit = ap (option_and_then as_commit) at in
        record {
          commit = commit;
          stored = ap (get r.objects) is.id ∙ at;
          tree = is.tree ∙ ap (λ o. folder_id r.kind (unwrap_or (option_map (λ (c : CommitValue). c.files) o) empty)) found;
          parents = is.parents ∙ ap (λ o. unwrap_or (option_map (λ (c : CommitValue). c.parents) o) []) found;
          time = is.time ∙ ap (λ o. pos (unwrap_or (option_map (λ (c : CommitValue). (c.committer).seconds) o) 0)) found;
        }

-- rows that make a graph are refused for want of memory alone
rows_whole : (rows : List Row) → AreRows rows → (error : RowsError) → IsRowsFault rows error → rows_fault error ≡ model_faults.Memory
rows_whole rows are (rows_errors.Twice id) (j, k, r, s, less, a, b, first, second) = let same = are.once j k r s a b (first ∙ sym second) in absurd (omega (arith, less, same))
rows_whole rows are (rows_errors.MissingParent id p) (once, (row, c, of_row, lacks)) = absurd (lacks.1 (are.parents row c p lacks.0))
rows_whole rows are (rows_errors.BadGeneration id) (once, parents, (row, c, of_row, none)) = absurd (none (are.generations row c))
rows_whole rows are rows_errors.Memory f = refl

-- ---- rows that follow

pub follows_none : (kept : Option (List Row)) (r : Repository) → FollowsRows kept kept r [] []
follows_none kept r rows keeps = keeps

-- whether it is the reply of an accepted `index`
abbrev is_indexed : Reply → Bool
is_indexed (Indexed n) = true
is_indexed reply = false

abbrev is_index : Command → Bool
is_index Index = true
is_index sent = false

stays : (r : Repository) (rows : Option (List model.Row)) (sent : Command) (reply : Reply) → is_indexed reply ≡ false → rows_after r rows (sent ∷ []) (reply ∷ []) ≡ rows
stays r rows sent (Indexed n) e = let z : ⊥ = cc in absurd z
stays r rows sent reply e = refl

indexed_by : (r : Repository) (sent : Command) (reply : Reply) → Answers r sent reply → is_indexed reply ≡ is_index sent
indexed_by r (Commit c) reply h = ap is_indexed h
indexed_by r (Tag c) reply h = ap is_indexed h
indexed_by r (Move c) reply h = ap is_indexed h
indexed_by r (Rename from to) reply h = ap is_indexed h
indexed_by r (Delete name at) reply h = ap is_indexed h
indexed_by r (Switch name) reply h = ap is_indexed h
indexed_by r Pack reply h = ap is_indexed h
indexed_by r Index reply h = ap is_indexed h
indexed_by r (Names folder) reply h = ap is_indexed h
indexed_by r (Files word) reply h = ap is_indexed h.3
indexed_by r (Past word) reply h = ap is_indexed h
indexed_by r (Log c) reply h = ap is_indexed h.2
indexed_by r (Show word None) reply h = ap is_indexed h.3
indexed_by r (Show word (Some path)) reply h = ap is_indexed h.5

-- if the reply isn't that to an accepted `index`, the rows stay
follows_stayed : (old new : Option (List Row)) (r : Repository) (sent : Command) (reply : Reply) → is_indexed reply ≡ false → new ≡ old → FollowsRows old new r (sent ∷ []) (reply ∷ [])
follows_stayed old new r sent reply e same rows keeps =
    subst (λ after. KeepsRows after new) (sym (stays r rows sent reply e)) (subst (KeepsRows rows) (sym same) keeps)

pub follows_answer : (old new : Option (List Row)) (r : Repository) (sent : Command) (reply : Reply) (text : Vec ℕ Global) → Answers r sent reply → LeavesRows r sent (Ok text) old new → FollowsRows old new r (sent ∷ []) (reply ∷ [])
follows_answer old new r Index reply text h leaves = subst (λ (x : Reply). FollowsRows old new r (Index ∷ []) (x ∷ [])) (sym h) (λ rows keeps. leaves)
follows_answer old new r (Commit c) reply text h leaves = follows_stayed old new r (Commit c) reply (indexed_by r (Commit c) reply h) leaves
follows_answer old new r (Tag c) reply text h leaves = follows_stayed old new r (Tag c) reply (indexed_by r (Tag c) reply h) leaves
follows_answer old new r (Move c) reply text h leaves = follows_stayed old new r (Move c) reply (indexed_by r (Move c) reply h) leaves
follows_answer old new r (Rename from to) reply text h leaves = follows_stayed old new r (Rename from to) reply (indexed_by r (Rename from to) reply h) leaves
follows_answer old new r (Delete name at) reply text h leaves = follows_stayed old new r (Delete name at) reply (indexed_by r (Delete name at) reply h) leaves
follows_answer old new r (Switch name) reply text h leaves = follows_stayed old new r (Switch name) reply (indexed_by r (Switch name) reply h) leaves
follows_answer old new r Pack reply text h leaves = follows_stayed old new r Pack reply (indexed_by r Pack reply h) leaves
follows_answer old new r (Names folder) reply text h leaves = follows_stayed old new r (Names folder) reply (indexed_by r (Names folder) reply h) leaves
follows_answer old new r (Files word) reply text h leaves = follows_stayed old new r (Files word) reply (indexed_by r (Files word) reply h) leaves
follows_answer old new r (Past word) reply text h leaves = follows_stayed old new r (Past word) reply (indexed_by r (Past word) reply h) leaves
follows_answer old new r (Log c) reply text h leaves = follows_stayed old new r (Log c) reply (indexed_by r (Log c) reply h) leaves
follows_answer old new r (Show word None) reply text h leaves = follows_stayed old new r (Show word None) reply (indexed_by r (Show word None) reply h) leaves
follows_answer old new r (Show word (Some path)) reply text h leaves = follows_stayed old new r (Show word (Some path)) reply (indexed_by r (Show word (Some path)) reply h) leaves

-- after a stop the rows stay
pub stopped_leaves : (r : Repository) (sent : Command) (stopped : Stopped) (kept : Option (List Row)) → LeavesRows r sent (Err stopped) kept kept
stopped_leaves r Index stopped kept = refl
stopped_leaves r sent stopped kept = refl

stopped_kept : (r : Repository) (sent : Command) (stopped : Stopped) (old new : Option (List Row)) → LeavesRows r sent (Err stopped) old new → new ≡ old
stopped_kept r Index stopped old new leaves = leaves
stopped_kept r sent stopped old new leaves = leaves

pub follows_refusal : (old new : Option (List Row)) (r : Repository) (sent : Command) (cause : Cause) (stopped : Stopped) → LeavesRows r sent (Err stopped) old new → FollowsRows old new r (sent ∷ []) (RefusedFor cause ∷ [])
follows_refusal old new r sent cause stopped leaves = follows_stayed old new r sent (RefusedFor cause) refl (stopped_kept r sent stopped old new leaves)

pub follows_fault : (old new : Option (List Row)) (r : Repository) (sent : Command) (fault : faults.Fault) (stopped : Stopped) → LeavesRows r sent (Err stopped) old new → FollowsRows old new r (sent ∷ []) (Faulted fault ∷ [])
follows_fault old new r sent fault stopped leaves = follows_stayed old new r sent (Faulted fault) refl (stopped_kept r sent stopped old new leaves)

-- ---- commands in a row

only_index : (r : Repository) (sent : Command) (n : ℕ) → Answers r sent (Indexed n) → after r sent ≡ r
only_index r Index n h = refl
only_index r (Commit c) n h = cc
only_index r (Tag c) n h = cc
only_index r (Move c) n h = cc
only_index r (Rename from to) n h = cc
only_index r (Delete name at) n h = cc
only_index r (Switch name) n h = cc
only_index r Pack n h = cc
only_index r (Names folder) n h = cc
only_index r (Files word) n h = let e = h.3 in cc
only_index r (Past word) n h = cc
only_index r (Log c) n h = let e = h.2 in cc
only_index r (Show word None) n h = let e = h.3 in cc
only_index r (Show word (Some path)) n h = let e = h.5 in cc

pub goes_unchanged : (changing : Bool) (P Q : Type 0) → not (changing && true) ≡ true → MatchBool changing P Q → Q
goes_unchanged true P Q on h = let z : ⊥ = cc in absurd z
goes_unchanged false P Q on h = h

one_on : (r mid : Repository) (rows : Option (List model.Row)) (sent : Command) (reply : Reply) (orders : List Command) (replies : List Reply) → Step r sent reply mid → goes_on sent reply ≡ true
    → rows_after r rows (sent ∷ orders) (reply ∷ replies) ≡ rows_after mid (rows_after r rows (sent ∷ []) (reply ∷ [])) orders replies
one_on r mid rows sent (Indexed n) orders replies step on = ap (λ x. rows_after x (Some (rows_of r)) orders replies) (sym (step.result ∙ only_index r sent n step.answer))
one_on r mid rows sent (RefusedFor cause) orders replies step on = ap (λ x. rows_after x rows orders replies) (sym step.1)
one_on r mid rows sent (Faulted fault) orders replies step on = ap (λ x. rows_after x rows orders replies) (sym (goes_unchanged (is_changing sent) _ _ on step.1))
one_on r mid rows sent reply orders replies step on = ap (λ x. rows_after x rows orders replies) (sym step.result)

pub no_failure : (on failed : Bool) → (not on || failed) ≡ false → (on ≡ true) × (failed ≡ false)
no_failure true failed e = (refl, e)
no_failure false failed e = cc

all_on : (r between : Repository) (rows : Option (List model.Row)) (orders more : List Command) (replies others : List Reply) → Steps r orders replies between → some_failed orders replies ≡ false
    → rows_after r rows (orders ++ more) (replies ++ others) ≡ rows_after between (rows_after r rows orders replies) more others
all_on r between rows [] more [] others steps unfailed = ap (λ x. rows_after x rows more others) (sym steps)
all_on r between rows [] more (reply ∷ replies) others steps unfailed = absurd steps
all_on r between rows (sent ∷ orders) more [] others steps unfailed = absurd steps
all_on r between rows (sent ∷ orders) more (reply ∷ replies) others (mid, step, _, rest) unfailed =
    let whole = no_failure (goes_on sent reply) (some_failed orders replies) unfailed in
    one_on r mid rows sent reply (orders ++ more) (replies ++ others) step whole.0
    ∙ all_on mid between (rows_after r rows (sent ∷ []) (reply ∷ [])) orders more replies others rest whole.1
    ∙ ap (λ found. rows_after between found more others) (sym (one_on r mid rows sent reply orders replies step whole.0))

pub follows_on : (old mid new : Option (List Row)) (r between : Repository) (orders more : List Command) (replies others : List Reply) → Steps r orders replies between → some_failed orders replies ≡ false
    → FollowsRows old mid r orders replies → FollowsRows mid new between more others → FollowsRows old new r (orders ++ more) (replies ++ others)
follows_on old mid new r between orders more replies others steps unfailed first second rows keeps =
    subst (λ found. KeepsRows found new) (sym (all_on r between rows orders more replies others steps unfailed)) (second (rows_after r rows orders replies) (first rows keeps))

pub steps_acted : (MayFail : Type 0) (objects names : History) (r : Repository) (begin : Moment) (orders : List Command) (replies : List Reply) (moments : List Moment) (new : Repository)
    → ActsOn objects names MayFail r begin orders replies moments new → Steps r orders replies new
steps_acted MayFail objects names r begin [] [] [] new acts = acts
steps_acted MayFail objects names r begin (sent ∷ orders) (reply ∷ replies) (moment ∷ moments) new (mid, acted, on, rest) = (mid, acted.step, on, steps_acted MayFail objects names mid moment orders replies moments new rest)
steps_acted MayFail objects names r begin [] [] (moment ∷ moments) new acts = absurd acts
steps_acted MayFail objects names r begin [] (reply ∷ replies) moments new acts = absurd acts
steps_acted MayFail objects names r begin (sent ∷ orders) [] moments new acts = absurd acts
steps_acted MayFail objects names r begin (sent ∷ orders) (reply ∷ replies) [] new acts = absurd acts

pub index_leaves : {F : Type 0} (r : Repository) (result : Result (Vec ℕ Global) Stopped) (old new : own.Repository F) → OnOk result (KeepsRows (Some (rows_of r)) (rows_in new)) → OnErr result (new ≡ old) → LeavesRows r Index result (rows_in old) (rows_in new)
index_leaves r (Ok text) old new keeps same = keeps
index_leaves r (Err stopped) old new keeps same = ap rows_in same

-- ---- other rows

pub rows_serve : {F : Type 0} (IsHonest : F → Type 0) (history : F → History) (old : own.Repository F) (r : Repository) (rows : List Row) → Stands IsHonest history old r → AgreeRows r.kind r.objects rows → Stands IsHonest history (record old { rows = Some rows }) r
rows_serve IsHonest history old r rows h agree = record {
  honest_objects = h.honest_objects;
  honest_names = h.honest_names;
  whole = h.whole;
  objects_kind = h.objects_kind;
  names_kind = h.names_kind;
  branch = h.branch;
  known = h.known;
  exist = h.exist;
  records = h.records;
  rows = agree;
}

-- the reply of an `index` that made these rows
pub index_answered : (MayFail : Type 0) (r : Repository) (rows : List Row) (count : ℕ) (text : Vec ℕ Global) → AreTheRows (rows_of r) rows → count ≡ length rows → text.items ≡ reply_text (Indexed count) → OnlyAnswers MayFail r Index (Ok text)
index_answered MayFail r rows count text are counts written = (
  Indexed (length (counted r)),
  written ∙ ap (λ n. reply_text (Indexed n)) (counts ∙ are.as_many ∙ length-map (counted r) (row_of r)),
  refl,
  refl,
)

-- rows that aren't made
pub index_stopped : (MayFail : Type 0) {T : Type 0} (IsMeant : T → Type 0) (r : Repository) (made : Result T Stopped) (result : Result (Vec ℕ Global) Stopped) (stopped : Stopped) → made ≡ Err stopped → IsErrAnd result (λ other. other ≡ stopped) → GivesMeant MayFail IsMeant made
    → OnlyAnswers MayFail r Index result
index_stopped MayFail IsMeant r made result stopped was is meant = handed_on MayFail r Index result stopped is (reading_fault MayFail r Index stopped (subst (GivesMeant MayFail IsMeant) was meant))

pub index_unmade : (MayFail : Type 0) (r : Repository) (rows : List Row) → AreRows rows → (result : Result (Vec ℕ Global) Stopped) (error : RowsError) → IsErrAnd result (λ stopped. stopped ≡ Fault (rows_fault error)) → IsRowsFault rows error → OnlyAnswers MayFail r Index result
index_unmade MayFail r rows are result error is fault = handed_on MayFail r Index result (Fault (rows_fault error)) is (reading_fault MayFail r Index (Fault (rows_fault error)) (subst (λ f. IsReadingFault MayFail (Fault f)) (sym (rows_whole rows are error fault)) tt))
