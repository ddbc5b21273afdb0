-- What a log's words, its order and its walk say.
use Rattle.std.proofs.Common.{◌≡◌, ◌∙◌, ap, refl, sym, subst, ℕ, zero, suc, ℤ, pos, Bool, true, false, cond, not, ◌==◌, ◌||◌, List, [], ◌∷◌, ◌++◌, filter, map, length, ◌<◌, Option, Some, None, option_map, Vec, Ok, Err, arith, tests, append-nil}
use Rattle.std.specs.declared.alloc.Global.{Global}
use Rattle.std.specs.Prelude.{Contains, IsErrAnd, Result}
use Rattle.std.specs.Bool.{MatchBool}
use Rattle.std.specs.List.{filter_map, list_any, AllWithin, HoldsAt}
use Rattle.std.proofs.lemmas.Bool.{or_parts}
use Rattle.std.proofs.lemmas.List.Folds.{list_any-append}
use Rattle.gix_hash.specs.Id.{Id, id_of}
use Rattle.gix_hash.specs.declared.object_id.ObjectId.{ObjectId}
use Rattle.gix_traverse_graph.specs.Commits.{Commits, WalkRequest}
use Rattle.gix_traverse_graph.specs.Order.{At}
use Rattle.gix_traverse_graph.proofs.Lists.{at_from_contains}
use Rattle.gix_traverse_graph.specs.Walks.{InBreadth, ByNewest, ByOldest, InDate, InTopological}
use Rattle.gix_traverse_graph.specs.declared.parents.Parents.{Parents}
use Rattle.gix_traverse_graph.specs.declared.parents.Parents.TheVariants.{All}
use Rattle.history_model.specs.Answers.{IsWalk, commits_of, differs_at, hidden_word, kept, since_of, tip_word, walk_request}
use Rattle.history_model.specs.Bytes.{Bytes, digits_value}
use Rattle.history_model.specs.Causes.{first_cause, is_ambiguous, is_bad_path, is_hidden, is_no_commit, is_unborn, is_unknown}
use Rattle.history_model.specs.Commands.{Log, LogCommand, LogItem, Tip, Hidden, Order, Breadth, Newest, Oldest, NewestSince, OldestSince, Date, Topological}
use Rattle.history_model.specs.Replies.{LogIs, reply_text}
use Rattle.history_model.specs.Forms.{IsWritten, max_path}
use Rattle.history_model.specs.Repository.{Repository, HoldsCommit, IsWholeStore}
use Rattle.history_model.proofs.WholeReads.{read_holds}
use Rattle.history_model.specs.Spelling.{item_target}
use Rattle.history_model.specs.Words.{commit_of}
use Rattle.history_model.specs.declared.Cause.{Cause}
use Rattle.history_model.specs.declared.Cause.TheVariants.{UnknownWord, AmbiguousWord, UnbornHead, NotACommit, BadPath}
use Rattle.history_walks.specs.Asking.{IsInOrder, walk_from}
use Rattle.history_walks.specs.declared.listing.Request.{Request}
use Rattle.history_word.specs.Commands.{ArePaths}
use Rattle.history_word.specs.Fields.{Keeps}
use Rattle.history_word.specs.declared.command.Field.{Field}
use Rattle.history_repository.specs.Reads.{GivesMeant, IsReadingFault, OnlyAnswers}
use Rattle.history_repository.specs.Meanings.{words_cause, commit_in, commit_or_cause, meaning_of}
use Rattle.history_repository.specs.Fields.{kept_bytes}
use Rattle.history_queries.specs.Logs.{AreEnds, IsOrderOf, followed, meanings_in, order_cause}
use Rattle.history_queries.specs.Walked.{AllHold, IsFollowed, IsLogged, IsWalkOf, Walks}
use Rattle.history_queries.specs.declared.logs.Ends.{Ends}
use Rattle.history_queries.specs.declared.reading.Walk.{Walk}
use Rattle.history_repository.specs.declared.stopped.Stopped.{Stopped}
use Rattle.history_repository.specs.declared.stopped.Stopped.TheVariants.{Refused, Fault}
use Rattle.history_repository.proofs.WordCauses.{any_map, by_words, commit_is, commits_told, passed, refused, told_by, words_told}
use Rattle.history_queries.proofs.CommitsWalked.{logged_hold}
use Rattle.history_repository.proofs.FieldLemmas.{whole_path}
use Rattle.history_model.specs.Words as model
use Rattle.history_walks.specs.declared.listing.Order as walks
use Rattle.history_walks.specs.declared.listing.Order.TheVariants as walk
use Rattle.history_repository.specs.declared.words.WordMeaning as own
use Rattle.history_repository.specs.declared.words.WordMeaning.TheVariants as read

-- ---- words

or_first : (x a b c : Bool) → (a || b) ≡ c → ((x || a) || b) ≡ (x || c)
or_first true a b c e = refl
or_first false a b c e = e

or_second : (x a b c : Bool) → (a || b) ≡ c → (a || (x || b)) ≡ (x || c)
or_second true true b c e = refl
or_second true false b c e = refl
or_second false true b c e = e
or_second false false b c e = e

-- the words of tips and then of hidden commits are the items'
any_end : (test : Bytes → Bool) (items : List LogItem) → (list_any test (filter_map tip_word items) || list_any test (filter_map hidden_word items)) ≡ list_any test (map item_target items)
any_end test [] = refl
any_end test (Tip word ∷ items) = or_first (test word) _ _ _ (any_end test items)
any_end test (Hidden word ∷ items) = or_second (test word) (list_any test (filter_map tip_word items)) _ _ (any_end test items)

module _ (r : Repository) (items : List LogItem) (ends : Ends) (are : AreEnds r items ends) where
  pub any_meaning : (test : Result Id Cause → Bool) → list_any test (meanings_in ends) ≡ list_any (λ word. test (commit_or_cause r word)) (map item_target items)
  any_meaning test =
      (λ i. list_any test (are.tips i ++ are.hidden i))
      ∙ list_any-append test (map (commit_or_cause r) (filter_map tip_word items)) (map (commit_or_cause r) (filter_map hidden_word items))
      ∙ (λ i. any_map test (commit_or_cause r) (filter_map tip_word items) i || any_map test (commit_or_cause r) (filter_map hidden_word items) i)
      ∙ any_end (λ word. test (commit_or_cause r word)) items

  -- some commit is hidden exactly if an item says so
  pub hides_told : not (length ends.hidden.items == 0) ≡ list_any is_hidden items
  hides_told = go items ends.hidden.items are.hidden
    where
      some : (n : ℕ) → (suc n == 0) ≡ false
      some n = grind (arith, tests)

      go : (items : List LogItem) (meanings : List own.WordMeaning) → map meaning_of meanings ≡ map (commit_or_cause r) (filter_map hidden_word items) → not (length meanings == 0) ≡ list_any is_hidden items
      go [] [] e = refl
      go [] (m ∷ meanings) e = let z : ⊥ = cc in absurd z
      go (Tip word ∷ items) meanings e = go items meanings e
      go (Hidden word ∷ items) [] e = let z : ⊥ = cc in absurd z
      go (Hidden word ∷ items) (m ∷ meanings) e = ap not (some (length meanings))

-- ---- causes

module _ (r : Repository) (order : LogCommand) where
  abbrev Ordered : Option Cause
  Ordered = order_cause order.order order.first_parents (list_any is_hidden order.items)

  abbrev Placed : Option Cause
  Placed = cond (list_any is_bad_path order.paths) (Some BadPath) Ordered

  first_told : first_cause r (Log order) ≡ by_words r (map item_target order.items) Placed
  first_told = ap (λ (paths : List Bytes). by_words r (map item_target order.items) (cond (list_any is_bad_path paths) (Some BadPath) Ordered)) (append-nil order.paths)

  -- an accepted log has no bad path
  pub good_paths : first_cause r (Log order) ≡ None → list_any is_bad_path order.paths ≡ false
  good_paths none = go
      (list_any (λ word. is_unknown (model.word_meaning r word)) (map item_target order.items)) (list_any (λ word. is_ambiguous (model.word_meaning r word)) (map item_target order.items))
      (list_any (λ word. is_unborn (model.word_meaning r word)) (map item_target order.items)) (list_any (λ word. is_no_commit r (model.word_meaning r word)) (map item_target order.items))
      (list_any is_bad_path order.paths) (sym first_told ∙ none)
    where
      go : (a b c d e : Bool) → cond a (Some UnknownWord) (cond b (Some AmbiguousWord) (cond c (Some UnbornHead) (cond d (Some NotACommit) (cond e (Some BadPath) Ordered)))) ≡ None → e ≡ false
      go true b c d e h = cc
      go false true c d e h = cc
      go false false true d e h = cc
      go false false false true e h = cc
      go false false false false true h = cc
      go false false false false false h = refl

  module _ (ends : Ends) (are : AreEnds r order.items ends) where
    told_so : (rest : Option Cause) → by_words r (map item_target order.items) rest ≡ told_by (meanings_in ends) rest
    told_so rest = words_told r (map item_target order.items) (meanings_in ends) (any_meaning r order.items ends are) rest

    pub refused_by_word : (cause : Cause) → words_cause (meanings_in ends) ≡ Some cause → first_cause r (Log order) ≡ Some cause
    refused_by_word cause is = first_told ∙ told_so Placed ∙ refused (meanings_in ends) cause Placed is

    told_by_path : words_cause (meanings_in ends) ≡ None → first_cause r (Log order) ≡ Placed
    told_by_path none = first_told ∙ told_so Placed ∙ passed (meanings_in ends) Placed none

    pub refused_by_path : words_cause (meanings_in ends) ≡ None → list_any is_bad_path order.paths ≡ true → first_cause r (Log order) ≡ Some BadPath
    refused_by_path none bad = told_by_path none ∙ ap (λ b. cond b (Some BadPath) Ordered) bad

    pub told_by_order : words_cause (meanings_in ends) ≡ None → list_any is_bad_path order.paths ≡ false → first_cause r (Log order) ≡ Ordered
    told_by_order none good = told_by_path none ∙ ap (λ b. cond b (Some BadPath) Ordered) good

-- ---- the commits that words mean

-- each is stored
pub ids_hold : (r : Repository) → IsWholeStore r → (meanings : List own.WordMeaning) (words : List Bytes) → map meaning_of meanings ≡ map (commit_or_cause r) words → (x : ObjectId) → Contains (filter_map commit_in meanings) x → HoldsCommit r (id_of x)
ids_hold r store meanings words e x c = let (k, a) = at_from_contains (filter_map commit_in meanings) x c in go meanings words e k a
  where
    go : (meanings : List own.WordMeaning) (words : List Bytes) → map meaning_of meanings ≡ map (commit_or_cause r) words → (k : ℕ) → At (filter_map commit_in meanings) k x → HoldsCommit r (id_of x)
    go [] words e k a = let z : ⊥ = cc in absurd z
    go (m ∷ meanings) [] e k a = let z : ⊥ = cc in absurd z
    go (m ∷ meanings) (word ∷ words) e k a =
        let head : meaning_of m ≡ commit_or_cause r word = cc in
        let tail : map meaning_of meanings ≡ map (commit_or_cause r) words = cc in
        by_meaning m head k a (λ j b. go meanings words tail j b)
      where
        by_meaning : (m : own.WordMeaning) → meaning_of m ≡ commit_or_cause r word → (k : ℕ) → At (filter_map commit_in (m ∷ meanings)) k x → ((j : ℕ) → At (filter_map commit_in meanings) j x → HoldsCommit r (id_of x)) → HoldsCommit r (id_of x)
        by_meaning (read.Commit commit) head zero a rest = let same : commit.id ≡ x = cc in read_holds r store (model.word_meaning r word) (id_of x) (commit_is r word (id_of x) (sym head ∙ ap (λ y. Ok (id_of y)) same))
        by_meaning (read.Commit commit) head (suc k) a rest = rest k a
        by_meaning read.NoCommit head k a rest = rest k a
        by_meaning read.Unborn head k a rest = rest k a
        by_meaning read.Unknown head k a rest = rest k a
        by_meaning read.Ambiguous head k a rest = rest k a

-- ---- the walk

abbrev asks : List Id → List Id → Parents → Option ℤ → WalkRequest Id
asks tips hidden parents since = record {
  tips = tips;
  hidden = hidden;
  parents = parents;
  since = since;
  accepts = λ _. true;
}

pub walk_told : (line : Order) (first : Bool) (made : walks.Order) → IsOrderOf line first made → (g : Commits Id) (tips hidden ids : List Id) → IsInOrder made g (walk_from made tips hidden) ids
    → IsWalk line g (asks tips hidden (followed first) (option_map pos (since_of line))) ids
walk_told Breadth first (walk.Breadth parents) is g tips hidden ids h = subst (λ p. InBreadth g (asks tips hidden p None) ids) is h
walk_told Newest first (walk.Newest since) is g tips hidden ids h = subst (λ b. ByNewest g (asks tips hidden (followed b) None) ids) (sym is.1) (subst (λ s. ByNewest g (asks tips hidden All s) ids) is.0 h)
walk_told Oldest first (walk.Oldest since) is g tips hidden ids h = subst (λ b. ByOldest g (asks tips hidden (followed b) None) ids) (sym is.1) (subst (λ s. ByOldest g (asks tips hidden All s) ids) is.0 h)
walk_told (NewestSince word) first (walk.Newest since) is g tips hidden ids h = subst (λ b. ByNewest g (asks tips hidden (followed b) (Some (pos (digits_value word)))) ids) (sym is.1) (subst (λ s. ByNewest g (asks tips hidden All s) ids) is.0 h)
walk_told (OldestSince word) first (walk.Oldest since) is g tips hidden ids h = subst (λ b. ByOldest g (asks tips hidden (followed b) (Some (pos (digits_value word)))) ids) (sym is.1) (subst (λ s. ByOldest g (asks tips hidden All s) ids) is.0 h)
walk_told Date first (walk.Date parents) is g tips hidden ids h = subst (λ p. InDate g (asks tips hidden p None) ids) is h
walk_told Topological first (walk.Topological parents) is g tips hidden ids h = subst (λ p. InTopological g (asks tips hidden p None) ids) is h
walk_told line first made is g tips hidden ids h = absurd is

-- ---- what the walk returns

-- a fault of reading is no refusal
pub walk_fault : (MayFail : Type 0) (r : Repository) (order : LogCommand) (stopped : Stopped) → IsReadingFault MayFail stopped → Walks MayFail r order (Err stopped)
walk_fault MayFail r order (Refused cause) h = absurd h
walk_fault MayFail r order (Fault fault) h = h

-- what a call stopped for is handed on
pub walk_stops : (MayFail : Type 0) (r : Repository) (order : LogCommand) (result : Result Walk Stopped) (stopped : Stopped) → IsErrAnd result (λ other. other ≡ stopped) → Walks MayFail r order (Err stopped) → Walks MayFail r order result
walk_stops MayFail r order (Ok walked) stopped same h = absurd same
walk_stops MayFail r order (Err other) stopped same h = subst (λ (x : Stopped). Walks MayFail r order (Err x)) (sym same) h

-- if there is no walk, its cause is the log's
pub unwalked : (MayFail : Type 0) (r : Repository) (order : LogCommand) (stopped : Stopped) → Walks MayFail r order (Err stopped) → OnlyAnswers MayFail r (Log order) (Err stopped)
unwalked MayFail r order (Refused cause) h = h
unwalked MayFail r order (Fault fault) h = h

module _ (r : Repository) (order : LogCommand) (ends : Ends) (are : AreEnds r order.items ends) where
  -- the requested walk is the log's
  walk_of : (request : Request) (ids : Vec ObjectId Global) → IsOrderOf order.order order.first_parents request.order → request.tips.items ≡ filter_map commit_in ends.tips.items → request.hidden.items ≡ filter_map commit_in ends.hidden.items
      → IsLogged r request ids → IsWalk order.order (commits_of r) (walk_request r order) (map id_of ids.items)
  walk_of request ids is_order tips_are hidden_are walked =
      let starts = filter_map (commit_of r) (filter_map tip_word order.items) in
      let stops = filter_map (commit_of r) (filter_map hidden_word order.items) in
      let from_tips : map id_of request.tips.items ≡ starts = ap (map id_of) tips_are ∙ commits_told r ends.tips.items (filter_map tip_word order.items) are.tips in
      let from_hidden : map id_of request.hidden.items ≡ stops = ap (map id_of) hidden_are ∙ commits_told r ends.hidden.items (filter_map hidden_word order.items) are.hidden in
      walk_told order.order order.first_parents request.order is_order (commits_of r) starts stops (map id_of ids.items)
      (subst (λ (tips : List Id). IsInOrder request.order (commits_of r) (walk_from request.order tips stops) (map id_of ids.items)) from_tips
      (subst (λ (hidden : List Id). IsInOrder request.order (commits_of r) (walk_from request.order (map id_of request.tips.items) hidden) (map id_of ids.items)) from_hidden walked))

  pub walk_given : (MayFail : Type 0) (request : Request) (store : IsWholeStore r) (written : IsWritten r) (result : Result Walk Stopped) → words_cause (meanings_in ends) ≡ None → list_any is_bad_path order.paths ≡ false
      → order_cause order.order order.first_parents (list_any is_hidden order.items) ≡ None → IsOrderOf order.order order.first_parents request.order
      → request.tips.items ≡ filter_map commit_in ends.tips.items → request.hidden.items ≡ filter_map commit_in ends.hidden.items → AllHold r request.tips.items → GivesMeant MayFail (IsFollowed r request) result → Walks MayFail r order result
  walk_given MayFail request store written (Ok walked) read good suits is_order tips_are hidden_are hold is = (
    told_by_order r order ends are read good ∙ suits,
    record { walk = walk_of request walked.ids is_order tips_are hidden_are is.lists; hold = logged_hold r store written request walked.ids is.lists hold },
    is.read,
  )
  walk_given MayFail request store written (Err stopped) read good suits is_order tips_are hidden_are hold fault = walk_fault MayFail r order stopped fault

-- ---- the paths

or_true : (a : Bool) → (a || true) ≡ true
or_true true = refl
or_true false = refl

-- what a test of a path says
abbrev pub Tells : Bool → Field → Type 0
Tells answer field = (path : Bytes) → Keeps max_path field path → answer ≡ is_bad_path path

some_bad : (fields : List Field) (paths : List Bytes) → ArePaths fields paths → (k : ℕ) → k < length fields → HoldsAt (Tells true) fields k → list_any is_bad_path paths ≡ true
some_bad [] paths are k less h = absurd (omega arith)
some_bad (field ∷ fields) [] are k less h = absurd are
some_bad (field ∷ fields) (path ∷ paths) are zero less h = ap (λ b. b || list_any is_bad_path paths) (sym (h field path are.0))
some_bad (field ∷ fields) (path ∷ paths) are (suc k) less h = ap (λ b. is_bad_path path || b) (some_bad fields paths are.1 k (omega arith) h) ∙ or_true (is_bad_path path)

none_bad : (fields : List Field) (paths : List Bytes) → ArePaths fields paths → AllWithin (Tells false) fields 0 (length fields) → list_any is_bad_path paths ≡ false
none_bad [] [] are h = refl
none_bad [] (path ∷ paths) are h = absurd are
none_bad (field ∷ fields) [] are h = absurd are
none_bad (field ∷ fields) (path ∷ paths) are h =
    ap (λ b. b || list_any is_bad_path paths) (sym (h 0 field (omega arith) (omega arith) path are.0))
    ∙ none_bad fields paths are.1 (λ k d low less. h (suc k) d (omega arith) (omega arith))

-- a test of the fields finds one exactly if one of the paths is bad
pub any_bad : (fields : List Field) (paths : List Bytes) → ArePaths fields paths → (answer : Bool)
    → MatchBool answer ((k : ℕ) × (k < length fields) × HoldsAt (Tells true) fields k) (AllWithin (Tells false) fields 0 (length fields)) → answer ≡ list_any is_bad_path paths
any_bad fields paths are true h = sym (some_bad fields paths are h.0 h.1 h.2)
any_bad fields paths are false h = sym (none_bad fields paths are h)

-- good paths are kept whole
pub whole_paths : (fields : List Field) (paths : List Bytes) → ArePaths fields paths → list_any is_bad_path paths ≡ false → map kept_bytes fields ≡ paths
whole_paths [] [] are good = refl
whole_paths [] (path ∷ paths) are good = absurd are
whole_paths (field ∷ fields) [] are good = absurd are
whole_paths (field ∷ fields) (path ∷ paths) are good =
    let both = or_parts (is_bad_path path) (list_any is_bad_path paths) good in
    λ i. whole_path field path are.0 both.0 i ∷ whole_paths fields paths are.1 both.1 i

-- without fields all commits are kept
pub kept_all : (r : Repository) (fields : List Field) (paths : List Bytes) (ids : List Id) → ArePaths fields paths → (length fields == 0) ≡ true → kept r paths ids ≡ ids
kept_all r [] [] ids are none = refl
kept_all r [] (path ∷ paths) ids are none = absurd are
kept_all r (field ∷ fields) paths ids are none = let z : ⊥ = grind (arith, tests, none) in absurd z

-- and with some those that differ
pub kept_some : (r : Repository) (fields : List Field) (paths : List Bytes) (ids : List Id) → ArePaths fields paths → (length fields == 0) ≡ false → kept r paths ids ≡ filter (differs_at r paths) ids
kept_some r [] paths ids are some = cc
kept_some r (field ∷ fields) [] ids are some = absurd are
kept_some r (field ∷ fields) (path ∷ paths) ids are some = refl

-- ---- the reply

pub log_answered : (MayFail : Type 0) (r : Repository) (order : LogCommand) (walked listed : List ObjectId) (text : Vec ℕ Global) → first_cause r (Log order) ≡ None → IsWalkOf r order walked → map id_of listed ≡ kept r order.paths (map id_of walked)
    → text.items ≡ reply_text (LogIs (map id_of listed)) → OnlyAnswers MayFail r (Log order) (Ok text)
log_answered MayFail r order walked listed text accepted is kept_are written = (LogIs (map id_of listed), written, accepted, (map id_of listed, (map id_of walked, is.walk, kept_are), refl))
