-- The commits of a repository, as walks read them from its store.
use Rattle.std.proofs.Common.{◌≡◌, ◌∙◌, ap, refl, sym, subst, ℕ, zero, suc, pos, Bool, ◌||◌, true, false, List, [], ◌∷◌, map, Option, Some, None, is_some, option_map, inl, inr, Vec, arith}
use Rattle.std.specs.declared.alloc.Global.{Global}
use Rattle.std.specs.Prelude.{ℤ, Contains, IfErr, IsErrAnd, IsTrue, IsSome, Result, Ok, Err, ⊤, option_and_then, unwrap_or}
use Rattle.std.specs.List.{AllZip, AllByRecursion, list_all, list_any}
use Rattle.std.specs.FinMap.{get}
use Rattle.gix_hash.specs.Id.{Id, id_of, bytes_from, digits_of}
use Rattle.gix_hash.specs.Kind.{hex_len}
use Rattle.gix_hash.specs.Order.{id_eq}
use Rattle.gix_hash.specs.Packed.{object_id_of, object_id_of-id_of}
use Rattle.gix_hash.specs.Views.{IsHexOfId}
use Rattle.gix_hash.proofs.LawLemmas.{hex_text-IsHexOf}
use Rattle.gix_hash.specs.declared.kind.Kind.{Kind}
use Rattle.gix_hash.specs.declared.object_id.ObjectId.{ObjectId}
use Rattle.gix_ref_file.proofs.Rooted.{both}
use Rattle.gix_ref_file.specs.History.{History}
use Rattle.gix_object_commit.specs.ReadingOn.{Reads, TellsNone, committer_told}
use Rattle.gix_object_commit.specs.Tokens.{Part, start}
use Rattle.gix_object_commit.proofs.OnePart.{one_id}
use Rattle.gix_object_commit.proofs.ToldParts.{parts_read, end}
use Rattle.gix_object_lookup.specs.Existing.{Stands}
use Rattle.gix_object_lookup.specs.Table.{Object, Table, content_or_none}
use Rattle.gix_traverse_graph.specs.Commits.{Commit, Commits, Reached, WalkRequest, asked_parents, tip, parent}
use Rattle.gix_traverse_commit_known.specs.Fetching.{LacksParents}
use Rattle.gix_traverse_graph.specs.Order.{At}
use Rattle.gix_traverse_graph.specs.declared.parents.Parents.{Parents}
use Rattle.gix_traverse_graph.specs.declared.parents.Parents.TheVariants.{All}
use Rattle.gix_traverse_graph.specs.Walks.{InSomeOrder, breadth, newest, oldest, date, topological}
use Rattle.gix_traverse_commit_known.specs.Painting.{ReachedFrom}
use Rattle.gix_traverse_graph.specs.RowCommits.{commit_of}
use Rattle.gix_traverse_graph.specs.Rows.{AllHeld, Holds}
use Rattle.gix_traverse_commit_known.specs.Told.{AreTold, IsNoCommit, TellsCommit, rows_of}
use Rattle.gix_traverse_graph.specs.declared.rows.Row.{Row}
use Rattle.gix_traverse_graph.proofs.Listing.{asked_parent, has_listed}
use Rattle.gix_traverse_graph.proofs.Lists.{at_from_contains}
use Rattle.gix_traverse_topo.specs.Standing.{NoneReachesItself}
use Rattle.history_model.specs.Answers.{commits_of, parents_at, time_at}
use Rattle.history_model.specs.Bytes.{Bytes}
use Rattle.history_model.specs.Forms.{IsWritten, is_commit_form, is_id}
use Rattle.history_model.specs.Objects.{CommitValue, Value, StoredCommit, StoredTag, StoredBytes, StoredFolder, object_kind, content_of, commit_content, folder_id, hex, value_text}
use Rattle.history_model.specs.Repository.{Repository, HoldsCommit, IsWholeStore, Reaches, as_commit, named, by_way_of, named_ids}
use Rattle.history_model.proofs.WholeLists.{clash}
use Rattle.history_model.proofs.IdLemmas.{digest_is_id, digits_of-raw_bytes, has_kind, id_itself, length-hex}
use Rattle.history_texts.proofs.ActorTexts.{actor_parts, time_spelled}
use Rattle.history_texts.proofs.CommitTexts.{value_forms, value_parts, value_spelled}
use Rattle.history_texts.proofs.Offsets.{OffsetTold, offset_told}
use Rattle.history_texts.specs.Formats.{person_of}
use Rattle.history_walks.specs.Asking.{IsInOrder, parents_in, walk_from}
use Rattle.history_walks.specs.declared.listing.Request.{Request}
use Rattle.history_walks.specs.Faults.{IsMet, IsUnread, WalkFault, absent, lines, time}
use Rattle.history_walks.specs.Naming.{AreNamed}
use Rattle.history_walks.specs.ReadCommits.{kept_in}
use Rattle.history_walks.specs.declared.read_commits.ReadCommits.{ReadCommits}
use Rattle.history_walks.specs.declared.error.WalkError.{WalkError}
use Rattle.history_walks.specs.declared.error.WalkError.TheVariants.{Failed, Broken, Memory}
use Rattle.history_walks.proofs.Named.{contains_from_map, contains_map}
use Rattle.history_walks.proofs.Spelled.{line, commit_told, no_parent_fault, no_time_fault}
use Rattle.history_store.specs.KnownObjects as known
use Rattle.history_repository.proofs.Tables.{tables_same}
use Rattle.history_repository.specs.Face.{rows_in}
use Rattle.history_repository.specs.Reads.{GivesMeant, IsReadingFault}
use Rattle.history_repository.specs.Stands as standing
use Rattle.history_repository.specs.declared.repository.Repository as face
use Rattle.history_repository.specs.Faults.{walk_fault}
use Rattle.history_repository.specs.KeptRows.{AgreeRows, TellsRow}
use Rattle.history_queries.specs.Walked.{AllHold, AreRead, IsLogged}
use Rattle.history_repository.specs.declared.stopped.Stopped.{Stopped}
use Rattle.history_repository.specs.declared.stopped.Stopped.TheVariants.{Fault}
use Rattle.gix_hash.specs.declared.kind.Kind.TheVariants as hash
use Rattle.gix_object_lines.specs.declared.kind.Kind.TheVariants as kinds
use Rattle.history_files.specs.Laws as laws
use Rattle.history_model.specs.Objects as model
use Rattle.history_walks.specs.declared.listing.Order as walks
use Rattle.history_walks.specs.declared.listing.Order.TheVariants as walk
use Rattle.history_model.specs.declared.Fault.TheVariants as model_faults

-- ---- ids

-- the value that is an id names it
pub value_named : (kind : Kind) (id : Id) → IsTrue (is_id kind id) → id_of (object_id_of id) ≡ id
value_named kind id formed = by_kind id.kind id.digits (digits_of-raw_bytes kind id formed)
  where
    by_kind : (k : Kind) (digits : List ℕ) → digits_of (bytes_from digits) ≡ digits → id_of (object_id_of (record { kind = k; digits = digits })) ≡ record { kind = k; digits = digits }
    by_kind hash.Sha1 digits e = ap (λ ds. record { kind = hash.Sha1; digits = ds }) e
    by_kind hash.Sha256 digits e = ap (λ ds. record { kind = hash.Sha256; digits = ds }) e

pub values_named : (kind : Kind) (ids : List Id) → IsTrue (list_all (is_id kind) ids) → map id_of (map object_id_of ids) ≡ ids
values_named kind [] formed = refl
values_named kind (id ∷ ids) formed =
    let parts = both (is_id kind id) (list_all (is_id kind) ids) formed in
    (λ i. value_named kind id parts.0 i ∷ values_named kind ids parts.1 i)

-- the ids of values name them
all_back : (ids : List ObjectId) → map object_id_of (map id_of ids) ≡ ids
all_back [] = refl
all_back (id ∷ ids) = λ i. object_id_of-id_of id i ∷ all_back ids i

-- its hexadecimal text spells it
hex_spells : (kind : Kind) (id : Id) → IsTrue (is_id kind id) → IsHexOfId (hex id) id
hex_spells kind id formed =
    let has = has_kind kind id formed in
    record { whole = length-hex id ∙ has.whole ∙ ap hex_len (sym has.of_kind); spelled = hex_text-IsHexOf id.digits has.digits }

spelled_ids : (kind : Kind) (ids others : List Id) → IsTrue (list_all (is_id kind) ids) → AllZip IsHexOfId (map hex ids) others → others ≡ ids
spelled_ids kind [] [] formed spelled = refl
spelled_ids kind [] (other ∷ others) formed spelled = absurd spelled
spelled_ids kind (id ∷ ids) [] formed spelled = absurd spelled
spelled_ids kind (id ∷ ids) (other ∷ others) formed spelled =
    let parts = both (is_id kind id) (list_all (is_id kind) ids) formed in
    (λ i. one_id (hex id) other id spelled.0 (hex_spells kind id parts.0) i ∷ spelled_ids kind ids others parts.1 spelled.1 i)

-- ---- lists

all_at : {X : Type 0} (P : X → Type 0) (xs : List X) → AllByRecursion P xs → (k : ℕ) (x : X) → At xs k x → P x
all_at P [] all k x a = let z : ⊥ = cc in absurd z
all_at P (y ∷ xs) all zero x a = let same : y ≡ x = cc in subst P same all.0
all_at P (y ∷ xs) all (suc k) x a = all_at P xs all.1 k x a

all_contained : {X : Type 0} (P : X → Type 0) (xs : List X) → AllByRecursion P xs → (x : X) → Contains xs x → P x
all_contained P xs all x c = let (k, a) = at_from_contains xs x c in all_at P xs all k x a

or_true : (a : Bool) → (a || true) ≡ true
or_true true = refl
or_true false = refl

any_at : (ids : List Id) (k : ℕ) (id : Id) → At ids k id → list_any (id_eq id) ids ≡ true
any_at [] k id a = let z : ⊥ = cc in absurd z
any_at (x ∷ ids) zero id a = let same : x ≡ id = cc in ap (λ y. id_eq id y || list_any (id_eq id) ids) same ∙ ap (λ b. b || list_any (id_eq id) ids) (id_itself id)
any_at (x ∷ ids) (suc k) id a = ap (λ b. id_eq id x || b) (any_at ids k id a) ∙ or_true (id_eq id x)

-- ---- a whole repository in its written form

module _ (r : Repository) (store : IsWholeStore r) (written : IsWritten r) where
  -- its commits, by the values of their ids
  abbrev pub read_commits : Commits ObjectId
  read_commits x = record { parents = map object_id_of (parents_at r (id_of x)); time = pos (time_at r (id_of x)) }

  abbrev parents_of_value : Option Value → List Id
  parents_of_value found = unwrap_or (option_map (λ (commit : CommitValue). commit.parents) (option_and_then as_commit found)) []

  abbrev time_of_value : Option Value → ℕ
  time_of_value found = unwrap_or (option_map (λ (commit : CommitValue). (commit.committer).seconds) (option_and_then as_commit found)) 0

  formed : (id : Id) (value : CommitValue) → get r.objects id ≡ Some (StoredCommit value) → IsTrue (is_commit_form r.kind value)
  formed id value at = ((written.values id (StoredCommit value) at).0).0

  parents_formed : (id : Id) → IsTrue (list_all (is_id r.kind) (parents_at r id))
  parents_formed id = go (get r.objects id) refl
    where
      go : (found : Option Value) → get r.objects id ≡ found → IsTrue (list_all (is_id r.kind) (parents_of_value found))
      go None at = refl
      go (Some (StoredCommit value)) at = (value_forms r.kind value (formed id value at)).parents
      go (Some (StoredTag tag)) at = refl
      go (Some (StoredBytes bytes)) at = refl
      go (Some (StoredFolder files)) at = refl

  parents_named : (x : ObjectId) → map id_of (read_commits x).parents ≡ parents_at r (id_of x)
  parents_named x = values_named r.kind (parents_at r (id_of x)) (parents_formed (id_of x))

  pub are_named : AreNamed id_of read_commits (commits_of r)
  are_named = record { parents = λ x. sym (parents_named x); time = λ x. refl }

  -- ---- what its texts say

  id_kind : (id : Id) (value : Value) → get r.objects id ≡ Some value → id.kind ≡ r.kind
  id_kind id value at =
      ap (λ (i : Id). i.kind) (store.own_ids id value at) ∙ (has_kind r.kind (model.id_of r.kind value) (digest_is_id r.kind (value_text r.kind value))).of_kind

  abbrev Tokens : Kind → CommitValue → Type 0
  Tokens kind value =
      (tree : Id) × Reads (start kind (commit_content r.kind value)) (line tree value.parents (person_of value.author) (person_of value.committer) value.message) (end kind)

  tokens_of : (id : Id) (value : CommitValue) → get r.objects id ≡ Some (StoredCommit value) → Tokens id.kind value
  tokens_of id value at =
      let text = commit_content r.kind value in
      let form = formed id value at in
      let told = parts_read r.kind text (value_parts r.kind value) (value_spelled r.kind value text form refl) in
      let parents = spelled_ids r.kind value.parents told.1.parents (value_forms r.kind value form).parents told.1.parents_spelled in
      let tokens : List Id → List Part = λ ids. line told.1.tree ids (person_of value.author) (person_of value.committer) value.message in
      subst (λ kind. Tokens kind value) (sym (id_kind id (StoredCommit value) at))
      (told.1.tree, subst (λ parts. Reads (start r.kind text) parts (end r.kind)) (told.1.in_order ∙ ap tokens parents) told.2)

  abbrev table : Table
  table = laws.table_of r

  abbrev object_of : Value → Object
  object_of value = record { kind = object_kind value; content = content_of r.kind value }

  commit_stands : (id : Id) (value : CommitValue) → get r.objects id ≡ Some (StoredCommit value) → Stands table id kinds.Commit (commit_content r.kind value)
  commit_stands id value at = ap (option_map object_of) at

  abbrev IsCommitText : Bytes → Option Value → Type 0
  IsCommitText content found = option_map object_of found ≡ Some (record { kind = kinds.Commit; content = content })

  -- what is stored as a commit is one
  stands_of : (id : Id) (content : Bytes) → Stands table id kinds.Commit content → (value : CommitValue) × (get r.objects id ≡ Some (StoredCommit value)) × (commit_content r.kind value ≡ content)
  stands_of id content stands = go (get r.objects id) refl stands
    where
      other : (value : Value) → IsCommitText content (Some value) → object_kind value ≡ kinds.Commit
      other value is = let kind : Some (object_kind value) ≡ Some kinds.Commit = ap (option_map (λ (o : Object). o.kind)) is in cc

      go : (found : Option Value) → get r.objects id ≡ found → IsCommitText content found → (value : CommitValue) × (get r.objects id ≡ Some (StoredCommit value)) × (commit_content r.kind value ≡ content)
      go None at is = let z : ⊥ = cc in absurd z
      go (Some (StoredCommit value)) at is = (value, at, ap content_or_none is)
      go (Some (StoredTag tag)) at is = let e : kinds.Tag ≡ kinds.Commit = other (StoredTag tag) is in let z : ⊥ = cc in absurd z
      go (Some (StoredBytes bytes)) at is = let e : kinds.Blob ≡ kinds.Commit = other (StoredBytes bytes) is in let z : ⊥ = cc in absurd z
      go (Some (StoredFolder files)) at is = let e : kinds.Tree ≡ kinds.Commit = other (StoredFolder files) is in let z : ⊥ = cc in absurd z

  tells : (x : ObjectId) (value : CommitValue) → get r.objects (id_of x) ≡ Some (StoredCommit value) → TellsCommit (id_of x).kind (commit_content r.kind value) (read_commits x)
  tells x value at =
      let (tree, reads) = tokens_of (id_of x) value at in
      let parts = actor_parts value.committer (value_forms r.kind value (formed (id_of x) value at)).committer in
      let told : OffsetTold (value.committer).offset = offset_told (value.committer).offset parts.offset in
      commit_told (id_of x).kind (commit_content r.kind value) tree value.parents (person_of value.author) (person_of value.committer) value.message (end (id_of x).kind) reads refl
      (record { seconds = pos (value.committer).seconds; offset = told.offset }) (time_spelled value.committer told parts.seconds)
      (read_commits x) (parents_named x ∙ ap parents_of_value at) (ap (λ found. pos (time_of_value found)) at)

  untimed : (x : ObjectId) → IsNoCommit table (id_of x) → (read_commits x).time ≡ pos 0
  untimed x none = go (get r.objects (id_of x)) refl
    where
      go : (found : Option Value) → get r.objects (id_of x) ≡ found → pos (time_of_value found) ≡ pos 0
      go None at = refl
      go (Some (StoredCommit value)) at = absurd (none (commit_content r.kind value) (commit_stands (id_of x) value at))
      go (Some (StoredTag tag)) at = refl
      go (Some (StoredBytes bytes)) at = refl
      go (Some (StoredFolder files)) at = refl

  -- a row describes its commit as it is read
  rowed_so : (row : Row) → TellsRow r.kind r.objects row → read_commits row.id ≡ commit_of (Some row)
  rowed_so row is =
      let found = ap (option_and_then as_commit) is.stored in
      let parents : map object_id_of (parents_at r (id_of row.id)) ≡ row.parents.items = ap (map object_id_of) (ap parents_in found ∙ sym is.parents) ∙ all_back row.parents.items in
      let seconds : pos (time_at r (id_of row.id)) ≡ row.time = ap time_in found ∙ sym is.time in
      λ i. record { parents = parents i; time = seconds i }
    where
      parents_in : Option CommitValue → List Id
      parents_in found = unwrap_or (option_map (λ (commit : CommitValue). commit.parents) found) []

      time_in : Option CommitValue → ℤ
      time_in found = pos (unwrap_or (option_map (λ (commit : CommitValue). (commit.committer).seconds) found) 0)

  pub are_told : (rows : List Row) → AgreeRows r.kind r.objects rows → AreTold rows table read_commits
  are_told rows agree = record {
    rowed = λ row c. rowed_so row (agree.told row c);
    stored = λ x content unrowed stands.
        let (value, at, same) = stands_of (id_of x) content stands in
        subst (λ text. TellsCommit (id_of x).kind text (read_commits x)) same (tells x value at);
    missing = λ x unrowed none. untimed x none;
  }

  -- ---- what is reached

  parent_of : (id p : Id) → Contains (parents_at r id) p → (value : CommitValue) × (get r.objects id ≡ Some (StoredCommit value)) × Contains value.parents p
  parent_of id p c = go (get r.objects id) refl c
    where
      go : (found : Option Value) → get r.objects id ≡ found → Contains (parents_of_value found) p → (value : CommitValue) × (get r.objects id ≡ Some (StoredCommit value)) × Contains value.parents p
      go None at c = absurd (omega (arith, c.1))
      go (Some (StoredCommit value)) at c = (value, at, c)
      go (Some (StoredTag tag)) at c = absurd (omega (arith, c.1))
      go (Some (StoredBytes bytes)) at c = absurd (omega (arith, c.1))
      go (Some (StoredFolder files)) at c = absurd (omega (arith, c.1))

  parent_named : (x y : ObjectId) → Contains (read_commits x).parents y → Contains (parents_at r (id_of x)) (id_of y)
  parent_named x y c = subst (λ ids. Contains ids (id_of y)) (parents_named x) (contains_map id_of object_id_of object_id_of-id_of (read_commits x).parents y c)

  pub held_parent : (id p : Id) → Contains (parents_at r id) p → HoldsCommit r p
  held_parent id p c = let (value, at, among) = parent_of id p c in all_contained (HoldsCommit r) value.parents (store.closed id (StoredCommit value) at).0 p among

  parent_holds : (x y : ObjectId) → Contains (read_commits x).parents y → HoldsCommit r (id_of y)
  parent_holds x y c = held_parent (id_of x) (id_of y) (parent_named x y c)

  reached_holds : (tips : List ObjectId) → AllHold r tips → {x : ObjectId} → ReachedFrom read_commits tips x → HoldsCommit r (id_of x)
  reached_holds tips hold (tip {x = x} c p) = hold x c
  reached_holds tips hold (parent {x = x} {y = y} reached c p) = parent_holds x y c

  -- the commits that a walk from stored ones lists are stored
  pub logged_hold : (request : Request) (ids : Vec ObjectId Global) → IsLogged r request ids → AllHold r request.tips.items → AllHold r ids.items
  logged_hold request ids logged hold x c =
      let q = walk_from request.order (map id_of request.tips.items) (map id_of request.hidden.items) in
      reached (parents_in request.order) _ ((has_listed (commits_of r) q (map id_of ids.items) (λ y. refl) (some_order request.order q (map id_of ids.items) logged) (id_of x)).0 (contains_map id_of object_id_of object_id_of-id_of ids.items x c)).0
    where
      some_order : (order : walks.Order) (q : WalkRequest Id) (out : List Id) → IsInOrder order (commits_of r) q out → InSomeOrder (commits_of r) q out
      some_order (walk.Breadth parents) q out h = breadth h
      some_order (walk.Newest since) q out h = newest h
      some_order (walk.Oldest since) q out h = oldest h
      some_order (walk.Date parents) q out h = date h
      some_order (walk.Topological parents) q out h = topological h

      reached : (parents : Parents) (P : Id → Type 0) {id : Id} → Reached (asked_parents parents (commits_of r)) P (map id_of request.tips.items) id → HoldsCommit r id
      reached parents P (tip {x = id} c p) =
          let (y, among, same) = contains_from_map id_of object_id_of object_id_of-id_of request.tips.items id c in
          subst (HoldsCommit r) same (hold y among)
      reached parents P (parent {x = id} {y = p} way c q) = held_parent id p (asked_parent (commits_of r) parents id p c)

  names_parent : (x y : ObjectId) → Contains (read_commits x).parents y → Reaches r (id_of x) (id_of y)
  names_parent x y c =
      let (value, at, among) = parent_of (id_of x) (id_of y) (parent_named x y c) in
      let (k, a) = at_from_contains value.parents (id_of y) among in
      let any : IsTrue (list_any (id_eq (id_of y)) (named_ids r.kind (StoredCommit value))) =
      ap (λ b. id_eq (id_of y) (folder_id r.kind value.files) || b) (any_at value.parents k (id_of y) a) ∙ or_true (id_eq (id_of y) (folder_id r.kind value.files)) in
      named (StoredCommit value) at any

  reaches_on : (x : ObjectId) {y : ObjectId} → Reached (λ z. (read_commits z).parents) (λ _. ⊤) (read_commits x).parents y → Reaches r (id_of x) (id_of y)
  reaches_on x (tip {x = y} c p) = names_parent x y c
  reaches_on x (parent {x = z} {y = y} reached c p) = by_way_of (id_of z) (reaches_on x reached) (names_parent z y c)

  pub none_reaches : (q : WalkRequest ObjectId) → NoneReachesItself read_commits q
  none_reaches q x listed loop = store.acyclic (id_of x) (reaches_on x loop)

  -- ---- each commit is read

  commit_there : (id : Id) → HoldsCommit r id → (value : CommitValue) × (get r.objects id ≡ Some (StoredCommit value))
  commit_there id holds = go (get r.objects id) refl holds
    where
      go : (found : Option Value) → get r.objects id ≡ found → IsSome (option_and_then as_commit found) → (value : CommitValue) × (get r.objects id ≡ Some (StoredCommit value))
      go None at some = let z : ⊥ = cc in absurd z
      go (Some (StoredCommit value)) at some = (value, at)
      go (Some (StoredTag tag)) at some = let z : ⊥ = cc in absurd z
      go (Some (StoredBytes bytes)) at some = let z : ⊥ = cc in absurd z
      go (Some (StoredFolder files)) at some = let z : ⊥ = cc in absurd z

  none_unread : (x : ObjectId) → HoldsCommit r (id_of x) → IsUnread table x → ⊥
  none_unread x holds (absent none) = let (value, at) = commit_there (id_of x) holds in none (commit_content r.kind value) (commit_stands (id_of x) value at)
  none_unread x holds (lines content error stands lacks) =
      let (value, at, same) = stands_of (id_of x) content stands in
      let (tree, reads) = tokens_of (id_of x) value at in
      no_parent_fault (id_of x).kind (commit_content r.kind value) tree value.parents (person_of value.author) (person_of value.committer) value.message (end (id_of x).kind) reads refl error
      (subst (λ text. LacksParents All (start (id_of x).kind text) error) (sym same) lacks)
  none_unread x holds (time content error stands lacks) =
      let (value, at, same) = stands_of (id_of x) content stands in
      let (tree, reads) = tokens_of (id_of x) value at in
      no_time_fault (id_of x).kind (commit_content r.kind value) tree value.parents (person_of value.author) (person_of value.committer) value.message (end (id_of x).kind) reads refl error
      (subst (λ text. TellsNone committer_told (start (id_of x).kind text) error) (sym same) lacks)

  none_broken : (tips hidden : List ObjectId) → AllHold r tips → AllHold r hidden → (x : ObjectId) → IsMet read_commits tips hidden x → IsUnread table x → ⊥
  none_broken tips hidden tips_hold hidden_hold x (inl reached) unread = none_unread x (reached_holds tips tips_hold reached) unread
  none_broken tips hidden tips_hold hidden_hold x (inr reached) unread = none_unread x (reached_holds hidden hidden_hold reached) unread

  -- so a walk from stored commits is stopped by a failed lookup, or for want of memory
  pub walk_stopped : (rows : List Row) (tips hidden : List ObjectId) → AllHold r tips → AllHold r hidden → {T : Type 0} (MayFail : Type 0) (IsMeant : T → Type 0) (result : Result T Stopped) (error : WalkError)
      → IsErrAnd result (λ stopped. stopped ≡ Fault (walk_fault error)) → WalkFault MayFail rows table read_commits tips hidden error → GivesMeant MayFail IsMeant result
  walk_stopped rows tips hidden tips_hold hidden_hold MayFail IsMeant (Ok value) error is fails = absurd is
  walk_stopped rows tips hidden tips_hold hidden_hold MayFail IsMeant (Err stopped) Failed is fails = subst (IsReadingFault MayFail) (sym is) fails.0
  walk_stopped rows tips hidden tips_hold hidden_hold MayFail IsMeant (Err stopped) Broken is (x, met, unheld, unread) = absurd (none_broken tips hidden tips_hold hidden_hold x met unread)
  walk_stopped rows tips hidden tips_hold hidden_hold MayFail IsMeant (Err stopped) Memory is fails = subst (IsReadingFault MayFail) (sym is) tt

  -- ---- if all have rows

  module _ (rows : List Row) (agree : AgreeRows r.kind r.objects rows) where
    held_parent_too : (x y : ObjectId) → Holds rows x → Contains (read_commits x).parents y → Holds rows y
    held_parent_too x y (row, c, of_row) among =
        let same : (read_commits x).parents ≡ row.parents.items = ap (λ id. (read_commits id).parents) (sym of_row) ∙ ap (λ (commit : Commit ObjectId). commit.parents) (rowed_so row (agree.told row c)) in
        (agree.graph).parents row c y (subst (λ ids. Contains ids y) same among)

    all_held : (tips : List ObjectId) → AllHeld rows tips → {x : ObjectId} → ReachedFrom read_commits tips x → Holds rows x
    all_held tips held (tip {x = x} c p) = held x c
    all_held tips held (parent {x = x} {y = y} reached c p) = held_parent_too x y (all_held tips held reached) c

    met_held : (tips hidden : List ObjectId) → AllHeld rows tips → AllHeld rows hidden → (x : ObjectId) → IsMet read_commits tips hidden x → Holds rows x
    met_held tips hidden tips_held hidden_held x (inl reached) = all_held tips tips_held reached
    met_held tips hidden tips_held hidden_held x (inr reached) = all_held hidden hidden_held reached

    -- a walk is stopped for want of memory alone
    pub walk_rowed : (tips hidden : List ObjectId) → AllHeld rows tips → AllHeld rows hidden → {T : Type 0} (MayFail : Type 0) (result : Result T Stopped) (error : WalkError)
        → IsErrAnd result (λ stopped. stopped ≡ Fault (walk_fault error)) → WalkFault MayFail rows table read_commits tips hidden error → IfErr result (λ stopped. stopped ≡ Fault model_faults.Memory)
    walk_rowed tips hidden tips_held hidden_held MayFail (Ok value) error is fails = tt
    walk_rowed tips hidden tips_held hidden_held MayFail (Err stopped) Failed is (may, (x, met, unheld)) = absurd (unheld (met_held tips hidden tips_held hidden_held x met))
    walk_rowed tips hidden tips_held hidden_held MayFail (Err stopped) Broken is (x, met, unheld, unread) = absurd (unheld (met_held tips hidden tips_held hidden_held x met))
    walk_rowed tips hidden tips_held hidden_held MayFail (Err stopped) Memory is fails = is

-- ---- a walk over the store of a repository, with its rows

module _ {F : Type 0} (IsHonest : F → Type 0) (history : F → History) (repository : face.Repository F) (r : Repository) (stands : standing.Stands IsHonest history repository r) (rows : Option (List Row)) (copied : rows ≡ rows_in repository) where
  abbrev pub commits_there : Commits ObjectId
  commits_there = read_commits r stands.whole.whole.store stands.whole.written

  abbrev looked_up : Table
  looked_up = known.table_of history repository.objects

  pub told_there : AreTold (rows_of rows) looked_up commits_there
  told_there =
      subst (λ (t : Table). AreTold (rows_of rows) t commits_there) (sym (tables_same IsHonest history repository r stands))
      (subst (λ (o : Option (List Row)). AreTold (rows_of o) (laws.table_of r) commits_there) (sym copied) (are_told r stands.whole.whole.store stands.whole.written (rows_of (rows_in repository)) stands.rows))

  pub stopped_there : (tips hidden : List ObjectId) → AllHold r tips → AllHold r hidden → {T : Type 0} (MayFail : Type 0) (IsMeant : T → Type 0) (result : Result T Stopped) (error : WalkError)
      → IsErrAnd result (λ stopped. stopped ≡ Fault (walk_fault error)) → WalkFault MayFail (rows_of rows) looked_up commits_there tips hidden error → GivesMeant MayFail IsMeant result
  stopped_there tips hidden tips_hold hidden_hold MayFail IsMeant result error is fault =
      walk_stopped r stands.whole.whole.store stands.whole.written (rows_of rows) tips hidden tips_hold hidden_hold MayFail IsMeant result error is
      (subst (λ (t : Table). WalkFault MayFail (rows_of rows) t commits_there tips hidden error) (tables_same IsHonest history repository r stands) fault)

  pub rowed_there : (tips hidden : List ObjectId) → AllHeld (rows_of (rows_in repository)) tips → AllHeld (rows_of (rows_in repository)) hidden → {T : Type 0} (MayFail : Type 0) (result : Result T Stopped) (error : WalkError)
      → IsErrAnd result (λ stopped. stopped ≡ Fault (walk_fault error)) → WalkFault MayFail (rows_of rows) looked_up commits_there tips hidden error → IfErr result (λ stopped. stopped ≡ Fault model_faults.Memory)
  rowed_there tips hidden tips_held hidden_held MayFail result error is fault =
      walk_rowed r stands.whole.whole.store stands.whole.written (rows_of (rows_in repository)) stands.rows tips hidden tips_held hidden_held MayFail result error is
      (subst (λ (o : Option (List Row)). WalkFault MayFail (rows_of o) (laws.table_of r) commits_there tips hidden error) copied
      (subst (λ (t : Table). WalkFault MayFail (rows_of rows) t commits_there tips hidden error) (tables_same IsHonest history repository r stands) fault))

-- what is stored as a commit's content is that of its value
pub content_so : (r : Repository) (id : Id) (value : CommitValue) (content : Bytes) → get r.objects id ≡ Some (StoredCommit value) → Stands (laws.table_of r) id kinds.Commit content → content ≡ commit_content r.kind value
content_so r id value content at there = ap content_or_none (sym there ∙ ap (option_map (λ (v : Value). record { kind = object_kind v; content = content_of r.kind v })) at)

-- where nothing was read, what was read is as it is stored
pub none_read : (r : Repository) (read : ReadCommits) → ((id : Id) → kept_in read id ≡ None) → AreRead r read
none_read r read none x content there = clash (ap is_some there) (ap is_some (none (id_of x)))

-- a call that gives what is meant stops for a fault of reading
pub fails_so : {T : Type 0} (MayFail : Type 0) (IsMeant : T → Type 0) (result : Result T Stopped) → GivesMeant MayFail IsMeant result → IfErr result (IsReadingFault MayFail)
fails_so MayFail IsMeant (Ok value) gives = tt
fails_so MayFail IsMeant (Err stopped) gives = gives

-- why a call stopped, if memory alone may be wanting, is handed on
pub memory_told : {T : Type 0} (result : Result T Stopped) (stopped : Stopped) → IsErrAnd result (λ other. other ≡ stopped) → stopped ≡ Fault model_faults.Memory → IfErr result (λ other. other ≡ Fault model_faults.Memory)
memory_told (Ok value) stopped same is = tt
memory_told (Err other) stopped same is = same ∙ is
