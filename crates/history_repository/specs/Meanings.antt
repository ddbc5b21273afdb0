-- What a word was read as, the commit that it means, and why words that were read mean none.
use Rattle.std.specs.Prelude.{◌≡◌, ⊤, Bool, true, false, List, Option, Some, None, Result, Ok, Err, IsTrue, MatchOption, find, ok_or, if◌then◌else◌}
use Rattle.std.specs.FinMap.{get}
use Rattle.history_model.specs.Bytes.{Bytes}
use Rattle.history_model.specs.Objects.{Value}
use Rattle.history_model.specs.Repository.{Repository, id_at, peeled, stands}
use Rattle.history_model.specs.Words.{candidates, is_short_id, word_meaning}
use Rattle.history_model.specs.declared.Cause.{Cause}
use Rattle.history_model.specs.declared.Cause.TheVariants.{UnknownWord, AmbiguousWord, UnbornHead, NotACommit, NotExpected}
use Rattle.history_repository.specs.Meant.{HasRoot}
use Rattle.history_repository.specs.declared.stored.PeeledCommit.{PeeledCommit}
use Rattle.history_repository.specs.declared.words.LookedUp.{LookedUp}
use Rattle.history_repository.specs.declared.words.Standing.{Standing}
use Rattle.history_repository.specs.declared.words.WordMeaning.{WordMeaning}
use Rattle.history_repository.specs.declared.words.WordMeaning.TheVariants.{Commit, NoCommit, Unborn, Unknown, Ambiguous}
use Rattle.gix_hash.specs.declared.kind.Kind.{Kind}
use Rattle.gix_hash.specs.declared.object_id.ObjectId.{ObjectId}
use Rattle.gix_hash.specs.Id.{Id, id_of}
use Rattle.gix_hash.specs.Spelling.{IsHexOf}
use Rattle.std.specs.List.{list_any}
use Rattle.gix_hash.specs.Order.{id_eq}
use Rattle.history_model.specs.Words as model
use Rattle.history_repository.specs.declared.words.LookedUp.TheVariants as looked

-- the commit that a word of this meaning means, or why it means none
abbrev pub stands_for : Repository → model.WordMeaning → Result Id Cause
stands_for r (model.ReadsAs id) = ok_or (peeled r id) NotACommit
stands_for r model.Unborn = Err UnbornHead
stands_for r model.Unknown = Err UnknownWord
stands_for r model.Ambiguous = Err AmbiguousWord

-- the commit that a word means, or why it means none
abbrev pub commit_or_cause : Repository → Bytes → Result Id Cause
commit_or_cause r word = stands_for r (word_meaning r word)

-- the same, of a word that was read
abbrev pub meaning_of : WordMeaning → Result Id Cause
meaning_of (Commit commit) = Ok (id_of commit.id)
meaning_of NoCommit = Err NotACommit
meaning_of Unborn = Err UnbornHead
meaning_of Unknown = Err UnknownWord
meaning_of Ambiguous = Err AmbiguousWord

-- a word of this meaning means the object of this id, which is stored
pub record ReadsAsStored (r : Repository) (meaning : model.WordMeaning) (id : Id) : Type 0 where
  pub reads : meaning ≡ model.ReadsAs id
  pub value : Value
  pub stored : get r.objects id ≡ Some value

-- a word of this meaning was looked up so
abbrev pub IsLookedUp : Repository → model.WordMeaning → LookedUp → Type 0
IsLookedUp r meaning (looked.Object id) = ReadsAsStored r meaning (id_of id)
IsLookedUp r meaning looked.Unborn = meaning ≡ model.Unborn
IsLookedUp r meaning looked.Unknown = meaning ≡ model.Unknown
IsLookedUp r meaning looked.Ambiguous = meaning ≡ model.Ambiguous

-- the commit that a word was read as, and its id
abbrev pub peeled_in : WordMeaning → Option PeeledCommit
peeled_in (Commit commit) = Some commit
peeled_in NoCommit = None
peeled_in Unborn = None
peeled_in Unknown = None
peeled_in Ambiguous = None

abbrev pub commit_in : WordMeaning → Option ObjectId
commit_in (Commit commit) = Some commit.id
commit_in NoCommit = None
commit_in Unborn = None
commit_in Unknown = None
commit_in Ambiguous = None

-- the root is that commit's, if it is known
abbrev pub HasRootIn : Repository → WordMeaning → Type 0
HasRootIn r meaning = MatchOption (peeled_in meaning) ⊤ (HasRoot r)

-- a word of this meaning was read so, with its commit's root, if that is known
pub record IsReadAs (r : Repository) (what : model.WordMeaning) (meaning : WordMeaning)
    : Type 0 where
  pub means : meaning_of meaning ≡ stands_for r what
  pub rooted : HasRootIn r meaning

-- whether a word means no commit for this cause
abbrev pub is_unknown_word : Result Id Cause → Bool
is_unknown_word (Err UnknownWord) = true
is_unknown_word _ = false

abbrev pub is_ambiguous_word : Result Id Cause → Bool
is_ambiguous_word (Err AmbiguousWord) = true
is_ambiguous_word _ = false

abbrev pub is_unborn_head : Result Id Cause → Bool
is_unborn_head (Err UnbornHead) = true
is_unborn_head _ = false

abbrev pub is_not_a_commit : Result Id Cause → Bool
is_not_a_commit (Err NotACommit) = true
is_not_a_commit _ = false

-- the word is a short id of this kind, and spells the digits of the prefix
pub record SpellsPrefix (kind : Kind) (word : Bytes) (prefix : Id) : Type 0 where
  pub short : IsTrue (is_short_id kind word)
  pub digits : IsHexOf word prefix.digits

-- the first existing name of those that the word may mean, with the id that it holds
pub record IsFirst (r : Repository) (word : Bytes) (standing : Standing) : Type 0 where
  pub first : find (stands r) (candidates word) ≡ Some standing.name.items
  pub holds : id_at r standing.name.items ≡ Some (id_of standing.id)

-- the same, or none exists
abbrev pub IsFirstStanding : Repository → Bytes → Option Standing → Type 0
IsFirstStanding r word (Some standing) = IsFirst r word standing
IsFirstStanding r word None = find (stands r) (candidates word) ≡ None

-- why one of the words of these meanings means no commit: a cause of any word comes before the next
-- cause of all words
abbrev pub words_cause : List (Result Id Cause) → Option Cause
words_cause words =
    if list_any is_unknown_word words then Some UnknownWord
    else if list_any is_ambiguous_word words then Some AmbiguousWord
    else if list_any is_unborn_head words then Some UnbornHead
    else if list_any is_not_a_commit words then Some NotACommit else None

-- whether a word of this meaning means this commit
abbrev pub reads_as : Id → Result Id Cause → Option Cause
reads_as id (Ok other) = if id_eq id other then None else Some NotExpected
reads_as id (Err cause) = Some NotExpected
