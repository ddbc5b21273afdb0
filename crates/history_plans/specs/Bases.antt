-- What a commit is based on, and why it can't be based on it.
use Rattle.std.specs.Prelude.{◌≡◌, ⊤, ℕ, List, Vec, [], ◌∷◌, map, length, nat_lt, Option, Some, None, Result, MatchOption, option_map, option_and_then, if◌then◌else◌}
use Rattle.std.specs.List.{AllByRecursion}
use Rattle.std.specs.declared.alloc.Global.{Global}
use Rattle.history_model.specs.Bytes.{Bytes, has_twice}
use Rattle.history_model.specs.Repository as plain
use Rattle.history_model.specs.Repository.{HoldsCommit, id_at}
use Rattle.history_model.specs.Forms.{max_parents}
use Rattle.history_model.specs.Words.{commit_of}
use Rattle.history_model.specs.Commands as commands
use Rattle.history_model.specs.Meaning.{branch_or_name, parents_of}
use Rattle.history_model.specs.declared.Cause.{Cause}
use Rattle.history_model.specs.declared.Cause.TheVariants.{NoSuchName, Taken, TooManyParents, DuplicateParent}
use Rattle.gix_hash.specs.Id.{Id, id_of}
use Rattle.gix_hash.specs.Order.{id_eq}
use Rattle.history_repository.specs.Meanings.{HasRootIn, commit_or_cause, meaning_of, reads_as}
use Rattle.history_repository.specs.Meant.{HasRoot, peeled_id}
use Rattle.history_repository.specs.TreesBefore.{IsTreeBefore}
use Rattle.history_repository.specs.declared.stored.PeeledCommit.{PeeledCommit}
use Rattle.history_repository.specs.declared.words.WordMeaning.{WordMeaning}
use Rattle.history_plans.specs.declared.base.Base.{Base}
use Rattle.history_plans.specs.declared.base.Expected.{Expected}
use Rattle.history_plans.specs.declared.base.Expected.TheVariants.{Any, New, At}

-- the same is expected, its word read
abbrev pub IsExpected : plain.Repository → commands.Expect → Expected → Type 0
IsExpected r commands.Any Any = ⊤
IsExpected r commands.New New = ⊤
IsExpected r (commands.At word) (At meaning) = meaning_of meaning ≡ commit_or_cause r word
IsExpected r _ _ = ⊥

-- what the word of the expectation means, if there is one
abbrev pub expected_meanings : Expected → List (Result Id Cause)
expected_meanings Any = []
expected_meanings New = []
expected_meanings (At meaning) = meaning_of meaning ∷ []

-- why what a name holds isn't as expected
abbrev pub held_cause : Expected → Option Id → Option Cause
held_cause Any held = None
held_cause New None = None
held_cause New (Some id) = Some Taken
held_cause (At meaning) None = Some NoSuchName
held_cause (At meaning) (Some id) = reads_as id (meaning_of meaning)

-- why these can't be a commit's parents
abbrev pub parents_cause : List Id → Option Cause
parents_cause ids =
    if nat_lt max_parents (length ids) then Some TooManyParents else if has_twice id_eq ids
    then Some DuplicateParent else None

-- the word of an edit's line, if it has one, and the commit that it means
abbrev pub line_word : commands.EditLine → Option Bytes
line_word (commands.GraftLine path word source) = Some word
line_word _ = None

abbrev pub source_id : plain.Repository → commands.EditLine → Option Id
source_id r line = option_and_then (commit_of r) (line_word line)

-- the words were read as what they mean, with the roots of their commits, if those are known
abbrev pub AreWordsRead : plain.Repository → List (Vec ℕ Global) → List WordMeaning → Type 0
AreWordsRead r words meanings =
    (map meaning_of meanings ≡ map (λ word. commit_or_cause r word.items) words)
    × AllByRecursion (HasRootIn r) meanings

-- the root is that of the commit of an edit's word, if it is known
abbrev pub IsRootedWord : plain.Repository → Option WordMeaning → Type 0
IsRootedWord r word = MatchOption word ⊤ (HasRootIn r)

abbrev pub IsRootedSource : plain.Repository → Option PeeledCommit → Type 0
IsRootedSource r source = MatchOption source ⊤ (HasRoot r)

-- the word of an edit's line was read as what it means, and so were those of lines
abbrev pub IsSourceRead : plain.Repository → commands.EditLine → Option WordMeaning → Type 0
IsSourceRead r line source =
    (option_map meaning_of source ≡ option_map (commit_or_cause r) (line_word line))
    × IsRootedWord r source

abbrev pub AreSourcesRead : plain.Repository → List commands.EditLine → List (Option WordMeaning)
    → Type 0
AreSourcesRead r lines sources =
    (map (option_map meaning_of) sources
    ≡ map (λ line. option_map (commit_or_cause r) (line_word line)) lines)
    × AllByRecursion (IsRootedWord r) sources

-- the commit of an edit's word is stored, and has its root, if that is known
abbrev pub IsHeldSource : plain.Repository → Option PeeledCommit → Type 0
IsHeldSource r source =
    MatchOption source ⊤ (λ commit. HoldsCommit r (peeled_id commit) × HasRoot r commit)

-- the same commit, with its root, if that is known; and the same commits
abbrev pub IsRootedAs : plain.Repository → Option PeeledCommit → Option PeeledCommit → Type 0
IsRootedAs r source rooted =
    (option_map peeled_id rooted ≡ option_map peeled_id source) × IsRootedSource r rooted

abbrev pub AreRootedSources : plain.Repository → List (Option PeeledCommit)
    → List (Option PeeledCommit) → Type 0
AreRootedSources r sources roots =
    (map (option_map peeled_id) roots ≡ map (option_map peeled_id) sources)
    × AllByRecursion (IsRootedSource r) roots

-- the name that the commit moves, what it holds, the commit's parents, the tree of the first, and
-- of each edit the commit of its word, if it has one
pub record IsCommitBase (r : plain.Repository) (sent : commands.CommitCommand)
    (base : Base) : Type 0 where
  pub name : base.name.items ≡ branch_or_name r sent.name
  pub held : option_map id_of base.held ≡ id_at r (branch_or_name r sent.name)
  pub parents : map id_of base.parents.items ≡ parents_of r sent
  pub tree : IsTreeBefore r (parents_of r sent) base.tree
  pub sources : map (option_map peeled_id) base.sources.items ≡ map (source_id r) sent.edits
  pub rooted : AllByRecursion (IsRootedSource r) base.sources.items
