-- Categories of full names, by their beginnings (gitrepository-layout, "refs"; git-worktree,
-- "Refs").
use Rattle.std.specs.Prelude.{ℕ, ◌≡◌, ◌⊎◌, Bool, true, false, List, [], ◌∷◌, ◌++◌, codes, IsTrue}
use Rattle.bstr.specs.BStr.{bstr_bytes}
use Rattle.gix_object_lines.specs.Bytes.{IsBeginningOf, Lacks}
use Rattle.gix_object_lines.specs.NameTest.{is_capitals}
use Rattle.gix_ref_name.specs.Fronts.{with_front, without_front}
use Rattle.gix_ref_name.specs.declared.category.Category.{Category}
use Rattle.gix_ref_name.specs.declared.category.Category.TheVariants.{Tag, LocalBranch, RemoteBranch, Note, PseudoRef, MainPseudoRef, MainRef, LinkedPseudoRef, LinkedRef, Bisect, Rewritten, WorktreePrivate}

-- the name is below `refs/`, in the folder of this word, and the short name keeps the word
abbrev pub IsBelow : List ℕ → List ℕ → List ℕ → Type 0
IsBelow word name short = (name ≡ codes "refs/" ++ short) × IsBeginningOf word short

-- a name after another worktree's front: the front, and what follows it
abbrev pub IsOfWorktree : List ℕ → List ℕ → List ℕ → Type 0
IsOfWorktree worktree name short =
    (name ≡ codes "worktrees/" ++ (worktree ++ 47 ∷ short)) × Lacks 47 worktree

-- the name has this category, and this short name
abbrev pub Tells : List ℕ → Category → List ℕ → Type 0
Tells name Tag short = name ≡ codes "refs/tags/" ++ short
Tells name LocalBranch short = name ≡ codes "refs/heads/" ++ short
Tells name RemoteBranch short = name ≡ codes "refs/remotes/" ++ short
Tells name Note short = IsBelow (codes "notes/") name short
Tells name Bisect short = IsBelow (codes "bisect/") name short
Tells name Rewritten short = IsBelow (codes "rewritten/") name short
Tells name WorktreePrivate short = IsBelow (codes "worktree/") name short
Tells name PseudoRef short = (name ≡ short) × IsTrue (is_capitals short)
Tells name MainPseudoRef short =
    (name ≡ codes "main-worktree/" ++ short) × IsTrue (is_capitals short)
Tells name MainRef short =
    (name ≡ codes "main-worktree/" ++ short) × IsBeginningOf (codes "refs/") short
Tells name (LinkedPseudoRef worktree) short =
    IsOfWorktree (bstr_bytes worktree) name short × IsTrue (is_capitals short)
Tells name (LinkedRef worktree) short =
    IsOfWorktree (bstr_bytes worktree) name short × IsBeginningOf (codes "refs/") short

abbrev pub HasNoCategory : List ℕ → Type 0
HasNoCategory name = (category : Category) (short : List ℕ) → ¬ Tells name category short

-- the short name of some category, or the whole name if none has it
abbrev pub IsShortName : List ℕ → List ℕ → Type 0
IsShortName name short =
    ((category : Category) × Tells name category short) ⊎ (HasNoCategory name × (name ≡ short))

-- what begins all names of the category, without the name of a linked worktree
abbrev pub prefix_text : Category → List ℕ
prefix_text Tag = codes "refs/tags/"
prefix_text LocalBranch = codes "refs/heads/"
prefix_text RemoteBranch = codes "refs/remotes/"
prefix_text Note = codes "refs/notes/"
prefix_text Bisect = codes "refs/bisect/"
prefix_text Rewritten = codes "refs/rewritten/"
prefix_text WorktreePrivate = codes "refs/worktree/"
prefix_text PseudoRef = []
prefix_text MainPseudoRef = codes "main-worktree/"
prefix_text MainRef = codes "main-worktree/refs/"
prefix_text (LinkedPseudoRef worktree) = codes "worktrees/"
prefix_text (LinkedRef worktree) = codes "worktrees/"

-- what comes between the prefix and the short name
abbrev pub middle_text : Category → List ℕ
middle_text Tag = []
middle_text LocalBranch = []
middle_text RemoteBranch = []
middle_text Note = []
middle_text Bisect = []
middle_text Rewritten = []
middle_text WorktreePrivate = []
middle_text PseudoRef = []
middle_text MainPseudoRef = []
middle_text MainRef = []
middle_text (LinkedPseudoRef worktree) = bstr_bytes worktree ++ codes "/"
middle_text (LinkedRef worktree) = bstr_bytes worktree ++ codes "/refs/"

-- the word that the front ends with and a short name may repeat
abbrev pub repeated_word : Category → List ℕ
repeated_word Tag = []
repeated_word LocalBranch = []
repeated_word RemoteBranch = []
repeated_word Note = codes "notes/"
repeated_word Bisect = codes "bisect/"
repeated_word Rewritten = codes "rewritten/"
repeated_word WorktreePrivate = codes "worktree/"
repeated_word PseudoRef = []
repeated_word MainPseudoRef = []
repeated_word MainRef = codes "refs/"
repeated_word (LinkedPseudoRef worktree) = []
repeated_word (LinkedRef worktree) = codes "refs/"

-- the front and the short name, neither the word nor the front twice
abbrev pub full_text : Category → List ℕ → List ℕ
full_text category short =
    with_front (prefix_text category ++ middle_text category)
    (without_front (repeated_word category) short)

-- names of which each worktree has its own
abbrev pub is_private : Category → Bool
is_private Tag = false
is_private LocalBranch = false
is_private RemoteBranch = false
is_private Note = false
is_private Bisect = true
is_private Rewritten = true
is_private WorktreePrivate = true
is_private PseudoRef = true
is_private MainPseudoRef = true
is_private MainRef = false
is_private (LinkedPseudoRef worktree) = true
is_private (LinkedRef worktree) = false

abbrev pub is_remote : Category → Bool
is_remote Tag = false
is_remote LocalBranch = false
is_remote RemoteBranch = true
is_remote Note = false
is_remote Bisect = false
is_remote Rewritten = false
is_remote WorktreePrivate = false
is_remote PseudoRef = false
is_remote MainPseudoRef = false
is_remote MainRef = false
is_remote (LinkedPseudoRef worktree) = false
is_remote (LinkedRef worktree) = false
