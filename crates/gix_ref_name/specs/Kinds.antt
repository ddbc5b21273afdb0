-- Which categories a name doesn't have.
use Rattle.std.specs.Prelude.{ℕ, List, codes}
use Rattle.gix_object_lines.specs.Bytes.{IsBeginningOf}
use Rattle.bstr.specs.declared.bstr.BStr.{BStr}
use Rattle.gix_ref_name.specs.Categories.{Tells}
use Rattle.gix_ref_name.specs.declared.category.Category.{Category}
use Rattle.gix_ref_name.specs.declared.category.Category.TheVariants.{Tag, LocalBranch, RemoteBranch, Note, PseudoRef, MainPseudoRef, MainRef, LinkedPseudoRef, LinkedRef, Bisect, Rewritten, WorktreePrivate}

-- no short name goes with the category
abbrev pub HasNot : List ℕ → Category → Type 0
HasNot name category = (short : List ℕ) → ¬ Tells name category short

-- neither a tag nor a branch
pub record SharedNone (name : List ℕ) : Type 0 where
  pub tag : HasNot name Tag
  pub local : HasNot name LocalBranch
  pub remote : HasNot name RemoteBranch

-- neither a note nor one of the names below `refs/` that each worktree has of its own
pub record PrivateNone (name : List ℕ) : Type 0 where
  pub note : HasNot name Note
  pub bisect : HasNot name Bisect
  pub rewritten : HasNot name Rewritten
  pub worktree : HasNot name WorktreePrivate

pub record MainNone (name : List ℕ) : Type 0 where
  pub pseudo : HasNot name MainPseudoRef
  pub refs : HasNot name MainRef

pub record LinkedNone (name : List ℕ) : Type 0 where
  pub pseudo : (worktree : BStr) → HasNot name (LinkedPseudoRef worktree)
  pub refs : (worktree : BStr) → HasNot name (LinkedRef worktree)

-- none of the four words begins the text
pub record NoWord (text : List ℕ) : Type 0 where
  pub note : ¬ IsBeginningOf (codes "notes/") text
  pub bisect : ¬ IsBeginningOf (codes "bisect/") text
  pub rewritten : ¬ IsBeginningOf (codes "rewritten/") text
  pub worktree : ¬ IsBeginningOf (codes "worktree/") text

-- the category's word begins the text
abbrev pub HasWord : Category → List ℕ → Type 0
HasWord Note text = IsBeginningOf (codes "notes/") text
HasWord Bisect text = IsBeginningOf (codes "bisect/") text
HasWord Rewritten text = IsBeginningOf (codes "rewritten/") text
HasWord WorktreePrivate text = IsBeginningOf (codes "worktree/") text
HasWord Tag text = ⊥
HasWord LocalBranch text = ⊥
HasWord RemoteBranch text = ⊥
HasWord PseudoRef text = ⊥
HasWord MainPseudoRef text = ⊥
HasWord MainRef text = ⊥
HasWord (LinkedPseudoRef worktree) text = ⊥
HasWord (LinkedRef worktree) text = ⊥
