-- A switch by a transaction: its moments, and its end.
use Rattle.std.proofs.Common.{inl, inr, List, [], ◌∷◌, sym, subst, Option}
use Rattle.gix_ref_file.specs.History.{Adds, History}
use Rattle.gix_ref_file.specs.Tree.{Tree}
use Rattle.gix_ref_file.proofs.Histories.{adds_both, adds_weaker}
use Rattle.gix_ref_file.proofs.Rooted.{adds_now}
use Rattle.gix_ref_edit.specs.declared.change.RefEdit.{RefEdit}
use Rattle.gix_ref_lock.specs.declared.packed.Transaction.{Transaction}
use Rattle.gix_ref_lock.specs.Committing.{OnTheWay}
use Rattle.gix_ref_lock.specs.Moments.{SameButLocks}
use Rattle.gix_ref_lock.specs.Needs.{log_paths}
use Rattle.gix_ref_lock.specs.declared.act.Move.{Move}
use Rattle.gix_ref_store.specs.RefStates.{RefState}
use Rattle.gix_ref_transaction.specs.Paths.{places_of}
use Rattle.gix_ref_transaction.specs.Plans.{FoldersOfEdits}
use Rattle.gix_ref_way.specs.Ways.{FoldersOnlyOf}
use Rattle.history_model.specs.Bytes.{Bytes}
use Rattle.history_model.specs.Repository.{Repository}
use Rattle.history_layout.specs.SwitchSteps.{HeadOnTheWay}
use Rattle.history_layout.specs.TreeHalves.{HoldsNames}
use Rattle.history_edits.specs.Bridges.{root_base}
use Rattle.history_edits.specs.EditCommits.{HasNameFolders}
use Rattle.history_edits.specs.SwitchPlans.{AsksHead, IsHeadReady}
use Rattle.history_edits.proofs.HeadCommitted.{folders_then, folders_while, head_prepares, head_switches}
use Rattle.history_edits.proofs.Unsplit.{unsplit_stay}

-- what each moment has the present has
now_too : (P : Tree → Type 0) (old new : History) → Adds P old new → P old.tree → P new.tree
now_too P old new adds before = elim (adds_now P old new adds) [ inl same ↦ subst P (sym same) before | inr now ↦ now ]

-- while it is prepared
pub head_preparing : (r : Repository) (from to : Bytes) (read : Bytes → RefState) (edit : RefEdit) (old mid : History) → HoldsNames old.tree r → AsksHead from to edit → Adds (SameButLocks old.tree) old mid
    → Adds (FoldersOfEdits read (root_base r.kind) (edit ∷ []) old.tree) old mid → Adds (HeadOnTheWay to old.tree) old mid × HasNameFolders mid.tree
head_preparing r from to read edit old mid holds asks same only = (
  adds_weaker old mid (adds_both old mid same only) (λ t (stays, folders). head_prepares to old.tree t stays (named t folders)),
  now_too HasNameFolders old mid (adds_weaker old mid only named) holds.folders,
)
  where
    named : (t : Tree) → FoldersOfEdits read (root_base r.kind) (edit ∷ []) old.tree t → HasNameFolders t
    named t (split, is_split, folders) =
        folders_while r.kind from to edit old.tree t asks
        (subst (λ es. FoldersOnlyOf (places_of (root_base r.kind) es) old.tree t) (unsplit_stay read (edit ∷ []) split (asks.plain, tt) is_split) folders) holds.folders

-- while it is committed
pub head_committing : (to : Bytes) (old : Tree) (mid new : History) (t : Option Transaction) (moves : List Move) → IsHeadReady to old mid.tree t moves → HasNameFolders mid.tree → Adds (OnTheWay t moves mid.tree) mid new
    → Adds (FoldersOnlyOf (log_paths moves) mid.tree) mid new → Adds (HeadOnTheWay to old) mid new × HasNameFolders new.tree
head_committing to old mid new t moves ready before way only = (
  adds_weaker mid new (adds_both mid new way only) (λ tree (goes, folders). head_switches to old mid.tree tree t moves ready goes (named tree folders)),
  now_too HasNameFolders mid new (adds_weaker mid new only named) before,
)
  where
    named : (tree : Tree) → FoldersOnlyOf (log_paths moves) mid.tree tree → HasNameFolders tree
    named tree folders = folders_then to old mid.tree tree t moves ready folders before
