-- Why lists of edits aren't made ready for a transaction.
use Rattle.std.specs.Prelude.{ℕ, ◌≡◌, List}
use Rattle.gix_ref_edit.specs.Names.{TwiceFault, names_of}
use Rattle.gix_ref_edit.specs.Splits.{Targets, Splits, SplitFault}
use Rattle.gix_ref_edit.specs.declared.change.RefEdit.{RefEdit}
use Rattle.gix_ref_edit.specs.declared.ext.PreProcessError.{PreProcessError}
use Rattle.gix_ref_edit.specs.declared.ext.PreProcessError.TheVariants.{Split, Twice}

-- the edits are as before if they aren't split, and otherwise split
abbrev pub PreFault : Type 0 → Type 0 → Targets → List RefEdit → List RefEdit → PreProcessError
    → Type 0
PreFault honest may_fail read before after (Split error) =
    (after ≡ before) × SplitFault honest may_fail read 4 before error
PreFault honest may_fail read before after (Twice error) =
    (honest → (places : List ℕ) × Splits read before after places)
    × TwiceFault (names_of after) error
