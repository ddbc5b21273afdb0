-- The parts of a transaction.
use Rattle.std.specs.Prelude.{Bool, Option}
use Rattle.gix_object_lookup.specs.Table.{Table}
use Rattle.gix_ref_file.specs.Tree.{Tree}
use Rattle.gix_ref_file.specs.declared.files.Files.{Ghosts}
use Rattle.gix_ref_store.specs.Places.{Base}
use Rattle.gix_ref_transaction.specs.Reads.{IsAsPrepared, Prepared, prepared_of}
use Rattle.gix_ref_transaction.specs.declared.transaction.Transaction.{Transaction}

abbrev pub parts : Transaction → Prepared
parts t = prepared_of t.edits.items t.moves.items t.packed

-- this holds if the transaction is as it was prepared
abbrev pub OncePrepared : {F : Type 0} → Ghosts F → Transaction → F
    → (Base → Option Table → Bool → Tree → Type 0) → Type 0
OncePrepared files t old What =
    (b : Base) (packs : Option Table) (removes : Bool) (before : Tree) → files.is_honest old
    → IsAsPrepared b packs removes before (files.history old).tree (parts t)
    → What b packs removes before
