-- What an editor ends as, whose store was lent.
use Rattle.std.specs.Borrow.{Lends, MutBor, Fml, RattleType}
use Rattle.gix_object_editor.specs.declared.tree.editor.state.Editor.{Editor}
use Rattle.gix_object_editor.specs.contracts.tree.editor.state.Editor.{the_row}

abbrev pub with_store : {S : Type 0} → Editor S → S → Editor S
with_store editor store = record editor { store = store }

module _ (S : RattleType) where
  -- the editor ends with the store that the reference leaves
  abbrev pub LendsStore : MutBor (Editor S.Denot) → MutBor S.Denot → Fml
  LendsStore editor store = Lends (the_row S) S editor store (with_store editor.now)
