-- The sizes of fields.
use Rattle.std.specs.Prelude.{ℕ, List, take}
use Rattle.history_word.specs.declared.sizes.Sizes.{Sizes}

abbrev pub listed : Sizes → List ℕ
listed sizes = take sizes.count sizes.items
