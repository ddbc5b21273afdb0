-- Bytes that took no memory.
use Rattle.std.specs.Prelude.{⊤}
use Rattle.std.specs.declared.borrow.CowSlice.{CowSlice}
use Rattle.std.specs.declared.borrow.CowSlice.TheVariants as slice

abbrev pub IsBorrowed : {X A : Type 0} → CowSlice X A → Type 0
IsBorrowed (slice.Borrowed bytes) = ⊤
IsBorrowed (slice.Owned bytes) = ⊥
