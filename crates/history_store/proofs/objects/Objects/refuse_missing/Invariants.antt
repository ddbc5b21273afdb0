use Rattle.std.proofs.Common.{map, take}
use Rattle.std.specs.List.{All}
use Rattle.history_store.specs.KnownObjects.{HoldsKnown, table_of}
use Rattle.history_store.specs.Puts.{IsStoredAs}
use Rattle.history_texts.specs.Written.{naming_of}
use Rattle.history_store.proofs.objects.Objects.refuse_missing.Given as goal

-- the objects so far are stored
abbrev pub invariant-loop-object : goal.invariant-loop-object
invariant-loop-object g l = HoldsKnown g.F.Files.is_honest g.F.Files.history l.self → All (IsStoredAs (table_of g.F.Files.history l.self)) (take l.object-index (map naming_of l.named))
