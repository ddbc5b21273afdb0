use Rattle.std.proofs.Common.{[], option_map, take, unwrap_or}
use Rattle.gix_ref_format.specs.PackedKept.{kept}
use Rattle.history_edits.specs.PackPlans.{AsksToPack}
use Rattle.history_store.specs.Packed.{records_of}
use Rattle.history_store.proofs.names.Names.edits_to_pack.Given as goal

-- the edits so far are those of the names so far
abbrev pub invariant-loop-named : goal.invariant-loop-named
invariant-loop-named g l =
    g.F.Files.is_honest l.self.store.files
    → AsksToPack (g.F.Files.history l.self.store.files).tree (unwrap_or (option_map kept l.self.packed) []) (records_of (take l.named-index l.names)) l.edits.items
