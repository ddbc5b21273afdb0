use Rattle.std.proofs.Common.{◌-◌, ◌<◌, ℕ, [], length, map, Vec}
use Rattle.std.proofs.Math.ListN.{get_or}
use Rattle.std.specs.BTreeMap.{keys}
use Rattle.std.specs.declared.alloc.Global.{Global}
use Rattle.gix_ref_file.specs.Tree.{max_path, under}
use Rattle.gix_ref_store.specs.Asks.{is_asked}
use Rattle.gix_ref_store.specs.OwnFiles.{KnowsFiles}
use Rattle.gix_ref_store.specs.Stores.{base_of}
use Rattle.gix_ref_store.specs.Walks.{Keeps, BringsAsked}
use Rattle.gix_ref_store.proofs.WalkSteps.{IsGathered}
use Rattle.gix_ref_store.proofs.store.file.walk.Walk.+below.Given as goal

-- a folder within the one walked over has a longer path
abbrev pub decreases-below : goal.decreases-below
decreases-below g l = max_path - length l.folder.now

-- what is listed so far is gathered
abbrev pub invariant-loop-name : goal.invariant-loop-name
invariant-loop-name g l =
    Keeps (keys l.fn.names) (keys l.names) × BringsAsked (is_asked l.self.asked) (keys l.fn.names) (keys l.names)
    × (g.F.Files.is_honest l.self.store.now.files → (i : ℕ) → i < l.name-index
    → IsGathered (g.F.Files.history l.self.store.now.files).tree l.self.base.now (is_asked l.self.asked) (keys l.names) (under l.place.items (get_or (map (λ (name : Vec ℕ Global). name.items) l.name-items) i [])))
    × (g.F.Files.is_honest l.self.store.now.files → let tree = (g.F.Files.history l.self.store.now.files).tree in
    KnowsFiles (base_of l.self.store.now) tree l.fn.names.entries → KnowsFiles (base_of l.self.store.now) tree l.names.entries)
