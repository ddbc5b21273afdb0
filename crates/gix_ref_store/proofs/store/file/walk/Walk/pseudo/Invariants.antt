use Rattle.std.proofs.Common.{◌<◌, ℕ, [], map, Vec}
use Rattle.std.specs.BTreeMap.{keys}
use Rattle.std.specs.Prelude.{IsTrue}
use Rattle.std.proofs.Math.ListN.{get_or}
use Rattle.std.specs.declared.alloc.Global.{Global}
use Rattle.gix_object_lines.specs.NameTest.{is_full_name}
use Rattle.gix_ref_store.specs.Listings.{is_pseudo}
use Rattle.gix_ref_store.specs.OwnFiles.{KnowsFiles}
use Rattle.gix_ref_store.specs.Stores.{base_of}
use Rattle.gix_ref_store.specs.Walks.{Keeps, BringsAsked, has}
use Rattle.gix_ref_store.proofs.store.file.walk.Walk.pseudo.Given as goal

-- the names listed so far are there
abbrev pub invariant-loop-name : goal.invariant-loop-name
invariant-loop-name g l =
    Keeps (keys l.fn.names) (keys l.names) × BringsAsked is_pseudo (keys l.fn.names) (keys l.names)
    × ((i : ℕ) → i < l.name-index → IsTrue (is_full_name (get_or (map (λ (name : Vec ℕ Global). name.items) l.name-items) i [])) → IsTrue (is_pseudo (get_or (map (λ (name : Vec ℕ Global). name.items) l.name-items) i []))
    → IsTrue (has (keys l.names) (get_or (map (λ (name : Vec ℕ Global). name.items) l.name-items) i [])))
    × (g.F.Files.is_honest l.self.store.now.files → let tree = (g.F.Files.history l.self.store.now.files).tree in
    KnowsFiles (base_of l.self.store.now) tree l.fn.names.entries → KnowsFiles (base_of l.self.store.now) tree l.names.entries)
