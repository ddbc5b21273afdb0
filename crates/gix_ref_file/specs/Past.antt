-- The earlier trees, found by undoing the changes.
use Rattle.std.specs.Prelude.{List, [], ◌∷◌, take, option_map}
use Rattle.std.specs.FinMap.{empty, insert, get}
use Rattle.gix_ref_file.specs.Tree.{Tree, file, bytes_at}
use Rattle.gix_ref_file.specs.History.{History}
use Rattle.gix_ref_file.specs.Nodes.{node_of, with_node}
use Rattle.gix_ref_file.specs.declared.memory.MemoryFiles.{MemoryFiles}
use Rattle.gix_ref_file.specs.declared.memory.record.Undo.{Undo}
use Rattle.gix_ref_file.specs.declared.memory.record.Undo.TheVariants.{Restore, Return, Shorten}

-- the tree before a change, from the tree after it
abbrev pub undone : Undo → Tree → Tree
undone (Restore path before) tree = with_node tree path.items (option_map node_of before)
undone (Return from to replaced) tree =
    with_node (with_node tree to.items (option_map node_of replaced)) from.items
    (get tree to.items)
undone (Shorten path len) tree = insert tree path.items (file (take len (bytes_at tree path.items)))

-- the tree before these changes, of which the first is the oldest
abbrev pub undone_all : List Undo → Tree → Tree
undone_all [] tree = tree
undone_all (undo ∷ undos) tree = undone undo (undone_all undos tree)

-- the trees before each of them
abbrev pub trees_before : List Undo → Tree → List Tree
trees_before [] tree = []
trees_before (undo ∷ undos) tree = undone_all (undo ∷ undos) tree ∷ trees_before undos tree

-- the trees that files in memory have had
abbrev pub history_of : MemoryFiles → History
history_of files = record { past = trees_before files.past.items files.nodes; tree = files.nodes }

-- nothing is there, and nothing was
abbrev pub start : History
start = record { past = []; tree = empty }
