-- What the entries of a map represent.
use Rattle.std.specs.Prelude.{◌≡◌, ℕ, T, List, [], ◌∷◌, Option, Some, None, Vec, refl}
use Rattle.std.specs.Coded.{Coded, code_by, coded_ℕ, coded_list, coded_option}
use Rattle.std.specs.FinMap as finite
use Rattle.std.specs.FinMap.{from_sorted, is_sorted, insert, remove}
use Rattle.std.specs.declared.alloc.Global.{Global}
use Rattle.gix_ref_file.specs.Tree.{Tree, Node, file, folder, path_cmp}
use Rattle.gix_ref_file.specs.declared.nodes.Entry.{Entry}
use Rattle.gix_ref_file.specs.declared.nodes.Entry.TheVariants.{File, Folder}

-- what an entry represents
abbrev pub node_of : Entry → Node
node_of (File bytes) = file bytes.items
node_of Folder = folder

-- paths and what is there
abbrev pub nodes_of : List (Vec ℕ Global × Entry) → List (List ℕ × Node)
nodes_of [] = []
nodes_of (e ∷ es) = (e.0.items, node_of e.1) ∷ nodes_of es

-- the tree that entries in order represent
abbrev pub tree_of : List (Vec ℕ Global × Entry) → Tree
tree_of es = from_sorted (nodes_of es)

-- the paths ascend
abbrev pub IsInOrder : List (Vec ℕ Global × Entry) → Type 0
IsInOrder es = T (is_sorted path_cmp (nodes_of es))

-- the tree with this at a path, or nothing
abbrev pub with_node : Tree → List ℕ → Option Node → Tree
with_node tree path (Some node) = insert tree path node
with_node tree path None = remove tree path

-- a code for trees
abbrev pub bytes_or_none : Node → Option (List ℕ)
bytes_or_none (file bytes) = Some bytes
bytes_or_none folder = None

abbrev pub node_from : Option (List ℕ) → Node
node_from (Some bytes) = file bytes
node_from None = folder

pub node_from-bytes_or_none : (n : Node) → node_from (bytes_or_none n) ≡ n
node_from-bytes_or_none (file bytes) = refl
node_from-bytes_or_none folder = refl

abbrev pub coded_node : Coded Node
coded_node =
    code_by (Option (List ℕ))
    (coded_option (coded_list coded_ℕ)) bytes_or_none node_from node_from-bytes_or_none

abbrev pub coded_tree : Coded Tree
coded_tree = finite.code (coded_list coded_ℕ) coded_node
