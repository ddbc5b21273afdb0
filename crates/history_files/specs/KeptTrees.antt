-- Trees that are kept by their ids, in front of a store.
use Rattle.std.specs.Prelude.{◌≡◌, ℕ, List, Vec, map, Option, None, Some}
use Rattle.std.specs.BTreeMap.{BTreeMap, get_by, keys}
use Rattle.std.specs.declared.alloc.Global.{Global}
use Rattle.gix_hash.specs.Id.{Id, id_of}
use Rattle.gix_hash.specs.Order.{id_cmp}
use Rattle.gix_hash.specs.declared.object_id.ObjectId.{ObjectId}
use Rattle.gix_object_lookup.specs.Table.{Object, Table}
use Rattle.gix_object_lines.specs.declared.kind.Kind.TheVariants as kinds
use Rattle.history_files.specs.declared.read_trees.ReadTrees.{ReadTrees}

-- contents under the ids of their trees
abbrev pub Contents : Type 0
Contents = BTreeMap ObjectId (Vec ℕ Global)

abbrev pub content_of : Contents → Id → Option (Vec ℕ Global)
content_of contents id = get_by (λ key. id_cmp id (id_of key)) contents

abbrev pub ids_of : Contents → List Id
ids_of contents = map id_of (keys contents)

abbrev pub tree_object : Vec ℕ Global → Object
tree_object content = record { kind = kinds.Tree; content = content.items }

-- what is kept, or else what is in the table
abbrev pub tree_or : Option (Vec ℕ Global) → Option Object → Option Object
tree_or None other = other
tree_or (Some content) other = Some (tree_object content)

abbrev pub kept_or : Contents → Table → Table
kept_or contents table id = tree_or (content_of contents id) (table id)

-- each content is that of its tree in the table
abbrev pub AreKept : Table → Contents → Type 0
AreKept table contents = (key : ObjectId) (content : Vec ℕ Global)
    → content_of contents (id_of key) ≡ Some content
    → table (id_of key) ≡ Some (tree_object content)

-- each tree that was read is the table's
abbrev pub AreOf : Table → ReadTrees → Type 0
AreOf table read = AreKept table read.contents
