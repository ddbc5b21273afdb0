-- Rows of commits: which rows make a graph, and why others do not.
use Rattle.std.specs.Prelude.{◌≡◌, ◌⊎◌, ◌+◌, ◌<◌, ◌≤◌, ℕ, List, [], Contains, ⊤}
use Rattle.gix_hash.specs.declared.object_id.ObjectId.{ObjectId}
use Rattle.gix_traverse_graph.specs.Order.{At}
use Rattle.gix_traverse_graph.specs.declared.rows.Row.{Row}
use Rattle.gix_traverse_graph.specs.declared.rows.RowsError.{RowsError}
use Rattle.gix_traverse_graph.specs.declared.rows.RowsError.TheVariants.{Twice, MissingParent, BadGeneration, Memory}

-- one of the rows is this commit's
abbrev pub Holds : List Row → ObjectId → Type 0
Holds rows id = (row : Row) × Contains rows row × (row.id ≡ id)

-- each of these commits has a row
abbrev pub AllHeld : List Row → List ObjectId → Type 0
AllHeld rows xs = (x : ObjectId) → Contains xs x → Holds rows x

-- no commit has two rows
abbrev pub IsOnce : List Row → Type 0
IsOnce rows = (j k : ℕ) (r s : Row) → At rows j r → At rows k s → r.id ≡ s.id → j ≡ k

-- each parent of the row has a row
abbrev pub HasParents : List Row → Row → Type 0
HasParents rows row = (p : ObjectId) → Contains row.parents.items p → Holds rows p

-- the row has this parent, which has no row
abbrev pub LacksParent : List Row → Row → ObjectId → Type 0
LacksParent rows row p = Contains row.parents.items p × (¬ Holds rows p)

-- of the generations of these commits' rows the greatest, and 0 of none
pub record IsGreatest (rows : List Row) (ids : List ObjectId) (n : ℕ) : Type 0 where
  pub none_above : (s : Row) → Contains rows s → Contains ids s.id → s.generation ≤ n
  pub attained : ((ids ≡ []) × (n ≡ 0))
      ⊎ ((s : Row) × Contains rows s × Contains ids s.id × (s.generation ≡ n))

-- the greatest generation of a row
abbrev pub generation_limit : ℕ
generation_limit = 1_073_741_823

-- the generation of a row: 1 without parents, otherwise one more than the parents' greatest, up to
-- the limit
pub record HasGeneration (rows : List Row) (row : Row) : Type 0 where
  pub greatest : ℕ
  pub is_greatest : IsGreatest rows row.parents.items greatest
  pub one_more : row.generation ≡ greatest + 1
  pub within : row.generation ≤ generation_limit

-- rows that make a graph
pub record AreRows (rows : List Row) : Type 0 where
  pub once : IsOnce rows
  pub parents : (row : Row) → Contains rows row → HasParents rows row
  pub generations : (row : Row) → Contains rows row → HasGeneration rows row

-- why rows make no graph
abbrev pub IsRowsFault : List Row → RowsError → Type 0
IsRowsFault rows (Twice id) =
    (j : ℕ) × (k : ℕ) × (r : Row) × (s : Row) × (j < k) × At rows j r × At rows k s × (r.id ≡ id)
    × (s.id ≡ id)
IsRowsFault rows (MissingParent id p) =
    IsOnce rows × ((row : Row) × Contains rows row × (row.id ≡ id) × LacksParent rows row p)
IsRowsFault rows (BadGeneration id) =
    IsOnce rows × ((r : Row) → Contains rows r → HasParents rows r)
    × ((row : Row) × Contains rows row × (row.id ≡ id) × (¬ HasGeneration rows row))
IsRowsFault rows Memory = ⊤
