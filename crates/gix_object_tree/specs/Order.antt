-- Git's order of entries: by the bytes of their names, a tree's name as if `/` followed it
-- (git-mktree sorts so); and then by mode, name and id.
use Rattle.std.specs.Prelude.{ℕ, Bool, List, [], ◌∷◌, ◌++◌, if◌then◌else◌}
use Rattle.std.specs.declared.cmp.Ordering.{Ordering}
use Rattle.std.specs.Ordering.{nat_cmp, bool_cmp, on, then_cmp}
use Rattle.gix_hash.specs.Order.{digits_cmp, id_cmp}
use Rattle.gix_object_tree.specs.Entry.{Item}
use Rattle.gix_object_tree.specs.Mode.{is_tree_value}

-- the name by which an entry is sorted
abbrev pub git_key : List ℕ → Bool → List ℕ
git_key name is_tree = if is_tree then name ++ 47 ∷ [] else name

-- whether the mode's first bits are a tree's
abbrev pub is_tree : Item → Bool
is_tree item = is_tree_value item.mode.value

abbrev pub item_key : Item → List ℕ
item_key item = git_key item.name (is_tree item)

-- the order of bytes, as that of digits
abbrev pub name_cmp : List ℕ → Bool → List ℕ → Bool → Ordering
name_cmp a a_is_tree b b_is_tree = digits_cmp (git_key a a_is_tree) (git_key b b_is_tree)

abbrev pub mode_cmp : Item → Item → Ordering
mode_cmp =
    then_cmp (on (λ (a : Item). a.mode.value) nat_cmp) (on (λ (a : Item). a.mode.padded) bool_cmp)

abbrev pub item_cmp : Item → Item → Ordering
item_cmp =
    then_cmp
    (then_cmp (then_cmp (on item_key digits_cmp) mode_cmp) (on (λ (a : Item). a.name) digits_cmp))
    (on (λ (a : Item). a.id) id_cmp)
