-- What is where a stored entry was put.
use Rattle.std.proofs.Common.{ℕ, ◌≡◌, ◌⊎◌, inr, true, false, List, [], ◌∷◌, ◌++◌, Some, None, is_some, sym, ap, subst, ◌∙◌, if◌then◌else◌}
use Rattle.std.specs.Prelude.{Result, Ok, Err, OnOk, IfErr}
use Rattle.std.proofs.lemmas.List.{append-nil}
use Rattle.gix_object_tree.specs.Entry.{Item}
use Rattle.gix_object_tree.specs.Mode.{is_tree_value}
use Rattle.gix_object_lookup.specs.Table.{Table}
use Rattle.gix_object_nodes.specs.Files.{IsEmptyTree, Path, Leaf, FileMap, Trees, is_null, through, leaf_of, tree_under, unless_tree, named, files_of_entry, files_of_tree, behind, put, put_at}
use Rattle.gix_hash.specs.declared.object_id.ObjectId.{ObjectId}
use Rattle.gix_object_tree.specs.declared.tree.mode.EntryKind.{EntryKind}
use Rattle.gix_object_editor.specs.declared.tree.editor.state.Editor.{Editor}
use Rattle.gix_object_editor.specs.Editor.{files_of, leaf_of_kind, names_of}
use Rattle.gix_object_editor.specs.Entries.{MayStand}
use Rattle.gix_object_editor.specs.Outcomes.{Puts, Grafts, IsKept, MayGraft}
use Rattle.gix_object_editor.specs.declared.tree.editor.error.Error.{Error}
use Rattle.gix_hash.specs.Id.{id_of}
use Rattle.std.specs.Borrow.{Bor}
use Rattle.gix_object_editor.proofs.Raised.{begins_behind}

put_below : (trees : Trees) (p rest : Path) (leaf : Leaf) (files : FileMap) → put trees p leaf files (p ++ rest) ≡ files_of_entry trees rest leaf
put_below trees p rest leaf files = ap (λ o. put_at trees leaf o (if is_some (behind (p ++ rest) p) then None else files (p ++ rest))) (begins_behind p rest)

-- an entry that names a tree of the table has that tree's files
folder_files : (trees : Trees) (leaf : Leaf) (items : List Item) (rest : Path) → is_tree_value leaf.mode.value ≡ true → is_null leaf.id ≡ false → trees leaf.id ≡ Some items
    → files_of_entry trees rest leaf ≡ files_of_tree trees items rest
folder_files trees leaf items [] tree some stored =
    ap (λ b. if b then None else unless_tree (tree_under trees leaf) leaf) some
    ∙ ap (λ b. unless_tree (if b then trees leaf.id else None) leaf) tree
    ∙ ap (λ o. unless_tree o leaf) stored
folder_files trees leaf items (n ∷ rest) tree some stored =
    ap (λ b. if b then None else through (tree_under trees leaf) (λ all. through (named n all) (λ item. files_of_entry trees rest (leaf_of item)))) some
    ∙ ap (λ b. through (if b then trees leaf.id else None) (λ all. through (named n all) (λ item. files_of_entry trees rest (leaf_of item)))) tree
    ∙ ap (λ o. through o (λ all. through (named n all) (λ item. files_of_entry trees rest (leaf_of item)))) stored

-- one that names none is a file
file_alone : (trees : Trees) (leaf : Leaf) → is_tree_value leaf.mode.value ≡ false → is_null leaf.id ≡ false → files_of_entry trees [] leaf ≡ Some leaf
file_alone trees leaf file some =
    ap (λ b. if b then None else unless_tree (tree_under trees leaf) leaf) some
    ∙ ap (λ b. unless_tree (if b then trees leaf.id else None) leaf) file

-- what is put is grafted
pub grafts_put : {S X E : Type 0} (is_honest : S → Type 0) (table : S → Table) (p : Path) (kind : EntryKind) (id : ObjectId) (old new : Editor S) (r : Result X E)
    → OnOk r (Puts is_honest table p (leaf_of_kind kind id) old new) → OnOk r (Grafts is_honest table p kind id old new)
grafts_put is_honest table p kind id old new (Err e) h = tt
grafts_put is_honest table p kind id old new (Ok x) h =
    let leaf : Leaf = leaf_of_kind kind id in
    let puts : Puts is_honest table p leaf old new = h in
    record {
      put = puts;
      folder = λ honest trees has tree some items stored rest. puts.files honest trees has (p ++ rest) ∙ put_below trees p rest leaf (files_of trees old) ∙ folder_files trees leaf items rest tree some stored;
      file = λ honest trees has file some.
          puts.files honest trees has p ∙ ap (λ q. put trees p leaf (files_of trees old) q) (sym (append-nil p)) ∙ put_below trees p [] leaf (files_of trees old) ∙ file_alone trees leaf file some;
    }

-- what an upsert keeps, a graft does
pub kept_graft : {S X : Type 0} (is_honest : S → Type 0) (table : S → Table) (path : List (Bor (List ℕ))) (kind : EntryKind) (id : ObjectId) (old new : Editor S) (r : Result X Error) → (IsEmptyTree (id_of id) → ⊥)
    → IsKept is_honest table path (λ has. MayStand has (names_of path) (leaf_of_kind kind id)) old new r → IsKept is_honest table path (MayGraft (names_of path) kind id) old new r
kept_graft is_honest table path kind id old new r some kept = record {
  each = λ h has down fits each. kept.each h has down (fits some) each;
  store = kept.store;
  counted = kept.counted;
  as_read = kept.as_read;
  named = kept.named;
  full = kept.full;
  unchanged = kept.unchanged;
  same_entries = kept.same_entries;
  still = kept.still;
}

-- a refusal that is one of two
pub or_other : {X E : Type 0} (r : Result X E) (P Q : E → Type 0) → IfErr r P → IfErr r (λ e. Q e ⊎ P e)
or_other (Ok x) P Q h = tt
or_other (Err e) P Q h = inr h

-- what isn't refused so
pub not_so : {X E : Type 0} (r : Result X E) (P : E → Type 0) (e : E) → IfErr r P → (P e → ⊥) → r ≡ Err e → ⊥
not_so r P e h never is = never (subst (λ x. IfErr x P) is h)
