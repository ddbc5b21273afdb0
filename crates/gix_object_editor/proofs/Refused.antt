-- What an edit keeps: of a path that is refused while trees are opened, or once no memory is left, and
-- of one that isn't refused.
use Rattle.std.proofs.Common.{ℕ, ◌≡◌, ◌≤◌, ◌+◌, List, Err, Ok, inr, length, sym, subst}
use Rattle.std.specs.Prelude.{Result}
use Rattle.std.specs.Borrow.{Bor}
use Rattle.gix_object_lookup.specs.Table.{Table}
use Rattle.gix_object_nodes.specs.Files.{NamesAreFull}
use Rattle.gix_object_nodes.specs.Nodes.{slots_of}
use Rattle.gix_object_nodes.specs.Marks.{marks_of}
use Rattle.gix_object_editor.specs.declared.tree.editor.state.Editor.{Editor}
use Rattle.gix_object_editor.specs.declared.tree.editor.error.Error.{Error}
use Rattle.gix_object_editor.specs.Editor.{names_of, IsAsRead, OverStored}
use Rattle.gix_object_editor.specs.Entries.{Property}
use Rattle.gix_object_editor.specs.Grown.{Grows}
use Rattle.gix_object_editor.specs.Outcomes.{IsKept, KeepsEach}
use Rattle.gix_object_editor.proofs.Changes.{opened_changed}
use Rattle.gix_object_editor.proofs.Entered.{none_met}

-- the editor is another's
pub kept_as : {S X : Type 0} {is_honest : S → Type 0} {table : S → Table} {path : List (Bor (List ℕ))} {May : Property → Type 0} {old new other : Editor S} {r : Result X Error} → new ≡ other → IsKept is_honest table path May old other r
    → IsKept is_honest table path May old new r
kept_as {is_honest = is_honest} {table = table} {path = path} {May = May} {old = old} {r = r} same kept = subst (λ e. IsKept is_honest table path May old e r) (sym same) kept

module _ {S X : Type 0} (is_honest : S → Type 0) (table : S → Table) (path : List (Bor (List ℕ))) (May : Property → Type 0) (old new : Editor S) (store : new.store ≡ old.store) (counted : new.lookups ≤ old.lookups + length path)
    (full : NamesAreFull (names_of path)) where
  -- it was refused, and no more was done than to open trees
  pub stopped : (error : Error) → Grows (is_honest old.store) (table old.store) old.nodes.items new.nodes.items → IsKept {X = X} is_honest table path May old new (Err error)
  stopped error grows = record {
    each = λ h has down may each. grows.each h has down each;
    store = store;
    counted = counted;
    as_read = grows.as_read;
    named = tt;
    full = inr full;
    unchanged = λ honest trees has q. grows.opened.files honest trees has q 0 old.forest.rooted;
    same_entries = λ honest trees has q. grows.opened.entries honest trees has none_met q 0 old.forest.rooted;
    still = λ tree is. opened_changed (slots_of old.nodes.items) (slots_of new.nodes.items) (marks_of old.nodes.items) (marks_of new.nodes.items) (length old.nodes.items) (length new.nodes.items) grows.opened.forest grows.marks tree is.0 is.1 is.2;
  }

  -- it was made
  pub made : (x : X) → OverStored (is_honest old.store) (table old.store) (λ trees. IsAsRead trees old → IsAsRead trees new) → KeepsEach is_honest table May old new → IsKept {X = X} is_honest table path May old new (Ok x)
  made x as_read each = record {
    each = each;
    store = store;
    counted = counted;
    as_read = as_read;
    named = full;
    full = tt;
    unchanged = λ honest. tt;
    same_entries = λ honest. tt;
    still = tt;
  }

  -- nothing had to be changed
  pub grown : (x : X) → Grows (is_honest old.store) (table old.store) old.nodes.items new.nodes.items → IsKept {X = X} is_honest table path May old new (Ok x)
  grown x grows = made x grows.as_read (λ h has down may each. grows.each h has down each)
