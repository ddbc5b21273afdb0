-- Which broken tree an error names, whatever the root is.
use Rattle.std.proofs.Common.{◌≡◌, ◌∙◌, ap, sym, subst, refl, inl, inr, ℕ, List, [], Some, None, option_map, Result, Ok, Err}
use Rattle.gix_hash.specs.Id.{Id, id_of}
use Rattle.gix_object_tree.specs.Entry.{Item, SpellsTree}
use Rattle.gix_object_tree.specs.WellFormed.{IsWellFormed}
use Rattle.gix_object_tree.proofs.TreeLaws.{one_tree}
use Rattle.gix_object_lines.specs.declared.decode.Error as decode
use Rattle.gix_object_lines.specs.declared.decode.Error.TheVariants as unread
use Rattle.gix_object_lines.specs.declared.kind.Kind.TheVariants as objects
use Rattle.gix_object_any.specs.Object.{Tree}
use Rattle.gix_object_lookup.specs.Existing.{Stands}
use Rattle.gix_object_find.specs.Values.{StandsAs}
use Rattle.gix_object_lookup.specs.Table.{Object, Table}
use Rattle.gix_object_lookup.specs.declared.find.Error.TheVariants as looked_up
use Rattle.gix_object_lookup.specs.declared.find.existing_object.Error as existing
use Rattle.gix_object_lookup.specs.declared.find.existing_object.Error.TheVariants as not_given
use Rattle.gix_object_editor.specs.Editor.{EditFault, GraftFault, LeafFault}
use Rattle.gix_object_nodes.specs.Files.{Path}
use Rattle.gix_object_editor.specs.Refusals.{OpeningFault, TreeIsMalformed, TreeIsUnread}
use Rattle.gix_object_editor.specs.declared.tree.editor.error.Error as editor
use Rattle.gix_object_editor.specs.declared.tree.editor.error.Error.TheVariants as refused
use Rattle.gix_traverse_tree.specs.Calls.{Call}
use Rattle.gix_traverse_tree.specs.Depth as depth
use Rattle.gix_traverse_tree.specs.Depth.{InDepth, Place, before}
use Rattle.gix_traverse_tree.specs.Nodes.{MemoryOr}
use Rattle.gix_traverse_tree.specs.Opened.{WalksIn}
use Rattle.gix_traverse_tree.specs.Recorder.{Records}
use Rattle.gix_traverse_tree.specs.Trees.{End, whole, broken, failed, TreeFault as WalkFault}
use Rattle.gix_traverse_tree.specs.declared.error.Error as walking
use Rattle.gix_traverse_tree.specs.declared.error.Error.TheVariants as walked
use Rattle.gix_traverse_tree.specs.declared.recorder.Recorder.{Recorder}
use Rattle.gix_object_lookup.specs.declared.find.existing_iter.Error.TheVariants as not_found
use Rattle.gix_hash.specs.declared.object_id.ObjectId.{ObjectId}
use Rattle.history_model.proofs.WholeLists.{none_is_some}
use Rattle.history_files.specs.Edits.{as_edited, as_opened, as_unread, unless_memory}
use Rattle.history_files.specs.Opening.{TellsBroken}
use Rattle.history_files.specs.Reading.{HasNoGoodTree, RootFault, StopsBelow, TellsUnread, TreeFault, as_walked}
use Rattle.history_files.specs.declared.edits.EditError.TheVariants as edits
use Rattle.history_files.specs.declared.error.ReadError.{ReadError}
use Rattle.history_files.specs.declared.error.ReadError.TheVariants as reading
use Rattle.std.proofs.lemmas.Option.{same_Some}

-- ---- trees that are read

pub tells_unread : (honest may_fail : Type 0) (table : Table) (id : Id) (error : ReadError) → TreeFault honest may_fail table id error → TellsUnread honest table error
tells_unread honest may_fail table id reading.Failed h = tt
tells_unread honest may_fail table id (reading.Broken oid) h = λ answers items stands. h.1 answers items (subst (λ i. StandsAs table i objects.Tree (Tree items)) h.0 stands)
tells_unread honest may_fail table id reading.Memory h = tt

-- ---- trees that are opened

pub root_broken : (honest may_fail : Type 0) (table : Table) (id : Id) (error : ReadError) → RootFault honest may_fail table id error → TellsBroken honest table (as_opened error)
root_broken honest may_fail table id reading.Failed h = tt
root_broken honest may_fail table id (reading.Broken oid) h = λ answers items stands. h.1 answers items (subst (λ i. StandsAs table i objects.Tree (Tree items)) h.0 stands)
root_broken honest may_fail table id reading.Memory h = tt

one_content : (table : Table) (id : Id) (a b : List ℕ) → Stands table id objects.Tree a → Stands table id objects.Tree b → a ≡ b
one_content table id a b h k = ap (λ (x : Object). x.content) (same_Some _ _ (sym h ∙ k))

module _ (honest may_fail : Type 0) (table : Table) (id : Id) where
  -- the tree under the named id spells these entries
  there : (oid : ObjectId) → id_of oid ≡ id → (items : List Item) → StandsAs table (id_of oid) objects.Tree (Tree items) → StandsAs table id objects.Tree (Tree items)
  there oid told items at = subst (λ i. StandsAs table i objects.Tree (Tree items)) told at

  unread_broken : (error : existing.Error) → TreeIsUnread honest may_fail table id error → TellsBroken honest table (as_unread error)
  unread_broken (not_given.Find looked_up.Failed) h = tt
  unread_broken (not_given.Find looked_up.Memory) h = tt
  unread_broken (not_given.Decode oid source) (told, (content, stands, fault, only)) = by_source source only
    where
      none : (source : decode.Error) → ((items : List Item) → SpellsTree id.kind content items → source ≡ unread.Memory) → (source ≡ unread.Memory → ⊥) → honest → HasNoGoodTree table (id_of oid)
      none source only other answers items at fine =
          let here = there oid told items at in
          other (only items (subst (λ t. SpellsTree id.kind t items) (one_content table id here.0 content here.1 (stands answers)) here.2.spelled))

      by_source : (source : decode.Error) → ((items : List Item) → SpellsTree id.kind content items → source ≡ unread.Memory) → TellsBroken honest table (unless_memory source (edits.Broken oid))
      by_source unread.FieldName only = none unread.FieldName only (λ e. cc)
      by_source unread.HexDigits only = none unread.HexDigits only (λ e. cc)
      by_source unread.LineEnd only = none unread.LineEnd only (λ e. cc)
      by_source unread.InvalidActor only = none unread.InvalidActor only (λ e. cc)
      by_source unread.InvalidTime only = none unread.InvalidTime only (λ e. cc)
      by_source unread.Memory only = tt
  unread_broken (not_given.NotFound oid) (told, none) = λ answers items at fine. let here = there oid told items at in none_is_some _ (sym (none answers) ∙ here.1)
  unread_broken (not_given.ObjectKind oid actual expected) (told, is, other, at) = λ answers items stands fine.
      let here = there oid told items stands in
      other (sym (same_Some objects.Tree actual (sym (ap (option_map (λ (x : Object). x.kind)) here.1) ∙ at answers)))

  malformed_broken : (oid : ObjectId) → TreeIsMalformed honest table id (id_of oid) → TellsBroken honest table (edits.Broken oid)
  malformed_broken oid (told, (content, all, stands, spelled, not)) = λ answers items at fine.
      let here = there oid told items at in
      let same = one_content table id here.0 content here.1 (stands answers) in
      not (subst IsWellFormed (one_tree id.kind content items all (subst (λ t. SpellsTree id.kind t items) same here.2.spelled) spelled) fine)

module _ (honest may_fail : Type 0) (table : Table) (path : Path) where
  pub edit_broken : (Through : Id → Type 0) (error : editor.Error) → EditFault honest may_fail table path Through error → TellsBroken honest table (as_edited error)
  edit_broken Through refused.EmptyPathComponent h = tt
  edit_broken Through (refused.FindExistingObject error) (id, through_it, h) = unread_broken honest may_fail table id error h
  edit_broken Through (refused.CannotRemoveNonLeaf filename) h = tt
  edit_broken Through (refused.MalformedTree oid) (id, through_it, h) = malformed_broken honest may_fail table id oid h
  edit_broken Through refused.EmptyTree h = tt
  edit_broken Through refused.Memory h = tt

  pub graft_broken : (id : Id) (Through : Id → Type 0) (error : editor.Error) → GraftFault honest may_fail table path id Through error → TellsBroken honest table (as_edited error)
  graft_broken id Through error h = elim h [
    | inl empty ↦ subst (λ e. TellsBroken honest table (as_edited e)) (sym empty.0) tt
    | inr other ↦ edit_broken Through error other
  ]

  pub leaf_broken : (Into : Id → Type 0) (Folder : Type 0) (error : editor.Error) → LeafFault honest may_fail table path Into Folder error → TellsBroken honest table (as_edited error)
  leaf_broken Into Folder refused.EmptyPathComponent h = tt
  leaf_broken Into Folder (refused.FindExistingObject error) (id, into_it, h) = unread_broken honest may_fail table id error h
  leaf_broken Into Folder (refused.CannotRemoveNonLeaf filename) h = tt
  leaf_broken Into Folder (refused.MalformedTree oid) (id, into_it, h) = malformed_broken honest may_fail table id oid h
  leaf_broken Into Folder refused.EmptyTree h = tt
  leaf_broken Into Folder refused.Memory h = tt

-- ---- walks that end early

pub stops_below : {H M : Type 0} (table : Table) (top : ObjectId) (old new : Recorder) (error : walking.Error)
    → MemoryOr (λ e. WalksIn Records H M table (id_of top) old new (λ end. end ≡ failed e)) error → StopsBelow H M table top (as_walked top error)
stops_below table top old new error (inl memory) = inl (ap (as_walked top) memory)
stops_below {H} {M} table top old new error (inr (calls, end, runs, walk, same)) =
    inr (calls, error, refl, subst (InDepth H M table [] (before (id_of top)) calls) same walk)

abbrev pub from_err : {X : Type 0} → Result X ReadError → ReadError → ReadError
from_err (Ok x) other = other
from_err (Err error) other = error

-- lookups may fail, if a walk ends at a failed one
abbrev FailsAs : Type 0 → End → Type 0
FailsAs M whole = Unit {0}
FailsAs M broken = Unit {0}
FailsAs M (failed (walked.Find (not_found.Find looked_up.Failed))) = M
FailsAs M (failed (walked.Find (not_found.Find looked_up.Memory))) = Unit {0}
FailsAs M (failed (walked.Find (not_found.NotFound oid))) = Unit {0}
FailsAs M (failed (walked.Find (not_found.ObjectKind oid actual expected))) = Unit {0}
FailsAs M (failed walked.Cancelled) = Unit {0}
FailsAs M (failed (walked.ObjectDecode error)) = Unit {0}
FailsAs M (failed walked.Cycle) = Unit {0}
FailsAs M (failed walked.Memory) = Unit {0}

unfound_as : (H M : Type 0) (table : Table) (above : List Id) (id : Id) (error : walking.Error) → WalkFault H M table above id error → FailsAs M (failed error)
unfound_as H M table above id (walked.Find (not_found.Find looked_up.Failed)) fault = fault.1
unfound_as H M table above id (walked.Find (not_found.Find looked_up.Memory)) fault = tt
unfound_as H M table above id (walked.Find (not_found.NotFound oid)) fault = tt
unfound_as H M table above id (walked.Find (not_found.ObjectKind oid actual expected)) fault = tt
unfound_as H M table above id walked.Cancelled fault = tt
unfound_as H M table above id (walked.ObjectDecode error) fault = tt
unfound_as H M table above id walked.Cycle fault = tt
unfound_as H M table above id walked.Memory fault = tt

fails_as : {H M : Type 0} {table : Table} {above : List Id} {place : Place} {calls : List Call} {end : End} → InDepth H M table above place calls end → FailsAs M end
fails_as (depth.tree read later) = fails_as later
fails_as {H} {M} {table} {above} (depth.unfound {id = id} {error = error} fault) = unfound_as H M table above id error fault
fails_as depth.none = tt
fails_as (depth.entry answer entry flat later) = fails_as later
fails_as (depth.below answer entry deep inner later) = fails_as later
fails_as (depth.ended_below answer entry deep inner not_whole) = fails_as inner
fails_as (depth.ended entry) = tt
fails_as (depth.unread some none fault) = tt

pub below_failed : {H M : Type 0} (table : Table) (top : ObjectId) (error : ReadError) → StopsBelow H M table top error → error ≡ reading.Failed → M
below_failed table top error (inl memory) e = clash_of (sym memory ∙ e)
  where
    clash_of : {A : Type 0} → reading.Memory ≡ reading.Failed → A
    clash_of e = cc
below_failed {H} {M} table top error (inr (calls, cause, is, walk)) e = go cause (sym is ∙ e) (fails_as walk)
  where
    go : (cause : walking.Error) → as_walked top cause ≡ reading.Failed → FailsAs M (failed cause) → M
    go (walked.Find (not_found.Find looked_up.Failed)) e h = h
    go (walked.Find (not_found.Find looked_up.Memory)) e h = cc
    go (walked.Find (not_found.NotFound oid)) e h = cc
    go (walked.Find (not_found.ObjectKind oid actual expected)) e h = cc
    go walked.Cancelled e h = cc
    go (walked.ObjectDecode error) e h = cc
    go walked.Cycle e h = cc
    go walked.Memory e h = cc
