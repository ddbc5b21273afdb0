-- The edit of a switch isn't refused.
use Rattle.std.proofs.Common.{◌≡◌, inl, inr, true, false, Bool, cond, List, [], ◌∷◌, ◌++◌, drop, refl, sym, ◌∙◌, ap, subst, Option, Some, None, unwrap_or, bytes_eq, codes, ◌+◌, ◌≤◌, arith}
use Rattle.std.specs.FinMap.{get}
use Rattle.std.specs.List.{list_all}
use Rattle.std.proofs.lemmas.Bool.{and_from, and_parts}
use Rattle.gix_object_lines.specs.NameTest.{is_partial_name}
use Rattle.gix_object_lines.specs.declared.lines.actor.ActorRef.{ActorRef}
use Rattle.gix_ref_file.specs.Tree.{Tree, Node, file, folder, node_at, bytes_of, is_path}
use Rattle.gix_ref_name.specs.Targets.{Points}
use Rattle.gix_ref_edit.specs.Names.{StandsTwice, names_of}
use Rattle.gix_ref_edit.specs.Splits.{behind}
use Rattle.gix_ref_edit.specs.declared.change.RefEdit.{RefEdit}
use Rattle.gix_ref_edit.specs.declared.ext.PreProcessError.TheVariants.{Split, Twice}
use Rattle.gix_ref_edit.specs.declared.names.TwiceError.TheVariants as twice
use Rattle.gix_ref_edit.specs.declared.splits.SplitError.TheVariants as splitting
use Rattle.gix_ref_format.specs.Packed.{Record}
use Rattle.gix_ref_lock.specs.Locks.{lock_of}
use Rattle.gix_ref_lock.specs.Needs.{AreBeside}
use Rattle.gix_ref_store.specs.Known.{is_known}
use Rattle.gix_ref_lock.specs.declared.act.LogError.{LogError}
use Rattle.gix_ref_store.specs.Places as store
use Rattle.gix_ref_store.specs.Places.{place}
use Rattle.gix_ref_store.specs.declared.store.file.find.Error as find
use Rattle.gix_ref_store.specs.declared.store.file.find.Error.TheVariants as finds
use Rattle.gix_ref_transaction.specs.Causes.{EditFault, GivenFault, LockFault, ReadyFault, SomeEditFault, Unlined, UnlinedUpdate}
use Rattle.gix_ref_transaction.specs.Found.{points_at}
use Rattle.gix_ref_transaction.specs.Locking.{AreLockable, IsLockable, are_known, is_known_change, is_known_edit, is_known_target}
use Rattle.gix_ref_transaction.specs.LogLines.{Logging, has_log}
use Rattle.gix_ref_transaction.specs.Paths.{edit_paths, has_twice}
use Rattle.gix_ref_transaction.specs.Plans.{AreSplit}
use Rattle.gix_ref_transaction.specs.declared.asked.Refusal.{Refusal}
use Rattle.gix_ref_transaction.specs.declared.error.PrepareError.{PrepareError}
use Rattle.gix_ref_transaction.specs.declared.error.PrepareError.TheVariants as fault
use Rattle.gix_ref_way.specs.Ways.{HasWay, IsAbove}
use Rattle.history_model.specs.Bytes.{Bytes, begins}
use Rattle.history_model.specs.FileMap.{is_below}
use Rattle.history_model.specs.Forms.{is_name}
use Rattle.history_model.specs.Places.{file_at, head_place, is_lock_file, is_name_folder}
use Rattle.history_model.specs.Repository.{Repository, stands}
use Rattle.history_model.proofs.PlaceLemmas.{text_itself}
use Rattle.history_model.proofs.WholePaths.{begins_parts}
use Rattle.history_layout.specs.TreeHalves.{HoldsNames}
use Rattle.history_edits.specs.Bridges.{root_base}
use Rattle.history_edits.specs.EditFaults.{IsExcused}
use Rattle.history_edits.specs.EditPlans.{logging_of}
use Rattle.history_edits.specs.SwitchPlans.{AsksHead}
use Rattle.history_edits.proofs.HeadCommitted.{none_above, only_one}
use Rattle.history_edits.proofs.HeadRead.{meets, readable}
use Rattle.history_edits.proofs.NamePlaces.{beside, formed, is_below_it, no_lock_stands, none_at}
use Rattle.history_edits.proofs.Unsplit.{no_hops, unsplit_stay}

-- ---- the locks

refs_of : (name : Bytes) → is_name name ≡ true → name ≡ codes "refs/" ++ drop 5 name
refs_of name h = begins_parts (codes "refs/") name (and_parts (is_partial_name name) (begins (codes "refs/") name) (and_parts _ _ (and_parts _ _ h).0).0).1

none_there : (o : Option Node) → bytes_of o ≡ None → (o ≡ Some folder → ⊥) → o ≡ None
none_there None lacks none = refl
none_there (Some folder) lacks none = absurd (none refl)
none_there (Some (file bytes)) lacks none = cc

module _ (r : Repository) (tree : Tree) (holds : HoldsNames tree r) where
  -- no file is below HEAD
  below_head : (name : Bytes) → stands r name ≡ true → is_below head_place name ≡ false
  below_head name stood = ap (is_below head_place) (refs_of name (formed r tree holds name stood))

  none_below : (other : Bytes) → IsAbove head_place other → file_at tree other ≡ None
  none_below other above = none_at r tree holds (is_below head_place) refl refl below_head (λ name stood. refl) other (is_below_it head_place other above)

  -- nothing is at the path of a lock
  free_at : (path : Bytes) → node_at tree path ≡ get tree path → is_lock_file path ≡ true → is_name_folder path ≡ false → node_at tree path ≡ None
  free_at path here lock no_folder = none_there (node_at tree path) (no_lock_stands r tree holds path lock)
      (λ is. let wrong : true ≡ false = sym (holds.folders path (sym here ∙ is)) ∙ no_folder in absurd (cc wrong))

  head_way : HasWay head_place tree
  head_way = record { above = λ place above. absurd (none_above place above); below = none_below }

  pub head_lockable : IsLockable tree head_place
  head_lockable = record { way = head_way; free = free_at (lock_of head_place) refl refl refl }

module _ (r : Repository) (to : Bytes) (tree : Tree) (kept : Option (List Record)) (committer : Option ActorRef) (may_fail : Type 0) (edit : RefEdit) (holds : HoldsNames tree r) (named : is_name r.branch ≡ true) (asks : AsksHead r.branch to edit) where
  abbrev b : store.Base
  b = root_base r.kind

  abbrev l : Logging
  l = logging_of r.kind kept committer tree

  one : (edits : List RefEdit) → AreSplit l.read (edit ∷ []) edits → edits ≡ edit ∷ []
  one edits split = unsplit_stay l.read (edit ∷ []) edits (asks.plain, tt) split

  lockable : AreLockable b tree (edit ∷ [])
  lockable = record {
    paths = subst (λ name. list_all is_path (store.packed_place b ∷ lock_of (store.packed_place b) ∷ place b name ∷ lock_of (place b name) ∷ store.log_place b name ∷ []) ≡ true) (sym asks.name) refl;
    apart = subst (λ name. AreBeside (store.packed_place b ∷ lock_of (store.packed_place b) ∷ place b name ∷ lock_of (place b name) ∷ store.log_place b name ∷ [])) (sym asks.name) (beside (edit_head) refl);
    each = (subst (λ name. IsLockable tree (place b name)) (sym asks.name) (head_lockable r tree holds), tt);
  }
    where
      edit_head : List Bytes
      edit_head = store.packed_place b ∷ lock_of (store.packed_place b) ∷ place b head_place ∷ lock_of (place b head_place) ∷ store.log_place b head_place ∷ []

  apart : has_twice (edit_paths b (edit ∷ [])) ≡ false
  apart = ap (λ name. has_twice (store.packed_place b ∷ lock_of (store.packed_place b) ∷ place b name ∷ lock_of (place b name) ∷ store.log_place b name ∷ [])) asks.name

  known : are_known false (edit ∷ []) ≡ true
  known =
      and_from (is_known_edit false edit) true (and_from (is_known false edit.name) (is_known_change false edit.change) (text_itself edit.name)
      (ap (is_known_change false) asks.change ∙ ap (is_known_target false) asks.after ∙ text_itself to)) refl

  clash : {A : Type 0} {x : Bool} → x ≡ true → x ≡ false → A
  clash e f = let wrong : true ≡ false = sym e ∙ f in absurd (cc wrong)

  once : (name : Bytes) → StandsTwice (names_of (edit ∷ [])) name → ⊥
  once name twice = go (bytes_eq edit.name name) twice
    where
      go : (b : Bool) → 2 ≤ 0 + cond b 1 0 → ⊥
      go true h = omega (arith, h)
      go false h = omega (arith, h)

  none_leads : behind (λ name. points_at (l.read name)) 4 (edit ∷ []) ≡ []
  none_leads = ap (behind (λ name. points_at (l.read name)) 3) (no_hops (λ name. points_at (l.read name)) (edit ∷ []) (asks.plain, tt))

  own : (error : PrepareError) → SomeEditFault l b tree may_fail (edit ∷ []) error → EditFault l (has_log b tree edit.name) may_fail edit error
  own error (other, among, full, why) = subst (λ (o : RefEdit). EditFault l (has_log b tree o.name) may_fail o error) (sym (only_one edit other among)) why

  refused : (why : Refusal) → EditFault l (has_log b tree edit.name) may_fail edit (fault.Refused why) → ⊥
  refused why (found, tells, unmet, is) = unmet (meets r to tree (unwrap_or kept []) edit holds named asks found tells)

  undecoded : (error : find.Error) → EditFault l (has_log b tree edit.name) may_fail edit (fault.ReferenceDecode error) → IsExcused may_fail (fault.ReferenceDecode error)
  undecoded finds.ReadFileContents why = why
  undecoded finds.Memory why = absurd why
  undecoded (finds.PackedOpen error) why = absurd why
  undecoded (finds.ReferenceCreation error) why = absurd (readable r to tree (unwrap_or kept []) edit holds named asks error why)

  unlined : (error : LogError) → EditFault l (has_log b tree edit.name) may_fail edit (fault.CreateOrUpdateRefLog error) → ⊥
  unlined error why = subst (λ (points : Points). UnlinedUpdate l (has_log b tree edit.name) edit.name asks.log points error) asks.after
      (subst (λ change. Unlined l (has_log b tree edit.name) edit.name change error) asks.change why)

  ready : (error : PrepareError) → ReadyFault l.read b false tree may_fail (edit ∷ []) error → IsExcused may_fail error
  ready (fault.PreprocessingFailed (Split splitting.Find)) (edits, (same, why)) = why
  ready (fault.PreprocessingFailed (Split splitting.Cycle)) (edits, (same, why)) = absurd (why tt none_leads)
  ready (fault.PreprocessingFailed (Split splitting.Memory)) why = why
  ready (fault.PreprocessingFailed (Twice (twice.Name name))) (edits, (split, why)) =
      absurd (once name (subst (λ all. StandsTwice (names_of all) name) (one edits (split tt)) why.twice))
  ready (fault.PreprocessingFailed (Twice twice.Memory)) why = why
  ready fault.SamePlace (edits, split, same) = clash (ap (λ all. has_twice (edit_paths b all)) (sym (one edits split)) ∙ same) apart
  ready fault.Uncomposed (edits, split, unknown) = clash known (ap (are_known false) (sym (one edits split)) ∙ unknown)
  ready fault.LockAcquire (edits, split, none) = absurd (none (subst (AreLockable b tree) (sym (one edits split)) lockable))
  ready fault.Memory why = tt
  ready (fault.Packed error) why = absurd why
  ready (fault.PackedTransactionAcquire error) why = absurd why
  ready (fault.PackedTransactionPrepare error) why = absurd why
  ready fault.Io why = absurd why
  ready (fault.Refused error) why = absurd why
  ready (fault.ReferenceDecode error) why = absurd why
  ready (fault.CreateOrUpdateRefLog error) why = absurd why
  ready (fault.Resolve error) why = absurd why

  locked : (error : PrepareError) → LockFault l b tree may_fail (edit ∷ []) error → IsExcused may_fail error
  locked (fault.PreprocessingFailed error) why = absurd why
  locked fault.SamePlace why = absurd why
  locked fault.Uncomposed why = absurd why
  locked fault.LockAcquire none = absurd (none lockable)
  locked fault.Memory why = tt
  locked (fault.Packed error) why = absurd why
  locked (fault.PackedTransactionAcquire error) why = tt
  locked (fault.PackedTransactionPrepare error) why = tt
  locked fault.Io why = tt
  locked (fault.Refused error) why = absurd (refused error (own (fault.Refused error) why))
  locked (fault.ReferenceDecode error) why = undecoded error (own (fault.ReferenceDecode error) why)
  locked (fault.CreateOrUpdateRefLog error) why = absurd (unlined error (own (fault.CreateOrUpdateRefLog error) why))
  locked (fault.Resolve error) why = tt

  given : (error : PrepareError) → GivenFault l b false tree may_fail (edit ∷ []) error → IsExcused may_fail error
  given error (inl why) = ready error why
  given error (inr (edits, split, why)) = locked error (subst (λ all. LockFault l b tree may_fail all error) (one edits split) why)

pub head_can_be_prepared : (r : Repository) (to : Bytes) (tree : Tree) (kept : Option (List Record)) (committer : Option ActorRef) (may_fail : Type 0) (edit : RefEdit) (error : PrepareError) → HoldsNames tree r → is_name r.branch ≡ true → AsksHead r.branch to edit
    → GivenFault (logging_of r.kind kept committer tree) (root_base r.kind) false tree may_fail (edit ∷ []) error → IsExcused may_fail error
head_can_be_prepared r to tree kept committer may_fail edit error holds named asks why = given r to tree kept committer may_fail edit holds named asks error why
