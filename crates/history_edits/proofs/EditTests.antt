-- What each edit tests passes, and its line can be made.
use Rattle.std.proofs.Common.{◌≡◌, inl, inr, pos, Bool, true, false, not, ◌&&◌, List, [], ◌∷◌, length, nat_le, refl, sym, ◌∙◌, ap, subst, Option, Some, None, option_map, is_some, Ok, Err}
use Rattle.std.specs.List.{AllByRecursion}
use Rattle.std.specs.FinMap.{get}
use Rattle.std.proofs.lemmas.Bool.{and_parts, not-true}
use Rattle.bstr.specs.BStr.{bstr_bytes}
use Rattle.gix_hash.specs.Id.{Id, id_of}
use Rattle.gix_object_lines.specs.Actor.{IsPlain, IsSpellable}
use Rattle.gix_object_lines.specs.Time.{IsSpellableOffset, SpellsTime}
use Rattle.gix_object_lines.specs.declared.lines.actor.ActorRef.{ActorRef}
use Rattle.gix_object_lines.specs.declared.lines.time.Time.{Time}
use Rattle.gix_object_lines.proofs.TimeLemmas.{time_once}
use Rattle.gix_ref_file.specs.Tree.{Tree}
use Rattle.gix_ref_name.specs.Targets.{Points, ToObject, target_view}
use Rattle.gix_ref_edit.specs.declared.change.Change.{Change}
use Rattle.gix_ref_edit.specs.declared.change.PreviousValue.{PreviousValue}
use Rattle.gix_ref_edit.specs.declared.change.PreviousValue.TheVariants.{MustExistAndMatch}
use Rattle.gix_ref_edit.specs.declared.change.RefEdit.{RefEdit}
use Rattle.gix_ref_format.specs.Packed.{Record}
use Rattle.gix_ref_format.specs.PackedBuffer.{KeepsFile}
use Rattle.gix_ref_format.specs.declared.loose.Error.{Error as LooseError}
use Rattle.gix_ref_lock.specs.declared.act.LogError.{LogError}
use Rattle.gix_ref_lock.specs.declared.act.LogError.TheVariants.{CreateLeadingDirectories, Append, MessageWithNewlines, MissingCommitter, Unspellable}
use Rattle.gix_ref_store.specs.Finds.{TellsState}
use Rattle.gix_ref_store.specs.RefStates.{RefState, Absent, Stands}
use Rattle.gix_ref_store.specs.declared.reference.Reference.{Reference}
use Rattle.gix_ref_store.specs.declared.store.file.find.Error.TheVariants as find
use Rattle.gix_ref_transaction.specs.Asked.{Meets, MeetsOf, points_of}
use Rattle.gix_ref_transaction.specs.Causes.{HasNoSpelling, SpellFault, Unlined, UnlinedUpdate}
use Rattle.gix_ref_transaction.specs.LogLines.{Logging}
use Rattle.history_model.specs.Bytes.{Bytes, has_byte}
use Rattle.history_model.specs.Forms.{is_actor, is_id, is_log_entry, is_name, max_title}
use Rattle.history_model.specs.Places.{file_at, packed_place}
use Rattle.history_model.specs.Repository.{LogEntry, Reference as Held, Repository, id_at, stands}
use Rattle.history_model.proofs.OnePairTexts.{part_plain}
use Rattle.history_layout.specs.EditFits.{IsNextEntry, MayStand}
use Rattle.history_layout.specs.EditSteps.{MovedName, edited_names}
use Rattle.history_layout.specs.TreeHalves.{HoldsNames}
use Rattle.history_texts.proofs.ActorTexts.{actor_parts, time_spelled}
use Rattle.history_texts.proofs.Offsets.{OffsetTold, offset_told}
use Rattle.history_edits.specs.Bridges.{Commits, ReadsAs}
use Rattle.history_edits.specs.EditFaults.{Expects, Tests, AllTest}
use Rattle.history_edits.specs.EditPlans.{AsksDeletion, AsksMove, AreEdits, IsLogged, logging_of}
use Rattle.history_edits.proofs.WholeReads.{reads_whole}

-- ---- what a name holds passes the test

absent_stands : {A : Type 0} (points : Points) (peeled : Option Id) → Absent ≡ Stands points peeled → A
absent_stands points peeled e = cc

stands_so : (id : Id) (peeled other : Option Id) (points : Points) → Stands (ToObject id) peeled ≡ Stands points other → points ≡ ToObject id
stands_so id peeled other points e = cc

-- an update is free to make what doesn't exist; a deletion tests a name that does
module _ (name : Bytes) (state : RefState) where
  meets_none : (expected : PreviousValue) (new : Points) → ReadsAs None state → Expects None expected → (found : Option Reference) → TellsState name state (Ok found) → Meets expected (Some new) (option_map points_of found)
  meets_none expected new reads expects None tells = subst (λ e. Meets e (Some new) None) (sym expects) tt
  meets_none expected new reads expects (Some x) tells = absent_stands (points_of x) (option_map id_of x.peeled) (sym reads ∙ tells.1)

  pub meets_some : (id : Id) (expected : PreviousValue) (new : Option Points) → ReadsAs (Some id) state → Expects (Some id) expected → (found : Option Reference) → TellsState name state (Ok found) → Meets expected new (option_map points_of found)
  meets_some id expected new reads expects None tells = absent_stands (ToObject id) reads.0 (sym tells ∙ reads.1)
  meets_some id expected new reads expects (Some x) tells =
      subst (λ e. Meets e new (Some (points_of x))) (sym expects.1)
      (by_new new (stands_so id reads.0 (option_map id_of x.peeled) (points_of x) (sym reads.1 ∙ tells.1) ∙ sym expects.2))
    where
      by_new : (new : Option Points) → points_of x ≡ target_view expects.0 → Meets (MustExistAndMatch expects.0) new (Some (points_of x))
      by_new None same = same
      by_new (Some other) same = inl same

  meets_held : (held : Option Id) (expected : PreviousValue) (new : Points) → ReadsAs held state → Expects held expected → (found : Option Reference) → TellsState name state (Ok found) → Meets expected (Some new) (option_map points_of found)
  meets_held None expected new = meets_none expected new
  meets_held (Some id) expected new = meets_some id expected (Some new)

  -- and it can be read
  pub readable : (held : Option Id) → ReadsAs held state → (error : LooseError) → TellsState name state (Err (find.ReferenceCreation error)) → ⊥
  readable None reads error tells = cc (sym reads ∙ tells)
  readable (Some id) reads error tells = cc (sym reads.1 ∙ tells)

-- ---- the line

module _ (entry : LogEntry) (who : ActorRef) (formed : is_actor entry.actor ≡ true) (commits : Commits entry.actor who) where
  told : OffsetTold entry.actor.offset
  told = offset_told entry.actor.offset (actor_parts entry.actor formed).offset

  abbrev time_is : Time
  time_is = record { seconds = pos entry.actor.seconds; offset = told.offset }

  spells : SpellsTime (bstr_bytes who.time) time_is
  spells = subst (λ t. SpellsTime t time_is) (sym commits.time) (time_spelled entry.actor told (actor_parts entry.actor formed).seconds)

  plain_name : IsPlain (bstr_bytes who.name)
  plain_name = let part = (actor_parts entry.actor formed).name in
      subst IsPlain (sym commits.name) (record { no_open = part_plain 60 refl entry.actor.name part; no_close = part_plain 62 refl entry.actor.name part; in_line = part_plain 10 refl entry.actor.name part })

  plain_email : IsPlain (bstr_bytes who.email)
  plain_email = let part = (actor_parts entry.actor formed).email in
      subst IsPlain (sym commits.email) (record { no_open = part_plain 60 refl entry.actor.email part; no_close = part_plain 62 refl entry.actor.email part; in_line = part_plain 10 refl entry.actor.email part })

  spellable : (time : Time) → SpellsTime (bstr_bytes who.time) time → IsSpellable (bstr_bytes who.name) (bstr_bytes who.email) time
  spellable time is = record {
    name_plain = plain_name;
    email_plain = plain_email;
    offset_spellable = subst (λ (t : Time). IsSpellableOffset t.offset) (sym (time_once (bstr_bytes who.time) time time_is is spells)) told.whole;
  }

  has_spelling : HasNoSpelling who → ⊥
  has_spelling (inl none) = none (time_is, spells)
  has_spelling (inr (time, is, none)) = none (spellable time is)

in_line : (r : Repository) (entry : LogEntry) → is_log_entry r.kind entry ≡ true → has_byte 10 entry.message ≡ false
in_line r entry formed =
    let most = and_parts (is_id r.kind entry.before && is_id r.kind entry.after && is_actor entry.actor && not (has_byte 10 entry.message)) (nat_le (length entry.message) max_title) formed in
    let last = and_parts (is_id r.kind entry.before && is_id r.kind entry.after && is_actor entry.actor) (not (has_byte 10 entry.message)) most.0 in
    not-true (has_byte 10 entry.message) last.1

lined : (r : Repository) (committer : Option ActorRef) (m : MovedName) (logged : IsLogged r committer m) → is_log_entry r.kind m.entry ≡ true → (message : Bytes) → message ≡ m.entry.message → (error : LogError) → SpellFault committer message error → ⊥
lined r committer m logged formed message same CreateLeadingDirectories fault = fault
lined r committer m logged formed message same Append fault = fault
lined r committer m logged formed message same MessageWithNewlines fault = fault (ap (has_byte 10) same ∙ in_line r m.entry formed)
lined r committer m logged formed message same MissingCommitter fault = cc (sym fault ∙ logged.given)
lined r committer m logged formed message same Unspellable (who, given, none) = has_spelling m.entry logged.who logged.formed logged.commits (subst HasNoSpelling (one_who who (sym given ∙ logged.given)) none)
  where
    one_who : (who : ActorRef) → Some who ≡ Some logged.who → who ≡ logged.who
    one_who who e = cc

-- ---- each edit

-- What the name reads as passes the edit's test, and its line can be made.
pub record IsFine (l : Logging) (edit : RefEdit) : Type 0 where
  pub meets : (found : Option Reference) → TellsState edit.name (l.read edit.name) (Ok found) → MeetsOf edit.change (option_map points_of found)
  pub reads : (error : LooseError) → TellsState edit.name (l.read edit.name) (Err (find.ReferenceCreation error)) → ⊥
  pub lines : (logs : Bool) (error : LogError) → Unlined l logs edit.name edit.change error → ⊥

module _ (r : Repository) (kept : Option (List Record)) (committer : Option ActorRef) (tree : Tree) (holds : HoldsNames tree r) (keeps : KeepsFile r.kind (file_at tree packed_place) kept) where
  abbrev l : Logging
  l = logging_of r.kind kept committer tree

  read_so : (name : Bytes) → is_name name ≡ true → ReadsAs (id_at r name) (l.read name)
  read_so name named = reads_whole r tree kept name holds keeps named

  fine_move : (m : MovedName) (edit : RefEdit) → is_name m.name ≡ true → AsksMove m edit → Tests (id_at r edit.name) edit.change → IsNextEntry r m → IsLogged r committer m → IsFine l edit
  fine_move m edit named asks tests next logged = record {
    meets = λ found tells. subst (λ (change : Change). MeetsOf change (option_map points_of found)) (sym asks.change)
        (meets_held edit.name (l.read edit.name) (id_at r edit.name) asks.expected (target_view asks.new) reads_it (subst (Tests (id_at r edit.name)) asks.change tests) found tells);
    reads = readable edit.name (l.read edit.name) (id_at r edit.name) reads_it;
    lines = λ logs error unlined. lined r committer m logged next.formed asks.log.message asks.message error
        (subst (λ new. UnlinedUpdate l logs edit.name asks.log new error) asks.target (subst (λ (change : Change). Unlined l logs edit.name change error) asks.change unlined)).1;
  }
    where
      reads_it : ReadsAs (id_at r edit.name) (l.read edit.name)
      reads_it = read_so edit.name (ap is_name asks.name ∙ named)

  held_there : (name : Bytes) → stands r name ≡ true → (id : Id) × (id_at r name ≡ Some id)
  held_there name there = go (get r.names name) refl there
    where
      go : (o : Option Held) → get r.names name ≡ o → is_some o ≡ true → (id : Id) × (id_at r name ≡ Some id)
      go None e some = cc
      go (Some ref) e some = (ref.id, ap (option_map (λ (x : Held). x.id)) e)

  fine_deletion : (name : Bytes) (edit : RefEdit) → is_name name ≡ true → stands r name ≡ true → AsksDeletion name edit → Tests (id_at r edit.name) edit.change → IsFine l edit
  fine_deletion name edit named there asks tests = record {
    meets = λ found tells. subst (λ (change : Change). MeetsOf change (option_map points_of found)) (sym asks.change)
        (meets_some edit.name (l.read edit.name) held.0 asks.expected None reads_it (subst (λ o. Expects o asks.expected) held.1 (subst (Tests (id_at r edit.name)) asks.change tests)) found tells);
    reads = readable edit.name (l.read edit.name) (Some held.0) reads_it;
    lines = λ logs error unlined. subst (λ (change : Change). Unlined l logs edit.name change error) asks.change unlined;
  }
    where
      held : (id : Id) × (id_at r edit.name ≡ Some id)
      held = held_there edit.name (ap (stands r) asks.name_is ∙ there)

      reads_it : ReadsAs (Some held.0) (l.read edit.name)
      reads_it = subst (λ o. ReadsAs o (l.read edit.name)) held.1 (read_so edit.name (ap is_name asks.name_is ∙ named))

  pub all_fine : (moved : List MovedName) (taken : Option Bytes) (asked : List RefEdit) → AllByRecursion (λ name. is_name name ≡ true) (edited_names moved taken) → MayStand r taken → AllByRecursion (IsNextEntry r) moved
      → AreEdits moved taken asked → AllTest r asked → AllByRecursion (IsLogged r committer) moved → AllByRecursion (IsFine l) asked
  all_fine [] None [] named may next are tests logged = tt
  all_fine [] None (edit ∷ asked) named may next are tests logged = cc
  all_fine [] (Some name) [] named may next are tests logged = absurd are
  all_fine [] (Some name) (edit ∷ asked) named may next are tests logged = (fine_deletion name edit named.0 may are.0 tests.0, none_more asked are.1)
    where
      none_more : (edits : List RefEdit) → edits ≡ [] → AllByRecursion (IsFine l) edits
      none_more [] none = tt
      none_more (edit ∷ edits) none = cc
  all_fine (m ∷ moved) taken [] named may next are tests logged = absurd are
  all_fine (m ∷ moved) taken (edit ∷ asked) named may next are tests logged = (
    fine_move m edit named.0 are.0 tests.0 next.0 logged.0,
    all_fine moved taken asked named.1 may next.1 are.1 tests.1 logged.1,
  )
