-- What names read as on the way, by their own files and by packed records.
use Rattle.std.proofs.Common.{◌≡◌, ◌⊎◌, inl, inr, ⊎_elim, refl, sym, ◌∙◌, ap, subst, ℕ, Bool, true, false, cond, List, [], ◌∷◌, bytes_eq, Option, Some, None, Vec}
use Rattle.std.specs.Prelude.{is_some, IsSome, option_map, option_and_then, unwrap_or}
use Rattle.std.specs.List.{list_any}
use Rattle.std.specs.declared.alloc.Global.{Global}
use Rattle.std.proofs.lemmas.Bool.{and_parts, or_parts}
use Rattle.std.proofs.lemmas.Slice.Eq.{bytes_eq-Decides}
use Rattle.gix_hash.specs.Id.{Id}
use Rattle.gix_hash.specs.declared.kind.Kind.{Kind}
use Rattle.gix_object_lookup.specs.Table.{Table}
use Rattle.gix_object_lines.specs.NameTest.{is_full_name}
use Rattle.gix_ref_file.specs.Tree.{Tree}
use Rattle.gix_ref_name.specs.Targets.{Points, ToObject, ToName, target_view}
use Rattle.gix_ref_name.specs.declared.target.Target.{Target}
use Rattle.gix_ref_edit.specs.declared.change.Change.{Change}
use Rattle.gix_ref_edit.specs.declared.change.Change.TheVariants.{Update, Delete}
use Rattle.gix_ref_edit.specs.declared.change.PreviousValue.{PreviousValue}
use Rattle.gix_ref_edit.specs.declared.change.RefEdit.{RefEdit}
use Rattle.gix_ref_edit.specs.declared.log.LogChange.{LogChange}
use Rattle.gix_ref_edit.specs.declared.log.RefLog.{RefLog}
use Rattle.gix_ref_edit.specs.declared.log.RefLog.TheVariants.{AndReference, Only}
use Rattle.gix_ref_format.specs.Lookup.{packed_key, packed_hit}
use Rattle.gix_ref_format.specs.Loose.{loose_target, loose_text}
use Rattle.gix_ref_format.specs.Packed.{Record, packed_records}
use Rattle.gix_ref_format.specs.PackedBuffer.{hit, KeepsFile}
use Rattle.gix_ref_format.specs.PackedKept.{kept}
use Rattle.gix_ref_format.specs.declared.packed.buffer.Buffer.{Buffer}
use Rattle.gix_ref_format.specs.Edited.{Line, line_at, under}
use Rattle.gix_ref_store.specs.Places.{Base, place, packed_place}
use Rattle.gix_ref_store.specs.RefStates.{RefState, Stands, Absent, Faulty, InRecords, ref_state, read_by, told_by, records_of, packed_state, loose_state, packed_text_in}
use Rattle.gix_ref_lock.specs.Records.{records_in}
use Rattle.gix_ref_lock.specs.declared.packed.Transaction.{Transaction}
use Rattle.gix_ref_way.specs.Ways.{Bytes, file_at}
use Rattle.gix_ref_lock.specs.Contents.{contents, lock_path_of, moved, IsBetween}
use Rattle.gix_ref_lock.specs.Committing.{Shows, StaysYet, FileStays}
use Rattle.gix_ref_lock.specs.declared.act.Act.{Act}
use Rattle.gix_ref_lock.specs.declared.act.Move.{Move}
use Rattle.gix_ref_lock.specs.declared.act.Act.TheVariants.{Put, Note, Pack, Remove, Forget}
use Rattle.gix_ref_transaction.specs.Plans.{HoldsText, IsActOf, IsPlanOf, IsUpdateBy, IsPut, is_packed_alone}
use Rattle.gix_ref_transaction.specs.Reads.{ReadsChanged, ReadsUpdated, IsPeeledOf, IsReadBack}
use Rattle.gix_ref_transaction.specs.Repacking.{SaysOfRecord, SaysByKey, ChangesRecord, UpdatesRecord, HoldsRecords, changes_record, changes_records, changes_tree, removal_line}
use Rattle.gix_ref_transaction.proofs.KeyLines.{IsSaid}
use Rattle.gix_ref_transaction.proofs.PathKeys.{key_again}

inner : {A : Type 0} {r s : A} → Some r ≡ Some s → r ≡ s
inner e = cc

-- what packed records say of a name
abbrev pub told : Base → Tree → Bytes → RefState
told b x name = told_by (records_of b.kind (packed_text_in b x)) name

pub state_is : (b : Base) (x : Tree) (name : Bytes) → is_full_name name ≡ true → ref_state b x name ≡ read_by b.kind (file_at x (place b name)) (told b x name)
state_is b x name full = ap (λ c. cond c (read_by b.kind (file_at x (place b name)) (told b x name)) Absent) full

module _ (b : Base) (before x : Tree) (name : Bytes) (full : is_full_name name ≡ true) where
  pub same : file_at x (place b name) ≡ file_at before (place b name) → told b x name ≡ told b before name → ref_state b x name ≡ ref_state b before name
  same f p = state_is b x name full ∙ (λ i. read_by b.kind (f i) (p i)) ∙ sym (state_is b before name full)

  pub hidden : (text : Bytes) → file_at x (place b name) ≡ file_at before (place b name) → file_at before (place b name) ≡ Some text → ref_state b x name ≡ ref_state b before name
  hidden text f stood =
      state_is b x name full ∙ ap (λ o. read_by b.kind o (told b x name)) (f ∙ stood)
      ∙ sym (ap (λ o. read_by b.kind o (told b before name)) stood) ∙ sym (state_is b before name full)

  pub gone : file_at x (place b name) ≡ None → ref_state b x name ≡ told b x name
  gone none = state_is b x name full ∙ ap (λ o. read_by b.kind o (told b x name)) none

  pub put : (text : Bytes) (points : Points) → file_at x (place b name) ≡ Some text → loose_target b.kind text ≡ Some points → ref_state b x name ≡ Stands points None
  put text points stands reads = state_is b x name full ∙ ap (λ o. read_by b.kind o (told b x name)) stands ∙ ap (loose_state text) reads

  -- the file is as before: then the name reads as the file says, or as the records say now
  pub kept_or_told : file_at x (place b name) ≡ file_at before (place b name) → (ref_state b x name ≡ ref_state b before name) ⊎ (ref_state b x name ≡ told b x name)
  kept_or_told f = by_file (file_at before (place b name)) refl
    where
      by_file : (o : Option Bytes) → file_at before (place b name) ≡ o → (ref_state b x name ≡ ref_state b before name) ⊎ (ref_state b x name ≡ told b x name)
      by_file (Some text) is = inl (hidden text f is)
      by_file None is = inr (gone (f ∙ is))

-- ---- packed records
pub no_key : (records : Option (List Record)) (name : Bytes) → packed_key name ≡ None → told_by records name ≡ Absent
no_key (Some rs) name is = ap (λ k. packed_state (option_and_then (hit rs) k)) is
no_key None name is = ap (λ k. cond (is_some k) (Faulty InRecords) Absent) is

old_told : (kind : Kind) (text : Option Bytes) (buffer : Option Buffer) (name k : Bytes) → packed_key name ≡ Some k → KeepsFile kind text (option_map kept buffer) → told_by (records_of kind text) name ≡ packed_state (hit (records_in buffer) k)
old_told kind None None name k is keeps = ap (λ key. packed_state (option_and_then (hit []) key)) is
old_told kind None (Some buffer) name k is keeps = absurd keeps
old_told kind (Some text) None name k is keeps = absurd keeps
old_told kind (Some text) (Some buffer) name k is (records, reads, holds) =
    ap (λ rs. told_by rs name) reads ∙ ap (λ key. packed_state (option_and_then (hit records) key)) is ∙ ap packed_state (sym (holds.first k))

-- what records say after they are replaced
abbrev pub NewTold : Option Line → RefState → RefState → Type 0
NewTold None before now = now ≡ before
NewTold (Some line) before now = now ≡ packed_state line.says

pub new_told : (b : Base) (before old x : Tree) (name : Bytes) (lines : List Line) (own : Option Line) (t : Transaction) (holds : HoldsRecords b.kind (packed_place b) before old lines t) → packed_records b.kind holds.text ≡ Some holds.told.after
    → packed_text_in b x ≡ Some holds.text → IsSaid lines (packed_key name) own → NewTold own (told b before name) (told b x name)
new_told b before old x name lines own t holds reads here said = by_key (packed_key name) refl own said
  where
    now : told b x name ≡ packed_state (packed_hit holds.told.after name)
    now = ap (λ o. told_by (records_of b.kind o) name) here ∙ ap (λ rs. told_by rs name) reads

    by_line : (k : Bytes) (own : Option Line) → packed_key name ≡ Some k → line_at lines k ≡ own → NewTold own (told b before name) (told b x name)
    by_line k own key is =
        let found = now ∙ ap (λ o. packed_state (option_and_then (hit holds.told.after) o)) key ∙ ap packed_state (holds.told.edited.each k ∙ ap (λ l. under l (hit (records_in t.buffer) k)) is) in
        by_own own found
      where
        by_own : (own : Option Line) → told b x name ≡ packed_state (under own (hit (records_in t.buffer) k)) → NewTold own (told b before name) (told b x name)
        by_own (Some line) found = found
        by_own None found = found ∙ sym (old_told b.kind (packed_text_in b before) t.buffer name k key holds.keeps)

    by_key : (key : Option Bytes) → packed_key name ≡ key → (own : Option Line) → IsSaid lines key own → NewTold own (told b before name) (told b x name)
    by_key None is own said = subst (λ (o : Option Line). NewTold o (told b before name) (told b x name)) (sym said) (no_key _ name is ∙ sym (no_key _ name is))
    by_key (Some k) is own said = by_line k own is said

-- a line that changes no record
quiet : (p : Line → Bool) (lines : List Line) (k : Bytes) (line : Line) → line_at lines k ≡ Some line → list_any p lines ≡ false → p line ≡ false
quiet p [] k line found none = cc
quiet p (l ∷ lines) k line found none = by_name (bytes_eq l.name k) refl (λ later. quiet p lines k line later (or_parts (p l) (list_any p lines) none).1)
  where
    by_name : (same : Bool) → bytes_eq l.name k ≡ same → (line_at lines k ≡ Some line → p line ≡ false) → p line ≡ false
    by_name true is later = ap p (sym (inner (sym (ap (λ c. cond c (Some l) (line_at lines k)) is) ∙ found))) ∙ (or_parts (p l) (list_any p lines) none).0
    by_name false is later = later (sym (ap (λ c. cond c (Some l) (line_at lines k)) is) ∙ found)

-- the first line found for a name has that name
line_named : (lines : List Line) (k : Bytes) (line : Line) → line_at lines k ≡ Some line → line.name ≡ k
line_named [] k line found = cc
line_named (l ∷ lines) k line found = by_name (bytes_eq l.name k) refl (λ later. line_named lines k line later)
  where
    by_name : (same : Bool) → bytes_eq l.name k ≡ same → (line_at lines k ≡ Some line → line.name ≡ k) → line.name ≡ k
    by_name true is later = ap (λ (o : Line). o.name) (sym (inner (sym (ap (λ c. cond c (Some l) (line_at lines k)) is) ∙ found))) ∙ (bytes_eq-Decides l.name k).0 is
    by_name false is later = later (sym (ap (λ c. cond c (Some l) (line_at lines k)) is) ∙ found)

pub none_told : (b : Base) (before x : Tree) (name : Bytes) (lines : List Line) (own : Option Line) → changes_tree b before lines ≡ false → packed_text_in b x ≡ packed_text_in b before
    → IsSaid lines (packed_key name) own → NewTold own (told b before name) (told b x name)
none_told b before x name lines own none here said = by_key (packed_key name) refl own said
  where
    still : told b x name ≡ told b before name
    still = ap (λ o. told_by (records_of b.kind o) name) here

    no_record : (o : Option Record) → is_some o ≡ false → packed_state o ≡ Absent
    no_record None is = refl
    no_record (Some r) is = cc

    removed : (line : Line) → is_some line.says ≡ false → packed_state line.says ≡ Absent
    removed line is = by_says line.says is
      where
        by_says : (says : Option Record) → is_some says ≡ false → packed_state says ≡ Absent
        by_says None is = refl
        by_says (Some r) is = cc

    by_line : (k : Bytes) (own : Option Line) → packed_key name ≡ Some k → line_at lines k ≡ own → NewTold own (told b before name) (told b x name)
    by_line k None key is = still
    by_line k (Some line) key is =
        still ∙ by_records (records_of b.kind (packed_text_in b before)) none
      where
        by_records : (records : Option (List Record)) → changes_records records lines ≡ false → told_by records name ≡ packed_state line.says
        by_records None changes = cc
        by_records (Some rs) changes =
            let parts = or_parts (is_some line.says) (is_some (packed_hit rs line.name)) (quiet (changes_record rs) lines k line is changes) in
            let one = ap (option_and_then (hit rs)) key in
            let other = ap (packed_hit rs) (line_named lines k line is) ∙ ap (option_and_then (hit rs)) (key_again name k key) in
            no_record (packed_hit rs name) (ap is_some (one ∙ sym other) ∙ parts.1) ∙ sym (removed line parts.0)

    by_key : (key : Option Bytes) → packed_key name ≡ key → (own : Option Line) → IsSaid lines key own → NewTold own (told b before name) (told b x name)
    by_key None is own said = subst (λ (o : Option Line). NewTold o (told b before name) (told b x name)) (sym said) still
    by_key (Some k) is own said = by_line k own is said

-- ---- one edit
-- what packing says of a record
pack_made : (packs : Option Table) (removes : Bool) (name : Bytes) (mode : RefLog) (points : Points) (key : Option Bytes) (own : Option Line) → packed_key name ≡ key → is_packed_alone removes name points ≡ true → (removes ≡ true → IsSome packs) → mode ≡ AndReference
    → ((k : Bytes) → key ≡ Some k → UpdatesRecord packs mode points k own) → (before now : RefState) → NewTold own before now → (peeled : Option Id) × IsPeeledOf packs points peeled × (now ≡ Stands points peeled)
pack_made packs removes name mode (ToName other) key own is alone fits and says before now fresh = cc
pack_made packs removes name mode (ToObject id) None own is alone fits and says before now fresh =
    let wrong : true ≡ false = sym (and_parts removes (is_some (packed_key name)) alone).1 ∙ ap is_some is in cc
pack_made packs removes name mode (ToObject id) (Some k) own is alone fits and says before now fresh =
    by_packs packs (fits (and_parts removes (is_some (packed_key name)) alone).0) (subst (λ m. UpdatesRecord packs m (ToObject id) k own) and (says k refl))
  where
    by_packs : (ps : Option Table) → IsSome ps → UpdatesRecord ps AndReference (ToObject id) k own → (peeled : Option Id) × IsPeeledOf ps (ToObject id) peeled × (now ≡ Stands (ToObject id) peeled)
    by_packs None some h = cc
    by_packs (Some table) some (peeled, tells, line) = (peeled, tells, subst (λ (o : Option Line). NewTold o before now) line fresh)

-- an update is said of its own key
key_says : (packs : Option Table) (change : Change) (key : Option Bytes) (own : Option Line) (log : LogChange) (expected : PreviousValue) (new : Target) → change ≡ Update log expected new → SaysByKey packs change key own → (k : Bytes) → key ≡ Some k → UpdatesRecord packs log.mode (target_view new) k own
key_says packs change None own log expected new is says k key = cc
key_says packs change (Some other) own log expected new is says k key =
    subst (λ (b : Bytes). UpdatesRecord packs log.mode (target_view new) b own) (inner key) (subst (λ (c : Change). ChangesRecord packs c other own) is says)

-- an edit of the log alone says nothing of a record
abbrev LogAlone : Change → Type 0
LogAlone (Update log expected new) = log.mode ≡ Only
LogAlone (Delete expected mode) = mode ≡ Only

only_says : (packs : Option Table) (points : Points) (k : Bytes) (own : Option Line) → UpdatesRecord packs Only points k own → own ≡ None
only_says None points k own says = says
only_says (Some table) points k own says = says

log_says : (packs : Option Table) (change : Change) (key : Option Bytes) (own : Option Line) → LogAlone change → SaysByKey packs change key own → own ≡ None
log_says packs change None own alone says = says
log_says packs (Update log expected new) (Some k) own alone says = only_says packs (target_view new) k own (subst (λ m. UpdatesRecord packs m (target_view new) k own) alone says)
log_says packs (Delete expected mode) (Some k) own alone says = says ∙ ap (λ m. removal_line m k) alone

-- the record of what is removed is gone
removed_told : (packs : Option Table) (expected : PreviousValue) (key : Option Bytes) (own : Option Line) (name : Bytes) (b : Base) (before x : Tree) → packed_key name ≡ key → SaysByKey packs (Delete expected AndReference) key own → NewTold own (told b before name) (told b x name) → told b x name ≡ Absent
removed_told packs expected None own name b before x is says new = no_key (records_of b.kind (packed_text_in b x)) name is
removed_told packs expected (Some k) own name b before x is says new = subst (λ (o : Option Line). NewTold o (told b before name) (told b x name)) says new

-- what is known of one edit and its move
pub record OneEdit (b : Base) (packs : Option Table) (removes : Bool) (before old : Tree) (edit : RefEdit) (m : Move) (own : Option Line) : Type 0 where
  pub full : is_full_name edit.name ≡ true
  pub fits : removes ≡ true → IsSome packs
  pub file : file_at old (place b edit.name) ≡ file_at before (place b edit.name)
  pub plan : IsPlanOf b removes edit m
  pub text : HoldsText edit.change m.act (lock_path_of m) old
  pub back : IsReadBack b.kind edit.change
  pub says : SaysOfRecord packs edit own

module _ (b : Base) (packs : Option Table) (removes : Bool) (before old x : Tree) (edit : RefEdit) (m : Move) (own : Option Line) (one : OneEdit b packs removes before old edit m own) where
  abbrev name : Bytes
  name = edit.name

  abbrev S0 : RefState
  S0 = ref_state b before name

  abbrev S : RefState
  S = ref_state b x name

  abbrev P0 : RefState
  P0 = told b before name

  abbrev P : RefState
  P = told b x name

  -- at the place of the move
  at_place : (tree : Tree) → file_at tree (place b name) ≡ (contents m tree).file
  at_place tree = ap (file_at tree) (sym one.plan.file)

  file_kept : (contents m x).file ≡ (contents m old).file → file_at x (place b name) ≡ file_at before (place b name)
  file_kept is = at_place x ∙ is ∙ sym (at_place old) ∙ one.file

  file_none : (contents m x).file ≡ None → S ≡ P
  file_none none = gone b before x name one.full (at_place x ∙ none)

  by_log : (change : Change) → edit.change ≡ change → LogAlone change → (contents m x).file ≡ (contents m old).file → NewTold own P0 P ⊎ (P ≡ P0) → S ≡ S0
  by_log change is alone file told_now = same b before x name one.full (file_kept file) (still told_now)
    where
      none : own ≡ None
      none = log_says packs edit.change (packed_key name) own (subst LogAlone (sym is) alone) one.says

      still : NewTold own P0 P ⊎ (P ≡ P0) → P ≡ P0
      still (inl new) = subst (λ (o : Option Line). NewTold o P0 P) none new
      still (inr stays) = stays

  -- ---- what each act makes of the reading
  put_reads : (mode : RefLog) (alone : Bool) (points : Points) (line : Option (Vec ℕ Global)) → IsUpdateBy mode alone (Put line) → S ≡ Stands points None → ReadsUpdated packs mode alone points S0 S
  put_reads AndReference alone points line is h = subst (λ a. ReadsUpdated packs AndReference a points S0 S) (sym is) h
  put_reads Only alone points line is h = absurd is

  note_reads : (mode : RefLog) (alone : Bool) (points : Points) (line : Option (Vec ℕ Global)) → IsUpdateBy mode alone (Note line) → (mode ≡ Only → S ≡ S0) → ReadsUpdated packs mode alone points S0 S
  note_reads AndReference alone points line is h = absurd is
  note_reads Only alone points line is h = h refl

  noted_alone : (mode : RefLog) (alone : Bool) (line : Option (Vec ℕ Global)) → IsUpdateBy mode alone (Note line) → mode ≡ Only
  noted_alone AndReference alone line is = absurd is
  noted_alone Only alone line is = refl

  pack_reads : (mode : RefLog) (alone : Bool) (points : Points) (line : Option (Vec ℕ Global)) → IsUpdateBy mode alone (Pack line) → (mode ≡ AndReference → alone ≡ true → (peeled : Option Id) × IsPeeledOf packs points peeled × (S ≡ Stands points peeled)) → ReadsUpdated packs mode alone points S0 S
  pack_reads AndReference alone points line is h = subst (λ a. ReadsUpdated packs AndReference a points S0 S) (sym is) (h refl is)
  pack_reads Only alone points line is h = absurd is

  module _ (log : LogChange) (expected : PreviousValue) (new : Target) (change_is : edit.change ≡ Update log expected new) where
    abbrev points : Points
    points = target_view new

    put_done : (line : Option (Vec ℕ Global)) → m.act ≡ Put line → (contents m x).file ≡ Some (unwrap_or (contents m old).lock []) → S ≡ Stands points None
    put_done line act_is file =
        let held : (contents m old).lock ≡ Some (loose_text points) = subst (λ (c : Change). HoldsText c m.act (lock_path_of m) old) change_is one.text (subst IsPut (sym act_is) tt) in
        put b before x name one.full (loose_text points) points (at_place x ∙ file ∙ ap (λ o. Some (unwrap_or o [])) held) (subst (IsReadBack b.kind) change_is one.back)

    pack_done : (line : Option (Vec ℕ Global)) → IsUpdateBy log.mode (is_packed_alone removes name points) (Pack line) → S ≡ P → NewTold own P0 P → ReadsUpdated packs log.mode (is_packed_alone removes name points) points S0 S
    pack_done line acts now fresh = pack_reads log.mode (is_packed_alone removes name points) points line acts (λ mode alone.
        let made = pack_made packs removes name log.mode points (packed_key name) own refl alone one.fits mode (key_says packs edit.change (packed_key name) own log expected new change_is one.says) P0 P fresh in
        (made.0, made.1, now ∙ made.2))

  remove_done : (expected : PreviousValue) → edit.change ≡ Delete expected AndReference → S ≡ P → NewTold own P0 P → S ≡ Absent
  remove_done expected change_is now new = now ∙ removed_told packs expected (packed_key name) own name b before x refl (subst (λ (c : Change). SaysByKey packs c (packed_key name) own) change_is one.says) new

  -- ---- at the end
  pub reads_end : (change : Change) (act : Act) → edit.change ≡ change → m.act ≡ act → IsActOf removes name change act → (contents m x).file ≡ (moved act (contents m old)).file → NewTold own P0 P → ReadsChanged packs removes name change S0 S
  reads_end (Update log expected new) (Put line) change_is act_is acts file told_new = put_reads log.mode _ (target_view new) line acts (put_done log expected new change_is line act_is file)
  reads_end (Update log expected new) (Note line) change_is act_is acts file told_new = note_reads log.mode _ (target_view new) line acts (λ only. by_log (Update log expected new) change_is only file (inl told_new))
  reads_end (Update log expected new) (Pack line) change_is act_is acts file told_new = pack_done log expected new change_is line acts (file_none file) told_new
  reads_end (Update log expected new) Remove change_is act_is acts file told_new = absurd acts
  reads_end (Update log expected new) Forget change_is act_is acts file told_new = absurd acts
  reads_end (Delete expected AndReference) Remove change_is act_is acts file told_new = remove_done expected change_is (file_none file) told_new
  reads_end (Delete expected Only) Forget change_is act_is acts file told_new = by_log (Delete expected Only) change_is refl file (inl told_new)
  reads_end (Delete expected AndReference) Forget change_is act_is acts file told_new = absurd acts
  reads_end (Delete expected Only) Remove change_is act_is acts file told_new = absurd acts
  reads_end (Delete expected mode) (Put line) change_is act_is acts file told_new = absurd acts
  reads_end (Delete expected mode) (Note line) change_is act_is acts file told_new = absurd acts
  reads_end (Delete expected mode) (Pack line) change_is act_is acts file told_new = absurd acts

  -- ---- on the way
  -- a file that stays until the records are replaced
  staying : {R : Type 0} → (S ≡ P → NewTold own P0 P → R) → (contents m x).file ≡ (contents m old).file → (P ≡ P0) ⊎ NewTold own P0 P → (S ≡ S0) ⊎ R
  staying {R} done file packed = by_told packed (kept_or_told b before x name one.full (file_kept file))
    where
      by_told : (P ≡ P0) ⊎ NewTold own P0 P → (S ≡ S0) ⊎ (S ≡ P) → (S ≡ S0) ⊎ R
      by_told either (inl stays) = inl stays
      by_told (inl still) (inr now) = inl (same b before x name one.full (file_kept file) still)
      by_told (inr new) (inr now) = inr (done now new)

  going : {R : Type 0} → (S ≡ P → NewTold own P0 P → R) → ((contents m x).file ≡ (contents m old).file) ⊎ ((contents m x).file ≡ None) → ((contents m x).file ≡ (contents m old).file) ⊎ NewTold own P0 P → (P ≡ P0) ⊎ NewTold own P0 P → (S ≡ S0) ⊎ R
  going done (inl file) records packed = staying done file packed
  going done (inr none) (inl file) packed = staying done file packed
  going done (inr none) (inr new) packed = inr (done (file_none none) new)

  pub reads_on_way : (change : Change) (act : Act) → edit.change ≡ change → m.act ≡ act → IsActOf removes name change act → IsBetween act (contents m old) (contents m x)
      → (StaysYet act (contents m old) (contents m x) × (P ≡ P0)) ⊎ Shows act (contents m old) (contents m x)
      → FileStays act (contents m old) (contents m x) ⊎ NewTold own P0 P → (P ≡ P0) ⊎ NewTold own P0 P → (S ≡ S0) ⊎ ReadsChanged packs removes name change S0 S
  reads_on_way (Update log expected new) (Put line) change_is act_is acts between (inl (stays, still)) records packed = by_file between.file
    where
      by_file : ((contents m x).file ≡ (contents m old).file) ⊎ (((contents m x).file ≡ Some (unwrap_or (contents m old).lock [])) × ((contents m x).log ≡ (moved (Put line) (contents m old)).log)) → (S ≡ S0) ⊎ ReadsUpdated packs log.mode (is_packed_alone removes name (target_view new)) (target_view new) S0 S
      by_file (inl file) = inl (same b before x name one.full (file_kept file) still)
      by_file (inr (file, log_is)) = inr (put_reads log.mode _ (target_view new) line acts (put_done log expected new change_is line act_is file))
  reads_on_way (Update log expected new) (Put line) change_is act_is acts between (inr shows) records packed =
      inr (put_reads log.mode _ (target_view new) line acts (put_done log expected new change_is line act_is shows.0))
  reads_on_way (Update log expected new) (Note line) change_is act_is acts between order records packed =
      inl (by_log (Update log expected new) change_is (noted_alone log.mode _ line acts) (⊎_elim (λ is. is) (λ is. is.0) between.file) (⊎_elim inr inl packed))
  reads_on_way (Update log expected new) (Pack line) change_is act_is acts between order records packed =
      going (pack_done log expected new change_is line acts) (⊎_elim inl (λ is. inr is.0) between.file) records packed
  reads_on_way (Update log expected new) Remove change_is act_is acts between order records packed = absurd acts
  reads_on_way (Update log expected new) Forget change_is act_is acts between order records packed = absurd acts
  reads_on_way (Delete expected AndReference) Remove change_is act_is acts between order records packed =
      going (remove_done expected change_is) (⊎_elim inl (λ is. inr is.0) between.file) records packed
  reads_on_way (Delete expected Only) Forget change_is act_is acts between order records packed =
      inl (by_log (Delete expected Only) change_is refl (⊎_elim (λ is. is) (λ is. is.0) between.file) (⊎_elim inr inl packed))
  reads_on_way (Delete expected AndReference) Forget change_is act_is acts between order records packed = absurd acts
  reads_on_way (Delete expected Only) Remove change_is act_is acts between order records packed = absurd acts
  reads_on_way (Delete expected mode) (Put line) change_is act_is acts between order records packed = absurd acts
  reads_on_way (Delete expected mode) (Note line) change_is act_is acts between order records packed = absurd acts
  reads_on_way (Delete expected mode) (Pack line) change_is act_is acts between order records packed = absurd acts
