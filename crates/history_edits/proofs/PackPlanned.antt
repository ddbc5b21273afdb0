-- What is made of the edits of a pack: each removes a name's file, and the records are those of all names.
use Rattle.std.proofs.Common.{◌≡◌, inl, inr, Bool, true, false, cond, not, ◌&&◌, List, [], ◌∷◌, ◌++◌, map, refl, sym, ◌∙◌, ap, subst, Option, Some, None, option_map, unwrap_or, is_some, bytes_eq, MatchOption, ℕ, Vec}
use Rattle.std.specs.Prelude.{Contains, IfSome, nat_le, length, option_and_then}
use Rattle.std.specs.List.{AllByRecursion, AllZip, list_all}
use Rattle.std.specs.FinMap.{get}
use Rattle.std.specs.Option.{option_to_list}
use Rattle.std.specs.declared.alloc.Global.{Global}
use Rattle.std.proofs.lemmas.Bool.{and_parts, or_from}
use Rattle.std.proofs.lemmas.Option.{same_Some}
use Rattle.gix_hash.specs.Id.{Id, null_id}
use Rattle.gix_hash.specs.Order.{id_eq}
use Rattle.gix_hash.specs.declared.kind.Kind.{Kind}
use Rattle.gix_object_lines.specs.declared.lines.actor.ActorRef.{ActorRef}
use Rattle.gix_object_lookup.specs.Table.{Table}
use Rattle.gix_ref_file.specs.Tree.{Tree, bytes_at}
use Rattle.gix_ref_name.specs.Targets.{target_view}
use Rattle.gix_ref_edit.specs.declared.change.Change.TheVariants.{Update}
use Rattle.gix_ref_edit.specs.declared.change.RefEdit.{RefEdit}
use Rattle.gix_ref_edit.specs.declared.log.RefLog.TheVariants.{AndReference}
use Rattle.gix_ref_format.specs.Lookup.{packed_key}
use Rattle.gix_ref_format.specs.Packed.{Record, packed_records}
use Rattle.gix_ref_format.specs.PackedBuffer.{KeepsFile, hit}
use Rattle.gix_ref_format.specs.PackedKept.{kept as kept_of}
use Rattle.gix_ref_format.specs.declared.packed.buffer.Buffer.{Buffer}
use Rattle.gix_ref_format.specs.Edited.{Ascend, Line, own_line, under, line_at}
use Rattle.gix_ref_format.specs.Written.{AllHaveKind, HasKind, packed_text}
use Rattle.gix_ref_lock.specs.PackedEdits.{lock_path_of, place_of}
use Rattle.gix_ref_lock.specs.Contents as moving
use Rattle.gix_ref_lock.specs.Committing.{packed_end}
use Rattle.gix_ref_lock.specs.Records.{records_in}
use Rattle.gix_ref_lock.specs.declared.act.Act.{Act}
use Rattle.gix_ref_lock.specs.declared.act.Act.TheVariants.{Put, Note, Pack, Remove, Forget}
use Rattle.gix_ref_lock.specs.declared.act.Move.{Move}
use Rattle.gix_ref_lock.specs.declared.packed.Transaction.{Transaction}
use Rattle.gix_ref_store.specs.Places as store
use Rattle.gix_ref_store.specs.RefStates.{records_of}
use Rattle.gix_ref_transaction.specs.LogLines.{Logging, AllLined, IsLineOf, IsUpdateLine, IsLineIf, adds_line, has_log, id_before, line_in}
use Rattle.gix_ref_transaction.specs.Plans.{AllPlanned, IsActOf, IsPlanOf, IsUpdateBy, is_packed_alone}
use Rattle.gix_ref_transaction.specs.Repacking.{HoldsIf, HoldsRecords, SaysByKey, SaysOfRecord, SayOfRecords, UpdatesRecord, WritesRecord, changes_records}
use Rattle.history_model.specs.Bytes.{Bytes, has_twice, is_empty}
use Rattle.history_model.specs.FileMap.{is_below}
use Rattle.history_model.specs.Forms.{HasForm, IsWritten, is_actor, is_id, is_log_entry, is_name, is_private, is_reference, is_tag_name, max_title, title}
use Rattle.history_model.specs.Objects.{Value, StoredBytes, StoredCommit, StoredFolder, StoredTag}
use Rattle.history_model.specs.PackedNames.{is_packed_form, packed_with}
use Rattle.history_model.specs.Places.{file_at, log_place, packed_place}
use Rattle.history_model.specs.Repository.{Reference, Repository, id_at, is_tag, is_tag_value, peeled, peeled_value, stands}
use Rattle.history_model.proofs.FormatLemmas.{records_alike}
use Rattle.history_model.proofs.IdLemmas.{has_kind, id_itself}
use Rattle.history_layout.specs.EditFits.{CanBeEdited, IsNextEntry}
use Rattle.history_layout.specs.EditSteps.{edited_names, moved_name}
use Rattle.history_layout.specs.PackSteps.{HasAllNames, IsTextOfAll, PacksAll, WritesAll, record_for}
use Rattle.history_layout.specs.TreeHalves.{HoldsNames}
use Rattle.history_layout.proofs.PackedRecords.{all_by_finds}
use Rattle.history_layout.proofs.RecordsEdited.{as_all, ascend_once, form_made}
use Rattle.history_edits.specs.Bridges.{records_end, root_base}
use Rattle.history_edits.specs.EditCommits.{IsOfRecords}
use Rattle.history_edits.specs.EditPlans.{AreEdits, IsPrepared, logging_of}
use Rattle.history_edits.specs.PackPlans.{AsksAll, AsksPack, IsPackReady, PackIsReady, PacksFit, PacksName, PeelsAlike, WritesRecords, record_name, still}
use Rattle.history_edits.proofs.EditNames.{each_of}
use Rattle.history_edits.proofs.NamePlaces.{formed}
use Rattle.history_edits.proofs.PackWanted.{all_public, asked_once, asked_told, file_hit, has_record, kept_hits, none_among, record_told, said, stands_at, under_lines}
use Rattle.history_edits.proofs.PlansMade.{id_held}
use Rattle.history_edits.proofs.RecordTaken.{form_of, none_said}
use Rattle.history_edits.proofs.WholeReads.{names_stand_in_place, reads_whole}

-- ---- one name

-- what holds of a record that is asked for
pub record IsAsked (r : Repository) (e : Record) : Type 0 where
  pub named : is_name e.name ≡ true
  pub public : is_private e.name ≡ false
  pub at : id_at r e.name ≡ Some e.target
  pub peeled : e.peeled ≡ cond (is_tag r e.target) (peeled r e.target) None

asked_so : (r : Repository) (tree : Tree) → HoldsNames tree r → (e : Record) → record_for r e.name ≡ Some e → IsAsked r e
asked_so r tree holds e is =
    let told = record_told r e.name e is in
    record { named = formed r tree holds e.name (stands_at r e.name e.target told.at); public = told.public; at = told.at; peeled = told.peeled }

key_of : (r : Repository) (e : Record) → IsAsked r e → (name : Bytes) → name ≡ e.name → packed_key name ≡ Some e.name
key_of r e asked name same = ap packed_key same ∙ records_alike e.name asked.named ∙ ap (λ b. cond b None (Some e.name)) asked.public

pack_act : (alone : Bool) (act : Act) → alone ≡ true → IsUpdateBy AndReference alone act → (line : Option (Vec ℕ Global)) × (act ≡ Pack line)
pack_act alone (Put line) is by = cc (sym is ∙ by)
pack_act alone (Note line) is by = absurd by
pack_act alone (Pack line) is by = (line, refl)
pack_act alone Remove is by = absurd by
pack_act alone Forget is by = absurd by

module _ (r : Repository) (tree : Tree) (kept : Option (List Record)) (committer : Option ActorRef) (holds : HoldsNames tree r) (keeps : KeepsFile r.kind (file_at tree packed_place) kept) where
  abbrev l : Logging
  l = logging_of r.kind kept committer tree

  -- no line is added for a name that moves to the id that it has
  pub no_line : (e : Record) (edit : RefEdit) → is_name e.name ≡ true → id_at r e.name ≡ Some e.target → (asks : AsksPack e edit) → (logs : Bool) → adds_line l logs edit.name asks.move.log e.target ≡ false
  no_line e edit named at asks logs = ap (λ id. not (id_eq id e.target)) before ∙ ap not (id_itself e.target)
    where
      before : id_before l edit.name ≡ e.target
      before = ap (id_before l) asks.move.name ∙ id_held r.kind l.read (id_at r e.name) e.name (reads_whole r tree kept e.name holds keeps named) ∙ ap (λ o. unwrap_or o (null_id r.kind)) at

  one_packs : (e : Record) (edit : RefEdit) (made : Move) → IsAsked r e → AsksPack e edit → IsPlanOf (root_base r.kind) true edit made → IsLineOf l (has_log (root_base r.kind) tree edit.name) edit.name edit.change (line_in made.act) → PacksName e.name made
  one_packs e edit made asked asks plan lined = record {
    act = packs.1 ∙ ap Pack none;
    place = plan.file ∙ ap (store.place (root_base r.kind)) asks.move.name ∙ (names_stand_in_place r.kind e.name asked.named).file;
    log = plan.log ∙ ap (store.log_place (root_base r.kind)) asks.move.name ∙ (names_stand_in_place r.kind e.name asked.named).log;
  }
    where
      alone : is_packed_alone true edit.name (target_view asks.move.new) ≡ true
      alone = ap (is_packed_alone true edit.name) asks.move.target ∙ ap is_some (key_of r e asked edit.name asks.move.name)

      packs : (line : Option (Vec ℕ Global)) × (made.act ≡ Pack line)
      packs = pack_act (is_packed_alone true edit.name (target_view asks.move.new)) made.act alone
          (subst (λ mode. IsUpdateBy mode (is_packed_alone true edit.name (target_view asks.move.new)) made.act) asks.move.whole
          (subst (λ change. IsActOf true edit.name change made.act) asks.move.change plan.act))

      none : packs.0 ≡ None
      none = subst (λ b. IsLineIf b l edit.name asks.move.log e.target packs.0) (no_line e edit asked.named asked.at asks (has_log (root_base r.kind) tree edit.name))
          (subst (λ new. IsUpdateLine l (has_log (root_base r.kind) tree edit.name) edit.name asks.move.log new packs.0) asks.move.target
          (subst (λ act. IsUpdateLine l (has_log (root_base r.kind) tree edit.name) edit.name asks.move.log (target_view asks.move.new) (line_in act)) packs.1
          (subst (λ change. IsLineOf l (has_log (root_base r.kind) tree edit.name) edit.name change (line_in made.act)) asks.move.change lined)))

  all_pack : (es : List Record) (edits : List RefEdit) (moves : List Move) → AllByRecursion (IsAsked r) es → AllZip AsksPack es edits → AllPlanned (root_base r.kind) true edits moves → AllLined l (root_base r.kind) tree edits moves
      → AllZip PacksName (map record_name es) moves
  all_pack [] [] [] asked asks plans lined = tt
  all_pack [] [] (made ∷ moves) asked asks plans lined = absurd plans
  all_pack [] (edit ∷ edits) moves asked asks plans lined = absurd asks
  all_pack (e ∷ es) [] moves asked asks plans lined = absurd asks
  all_pack (e ∷ es) (edit ∷ edits) [] asked asks plans lined = absurd plans
  all_pack (e ∷ es) (edit ∷ edits) (made ∷ moves) asked asks plans lined = (one_packs e edit made asked.0 asks.0 plans.0 lined.0, all_pack es edits moves asked.1 asks.1 plans.1 lined.1)

-- ---- what the edits say of records

module _ (r : Repository) (table : Table) (peels : PeelsAlike r table) where
  one_says : (e : Record) (edit : RefEdit) (own : Option Line) → IsAsked r e → AsksPack e edit → SaysOfRecord (Some table) edit own → own ≡ Some (own_line e)
  one_says e edit own asked asks says = by_peeled (subst (λ new. UpdatesRecord (Some table) AndReference new e.name own) asks.move.target
      (subst (λ mode. UpdatesRecord (Some table) mode (target_view asks.move.new) e.name own) asks.move.whole
      (subst (λ key. SaysByKey (Some table) (Update asks.move.log asks.move.expected asks.move.new) key own) (key_of r e asked edit.name asks.move.name)
      (subst (λ change. SaysByKey (Some table) change (packed_key edit.name) own) asks.move.change says))))
    where
      by_peeled : WritesRecord table e.target e.name own → own ≡ Some (own_line e)
      by_peeled (told, tells, is) =
          is ∙ ap (λ p. Some (record { name = e.name; says = Some (record { name = e.name; target = e.target; peeled = p }) })) (peels.peels e.name e.target asked.at told tells ∙ sym asked.peeled)

  pub pack_says : (es : List Record) (edits : List RefEdit) (lines : List Line) → AllByRecursion (IsAsked r) es → AllZip AsksPack es edits → SayOfRecords (Some table) edits lines → lines ≡ map own_line es
  pack_says [] [] lines asked asks say = say
  pack_says [] (edit ∷ edits) lines asked asks say = absurd asks
  pack_says (e ∷ es) [] lines asked asks say = absurd asks
  pack_says (e ∷ es) (edit ∷ edits) lines asked asks (own, rest, says, more, is) =
      is ∙ ap (λ o. option_to_list o ++ rest) (one_says e edit own asked.0 asks.0 says) ∙ ap (λ ls. own_line e ∷ ls) (pack_says es edits rest asked.1 asks.1 more)

-- ---- the ids of records

id_kind : (kind : Kind) (id : Id) → is_id kind id ≡ true → id.kind ≡ kind
id_kind kind id h = (has_kind kind id h).of_kind

-- the commit of a tag in its written form
tag_kind : (kind : Kind) (value : Value) (id : Id) → HasForm kind value → is_tag_value value ≡ true → IfSome (peeled_value id value) (λ (commit : Id). commit.kind ≡ kind)
tag_kind kind (StoredTag tag) id form is =
    let front = is_id kind tag.target && is_tag_name tag.name in
    let all = and_parts (front && is_actor tag.tagger && not (is_empty tag.message)) (nat_le (length (title tag.message)) max_title) form in
    let three = and_parts (front && is_actor tag.tagger) (not (is_empty tag.message)) all.0 in
    id_kind kind tag.target (and_parts (is_id kind tag.target) (is_tag_name tag.name) (and_parts front (is_actor tag.tagger) three.0).0).0
tag_kind kind (StoredCommit commit) id form is = cc
tag_kind kind (StoredBytes bytes) id form is = cc
tag_kind kind (StoredFolder files) id form is = cc

module _ (r : Repository) (written : IsWritten r) where
  peeled_kind : (id : Id) → IfSome (cond (is_tag r id) (peeled r id) None) (λ (commit : Id). commit.kind ≡ r.kind)
  peeled_kind id = go (get r.objects id) refl
    where
      by_tag : (value : Value) → get r.objects id ≡ Some value → (b : Bool) → is_tag_value value ≡ b → IfSome (cond b (peeled_value id value) None) (λ (commit : Id). commit.kind ≡ r.kind)
      by_tag value at true is = tag_kind r.kind value id (written.values id value at).0 is
      by_tag value at false is = tt

      go : (o : Option Value) → get r.objects id ≡ o → IfSome (cond (unwrap_or (option_map is_tag_value o) false) (option_and_then (peeled_value id) o) None) (λ (commit : Id). commit.kind ≡ r.kind)
      go None e = tt
      go (Some value) e = by_tag value e (is_tag_value value) refl

  pub target_id : (name : Bytes) (id : Id) → id_at r name ≡ Some id → is_id r.kind id ≡ true
  target_id name id at = go (get r.names name) refl at
    where
      go : (o : Option Reference) → get r.names name ≡ o → option_map (λ (ref : Reference). ref.id) o ≡ Some id → is_id r.kind id ≡ true
      go None e is = cc
      go (Some ref) e is = ap (is_id r.kind) (sym (same_Some ref.id id is))
          ∙ (and_parts (is_id r.kind ref.id) (list_all (is_log_entry r.kind) ref.moves) (and_parts (is_name name && not (is_private name)) (is_reference r.kind ref) (written.names name ref e)).1).0

  one_kind : (name : Bytes) (e : Record) → record_for r name ≡ Some e → HasKind r.kind e
  one_kind name e is = let told = record_told r name e is in record {
    target = id_kind r.kind e.target (target_id name e.target told.at);
    peeled = subst (λ o. IfSome o (λ (commit : Id). commit.kind ≡ r.kind)) (sym told.peeled) (peeled_kind e.target);
  }

  -- ---- records of all names

  module _ (tree : Tree) (holds : HoldsNames tree r) (after : List Record) (ascend : Ascend after) (each : (name : Bytes) → hit after name ≡ record_for r name) where
    by_finds : (P : Record → Type 0) → ((e : Record) → record_for r e.name ≡ Some e → P e) → AllByRecursion P after
    by_finds P told = all_by_finds P after (ascend_once after ascend) (λ e found. told e (sym (each e.name) ∙ found))

    pub all_kinds : AllHaveKind r.kind after
    all_kinds = as_all r.kind after (by_finds (HasKind r.kind) (λ e is. one_kind e.name e is))

    pub all_formed : (text : Bytes) → text ≡ packed_text after → is_packed_form (packed_with text after) ≡ true
    all_formed text is = form_made after ascend (by_finds (λ (e : Record). is_name e.name ≡ true) (λ e told. (asked_so r tree holds e told).named))
        (by_finds (λ (e : Record). is_private e.name ≡ false) (λ e told. (asked_so r tree holds e told).public)) text is

-- ---- all of it

module _ (r : Repository) (table : Table) (kept : Option (List Record)) (committer : Option ActorRef) (wanted : List Record) (edits : List RefEdit) (old locked : Tree) (t : Option Transaction) (moves : List Move)
    (all : AsksAll r old kept wanted edits) (peels : PeelsAlike r table) (made : IsPrepared r.kind kept committer true (Some table) edits old locked t moves) where
  abbrev asked : List Record
  asked = all.asks.asked

  as_asked : (es : List Record) → AllByRecursion (λ (e : Record). record_for r e.name ≡ Some e) es → AllByRecursion (IsAsked r) es
  as_asked [] told = tt
  as_asked (e ∷ es) told = (asked_so r old all.holds e told.0, as_asked es told.1)

  all_asked : AllByRecursion (IsAsked r) asked
  all_asked = as_asked asked (asked_told r old kept wanted all)

  lines_are : made.repacked.0 ≡ map own_line asked
  lines_are = pack_says r table peels asked edits made.repacked.0 all_asked all.asks.asks made.repacked.1

  holds_if : HoldsIf (root_base r.kind) old locked (map own_line asked) t
  holds_if = subst (λ ls. HoldsIf (root_base r.kind) old locked ls t) lines_are made.repacked.2

  -- nothing is locked only if nothing is asked for
  none_asked : (es : List Record) (file : Option (List Record)) → changes_records file (map own_line es) ≡ false → es ≡ []
  none_asked [] file none = refl
  none_asked (e ∷ es) None none = cc
  none_asked (e ∷ es) (Some records) none = cc

  gone_before : asked ≡ [] → (name : Bytes) → stands r name ≡ true → is_private name ≡ false → file_at old name ≡ None
  gone_before none name there public = elim (said r old kept wanted all name) [
    | inl same ↦ cc (sym (ap (λ es. hit es name) none) ∙ same ∙ (has_record r name there public).1)
    | inr (away, gone, had) ↦ gone
  ]

  same_before : asked ≡ [] → (name : Bytes) → file_hit r.kind (file_at old packed_place) name ≡ record_for r name
  same_before none name = ap (λ es. under (line_at (map own_line es) name) (file_hit r.kind (file_at old packed_place) name)) (sym none) ∙ under_lines r old kept wanted all name (file_hit r.kind (file_at old packed_place) name) refl

  packed_before : asked ≡ [] → PacksAll r (file_at old packed_place)
  packed_before none = go (file_at old packed_place) refl (same_before none)
    where
      go : (file : Option Bytes) → file_at old packed_place ≡ file → ((name : Bytes) → file_hit r.kind file name ≡ record_for r name) → PacksAll r file
      go None at each = λ name. sym (each name)
      go (Some text) at each = by_read (packed_records r.kind text) refl (form_of r old all.holds text at)
        where
          by_read : (o : Option (List Record)) → packed_records r.kind text ≡ o → MatchOption (option_map (packed_with text) o) ⊥ (λ packed. is_packed_form packed ≡ true) → MatchOption (option_map (packed_with text) (packed_records r.kind text)) ⊥ (HasAllNames r)
          by_read None read form = absurd form
          by_read (Some records) read form = subst (λ o. MatchOption (option_map (packed_with text) o) ⊥ (HasAllNames r)) (sym read)
              (record { formed = form; each = λ name. ap (λ o. hit (unwrap_or o []) name) (sym read) ∙ each name })

  -- the text of what was locked
  buffer_hits : (buffer : Option Buffer) (name : Bytes) → KeepsFile r.kind (file_at old packed_place) (option_map kept_of buffer) → hit (records_in buffer) name ≡ file_hit r.kind (file_at old packed_place) name
  buffer_hits None name keeps = kept_hits r.kind (file_at old packed_place) None name keeps
  buffer_hits (Some buffer) name keeps = kept_hits r.kind (file_at old packed_place) (Some (kept_of buffer)) name keeps

  module _ (x : Transaction) (holds : HoldsRecords r.kind packed_place old locked (map own_line asked) x) where
    end_is : packed_end x locked ≡ Some holds.text
    end_is = (λ i. cond (holds.written i) (Some (bytes_at locked (lock_path_of x))) (file_at locked (place_of x))) ∙ ap (λ o. Some (unwrap_or o [])) holds.holds

    after_each : (name : Bytes) → hit holds.told.after name ≡ record_for r name
    after_each name = holds.told.edited.each name ∙ under_lines r old kept wanted all name (hit (records_in x.buffer) name) (buffer_hits x.buffer name holds.keeps)

    text_all : IsTextOfAll r holds.text
    text_all = record { records = holds.told.after; ascend = holds.told.edited.ascend; each = after_each; is = holds.told.is }

    packs_all : PacksAll r (Some holds.text)
    packs_all =
        let read = holds.told.reads (all_kinds r all.sound.written old all.holds holds.told.after holds.told.edited.ascend after_each) in
        subst (λ o. MatchOption (option_map (packed_with holds.text) o) ⊥ (HasAllNames r)) (sym read)
        (record { formed = all_formed r all.sound.written old all.holds holds.told.after holds.told.edited.ascend after_each holds.text holds.told.is; each = after_each })

  some_asked : (x : Transaction) → t ≡ Some x → (name : Bytes) × (stands r name ≡ true)
  some_asked x is = go asked all_asked holds_if
    where
      go : (es : List Record) → AllByRecursion (IsAsked r) es → HoldsIf (root_base r.kind) old locked (map own_line es) t → (name : Bytes) × (stands r name ≡ true)
      go [] told h = cc (sym is ∙ none_said r old locked t all.holds h)
      go (e ∷ es) told h = (e.name, stands_at r e.name e.target told.0.at)

  records_so : (o : Option Transaction) → t ≡ o → HoldsIf (root_base r.kind) old locked (map own_line asked) o → IsOfRecords o × PacksAll r (records_end old locked o) × WritesRecords r old locked o
  records_so None is h =
      let none = none_asked asked (records_of r.kind (file_at old packed_place)) h in
      (tt, packed_before none, record { packed = packed_before none; gone = gone_before none })
  records_so (Some x) is h =
      let end = end_is x h.1 in
      let some = some_asked x is in
      (h.1.here, subst (PacksAll r) (sym end) (packs_all x h.1), (some.0, some.1, subst (WritesAll r) (sym end) (text_all x h.1)))

  abbrev names : List Bytes
  names = map record_name asked

  all_stand : (es : List Record) → AllByRecursion (IsAsked r) es → AllByRecursion (λ name. stands r name ≡ true) (map record_name es)
  all_stand [] told = tt
  all_stand (e ∷ es) told = (stands_at r e.name e.target told.0.at, all_stand es told.1)

  ready : IsPackReady r names old locked t moves
  ready =
      let so = records_so t refl holds_if in
      record {
        holds = all.holds;
        stood = all_stand asked all_asked;
        others = λ name there away. elim (said r old kept wanted all name) [
          | inl same ↦ cc (sym (none_among asked name away) ∙ same ∙ (has_record r name there (all_public r all.sound.written name there)).1)
          | inr (none, gone, had) ↦ gone
        ];
        public = all_public r all.sound.written;
        moves_are = all_pack r old kept committer all.holds all.keeps asked edits moves all_asked all.asks.asks made.plans made.lined;
        at_records = so.0;
        records = so.1;
        written = so.2;
        files = made.files;
      }

pub pack_is_ready : PackIsReady
pack_is_ready r table kept committer wanted edits old locked t moves all peels made = ready r table kept committer wanted edits old locked t moves all peels made

-- ---- they fit

module _ (r : Repository) (tree : Tree) (kept : Option (List Record)) (wanted : List Record) (edits : List RefEdit) (all : AsksAll r tree kept wanted edits) where
  abbrev ours : List Record
  ours = all.asks.asked

  to_asked : (es : List Record) → AllByRecursion (λ (e : Record). record_for r e.name ≡ Some e) es → AllByRecursion (IsAsked r) es
  to_asked [] told = tt
  to_asked (e ∷ es) told = (asked_so r tree all.holds e told.0, to_asked es told.1)

  pub each_asked : AllByRecursion (IsAsked r) ours
  each_asked = to_asked ours (asked_told r tree kept wanted all)

  names_are : (es : List Record) → edited_names (map still es) None ≡ map record_name es
  names_are [] = refl
  names_are (e ∷ es) = ap (λ ns. e.name ∷ ns) (names_are es)

  moved_are : (es : List Record) → map moved_name (map still es) ≡ map record_name es
  moved_are [] = refl
  moved_are (e ∷ es) = ap (λ ns. e.name ∷ ns) (moved_are es)

  each_named : (es : List Record) → AllByRecursion (IsAsked r) es → AllByRecursion (λ name. is_name name ≡ true) (map record_name es)
  each_named [] told = tt
  each_named (e ∷ es) told = (told.0.named, each_named es told.1)

  each_stands : (es : List Record) → AllByRecursion (IsAsked r) es → AllByRecursion (λ name. stands r name ≡ true) (map record_name es)
  each_stands [] told = tt
  each_stands (e ∷ es) told = (stands_at r e.name e.target told.0.at, each_stands es told.1)

  next_entry : (e : Record) → IsAsked r e → IsNextEntry r (still e)
  next_entry e asked =
      let id = target_id r all.sound.written e.name e.target asked.at in
      record {
        formed = λ i. ((id i && id i && true) && true) && true;
        before = ap (λ o. unwrap_or o (null_id r.kind)) (sym asked.at);
      }

  each_next : (es : List Record) → AllByRecursion (IsAsked r) es → AllByRecursion (IsNextEntry r) (map still es)
  each_next [] told = tt
  each_next (e ∷ es) told = (next_entry e told.0, each_next es told.1)

  are_edits : (es : List Record) (asks : List RefEdit) → AllZip AsksPack es asks → AreEdits (map still es) None asks
  are_edits [] [] zip = refl
  are_edits [] (edit ∷ asks) zip = absurd zip
  are_edits (e ∷ es) [] zip = absurd zip
  are_edits (e ∷ es) (edit ∷ asks) zip = (zip.0.move, are_edits es asks zip.1)

  all_plain : (es : List Record) (asks : List RefEdit) → AllZip AsksPack es asks → AllByRecursion (λ (edit : RefEdit). edit.deref ≡ false) asks
  all_plain [] [] zip = tt
  all_plain [] (edit ∷ asks) zip = absurd zip
  all_plain (e ∷ es) [] zip = absurd zip
  all_plain (e ∷ es) (edit ∷ asks) zip = (zip.0.plain, all_plain es asks zip.1)

  fits : CanBeEdited r (map still ours) None
  fits = record {
    named = subst (AllByRecursion (λ name. is_name name ≡ true)) (sym (names_are ours)) (each_named ours each_asked);
    once = ap (has_twice bytes_eq) (names_are ours) ∙ asked_once r tree kept wanted all;
    apart = λ name other among either_one.
        let there : stands r name ≡ true = each_of (λ n. stands r n ≡ true) (map record_name ours) (each_stands ours each_asked) name (subst (λ ns. Contains ns name) (moved_are ours) among) in
        let other_there : stands r other ≡ true = elim either_one [
          | inl stood ↦ stood
          | inr one ↦ each_of (λ n. stands r n ≡ true) (map record_name ours) (each_stands ours each_asked) other (subst (λ ns. Contains ns other) (names_are ours) one)
        ] in
        or_from (is_below name other) (is_below other name) (all.sound.whole.names.apart name other there other_there) (all.sound.whole.names.apart other name other_there there);
    each = each_next ours each_asked;
    gone = tt;
  }

pub packs_fit : PacksFit
packs_fit r tree kept wanted edits all = (
  fits r tree kept wanted edits all,
  are_edits r tree kept wanted edits all all.asks.asked edits all.asks.asks,
  all_plain r tree kept wanted edits all all.asks.asked edits all.asks.asks,
)
