-- Names are packed by a transaction.
use Rattle.std.proofs.Common.{◌+◌, ◌==◌, get_or, is_some, length, take, ◌≡◌, ◌⊎◌, inl, inr, ℕ, zero, suc, true, false, List, [], ◌∷◌, ◌++◌, map, refl, sym, ◌∙◌, ap, subst, Option, Some, None, option_map, unwrap_or, MatchOption, arith, ◌<◌}
use Rattle.std.specs.Prelude.{Contains, option_copied}
use Rattle.std.specs.Borrow.{Bor}
use Rattle.std.specs.List.{AllByRecursion, AllZip}
use Rattle.std.proofs.lemmas.Bool.Decides.{nat_tests}
use Rattle.std.proofs.lemmas.List.{map_more}
use Rattle.std.proofs.lemmas.Option.{same_Some}
use Rattle.gix_hash.specs.Id.{Id, id_of}
use Rattle.gix_hash.specs.declared.kind.Kind.{Kind}
use Rattle.gix_object_lookup.specs.Table.{Table}
use Rattle.gix_object_lookup.specs.declared.find.Error.TheVariants as lookup
use Rattle.gix_ref_file.specs.History.{Adds, HasRisen, History}
use Rattle.gix_ref_file.specs.Tree.{Tree}
use Rattle.gix_ref_file.specs.declared.files.FileError.TheVariants.{Failed}
use Rattle.gix_ref_file.proofs.Histories.{adds_joined}
use Rattle.gix_ref_name.specs.Targets.{Points}
use Rattle.gix_ref_edit.specs.declared.change.Change.{Change}
use Rattle.gix_ref_edit.specs.declared.change.RefEdit.{RefEdit}
use Rattle.gix_ref_format.specs.Lookup.{packed_hit}
use Rattle.gix_ref_format.specs.Packed.{Record, packed_records}
use Rattle.gix_ref_format.specs.PackedBuffer.{KeepsFile}
use Rattle.gix_ref_format.specs.PackedKept.{kept}
use Rattle.gix_ref_format.specs.declared.packed.buffer.Buffer.{Buffer}
use Rattle.gix_ref_lock.specs.Committing.{IsCommitted, OnTheWay}
use Rattle.gix_ref_lock.specs.Moments.{SameButLocks}
use Rattle.gix_ref_lock.specs.Needs.{log_paths}
use Rattle.gix_ref_store.specs.Lookups.{reads_with}
use Rattle.gix_ref_store.specs.Peels.{IsLost}
use Rattle.gix_ref_store.specs.RefStates.{RefState}
use Rattle.gix_ref_store.specs.RefStates as states
use Rattle.gix_ref_store.specs.Stores.{base_of}
use Rattle.gix_ref_store.specs.declared.store.file.Store.{Store}
use Rattle.gix_ref_store.specs.declared.store.file.find.Error.TheVariants as find
use Rattle.gix_ref_store.specs.declared.store.file.find.ExistingError.TheVariants as existing
use Rattle.gix_ref_store.specs.declared.store.file.follow.Error.{Error as FollowError}
use Rattle.gix_ref_store.specs.declared.store.file.follow.Error.TheVariants as follow
use Rattle.gix_ref_store.specs.declared.store.file.peel.Error.{Error as PeelError}
use Rattle.gix_ref_store.specs.declared.store.file.peel.Error.TheVariants as peel
use Rattle.gix_ref_transaction.specs.Causes.{GivenFault, IfUnresolved}
use Rattle.gix_ref_transaction.specs.Errors.{Counts, IsOfRecords}
use Rattle.gix_ref_transaction.specs.Locking.{AreRecordsLockable, HaveRoom}
use Rattle.gix_ref_transaction.specs.LogLines.{AllLined, logging}
use Rattle.gix_ref_transaction.specs.Plans.{AllHold, AllPlanned, AreSplit, FoldersOfEdits}
use Rattle.gix_ref_transaction.specs.Repacking.{AreRepacked, changes_records}
use Rattle.gix_ref_transaction.specs.Resolving.{ChangeFault, GivesUp, PackFault, ResolveFault, TargetFault}
use Rattle.gix_ref_transaction.specs.Rollback.{SameFilesBut, all_locks}
use Rattle.gix_ref_transaction.specs.declared.error.PrepareError.{PrepareError}
use Rattle.gix_ref_transaction.specs.declared.error.PrepareError.TheVariants as fault
use Rattle.gix_ref_transaction.specs.declared.transaction.Transaction.{Transaction}
use Rattle.gix_ref_way.specs.Ways.{FoldersOnlyOf}
use Rattle.history_model.specs.Bytes.{Bytes}
use Rattle.history_model.specs.PackedNames.{is_packed_form, packed_file, packed_with}
use Rattle.history_model.specs.Places.{file_at, packed_place}
use Rattle.history_model.specs.Repository.{Repository}
use Rattle.history_layout.specs.PackSteps.{HasAllNames, HasPacked, PacksAll, PacksNames, PacksOnTheWay}
use Rattle.history_layout.specs.TreeHalves.{HoldsNames}
use Rattle.history_edits.specs.Bridges.{root_base}
use Rattle.history_edits.specs.EditCommits.{HasNameFolders}
use Rattle.history_edits.specs.EditFaults.{IsExcused}
use Rattle.history_edits.specs.EditPlans.{IsPrepared, logging_of}
use Rattle.history_edits.specs.PackPlans.{AsksAll, AsksPack, AsksToPack, IsPackReady, IsPackedSo, IsTableOf, LeavesOut, PeelsAlike, record_name, still}
use Rattle.history_edits.proofs.EditLocks.{edits_have_room}
use Rattle.history_edits.proofs.PackExcused.{packs_are_excused}
use Rattle.history_edits.proofs.PackMoments.{pack_commits, pack_is_made, pack_prepares}
use Rattle.history_edits.proofs.PackPlanned.{IsAsked, each_asked, pack_is_ready, packs_fit}
use Rattle.history_edits.proofs.PeelsWhole.{peels_whole}
use Rattle.history_edits.proofs.RecordTaken.{form_of}
use Rattle.history_edits.proofs.RecordLocks.{records_are_lockable}
use Rattle.history_edits.proofs.Unsplit.{unsplit_stay}
use Rattle.history_store.specs.Changing.{IsReadable}
use Rattle.history_store.specs.Faults.{of_following, of_peeling, of_preparing}
use Rattle.history_store.specs.Packed.{AsksPacks, MayPack, record_of_name, records_of}
use Rattle.history_store.specs.Packing.{kept_hit}
use Rattle.history_store.specs.RootStore.{IsRootStore}
use Rattle.history_store.specs.declared.names.Names.{Names}
use Rattle.history_store.specs.declared.packs.PackedName.{PackedName}
use Rattle.history_store.proofs.NamesChanged.{lent_of}
use Rattle.history_store.proofs.Transactions.{given_so, lent, prepare_told, prepared_so, root_is}

-- ---- no object is found

gives_up : (R : Type 0) (error : FollowError) → GivesUp R error → of_following error ≡ Failed → R
gives_up R (follow.Follow existing.NotFound) gives told = absurd gives
gives_up R (follow.Follow (existing.Find (find.ReferenceCreation error))) gives told = absurd gives
gives_up R (follow.Follow (existing.Find (find.PackedOpen error))) gives told = absurd gives
gives_up R (follow.Follow (existing.Find find.ReadFileContents)) gives told = gives
gives_up R (follow.Follow (existing.Find find.Memory)) gives told = cc
gives_up R follow.Cycle gives told = absurd gives
gives_up R follow.DepthLimitExceeded gives told = absurd gives
gives_up R follow.Memory gives told = cc

-- only if a reading or a lookup failed
unfound : (R M : Type 0) (table : Table) (id : Id) → ((end : Id) → IsLost table id end → ⊥) → (why : PeelError) → ResolveFault R M table id why → of_peeling why ≡ Failed → R ⊎ M
unfound R M table id never (peel.FollowToObject error) why told = inl (gives_up R error why told)
unfound R M table id never (peel.Find lookup.Failed) why told = inr why
unfound R M table id never (peel.Find lookup.Memory) why told = cc
unfound R M table id never (peel.NotFound oid) why told = absurd (never (id_of oid) why)
unfound R M table id never peel.Memory why told = cc

-- a fault of the files is one of both
pub wider_fault : (R M : Type 0) (before now : ℕ) → HasRisen before now ⊎ R → HasRisen before now ⊎ (R ⊎ M)
wider_fault R M before now (inl risen) = inl risen
wider_fault R M before now (inr may) = inr (inl may)

-- the record that an edit is for
asked_by : (r : Repository) (es : List Record) (edits : List RefEdit) (edit : RefEdit) → AllZip AsksPack es edits → AllByRecursion (IsAsked r) es → Contains edits edit → (e : Record) × IsAsked r e × AsksPack e edit
asked_by r [] [] edit asks told (k, lt, is) = let none : ⊥ = omega (arith, lt) in absurd none
asked_by r [] (other ∷ edits) edit asks told among = absurd asks
asked_by r (e ∷ es) [] edit asks told among = absurd asks
asked_by r (e ∷ es) (other ∷ edits) edit asks told (zero, lt, is) = (e, told.0, subst (AsksPack e) is asks.0)
asked_by r (e ∷ es) (other ∷ edits) edit asks told (suc k, lt, is) = asked_by r es edits edit asks.1 told.1 (k, omega (arith, lt), is)

-- ---- one transaction

module _ (r : Repository) (wanted : List Record) (edits : List RefEdit) (old : History) (kind : Kind) (same : kind ≡ r.kind) {F : Type 0} (store : Store F) (root : IsRootStore kind store) (packed : Option (Bor Buffer)) (all : AsksAll r old.tree (lent packed) wanted edits) where
  abbrev read : Bytes → RefState
  read = reads_with store old.tree packed

  based : base_of store ≡ root_base r.kind
  based = root_is kind store root ∙ ap root_base same

  plain : AllByRecursion (λ (edit : RefEdit). edit.deref ≡ false) edits
  plain = (packs_fit r old.tree (lent packed) wanted edits all).2

  -- while it is prepared
  pub preparing : (mid : History) → Adds (SameButLocks old.tree) old mid → Adds (FoldersOfEdits read (base_of store) edits old.tree) old mid → Adds (PacksOnTheWay r old.tree) old mid × HasNameFolders mid.tree
  preparing mid stays only = pack_prepares r read (lent packed) wanted edits old mid all stays (subst (λ b. Adds (FoldersOfEdits read b edits old.tree) old mid) based only)

  -- why it isn't
  module _ {O : Type 0} (fails : O → Type 0) (table : O → Table) (objects : O) (peels : PeelsAlike r (table objects)) (may_fail : Type 0) where
    abbrev Why : Id → PeelError → Type 0
    Why = PackFault may_fail fails table (Some objects)

    by_object : (id : Id) → ((end : Id) → IsLost (table objects) id end → ⊥) → (why : PeelError) → Why id why → of_peeling why ≡ Failed → may_fail ⊎ fails objects
    by_object id never why (o, is, because) told =
        unfound may_fail (fails objects) (table objects) id never why (subst (λ x. ResolveFault may_fail (fails x) (table x) id why) (sym (same_Some objects o is)) because) told

    sought : (why : PeelError) → IfUnresolved read Why edits (fault.Resolve why) → of_peeling why ≡ Failed → may_fail ⊎ fails objects
    sought why (split, are, (edit, among, because)) told =
        let own = asked_by r all.asks.asked edits edit all.asks.asks (each_asked r old.tree (lent packed) wanted edits all) (subst (λ es. Contains es edit) (unsplit_stay read edits split plain are) among) in
        by_object own.0.target (peels.found own.0.name own.0.target own.1.at) why
        (subst (λ (new : Points). TargetFault Why new why) own.2.move.target (subst (λ (change : Change). ChangeFault Why change why) own.2.move.change because)) told

    pub unprepared : (before now : ℕ) → (error : PrepareError) → of_preparing error ≡ Failed → GivenFault (logging store.options read None) (base_of store) store.options.precompose_unicode old.tree may_fail edits error → Counts before now error
        → (AreRecordsLockable (base_of store) old.tree → IsOfRecords error → HasRisen before now ⊎ may_fail) → IfUnresolved read Why edits error → HasRisen before now ⊎ (may_fail ⊎ fails objects)
    unprepared before now error told given counts records lost =
        prepare_told before now may_fail read fails table edits (HasRisen before now ⊎ (may_fail ⊎ fails objects)) (wider_fault may_fail (fails objects) before now) error told own counts
        (records (subst (λ b. AreRecordsLockable b old.tree) (sym based) (records_are_lockable r old.tree all.holds)))
        (λ why is failed. inr (sought why (subst (IfUnresolved read Why edits) is lost) failed))
      where
        given_here : GivenFault (logging_of r.kind (lent packed) None old.tree) (root_base r.kind) false old.tree may_fail edits error
        given_here = subst (λ k. GivenFault (logging_of k (lent packed) None old.tree) (root_base k) false old.tree may_fail edits error) same (given_so kind store root old.tree packed None may_fail edits error given)

        own : IsExcused may_fail error
        own = packs_are_excused may_fail r (lent packed) None wanted edits old.tree error all given_here

  -- what is prepared has room
  pub room : (prepared : List RefEdit) → AreSplit read edits prepared → HaveRoom (base_of store) old.tree prepared
  room prepared split =
      let fit = packs_fit r old.tree (lent packed) wanted edits all in
      subst (λ es. HaveRoom (base_of store) old.tree es) (sym (unsplit_stay read edits prepared plain split))
      (subst (λ b. HaveRoom b old.tree edits) (sym based) (edits_have_room r (map still all.asks.asked) None edits old.tree all.holds all.sound.whole.names.apart fit.0 fit.1))

  module _ (table : Table) (peels : PeelsAlike r table) (t : Transaction) (mid : History) (split : AreSplit read edits t.edits.items) (plans : AllPlanned (base_of store) true t.edits.items t.moves.items) (hold : AllHold mid.tree t.edits.items t.moves.items)
      (lined : AllLined (logging store.options read None) (base_of store) old.tree t.edits.items t.moves.items) (repacked : AreRepacked (base_of store) (Some table) old.tree mid.tree t.edits.items t.packed)
      (files : SameFilesBut (all_locks t.packed t.moves.items) old.tree mid.tree) where
    abbrev names : List Bytes
    names = map record_name all.asks.asked

    ready : IsPackReady r names old.tree mid.tree t.packed t.moves.items
    ready = pack_is_ready r table (lent packed) None wanted edits old.tree mid.tree t.packed t.moves.items all peels
        (subst (λ k. IsPrepared k (lent packed) None true (Some table) edits old.tree mid.tree t.packed t.moves.items) same
        (prepared_so kind store root old.tree packed None true (Some table) edits mid.tree t (unsplit_stay read edits t.edits.items plain split) plans hold lined repacked files))

    module _ (prepared : Adds (PacksOnTheWay r old.tree) old mid × HasNameFolders mid.tree) (new : History) (way : Adds (OnTheWay t.packed t.moves.items mid.tree) mid new) (logs : Adds (FoldersOnlyOf (log_paths t.moves.items) mid.tree) mid new) where
      committed : Adds (PacksOnTheWay r old.tree) mid new × HasNameFolders new.tree
      committed = pack_commits r names old.tree mid new t.packed t.moves.items ready prepared.1 way logs

      -- while it is committed
      pub passing : Adds (PacksOnTheWay r old.tree) old new
      passing = adds_joined old mid new prepared.0 committed.0

      -- after that
      pub packs : IsCommitted t.packed t.moves.items mid.tree new.tree → PacksNames r old.tree new.tree
      packs done = pack_is_made r names old.tree mid.tree new.tree t.packed t.moves.items ready done committed.1

-- ---- what is asked

module _ {F : Type 0} (IsHonest : F → Type 0) (history : F → History) (Honest : Type 0) (table : Table) where
  -- with the records that are lent
  pub all_asked : (names : Names F) (r : Repository) (wanted : List Record) (edits : List RefEdit) (packed : Option (Bor Buffer)) → option_copied packed ≡ names.packed → AsksPacks IsHonest history names r Honest table wanted edits
      → AsksAll r (history names.store.files).tree (lent packed) wanted edits
  all_asked names r wanted edits packed is asks = subst (λ ks. AsksAll r (history names.store.files).tree ks wanted edits) (lent_of names.packed packed is) asks.asks

  pub peels_so : (names : Names F) (r : Repository) (wanted : List Record) (edits : List RefEdit) → AsksPacks IsHonest history names r Honest table wanted edits → PeelsAlike r table
  peels_so _ r wanted edits asks = peels_whole r table asks.asks.sound asks.stored

  -- with the edits that are made of what the names read as
  pub asks_so : (names : Names F) (r : Repository) (listed : List PackedName) (edits : List RefEdit) → MayPack IsHonest history names r Honest table listed
      → (IsHonest names.store.files → AsksToPack (history names.store.files).tree (unwrap_or (option_map kept names.packed) []) (records_of listed) edits)
      → AsksPacks IsHonest history names r Honest table (records_of listed) edits
  asks_so names r listed edits may asks = record {
    whole = may.whole;
    objects = may.objects;
    stored = may.stored;
    asks = record {
      sound = may.sound;
      holds = may.whole.holds;
      keeps = subst (λ k. KeepsFile k (file_at (history names.store.files).tree packed_place) (option_map kept names.packed)) may.whole.kind may.whole.records;
      each = may.each;
      once = may.once;
      asks = asks may.whole.honest;
    };
  }

pub no_edits : (edits : List RefEdit) → (length edits == 0) ≡ true → edits ≡ []
no_edits [] none = refl
no_edits (edit ∷ edits) none = let z : ⊥ = grind (arith, nat_tests, none) in absurd z

-- no record changes by no lines
unchanged : (r : Repository) (tree : Tree) → HoldsNames tree r → changes_records (states.records_of r.kind (file_at tree packed_place)) [] ≡ false
unchanged r tree holds = go (file_at tree packed_place) refl
  where
    read : (text : Bytes) → (o : Option (List Record)) → MatchOption (option_map (packed_with text) o) ⊥ (λ packed. is_packed_form packed ≡ true) → changes_records o [] ≡ false
    read text None formed = absurd formed
    read text (Some records) formed = refl

    go : (file : Option Bytes) → file_at tree packed_place ≡ file → changes_records (states.records_of r.kind file) [] ≡ false
    go None at = refl
    go (Some text) at = read text (packed_records r.kind text) (form_of r tree holds text at)

-- if nothing is asked, all are packed already
pub packed_already : (r : Repository) (table : Table) (records : Option (List Record)) (wanted : List Record) (edits : List RefEdit) (tree : Tree) → AsksAll r tree records wanted edits → IsTableOf r table → edits ≡ [] → PacksNames r tree tree
packed_already r table records wanted edits tree all stored none =
    pack_is_made r (map record_name all.asks.asked) tree tree tree None []
    (pack_is_ready r table records None wanted edits tree tree None [] all (peels_whole r table all.sound stored)
    (subst (λ es. IsPrepared r.kind records None true (Some table) es tree tree None []) (sym none)
    (record { plans = tt; hold = tt; lined = tt; repacked = ([], refl, unchanged r tree all.holds); files = λ path away. refl })))
    (record { each = tt; packed = tt; unlocked = tt; others = λ path away. refl }) all.holds.folders

-- records of all names are read
pub packed_readable : (r : Repository) (kind : Kind) (tree : Tree) → kind ≡ r.kind → HasPacked r tree → IsReadable kind tree
packed_readable r kind tree same has text at none = go (file_at tree packed_place) at has
  where
    by_file : (o : Option (List Record)) → o ≡ None → MatchOption (option_map (packed_with text) o) ⊥ (HasAllNames r) → ⊥
    by_file None is h = h
    by_file (Some records) is h = cc

    go : (o : Option Bytes) → o ≡ Some text → PacksAll r o → ⊥
    go None e h = cc
    go (Some own) e h = by_file (packed_records r.kind text) (ap (λ k. packed_records k text) (sym same) ∙ none)
        (subst (λ t. MatchOption (packed_file r.kind t) ⊥ (HasAllNames r)) (same_Some own text e) h)

-- ---- one name more

module _ (Out : Record → Type 0) where
  left_out : (wanted asked : List Record) (e : Record) → LeavesOut Out wanted asked → Out e → LeavesOut Out (wanted ++ e ∷ []) asked
  left_out [] asked e is out = inl (out, is)
  left_out (x ∷ wanted) asked e (inl (own, left)) out = inl (own, left_out wanted asked e left out)
  left_out (x ∷ wanted) asked e (inr (rest, left, is)) out = inr (rest, left_out wanted rest e left out, is)

  left_in : (wanted asked : List Record) (e : Record) → LeavesOut Out wanted asked → LeavesOut Out (wanted ++ e ∷ []) (asked ++ e ∷ [])
  left_in [] asked e is = inr ([], refl, ap (λ es. es ++ e ∷ []) is)
  left_in (x ∷ wanted) asked e (inl (own, left)) = inl (own, left_in wanted asked e left)
  left_in (x ∷ wanted) asked e (inr (rest, left, is)) = inr (rest ++ e ∷ [], left_in wanted rest e left, ap (λ es. es ++ e ∷ []) is)

zip_more : (asked : List Record) (edits : List RefEdit) (e : Record) (edit : RefEdit) → AllZip AsksPack asked edits → AsksPack e edit → AllZip AsksPack (asked ++ e ∷ []) (edits ++ edit ∷ [])
zip_more [] [] e edit zip one = (one, tt)
zip_more [] (x ∷ edits) e edit zip one = absurd zip
zip_more (x ∷ asked) [] e edit zip one = absurd zip
zip_more (x ∷ asked) (y ∷ edits) e edit zip one = (zip.0, zip_more asked edits e edit zip.1 one)

module _ (tree : Tree) (records : List Record) where
  pub none_asked : AsksToPack tree records [] []
  none_asked = record { asked = []; left = refl; asks = tt }

  pub one_left : (wanted : List Record) (edits : List RefEdit) (e : Record) → AsksToPack tree records wanted edits → IsPackedSo tree records e → AsksToPack tree records (wanted ++ e ∷ []) edits
  one_left wanted edits e so_far out = record { asked = so_far.asked; left = left_out (IsPackedSo tree records) wanted so_far.asked e so_far.left out; asks = so_far.asks }

  pub one_asked : (wanted : List Record) (edits : List RefEdit) (e : Record) (edit : RefEdit) → AsksToPack tree records wanted edits → AsksPack e edit → AsksToPack tree records (wanted ++ e ∷ []) (edits ++ edit ∷ [])
  one_asked wanted edits e edit so_far asks = record {
    asked = so_far.asked ++ e ∷ [];
    left = left_in (IsPackedSo tree records) wanted so_far.asked e so_far.left;
    asks = zip_more so_far.asked edits e edit so_far.asks asks;
  }

-- the record among those that are kept
pub kept_so : (packed : Option Buffer) (name : Bytes) (e : Record) → kept_hit packed name ≡ Some e → packed_hit (unwrap_or (option_map kept packed) []) name ≡ Some e
kept_so None name e found = cc
kept_so (Some buffer) name e found = found

pub no_file : (tree : Tree) (path : Bytes) → is_some (file_at tree path) ≡ false → file_at tree path ≡ None
no_file tree path none = go (file_at tree path) none
  where
    go : (o : Option Bytes) → is_some o ≡ false → o ≡ None
    go None e = refl
    go (Some text) e = cc

-- the records of one name more
pub grown_records : (names : List PackedName) (i : ℕ) (d n : PackedName) → i < length names → n ≡ get_or names i d → records_of (take (i + 1) names) ≡ records_of (take i names) ++ record_of_name n ∷ []
grown_records names i d n inside is = map_more record_of_name names i d inside ∙ ap (λ x. map record_of_name (take i names) ++ record_of_name x ∷ []) (sym is)
