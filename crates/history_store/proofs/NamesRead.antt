-- What gix_ref reads of a name, with the records that are kept, and what that is over the names of a repository.
use Rattle.std.proofs.Common.{◌≡◌, ◌++◌, ◌∷◌, [], Bool, true, false, cond, List, refl, sym, ◌∙◌, ap, subst, Option, Some, None, option_map, unwrap_or}
use Rattle.std.specs.Prelude.{Result, Ok, Err, MatchOption, option_copied}
use Rattle.std.specs.Borrow.{Bor}
use Rattle.std.proofs.lemmas.List.Sorted.{IsPermutation-refl}
use Rattle.gix_hash.specs.Id.{Id}
use Rattle.gix_hash.specs.declared.kind.Kind.{Kind}
use Rattle.gix_ref_file.specs.Tree.{Tree}
use Rattle.gix_ref_name.specs.Targets.{id_in, target_view}
use Rattle.gix_ref_format.specs.Packed.{Record, packed_records}
use Rattle.gix_ref_format.specs.PackedBuffer.{KeepsFile}
use Rattle.gix_ref_format.specs.PackedKept.{kept}
use Rattle.gix_ref_format.specs.declared.loose.Error.{Error as LooseError}
use Rattle.gix_ref_format.specs.declared.packed.buffer.Buffer.{Buffer}
use Rattle.gix_ref_store.specs.Finds.{TellsState, state_of}
use Rattle.gix_ref_store.specs.Known.{known_as}
use Rattle.gix_ref_store.specs.Listings.{IsListing, is_listed, names_with}
use Rattle.gix_ref_store.specs.Lookups.{reads_with}
use Rattle.gix_ref_store.specs.Places.{Base}
use Rattle.gix_ref_store.specs.RefStates.{Met, RefState, Faulty, InFile, packed_text_in, ref_state}
use Rattle.gix_ref_store.specs.RefStates as states
use Rattle.gix_ref_store.specs.declared.reference.Reference.{Reference}
use Rattle.gix_ref_store.specs.declared.store.file.find.Error.{Error}
use Rattle.gix_ref_store.specs.declared.store.file.find.Error.TheVariants.{ReferenceCreation}
use Rattle.gix_ref_store.specs.Stores.{base_of}
use Rattle.gix_ref_store.proofs.Among.{kept_reads, none_reads}
use Rattle.history_model.specs.Bytes.{Bytes, begins}
use Rattle.history_model.specs.Forms.{is_name}
use Rattle.history_model.specs.NameStates.{Absent, loose_state, name_state, packed_text_state}
use Rattle.history_model.specs.PackedNames.{PackedAgrees, packed_with}
use Rattle.history_model.specs.Places.{file_at, packed_place}
use Rattle.history_model.specs.Repository.{Repository, id_at}
use Rattle.history_layout.specs.Passing.{reads_as}
use Rattle.history_layout.specs.TreeHalves.{HoldsNames}
use Rattle.history_layout.proofs.PackedReads.{reads_held}
use Rattle.history_edits.specs.Bridges.{ReadsAs, root_base}
use Rattle.history_edits.proofs.WholeReads.{reads_whole}
use Rattle.history_store.specs.Packing.{KeepsRecords, id_read, told_id}
use Rattle.history_store.specs.declared.names.Names.{Names}
use Rattle.history_store.proofs.Transactions.{file_kept, lent, lent_keeps, root_is}

-- ---- with the records that are kept

-- the store reads as the tree says
pub store_reads : {F : Type 0} (names : Names F) (tree : Tree) (packed : Option (Bor Buffer)) → option_copied packed ≡ names.packed → KeepsRecords names tree → (name : Bytes) → reads_with names.store tree packed name ≡ ref_state (root_base names.kind) tree name
store_reads names tree packed is keeps name =
    go packed (file_kept names.kind names.store names.root tree packed (lent_keeps names.kind (file_at tree packed_place) names.packed packed is keeps)) ∙ ap (λ b. ref_state b tree name) (root_is names.kind names.store names.root)
  where
    go : (p : Option (Bor Buffer)) → KeepsFile (base_of names.store).kind (packed_text_in (base_of names.store) tree) (lent p) → reads_with names.store tree p name ≡ ref_state (base_of names.store) tree name
    go None own = none_reads (base_of names.store) tree name own
    go (Some buffer) own = kept_reads (base_of names.store) tree (kept buffer.now) name own

-- and lists so
pub lists_so : {F : Type 0} (names : Names F) (tree : Tree) (packed : Option (Bor Buffer)) → option_copied packed ≡ names.packed → KeepsRecords names tree → (front folder : Bytes) → front ≡ folder ++ 47 ∷ [] → (out : List Met)
    → IsListing (reads_with names.store tree packed) (names_with names.store front) out → IsListing (ref_state (root_base names.kind) tree) (is_listed false (begins (folder ++ 47 ∷ []))) out
lists_so names tree packed is keeps front folder same out listing =
    subst (λ (read : Bytes → RefState). IsListing read (is_listed false (begins (folder ++ 47 ∷ []))) out) (λ i name. store_reads names tree packed is keeps name i)
    (subst (λ (asked : Bytes → Bool). IsListing (reads_with names.store tree packed) asked out) (λ i. is_listed (names.root.plain i) (begins (known_as (names.root.plain i) (same i)))) listing)

module _ {F : Type 0} (names : Names F) (tree : Tree) (packed : Option (Bor Buffer)) (is : option_copied packed ≡ names.packed) (keeps : KeepsRecords names tree) (name full : Bytes) (same : full ≡ name) (named : is_name name ≡ true) where
  abbrev Tells : Result (Option Reference) Error → Type 0
  Tells result = TellsState full (reads_with names.store tree packed full) result

  read_is : reads_with names.store tree packed full ≡ ref_state (root_base names.kind) tree name
  read_is = ap (reads_with names.store tree packed) same ∙ store_reads names tree packed is keeps name

  told_as : (state : RefState) → reads_with names.store tree packed full ≡ state → told_id state ≡ id_read names.kind tree name
  told_as state e = ap told_id (sym e ∙ read_is) ∙ sym (ap (λ b. cond b (told_id (ref_state (root_base names.kind) tree name)) None) named)

  -- what a lookup returned is what the name reads as
  pub some_told : (found : Option Reference) (r : Reference) → found ≡ Some r → Tells (Ok found) → id_in (target_view r.target) ≡ id_read names.kind tree name
  some_told found r e tells = told_as (state_of r) (subst (λ (o : Option Reference). Tells (Ok o)) e tells).1

  pub none_told : (found : Option Reference) → found ≡ None → Tells (Ok found) → None ≡ id_read names.kind tree name
  none_told found e tells = told_as states.Absent (subst (λ (o : Option Reference). Tells (Ok o)) e tells)

  pub fault_told : (error : Error) (why : LooseError) → error ≡ ReferenceCreation why → Tells (Err error) → None ≡ id_read names.kind tree name
  fault_told error why e tells = told_as (Faulty (InFile why)) (subst (λ x. Tells (Err x)) e tells)

-- what is no name reads as none
pub no_name_told : (kind : Kind) (tree : Tree) (name : Bytes) → is_name name ≡ false → None ≡ id_read kind tree name
no_name_told kind tree name wrong = sym (ap (λ b. cond b (told_id (ref_state (root_base kind) tree name)) None) wrong)

-- ---- over the names of a repository

told_held : (held : Option Id) (state : RefState) → ReadsAs held state → told_id state ≡ held
told_held None state reads = ap told_id reads
told_held (Some id) state reads = ap told_id reads.1

module _ (r : Repository) (tree : Tree) (h : HoldsNames tree r) (name : Bytes) where
  abbrev own_base : Base
  own_base = root_base r.kind

  from_none : KeepsFile r.kind (file_at tree packed_place) None → is_name name ≡ true → ReadsAs (id_at r name) (ref_state own_base tree name)
  from_none keeps named = subst (ReadsAs (id_at r name)) (none_reads own_base tree name keeps) (reads_whole r tree None name h keeps named)

  from_some : (records : List Record) → KeepsFile r.kind (file_at tree packed_place) (Some records) → is_name name ≡ true → ReadsAs (id_at r name) (ref_state own_base tree name)
  from_some records keeps named = subst (ReadsAs (id_at r name)) (kept_reads own_base tree records name keeps) (reads_whole r tree (Some records) name h keeps named)

  -- a name reads as what it holds
  reads_so : is_name name ≡ true → ReadsAs (id_at r name) (ref_state own_base tree name)
  reads_so named = by_file (file_at tree packed_place) refl
    where
      by_file : (file : Option Bytes) → file_at tree packed_place ≡ file → ReadsAs (id_at r name) (ref_state own_base tree name)
      by_file None is = from_none (subst (λ o. KeepsFile r.kind o None) (sym is) tt) named
      by_file (Some text) is = by_records (packed_records r.kind text) refl (h.packed text is)
        where
          by_records : (found : Option (List Record)) → packed_records r.kind text ≡ found → MatchOption (option_map (packed_with text) found) ⊥ (PackedAgrees r) → ReadsAs (id_at r name) (ref_state own_base tree name)
          by_records None e none = absurd none
          by_records (Some records) e agrees =
              from_some records (subst (λ o. KeepsFile r.kind o (Some records)) (sym is) (records, e, record { same = IsPermutation-refl records; first = λ n. refl })) named

  none_held : (held : Option Id) → Absent ≡ reads_as held → None ≡ held
  none_held None e = refl
  none_held (Some id) e = cc

  -- and what is no name holds none
  pub id_held : id_read r.kind tree name ≡ id_at r name
  id_held = go (is_name name) refl
    where
      no_name : is_name name ≡ false → name_state r.kind tree name ≡ Absent
      no_name e = ap (λ b. cond b (unwrap_or (option_map (loose_state r.kind) (file_at tree name)) (unwrap_or (option_map (packed_text_state r.kind name) (file_at tree packed_place)) Absent)) Absent) e

      go : (named : Bool) → is_name name ≡ named → id_read r.kind tree name ≡ id_at r name
      go true e = ap (λ b. cond b (told_id (ref_state own_base tree name)) None) e ∙ told_held (id_at r name) (ref_state own_base tree name) (reads_so e)
      go false e =
          ap (λ b. cond b (told_id (ref_state own_base tree name)) None) e ∙ none_held (id_at r name) (sym (no_name e) ∙ reads_held r tree h name)
