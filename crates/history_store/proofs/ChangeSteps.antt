-- The steps of a change of names: it is made, and the records are read again.
use Rattle.std.proofs.Common.{◌≡◌, ◌≢◌, List, refl, sym, ◌∙◌, ap, subst, Option, Some, None, Ok, Err, option_map, MatchOption}
use Rattle.std.specs.Prelude.{OnOk, Result, is_some, false}
use Rattle.gix_hash.specs.declared.kind.Kind.{Kind}
use Rattle.gix_ref_file.specs.History.{Adds, History}
use Rattle.gix_ref_file.specs.Tree.{Tree}
use Rattle.gix_ref_format.specs.Packed.{Record, packed_records}
use Rattle.gix_ref_format.specs.PackedBuffer.{FileFault, KeepsFile}
use Rattle.gix_ref_format.specs.PackedKept.{kept}
use Rattle.gix_ref_format.specs.declared.packed.buffer.Error.{Error}
use Rattle.gix_ref_format.specs.declared.packed.buffer.Error.TheVariants as faults
use Rattle.gix_ref_file.specs.declared.files.FileError.TheVariants.{Failed}
use Rattle.history_model.specs.Bytes.{Bytes}
use Rattle.history_model.specs.PackedNames.{PackedFile, packed_file, packed_with}
use Rattle.history_model.specs.Places.{file_at, packed_place}
use Rattle.history_model.specs.Repository.{Repository}
use Rattle.history_layout.specs.EditSteps as edits
use Rattle.history_layout.specs.EditSteps.{EditsMade}
use Rattle.history_layout.specs.TakeSteps.{LacksName, LacksRecord, TakesRecord}
use Rattle.history_layout.proofs.ReadRecords.{bad_header, bad_line}
use Rattle.history_store.specs.Changing.{IsReadable, MakesChange}
use Rattle.history_store.specs.Faults.{of_opening}
use Rattle.history_store.specs.Packing.{KeepsRecords, kept_hit}
use Rattle.history_store.specs.declared.names.Names.{Names}

-- what holds is so if a call succeeds
pub always_ok : {T E P : Type 0} (result : Result T E) → P → OnOk result P
always_ok (Ok x) holds = holds
always_ok (Err error) holds = tt

-- the records that are kept are those of the file if it and they are as before
keeps_on : {F : Type 0} (a b : Names F) (t u : Tree) → b.kind ≡ a.kind → b.packed ≡ a.packed → file_at u packed_place ≡ file_at t packed_place → KeepsRecords a t → KeepsRecords b u
keeps_on a b t u kinds packed files h =
    subst (λ o. KeepsFile b.kind o (option_map kept b.packed)) (sym files)
    (subst (λ p. KeepsFile b.kind (file_at t packed_place) (option_map kept p)) (sym packed)
    (subst (λ k. KeepsFile k (file_at t packed_place) (option_map kept a.packed)) (sym kinds) h))

-- ---- the records after a change

readable_text : (kind : Kind) (name : Bytes) (old new : Option Bytes) → LacksRecord kind name old new → (text : Bytes) → new ≡ Some text → packed_records kind text ≢ None
readable_text kind name None new lacks text is none = cc
readable_text kind name (Some was) None lacks text is none = absurd lacks
readable_text kind name (Some was) (Some now) lacks text is none = go (packed_file kind was) (packed_records kind now) (ap (packed_records kind) same ∙ none) lacks
  where
    same : now ≡ text
    same = cc

    go : (old : Option PackedFile) (o : Option (List Record)) → o ≡ None → MatchOption old ⊥ (λ a. MatchOption (option_map (packed_with now) o) ⊥ (LacksName name a)) → ⊥
    go None o e k = k
    go (Some a) None e k = k
    go (Some a) (Some records) e k = cc

-- records without one name are read
pub readable : (kind : Kind) (name : Bytes) (old new : Tree) → TakesRecord kind name old new → IsReadable kind new
readable kind name old new takes = readable_text kind name (file_at old packed_place) (file_at new packed_place) takes

module _ {F : Type 0} (history : F → History) where
  -- the same files after
  pub after_it : (P : Tree → Type 0) (a b c : F) → c ≡ b → Adds P (history a) (history b) → Adds P (history a) (history c)
  after_it P a b c same adds = subst (λ f. Adds P (history a) (history f)) (sym same) adds

  -- what is made is made of the repository's kind
  pub made_of : (b c d : Names F) (r : Repository) (moved : List edits.MovedName) (taken : Option Bytes) → b.kind ≡ r.kind → d.store.files ≡ c.store.files
      → MakesChange b moved taken (history b.store.files).tree (history c.store.files).tree → EditsMade r.kind moved taken (history b.store.files).tree (history d.store.files).tree
  made_of b c d r moved taken kinds last makes =
      subst (λ (f : F). EditsMade r.kind moved taken (history b.store.files).tree (history f).tree) (sym last)
      (subst (λ k. EditsMade k moved taken (history b.store.files).tree (history c.store.files).tree) kinds makes.made)

  -- the records are those that were kept, if none goes
  pub none_goes : (b c : Names F) (moved : List edits.MovedName) → c.kind ≡ b.kind → c.packed ≡ b.packed → KeepsRecords b (history b.store.files).tree → MakesChange b moved None (history b.store.files).tree (history c.store.files).tree
      → KeepsRecords c (history c.store.files).tree
  none_goes b c moved kinds packed keeps makes = keeps_on b c (history b.store.files).tree (history c.store.files).tree kinds packed makes.made.gone keeps

  -- or if the one that goes has none
  pub none_hit : (b c d : Names F) (moved : List edits.MovedName) (name : Bytes) → c.kind ≡ b.kind → c.packed ≡ b.packed → d.store.files ≡ c.store.files → KeepsRecords b (history b.store.files).tree
      → MakesChange b moved (Some name) (history b.store.files).tree (history c.store.files).tree → kept_hit c.packed name ≡ None → KeepsRecords c (history d.store.files).tree
  none_hit b c d moved name kinds packed last keeps makes none =
      subst (λ (f : F). KeepsRecords c (history f).tree) (sym last)
      (keeps_on b c (history b.store.files).tree (history c.store.files).tree kinds packed (makes.stay (ap (λ p. kept_hit p name) (sym packed) ∙ none)) keeps)

  -- they can be read
  pub read_again : (b c d : Names F) (moved : List edits.MovedName) (name : Bytes) → c.kind ≡ b.kind → d.kind ≡ c.kind → d.store.files ≡ c.store.files → MakesChange b moved (Some name) (history b.store.files).tree (history c.store.files).tree → IsReadable d.kind (history d.store.files).tree
  read_again b c d moved name kinds still last makes =
      subst (λ (f : F). IsReadable d.kind (history f).tree) (sym last)
      (subst (λ k. IsReadable k (history c.store.files).tree) (sym (still ∙ kinds)) (readable b.kind name (history b.store.files).tree (history c.store.files).tree makes.made.gone.packed))

-- and so fails only a call that reads
pub opened : (kind : Kind) (file : Option Bytes) (error : Error) → ((text : Bytes) → file ≡ Some text → packed_records kind text ≢ None) → FileFault kind file error → of_opening error ≡ Failed → error ≡ faults.Io
opened kind file faults.Io can fault told = refl
opened kind file faults.Memory can fault told = cc
opened kind None (faults.Iter number) can fault told = absurd fault
opened kind None faults.HeaderParsing can fault told = absurd fault
opened kind (Some text) (faults.Iter number) can fault told = absurd (can text refl (bad_line kind text number fault))
opened kind (Some text) faults.HeaderParsing can fault told = absurd (can text refl (bad_header kind text fault))

pub no_record : (hit : Option Record) → is_some hit ≡ false → hit ≡ None
no_record None none = refl
no_record (Some e) none = cc
