-- What `names` returns, by what its folder lists.
use Rattle.std.proofs.Common.{◌≡◌, ℕ, zero, suc, ◌<◌, arith, get_or, inl, inr, Bool, true, false, cond, not, ◌&&◌, ◌||◌, T, List, [], ◌∷◌, ◌++◌, map, length, refl, sym, ◌∙◌, ap, subst, Option, Some, None, option_map, is_some, unwrap_or, filter, codes, bytes_eq, Vec, Ok}
use Rattle.std.specs.declared.alloc.Global.{Global}
use Rattle.std.specs.Ordering.{eq_by_cmp, is_lt}
use Rattle.std.specs.Cmp.Lexicographic.{nat_list_cmp_total}
use Rattle.std.specs.FinMap.{entries, entries_sorted, get, get-entries, find, is_sorted, slice_cmp-IsAntisymmetric, nat_cmp-IsAntisymmetric}
use Rattle.std.specs.FinMap.Entries.{below_all, same_entries, find-where_key, is_sorted-where_key}
use Rattle.std.specs.List.{AllByRecursion, list_any}
use Rattle.std.specs.Borrow.{Bor}
use Rattle.std.specs.Prelude.{IsSome, option_copied}
use Rattle.std.proofs.lemmas.Bool.{and_parts}
use Rattle.std.proofs.lemmas.List.{map-append}
use Rattle.gix_ref_file.specs.History.{History}
use Rattle.gix_ref_file.specs.declared.files.FileError.{FileError}
use Rattle.gix_ref_file.specs.declared.files.FileError.TheVariants.{Failed, Memory}
use Rattle.gix_hash.specs.Id.{Id, id_of, null_id}
use Rattle.gix_hash.specs.declared.kind.Kind.{Kind}
use Rattle.history_model.specs.Bytes.{Bytes, by_bytes}
use Rattle.history_model.specs.FileMap.{is_below}
use Rattle.history_model.specs.Forms.{is_name, is_private, is_reference, IsWritten}
use Rattle.history_model.specs.Repository.{Repository, Reference, HasWholeNames, id_at, peeled}
use Rattle.history_model.specs.Places.{Pair}
use Rattle.history_model.specs.StandsFor.{StandsFor}
use Rattle.history_model.specs.Commands.{Names}
use Rattle.history_model.specs.Causes.{first_cause}
use Rattle.history_model.specs.Objects.{hex}
use Rattle.history_model.specs.Replies.{NameLine, NamesAre, reply_text}
use Rattle.history_model.specs.Spelling.{Part, Line}
use Rattle.history_model.specs.Answers.{is_in_folder, names_shown}
use Rattle.history_model.specs.declared.Cause.{Cause}
use Rattle.history_model.specs.declared.Cause.TheVariants.{BadName, PrivateName}
use Rattle.history_model.proofs.WholeLists.{In}
use Rattle.history_model.proofs.WholeStores.{in_get}
use Rattle.history_files.proofs.Lines.{map_twice}
use Rattle.history_store.specs.AllNames.{ListsAll, NameIds, id_below, name_entry}
use Rattle.history_store.specs.Packing.{id_read}
use Rattle.history_store.specs.declared.listed.NamedId.{NamedId}
use Rattle.history_repository.specs.Reads.{OnlyAnswers, IsReadingFault}
use Rattle.history_repository.specs.NameForms.{form_cause}
use Rattle.history_repository.specs.Face.{names_part}
use Rattle.history_repository.specs.Faults.{file_fault}
use Rattle.history_repository.specs.Held.{held_commit}
use Rattle.history_repository.specs.NamesShown.{ArePeeled, folder_cause, shown_name, told_name}
use Rattle.history_repository.specs.declared.shown.Shown.{Shown}
use Rattle.history_repository.specs.Stands.{Stands, pair_of}
use Rattle.history_repository.specs.declared.stopped.Stopped.TheVariants.{Fault}
use Rattle.history_repository.proofs.NameReads.{refs_front, state_told}
use Rattle.history_repository.specs.Held as shown_held
use Rattle.history_repository.specs.declared.repository.Repository as own

-- ---- the folder

-- the folder of all names, if none is given
abbrev pub asked_folder : Option Bytes → Bytes
asked_folder folder = unwrap_or folder (codes "refs")

abbrev by_names : List Bytes → Option Cause
by_names names = cond (list_any (λ name. not (is_name name)) names || false) (Some BadName) (cond (list_any is_private names) (Some PrivateName) None)

pub asked_is : (folder : Option (Bor Bytes)) (all got : Bor Bytes) → got ≡ unwrap_or folder all → all.now ≡ codes "refs" → got.now ≡ asked_folder (option_copied folder)
asked_is None all got is all_is = ap (λ (b : Bor Bytes). b.now) is ∙ all_is
asked_is (Some folder) all got is all_is = ap (λ (b : Bor Bytes). b.now) is

-- `names` is refused only for the cause of its folder
pub names_cause : (r : Repository) (folder : Option Bytes) → first_cause r (Names folder) ≡ folder_cause (asked_folder folder)
names_cause r None = refl
names_cause r (Some folder) = by_folder (bytes_eq folder (codes "refs"))
  where
    by_form : (bad private : Bool) → cond ((bad || false) || false) (Some BadName) (cond (private || false) (Some PrivateName) None) ≡ cond bad (Some BadName) (cond private (Some PrivateName) None)
    by_form true private = refl
    by_form false true = refl
    by_form false false = refl

    by_folder : (b : Bool) → by_names (cond b [] (folder ∷ []) ++ []) ≡ cond b None (form_cause folder)
    by_folder true = refl
    by_folder false = by_form (not (is_name folder)) (is_private folder)

-- ---- the lines

-- the line of a name with what it holds
abbrev pub shown_part : Shown → Part
shown_part shown = Line (hex (shown_held.held_id shown.held) ∷ hex (held_commit shown.held) ∷ shown.name.items ∷ [])

abbrev pub held_entry : Bytes × Reference → Bytes × Id
held_entry e = (e.0, (e.1).id)

abbrev entry_line : Repository → Bytes × Id → NameLine
entry_line r e = record { id = e.1; commit = unwrap_or (peeled r e.1) (null_id r.kind); name = e.0 }

find_held : (q : Bytes) (es : List (Bytes × Reference)) → find by_bytes q (map held_entry es) ≡ option_map (λ (ref : Reference). ref.id) (find by_bytes q es)
find_held q [] = refl
find_held q (e ∷ es) = elim (eq_by_cmp by_bytes q e.0) as (λ b. cond b (Some (e.1).id) (find by_bytes q (map held_entry es)) ≡ option_map (λ (ref : Reference). ref.id) (cond b (Some e.1) (find by_bytes q es))) [
  | true ↦ refl
  | false ↦ find_held q es
]

below_held : (p : Bytes) (es : List (Bytes × Reference)) → below_all by_bytes p (map held_entry es) ≡ below_all by_bytes p es
below_held p [] = refl
below_held p (e ∷ es) = ap (λ b. is_lt (by_bytes p e.0) && b) (below_held p es)

sorted_held : (es : List (Bytes × Reference)) → is_sorted by_bytes (map held_entry es) ≡ is_sorted by_bytes es
sorted_held [] = refl
sorted_held (e ∷ es) = λ i. below_held e.0 es i && sorted_held es i

-- each id of these names peels to a commit
abbrev EntriesPeeled : Repository → List (Bytes × Id) → Type 0
EntriesPeeled r es = AllByRecursion (λ (e : Bytes × Id). IsSome (peeled r e.1)) es

peeled_kept : (r : Repository) (p : Bytes → Bool) (es : List (Bytes × Reference)) → ((e : Bytes × Reference) → In e es → is_some (peeled r (e.1).id) ≡ true) → EntriesPeeled r (map held_entry (filter (λ e. p e.0) es))
peeled_kept r p [] held = tt
peeled_kept r p (e ∷ es) held = by_test (p e.0) (peeled_kept r p es (λ x is. held x (inr is)))
  where
    by_test : (b : Bool) → EntriesPeeled r (map held_entry (filter (λ e. p e.0) es)) → EntriesPeeled r (map held_entry (cond b (e ∷ filter (λ e. p e.0) es) (filter (λ e. p e.0) es)))
    by_test true rest = (held e (inl refl), rest)
    by_test false rest = rest

named_peeled : (r : Repository) (names : List NamedId) → EntriesPeeled r (map name_entry names) → ArePeeled r names
named_peeled r [] all = tt
named_peeled r (named ∷ names) all = (all.0, named_peeled r names all.1)

module _ (pair : Pair) (r : Repository) (stand : StandsFor r.kind pair r) (written : IsWritten r) (folder : Option Bytes) where
  -- a name in the folder is listed with what it holds, and no other name is listed
  asked_holds : (q : Bytes) → id_below r.kind pair.names (asked_folder folder) q ≡ cond (is_in_folder folder q) (id_at r q) None
  asked_holds q = by_folder folder
    where
      told : (b : Bool) → cond b (id_read r.kind pair.names q) None ≡ cond b (id_at r q) None
      told b = ap (λ o. cond b o None) (state_told pair r stand q)

      no_name : (o : Option Reference) → get r.names q ≡ o → is_below (codes "refs") q ≡ false → None ≡ option_map (λ (ref : Reference). ref.id) o
      no_name None e apart = refl
      no_name (Some ref) e apart =
          let formed = (and_parts (is_name q) (not (is_private q)) (and_parts (is_name q && not (is_private q)) (is_reference r.kind ref) (written.names q ref e)).0).0 in
          let wrong : false ≡ true = sym apart ∙ refs_front q formed in
          cc

      all_named : (b : Bool) → is_below (codes "refs") q ≡ b → cond b (id_at r q) None ≡ id_at r q
      all_named true below = refl
      all_named false apart = no_name (get r.names q) refl apart

      by_folder : (folder : Option Bytes) → id_below r.kind pair.names (asked_folder folder) q ≡ cond (is_in_folder folder q) (id_at r q) None
      by_folder None = told (is_below (codes "refs") q) ∙ all_named (is_below (codes "refs") q) refl
      by_folder (Some f) = told (is_below f q)

  abbrev shown : List (Bytes × Reference)
  shown = filter (λ e. is_in_folder folder e.0) (entries r.names)

  find_shown : (q : Bytes) → find by_bytes q (map held_entry shown) ≡ cond (is_in_folder folder q) (id_at r q) None
  find_shown q =
      find_held q shown
      ∙ ap (option_map (λ (ref : Reference). ref.id)) (find-where_key by_bytes (is_in_folder folder) q (λ x tie. ap (is_in_folder folder) (sym (slice_cmp-IsAntisymmetric nat_cmp-IsAntisymmetric q x tie))) (entries r.names))
      ∙ by_test (is_in_folder folder q)
    where
      by_test : (b : Bool) → option_map (λ (ref : Reference). ref.id) (cond b (find by_bytes q (entries r.names)) None) ≡ cond b (id_at r q) None
      by_test true = ap (option_map (λ (ref : Reference). ref.id)) (sym (get-entries r.names q))
      by_test false = refl

  ids_are : (ids : NameIds) → ((name : Bytes) → get ids name ≡ id_below r.kind pair.names (asked_folder folder) name) → entries ids ≡ map held_entry shown
  ids_are ids each =
      same_entries by_bytes nat_list_cmp_total (slice_cmp-IsAntisymmetric nat_cmp-IsAntisymmetric) (entries ids) (map held_entry shown) (entries_sorted ids)
      (subst T (sym (sorted_held shown)) (is_sorted-where_key by_bytes (is_in_folder folder) (entries r.names) (entries_sorted r.names)))
      (λ q. sym (get-entries ids q) ∙ each q ∙ asked_holds q ∙ sym (find_shown q))

  -- what is listed is what is shown
  pub names_are : (names : List NamedId) → ListsAll r.kind pair.names (asked_folder folder) names → map (told_name r) names ≡ names_shown r folder
  names_are names lists =
      sym (map_twice (entry_line r) name_entry names) ∙ ap (map (entry_line r)) (lists.are ∙ ids_are lists.ids lists.each) ∙ map_twice (entry_line r) held_entry shown

  -- and each of its ids peels to a commit
  pub names_peeled : HasWholeNames r → (names : List NamedId) → ListsAll r.kind pair.names (asked_folder folder) names → ArePeeled r names
  names_peeled w names lists =
      named_peeled r names (subst (EntriesPeeled r) (sym (lists.are ∙ ids_are lists.ids lists.each)) (peeled_kept r (is_in_folder folder) (entries r.names)
      (λ e is. w.held e.0 (e.1).id (ap (option_map (λ (ref : Reference). ref.id)) (in_get r.names e.0 e.1 is)))))

-- ---- a repository with its files

-- why a listing failed
pub listing_fault : (MayFail : Type 0) (error : FileError) → (error ≡ Failed → MayFail) → IsReadingFault MayFail (Fault (file_fault error))
listing_fault MayFail Failed failed = failed refl
listing_fault MayFail Memory failed = tt

module _ {F : Type 0} (IsHonest : F → Type 0) (history : F → History) (repository : own.Repository F) (r : Repository) (serves : Stands IsHonest history repository r) (kind : Kind) (same : kind ≡ r.kind) (folder : Option Bytes)
    (names : List NamedId) (good : folder_cause (asked_folder folder) ≡ None) (lists : ListsAll kind (history (names_part repository)).tree (asked_folder folder) names) where
  of_kind : ListsAll r.kind (history (names_part repository)).tree (asked_folder folder) names
  of_kind = subst (λ k. ListsAll k (history (names_part repository)).tree (asked_folder folder) names) same lists

  pub listed_peeled : ArePeeled r names
  listed_peeled =
      let whole = serves.whole in
      names_peeled (pair_of history repository) r whole.stands whole.written folder whole.whole.names names of_kind

  pub listed_are : map (told_name r) names ≡ names_shown r folder
  listed_are =
      let whole = serves.whole in
      names_are (pair_of history repository) r whole.stands whole.written folder names of_kind

  pub names_answered : (MayFail : Type 0) (shown : List Shown) (text : Vec ℕ Global) → map shown_name shown ≡ map (told_name r) names
      → text.items ≡ reply_text (NamesAre repository.branch.items (map shown_name shown)) → OnlyAnswers MayFail r (Names folder) (Ok text)
  names_answered MayFail shown text told written =
      let are = told ∙ listed_are in (
        NamesAre r.branch (names_shown r folder),
        written ∙ (λ i. reply_text (NamesAre (serves.branch i) (are i))),
        names_cause r folder ∙ good,
        refl,
      )

-- ---- one name after another

pub one_peeled : (r : Repository) (names : List NamedId) (d : NamedId) (i : ℕ) → i < length names → ArePeeled r names → IsSome (peeled r (id_of (get_or names i d).id))
one_peeled r [] d i within all = absurd (omega arith)
one_peeled r (named ∷ names) d zero within all = all.0
one_peeled r (named ∷ names) d (suc i) within all = one_peeled r names d i (omega arith) all.1

-- the line of one name more
pub one_shown : (r : Repository) (so_far : List Shown) (names : List NamedId) (named : NamedId) (one : Shown) → map shown_name so_far ≡ map (told_name r) names → one.name.items ≡ named.name.items → one.held.id ≡ named.id
    → Some (held_commit one.held) ≡ peeled r (id_of named.id) → map shown_name (so_far ++ one ∷ []) ≡ map (told_name r) (names ++ named ∷ [])
one_shown r so_far names named one same name id commit =
    map-append shown_name so_far (one ∷ []) ∙ (λ i. same i ++ record { id = id_of (id i); commit = unwrap_or (commit i) (null_id r.kind); name = name i } ∷ []) ∙ sym (map-append (told_name r) names (named ∷ []))
