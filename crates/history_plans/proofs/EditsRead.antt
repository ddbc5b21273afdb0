-- The edits of a commit and what their words mean, read one after another.
use Rattle.std.proofs.Common.{◌≡◌, ℕ, zero, suc, ◌+◌, ◌<◌, refl, sym, ◌∙◌, ap, subst, arith, Bool, true, false, ◌||◌, List, [], ◌∷◌, ◌++◌, map, length, get_or, append-nil, Option, None, Err}
use Rattle.std.specs.Prelude.{Ok}
use Rattle.std.specs.List.{list_any, flat_map, AllZip}
use Rattle.std.proofs.lemmas.Bool.{or_from, or_parts}
use Rattle.std.proofs.lemmas.Grind.{flat_map-append}
use Rattle.std.proofs.lemmas.List.{length-append, length-map, map-append}
use Rattle.std.proofs.lemmas.List.Folds.{list_any-append}
use Rattle.history_model.specs.FileMap as model
use Rattle.history_model.specs.FileMap.{grafted_paths}
use Rattle.history_model.specs.Repository as plain
use Rattle.history_model.specs.Commands.{EditLine, RemoveLine}
use Rattle.history_model.specs.CommandParts.{edit_paths}
use Rattle.history_model.specs.Causes.{is_bad_path}
use Rattle.history_model.specs.Meaning.{put_bytes}
use Rattle.history_files.specs.declared.found.Found.{Found}
use Rattle.history_store.specs.Stores.{AreObjectsOf}
use Rattle.history_texts.specs.declared.object.NewObject.{NewObject}
use Rattle.history_word.specs.Commands.{AreEdits, IsEdit}
use Rattle.history_word.specs.declared.command.Edit.{Edit}
use Rattle.history_plans.specs.Files.{AreReadAs, HasSource, IsChangeOf, TellsRead, grafts_badly, kept_edit}
use Rattle.history_plans.specs.declared.editing.Changes.{Changes}
use Rattle.history_plans.specs.declared.editing.PathChange.{PathChange}
use Rattle.history_repository.specs.declared.stored.PeeledCommit.{PeeledCommit}
use Rattle.history_repository.specs.declared.stopped.Stopped.{Stopped}
use Rattle.history_repository.specs.declared.stopped.Stopped.TheVariants.{Refused, Fault}
use Rattle.history_plans.proofs.Edits.{AreSoFar, no_paths, read_more}
use Rattle.history_plans.proofs.LineLemmas.{zip_split}
use Rattle.history_plans.proofs.Zipped.{zip_get, zip_length}

-- the words of the lines mean these commits
abbrev pub SourcesAt : plain.Repository → List EditLine → List (Option PeeledCommit) → Type 0
SourcesAt r lines sources = (i : ℕ) (line : EditLine) → i < length lines → HasSource r (get_or lines i line) (get_or sources i None)

-- the edits so far are read, and none of them grafts at a bad path
abbrev pub ReadSoFar : plain.Repository → List Edit → List PathChange → List NewObject → Type 0
ReadSoFar r edits made blobs = AreSoFar r edits made blobs × (grafts_badly (map (kept_edit r) edits) ≡ false)

pub all_sources : (r : plain.Repository) (lines : List EditLine) (sources : List (Option PeeledCommit)) → AllZip (HasSource r) lines sources → SourcesAt r lines sources
all_sources r lines sources all i line less = zip_get (HasSource r) lines sources all i line None less

-- ---- lists

get_front : {X : Type 0} (xs : List X) (x : X) (i : ℕ) (d : X) → i < length xs → get_or (xs ++ x ∷ []) i d ≡ get_or xs i d
get_front [] x i d less = absurd (omega arith)
get_front (y ∷ xs) x zero d less = refl
get_front (y ∷ xs) x (suc i) d less = get_front xs x i d (omega arith)

get_last : {X : Type 0} (xs : List X) (x d : X) → get_or (xs ++ x ∷ []) (length xs) d ≡ x
get_last [] x d = refl
get_last (y ∷ xs) x d = get_last xs x d

front_sources : (r : plain.Repository) (front : List EditLine) (line : EditLine) (sources : List (Option PeeledCommit)) → SourcesAt r (front ++ line ∷ []) sources → SourcesAt r front sources
front_sources r front line sources at i d less =
    let sum = length-append front (line ∷ []) in
    subst (λ (l : EditLine). HasSource r l (get_or sources i None)) (get_front front line i d less) (at i d (omega arith))

last_source : (r : plain.Repository) (front : List EditLine) (line : EditLine) (sources : List (Option PeeledCommit)) → SourcesAt r (front ++ line ∷ []) sources → HasSource r line (get_or sources (length front) None)
last_source r front line sources at =
    let sum = length-append front (line ∷ []) in
    subst (λ (l : EditLine). HasSource r l (get_or sources (length front) None)) (get_last front line line) (at (length front) line (omega arith))

none_bad : (front : List EditLine) (line : EditLine) → list_any is_bad_path (flat_map edit_paths (front ++ line ∷ [])) ≡ false → (list_any is_bad_path (flat_map edit_paths front) ≡ false) × (list_any is_bad_path (edit_paths line) ≡ false)
none_bad front line good = or_parts (list_any is_bad_path (flat_map edit_paths front)) (list_any is_bad_path (edit_paths line))
    (sym (list_any-append is_bad_path (flat_map edit_paths front) (edit_paths line)) ∙ ap (list_any is_bad_path) (sym joined) ∙ good)
  where
    joined : flat_map edit_paths (front ++ line ∷ []) ≡ flat_map edit_paths front ++ edit_paths line
    joined = flat_map-append edit_paths front (line ∷ []) ∙ ap (λ ps. flat_map edit_paths front ++ ps) (append-nil (edit_paths line))

-- grafts at bad paths, of these edits and of one more
badly_joined : (made : List model.Edit) (one : model.Edit) → grafts_badly (made ++ one ∷ []) ≡ (grafts_badly made || grafts_badly (one ∷ []))
badly_joined made one = ap (list_any is_bad_path) (flat_map-append grafted_paths made (one ∷ [])) ∙ list_any-append is_bad_path (flat_map grafted_paths made) (flat_map grafted_paths (one ∷ []))

badly_one : (r : plain.Repository) (edits : List Edit) (edit : Edit) → grafts_badly (map (kept_edit r) (edits ++ edit ∷ [])) ≡ (grafts_badly (map (kept_edit r) edits) || grafts_badly (kept_edit r edit ∷ []))
badly_one r edits edit = ap grafts_badly (map-append (kept_edit r) edits (edit ∷ [])) ∙ badly_joined (map (kept_edit r) edits) (kept_edit r edit)

badly_split : (m : model.Edit) (made : List model.Edit) → grafts_badly (m ∷ made) ≡ (grafts_badly (m ∷ []) || grafts_badly made)
badly_split m made = list_any-append is_bad_path (grafted_paths m) (flat_map grafted_paths made) ∙ ap (λ ps. list_any is_bad_path ps || grafts_badly made) (sym (append-nil (grafted_paths m)))

-- one that is bad makes all bad
badly_at : (made : List model.Edit) (i : ℕ) (d : model.Edit) → i < length made → grafts_badly (get_or made i d ∷ []) ≡ true → grafts_badly made ≡ true
badly_at [] i d less bad = absurd (omega arith)
badly_at (m ∷ made) zero d less bad = first m made bad
  where
    first : (m : model.Edit) (made : List model.Edit) → grafts_badly (m ∷ []) ≡ true → grafts_badly (m ∷ made) ≡ true
    first m made bad = badly_split m made ∙ ap (λ b. b || grafts_badly made) bad
badly_at (m ∷ made) (suc i) d less bad = badly_split m made ∙ last (grafts_badly (m ∷ [])) (badly_at made i d (omega arith) bad)
  where
    last : (b : Bool) → grafts_badly made ≡ true → (b || grafts_badly made) ≡ true
    last true e = refl
    last false e = e

get_mapped : {X Y : Type 0} (f : X → Y) (xs : List X) (i : ℕ) (d : X) → get_or (map f xs) i (f d) ≡ f (get_or xs i d)
get_mapped f [] i d = refl
get_mapped f (x ∷ xs) zero d = refl
get_mapped f (x ∷ xs) (suc i) d = get_mapped f xs i d

-- ---- one edit more

made_length : (r : plain.Repository) (edits : List Edit) (made : List PathChange) (blobs : List NewObject) → AreSoFar r edits made blobs → length made ≡ length edits
made_length r edits made blobs so_far = zip_length (IsChangeOf r) made (map (kept_edit r) edits) so_far.0 ∙ length-map edits (kept_edit r)

module _ (MayFail : Type 0) (r : plain.Repository) (edits : List Edit) (edit : Edit) (sources : List (Option PeeledCommit)) (made : List PathChange) (blobs : List NewObject) where
  -- what its line and its source are
  pub one_asked : (lines : List EditLine) → AreEdits (edits ++ edit ∷ []) lines → list_any is_bad_path (flat_map edit_paths lines) ≡ false → SourcesAt r lines sources
      → ((front : List EditLine) → AreEdits edits front → list_any is_bad_path (flat_map edit_paths front) ≡ false → SourcesAt r front sources → ReadSoFar r edits made blobs)
      → ReadSoFar r edits made blobs × ((line : EditLine) × IsEdit edit line × (list_any is_bad_path (edit_paths line) ≡ false) × HasSource r line (get_or sources (length made) None))
  one_asked lines are good at so_far =
      let cut = zip_split IsEdit edits edit lines are in
      let parts = none_bad cut.0 cut.1 (sym (ap (λ ls. list_any is_bad_path (flat_map edit_paths ls)) cut.2) ∙ good) in
      let here : SourcesAt r (cut.0 ++ cut.1 ∷ []) sources = subst (λ ls. SourcesAt r ls sources) cut.2 at in
      let read = so_far cut.0 cut.3 parts.0 (front_sources r cut.0 cut.1 sources here) in
      let same : length cut.0 ≡ length made = sym (zip_length IsEdit edits cut.0 cut.3) ∙ sym (made_length r edits made blobs read.0) in
      (read, (cut.1, cut.4, parts.1, subst (λ n. HasSource r cut.1 (get_or sources n None)) same (last_source r cut.0 cut.1 sources here)))

  pub one_read : (more : List PathChange) (change : PathChange) (others blob : List NewObject) → ReadSoFar r edits made blobs → grafts_badly (kept_edit r edit ∷ []) ≡ false
      → IsChangeOf r change (kept_edit r edit) → AreObjectsOf r.kind (put_bytes (kept_edit r edit)) blob → more ≡ made ++ change ∷ [] → others ≡ blobs ++ blob → ReadSoFar r (edits ++ edit ∷ []) more others
  one_read more change others blob so_far good is_change is_blob pushed extended = (
    read_more r edits edit made more change blobs others blob so_far.0 is_change is_blob pushed extended,
    badly_one r edits edit ∙ or_from (grafts_badly (map (kept_edit r) edits)) (grafts_badly (kept_edit r edit ∷ [])) so_far.1 good,
  )

-- none of the lines' paths is bad
good_at : (lines : List EditLine) (i : ℕ) (d : EditLine) → i < length lines → list_any is_bad_path (flat_map edit_paths lines) ≡ false → list_any is_bad_path (edit_paths (get_or lines i d)) ≡ false
good_at [] i d less good = absurd (omega arith)
good_at (line ∷ lines) zero d less good = (no_paths is_bad_path edit_paths line lines good).0
good_at (line ∷ lines) (suc i) d less good = good_at lines i d (omega arith) (no_paths is_bad_path edit_paths line lines good).1

-- what the line and the source of an edit among them are
pub one_there : (r : plain.Repository) (edits : List Edit) (lines : List EditLine) (sources : List (Option PeeledCommit)) → AreEdits edits lines → list_any is_bad_path (flat_map edit_paths lines) ≡ false → SourcesAt r lines sources
    → (i : ℕ) (edit : Edit) → i < length edits → edit ≡ get_or edits i edit → (line : EditLine) × IsEdit edit line × (list_any is_bad_path (edit_paths line) ≡ false) × HasSource r line (get_or sources i None)
one_there r edits lines sources are good at i edit less is =
    let within : i < length lines = subst (λ n. i < n) (zip_length IsEdit edits lines are) less in (
      get_or lines i (RemoveLine []),
      subst (λ (e : Edit). IsEdit e (get_or lines i (RemoveLine []))) (sym is) (zip_get IsEdit edits lines are i edit (RemoveLine []) less),
      good_at lines i (RemoveLine []) within good,
      at i (RemoveLine []) within,
    )

-- none is read at first
pub none_read : (r : plain.Repository) (made : List PathChange) (blobs : List NewObject) → made ≡ [] → blobs ≡ [] → ReadSoFar r [] made blobs
none_read r made blobs unmade none = subst (λ (m : List PathChange). ReadSoFar r [] m blobs) (sym unmade) (subst (λ (b : List NewObject). ReadSoFar r [] [] b) (sym none) ((tt, tt), refl))

-- what stops one of the edits stops them
pub one_stopped : (MayFail : Type 0) (r : plain.Repository) (edits : List Edit) (i : ℕ) (edit : Edit) → i < length edits → edit ≡ get_or edits i edit
    → (IsRead : Option Found → Type 0) (AreRead : Changes → Type 0) (stopped : Stopped) → TellsRead MayFail (kept_edit r edit ∷ []) IsRead (Err stopped) → TellsRead MayFail (map (kept_edit r) edits) AreRead (Err stopped)
one_stopped MayFail r edits i edit less is IsRead AreRead (Refused reason) (same, bad) = (
  same,
  badly_at (map (kept_edit r) edits) i (kept_edit r edit) (subst (λ n. i < n) (sym (length-map edits (kept_edit r))) less)
      (ap (λ (m : model.Edit). grafts_badly (m ∷ [])) (get_mapped (kept_edit r) edits i edit ∙ sym (ap (kept_edit r) is)) ∙ bad),
)
one_stopped MayFail r edits i edit less is IsRead AreRead (Fault reason) told = told

-- all of them are read
pub all_read : (MayFail : Type 0) (r : plain.Repository) (edits : List Edit) (changes : Changes) → ReadSoFar r edits changes.made.items changes.blobs.items
    → TellsRead MayFail (map (kept_edit r) edits) (λ changes. AreReadAs r changes (map (kept_edit r) edits)) (Ok changes)
all_read MayFail r edits changes so_far = (so_far.1, record { changes_are = (so_far.0).0; blobs_are = (so_far.0).1 })
