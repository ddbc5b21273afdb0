-- The edits of a commit, as they are read, and as its lines give them.
use Rattle.std.proofs.Common.{◌≡◌, ℕ, ◌+◌, ◌<◌, refl, sym, ◌∙◌, ap, subst, Bool, true, false, ◌&&◌, ◌||◌, List, [], ◌∷◌, ◌++◌, map, length, take, get_or, append-nil, Option}
use Rattle.std.specs.List.{list_any, flat_map, AllZip}
use Rattle.std.proofs.lemmas.Grind.{flat_map-append}
use Rattle.std.proofs.lemmas.List.{map-append, take_more}
use Rattle.history_model.specs.Bytes.{Bytes}
use Rattle.history_model.specs.FileMap.{is_path}
use Rattle.history_model.specs.laws.Trees.{edit_path}
use Rattle.history_model.specs.Objects.{Value}
use Rattle.history_model.specs.Repository as plain
use Rattle.history_model.specs.Commands.{EditLine, PutLine, RemoveLine, RemoveFileLine, GraftLine}
use Rattle.history_model.specs.CommandParts.{edit_paths, put_contents, source_paths}
use Rattle.history_model.specs.Meaning.{put_bytes, read_edit, word_files}
use Rattle.history_model.specs.Causes.{is_bad_path}
use Rattle.gix_hash.specs.declared.kind.Kind.{Kind}
use Rattle.history_files.specs.Editing.{HavePaths, Names, NameEdits}
use Rattle.history_files.specs.Laws.{table_of}
use Rattle.history_files.specs.declared.edits.Change.{Change}
use Rattle.history_store.specs.Stores.{AreObjectsOf}
use Rattle.history_texts.specs.declared.object.NewObject.{NewObject}
use Rattle.history_word.specs.Commands.{AreEdits, IsEdit}
use Rattle.history_model.specs.Forms.{max_content, max_path}
use Rattle.history_word.specs.Fields.{Keeps}
use Rattle.history_word.specs.declared.command.Field.{Field}
use Rattle.history_word.specs.declared.command.Edit.{Edit}
use Rattle.history_word.specs.declared.command.Edit.TheVariants.{Put, Remove, RemoveFile, Graft}
use Rattle.history_plans.specs.CommitCauses.{is_long}
use Rattle.history_repository.specs.Fields.{kept_bytes}
use Rattle.history_plans.specs.Files.{AreChangesOf, IsChangeOf, IsFoundFor, change_parts, edit_parts, kept_edit}
use Rattle.history_plans.specs.declared.editing.PathChange.{PathChange}
use Rattle.history_repository.proofs.FieldLemmas.{good_path, whole_path, whole_content}
use Rattle.history_plans.proofs.Shapes.{IsAlike}
use Rattle.history_model.proofs.PartLemmas.{head_same, tail_same}
use Rattle.std.proofs.lemmas.Bool.{or_parts}
use Rattle.history_model.specs.FileMap as model
use Rattle.history_files.specs.declared.edits.Change.TheVariants as change
use Rattle.history_files.specs.declared.edits.Edit as editing
use Rattle.history_files.specs.declared.found.Found.{Found}
use Rattle.history_word.specs.declared.command.Graft as received

-- ---- lists

pub objects_joined : (kind : Kind) (a b : List Value) (blobs more : List NewObject) → AreObjectsOf kind a blobs → AreObjectsOf kind b more → AreObjectsOf kind (a ++ b) (blobs ++ more)
objects_joined kind [] b [] more first second = second
objects_joined kind [] b (blob ∷ blobs) more first second = absurd first
objects_joined kind (value ∷ a) b [] more first second = absurd first
objects_joined kind (value ∷ a) b (blob ∷ blobs) more first second = (first.0, objects_joined kind a b blobs more first.1 second)

pub zipped_joined : {A B : Type 0} (R : A → B → Type 0) (xs more : List A) (ys others : List B) → AllZip R xs ys → AllZip R more others → AllZip R (xs ++ more) (ys ++ others)
zipped_joined R [] more [] others first second = second
zipped_joined R [] more (y ∷ ys) others first second = absurd first
zipped_joined R (x ∷ xs) more [] others first second = absurd first
zipped_joined R (x ∷ xs) more (y ∷ ys) others first second = (first.0, zipped_joined R xs more ys others first.1 second)

-- ---- changes as edits of files

pub changes_named : (r : plain.Repository) (edits : List editing.Edit) (changes : List PathChange) (made : List model.Edit) → map edit_parts edits ≡ map change_parts changes → AreChangesOf r changes made → NameEdits (table_of r) r.kind edits made
changes_named r [] [] [] same are = tt
changes_named r [] [] (m ∷ made) same are = absurd are
changes_named r [] (change ∷ changes) made same are = absurd (cc same)
changes_named r (edit ∷ edits) [] made same are = absurd (cc same)
changes_named r (edit ∷ edits) (change ∷ changes) [] same are = absurd are
changes_named r (edit ∷ edits) (change ∷ changes) (m ∷ made) same are = (
  subst (λ (parts : Bytes × Change). Names (table_of r) r.kind parts.0 parts.1 m) (sym (head_same same)) are.0,
  changes_named r edits changes made (tail_same same) are.1,
)

-- ---- edits and their lines

pub no_paths : (p : Bytes → Bool) (f : EditLine → List Bytes) (line : EditLine) (lines : List EditLine) → list_any p (flat_map f (line ∷ lines)) ≡ false → (list_any p (f line) ≡ false) × (list_any p (flat_map f lines) ≡ false)
no_paths p f line lines none = go (f line) none
  where
    go : (xs : List Bytes) → list_any p (xs ++ flat_map f lines) ≡ false → (list_any p xs ≡ false) × (list_any p (flat_map f lines) ≡ false)
    go [] e = (refl, e)
    go (x ∷ xs) e =
        let parts = or_parts (p x) (list_any p (xs ++ flat_map f lines)) e in
        let rest = go xs parts.1 in
        (ap (λ b. b || list_any p xs) parts.0 ∙ rest.0, rest.1)

-- a source that isn't bad is kept whole
whole_source : (field : Field) (source : Bytes) → Keeps max_path field source → list_any is_bad_path (source_paths source) ≡ false → kept_bytes field ≡ source
whole_source field [] keeps good = whole_content max_path field [] keeps refl
whole_source field (b ∷ source) keeps good = whole_path field (b ∷ source) keeps (or_parts (is_bad_path (b ∷ source)) false good).0

module _ (r : plain.Repository) where
  -- one edit whose path isn't bad
  one_alike : (edit : Edit) (line : EditLine) → IsEdit edit line → list_any is_bad_path (edit_paths line) ≡ false → IsAlike (kept_edit r edit) (read_edit r line)
  one_alike (Put put) (PutLine kind path bytes) is good = whole_path put.path path is.1 (or_parts (is_bad_path path) false good).0
  one_alike (Put put) (RemoveLine path) is good = absurd is
  one_alike (Put put) (RemoveFileLine path) is good = absurd is
  one_alike (Remove field) (PutLine kind path bytes) is good = absurd is
  one_alike (Remove field) (RemoveLine path) is good = whole_path field path is (or_parts (is_bad_path path) false good).0
  one_alike (Remove field) (RemoveFileLine path) is good = absurd is
  one_alike (RemoveFile field) (PutLine kind path bytes) is good = absurd is
  one_alike (RemoveFile field) (RemoveLine path) is good = absurd is
  one_alike (RemoveFile field) (RemoveFileLine path) is good = whole_path field path is (or_parts (is_bad_path path) false good).0
  one_alike (Put put) (GraftLine path word source) is good = absurd is
  one_alike (Remove field) (GraftLine path word source) is good = absurd is
  one_alike (RemoveFile field) (GraftLine path word source) is good = absurd is
  one_alike (Graft graft) (PutLine kind path bytes) is good = absurd is
  one_alike (Graft graft) (RemoveLine path) is good = absurd is
  one_alike (Graft graft) (RemoveFileLine path) is good = absurd is
  one_alike (Graft graft) (GraftLine path word source) is good =
      let parts = or_parts (is_bad_path path) (list_any is_bad_path (source_paths source)) good in
      (whole_path graft.path path is.0 parts.0, whole_source graft.source source is.2 parts.1, ap (word_files r) is.1)

  pub edits_alike : (edits : List Edit) (lines : List EditLine) → AreEdits edits lines → list_any is_bad_path (flat_map edit_paths lines) ≡ false → AllZip IsAlike (map (kept_edit r) edits) (map (read_edit r) lines)
  edits_alike [] [] are good = tt
  edits_alike [] (line ∷ lines) are good = absurd are
  edits_alike (edit ∷ edits) [] are good = absurd are
  edits_alike (edit ∷ edits) (line ∷ lines) are good =
      let parts = no_paths is_bad_path edit_paths line lines good in
      (one_alike edit line are.0 parts.0, edits_alike edits lines are.1 parts.1)

  -- and its content is within the limit
  one_same : (edit : Edit) (line : EditLine) → IsEdit edit line → list_any is_bad_path (edit_paths line) ≡ false → list_any is_long (put_contents line) ≡ false → kept_edit r edit ≡ read_edit r line
  one_same (Put put) (PutLine kind path bytes) is good short =
      let path_is = whole_path put.path path is.1 (or_parts (is_bad_path path) false good).0 in
      let bytes_are = whole_content max_content put.content bytes is.2 (or_parts (is_long bytes) false short).0 in
      λ i. model.Put (is.0 i) (path_is i) (bytes_are i)
  one_same (Put put) (RemoveLine path) is good short = absurd is
  one_same (Put put) (RemoveFileLine path) is good short = absurd is
  one_same (Remove field) (PutLine kind path bytes) is good short = absurd is
  one_same (Remove field) (RemoveLine path) is good short = ap model.Remove (whole_path field path is (or_parts (is_bad_path path) false good).0)
  one_same (Remove field) (RemoveFileLine path) is good short = absurd is
  one_same (RemoveFile field) (PutLine kind path bytes) is good short = absurd is
  one_same (RemoveFile field) (RemoveLine path) is good short = absurd is
  one_same (RemoveFile field) (RemoveFileLine path) is good short = ap model.RemoveFile (whole_path field path is (or_parts (is_bad_path path) false good).0)
  one_same (Put put) (GraftLine path word source) is good short = absurd is
  one_same (Remove field) (GraftLine path word source) is good short = absurd is
  one_same (RemoveFile field) (GraftLine path word source) is good short = absurd is
  one_same (Graft graft) (PutLine kind path bytes) is good short = absurd is
  one_same (Graft graft) (RemoveLine path) is good short = absurd is
  one_same (Graft graft) (RemoveFileLine path) is good short = absurd is
  one_same (Graft graft) (GraftLine path word source) is good short =
      let alike = one_alike (Graft graft) (GraftLine path word source) is good in
      λ i. model.Graft (alike.0 i) (alike.1 i) (alike.2 i)

  pub edits_same : (edits : List Edit) (lines : List EditLine) → AreEdits edits lines → list_any is_bad_path (flat_map edit_paths lines) ≡ false → list_any is_long (flat_map put_contents lines) ≡ false
      → map (kept_edit r) edits ≡ map (read_edit r) lines
  edits_same [] [] are good short = refl
  edits_same [] (line ∷ lines) are good short = absurd are
  edits_same (edit ∷ edits) [] are good short = absurd are
  edits_same (edit ∷ edits) (line ∷ lines) are good short =
      let parts = no_paths is_bad_path edit_paths line lines good in
      let sizes = no_paths is_long put_contents line lines short in
      λ i. one_same edit line are.0 parts.0 sizes.0 i ∷ edits_same edits lines are.1 parts.1 sizes.1 i

-- the change of a graft, for which this was found
pub graft_named : (r : plain.Repository) (edit : Edit) (graft : received.Graft) → edit ≡ Graft graft → (found : Option Found) (path : Bytes) → path ≡ kept_bytes graft.path → IsFoundFor r edit found
    → Names (table_of r) r.kind path (change.Graft found) (kept_edit r edit)
graft_named r edit graft is found path same finds =
    subst (λ (e : Edit). Names (table_of r) r.kind path (change.Graft found) (kept_edit r e)) (sym is)
    (kept_bytes graft.source, word_files r graft.word.items, ap (λ p. model.Graft p (kept_bytes graft.source) (word_files r graft.word.items)) (sym same), subst (λ (e : Edit). IsFoundFor r e found) is finds)

-- each path is one
one_path : (r : plain.Repository) (edit : Edit) (line : EditLine) → IsEdit edit line → list_any is_bad_path (edit_paths line) ≡ false → is_path (edit_path (kept_edit r edit)) ≡ true
one_path r (Put put) (PutLine kind path bytes) is good = let fine = (or_parts (is_bad_path path) false good).0 in ap is_path (whole_path put.path path is.1 fine) ∙ good_path path fine
one_path r (Put put) (RemoveLine path) is good = absurd is
one_path r (Put put) (RemoveFileLine path) is good = absurd is
one_path r (Remove field) (PutLine kind path bytes) is good = absurd is
one_path r (Remove field) (RemoveLine path) is good = let fine = (or_parts (is_bad_path path) false good).0 in ap is_path (whole_path field path is fine) ∙ good_path path fine
one_path r (Remove field) (RemoveFileLine path) is good = absurd is
one_path r (RemoveFile field) (PutLine kind path bytes) is good = absurd is
one_path r (RemoveFile field) (RemoveLine path) is good = absurd is
one_path r (RemoveFile field) (RemoveFileLine path) is good = let fine = (or_parts (is_bad_path path) false good).0 in ap is_path (whole_path field path is fine) ∙ good_path path fine
one_path r (Put put) (GraftLine path word source) is good = absurd is
one_path r (Remove field) (GraftLine path word source) is good = absurd is
one_path r (RemoveFile field) (GraftLine path word source) is good = absurd is
one_path r (Graft graft) (PutLine kind path bytes) is good = absurd is
one_path r (Graft graft) (RemoveLine path) is good = absurd is
one_path r (Graft graft) (RemoveFileLine path) is good = absurd is
one_path r (Graft graft) (GraftLine path word source) is good =
    let fine = (or_parts (is_bad_path path) (list_any is_bad_path (source_paths source)) good).0 in ap is_path (whole_path graft.path path is.0 fine) ∙ good_path path fine

pub have_paths : (r : plain.Repository) (edits : List Edit) (lines : List EditLine) → AreEdits edits lines → list_any is_bad_path (flat_map edit_paths lines) ≡ false → HavePaths (map (kept_edit r) edits)
have_paths r [] [] are good = refl
have_paths r [] (line ∷ lines) are good = absurd are
have_paths r (edit ∷ edits) [] are good = absurd are
have_paths r (edit ∷ edits) (line ∷ lines) are good =
    let parts = no_paths is_bad_path edit_paths line lines good in
    λ i. one_path r edit line are.0 parts.0 i && have_paths r edits lines are.1 parts.1 i

-- ---- changes, one after another

pub parts_added : (changes : List PathChange) (i : ℕ) (change : PathChange) (old new : List editing.Edit) (edit : editing.Edit) → i < length changes → change ≡ get_or changes i change → edit_parts edit ≡ change_parts change
    → map edit_parts old ≡ map change_parts (take i changes) → new ≡ old ++ edit ∷ [] → map edit_parts new ≡ map change_parts (take (i + 1) changes)
parts_added changes i change old new edit less is parts so_far added =
    ap (map edit_parts) added ∙ map-append edit_parts old (edit ∷ []) ∙ (λ j. so_far j ++ parts j ∷ [])
    ∙ sym (ap (map change_parts) (take_more changes i change less ∙ ap (λ (x : PathChange). take i changes ++ x ∷ []) (sym is)) ∙ map-append change_parts (take i changes) (change ∷ []))

-- the changes are these edits, and the objects those of what they put
abbrev pub AreSoFar : plain.Repository → List Edit → List PathChange → List NewObject → Type 0
AreSoFar r edits made blobs = AreChangesOf r made (map (kept_edit r) edits) × AreObjectsOf r.kind (flat_map put_bytes (map (kept_edit r) edits)) blobs

pub read_more : (r : plain.Repository) (edits : List Edit) (edit : Edit) (made more : List PathChange) (change : PathChange) (blobs others : List NewObject) (blob : List NewObject) → AreSoFar r edits made blobs
    → IsChangeOf r change (kept_edit r edit) → AreObjectsOf r.kind (put_bytes (kept_edit r edit)) blob → more ≡ made ++ change ∷ [] → others ≡ blobs ++ blob → AreSoFar r (edits ++ edit ∷ []) more others
read_more r edits edit made more change blobs others blob so_far is_change is_blob pushed extended =
    let front = map (kept_edit r) edits in
    let all : map (kept_edit r) (edits ++ edit ∷ []) ≡ front ++ kept_edit r edit ∷ [] = map-append (kept_edit r) edits (edit ∷ []) in
    let values : flat_map put_bytes (front ++ kept_edit r edit ∷ []) ≡ flat_map put_bytes front ++ put_bytes (kept_edit r edit) =
    flat_map-append put_bytes front (kept_edit r edit ∷ []) ∙ ap (λ vs. flat_map put_bytes front ++ vs) (append-nil (put_bytes (kept_edit r edit))) in
    let changes = zipped_joined (IsChangeOf r) made (change ∷ []) front (kept_edit r edit ∷ []) so_far.0 (is_change, tt) in
    let objects = objects_joined r.kind (flat_map put_bytes front) (put_bytes (kept_edit r edit)) blobs blob so_far.1 is_blob in (
      subst (λ (es : List model.Edit). AreChangesOf r more es) (sym all) (subst (λ (cs : List PathChange). AreChangesOf r cs (front ++ kept_edit r edit ∷ [])) (sym pushed) changes),
      subst (λ (es : List model.Edit). AreObjectsOf r.kind (flat_map put_bytes es) others) (sym all)
          (subst (λ (vs : List Value). AreObjectsOf r.kind vs others) (sym values) (subst (AreObjectsOf r.kind (flat_map put_bytes front ++ put_bytes (kept_edit r edit))) (sym extended) objects)),
    )
