-- What a commit is to store, and how its name is to move, read from its command.
use Rattle.std.proofs.Common.{◌≡◌, ◌⊎◌, inl, inr, ◌<◌, ◌≤◌, refl, sym, ◌∙◌, ap, subst, Bool, true, false, cond, ◌||◌, List, [], ◌∷◌, ◌++◌, map, length}
use Rattle.std.specs.Prelude.{Contains, MatchOption, IsSome, IsTrue, option_and_then, Option, Some, None, option_map, unwrap_or, Result, Ok, Err}
use Rattle.std.specs.List.{AllByRecursion, AllZip, list_all, list_any, flat_map}
use Rattle.std.proofs.lemmas.List.{map-append}
use Rattle.std.proofs.lemmas.List.Folds.{list_any-append}
use Rattle.history_model.specs.Bytes.{Bytes}
use Rattle.history_model.specs.FileMap.{FileMap, folders_of, grafts_nothing, some_refused}
use Rattle.history_model.specs.Objects.{CommitValue, Value, StoredBytes, StoredFolder, StoredCommit, folder_id, content_of, commit_content, root, tree_text, id_of as value_id}
use Rattle.gix_hash.specs.Id.{Id, null_id, id_of}
use Rattle.std.specs.FinMap.{get}
use Rattle.history_model.specs.Repository.{HoldsCommit, IsWholeStore, as_commit, id_at}
use Rattle.history_model.specs.Forms.{is_id, title, max_content}
use Rattle.history_model.specs.Commands.{CommitCommand, Commit}
use Rattle.history_model.specs.CommandParts.{paths_in, contents_in}
use Rattle.history_model.specs.Meaning.{branch_or_name, first_files, parents_of, edits_of, new_commit, put_bytes, read_actor, stored_by, takes_id}
use Rattle.history_model.specs.Causes.{first_cause, grafted_in, is_bad_path, is_too_large}
use Rattle.history_layout.specs.Passing.{AreNewFolders, commit_puts}
use Rattle.history_model.specs.Steps.{MayTake}
use Rattle.history_layout.specs.TreeSteps.{HasText, move_entry}
use Rattle.history_model.specs.laws.Wholeness.{IsSound}
use Rattle.history_model.specs.declared.Cause.{Cause}
use Rattle.history_model.specs.declared.Cause.TheVariants.{BadPath, IsFolder, NoSuchPath, TooLarge}
use Rattle.history_model.specs.declared.Fault.{Fault}
use Rattle.history_model.specs.declared.Fault.TheVariants.{Memory, File, IdTaken}
use Rattle.gix_hash.specs.declared.kind.Kind.{Kind}
use Rattle.history_model.proofs.IdLemmas.{digest_is_id}
use Rattle.history_layout.proofs.OfferedReads.{parents_are_commits}
use Rattle.history_layout.proofs.PassedStops.{commits_store_whole}
use Rattle.history_model.proofs.PlaceLemmas.{values_have_ids}
use Rattle.history_model.proofs.WholeLists.{In, in_left, in_right, in_either, in_map, of_map}
use Rattle.history_model.proofs.WholeSteps.{contains_in, in_contains}
use Rattle.history_files.specs.Editing.{AreEdited, AreTreesOf, HaveNull}
use Rattle.history_files.specs.declared.trees.EditedTree.{EditedTree}
use Rattle.history_files.specs.declared.trees.EditedFiles.{EditedFiles}
use Rattle.history_files.specs.declared.read_trees.ReadTrees.{ReadTrees}
use Rattle.history_texts.specs.Formats.{actor_of, entry_of, own_actor}
use Rattle.history_texts.specs.Commits.{SaysCommit, IsPlainCommit, has_ids_of}
use Rattle.history_store.specs.Stores.{AreObjectsOf}
use Rattle.history_texts.specs.declared.object.NewObject.{NewObject}
use Rattle.gix_object_commit.specs.declared.commit.owned.Commit.{Commit as OwnCommit}
use Rattle.gix_hash.specs.declared.object_id.ObjectId.{ObjectId}
use Rattle.history_texts.specs.declared.log_entry.LogEntry.{LogEntry}
use Rattle.history_word.specs.Commands.{AreEdits}
use Rattle.history_word.specs.declared.command.Edit.{Edit}
use Rattle.history_repository.specs.Reads.{AreTrees, IsReadingFault}
use Rattle.history_layout.specs.OneNameSteps.{commit_move}
use Rattle.history_plans.specs.CommitCauses.{first_among, form_causes, name_causes, path_causes, is_long, IsToldBy, Tests}
use Rattle.history_plans.specs.Bases.{IsCommitBase}
use Rattle.history_plans.specs.Files.{TellsEdited, TellsRead, grafts_badly, kept_edit}
use Rattle.history_plans.specs.declared.base.Base.{Base}
use Rattle.history_plans.specs.Needed.{AreNeeded}
use Rattle.history_plans.specs.Plans.{GivesCommitted, GivesObjects, HasActors, IfItFits, IsMadeOf, IsMove, IsNotAdded, IsPlan, IsUnplanned, MakesCommit, Plans, Says}
use Rattle.history_plans.specs.declared.planning.Actors.{Actors}
use Rattle.history_plans.specs.declared.planning.Below.{Below}
use Rattle.history_plans.specs.declared.planning.Plan.{Plan}
use Rattle.history_repository.specs.declared.stopped.Stopped.{Stopped}
use Rattle.history_repository.specs.declared.stopped.Stopped.TheVariants.{Refused}
use Rattle.history_model.specs.Repository as plain
use Rattle.history_repository.specs.declared.stopped.Stopped.TheVariants as why
use Rattle.history_plans.proofs.Edits.{edits_alike, edits_same}
use Rattle.history_repository.proofs.FieldLemmas.{within, beyond}
use Rattle.history_plans.proofs.FirstCauses.{passed, here, refused_by_form, refused_by_name, refused_by_size}
use Rattle.history_plans.proofs.NeededLemmas.{needed_kept}
use Rattle.history_plans.proofs.NewFolders.{contents, new_folders, none_long, null_taken, some_long, trees_put}
use Rattle.history_plans.proofs.Shapes.{IsAlike, all_nothing_alike, all_paths_alike, refused_alike}
use Rattle.history_plans.proofs.BytesPut.{bytes_put}
use Rattle.history_texts.proofs.Spelled.{and_from}

-- ---- sizes

contents_back : (kind : Kind) (contents : List Bytes) → map (content_of kind) (map StoredBytes contents) ≡ contents
contents_back kind [] = refl
contents_back kind (content ∷ contents) = ap (λ rest. content ∷ rest) (contents_back kind contents)

-- what a commit stores is its contents, the bytes of its trees, and its own
stored_contents : (r : plain.Repository) (sent : CommitCommand)
    → map (content_of r.kind) (stored_by r (Commit sent)) ≡ (contents_in (Commit sent) ++ contents r (new_commit r sent).files) ++ commit_content r.kind (new_commit r sent) ∷ []
stored_contents r sent =
    let blobs = flat_map put_bytes (edits_of r sent) in
    let folders = map StoredFolder (folders_of (new_commit r sent).files) in
    map-append (content_of r.kind) (blobs ++ folders) (StoredCommit (new_commit r sent) ∷ [])
    ∙ ap (λ front. front ++ commit_content r.kind (new_commit r sent) ∷ [])
    (map-append (content_of r.kind) blobs folders
    ∙ ap (λ front. front ++ contents r (new_commit r sent).files) (ap (map (content_of r.kind)) (bytes_put r sent.edits) ∙ contents_back r.kind (contents_in (Commit sent))))

sizes_told : (blobs folders : List Bytes) (commit : Bytes) → list_any is_long blobs ≡ false → list_any is_long (blobs ++ ((blobs ++ folders) ++ commit ∷ [])) ≡ (list_any is_long folders || (is_long commit || false))
sizes_told blobs folders commit short =
    list_any-append is_long blobs ((blobs ++ folders) ++ commit ∷ []) ∙ ap (λ b. b || list_any is_long ((blobs ++ folders) ++ commit ∷ [])) short
    ∙ list_any-append is_long (blobs ++ folders) (commit ∷ []) ∙ ap (λ b. b || (is_long commit || false)) (list_any-append is_long blobs folders ∙ ap (λ b. b || list_any is_long folders) short)

-- ---- refusals and faults

-- a fault of reading is one of planning
reading_planned : (MayFail : Type 0) (r : plain.Repository) (sent : CommitCommand) (fault : Fault) → IsReadingFault MayFail (why.Fault fault) → Plans MayFail r sent (Err (why.Fault fault))
reading_planned MayFail r sent Memory h = h
reading_planned MayFail r sent File h = h
reading_planned MayFail r sent IdTaken h = absurd h

-- stored commits have ids of the kind
pub commits_have_ids : (r : plain.Repository) → IsWholeStore r → (ids : List Id) → AllByRecursion (HoldsCommit r) ids → IsTrue (list_all (is_id r.kind) ids)
commits_have_ids r store [] hold = refl
commits_have_ids r store (id ∷ ids) hold = and_from (is_id r.kind id) (list_all (is_id r.kind) ids) (of_value (get r.objects id) refl hold.0) (commits_have_ids r store ids hold.1)
  where
    of_value : (o : Option Value) → get r.objects id ≡ o → IsSome (option_and_then as_commit o) → IsTrue (is_id r.kind id)
    of_value None e h = absurd cc
    of_value (Some value) e h = values_have_ids r.kind r.objects store.own_ids id value e

-- the commit with these parts is the one that says this value
pub commit_is : (kind : Kind) (tree : ObjectId) (parents : List ObjectId) (actors : Actors) (message : Bytes) (value : CommitValue) → Says kind tree parents actors message value
    → (commit : OwnCommit) → commit.tree ≡ tree → commit.parents.items ≡ parents → own_actor commit.author ≡ actor_of actors.author → own_actor commit.committer ≡ actor_of actors.committer
    → commit.message ≡ message → (IsTrue (has_ids_of kind commit) → IsPlainCommit kind commit) → SaysCommit kind commit value
commit_is kind tree parents actors message value said commit same_tree same_parents author committer text plain =
    let tree_told = ap id_of same_tree ∙ said.tree_is in
    let parents_told = ap (map id_of) same_parents ∙ said.parents_are in
    let has = and_from (is_id kind (id_of commit.tree)) (list_all (is_id kind) (map id_of commit.parents.items))
    (ap (is_id kind) tree_told ∙ digest_is_id kind (tree_text (root kind value.files))) (ap (list_all (is_id kind)) parents_told ∙ said.parents_have) in
    record { plain = plain has; tree = tree_told; parents = parents_told; author = author ∙ said.author_is; committer = committer ∙ said.committer_is; message = text ∙ said.message_is }

-- so the parts of a command's commit say what it says
pub commit_said : (r : plain.Repository) (sent : CommitCommand) → IsWholeStore r → (base : Base) → IsCommitBase r sent base → (root : ObjectId) → id_of root ≡ folder_id r.kind (new_commit r sent).files
    → (actors : Actors) → HasActors r sent actors → (message : Bytes) → message ≡ sent.message → Says r.kind root base.parents.items actors message (new_commit r sent)
commit_said r sent store base on root root_is actors are message same = record {
  tree_is = root_is;
  parents_are = on.parents;
  parents_have = commits_have_ids r store (parents_of r sent) (parents_are_commits r sent store);
  author_is = are.author;
  committer_is = are.committer;
  message_is = same;
}

-- the store's kind is the repository's, so what is said for one kind is said for the other
pub commit_told : (kind : Kind) (r : plain.Repository) (sent : CommitCommand) → kind ≡ r.kind → (base : Base) (root : ObjectId) (actors : Actors) (message : Bytes) (result : Result NewObject Stopped)
    → (Says kind root base.parents.items actors message (new_commit r sent) → MakesCommit kind (new_commit r sent) result)
    → Says r.kind root base.parents.items actors message (new_commit r sent) → MakesCommit r.kind (new_commit r sent) result
commit_told kind r sent same base root actors message result told said =
    subst (λ (k : Kind). Says k root base.parents.items actors message (new_commit r sent) → MakesCommit k (new_commit r sent) result) same told said

-- if the object isn't made, nothing is to move
pub not_made : (r : plain.Repository) (sent : CommitCommand) (stopped : Stopped) → MakesCommit r.kind (new_commit r sent) (Err stopped) → GivesCommitted r sent (Err stopped)
not_made r sent (Refused cause) h = h
not_made r sent (why.Fault Memory) h = h
not_made r sent (why.Fault File) h = h
not_made r sent (why.Fault IdTaken) h = h

-- its name moves to it
module _ (r : plain.Repository) (sent : CommitCommand) where
  before_told : (parent : Option ObjectId) (null : ObjectId) → id_of (unwrap_or parent null) ≡ unwrap_or (option_map id_of parent) (id_of null)
  before_told None null = refl
  before_told (Some id) null = refl

  pub before_is : (parent : Option ObjectId) (null : ObjectId) → option_map id_of parent ≡ id_at r (branch_or_name r sent.name) → id_of null ≡ null_id r.kind
      → id_of (unwrap_or parent null) ≡ unwrap_or (id_at r (branch_or_name r sent.name)) (null_id r.kind)
  before_is parent null at is_null =
      before_told parent null ∙ (λ i. unwrap_or (at i) (is_null i))

  pub entry_is : (entry : LogEntry) (commit : NewObject) → id_of entry.before ≡ unwrap_or (id_at r (branch_or_name r sent.name)) (null_id r.kind)
      → IsMadeOf r.kind (new_commit r sent) commit → entry.after ≡ commit.id → actor_of entry.actor ≡ read_actor sent.committer → entry.message.items ≡ title sent.message
      → entry_of entry ≡ move_entry r (branch_or_name r sent.name) (value_id r.kind (StoredCommit (new_commit r sent))) (read_actor sent.committer) (title sent.message)
  entry_is entry commit before made at actor message =
      let after_is = ap id_of at ∙ made.id in
      λ i. record { before = before i; after = after_is i; actor = actor i; message = message i }

module _ (r : plain.Repository) (sent : CommitCommand) where
  pub base_planned : (MayFail : Type 0) (result : Result Base Stopped) (ends : Result Plan Stopped) (stopped : Stopped) → result ≡ Err stopped → ends ≡ Err stopped
      → Tests MayFail name_causes r sent (IsCommitBase r sent) result → Plans MayFail r sent ends
  base_planned MayFail result ends stopped was is_end tests =
      subst (Plans MayFail r sent) (sym is_end) (by_case stopped (subst (λ (x : Result Base Stopped). Tests MayFail name_causes r sent (IsCommitBase r sent) x) was tests))
    where
      by_case : (stopped : Stopped) → IsToldBy MayFail name_causes r sent stopped → Plans MayFail r sent (Err stopped)
      by_case (Refused cause) h = refused_by_name r sent cause h
      by_case (why.Fault fault) h = reading_planned MayFail r sent fault h

  -- ---- paths

  module _ (none : first_among name_causes r (Commit sent) ≡ None) where
    -- the paths of the lines, and those at which something is grafted
    paths_so : (a b : Bool) → list_any is_bad_path (paths_in (Commit sent)) ≡ a → grafts_badly (edits_of r sent) ≡ b → list_any is_bad_path (paths_in (Commit sent) ++ grafted_in r (Commit sent)) ≡ (a || b)
    paths_so a b e f = list_any-append is_bad_path (paths_in (Commit sent)) (grafted_in r (Commit sent)) ∙ (λ i. e i || f i)

    pub path_refused : list_any is_bad_path (paths_in (Commit sent)) ≡ true → first_cause r (Commit sent) ≡ Some BadPath
    path_refused bad = refused_by_form r sent BadPath none (here _ _ _ (paths_so true (grafts_badly (edits_of r sent)) bad refl))

    module _ (good : list_any is_bad_path (paths_in (Commit sent)) ≡ false) where
      pub graft_refused : grafts_badly (edits_of r sent) ≡ true → first_cause r (Commit sent) ≡ Some BadPath
      graft_refused bad = refused_by_form r sent BadPath none (here _ _ _ (paths_so false true good bad))

      -- if the edits that are read are those of the lines, but for long contents
      module _ (edits : List Edit) (are : AreEdits edits sent.edits) where
        alike : AllZip IsAlike (map (kept_edit r) edits) (edits_of r sent)
        alike = edits_alike r edits sent.edits are good

        badly_same : grafts_badly (map (kept_edit r) edits) ≡ grafts_badly (edits_of r sent)
        badly_same = ap (list_any is_bad_path) (all_paths_alike (map (kept_edit r) edits) (edits_of r sent) alike)

        -- one grafts to a bad path, or a fault was met
        pub reading_refused : {T : Type 0} (MayFail : Type 0) (IsRead : T → Type 0) (stopped : Stopped) → TellsRead MayFail (map (kept_edit r) edits) IsRead (Err stopped) → Plans MayFail r sent (Err stopped)
        reading_refused MayFail IsRead (Refused reason) h = subst (λ (cause : Cause). first_cause r (Commit sent) ≡ Some cause) (sym h.0) (graft_refused (sym badly_same ∙ h.1))
        reading_refused MayFail IsRead (why.Fault fault) h = reading_planned MayFail r sent fault h

        module _ (grafts : grafts_badly (map (kept_edit r) edits) ≡ false) (ids : List Id) (same : ids ≡ parents_of r sent) where
          all_good : list_any is_bad_path (paths_in (Commit sent) ++ grafted_in r (Commit sent)) ≡ false
          all_good = paths_so false false good (sym badly_same ∙ grafts)

          refused_same : some_refused (first_files r ids) (map (kept_edit r) edits) ≡ some_refused (first_files r (parents_of r sent)) (edits_of r sent)
          refused_same = ap (λ ids. some_refused (first_files r ids) (map (kept_edit r) edits)) same ∙ refused_alike (first_files r (parents_of r sent)) (map (kept_edit r) edits) (edits_of r sent) alike

          nothing_same : list_any grafts_nothing (map (kept_edit r) edits) ≡ list_any grafts_nothing (edits_of r sent)
          nothing_same = all_nothing_alike (map (kept_edit r) edits) (edits_of r sent) alike

          -- a folder or a fault that the edits met
          pub edits_planned : (MayFail : Type 0) (stopped : Stopped) → TellsEdited MayFail r ids (map (kept_edit r) edits) (Err stopped) → Plans MayFail r sent (Err stopped)
          edits_planned MayFail (Refused reason) h =
              subst (λ (cause : Cause). first_cause r (Commit sent) ≡ Some cause) (sym h.0)
              (refused_by_form r sent IsFolder none (passed _ _ _ _ all_good (here _ _ _ (sym refused_same ∙ h.1))))
          edits_planned MayFail (why.Fault fault) h = reading_planned MayFail r sent fault h

          accepted : (MayFail : Type 0) (edited : Option EditedFiles) → TellsEdited MayFail r ids (map (kept_edit r) edits) (Ok edited) → some_refused (first_files r (parents_of r sent)) (edits_of r sent) ≡ false
          accepted MayFail (Some edited) h = sym refused_same ∙ h.accepted
          accepted MayFail None h = sym refused_same ∙ h.accepted

          -- one finds nothing to graft
          pub nothing_refused : (MayFail : Type 0) (edited : Option EditedFiles) → TellsEdited MayFail r ids (map (kept_edit r) edits) (Ok edited) → list_any grafts_nothing (map (kept_edit r) edits) ≡ true → first_cause r (Commit sent) ≡ Some NoSuchPath
          nothing_refused MayFail edited h nothing =
              refused_by_form r sent NoSuchPath none (passed _ _ _ _ all_good (passed _ _ _ _ (accepted MayFail edited h) (here _ _ _ (sym nothing_same ∙ nothing))))

          -- none is refused
          pub edits_pass : (MayFail : Type 0) (edited : Option EditedFiles) → TellsEdited MayFail r ids (map (kept_edit r) edits) (Ok edited) → list_any grafts_nothing (map (kept_edit r) edits) ≡ false → first_among path_causes r (Commit sent) ≡ None
          edits_pass MayFail edited h nothing = passed _ _ _ _ all_good (passed _ _ _ _ (accepted MayFail edited h) (passed _ _ _ _ (sym nothing_same ∙ nothing) refl))

  module _ (formed : first_among form_causes r (Commit sent) ≡ None) (short : list_any is_long (contents_in (Commit sent)) ≡ false)
      (none : first_among name_causes r (Commit sent) ≡ None) where
    sizes : is_too_large r (Commit sent) ≡ (list_any is_long (contents r (new_commit r sent).files) || (is_long (commit_content r.kind (new_commit r sent)) || false))
    sizes =
        ap (λ those. list_any is_long (contents_in (Commit sent) ++ those)) (stored_contents r sent)
        ∙ sizes_told (contents_in (Commit sent)) (contents r (new_commit r sent).files) (commit_content r.kind (new_commit r sent)) short

    or_true : (a : Bool) → (a || true) ≡ true
    or_true true = refl
    or_true false = refl

    pub folders_refused : list_any is_long (contents r (new_commit r sent).files) ≡ true → first_cause r (Commit sent) ≡ Some TooLarge
    folders_refused large =
        refused_by_size r sent none formed
        ∙ here (is_too_large r (Commit sent)) TooLarge None (sizes ∙ ap (λ b. b || (is_long (commit_content r.kind (new_commit r sent)) || false)) large)

    -- the trees are too large, or no memory was left
    pub trees_planned : (MayFail : Type 0) → IsSound r → (folders : List FileMap) (trees : List EditedTree) → AreNewFolders r (new_commit r sent).files folders → AreTreesOf r.kind folders trees
        → (stopped : Stopped) → IsNotAdded trees stopped → IsUnplanned MayFail r sent stopped
    trees_planned MayFail sound folders trees fresh are (Refused cause) told =
        subst (λ (cause : Cause). first_cause r (Commit sent) ≡ Some cause) (sym told.0) (folders_refused (some_long r sound (new_commit r sent).files folders trees fresh are told.1))
    trees_planned MayFail sound folders trees fresh are (why.Fault Memory) told = tt
    trees_planned MayFail sound folders trees fresh are (why.Fault File) told = absurd told
    trees_planned MayFail sound folders trees fresh are (why.Fault IdTaken) told = absurd told

    -- no cause holds but that something may be too large
    pub may_take : takes_id r (Commit sent) ≡ true → MayTake r (Commit sent)
    may_take taken = (by_size (is_too_large r (Commit sent)) (refused_by_size r sent none formed), taken)
      where
        by_size : (b : Bool) → first_cause r (Commit sent) ≡ cond b (Some TooLarge) None → (first_cause r (Commit sent) ≡ None) ⊎ (first_cause r (Commit sent) ≡ Some TooLarge)
        by_size true e = inr e
        by_size false e = inl e

    -- if what is put or a tree has the null id
    pub null_planned : HaveNull r.kind (first_files r (parents_of r sent)) (edits_of r sent) → MayTake r (Commit sent)
    null_planned null = may_take (null_taken r sent null)

    -- those objects of what is put and of the new folders that need storing, each folder within the
    -- limit, and the id of their root
    pub record IsBelow (below : Below) : Type 0 where
      pub folders : List FileMap
      pub new : AreNewFolders r (new_commit r sent).files folders
      pub put : AreNeeded r (flat_map put_bytes (edits_of r sent) ++ map StoredFolder folders) below.objects.items
      pub root_is : id_of below.root ≡ folder_id r.kind (new_commit r sent).files
      pub fit : list_any is_long (contents r (new_commit r sent).files) ≡ false

    abbrev pub AreMeant : Option EditedFiles → Type 0
    AreMeant edited = MatchOption edited (HaveNull r.kind (first_files r (parents_of r sent)) (edits_of r sent)) (AreEdited r.kind (first_files r (parents_of r sent)) (edits_of r sent))

    error_is : {T : Type 0} (a b : Stopped) → ◌≡◌ {A = Result T Stopped} (Err a) (Err b) → a ≡ b
    error_is a b e = cc

    folders_new : IsSound r → (edited : EditedFiles) (so : AreEdited r.kind (first_files r (parents_of r sent)) (edits_of r sent) edited)
        → AreNewFolders r (new_commit r sent).files (so.trees.below ++ (new_commit r sent).files ∷ [])
    folders_new sound edited so =
        new_folders r sound.whole.store (parents_of r sent) (parents_are_commits r sent sound.whole.store) sent.edits (new_commit r sent).files edited.trees.items so.trees

    pub below_planned : (MayFail : Type 0) → IsSound r → (edited : Option EditedFiles) → AreMeant edited → (read : ReadTrees) (blobs : List NewObject) (stopped : Stopped)
        → MatchOption edited (◌≡◌ {A = Result Below Stopped} (Err stopped) (Err (why.Fault IdTaken))) (λ edited. GivesObjects read blobs edited (Err stopped)) → IsUnplanned MayFail r sent stopped
    below_planned MayFail sound None null read blobs stopped is = subst (IsUnplanned MayFail r sent) (sym (error_is stopped (why.Fault IdTaken) is)) (null_planned null)
    below_planned MayFail sound (Some edited) so read blobs stopped told =
        trees_planned MayFail sound (so.trees.below ++ (new_commit r sent).files ∷ []) edited.trees.items (folders_new sound edited so) so.trees.trees_are stopped told

    pub below_told : IsSound r → (edited : Option EditedFiles) → AreMeant edited → (read : ReadTrees) → AreTrees r read → (blobs : List NewObject) → AreObjectsOf r.kind (flat_map put_bytes (edits_of r sent)) blobs → (below : Below)
        → MatchOption edited (◌≡◌ {A = Result Below Stopped} (Ok below) (Err (why.Fault IdTaken))) (λ edited. GivesObjects read blobs edited (Ok below)) → IsBelow below
    below_told sound None null read trees blobs are below is = absurd (cc is)
    below_told sound (Some edited) so read trees blobs are below told =
        let folders = so.trees.below ++ (new_commit r sent).files ∷ [] in
        let new = folders_new sound edited so in
        record {
          folders = folders;
          new = new;
          put = told.1.2 r (flat_map put_bytes (edits_of r sent) ++ map StoredFolder folders) sound.whole.store trees
              (trees_put r.kind (flat_map put_bytes (edits_of r sent)) folders blobs told.1.0 edited.trees.items are so.trees.trees_are told.1.1.1);
          root_is = ap id_of told.0 ∙ so.root;
          fit = none_long r sound (new_commit r sent).files folders edited.trees.items new so.trees.trees_are told.1.1.0;
        }

    pub commit_refused : max_content < length (commit_content r.kind (new_commit r sent)) → first_cause r (Commit sent) ≡ Some TooLarge
    commit_refused large =
        refused_by_size r sent none formed
        ∙ here (is_too_large r (Commit sent)) TooLarge None (sizes ∙ ap (λ b. list_any is_long (contents r (new_commit r sent).files) || (b || false)) (beyond max_content _ large) ∙ or_true _)

    -- the commit is too large, or no memory was left
    pub commit_planned : (MayFail : Type 0) (T : Type 0) (IsMeant : T → Type 0) (stopped : Stopped) → IfItFits (commit_content r.kind (new_commit r sent)) IsMeant (Err stopped)
        → IsUnplanned MayFail r sent stopped
    commit_planned MayFail T IsMeant (Refused cause) told =
        subst (λ (cause : Cause). first_cause r (Commit sent) ≡ Some cause) (sym told.0) (commit_refused told.1)
    commit_planned MayFail T IsMeant (why.Fault Memory) told = tt
    commit_planned MayFail T IsMeant (why.Fault File) told = absurd told
    commit_planned MayFail T IsMeant (why.Fault IdTaken) told = absurd told

    pub none_refused : list_any is_long (contents r (new_commit r sent).files) ≡ false → length (commit_content r.kind (new_commit r sent)) ≤ max_content → first_cause r (Commit sent) ≡ None
    none_refused folders_fit commit_fits =
        refused_by_size r sent none formed
        ∙ passed (is_too_large r (Commit sent)) TooLarge None None (sizes ∙ (λ i. folders_fit i || (within max_content (length (commit_content r.kind (new_commit r sent))) commit_fits i || false))) refl

  -- what the edits come to, if no content is over its limit
  pub edits_meant : (MayFail : Type 0) (edits : List Edit) → AreEdits edits sent.edits → list_any is_bad_path (paths_in (Commit sent)) ≡ false
      → list_any is_long (contents_in (Commit sent)) ≡ false → (ids : List Id) → ids ≡ parents_of r sent
      → (edited : Option EditedFiles) → TellsEdited MayFail r ids (map (kept_edit r) edits) (Ok edited)
      → MatchOption edited (HaveNull r.kind (first_files r (parents_of r sent)) (edits_of r sent)) (AreEdited r.kind (first_files r (parents_of r sent)) (edits_of r sent))
  edits_meant MayFail edits are good short ids same edited h =
      by_case edited (subst (λ made. TellsEdited MayFail r (parents_of r sent) made (Ok edited)) (edits_same r edits sent.edits are good short)
      (subst (λ (ids : List Id). TellsEdited MayFail r ids (map (kept_edit r) edits) (Ok edited)) same h))
    where
      by_case : (edited : Option EditedFiles) → TellsEdited MayFail r (parents_of r sent) (edits_of r sent) (Ok edited)
          → MatchOption edited (HaveNull r.kind (first_files r (parents_of r sent)) (edits_of r sent)) (AreEdited r.kind (first_files r (parents_of r sent)) (edits_of r sent))
      by_case None h = h
      by_case (Some edited) h = h

  -- ---- the objects

  pub objects_are : IsWholeStore r → (folders : List FileMap) (some objects : List NewObject) (commit : NewObject)
      → AreNeeded r (flat_map put_bytes (edits_of r sent) ++ map StoredFolder folders) some
      → IsMadeOf r.kind (new_commit r sent) commit
      → objects ≡ some ++ commit ∷ [] → AreNeeded r (commit_puts r sent folders) objects
  objects_are store folders some objects commit are made is =
      subst (AreNeeded r (commit_puts r sent folders)) (sym is)
      (needed_kept r store (flat_map put_bytes (edits_of r sent) ++ map StoredFolder folders) some (StoredCommit (new_commit r sent)) are commit
      (record { id = made.id; kind = made.kind_is; content = made.content_is }))

  -- the values are those that the command stores, but for folders whose text is stored
  abbrev blobs : List Value
  blobs = flat_map put_bytes (edits_of r sent)

  abbrev all : List Value
  all = map StoredFolder (folders_of (new_commit r sent).files)

  abbrev last : List Value
  last = StoredCommit (new_commit r sent) ∷ []

  module _ (folders : List FileMap) (new : AreNewFolders r (new_commit r sent).files folders) where
    puts_among : (value : Value) → Contains (commit_puts r sent folders) value → Contains (stored_by r (Commit sent)) value
    puts_among value there = in_contains (stored_by r (Commit sent)) value (elim (in_either value (blobs ++ map StoredFolder folders) last (contains_in (commit_puts r sent folders) value there)) [
      | inl a ↦ in_left value (blobs ++ all) last (elim (in_either value blobs (map StoredFolder folders) a) [
        | inl b ↦ in_left value blobs all b
        | inr b ↦
            let from = of_map StoredFolder value folders b in
            in_right value blobs all (subst (λ v. In v all) (sym from.2) (in_map StoredFolder from.0 (folders_of (new_commit r sent).files)
            (contains_in (folders_of (new_commit r sent).files) from.0 (new.among from.0 (in_contains folders from.0 from.1)))))
      ])
      | inr a ↦ in_right value (blobs ++ all) last a
    ])

    puts_all : (value : Value) → Contains (stored_by r (Commit sent)) value → Contains (commit_puts r sent folders) value ⊎ HasText r.kind r.objects value
    puts_all value there = elim (in_either value (blobs ++ all) last (contains_in (stored_by r (Commit sent)) value there)) [
      | inl a ↦ elim (in_either value blobs all a) [
        | inl b ↦ inl (in_contains (commit_puts r sent folders) value (in_left value (blobs ++ map StoredFolder folders) last (in_left value blobs (map StoredFolder folders) b)))
        | inr b ↦
            let from = of_map StoredFolder value (folders_of (new_commit r sent).files) b in
            elim (new.all from.0 (in_contains (folders_of (new_commit r sent).files) from.0 from.1)) [
              | inl d ↦ inl (in_contains (commit_puts r sent folders) value (in_left value (blobs ++ map StoredFolder folders) last (in_right value blobs (map StoredFolder folders)
                  (subst (λ v. In v (map StoredFolder folders)) (sym from.2) (in_map StoredFolder from.0 folders (contains_in folders from.0 d))))))
              | inr d ↦ inr (subst (HasText r.kind r.objects) (sym from.2) d)
            ]
      ]
      | inr a ↦ inl (in_contains (commit_puts r sent folders) value (in_right value (blobs ++ map StoredFolder folders) last a))
    ]

    pub is_plan : IsSound r → first_cause r (Commit sent) ≡ None → (plan : Plan) → AreNeeded r (commit_puts r sent folders) plan.objects.items → IsMove r (commit_move r sent) plan.moves → IsPlan r sent plan
    is_plan sound none plan put moves = record {
      values = put.fewer;
      objects = put.objects_are;
      among = λ value there. puts_among value (put.among value there);
      all = λ value there. elim (puts_all value there) [ inl here ↦ put.all value here | inr near ↦ inr near ];
      whole = put.whole (commits_store_whole r sent folders sound none new);
      moves = moves;
    }
