-- What `files` and `show` return, by what their word means.
use Rattle.std.proofs.Common.{◌≡◌, ℕ, Bool, true, false, cond, ◌||◌, List, map, refl, sym, ◌∙◌, ap, subst, Option, Some, None, option_map, option_and_then, option_to_list, unwrap_or, is_none, is_some, codes, Vec, Result, Ok, Err}
use Rattle.std.specs.FinMap.{get, entries, empty}
use Rattle.std.specs.Result.{IsErrAnd}
use Rattle.std.specs.declared.alloc.Global.{Global}
use Rattle.history_model.specs.Bytes.{Bytes}
use Rattle.history_model.specs.FileMap.{FileMap, Content, has_below, inside}
use Rattle.history_model.specs.Objects.{CommitValue, Value, StoredCommit, StoredTag, StoredBytes, StoredFolder, blob_id, entry_at, folder_id, mode_of}
use Rattle.gix_hash.specs.Id.{Id, id_of}
use Rattle.history_model.specs.Repository.{Repository, IsWhole, IsWholeStore, as_commit}
use Rattle.history_model.specs.Meaning.{first_files, word_files}
use Rattle.history_model.specs.Words.{word_meaning}
use Rattle.history_model.specs.Commands.{Command, Files, Show}
use Rattle.history_model.specs.Replies.{FilesAre, ShowsCommit, ShowsContent, reply_text}
use Rattle.history_model.specs.Answers.{StandsForCommit, files_shown, commit_shown, content_shown, file_line}
use Rattle.history_model.specs.Causes.{is_bad_path, first_cause}
use Rattle.history_model.specs.declared.FileKind.{FileKind}
use Rattle.history_model.specs.declared.FileKind.TheVariants.{File, Exec, Link}
use Rattle.history_files.specs.Reading.{entry_of, line_of}
use Rattle.history_files.specs.declared.found.Found.{Found}
use Rattle.history_files.specs.declared.listing.File.{File as FoundFile}
use Rattle.gix_hash.specs.declared.kind.Kind.{Kind}
use Rattle.history_model.specs.declared.Cause.{Cause}
use Rattle.history_model.specs.declared.Cause.TheVariants.{BadPath, IsFolder, NoSuchPath}
use Rattle.history_model.proofs.WholeReads.{read_holds}
use Rattle.history_layout.proofs.OfferedFiles.{files_are_stored}
use Rattle.history_model.proofs.WholeLists.{texts_differ}
use Rattle.history_texts.specs.Commits.{SaysCommit}
use Rattle.gix_hash.specs.declared.object_id.ObjectId.{ObjectId}
use Rattle.history_repository.specs.Reads.{OnlyAnswers, GivesMeant, ReadsMeant, IsReadingFault}
use Rattle.history_repository.specs.Meanings.{commit_or_cause}
use Rattle.history_queries.specs.Shown.{shown_commit, shown_content}
use Rattle.history_repository.specs.declared.stopped.Stopped.{Stopped}
use Rattle.history_repository.proofs.WordCauses.{by_word, commit_is, word_passes, word_refused}
use Rattle.history_repository.specs.declared.stopped.Stopped.TheVariants.{Refused, Fault}
use Rattle.history_model.proofs.EntryLemmas.{same_mode}
use Rattle.history_files.specs.declared.found.Found.TheVariants as found
use Rattle.gix_object_commit.specs.declared.commit.owned.Commit as commits

-- a fault of reading is no refusal
pub reading_fault : (MayFail : Type 0) (r : Repository) (sent : Command) (stopped : Stopped) → IsReadingFault MayFail stopped → OnlyAnswers MayFail r sent (Err stopped)
reading_fault MayFail r sent (Refused cause) h = absurd h
reading_fault MayFail r sent (Fault fault) h = h

-- a word that means no commit is refused for its cause
pub unread : (MayFail : Type 0) (r : Repository) (sent : Command) (word : Bytes) (stopped : Stopped) → ((cause : Cause) → commit_or_cause r word ≡ Err cause → first_cause r sent ≡ Some cause)
    → ReadsMeant MayFail r word (Err stopped) → OnlyAnswers MayFail r sent (Err stopped)
unread MayFail r sent word (Refused cause) told h = told cause h
unread MayFail r sent word (Fault fault) told h = h

-- what a call stopped for is handed on
pub handed_on : (MayFail : Type 0) (r : Repository) (sent : Command) (result : Result (Vec ℕ Global) Stopped) (stopped : Stopped) → IsErrAnd result (λ other. other ≡ stopped) → OnlyAnswers MayFail r sent (Err stopped) → OnlyAnswers MayFail r sent result
handed_on MayFail r sent (Ok text) stopped same h = absurd same
handed_on MayFail r sent (Err other) stopped same h = subst (λ (x : Stopped). OnlyAnswers MayFail r sent (Err x)) (sym same) h

-- what is given is what the command returns
pub given : (MayFail : Type 0) (P : Vec ℕ Global → Type 0) (r : Repository) (sent : Command) (result : Result (Vec ℕ Global) Stopped) → GivesMeant MayFail P result → ((text : Vec ℕ Global) → P text → OnlyAnswers MayFail r sent (Ok text)) → OnlyAnswers MayFail r sent result
given MayFail P r sent (Ok text) h answers = answers text h
given MayFail P r sent (Err stopped) h answers = reading_fault MayFail r sent stopped h

-- by what a good path meets
abbrev by_path : FileMap → Bytes → Option Cause
by_path files path = cond (has_below files path || false) (Some IsFolder) (cond (is_none (get files path) || false) (Some NoSuchPath) None)

module _ (r : Repository) (w : IsWhole r) where
  -- ---- refused words

  files_causes : (word : Bytes) → first_cause r (Files word) ≡ by_word r (word_meaning r word) None
  files_causes word = refl

  commit_causes : (word : Bytes) → first_cause r (Show word None) ≡ by_word r (word_meaning r word) None
  commit_causes word = refl

  path_causes : (word path : Bytes) → first_cause r (Show word (Some path)) ≡ by_word r (word_meaning r word) (cond (is_bad_path path || false) (Some BadPath) (by_path (word_files r word) path))
  path_causes word path = refl

  pub files_refused : (word : Bytes) (cause : Cause) → commit_or_cause r word ≡ Err cause → first_cause r (Files word) ≡ Some cause
  files_refused word cause e = files_causes word ∙ word_refused r word cause None e

  pub show_refused : (word : Bytes) (path : Option Bytes) (cause : Cause) → commit_or_cause r word ≡ Err cause → first_cause r (Show word path) ≡ Some cause
  show_refused word None cause e = commit_causes word ∙ word_refused r word cause None e
  show_refused word (Some path) cause e = path_causes word path ∙ word_refused r word cause _ e

  -- ---- the commit that a word means

  pub reads_commit : (word : Bytes) (id : Id) → commit_or_cause r word ≡ Ok id → (commit : CommitValue) × (get r.objects id ≡ Some (StoredCommit commit))
  reads_commit word id reads = go (get r.objects id) refl (read_holds r w.store (word_meaning r word) id (commit_is r word id reads))
    where
      go : (found : Option Value) → get r.objects id ≡ found → is_some (option_and_then as_commit found) ≡ true → (commit : CommitValue) × (get r.objects id ≡ Some (StoredCommit commit))
      go None e h = cc
      go (Some (StoredCommit c)) e h = (c, e)
      go (Some (StoredTag t)) e h = cc
      go (Some (StoredBytes b)) e h = cc
      go (Some (StoredFolder f)) e h = cc

  stands_for : (word : Bytes) (id : Id) (commit : CommitValue) → commit_or_cause r word ≡ Ok id → get r.objects id ≡ Some (StoredCommit commit) → StandsForCommit r word id commit
  stands_for word id commit reads at = record { read = commit_is r word id reads; holds = ap (option_and_then as_commit) at }

  -- ---- what is shown

  pub files_answered : (MayFail : Type 0) (word : Bytes) (id : Id) (commit : CommitValue) (found : List FoundFile) (text : Vec ℕ Global) → commit_or_cause r word ≡ Ok id → get r.objects id ≡ Some (StoredCommit commit)
      → map line_of found ≡ map (file_line r.kind) (entries commit.files) → text.items ≡ reply_text (FilesAre (map line_of found)) → OnlyAnswers MayFail r (Files word) (Ok text)
  files_answered MayFail word id commit found text reads at are written = (
    FilesAre (files_shown r commit.files),
    written ∙ ap (λ files. reply_text (FilesAre files)) are,
    files_causes word ∙ word_passes r word id None reads,
    (id, commit, stands_for word id commit reads at, refl),
  )

  pub commit_answered : (MayFail : Type 0) (word : Bytes) (id : ObjectId) (value : CommitValue) (commit : commits.Commit) (text : Vec ℕ Global) → commit_or_cause r word ≡ Ok (id_of id) → get r.objects (id_of id) ≡ Some (StoredCommit value)
      → SaysCommit r.kind commit value → text.items ≡ reply_text (ShowsCommit (shown_commit id commit)) → OnlyAnswers MayFail r (Show word None) (Ok text)
  commit_answered MayFail word id value commit text reads at is written =
      let shown : shown_commit id commit ≡ commit_shown r (id_of id) value = λ i. record { id = id_of id; tree = is.tree i; parents = is.parents i; author = is.author i; committer = is.committer i; message = is.message i } in (
        ShowsCommit (commit_shown r (id_of id) value),
        written ∙ ap (λ shown. reply_text (ShowsCommit shown)) shown,
        commit_causes word ∙ word_passes r word (id_of id) None reads,
        (id_of id, value, stands_for word (id_of id) value reads at, refl),
      )

  -- ---- what is at a path

  word_files_are : (word : Bytes) (id : Id) (commit : CommitValue) → commit_or_cause r word ≡ Ok id → get r.objects id ≡ Some (StoredCommit commit) → word_files r word ≡ commit.files
  word_files_are word id commit reads at =
      let stands = stands_for word id commit reads at in
      ap (λ found. first_files r (option_to_list found)) stands.read ∙ ap (λ found. unwrap_or (option_map (λ commit. commit.files) found) empty) stands.holds

  -- the causes that are left to a word that reads
  path_cause : (word path : Bytes) (id : Id) (commit : CommitValue) → commit_or_cause r word ≡ Ok id → get r.objects id ≡ Some (StoredCommit commit)
      → first_cause r (Show word (Some path)) ≡ cond (is_bad_path path || false) (Some BadPath) (by_path commit.files path)
  path_cause word path id commit reads at =
      path_causes word path
      ∙ word_passes r word id (cond (is_bad_path path || false) (Some BadPath) (by_path (word_files r word) path)) reads
      ∙ ap (λ files. cond (is_bad_path path || false) (Some BadPath) (by_path files path)) (word_files_are word id commit reads at)

  pub bad_path_refused : (word path : Bytes) (id : Id) → commit_or_cause r word ≡ Ok id → is_bad_path path ≡ true → first_cause r (Show word (Some path)) ≡ Some BadPath
  bad_path_refused word path id reads bad =
      let found = reads_commit word id reads in
      path_cause word path id found.0 reads found.1 ∙ ap (λ b. cond (b || false) (Some BadPath) (by_path (found.0).files path)) bad

  module _ (word path : Bytes) (id : Id) (commit : CommitValue) (reads : commit_or_cause r word ≡ Ok id) (at : get r.objects id ≡ Some (StoredCommit commit)) (good : is_bad_path path ≡ false) where
    good_cause : first_cause r (Show word (Some path)) ≡ by_path commit.files path
    good_cause = path_cause word path id commit reads at ∙ ap (λ b. cond (b || false) (Some BadPath) (by_path commit.files path)) good

    pub folder_refused : has_below commit.files path ≡ true → first_cause r (Show word (Some path)) ≡ Some IsFolder
    folder_refused below = good_cause ∙ ap (λ b. cond (b || false) (Some IsFolder) (cond (is_none (get commit.files path) || false) (Some NoSuchPath) None)) below

    no_folder : has_below commit.files path ≡ false → first_cause r (Show word (Some path)) ≡ cond (is_none (get commit.files path) || false) (Some NoSuchPath) None
    no_folder below = good_cause ∙ ap (λ b. cond (b || false) (Some IsFolder) (cond (is_none (get commit.files path) || false) (Some NoSuchPath) None)) below

    pub no_path_refused : has_below commit.files path ≡ false → get commit.files path ≡ None → first_cause r (Show word (Some path)) ≡ Some NoSuchPath
    no_path_refused below none = no_folder below ∙ ap (λ found. cond (is_none found || false) (Some NoSuchPath) None) none

    pub content_answered : (MayFail : Type 0) (kind : FileKind) (blob : ObjectId) (content : Content) (text : Vec ℕ Global) → has_below commit.files path ≡ false → get commit.files path ≡ Some content
        → kind ≡ content.kind → id_of blob ≡ blob_id r.kind content.bytes
        → text.items ≡ reply_text (ShowsContent (shown_content kind blob content.bytes)) → OnlyAnswers MayFail r (Show word (Some path)) (Ok text)
    content_answered MayFail kind blob content text below found is_kind is_id written =
        let shown : shown_content kind blob content.bytes ≡ content_shown r content = λ i. record { kind = is_kind i; id = is_id i; bytes = content.bytes } in
        let accepted : first_cause r (Show word (Some path)) ≡ None = no_folder below ∙ ap (λ found. cond (is_none found || false) (Some NoSuchPath) None) found in
        (ShowsContent (content_shown r content), written ∙ ap (λ shown. reply_text (ShowsContent shown)) shown, accepted, (id, commit, content, stands_for word id commit reads at, found, refl))

-- ---- what is read on the way

-- the root of a stored commit
pub root_at : (r : Repository) → IsWholeStore r → (id : Id) (value : CommitValue) (root : ObjectId) → get r.objects id ≡ Some (StoredCommit value) → id_of root ≡ folder_id r.kind value.files
    → get r.objects (id_of root) ≡ Some (StoredFolder value.files)
root_at r store id value root at is = ap (get r.objects) is ∙ (store.closed id (StoredCommit value) at).1

pub no_file_mode : {A : Type 0} (kind : FileKind) → mode_of kind ≡ codes "40000" → A
no_file_mode File e = texts_differ _ _ refl e
no_file_mode Exec e = texts_differ _ _ refl e
no_file_mode Link e = texts_differ _ _ refl e

module _ (kind : Kind) (files : FileMap) (path : Bytes) where
  -- what is found is what the files have at the path
  abbrev pub IsFound : Option Found → Type 0
  IsFound found = option_map entry_of found ≡ entry_at kind files path

  abbrev entry : Bool → Option Content → Option (Bytes × Id)
  entry below at = cond below (Some (codes "40000", folder_id kind (inside path files))) (option_map (λ (content : Content). (mode_of content.kind, blob_id kind content.bytes)) at)

  some_same : {X : Type 0} {x y : X} → Some x ≡ Some y → x ≡ y
  some_same e = cc

  pub none_found : IsFound None → (has_below files path ≡ false) × (get files path ≡ None)
  none_found is = go (has_below files path) refl (get files path) refl is
    where
      go : (b : Bool) → has_below files path ≡ b → (o : Option Content) → get files path ≡ o → None ≡ entry b o → (has_below files path ≡ false) × (get files path ≡ None)
      go true e o f is = cc
      go false e None f is = (e, f)
      go false e (Some content) f is = cc

  pub folder_found : (id : ObjectId) → IsFound (Some (found.Folder id)) → has_below files path ≡ true
  folder_found id is = go (has_below files path) refl (get files path) is
    where
      go : (b : Bool) → has_below files path ≡ b → (o : Option Content) → Some (codes "40000", id_of id) ≡ entry b o → has_below files path ≡ true
      go true e o is = e
      go false e None is = cc
      go false e (Some content) is = no_file_mode content.kind (sym (ap (λ (x : Bytes × Id). x.0) (some_same is)))

  pub file_found : (its : FileKind) (id : ObjectId) → IsFound (Some (found.File its id))
      → (has_below files path ≡ false) × ((content : Content) × (get files path ≡ Some content) × (its ≡ content.kind) × (id_of id ≡ blob_id kind content.bytes))
  file_found its id is = go (has_below files path) refl (get files path) refl is
    where
      go : (b : Bool) → has_below files path ≡ b → (o : Option Content) → get files path ≡ o → Some (mode_of its, id_of id) ≡ entry b o
          → (has_below files path ≡ false) × ((content : Content) × (get files path ≡ Some content) × (its ≡ content.kind) × (id_of id ≡ blob_id kind content.bytes))
      go true e o f is = no_file_mode its (ap (λ (x : Bytes × Id). x.0) (some_same is))
      go false e None f is = cc
      go false e (Some content) f is =
          let same = some_same is in
          (e, (content, f, same_mode its content.kind (ap (λ (x : Bytes × Id). x.0) same), ap (λ (x : Bytes × Id). x.1) same))

-- the bytes of a stored folder's file are stored under the id that is found
pub bytes_at : (r : Repository) → IsWholeStore r → (folder : Id) (files : FileMap) (path : Bytes) → get r.objects folder ≡ Some (StoredFolder files) → (id : ObjectId) (content : Content) → get files path ≡ Some content
    → id_of id ≡ blob_id r.kind content.bytes → get r.objects (id_of id) ≡ Some (StoredBytes content.bytes)
bytes_at r store folder files path at id content found is = ap (get r.objects) is ∙ files_are_stored r folder files path content store at found
