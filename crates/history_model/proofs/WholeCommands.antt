-- The store after a command of which no cause holds is whole.
use Rattle.std.proofs.Common.{◌≡◌, false, List, [], ◌∷◌, ◌++◌, map, refl, sym, ap, subst, inl, inr, Option, Some, None, is_none, option_to_list, unwrap_or}
use Rattle.std.specs.List.{flat_map}
use Rattle.std.specs.FinMap.{entries, keys}
use Rattle.history_model.specs.Bytes.{Bytes}
use Rattle.history_model.specs.FileMap.{FileMap, Content, inside, beginnings, folders_of, Edit, Put, Remove, RemoveFile, Graft, grafted}
use Rattle.history_model.specs.laws.Trees.{ComesFromFiles}
use Rattle.history_model.specs.Objects.{Value, StoredCommit, StoredBytes, StoredFolder}
use Rattle.gix_hash.specs.Id.{Id, null_id}
use Rattle.history_model.specs.Repository.{Repository, HoldsCommit, IsStored, peeled, IsWholeStore}
use Rattle.history_model.specs.Forms.{IsWrittenFiles, IsWritten}
use Rattle.history_model.specs.Words.{WordMeaning, ReadsAs, Unborn, Unknown, Ambiguous, commit_read, commit_of, word_meaning}
use Rattle.history_model.specs.Commands.{Command, Commit, Tag, Move, Rename, Delete, Switch, Pack, Index, Names, Files, Past, Log, Show, CommitCommand, TagCommand, EditLine, PutLine, RemoveLine, RemoveFileLine, GraftLine}
use Rattle.history_model.specs.Meaning.{parents_of, first_files, word_files, read_edit, edits_of, new_commit, put_bytes, stored_by, takes_id, names_after, branch_after, after}
use Rattle.history_model.specs.CommandParts.{words_in, at_word, edit_words}
use Rattle.history_model.specs.Causes.{first_cause, is_unknown, is_ambiguous, is_unborn, is_no_commit}
use Rattle.history_model.specs.declared.Cause.TheVariants.{UnknownWord, AmbiguousWord, UnbornHead, NotACommit}
use Rattle.history_model.proofs.WholeLists.{In, in_left, in_right, in_either, in_map, of_map, of_flat, in_flat, none_passes}
use Rattle.history_model.proofs.WholeRoots.{HasAll, ArePlain, of_folders, inside_has, plain_inside}
use Rattle.history_model.proofs.WholeStores.{in_get, near_stored}
use Rattle.history_model.proofs.GraftLemmas.{of_carried}
use Rattle.history_model.proofs.WholeGrowth.{Coming, Fits, grown_whole}
use Rattle.history_model.proofs.WholeReads.{no_cause, tests_ambiguous_word, tests_not_a_commit, tests_unborn_head, tests_unknown_word, read_holds, parents_hold, plain_written, Fine, first_fine, edits_from, new_written}

-- ---- words

-- each word of the command means a commit
pub word_commit : (r : Repository) (command : Command) → first_cause r command ≡ None → (word : Bytes) → In word (words_in command) → (t : Id) × (commit_of r word ≡ Some t)
word_commit r command none word i = go (word_meaning r word)
    (none_passes (λ w. is_unknown (word_meaning r w)) (words_in command) (no_cause r command none UnknownWord tests_unknown_word) word i)
    (none_passes (λ w. is_ambiguous (word_meaning r w)) (words_in command) (no_cause r command none AmbiguousWord tests_ambiguous_word) word i)
    (none_passes (λ w. is_unborn (word_meaning r w)) (words_in command) (no_cause r command none UnbornHead tests_unborn_head) word i)
    (none_passes (λ w. is_no_commit r (word_meaning r w)) (words_in command) (no_cause r command none NotACommit tests_not_a_commit) word i)
  where
    some : (o : Option Id) → is_none o ≡ false → (t : Id) × (o ≡ Some t)
    some None h = cc
    some (Some t) h = (t, refl)

    go : (meaning : WordMeaning) → is_unknown meaning ≡ false → is_ambiguous meaning ≡ false → is_unborn meaning ≡ false → is_no_commit r meaning ≡ false → (t : Id) × (commit_read r meaning ≡ Some t)
    go Unknown a b c d = cc
    go Ambiguous a b c d = cc
    go Unborn a b c d = cc
    go (ReadsAs id) a b c d = some (peeled r id) d

-- ---- what a commit stores

module _ (r : Repository) (whole : IsWholeStore r) (written : IsWritten r) where
  module _ (c : CommitCommand) (none : first_cause r (Commit c) ≡ None) where
    abbrev files : FileMap
    files = (new_commit r c).files

    abbrev stored : List Value
    stored = stored_by r (Commit c)

    pub old_fine : Fine r (first_files r (parents_of r c))
    old_fine = first_fine r whole written (parents_of r c) (λ id i. parents_hold r whole c id i)

    -- the files of a graft's word
    word_fine : (line : EditLine) → In line c.edits → (word : Bytes) → In word (edit_words line) → Fine r (word_files r word)
    word_fine line i word j =
        let held = word_commit r (Commit c) none word
        (in_right word (at_word c.expect) (c.parents ++ flat_map edit_words c.edits) (in_right word c.parents (flat_map edit_words c.edits) (in_flat edit_words word line c.edits i j))) in
        subst (λ o. Fine r (first_files r (option_to_list o))) (sym held.1)
        (first_fine r whole written (held.0 ∷ []) (λ id k. elim k [ inl e ↦ subst (HoldsCommit r) (sym e) (read_holds r whole (word_meaning r word) held.0 held.1) | inr none ↦ absurd none ]))

    line_comes : (line : EditLine) → In line c.edits → ComesFromFiles (read_edit r line)
    line_comes (PutLine kind path bytes) i = tt
    line_comes (RemoveLine path) i = tt
    line_comes (RemoveFileLine path) i = tt
    line_comes (GraftLine path word source) i = (word_fine (GraftLine path word source) i word (inl refl)).1.map

    pub edits_come : (e : Edit) → In e (edits_of r c) → ComesFromFiles e
    edits_come e i = let from = of_map (read_edit r) e c.edits i in subst ComesFromFiles (sym from.2) (line_comes from.0 from.1)

    -- what is grafted is stored
    line_stored : (line : EditLine) → In line c.edits → (path : Bytes) (content : Content) → In (path, content) (grafted (read_edit r line)) → IsStored r (StoredBytes content.bytes)
    line_stored (PutLine kind at bytes) i path content j = absurd j
    line_stored (RemoveLine at) i path content j = absurd j
    line_stored (RemoveFileLine at) i path content j = absurd j
    line_stored (GraftLine at word source) i path content j =
        let one = of_carried at source (word_files r word) path content j in
        (word_fine (GraftLine at word source) i word (inl refl)).0 one.from content (in_get (word_files r word) one.from content one.stands)

    pub graft_stored : (e : Edit) → In e (edits_of r c) → (path : Bytes) (content : Content) → In (path, content) (grafted e) → IsStored r (StoredBytes content.bytes)
    graft_stored e i path content j =
        let from = of_map (read_edit r) e c.edits i in
        line_stored from.0 from.1 path content (subst (λ f. In (path, content) (grafted f)) from.2 j)

    pub files_written : IsWrittenFiles files
    files_written = new_written r c none old_fine.1 edits_come

    plain : ArePlain (entries files)
    plain = plain_written files files_written

    folder_in : (v : Value) → In v (map StoredFolder (folders_of files)) → In v stored
    folder_in v i = in_left v (flat_map put_bytes (edits_of r c) ++ map StoredFolder (folders_of files)) (StoredCommit (new_commit r c) ∷ [])
        (in_right v (flat_map put_bytes (edits_of r c)) (map StoredFolder (folders_of files)) i)

    -- each folder and all bytes of the commit's files are stored, or come with it
    coming : HasAll (Coming r stored) files
    coming = record {
      itself = inl (folder_in (StoredFolder files) (inl refl));
      folders = λ path content folder i j. inl (folder_in (StoredFolder (inside folder files)) (inr (in_map StoredFolder (inside folder files)
          (map (λ folder. inside folder files) (flat_map beginnings (keys files)))
          (in_map (λ folder. inside folder files) folder (flat_map beginnings (keys files))
          (in_flat beginnings folder path (keys files) (in_map (λ (e : Bytes × Content). e.0) (path, content) (entries files) i) j)))));
      bytes = λ path content i. elim (edits_from (first_files r (parents_of r c)) (edits_of r c) path content (in_get files path content i)) [
        | inl a ↦ inr (near_stored r.kind r.objects (StoredBytes content.bytes) (old_fine.0 path content a))
        | inr (e, j, inl b) ↦ inl (in_left (StoredBytes content.bytes) (flat_map put_bytes (edits_of r c) ++ map StoredFolder (folders_of files)) (StoredCommit (new_commit r c) ∷ [])
            (in_left (StoredBytes content.bytes) (flat_map put_bytes (edits_of r c)) (map StoredFolder (folders_of files)) (in_flat put_bytes (StoredBytes content.bytes) e (edits_of r c) j b.1)))
        | inr (e, j, inr b) ↦ inr (near_stored r.kind r.objects (StoredBytes content.bytes) (graft_stored e j path content b))
      ];
    }

    folders_fit : HasAll (Fits r stored) files
    folders_fit = record {
      itself = (coming, plain);
      folders = λ path content folder i j. (inside_has (Coming r stored) files coming path content folder i j, plain_inside folder files plain);
      bytes = λ path content i. tt;
    }

    put_fits : (v : Value) (e : Edit) → In v (put_bytes e) → Fits r stored v
    put_fits v (Put kind path bytes) (inl e) = subst (Fits r stored) (sym e) tt
    put_fits v (Put kind path bytes) (inr i) = absurd i
    put_fits v (Remove path) i = absurd i
    put_fits v (RemoveFile path) i = absurd i
    put_fits v (Graft path source from) i = absurd i

    commit_fits : (v : Value) → In v stored → Fits r stored v
    commit_fits v i = elim (in_either v (flat_map put_bytes (edits_of r c) ++ map StoredFolder (folders_of files)) (StoredCommit (new_commit r c) ∷ []) i) [
      | inl a ↦ elim (in_either v (flat_map put_bytes (edits_of r c)) (map StoredFolder (folders_of files)) a) [
        | inl b ↦ let from = of_flat put_bytes v (edits_of r c) b in put_fits v from.0 from.2
        | inr b ↦ of_folders (Fits r stored) files folders_fit v b
      ]
      | inr (inl e) ↦ subst (Fits r stored) (sym e) (parents_hold r whole c, coming, plain)
      | inr (inr e) ↦ absurd e
    ]

  tag_fits : (c : TagCommand) → first_cause r (Tag c) ≡ None → (v : Value) → In v (stored_by r (Tag c)) → Fits r (stored_by r (Tag c)) v
  tag_fits c none v (inl e) =
      let word = word_commit r (Tag c) none c.word (in_right c.word (at_word c.expect) (c.word ∷ []) (inl refl)) in
      subst (Fits r (stored_by r (Tag c))) (sym e) (subst (HoldsCommit r) (sym (ap (λ o. unwrap_or o (null_id r.kind)) word.1)) (read_holds r whole (word_meaning r c.word) word.0 word.1))
  tag_fits c none v (inr i) = absurd i

  pub all_fits : (command : Command) → first_cause r command ≡ None → (v : Value) → In v (stored_by r command) → Fits r (stored_by r command) v
  all_fits (Commit c) none v i = commit_fits c none v i
  all_fits (Tag c) none v i = tag_fits c none v i
  all_fits (Move c) none v i = absurd i
  all_fits (Rename from to) none v i = absurd i
  all_fits (Delete name at) none v i = absurd i
  all_fits (Switch name) none v i = absurd i
  all_fits Pack none v i = absurd i
  all_fits Index none v i = absurd i
  all_fits (Names folder) none v i = absurd i
  all_fits (Files word) none v i = absurd i
  all_fits (Past word) none v i = absurd i
  all_fits (Log c) none v i = absurd i
  all_fits (Show word path) none v i = absurd i

  pub after_store : (command : Command) → first_cause r command ≡ None → takes_id r command ≡ false → IsWholeStore (after r command)
  after_store command none free = grown_whole r whole (λ q m at. plain_written m ((written.values q (StoredFolder m) at).0)) (stored_by r command) free (all_fits command none) (names_after r command) (branch_after r command)
