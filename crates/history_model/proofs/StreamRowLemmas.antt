-- Streams on a fresh repository, and what a run over them writes.
use Rattle.std.proofs.Common.{◌≡◌, Bool, false, not, ◌&&◌, List, [], ◌∷◌, ◌++◌, map, refl, sym, ◌∙◌, ap, inl, Some, None, codes, bytes_eq}
use Rattle.std.specs.List.{flat_map, list_any, AllByRecursion}
use Rattle.std.specs.Fmt.{digits}
use Rattle.std.specs.FinMap.{empty, get-empty}
use Rattle.std.proofs.lemmas.Slice.Eq.{bytes_eq-Decides}
use Rattle.sha1.specs.Sha1.{sha1, hash_after, compress, rounds, schedule, first_words, digest_bytes}
use Rattle.gix_object_lines.specs.declared.kind.Kind.TheVariants as kinds
use Rattle.history_model.specs.Bytes.{Bytes}
use Rattle.history_model.specs.FileMap.{Content}
use Rattle.history_model.specs.Objects.{by_id, Value, StoredCommit, StoredFolder, hex, digest, blob_id, empty_tree_id, tree_text, object_text, entry_text, value_text, folder_id}
use Rattle.gix_hash.specs.Id.{Id, digits_of}
use Rattle.gix_hash.specs.Order.{id_eq}
use Rattle.history_model.specs.Repository.{Repository}
use Rattle.history_model.specs.Commands.{Commit, Files, Show}
use Rattle.history_model.specs.Replies.{Reply, Faulted, FileLine, Committed, FilesAre, ShowsCommit, ShowsContent, reply_text}
use Rattle.history_model.specs.Answers.{file_line, files_shown}
use Rattle.history_model.specs.Steps.{is_faulted}
use Rattle.history_model.specs.laws.Rows.{Gives, content, first_stream, first_output, empty_file_stream, empty_file_output, hello_stream, hello_output, sample_actor}
use Rattle.gix_hash.specs.declared.kind.Kind.TheVariants.{Sha1}
use Rattle.history_model.specs.declared.Fault.TheVariants.{File as ByFile}
use Rattle.history_model.specs.declared.FileKind.TheVariants.{File}
use Rattle.history_model.proofs.IdLemmas.{get_with_id}
use Rattle.history_model.proofs.RowLemmas.{entries-empty, root-empty, text_with, first_content, first_new_commit}
use Rattle.history_model.proofs.FirstRowLemmas.{first_is_accepted, first_stored}
use Rattle.history_model.proofs.AfterFirstLemmas.{command_with, commit_with, state, IsFirst, AllFree, commit_step, files_step, show_step, path_step}
use Rattle.history_model.proofs.OneFileLemmas.{put_edits, one_file, objects, AreIds, is_first, entry_is, at_a, none_below, found_there}
use Rattle.std.proofs.lemmas.Bool.{and_right, or_parts}

-- no reply is a fault
none_faulted : (replies : List Reply) → list_any is_faulted replies ≡ false → AllByRecursion (λ reply. reply ≡ Faulted ByFile → ⊥) replies
none_faulted [] e = tt
none_faulted (reply ∷ replies) e =
    let none = or_parts (is_faulted reply) (list_any is_faulted replies) e in
    (λ same. cc (ap is_faulted same, none.0), none_faulted replies none.1)

-- ---- without files

abbrev none_tree : Id
none_tree = record { kind = Sha1; digits = digits_of (75 ∷ 130 ∷ 93 ∷ 198 ∷ 66 ∷ 203 ∷ 110 ∷ 185 ∷ 160 ∷ 96 ∷ 229 ∷ 75 ∷ 248 ∷ 214 ∷ 146 ∷ 136 ∷ 251 ∷ 238 ∷ 73 ∷ 4 ∷ []) }

abbrev none_commit : Id
none_commit = record { kind = Sha1; digits = digits_of (211 ∷ 155 ∷ 3 ∷ 108 ∷ 121 ∷ 125 ∷ 205 ∷ 156 ∷ 2 ∷ 16 ∷ 182 ∷ 106 ∷ 9 ∷ 78 ∷ 232 ∷ 70 ∷ 163 ∷ 188 ∷ 79 ∷ 217 ∷ []) }

none_tree_is : empty_tree_id Sha1 ≡ none_tree
unfolding digest sha1 hash_after compress rounds schedule first_words digest_bytes digits
none_tree_is = refl

none_folder_is : folder_id Sha1 empty ≡ none_tree
none_folder_is = ap (λ c. digest Sha1 (tree_text c)) (root-empty Sha1) ∙ none_tree_is

none_commit_computed : digest Sha1 (object_text kinds.Commit (text_with (codes "4b825dc642cb6eb9a060e54bf8d69288fbee4904"))) ≡ none_commit
unfolding digest sha1 hash_after compress rounds schedule first_words digest_bytes digits text_with
none_commit_computed = refl

none_objects : List (Id × Value)
none_objects = (none_tree, StoredFolder empty) ∷ (none_commit, StoredCommit (commit_with empty)) ∷ []

not_other : (text : Bytes) → not (bytes_eq text text) ≡ false
not_other text = ap not ((bytes_eq-Decides text text).1 refl)

no_empty_tree : (id : Id) (b : Bool) → id_eq id none_tree ≡ false → (id_eq id (empty_tree_id Sha1) && b) ≡ false
no_empty_tree id b e = ap (λ t. id_eq id t && b) none_tree_is ∙ ap (λ c. c && b) e

none_free : AllFree empty none_objects
unfolding none_objects
none_free = (
  none_folder_is,
  refl,
  and_right _ _ (not_other (value_text Sha1 (StoredFolder empty))),
  get-empty by_id none_tree,
  (
    ap (λ c. digest Sha1 (object_text kinds.Commit c)) first_content ∙ none_commit_computed,
    refl,
    no_empty_tree none_commit _ refl,
    get_with_id empty none_tree (StoredFolder empty) none_commit ∙ get-empty by_id none_commit,
    tt,
  ),
)

none_is_first : IsFirst [] empty none_commit none_objects
unfolding none_objects
none_is_first = record {
  commit = first_new_commit;
  stored = first_stored;
  free = none_free;
  id_is = ap (λ c. digest Sha1 (object_text kinds.Commit c)) first_content ∙ none_commit_computed;
  accepted = first_is_accepted;
  held = found_there _ none_commit _;
}

none_state : Repository
none_state = state [] empty none_commit none_objects

none_replies : List FileLine → Id → List Reply
none_replies files tree = Committed none_commit ∷ FilesAre files
    ∷ ShowsCommit (record { id = none_commit; tree = tree; parents = []; author = sample_actor; committer = sample_actor; message = codes "one" }) ∷ []

none_written : first_output ≡ flat_map reply_text (none_replies [] none_tree) ++ []
unfolding none_replies digits
none_written = refl

pub first_gives : Gives first_stream first_output
unfolding none_replies none_state state digits
first_gives = (
  Commit (command_with []) ∷ Files (codes "main") ∷ Show (codes "main") None ∷ [],
  none_replies (files_shown none_state empty) (folder_id Sha1 empty),
  none_state,
  record {
    rest = [];
    last = [];
    ran = record {
      splits = record { known = refl; split = refl };
      steps = (
        none_state,
        commit_step [] empty none_commit none_objects none_is_first,
        inl refl,
        (
          none_state,
          files_step [] empty none_commit none_objects none_is_first,
          inl refl,
          (none_state, show_step [] empty none_commit none_objects none_is_first, inl refl, refl),
        ),
      );
      fails = refl;
      written = none_written ∙ ap (λ es. flat_map reply_text (none_replies (map (file_line none_state.kind) es) none_tree) ++ []) (sym (entries-empty {X = Content}))
          ∙ ap (λ t. flat_map reply_text (none_replies (files_shown none_state empty) t) ++ []) (sym none_folder_is);
      file_faults = none_faulted (none_replies (files_shown none_state empty) (folder_id Sha1 empty)) refl;
    };
    ends = (refl, tt, refl, refl);
  },
  refl,
  refl,
)

-- ---- empty

abbrev empty_blob : Id
empty_blob = record { kind = Sha1; digits = digits_of (230 ∷ 157 ∷ 226 ∷ 155 ∷ 178 ∷ 209 ∷ 214 ∷ 67 ∷ 75 ∷ 139 ∷ 41 ∷ 174 ∷ 119 ∷ 90 ∷ 216 ∷ 194 ∷ 228 ∷ 140 ∷ 83 ∷ 145 ∷ []) }

abbrev empty_tree : Id
empty_tree = record { kind = Sha1; digits = digits_of (73 ∷ 109 ∷ 100 ∷ 40 ∷ 185 ∷ 207 ∷ 146 ∷ 152 ∷ 29 ∷ 201 ∷ 73 ∷ 82 ∷ 17 ∷ 230 ∷ 225 ∷ 18 ∷ 15 ∷ 182 ∷ 242 ∷ 186 ∷ []) }

abbrev empty_commit : Id
empty_commit = record { kind = Sha1; digits = digits_of (251 ∷ 82 ∷ 141 ∷ 173 ∷ 46 ∷ 240 ∷ 16 ∷ 113 ∷ 78 ∷ 151 ∷ 101 ∷ 0 ∷ 61 ∷ 34 ∷ 82 ∷ 246 ∷ 113 ∷ 235 ∷ 60 ∷ 60 ∷ []) }

empty_blob_is : blob_id Sha1 [] ≡ empty_blob
unfolding digest sha1 hash_after compress rounds schedule first_words digest_bytes digits
empty_blob_is = refl

empty_tree_is : digest Sha1 (tree_text (entry_text (codes "100644") (codes "a") empty_blob)) ≡ empty_tree
unfolding digest sha1 hash_after compress rounds schedule first_words digest_bytes digits
empty_tree_is = refl

empty_commit_is : digest Sha1 (object_text kinds.Commit (text_with (hex empty_tree))) ≡ empty_commit
unfolding digest sha1 hash_after compress rounds schedule first_words digest_bytes digits text_with
empty_commit_is = refl

empty_ids : AreIds [] empty_blob empty_tree empty_commit none_tree
unfolding text_with
empty_ids = record {
  none_is = none_tree_is;
  blob_is = empty_blob_is;
  tree_is = empty_tree_is;
  commit_is = empty_commit_is;
  blob_null = refl;
  tree_null = refl;
  commit_null = refl;
  blob_none = refl;
  tree_none = refl;
  commit_none = refl;
  tree_blob = refl;
  commit_blob = refl;
  commit_tree = refl;
  text_small = refl;
  tree_small = refl;
  commit_small = refl;
}

empty_objects : List (Id × Value)
empty_objects = objects [] empty_blob empty_tree empty_commit none_tree empty_ids

empty_state : Repository
empty_state = state (put_edits []) (one_file []) empty_commit empty_objects

empty_is_first : IsFirst (put_edits []) (one_file []) empty_commit empty_objects
unfolding empty_objects
empty_is_first = is_first [] empty_blob empty_tree empty_commit none_tree empty_ids

empty_replies : List FileLine → List Reply
empty_replies files = Committed empty_commit ∷ FilesAre files ∷ []

-- what `files` prints
empty_line : FileLine
empty_line = record { kind = File; id = empty_blob; path = codes "a" }

empty_shown : files_shown empty_state (one_file []) ≡ empty_line ∷ []
unfolding empty_state state empty_line
empty_shown = ap (λ es. map (file_line empty_state.kind) es) (entry_is []) ∙ ap (λ i. record { kind = File; id = i; path = codes "a" } ∷ []) empty_blob_is

empty_written : empty_file_output ≡ flat_map reply_text (empty_replies (empty_line ∷ [])) ++ []
unfolding empty_replies empty_line digits
empty_written = refl

pub empty_file_gives : Gives empty_file_stream empty_file_output
unfolding empty_replies empty_state state digits
empty_file_gives = (
  Commit (command_with (put_edits [])) ∷ Files (codes "main") ∷ [],
  empty_replies (files_shown empty_state (one_file [])),
  empty_state,
  record {
    rest = [];
    last = [];
    ran = record {
      splits = record { known = refl; split = refl };
      steps = (
        empty_state,
        commit_step (put_edits []) (one_file []) empty_commit empty_objects empty_is_first,
        inl refl,
        (empty_state, files_step (put_edits []) (one_file []) empty_commit empty_objects empty_is_first, inl refl, refl),
      );
      fails = refl;
      written = empty_written ∙ ap (λ files. flat_map reply_text (empty_replies files) ++ []) (sym empty_shown);
      file_faults = none_faulted (empty_replies (files_shown empty_state (one_file []))) refl;
    };
    ends = (refl, tt, refl, refl);
  },
  refl,
  refl,
)

-- ---- hello

abbrev hello_blob : Id
hello_blob = record { kind = Sha1; digits = digits_of (182 ∷ 252 ∷ 76 ∷ 98 ∷ 11 ∷ 103 ∷ 217 ∷ 95 ∷ 149 ∷ 58 ∷ 92 ∷ 28 ∷ 18 ∷ 48 ∷ 170 ∷ 171 ∷ 93 ∷ 181 ∷ 161 ∷ 176 ∷ []) }

abbrev hello_tree : Id
hello_tree = record { kind = Sha1; digits = digits_of (137 ∷ 23 ∷ 206 ∷ 56 ∷ 51 ∷ 117 ∷ 12 ∷ 15 ∷ 66 ∷ 74 ∷ 22 ∷ 150 ∷ 110 ∷ 243 ∷ 57 ∷ 26 ∷ 175 ∷ 232 ∷ 128 ∷ 193 ∷ []) }

abbrev hello_commit : Id
hello_commit = record { kind = Sha1; digits = digits_of (102 ∷ 104 ∷ 94 ∷ 42 ∷ 177 ∷ 76 ∷ 72 ∷ 246 ∷ 178 ∷ 45 ∷ 254 ∷ 202 ∷ 116 ∷ 129 ∷ 121 ∷ 212 ∷ 12 ∷ 252 ∷ 116 ∷ 240 ∷ []) }

hello_blob_is : blob_id Sha1 (codes "hello") ≡ hello_blob
unfolding digest sha1 hash_after compress rounds schedule first_words digest_bytes digits
hello_blob_is = refl

hello_tree_is : digest Sha1 (tree_text (entry_text (codes "100644") (codes "a") hello_blob)) ≡ hello_tree
unfolding digest sha1 hash_after compress rounds schedule first_words digest_bytes digits
hello_tree_is = refl

hello_commit_is : digest Sha1 (object_text kinds.Commit (text_with (hex hello_tree))) ≡ hello_commit
unfolding digest sha1 hash_after compress rounds schedule first_words digest_bytes digits text_with
hello_commit_is = refl

hello_ids : AreIds (codes "hello") hello_blob hello_tree hello_commit none_tree
unfolding text_with
hello_ids = record {
  none_is = none_tree_is;
  blob_is = hello_blob_is;
  tree_is = hello_tree_is;
  commit_is = hello_commit_is;
  blob_null = refl;
  tree_null = refl;
  commit_null = refl;
  blob_none = refl;
  tree_none = refl;
  commit_none = refl;
  tree_blob = refl;
  commit_blob = refl;
  commit_tree = refl;
  text_small = refl;
  tree_small = refl;
  commit_small = refl;
}

hello_objects : List (Id × Value)
hello_objects = objects (codes "hello") hello_blob hello_tree hello_commit none_tree hello_ids

hello_state : Repository
hello_state = state (put_edits (codes "hello")) (one_file (codes "hello")) hello_commit hello_objects

hello_is_first : IsFirst (put_edits (codes "hello")) (one_file (codes "hello")) hello_commit hello_objects
unfolding hello_objects
hello_is_first = is_first (codes "hello") hello_blob hello_tree hello_commit none_tree hello_ids

hello_replies : List FileLine → Id → List Reply
hello_replies files blob = Committed hello_commit ∷ FilesAre files ∷ ShowsContent (record { kind = File; id = blob; bytes = codes "hello" }) ∷ []

-- what `files` prints
hello_line : FileLine
hello_line = record { kind = File; id = hello_blob; path = codes "a" }

hello_shown : files_shown hello_state (one_file (codes "hello")) ≡ hello_line ∷ []
unfolding hello_state state hello_line
hello_shown = ap (λ es. map (file_line hello_state.kind) es) (entry_is (codes "hello")) ∙ ap (λ i. record { kind = File; id = i; path = codes "a" } ∷ []) hello_blob_is

hello_written : hello_output ≡ flat_map reply_text (hello_replies (hello_line ∷ []) hello_blob) ++ []
unfolding hello_replies hello_line digits
hello_written = refl

pub hello_gives : Gives hello_stream hello_output
unfolding hello_replies hello_state state digits
hello_gives = (
  Commit (command_with (put_edits (codes "hello"))) ∷ Files (codes "main") ∷ Show (codes "main") (Some (codes "a")) ∷ [],
  hello_replies (files_shown hello_state (one_file (codes "hello"))) (blob_id Sha1 (codes "hello")),
  hello_state,
  record {
    rest = [];
    last = [];
    ran = record {
      splits = record { known = refl; split = refl };
      steps = (
        hello_state,
        commit_step (put_edits (codes "hello")) (one_file (codes "hello")) hello_commit hello_objects hello_is_first,
        inl refl,
        (
          hello_state,
          files_step (put_edits (codes "hello")) (one_file (codes "hello")) hello_commit hello_objects hello_is_first,
          inl refl,
          (hello_state, path_step (put_edits (codes "hello")) (one_file (codes "hello")) hello_commit hello_objects hello_is_first (content (codes "hello")) (at_a (codes "hello")) (none_below (codes "hello")), inl refl, refl),
        ),
      );
      fails = refl;
      written = hello_written ∙ ap (λ files. flat_map reply_text (hello_replies files hello_blob) ++ []) (sym hello_shown)
          ∙ ap (λ i. flat_map reply_text (hello_replies (files_shown hello_state (one_file (codes "hello"))) i) ++ []) (sym hello_blob_is);
      file_faults = none_faulted (hello_replies (files_shown hello_state (one_file (codes "hello"))) (blob_id Sha1 (codes "hello"))) refl;
    };
    ends = (refl, tt, refl, refl);
  },
  refl,
  refl,
)
