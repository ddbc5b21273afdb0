-- The first commit of a fresh repository, and the readings after it, whatever its files.
use Rattle.std.proofs.Common.{◌≡◌, Bool, true, false, cond, ◌&&◌, ◌||◌, List, [], ◌∷◌, map, refl, sym, ◌∙◌, ap, Option, Some, None, is_some, is_none, option_map, option_and_then, option_to_list, unwrap_or, codes, bytes_eq, find}
use Rattle.std.specs.FinMap.{FinMap, get, insert, empty, get-empty, get-insert}
use Rattle.std.proofs.lemmas.Cmp.{nat_list_cmp_total}
use Rattle.std.proofs.lemmas.Map.Text.{is_eq-slice_cmp}
use Rattle.history_model.specs.Bytes.{Bytes, by_bytes}
use Rattle.history_model.specs.FileMap.{FileMap, Content, has_below}
use Rattle.history_model.specs.Objects.{by_id, CommitValue, Value, StoredCommit, StoredFolder, id_of, empty_tree_id, value_text}
use Rattle.gix_hash.specs.Id.{Id, null_id}
use Rattle.gix_hash.specs.Order.{id_eq}
use Rattle.history_model.specs.Repository.{Repository, Reference, fresh, id_at, stands, commit_at, peeled, peeled_value, as_commit}
use Rattle.history_model.specs.Commands.{Commit, Files, Show, CommitCommand, EditLine}
use Rattle.history_model.specs.Words.{ReadsAs, word_meaning, commit_of, commit_read, candidates, name_meaning, id_meaning}
use Rattle.history_model.specs.Meaning.{after, new_commit, stored_by, store_all, store_one, some_taken, is_taken, is_other, moved_reference, first_files, word_files}
use Rattle.history_model.specs.Causes.{first_cause, is_unknown, is_ambiguous, is_unborn, is_no_commit}
use Rattle.history_model.specs.Answers.{StandsForCommit, files_shown, commit_shown, content_shown}
use Rattle.history_model.specs.Replies.{Committed, FilesAre, ShowsCommit, ShowsContent}
use Rattle.history_model.specs.Steps.{Step}
use Rattle.history_model.specs.laws.Rows.{first_command, first_commit, sample_actor}
use Rattle.history_model.specs.declared.Cause.{Cause}
use Rattle.gix_hash.specs.declared.kind.Kind.TheVariants.{Sha1}
use Rattle.std.proofs.lemmas.Bool.{or_from}

abbrev pub command_with : List EditLine → CommitCommand
command_with edits = record first_command { edits = edits }

abbrev pub commit_with : FileMap → CommitValue
commit_with files = record first_commit { files = files }

abbrev main : Bytes
main = codes "refs/heads/main"

-- ---- ids that are free

-- each value has this id, which is free when its turn comes
abbrev pub AllFree : FinMap by_id Value → List (Id × Value) → Type 0
AllFree objects [] = Unit {0}
AllFree objects (e ∷ es) = (id_of Sha1 e.1 ≡ e.0) × (id_eq e.0 (null_id Sha1) ≡ false)
    × ((id_eq e.0 (empty_tree_id Sha1) && is_other Sha1 (value_text Sha1 (StoredFolder empty)) e.1) ≡ false) × (get objects e.0 ≡ None) × AllFree (insert objects e.0 e.1) es

abbrev pub with_all : FinMap by_id Value → List (Id × Value) → FinMap by_id Value
with_all objects [] = objects
with_all objects (e ∷ es) = with_all (insert objects e.0 e.1) es

or3 : (a b c : Bool) → a ≡ false → b ≡ false → c ≡ false → (a || b || c) ≡ false
or3 true b c e f g = cc
or3 false true c e f g = cc
or3 false false c e f g = g

value_free : (objects : FinMap by_id Value) (id : Id) (value : Value) → id_of Sha1 value ≡ id → id_eq id (null_id Sha1) ≡ false
    → (id_eq id (empty_tree_id Sha1) && is_other Sha1 (value_text Sha1 (StoredFolder empty)) value) ≡ false → get objects id ≡ None → is_taken Sha1 objects value ≡ false
value_free objects id value is null tree none = or3 _ _ _
    (ap (λ i. id_eq i (null_id Sha1)) is ∙ null)
    (ap (λ i. id_eq i (empty_tree_id Sha1) && is_other Sha1 (value_text Sha1 (StoredFolder empty)) value) is ∙ tree)
    (ap (λ i. unwrap_or (option_map (is_other Sha1 (value_text Sha1 value)) (get objects i)) false) is ∙ ap (λ o. unwrap_or (option_map (is_other Sha1 (value_text Sha1 value)) o) false) none)

value_stored : (objects : FinMap by_id Value) (id : Id) (value : Value) → id_of Sha1 value ≡ id → get objects id ≡ None → store_one Sha1 objects value ≡ insert objects id value
value_stored objects id value is none =
    ap (λ i. cond (is_some (get objects i)) objects (insert objects i value)) is ∙ ap (λ o. cond (is_some o) objects (insert objects id value)) none

abbrev pub values_of : List (Id × Value) → List Value
values_of es = map (λ e. e.1) es

none_taken : (objects : FinMap by_id Value) (es : List (Id × Value)) → AllFree objects es → some_taken Sha1 objects (values_of es) ≡ false
none_taken objects [] h = refl
none_taken objects (e ∷ es) (is, null, tree, none, rest) = or_from _ _ (value_free objects e.0 e.1 is null tree none)
    (ap (λ o. some_taken Sha1 o (values_of es)) (value_stored objects e.0 e.1 is none) ∙ none_taken (insert objects e.0 e.1) es rest)

all_stored : (objects : FinMap by_id Value) (es : List (Id × Value)) → AllFree objects es → store_all Sha1 objects (values_of es) ≡ with_all objects es
all_stored objects [] h = refl
all_stored objects (e ∷ es) (is, null, tree, none, rest) =
    ap (λ o. store_all Sha1 o (values_of es)) (value_stored objects e.0 e.1 is none) ∙ all_stored (insert objects e.0 e.1) es rest

pub get-with : {X : Type 0} (map : FinMap by_bytes X) (key : Bytes) (x : X) (q : Bytes) → get (insert map key x) q ≡ cond (bytes_eq q key) (Some x) (get map q)
get-with map key x q = get-insert nat_list_cmp_total map key x q ∙ ap (λ b. cond b (Some x) (get map q)) (is_eq-slice_cmp q key)

pub skip : (b : Bool) (x : Cause) (rest : Option Cause) → b ≡ false → rest ≡ None → cond b (Some x) rest ≡ None
skip true x rest e f = cc
skip false x rest e f = f

-- ---- after the commit

module _ (edits : List EditLine) (files : FileMap) (id : Id) (es : List (Id × Value)) where
  unfoldable pub state : Repository
  state = record {
    kind = Sha1;
    names = insert empty main (moved_reference (fresh Sha1) main id sample_actor (codes "one"));
    branch = main;
    objects = with_all empty es;
  }

  pub record IsFirst : Type 0 where
    pub commit : new_commit (fresh Sha1) (command_with edits) ≡ commit_with files
    pub stored : stored_by (fresh Sha1) (Commit (command_with edits)) ≡ values_of es
    pub free : AllFree empty es
    pub id_is : id_of Sha1 (StoredCommit (commit_with files)) ≡ id
    pub accepted : first_cause (fresh Sha1) (Commit (command_with edits)) ≡ None
    pub held : get (with_all empty es) id ≡ Some (StoredCommit (commit_with files))

  module _ (h : IsFirst) where
    new_id : id_of Sha1 (StoredCommit (new_commit (fresh Sha1) (command_with edits))) ≡ id
    new_id = ap (λ c. id_of Sha1 (StoredCommit c)) h.commit ∙ h.id_is

    after_is : after (fresh Sha1) (Commit (command_with edits)) ≡ state
    unfolding state
    after_is = λ i. record {
      kind = Sha1;
      names = insert empty main (moved_reference (fresh Sha1) main (new_id i) sample_actor (codes "one"));
      branch = main;
      objects = (ap (store_all Sha1 empty) h.stored ∙ all_stored empty es h.free) i;
    }

    pub commit_step : Step (fresh Sha1) (Commit (command_with edits)) (Committed id) state
    commit_step = record {
      no_cause = h.accepted;
      not_taken = ap (some_taken Sha1 empty) h.stored ∙ none_taken empty es h.free;
      answer = ap Committed (sym new_id);
      result = sym after_is;
    }

    -- ---- words

    look : (q : Bytes) → id_at state q ≡ cond (bytes_eq q main) (Some id) None
    unfolding state
    look q = ap (option_map (λ (ref : Reference). ref.id)) (get-with empty main _ q) ∙ go (bytes_eq q main)
      where
        go : (b : Bool) → option_map (λ (ref : Reference). ref.id) (cond b (Some (moved_reference (fresh Sha1) main id sample_actor (codes "one"))) (get (empty {X = Reference} {R = by_bytes}) q)) ≡ cond b (Some id) None
        go true = refl
        go false = ap (option_map (λ (ref : Reference). ref.id)) (get-empty by_bytes q)

    stands_so : (q : Bytes) → stands state q ≡ bytes_eq q main
    unfolding state
    stands_so q = ap is_some (get-with empty main (moved_reference (fresh Sha1) main id sample_actor (codes "one")) q) ∙ go (bytes_eq q main)
      where
        go : (b : Bool) → is_some (cond b (Some (moved_reference (fresh Sha1) main id sample_actor (codes "one"))) (get (empty {X = Reference} {R = by_bytes}) q)) ≡ b
        go true = refl
        go false = ap is_some (get-empty by_bytes q)

    reads : word_meaning state (codes "main") ≡ ReadsAs id
    reads = ap (λ o. unwrap_or (option_map (λ name. name_meaning (id_at state name)) o) (id_meaning state (codes "main"))) found
        ∙ ap (λ o. name_meaning o) (look main)
      where
        at : (a b c : Bool) → a ≡ false → b ≡ false → c ≡ true → (rest : Option Bytes) → cond a (Some (codes "refs/main")) (cond b (Some (codes "refs/tags/main")) (cond c (Some main) rest)) ≡ Some main
        at true b c e f g rest = cc
        at false true c e f g rest = cc
        at false false true e f g rest = refl
        at false false false e f g rest = cc

        found : find (stands state) (candidates (codes "main")) ≡ Some main
        found = at _ _ _ (stands_so (codes "refs/main")) (stands_so (codes "refs/tags/main")) (stands_so main) _

    held_commit : commit_at state id ≡ Some (commit_with files)
    unfolding state
    held_commit = ap (λ (o : Option Value). option_and_then as_commit o) h.held

    peels : peeled state id ≡ Some id
    unfolding state
    peels = ap (λ (o : Option Value). option_and_then (peeled_value id) o) h.held

    main_is : commit_of state (codes "main") ≡ Some id
    main_is = ap (commit_read state) reads ∙ peels

    stands_for : StandsForCommit state (codes "main") id (commit_with files)
    stands_for = record { read = main_is; holds = held_commit }

    -- ---- readings

    files_accepted : first_cause state (Files (codes "main")) ≡ None
    files_accepted =
        skip _ _ _ (ap (λ w. is_unknown w || false) reads)
        (skip _ _ _ (ap (λ w. is_ambiguous w || false) reads)
        (skip _ _ _ (ap (λ w. is_unborn w || false) reads)
        (skip _ _ _ (ap (λ w. is_no_commit state w || false) reads ∙ ap (λ o. is_none o || false) peels) refl)))

    pub files_step : Step state (Files (codes "main")) (FilesAre (files_shown state files)) state
    files_step = record { no_cause = files_accepted; not_taken = refl; answer = (id, commit_with files, stands_for, refl); result = refl }

    show_accepted : first_cause state (Show (codes "main") None) ≡ None
    show_accepted =
        skip _ _ _ (ap (λ w. is_unknown w || false) reads)
        (skip _ _ _ (ap (λ w. is_ambiguous w || false) reads)
        (skip _ _ _ (ap (λ w. is_unborn w || false) reads)
        (skip _ _ _ (ap (λ w. is_no_commit state w || false) reads ∙ ap (λ o. is_none o || false) peels) refl)))

    pub show_step : Step state (Show (codes "main") None) (ShowsCommit (commit_shown state id (commit_with files))) state
    show_step = record { no_cause = show_accepted; not_taken = refl; answer = (id, commit_with files, stands_for, refl); result = refl }

    word_files_are : word_files state (codes "main") ≡ files
    word_files_are =
        ap (λ (o : Option Id). first_files state (option_to_list o)) main_is
        ∙ ap (λ (o : Option CommitValue). unwrap_or (option_map (λ (c : CommitValue). c.files) o) empty) held_commit

    path_accepted : (file : Content) → get files (codes "a") ≡ Some file → has_below files (codes "a") ≡ false → first_cause state (Show (codes "main") (Some (codes "a"))) ≡ None
    path_accepted file at below =
        skip _ _ _ (ap (λ w. is_unknown w || false) reads)
        (skip _ _ _ (ap (λ w. is_ambiguous w || false) reads)
        (skip _ _ _ (ap (λ w. is_unborn w || false) reads)
        (skip _ _ _ (ap (λ w. is_no_commit state w || false) reads ∙ ap (λ o. is_none o || false) peels)
        (skip _ _ _ (ap (λ m. has_below m (codes "a") || false) word_files_are ∙ ap (λ b. b || false) below)
        (skip _ _ _ (ap (λ m. is_none (get m (codes "a")) || false) word_files_are ∙ ap (λ o. is_none o || false) at) refl)))))

    pub path_step : (file : Content) → get files (codes "a") ≡ Some file → has_below files (codes "a") ≡ false
        → Step state (Show (codes "main") (Some (codes "a"))) (ShowsContent (content_shown state file)) state
    path_step file at below = record {
      no_cause = path_accepted file at below;
      not_taken = refl;
      answer = (id, commit_with files, file, stands_for, at, refl);
      result = refl;
    }
