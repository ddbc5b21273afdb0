-- What a command of which no cause holds leaves has its written forms.
use Rattle.std.proofs.Common.{◌≡◌, ℕ, suc, ◌+◌, ◌≤◌, Bool, true, false, cond, not, ◌&&◌, ◌||◌, List, [], ◌∷◌, ◌++◌, ◌⊎◌, map, length, take, refl, sym, ◌∙◌, ap, subst, arith, tests, inl, inr, Option, Some, None, is_some, bytes_eq, nat_lt, nat_le, ◌==◌, option_map, unwrap_or, codes, length-append}
use Rattle.std.specs.List.{list_any, list_all, flat_map, slice_split, onto_first, prefix_len}
use Rattle.std.specs.FinMap.{get, remove, contains_key}
use Rattle.history_model.specs.Bytes.{Bytes, begins, has_byte, has_twice, is_empty, digits_value, is_decimal}
use Rattle.history_model.specs.FileMap.{FileMap, is_path, components, inside, folders_of, Edit, Put, Remove, RemoveFile, Graft}
use Rattle.history_model.specs.Objects.{Actor, Value, StoredCommit, StoredTag, StoredFolder, content_of, value_text, id_of}
use Rattle.gix_hash.specs.Id.{Id, null_id}
use Rattle.gix_hash.specs.Order.{id_eq}
use Rattle.history_model.specs.Repository.{Repository, Reference, LogEntry, HoldsCommit, id_at, moves_at, stands, IsWholeStore, IsWhole}
use Rattle.history_model.specs.Forms.{IsWritten, IsWrittenFiles, IsWrittenValue, HasForm, is_id, is_actor, is_actor_part, is_seconds, is_offset, is_name, is_private, is_branch, is_tag_name, is_commit_form, is_tag_form, is_log_entry, is_reference, title, max_title, max_content, max_parents, max_seconds}
use Rattle.history_model.specs.Words.{commit_of, word_meaning, head_word}
use Rattle.history_model.specs.Commands.{Command, Commit, Tag, Move, Rename, Delete, Switch, Pack, Index, Names, Files, Past, Log, Show, To, ActorLine, CommitCommand, TagCommand}
use Rattle.history_model.specs.Meaning.{References, branch_or_name, read_actor, history_actor, parents_of, edits_of, new_commit, new_tag, tag_rest, put_bytes, stored_by, with_name, with_lines, moved_reference, names_after, branch_after, after}
use Rattle.history_model.specs.CommandParts.{words_in, at_word, targets, names_in, actors_in, contents_in}
use Rattle.history_model.specs.Causes.{first_cause, is_bad_actor, is_bad_title, is_bad_place, holds}
use Rattle.gix_hash.specs.declared.kind.Kind.{Kind}
use Rattle.history_model.specs.declared.Cause.TheVariants.{BadName, PrivateName, NoSuchName, TooManyParents, DuplicateParent, BadActor, BadTime, BadMessage, TooLarge}
use Rattle.history_model.proofs.WholeLists.{In, in_right, in_either, in_map, in_flat, of_flat, none_is_some, none_passes, pass_all}
use Rattle.history_model.proofs.WholePaths.{inner_below, begins_parts}
use Rattle.history_model.proofs.IdLemmas.{null_is_id, digest_is_id}
use Rattle.history_model.proofs.WholeRoots.{HasAll, of_folders, of_inside}
use Rattle.history_model.proofs.WholeStores.{get_in, in_get, get_removed, all_from}
use Rattle.history_model.proofs.WholeGrowth.{holds_value}
use Rattle.history_model.proofs.WholeReads.{no_cause, tests_private_name, tests_no_such_name, tests_bad_actor, tests_bad_message, tests_bad_name, tests_bad_time, tests_duplicate_parent, tests_too_large, tests_too_many_parents, read_holds, parents_hold}
use Rattle.history_model.proofs.WholeCommands.{word_commit, files_written}
use Rattle.history_model.proofs.WholeNames.{names_from}
use Rattle.std.proofs.lemmas.Bool.{and_from, or_parts, and_parts, not-true, not-false, or_from, not_from_false}
use Rattle.history_model.proofs.RecoveredLemmas.{some_is}
use Rattle.std.proofs.lemmas.Option.{same_Some}
use Rattle.history_model.proofs.AfterFirstLemmas.{get-with}

-- ---- numbers and lists

at_most : (m n : ℕ) → nat_lt m n ≡ false → n ≤ m
at_most m n h = grind (arith, tests)

fits_test : (m n : ℕ) → nat_lt m n ≡ false → nat_le n m ≡ true
fits_test m n h = grind (arith, tests)

-- ---- folders of a file map

tail_any : List Bytes → Bool
tail_any [] = false
tail_any (p ∷ ps) = list_any is_empty ps

any_tail : (ps : List Bytes) → list_any is_empty ps ≡ false → tail_any ps ≡ false
unfolding tail_any
any_tail [] h = refl
any_tail (p ∷ ps) h = (or_parts (is_empty p) (list_any is_empty ps) h).1

tail_onto : (b : ℕ) (ps : List Bytes) → tail_any (onto_first b ps) ≡ tail_any ps
unfolding tail_any
tail_onto b [] = refl
tail_onto b (p ∷ ps) = refl

inner_parts : (folder rest : Bytes) → tail_any (components (folder ++ 47 ∷ rest)) ≡ false → list_any is_empty (components rest) ≡ false
unfolding tail_any
inner_parts [] rest h = h
inner_parts (b ∷ folder) rest h = go (b == 47) h (inner_parts folder rest)
  where
    go : (t : Bool) → tail_any (cond t ([] ∷ slice_split (λ b. b == 47) (folder ++ 47 ∷ rest)) (onto_first b (slice_split (λ b. b == 47) (folder ++ 47 ∷ rest)))) ≡ false
        → (tail_any (components (folder ++ 47 ∷ rest)) ≡ false → list_any is_empty (components rest) ≡ false) → list_any is_empty (components rest) ≡ false
    go true k more = more (any_tail (slice_split (λ b. b == 47) (folder ++ 47 ∷ rest)) k)
    go false k more = more (sym (tail_onto b (slice_split (λ b. b == 47) (folder ++ 47 ∷ rest))) ∙ k)

pub zero_after : (folder rest : Bytes) → has_byte 0 (folder ++ rest) ≡ false → has_byte 0 rest ≡ false
zero_after [] rest h = h
zero_after (b ∷ folder) rest h = zero_after folder rest (or_parts (b == 0) (has_byte 0 (folder ++ rest)) h).1

pub path_after : (folder rest : Bytes) → is_path (folder ++ 47 ∷ rest) ≡ true → is_path rest ≡ true
path_after folder rest h =
    let parts = and_parts (not (list_any is_empty (components (folder ++ 47 ∷ rest)))) (not (has_byte 0 (folder ++ 47 ∷ rest))) h in
    let pieces = inner_parts folder rest (any_tail (components (folder ++ 47 ∷ rest)) (not-true (list_any is_empty (components (folder ++ 47 ∷ rest))) parts.0)) in
    let zeros = (or_parts (47 == 0) (has_byte 0 rest) (zero_after folder (47 ∷ rest) (not-true (has_byte 0 (folder ++ 47 ∷ rest)) parts.1))).1 in
    and_from (not (list_any is_empty (components rest))) (not (has_byte 0 rest)) (not_from_false (list_any is_empty (components rest)) pieces) (not_from_false (has_byte 0 rest) zeros)

-- a file inside a folder is below it in the map
pub below_there : (folder : Bytes) (m : FileMap) (p : Bytes) → contains_key (inside folder m) p ≡ true → contains_key m (folder ++ 47 ∷ p) ≡ true
below_there folder m p h =
    let at = some_is (get (inside folder m) p) h in
    ap is_some (in_get m (folder ++ 47 ∷ p) at.0 (of_inside folder m p at.0 (get_in (inside folder m) p at.0 at.1)))

-- the files inside a folder keep their form
pub inside_written : (folder : Bytes) (m : FileMap) → IsWrittenFiles m → IsWrittenFiles (inside folder m)
inside_written folder m written = record {
  map = record {
    paths = λ p h. path_after folder p ((written.map).paths (folder ++ 47 ∷ p) (below_there folder m p h));
    apart = λ p q h k. sym (inner_below folder p q) ∙ (written.map).apart (folder ++ 47 ∷ p) (folder ++ 47 ∷ q) (below_there folder m p h) (below_there folder m q k);
  };
  limit = λ p h. let short = written.limit (folder ++ 47 ∷ p) (below_there folder m p h) in let sum = length-append folder (47 ∷ p) in omega arith;
}

-- ---- ids and actors

-- an id that holds a commit is one
id_held : (r : Repository) → IsWholeStore r → (id : Id) → HoldsCommit r id → is_id r.kind id ≡ true
id_held r whole id h =
    let held = holds_value r id h in
    ap (is_id r.kind) (whole.own_ids id (StoredCommit held.0) held.1) ∙ digest_is_id r.kind (value_text r.kind (StoredCommit held.0))

module _ (r : Repository) (command : Command) (none : first_cause r command ≡ None) where
  actor_parts : (a : ActorLine) → In a (actors_in command) → (is_empty a.name ≡ false) × (is_actor_part a.name ≡ true) × (is_actor_part a.email ≡ true)
  actor_parts a i =
      let good = none_passes is_bad_actor (actors_in command) (no_cause r command none BadActor tests_bad_actor) a i in
      let outer = or_parts (is_empty a.name || not (is_actor_part a.name)) (not (is_actor_part a.email)) good in
      let inner = or_parts (is_empty a.name) (not (is_actor_part a.name)) outer.0 in
      (inner.0, not-false (is_actor_part a.name) inner.1, not-false (is_actor_part a.email) outer.1)

  actor_formed : (a : ActorLine) → In a (actors_in command) → list_any (λ (actor : ActorLine). not (is_seconds actor.seconds) || not (is_offset actor.offset)) (actors_in command) ≡ false → is_actor (read_actor a) ≡ true
  actor_formed a i times =
      let parts = actor_parts a i in
      let time = or_parts (not (is_seconds a.seconds)) (not (is_offset a.offset)) (none_passes (λ (actor : ActorLine). not (is_seconds actor.seconds) || not (is_offset actor.offset)) (actors_in command) times a i) in
      let seconds = and_parts (is_decimal a.seconds) (nat_le (digits_value a.seconds) max_seconds) (not-false (is_seconds a.seconds) time.0) in
      and_from (not (is_empty a.name) && is_actor_part a.name && is_actor_part a.email && nat_le (digits_value a.seconds) max_seconds) (is_offset a.offset)
      (and_from (not (is_empty a.name) && is_actor_part a.name && is_actor_part a.email) (nat_le (digits_value a.seconds) max_seconds)
      (and_from (not (is_empty a.name) && is_actor_part a.name) (is_actor_part a.email)
      (and_from (not (is_empty a.name)) (is_actor_part a.name) (not_from_false (is_empty a.name) parts.0) parts.1) parts.2) seconds.1)
      (not-false (is_offset a.offset) time.1)

-- a good title has no line feed, and is no longer than it may be
title_line : (message : Bytes) → has_byte 10 (title message) ≡ false
title_line [] = refl
title_line (b ∷ message) = go (b == 10) refl (title_line message)
  where
    m : ℕ
    m = prefix_len (λ x. not (x == 10)) message

    go : (t : Bool) → (b == 10) ≡ t → has_byte 10 (take m message) ≡ false → has_byte 10 (take (cond (not t) (1 + m) 0) (b ∷ message)) ≡ false
    go true e rest = refl
    go false e rest = ap (λ n. has_byte 10 (take n (b ∷ message))) (one m) ∙ or_from (b == 10) (has_byte 10 (take m message)) e rest
      where
        one : (n : ℕ) → 1 + n ≡ suc n
        one n = omega arith

title_whole : (message : Bytes) → has_byte 10 message ≡ false → title message ≡ message
title_whole [] h = refl
title_whole (b ∷ message) h =
    let parts = or_parts (b == 10) (has_byte 10 message) h in
    ap (λ t. take (cond (not t) (1 + prefix_len (λ x. not (x == 10)) message) 0) (b ∷ message)) parts.0
    ∙ ap (λ n. take n (b ∷ message)) (one (prefix_len (λ x. not (x == 10)) message))
    ∙ ap (λ bs. b ∷ bs) (title_whole message parts.1)
  where
    one : (n : ℕ) → 1 + n ≡ suc n
    one n = omega arith

title_parts : (text : Bytes) → is_bad_title text ≡ false → (is_empty text ≡ false) × (nat_lt max_title (length text) ≡ false)
title_parts text h =
    let a = or_parts (is_empty text || nat_lt max_title (length text) || has_byte 9 text || has_byte 13 text) (has_byte 0 text) h in
    let b = or_parts (is_empty text || nat_lt max_title (length text) || has_byte 9 text) (has_byte 13 text) a.0 in
    let c = or_parts (is_empty text || nat_lt max_title (length text)) (has_byte 9 text) b.0 in
    or_parts (is_empty text) (nat_lt max_title (length text)) c.0

-- ---- values

module _ (r : Repository) (whole : IsWhole r) (written : IsWritten r) where
  too_large : (command : Command) → first_cause r command ≡ None → (v : Value) → In v (stored_by r command) → length (content_of r.kind v) ≤ max_content
  too_large command none v i =
      at_most max_content (length (content_of r.kind v))
      (none_passes (λ content. nat_lt max_content (length content)) (contents_in command ++ map (content_of r.kind) (stored_by r command)) (no_cause r command none TooLarge tests_too_large)
      (content_of r.kind v) (in_right (content_of r.kind v) (contents_in command) (map (content_of r.kind) (stored_by r command)) (in_map (content_of r.kind) v (stored_by r command) i)))

  pub commit_formed : (c : CommitCommand) → first_cause r (Commit c) ≡ None → is_commit_form r.kind (new_commit r c) ≡ true
  commit_formed c none =
      and_from (list_all (is_id r.kind) ps && nat_le (length ps) max_parents && not (has_twice id_eq ps) && is_actor author && is_actor committer) (nat_le (length (title c.message)) max_title)
      (and_from (list_all (is_id r.kind) ps && nat_le (length ps) max_parents && not (has_twice id_eq ps) && is_actor author) (is_actor committer)
      (and_from (list_all (is_id r.kind) ps && nat_le (length ps) max_parents && not (has_twice id_eq ps)) (is_actor author)
      (and_from (list_all (is_id r.kind) ps && nat_le (length ps) max_parents) (not (has_twice id_eq ps))
      (and_from (list_all (is_id r.kind) ps) (nat_le (length ps) max_parents)
      (pass_all (is_id r.kind) ps (λ id i. id_held r whole.store id (parents_hold r whole.store c id i)))
      (fits_test max_parents (length ps) (no_cause r (Commit c) none TooManyParents tests_too_many_parents)))
      (not_from_false (has_twice id_eq ps) (no_cause r (Commit c) none DuplicateParent tests_duplicate_parent)))
      (actor_formed r (Commit c) none c.author (inl refl) times))
      (actor_formed r (Commit c) none c.committer (inr (inl refl)) times))
      (fits_test max_title (length (title c.message)) (title_parts (title c.message) bad_message).1)
    where
      ps : List Id
      ps = parents_of r c

      author : Actor
      author = read_actor c.author

      committer : Actor
      committer = read_actor c.committer

      times : holds BadTime r (Commit c) ≡ false
      times = no_cause r (Commit c) none BadTime tests_bad_time

      bad_message : holds BadMessage r (Commit c) ≡ false
      bad_message = no_cause r (Commit c) none BadMessage tests_bad_message

  message_there : (message : Bytes) → is_empty (title message) ≡ false → is_empty message ≡ false
  message_there [] h = h
  message_there (b ∷ message) h = refl

  tag_formed : (c : TagCommand) → first_cause r (Tag c) ≡ None → is_tag_form r.kind (new_tag r c) ≡ true
  tag_formed c none =
      and_from (is_id r.kind target && is_tag_name (tag_rest c.name) && is_actor tagger && not (is_empty c.message)) (nat_le (length (title c.message)) max_title)
      (and_from (is_id r.kind target && is_tag_name (tag_rest c.name) && is_actor tagger) (not (is_empty c.message))
      (and_from (is_id r.kind target && is_tag_name (tag_rest c.name)) (is_actor tagger)
      (and_from (is_id r.kind target) (is_tag_name (tag_rest c.name))
      (subst (λ o. is_id r.kind (unwrap_or o (null_id r.kind)) ≡ true) (sym word.1) (id_held r whole.store word.0 (read_holds r whole.store (word_meaning r c.word) word.0 word.1)))
      (and_parts (begins (codes "refs/tags/") c.name) (is_tag_name (tag_rest c.name)) (not-false (begins (codes "refs/tags/") c.name && is_tag_name (tag_rest c.name)) place)).1)
      (actor_formed r (Tag c) none c.tagger (inl refl) times))
      (not_from_false (is_empty c.message) (message_there c.message (title_parts (title c.message) bad_message).0)))
      (fits_test max_title (length (title c.message)) (title_parts (title c.message) bad_message).1)
    where
      target : Id
      target = unwrap_or (commit_of r c.word) (null_id r.kind)

      tagger : Actor
      tagger = read_actor c.tagger

      word : (t : Id) × (commit_of r c.word ≡ Some t)
      word = word_commit r (Tag c) none c.word (in_right c.word (at_word c.expect) (c.word ∷ []) (inl refl))

      place : is_bad_place (Tag c) ≡ false
      place = (or_parts (list_any (λ name. not (is_name name)) (names_in r (Tag c))) (is_bad_place (Tag c)) (no_cause r (Tag c) none BadName tests_bad_name)).1

      times : holds BadTime r (Tag c) ≡ false
      times = no_cause r (Tag c) none BadTime tests_bad_time

      bad_message : holds BadMessage r (Tag c) ≡ false
      bad_message = no_cause r (Tag c) none BadMessage tests_bad_message

  put_formed : (v : Value) (e : Edit) → In v (put_bytes e) → HasForm r.kind v
  put_formed v (Put kind path bytes) (inl e) = subst (HasForm r.kind) (sym e) tt
  put_formed v (Put kind path bytes) (inr i) = absurd i
  put_formed v (Remove path) i = absurd i
  put_formed v (RemoveFile path) i = absurd i
  put_formed v (Graft path source from) i = absurd i

  commit_values : (c : CommitCommand) → first_cause r (Commit c) ≡ None → (v : Value) → In v (stored_by r (Commit c)) → HasForm r.kind v
  commit_values c none v i = elim (in_either v (flat_map put_bytes (edits_of r c) ++ map StoredFolder (folders_of files)) (StoredCommit (new_commit r c) ∷ []) i) [
    | inl a ↦ elim (in_either v (flat_map put_bytes (edits_of r c)) (map StoredFolder (folders_of files)) a) [
      | inl b ↦ let from = of_flat put_bytes v (edits_of r c) b in put_formed v from.0 from.2
      | inr b ↦ of_folders (HasForm r.kind) files all v b
    ]
    | inr (inl e) ↦ subst (HasForm r.kind) (sym e) (commit_formed c none, formed)
    | inr (inr e) ↦ absurd e
  ]
    where
      files : FileMap
      files = (new_commit r c).files

      formed : IsWrittenFiles (new_commit r c).files
      formed = files_written r whole.store written c none

      all : HasAll (HasForm r.kind) files
      all = record { itself = formed; folders = λ path content folder i j. inside_written folder (new_commit r c).files formed; bytes = λ path content i. tt }

  has_form : (command : Command) → first_cause r command ≡ None → (v : Value) → In v (stored_by r command) → HasForm r.kind v
  has_form (Commit c) none v i = commit_values c none v i
  has_form (Tag c) none v (inl e) = subst (HasForm r.kind) (sym e) (tag_formed c none)
  has_form (Tag c) none v (inr i) = absurd i
  has_form (Move c) none v i = absurd i
  has_form (Rename from to) none v i = absurd i
  has_form (Delete name at) none v i = absurd i
  has_form (Switch name) none v i = absurd i
  has_form Pack none v i = absurd i
  has_form Index none v i = absurd i
  has_form (Names folder) none v i = absurd i
  has_form (Files word) none v i = absurd i
  has_form (Past word) none v i = absurd i
  has_form (Log c) none v i = absurd i
  has_form (Show word path) none v i = absurd i

  -- what a command stores has its written form
  pub stored_formed : (command : Command) → first_cause r command ≡ None → (v : Value) → In v (stored_by r command) → IsWrittenValue r.kind v
  stored_formed command none v i = (has_form command none v i, too_large command none v i)

-- ---- names

-- a branch is no private name
branch_shared : (name : Bytes) → begins (codes "refs/heads/") name ≡ true → is_private name ≡ false
branch_shared name h = ap is_private (begins_parts (codes "refs/heads/") name h)

branch_name : (name : Bytes) → is_branch name ≡ true → (is_name name && not (is_private name)) ≡ true
branch_name name h =
    let parts = and_parts (is_name name) (begins (codes "refs/heads/") name) h in
    and_from (is_name name) (not (is_private name)) parts.0 (not_from_false (is_private name) (branch_shared name parts.1))

module _ (r : Repository) (command : Command) (none : first_cause r command ≡ None) where
  -- a name that the command holds
  pub given_name : (name : Bytes) → In name (names_in r command) → (is_name name && not (is_private name)) ≡ true
  given_name name i =
      let bad = (or_parts (list_any (λ name. not (is_name name)) (names_in r command)) (is_bad_place command) (no_cause r command none BadName tests_bad_name)).0 in
      and_from (is_name name) (not (is_private name)) (not-false (is_name name) (none_passes (λ name. not (is_name name)) (names_in r command) bad name i))
      (not_from_false (is_private name) (none_passes is_private (names_in r command) (no_cause r command none PrivateName tests_private_name) name i))

target_name : (r : Repository) → IsWritten r → (command : Command) → first_cause r command ≡ None → (name : Bytes) → In name (targets r command) → (is_name name && not (is_private name)) ≡ true
target_name r written (Commit c) none name (inl e) = subst (λ n. (is_name n && not (is_private n)) ≡ true) (sym e) (go (bytes_eq c.name head_word) refl)
  where
    go : (b : Bool) → bytes_eq c.name head_word ≡ b → (is_name (cond b r.branch c.name) && not (is_private (cond b r.branch c.name))) ≡ true
    go true f = branch_name r.branch written.branch
    go false f = given_name r (Commit c) none c.name (subst (λ b. In c.name (cond b [] (c.name ∷ []))) (sym f) (inl refl))
target_name r written (Commit c) none name (inr i) = absurd i
target_name r written (Tag c) none name i = given_name r (Tag c) none name i
target_name r written (Move c) none name i = given_name r (Move c) none name i
target_name r written (Rename from to) none name i = given_name r (Rename from to) none name (inr i)
target_name r written (Delete other at) none name i = absurd i
target_name r written (Switch other) none name i = absurd i
target_name r written Pack none name i = absurd i
target_name r written Index none name i = absurd i
target_name r written (Names folder) none name i = absurd i
target_name r written (Files word) none name i = absurd i
target_name r written (Past word) none name i = absurd i
target_name r written (Log c) none name i = absurd i
target_name r written (Show word path) none name i = absurd i

-- ---- what names hold

abbrev pub AllFormed : Kind → References → Type 0
AllFormed kind names = (name : Bytes) (ref : Reference) → get names name ≡ Some ref → is_reference kind ref ≡ true

module _ (r : Repository) (written : IsWritten r) where
  pub name_parts : (name : Bytes) (ref : Reference) → get r.names name ≡ Some ref → ((is_name name && not (is_private name)) ≡ true) × (is_reference r.kind ref ≡ true)
  name_parts name ref at = and_parts (is_name name && not (is_private name)) (is_reference r.kind ref) (written.names name ref at)

  pub moves_formed : (name : Bytes) → list_all (is_log_entry r.kind) (moves_at r name) ≡ true
  moves_formed name = go (get r.names name) refl
    where
      go : (o : Option Reference) → get r.names name ≡ o → list_all (is_log_entry r.kind) (unwrap_or (option_map (λ (ref : Reference). ref.moves) o) []) ≡ true
      go None e = refl
      go (Some ref) e = (and_parts (is_id r.kind ref.id) (list_all (is_log_entry r.kind) ref.moves) (name_parts name ref e).1).1

  before_formed : (name : Bytes) → is_id r.kind (unwrap_or (id_at r name) (null_id r.kind)) ≡ true
  before_formed name = go (get r.names name) refl
    where
      go : (o : Option Reference) → get r.names name ≡ o → is_id r.kind (unwrap_or (option_map (λ (ref : Reference). ref.id) o) (null_id r.kind)) ≡ true
      go None e = null_is_id r.kind
      go (Some ref) e = (and_parts (is_id r.kind ref.id) (list_all (is_log_entry r.kind) ref.moves) (name_parts name ref e).1).0

  -- a log's message
  abbrev IsLogMessage : Bytes → Type 0
  IsLogMessage message = (has_byte 10 message ≡ false) × (nat_le (length message) max_title ≡ true)

  entry_formed : (before later : Id) (actor : Actor) (message : Bytes) → is_id r.kind before ≡ true → is_id r.kind later ≡ true → is_actor actor ≡ true → IsLogMessage message
      → is_log_entry r.kind (record { before = before; after = later; actor = actor; message = message }) ≡ true
  entry_formed before later actor message b a act m =
      and_from (is_id r.kind before && is_id r.kind later && is_actor actor && not (has_byte 10 message)) (nat_le (length message) max_title)
      (and_from (is_id r.kind before && is_id r.kind later && is_actor actor) (not (has_byte 10 message))
      (and_from (is_id r.kind before && is_id r.kind later) (is_actor actor) (and_from (is_id r.kind before) (is_id r.kind later) b a) act) (not_from_false (has_byte 10 message) m.0)) m.1

  moved_formed : (name : Bytes) (id : Id) (actor : Actor) (message : Bytes) → is_id r.kind id ≡ true → is_actor actor ≡ true → IsLogMessage message → is_reference r.kind (moved_reference r name id actor message) ≡ true
  moved_formed name id actor message fits act m =
      and_from (is_id r.kind id) (list_all (is_log_entry r.kind) (cond same (moves_at r name) (entry ∷ moves_at r name))) fits (go same)
    where
      before : Id
      before = unwrap_or (id_at r name) (null_id r.kind)

      same : Bool
      same = id_eq before id

      entry : LogEntry
      entry = record { before = before; after = id; actor = actor; message = message }

      go : (b : Bool) → list_all (is_log_entry r.kind) (cond b (moves_at r name) (entry ∷ moves_at r name)) ≡ true
      go true = moves_formed name
      go false = and_from (is_log_entry r.kind entry) (list_all (is_log_entry r.kind) (moves_at r name)) (entry_formed before id actor message (before_formed name) fits act m) (moves_formed name)

  with_formed : (name : Bytes) (id : Id) (actor : Actor) (message : Bytes) (names : References) → AllFormed r.kind names → is_id r.kind id ≡ true → is_actor actor ≡ true → IsLogMessage message
      → AllFormed r.kind (with_name r name id actor message names)
  with_formed name id actor message names all h act m other ref at = go (bytes_eq other name) (sym (get-with names name (moved_reference r name id actor message) other) ∙ at)
    where
      go : (b : Bool) → cond b (Some (moved_reference r name id actor message)) (get names other) ≡ Some ref → is_reference r.kind ref ≡ true
      go true k = subst (λ x. is_reference r.kind x ≡ true) (same_Some (moved_reference r name id actor message) ref k) (moved_formed name id actor message h act m)
      go false k = all other ref k

  removed_formed : (names : References) (name : Bytes) → AllFormed r.kind names → AllFormed r.kind (remove names name)
  removed_formed names name all other ref at = go (bytes_eq other name) (sym (get_removed names name other) ∙ at)
    where
      go : (b : Bool) → cond b None (get names other) ≡ Some ref → is_reference r.kind ref ≡ true
      go true k = none_is_some ref k
      go false k = all other ref k

  lines_formed : (actor : Actor) (message : Bytes) (lines : List To) (names : References) → AllFormed r.kind names → is_actor actor ≡ true → IsLogMessage message
      → ((to : To) → In to lines → is_id r.kind (unwrap_or (commit_of r to.word) (null_id r.kind)) ≡ true) → AllFormed r.kind (with_lines r actor message lines names)
  lines_formed actor message [] names all act m h = all
  lines_formed actor message (to ∷ lines) names all act m h =
      lines_formed actor message lines (with_name r to.name (unwrap_or (commit_of r to.word) (null_id r.kind)) actor message names)
      (with_formed to.name (unwrap_or (commit_of r to.word) (null_id r.kind)) actor message names all (h to (inl refl)) act m) act m (λ other i. h other (inr i))

  old_formed : AllFormed r.kind r.names
  old_formed name ref at = (name_parts name ref at).1

title_message : (message : Bytes) → is_bad_title (title message) ≡ false → (has_byte 10 (title message) ≡ false) × (nat_le (length (title message)) max_title ≡ true)
title_message message h = (title_line message, fits_test max_title (length (title message)) (title_parts (title message) h).1)

word_id : (r : Repository) → IsWhole r → (command : Command) → first_cause r command ≡ None → (word : Bytes) → In word (words_in command) → is_id r.kind (unwrap_or (commit_of r word) (null_id r.kind)) ≡ true
word_id r whole command none word i =
    let at = word_commit r command none word i in
    subst (λ o. is_id r.kind (unwrap_or o (null_id r.kind)) ≡ true) (sym at.1) (id_held r whole.store at.0 (read_holds r whole.store (word_meaning r word) at.0 at.1))

history_actor_formed : is_actor history_actor ≡ true
history_actor_formed = refl

names_formed : (r : Repository) → IsWhole r → IsWritten r → (command : Command) → first_cause r command ≡ None → AllFormed r.kind (names_after r command)
names_formed r whole written (Commit c) none =
    with_formed r written (branch_or_name r c.name) (id_of r.kind (StoredCommit (new_commit r c))) (read_actor c.committer) (title c.message) r.names (old_formed r written)
    (digest_is_id r.kind (value_text r.kind (StoredCommit (new_commit r c)))) (actor_formed r (Commit c) none c.committer (inr (inl refl)) (no_cause r (Commit c) none BadTime tests_bad_time))
    (title_message c.message (no_cause r (Commit c) none BadMessage tests_bad_message))
names_formed r whole written (Tag c) none =
    with_formed r written c.name (id_of r.kind (StoredTag (new_tag r c))) (read_actor c.tagger) (title c.message) r.names (old_formed r written)
    (digest_is_id r.kind (value_text r.kind (StoredTag (new_tag r c)))) (actor_formed r (Tag c) none c.tagger (inl refl) (no_cause r (Tag c) none BadTime tests_bad_time))
    (title_message c.message (no_cause r (Tag c) none BadMessage tests_bad_message))
names_formed r whole written (Move c) none =
    lines_formed r written (read_actor c.actor) c.message c.to r.names (old_formed r written) (actor_formed r (Move c) none c.actor (inl refl) (no_cause r (Move c) none BadTime tests_bad_time)) message
    (λ to i. word_id r whole (Move c) none to.word (in_flat (λ (to : To). at_word to.expect ++ to.word ∷ []) to.word to c.to i (in_right to.word (at_word to.expect) (to.word ∷ []) (inl refl))))
  where
    bad : (is_bad_title (title c.message) ≡ false) × (has_byte 10 c.message ≡ false)
    bad = or_parts (is_bad_title (title c.message)) (has_byte 10 c.message) (no_cause r (Move c) none BadMessage tests_bad_message)

    message : (has_byte 10 c.message ≡ false) × (nat_le (length c.message) max_title ≡ true)
    message = (bad.1, subst (λ t. nat_le (length t) max_title ≡ true) (title_whole c.message bad.1) (title_message c.message bad.0).1)
names_formed r whole written (Rename from to) none =
    with_formed r written to (unwrap_or (id_at r from) (null_id r.kind)) history_actor (codes "rename") (remove r.names from) (removed_formed r written r.names from (old_formed r written)) held history_actor_formed (refl, refl)
  where
    stood : stands r from ≡ true
    stood = not-false (stands r from) (none_passes (λ name. not (stands r name)) (from ∷ []) (no_cause r (Rename from to) none NoSuchName tests_no_such_name) from (inl refl))

    held : is_id r.kind (unwrap_or (id_at r from) (null_id r.kind)) ≡ true
    held =
        let ref = some_is (get r.names from) stood in
        subst (λ o. is_id r.kind (unwrap_or (option_map (λ (x : Reference). x.id) o) (null_id r.kind)) ≡ true) (sym ref.1)
        (and_parts (is_id r.kind (ref.0).id) (list_all (is_log_entry r.kind) (ref.0).moves) (old_formed r written from ref.0 ref.1)).0
names_formed r whole written (Delete name at) none = removed_formed r written r.names name (old_formed r written)
names_formed r whole written (Switch name) none = old_formed r written
names_formed r whole written Pack none = old_formed r written
names_formed r whole written Index none = old_formed r written
names_formed r whole written (Names folder) none = old_formed r written
names_formed r whole written (Files word) none = old_formed r written
names_formed r whole written (Past word) none = old_formed r written
names_formed r whole written (Log c) none = old_formed r written
names_formed r whole written (Show word path) none = old_formed r written

-- ---- HEAD's branch

branch_formed : (r : Repository) → IsWritten r → (command : Command) → first_cause r command ≡ None → is_branch (branch_after r command) ≡ true
branch_formed r written (Switch name) none =
    let bad = or_parts (list_any (λ name. not (is_name name)) (name ∷ [])) (is_bad_place (Switch name)) (no_cause r (Switch name) none BadName tests_bad_name) in
    and_from (is_name name) (begins (codes "refs/heads/") name) (not-false (is_name name) (none_passes (λ name. not (is_name name)) (name ∷ []) bad.0 name (inl refl)))
    (not-false (begins (codes "refs/heads/") name) bad.1)
branch_formed r written (Commit c) none = written.branch
branch_formed r written (Tag c) none = written.branch
branch_formed r written (Move c) none = written.branch
branch_formed r written (Rename from to) none = written.branch
branch_formed r written (Delete name at) none = written.branch
branch_formed r written Pack none = written.branch
branch_formed r written Index none = written.branch
branch_formed r written (Names folder) none = written.branch
branch_formed r written (Files word) none = written.branch
branch_formed r written (Past word) none = written.branch
branch_formed r written (Log c) none = written.branch
branch_formed r written (Show word path) none = written.branch

-- ---- all

name_formed : (r : Repository) → IsWritten r → (command : Command) → first_cause r command ≡ None → (name : Bytes) → (stands r name ≡ true) ⊎ In name (targets r command) → (is_name name && not (is_private name)) ≡ true
name_formed r written command none name (inl h) = let ref = some_is (get r.names name) h in (name_parts r written name ref.0 ref.1).0
name_formed r written command none name (inr i) = target_name r written command none name i

-- after a command of which no cause holds all has its written form, taken ids or not
pub after_written : (r : Repository) → IsWhole r → IsWritten r → (command : Command) → first_cause r command ≡ None → IsWritten (after r command)
after_written r whole written command none = record {
  branch = branch_formed r written command none;
  names = λ name ref at. and_from (is_name name && not (is_private name)) (is_reference r.kind ref) (name_formed r written command none name (names_from r command name ref at)) (names_formed r whole written command none name ref at);
  values = λ id value at. elim (all_from r.kind r.objects (stored_by r command) id value at) [
    | inl old ↦ written.values id value old
    | inr made ↦ stored_formed r whole written command none value made.0
  ];
}
