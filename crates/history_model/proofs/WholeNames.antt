-- The names after a command of which no cause holds are whole.
use Rattle.std.proofs.Common.{◌≡◌, Bool, true, false, cond, not, List, [], ◌∷◌, ◌++◌, ◌⊎◌, map, filter, refl, sym, ◌∙◌, ap, subst, inl, inr, Option, Some, None, is_some, bytes_eq, option_map, unwrap_or, option_and_then, codes}
use Rattle.std.specs.List.{list_any, flat_map}
use Rattle.std.specs.FinMap.{FinMap, entries, keys, get, remove}
use Rattle.history_model.specs.Bytes.{Bytes}
use Rattle.history_model.specs.FileMap.{is_below, folders_of}
use Rattle.history_model.specs.Objects.{by_id, Actor, Value, StoredCommit, StoredTag, StoredBytes, StoredFolder, id_of}
use Rattle.gix_hash.specs.Id.{Id, null_id}
use Rattle.history_model.specs.Repository.{Repository, Reference, HoldsCommit, peeled_value, id_at, stands, HasWholeNames, IsWhole}
use Rattle.history_model.specs.Forms.{IsWritten, title}
use Rattle.history_model.specs.Words.{commit_of, word_meaning}
use Rattle.history_model.specs.Commands.{Command, Commit, Tag, Move, Rename, Delete, Switch, Pack, Index, Names, Files, Past, Log, Show, To}
use Rattle.history_model.specs.Meaning.{References, branch_or_name, read_actor, history_actor, edits_of, new_commit, new_tag, put_bytes, stored_by, takes_id, with_name, with_lines, moved_reference, names_after, after}
use Rattle.history_model.specs.CommandParts.{words_in, at_word, targets}
use Rattle.history_model.specs.Causes.{first_cause, do_collide}
use Rattle.history_model.specs.declared.Cause.TheVariants.{NoSuchName, Collides}
use Rattle.history_model.proofs.WholeLists.{In, in_left, in_right, in_map, in_flat, either, clash, same_text, none_is_some, none_passes, texts_differ}
use Rattle.history_model.proofs.WholeTexts.{text_same, type_word}
use Rattle.history_model.proofs.WholeStores.{Near, get_in, get_removed, all_keep, all_near}
use Rattle.history_model.proofs.WholeGrowth.{holds_value}
use Rattle.history_model.proofs.WholeReads.{no_cause, tests_collides, tests_no_such_name, read_holds}
use Rattle.history_model.proofs.WholeCommands.{word_commit, after_store}
use Rattle.history_model.proofs.RecoveredLemmas.{some_is}
use Rattle.std.proofs.lemmas.Bool.{or_parts, not-false}
use Rattle.std.proofs.lemmas.Option.{same_Some}
use Rattle.history_model.proofs.AfterFirstLemmas.{get-with}

-- ---- which ids names have

-- an id that is a commit or a tag, among these objects
abbrev pub IsHeld : FinMap by_id Value → Id → Type 0
IsHeld objects id = is_some (option_and_then (peeled_value id) (get objects id)) ≡ true

abbrev pub AllHeld : FinMap by_id Value → References → Type 0
AllHeld objects names = (name : Bytes) (ref : Reference) → get names name ≡ Some ref → IsHeld objects ref.id

held_more : (objects more : FinMap by_id Value) → ((q : Id) (x : Value) → get objects q ≡ Some x → get more q ≡ Some x) → (id : Id) → IsHeld objects id → IsHeld more id
held_more objects more keep id h = go (get objects id) refl h
  where
    go : (o : Option Value) → get objects id ≡ o → is_some (option_and_then (peeled_value id) o) ≡ true → IsHeld more id
    go None e k = cc
    go (Some v) e k = ap (λ o. is_some (option_and_then (peeled_value id) o)) (keep id v e) ∙ k

held_commit : (r : Repository) (id : Id) → HoldsCommit r id → IsHeld r.objects id
held_commit r id h = let held = holds_value r id h in ap (λ o. is_some (option_and_then (peeled_value id) o)) held.1

with_held : (objects : FinMap by_id Value) (r : Repository) (name : Bytes) (id : Id) (actor : Actor) (message : Bytes) (names : References) → AllHeld objects names → IsHeld objects id
    → AllHeld objects (with_name r name id actor message names)
with_held objects r name id actor message names all h other ref at = go (bytes_eq other name) (sym (get-with names name (moved_reference r name id actor message) other) ∙ at)
  where
    go : (b : Bool) → cond b (Some (moved_reference r name id actor message)) (get names other) ≡ Some ref → IsHeld objects ref.id
    go true k = subst (λ (x : Reference). IsHeld objects x.id) (same_Some (moved_reference r name id actor message) ref k) h
    go false k = all other ref k

removed_held : (objects : FinMap by_id Value) (names : References) (name : Bytes) → AllHeld objects names → AllHeld objects (remove names name)
removed_held objects names name all other ref at = go (bytes_eq other name) (sym (get_removed names name other) ∙ at)
  where
    go : (b : Bool) → cond b None (get names other) ≡ Some ref → IsHeld objects ref.id
    go true k = none_is_some ref k
    go false k = all other ref k

lines_held : (objects : FinMap by_id Value) (r : Repository) (actor : Actor) (message : Bytes) (lines : List To) (names : References) → AllHeld objects names
    → ((to : To) → In to lines → IsHeld objects (unwrap_or (commit_of r to.word) (null_id r.kind))) → AllHeld objects (with_lines r actor message lines names)
lines_held objects r actor message [] names all h = all
lines_held objects r actor message (to ∷ lines) names all h =
    lines_held objects r actor message lines (with_name r to.name (unwrap_or (commit_of r to.word) (null_id r.kind)) actor message names)
    (with_held objects r to.name (unwrap_or (commit_of r to.word) (null_id r.kind)) actor message names all (h to (inl refl))) (λ other i. h other (inr i))

module _ (r : Repository) (whole : IsWhole r) (written : IsWritten r) (command : Command) (none : first_cause r command ≡ None) (free : takes_id r command ≡ false) where
  abbrev objects : FinMap by_id Value
  objects = (after r command).objects

  keep : (q : Id) (x : Value) → get r.objects q ≡ Some x → get objects q ≡ Some x
  keep q x h = all_keep r.kind r.objects (stored_by r command) q x h

  old_held : AllHeld objects r.names
  old_held name ref at = held_more r.objects objects keep ref.id ((whole.names).held name ref.id (ap (option_map (λ (x : Reference). x.id)) at))

  word_held : (word : Bytes) → In word (words_in command) → IsHeld objects (unwrap_or (commit_of r word) (null_id r.kind))
  word_held word i =
      let at = word_commit r command none word i in
      subst (IsHeld objects) (sym (ap (λ o. unwrap_or o (null_id r.kind)) at.1)) (held_more r.objects objects keep at.0 (held_commit r at.0 (read_holds r whole.store (word_meaning r word) at.0 at.1)))

  -- a commit or a tag that is stored is held
  stored_held : (v : Value) → In v (stored_by r command) → is_some (peeled_value (id_of r.kind v) v) ≡ true → IsHeld objects (id_of r.kind v)
  stored_held v i h = go (all_near r.kind r.objects (stored_by r command) free v i) v refl h
    where
      go : Near r.kind objects v → (u : Value) → u ≡ v → is_some (peeled_value (id_of r.kind v) u) ≡ true → IsHeld objects (id_of r.kind v)
      go (StoredCommit c, at, same) u e k = ap (λ o. is_some (option_and_then (peeled_value (id_of r.kind v)) o)) at
      go (StoredTag t, at, same) u e k = ap (λ o. is_some (option_and_then (peeled_value (id_of r.kind v)) o)) at
      go (StoredBytes b, at, same) (StoredCommit c) e k = texts_differ _ _ refl ((text_same r.kind (StoredBytes b) v same).0 ∙ ap type_word (sym e))
      go (StoredBytes b, at, same) (StoredTag t) e k = texts_differ _ _ refl ((text_same r.kind (StoredBytes b) v same).0 ∙ ap type_word (sym e))
      go (StoredBytes b, at, same) (StoredBytes c) e k = cc
      go (StoredBytes b, at, same) (StoredFolder m) e k = cc
      go (StoredFolder b, at, same) (StoredCommit c) e k = texts_differ _ _ refl ((text_same r.kind (StoredFolder b) v same).0 ∙ ap type_word (sym e))
      go (StoredFolder b, at, same) (StoredTag t) e k = texts_differ _ _ refl ((text_same r.kind (StoredFolder b) v same).0 ∙ ap type_word (sym e))
      go (StoredFolder b, at, same) (StoredBytes c) e k = cc
      go (StoredFolder b, at, same) (StoredFolder m) e k = cc

-- the name that a rename takes away holds an id
from_held : (r : Repository) (whole : IsWhole r) (written : IsWritten r) (from to : Bytes) (none : first_cause r (Rename from to) ≡ None) (free : takes_id r (Rename from to) ≡ false)
    → IsHeld (after r (Rename from to)).objects (unwrap_or (id_at r from) (null_id r.kind))
from_held r whole written from to none free =
    let stood = not-false (stands r from) (none_passes (λ name. not (stands r name)) (from ∷ []) (no_cause r (Rename from to) none NoSuchName tests_no_such_name) from (inl refl)) in
    let ref = some_is (get r.names from) stood in
    subst (IsHeld (after r (Rename from to)).objects) (sym (ap (λ o. unwrap_or (option_map (λ (x : Reference). x.id) o) (null_id r.kind)) ref.1)) (old_held r whole written (Rename from to) none free from ref.0 ref.1)

names_held : (r : Repository) → IsWhole r → IsWritten r → (command : Command) → first_cause r command ≡ None → takes_id r command ≡ false → AllHeld (after r command).objects (names_after r command)
names_held r whole written (Commit c) none free =
    with_held (after r (Commit c)).objects r (branch_or_name r c.name) (id_of r.kind (StoredCommit (new_commit r c))) (read_actor c.committer) (title c.message) r.names (old_held r whole written (Commit c) none free)
    (stored_held r whole written (Commit c) none free (StoredCommit (new_commit r c))
    (in_right (StoredCommit (new_commit r c)) (flat_map put_bytes (edits_of r c) ++ map StoredFolder (folders_of (new_commit r c).files)) (StoredCommit (new_commit r c) ∷ []) (inl refl)) refl)
names_held r whole written (Tag c) none free =
    with_held (after r (Tag c)).objects r c.name (id_of r.kind (StoredTag (new_tag r c))) (read_actor c.tagger) (title c.message) r.names (old_held r whole written (Tag c) none free)
    (stored_held r whole written (Tag c) none free (StoredTag (new_tag r c)) (inl refl) refl)
names_held r whole written (Move c) none free =
    lines_held (after r (Move c)).objects r (read_actor c.actor) c.message c.to r.names (old_held r whole written (Move c) none free)
    (λ to i. word_held r whole written (Move c) none free to.word (in_flat (λ (to : To). at_word to.expect ++ to.word ∷ []) to.word to c.to i (in_right to.word (at_word to.expect) (to.word ∷ []) (inl refl))))
names_held r whole written (Rename from to) none free =
    with_held (after r (Rename from to)).objects r to (unwrap_or (id_at r from) (null_id r.kind)) history_actor (codes "rename") (remove r.names from)
    (removed_held (after r (Rename from to)).objects r.names from (old_held r whole written (Rename from to) none free)) (from_held r whole written from to none free)
names_held r whole written (Delete name at) none free = removed_held (after r (Delete name at)).objects r.names name (old_held r whole written (Delete name at) none free)
names_held r whole written (Switch name) none free = old_held r whole written (Switch name) none free
names_held r whole written Pack none free = old_held r whole written Pack none free
names_held r whole written Index none free = old_held r whole written Index none free
names_held r whole written (Names folder) none free = old_held r whole written (Names folder) none free
names_held r whole written (Files word) none free = old_held r whole written (Files word) none free
names_held r whole written (Past word) none free = old_held r whole written (Past word) none free
names_held r whole written (Log c) none free = old_held r whole written (Log c) none free
names_held r whole written (Show word path) none free = old_held r whole written (Show word path) none free

-- ---- names that exist

-- the name existed before, or is one of these
abbrev pub StoodOr : References → List Bytes → References → Type 0
StoodOr old made names = (name : Bytes) (ref : Reference) → get names name ≡ Some ref → (is_some (get old name) ≡ true) ⊎ In name made

with_stood : (old : References) (made : List Bytes) (r : Repository) (name : Bytes) (id : Id) (actor : Actor) (message : Bytes) (names : References) → StoodOr old made names → In name made → StoodOr old made (with_name r name id actor message names)
with_stood old made r name id actor message names all i other ref at = go (bytes_eq other name) refl (sym (get-with names name (moved_reference r name id actor message) other) ∙ at)
  where
    go : (b : Bool) → bytes_eq other name ≡ b → cond b (Some (moved_reference r name id actor message)) (get names other) ≡ Some ref → (is_some (get old other) ≡ true) ⊎ In other made
    go true e k = inr (subst (λ n. In n made) (sym (same_text other name e)) i)
    go false e k = all other ref k

lines_stood : (old : References) (made : List Bytes) (r : Repository) (actor : Actor) (message : Bytes) (lines : List To) (names : References) → StoodOr old made names
    → ((to : To) → In to lines → In to.name made) → StoodOr old made (with_lines r actor message lines names)
lines_stood old made r actor message [] names all h = all
lines_stood old made r actor message (to ∷ lines) names all h =
    lines_stood old made r actor message lines (with_name r to.name (unwrap_or (commit_of r to.word) (null_id r.kind)) actor message names)
    (with_stood old made r to.name (unwrap_or (commit_of r to.word) (null_id r.kind)) actor message names all (h to (inl refl))) (λ other i. h other (inr i))

removed_stood : (old : References) (made : List Bytes) (names : References) (name : Bytes) → StoodOr old made names → StoodOr old made (remove names name)
removed_stood old made names name all other ref at = go (bytes_eq other name) (sym (get_removed names name other) ∙ at)
  where
    go : (b : Bool) → cond b None (get names other) ≡ Some ref → (is_some (get old other) ≡ true) ⊎ In other made
    go true k = none_is_some ref k
    go false k = all other ref k

as_before : (names : References) (made : List Bytes) → StoodOr names made names
as_before names made name ref at = inl (ap is_some at)

pub names_from : (r : Repository) (command : Command) → StoodOr r.names (targets r command) (names_after r command)
names_from r (Commit c) = with_stood r.names (branch_or_name r c.name ∷ []) r (branch_or_name r c.name) (id_of r.kind (StoredCommit (new_commit r c))) (read_actor c.committer) (title c.message) r.names (as_before r.names (branch_or_name r c.name ∷ [])) (inl refl)
names_from r (Tag c) = with_stood r.names (c.name ∷ []) r c.name (id_of r.kind (StoredTag (new_tag r c))) (read_actor c.tagger) (title c.message) r.names (as_before r.names (c.name ∷ [])) (inl refl)
names_from r (Move c) = lines_stood r.names (map (λ to. to.name) c.to) r (read_actor c.actor) c.message c.to r.names (as_before r.names (map (λ to. to.name) c.to)) (λ to i. in_map (λ (to : To). to.name) to c.to i)
names_from r (Rename from to) = with_stood r.names (to ∷ []) r to (unwrap_or (id_at r from) (null_id r.kind)) history_actor (codes "rename") (remove r.names from)
    (removed_stood r.names (to ∷ []) r.names from (as_before r.names (to ∷ []))) (inl refl)
names_from r (Delete name at) = removed_stood r.names [] r.names name (as_before r.names [])
names_from r (Switch name) = as_before r.names []
names_from r Pack = as_before r.names []
names_from r Index = as_before r.names []
names_from r (Names folder) = as_before r.names []
names_from r (Files word) = as_before r.names []
names_from r (Past word) = as_before r.names []
names_from r (Log c) = as_before r.names []
names_from r (Show word path) = as_before r.names []

in_filter : {X : Type 0} (test : X → Bool) (x : X) (xs : List X) → In x xs → test x ≡ true → In x (filter test xs)
in_filter test x [] i h = absurd i
in_filter {X = X} test x (y ∷ ys) (inl e) h = go (test y) (sym (ap test e) ∙ h)
  where
    go : (b : Bool) → b ≡ true → In x (cond b (y ∷ filter test ys) (filter test ys))
    go true k = inl e
    go false k = cc
in_filter {X = X} test x (y ∷ ys) (inr i) h = go (test y) (in_filter test x ys i h)
  where
    go : (b : Bool) → In x (filter test ys) → In x (cond b (y ∷ filter test ys) (filter test ys))
    go true k = inr k
    go false k = k

module _ (r : Repository) (whole : IsWhole r) (command : Command) (none : first_cause r command ≡ None) where
  -- a name to be made collides with no name that exists, nor with one that the command makes
  free_of : (a b : Bytes) → stands r a ≡ false → In a (targets r command) → (stands r b ≡ true) ⊎ In b (targets r command) → do_collide a b ≡ false
  free_of a b absent i other =
      let outer = none_passes (λ made. list_any (do_collide made) (keys r.names ++ targets r command)) (filter (λ name. not (stands r name)) (targets r command))
      (no_cause r command none Collides tests_collides) a (in_filter (λ name. not (stands r name)) a (targets r command) i (ap not absent)) in
      none_passes (do_collide a) (keys r.names ++ targets r command) outer b (member other)
    where
      member : (stands r b ≡ true) ⊎ In b (targets r command) → In b (keys r.names ++ targets r command)
      member (inl h) =
          let ref = some_is (get r.names b) h in
          in_left b (keys r.names) (targets r command) (in_map (λ (e : Bytes × Reference). e.0) (b, ref.0) (entries r.names) (get_in r.names b ref.0 ref.1))
      member (inr j) = in_right b (keys r.names) (targets r command) j

  pub apart_after : (a b : Bytes) → (stands r a ≡ true) ⊎ In a (targets r command) → (stands r b ≡ true) ⊎ In b (targets r command) → is_below a b ≡ false
  apart_after a b at_a at_b = go (either (stands r a)) (either (stands r b)) at_a at_b
    where
      go : (stands r a ≡ true) ⊎ (stands r a ≡ false) → (stands r b ≡ true) ⊎ (stands r b ≡ false) → (stands r a ≡ true) ⊎ In a (targets r command) → (stands r b ≡ true) ⊎ In b (targets r command) → is_below a b ≡ false
      go (inl s) (inl t) x y = (whole.names).apart a b s t
      go (inr s) t (inl x) y = clash x s
      go (inr s) t (inr x) y = (or_parts (is_below a b) (is_below b a) (free_of a b s x y)).0
      go (inl s) (inr t) x (inl y) = clash y t
      go (inl s) (inr t) x (inr y) = (or_parts (is_below b a) (is_below a b) (free_of b a t y (inl s))).1

pub after_names : (r : Repository) → IsWhole r → IsWritten r → (command : Command) → first_cause r command ≡ None → takes_id r command ≡ false → HasWholeNames (after r command)
after_names r whole written command none free = record {
  held = λ name id e. held name id (get (names_after r command) name) refl e;
  apart = λ a b at_a at_b. apart_after r whole command none a b (there a at_a) (there b at_b);
}
  where
    held : (name : Bytes) (id : Id) (o : Option Reference) → get (names_after r command) name ≡ o → option_map (λ (x : Reference). x.id) o ≡ Some id → IsHeld (after r command).objects id
    held name id None e k = none_is_some id k
    held name id (Some ref) e k = subst (IsHeld (after r command).objects) (same_Some ref.id id k) (names_held r whole written command none free name ref e)

    there : (a : Bytes) → is_some (get (names_after r command) a) ≡ true → (stands r a ≡ true) ⊎ In a (targets r command)
    there a h = let ref = some_is (get (names_after r command) a) h in names_from r command a ref.0 ref.1

-- after a command of which no cause holds, and which takes no id, a whole repository is whole
pub after_whole : (r : Repository) → IsWhole r → IsWritten r → (command : Command) → first_cause r command ≡ None → takes_id r command ≡ false → IsWhole (after r command)
after_whole r whole written command none free = record {
  store = after_store r whole.store written command none free;
  names = after_names r whole written command none free;
}
