-- The first cause that holds, found part by part.
use Rattle.std.proofs.Common.{◌≡◌, ◌<◌, Bool, true, false, cond, ◌||◌, List, [], ◌∷◌, ◌++◌, map, length, refl, ◌∙◌, ap, Option, Some, None, find, length-append, codes, arith}
use Rattle.std.specs.List.{list_any, flat_map}
use Rattle.std.proofs.lemmas.List.Folds.{list_any-append}
use Rattle.std.proofs.lemmas.List.{map-append}
use Rattle.history_model.specs.FileMap.{folders_of}
use Rattle.history_model.specs.Repository.{Repository}
use Rattle.history_model.specs.Objects.{StoredCommit, StoredFolder, CommitValue, commit_content, content_of, hex, folder_id, actor_text}
use Rattle.history_model.specs.Bytes.{line}
use Rattle.history_model.specs.Forms.{max_content}
use Rattle.history_model.specs.Commands.{Commit, CommitCommand}
use Rattle.history_model.specs.CommandParts.{contents_in}
use Rattle.history_model.specs.Meaning.{new_commit, stored_by, put_bytes, edits_of}
use Rattle.history_model.specs.Causes.{holds, first_cause, is_bad_actor, is_too_large}
use Rattle.history_model.specs.declared.Cause.{Cause}
use Rattle.history_model.specs.declared.Cause.TheVariants.{BadPath, IsFolder, NoSuchPath, BadActor, BadTime, BadMessage, TooLarge}
use Rattle.history_plans.specs.CommitCauses.{first_among, name_causes, form_causes, is_long}
use Rattle.history_repository.proofs.FieldLemmas.{beyond}
use Rattle.history_model.proofs.StepLemmas.{passed as none_of}
use Rattle.std.proofs.lemmas.Bool.{or_parts}

-- ---- lists in two parts

pub find_after_none : {X : Type 0} (p : X → Bool) (xs ys : List X) → find p xs ≡ None → find p (xs ++ ys) ≡ find p ys
find_after_none p [] ys e = refl
find_after_none p (x ∷ xs) ys e = by_test (p x) e (find_after_none p xs ys)
  where
    by_test : (b : Bool) → cond b (Some x) (find p xs) ≡ None → (find p xs ≡ None → find p (xs ++ ys) ≡ find p ys) → cond b (Some x) (find p (xs ++ ys)) ≡ find p ys
    by_test true e rest = cc
    by_test false e rest = rest e

pub find_in_front : {X : Type 0} (p : X → Bool) (xs ys : List X) (x : X) → find p xs ≡ Some x → find p (xs ++ ys) ≡ Some x
find_in_front p [] ys x e = cc
find_in_front p (y ∷ xs) ys x e = by_test (p y) e (find_in_front p xs ys x)
  where
    by_test : (b : Bool) → cond b (Some y) (find p xs) ≡ Some x → (find p xs ≡ Some x → find p (xs ++ ys) ≡ Some x) → cond b (Some y) (find p (xs ++ ys)) ≡ Some x
    by_test true e rest = e
    by_test false e rest = rest e

find_none : {X : Type 0} (p : X → Bool) (x : X) (xs : List X) → find p (x ∷ xs) ≡ None → (p x ≡ false) × (find p xs ≡ None)
find_none p x xs e = none_of (p x) x (find p xs) e

pub passed : {X : Type 0} (b : Bool) (x : X) (rest want : Option X) → b ≡ false → rest ≡ want → cond b (Some x) rest ≡ want
passed true x rest want e same = cc
passed false x rest want e same = same

pub here : {X : Type 0} (b : Bool) (x : X) (rest : Option X) → b ≡ true → cond b (Some x) rest ≡ Some x
here true x rest e = refl
here false x rest e = cc

-- ---- the first cause of a commit

module _ (r : Repository) (sent : CommitCommand) where
  pub refused_by_name : (cause : Cause) → first_among name_causes r (Commit sent) ≡ Some cause → first_cause r (Commit sent) ≡ Some cause
  refused_by_name cause e =
      find_in_front (λ cause. holds cause r (Commit sent)) name_causes (form_causes ++ TooLarge ∷ []) cause e

  pub refused_by_form : (cause : Cause) → first_among name_causes r (Commit sent) ≡ None → first_among (form_causes ++ TooLarge ∷ []) r (Commit sent) ≡ Some cause → first_cause r (Commit sent) ≡ Some cause
  refused_by_form cause none e =
      find_after_none (λ cause. holds cause r (Commit sent)) name_causes (form_causes ++ TooLarge ∷ []) none ∙ e

  -- if all but the last cause are ruled out, it decides
  pub refused_by_size : first_among name_causes r (Commit sent) ≡ None → first_among form_causes r (Commit sent) ≡ None → first_cause r (Commit sent) ≡ first_among (TooLarge ∷ []) r (Commit sent)
  refused_by_size none formed =
      find_after_none (λ cause. holds cause r (Commit sent)) name_causes (form_causes ++ TooLarge ∷ []) none
      ∙ find_after_none (λ cause. holds cause r (Commit sent)) form_causes (TooLarge ∷ []) formed

-- ---- what is too large

module _ (r : Repository) (sent : CommitCommand) where
  pub long_content : list_any is_long (contents_in (Commit sent)) ≡ true → is_too_large r (Commit sent) ≡ true
  long_content e =
      list_any-append is_long (contents_in (Commit sent)) (map (content_of r.kind) (stored_by r (Commit sent)))
      ∙ ap (λ b. b || list_any is_long (map (content_of r.kind) (stored_by r (Commit sent)))) e

  -- a commit's content holds its message
  long_commit : (commit : CommitValue) → max_content < length commit.message → is_long (commit_content r.kind commit) ≡ true
  long_commit commit large =
      let front = line (codes "tree " ++ hex (folder_id r.kind commit.files)) ++ flat_map (λ parent. line (codes "parent " ++ hex parent)) commit.parents
      ++ line (codes "author " ++ actor_text commit.author) ++ line (codes "committer " ++ actor_text commit.committer) ++ line [] in
      beyond max_content (length (front ++ commit.message)) (omega (arith, length-append front commit.message))

  pub long_message : max_content < length sent.message → is_too_large r (Commit sent) ≡ true
  long_message large =
      let before = flat_map put_bytes (edits_of r sent) ++ map StoredFolder (folders_of (new_commit r sent).files) in
      let last = long_commit (new_commit r sent) large in
      list_any-append is_long (contents_in (Commit sent)) (map (content_of r.kind) (stored_by r (Commit sent)))
      ∙ ap (λ b. list_any is_long (contents_in (Commit sent)) || b)
      (ap (list_any is_long) (map-append (content_of r.kind) before (StoredCommit (new_commit r sent) ∷ []))
      ∙ list_any-append is_long (map (content_of r.kind) before) (commit_content r.kind (new_commit r sent) ∷ [])
      ∙ ap (λ b. list_any is_long (map (content_of r.kind) before) || (b || false)) last
      ∙ or_true (list_any is_long (map (content_of r.kind) before)))
      ∙ or_true (list_any is_long (contents_in (Commit sent)))
    where
      or_true : (a : Bool) → (a || true) ≡ true
      or_true true = refl
      or_true false = refl

-- ---- what follows if no cause of the form holds

module _ (r : Repository) (sent : CommitCommand) (formed : first_among form_causes r (Commit sent) ≡ None) where
  abbrev Holds : Cause → Bool
  Holds cause = holds cause r (Commit sent)

  behind_paths : find Holds (BadActor ∷ BadTime ∷ BadMessage ∷ []) ≡ None
  behind_paths = (find_none Holds NoSuchPath (BadActor ∷ BadTime ∷ BadMessage ∷ []) (find_none Holds IsFolder (NoSuchPath ∷ BadActor ∷ BadTime ∷ BadMessage ∷ [])
      (find_none Holds BadPath (IsFolder ∷ NoSuchPath ∷ BadActor ∷ BadTime ∷ BadMessage ∷ []) formed).1).1).1

  pub good_actors : (is_bad_actor sent.author ≡ false) × (is_bad_actor sent.committer ≡ false)
  good_actors =
      let bad : (is_bad_actor sent.author || (is_bad_actor sent.committer || false)) ≡ false = (find_none Holds BadActor (BadTime ∷ BadMessage ∷ []) behind_paths).0 in
      let actors = or_parts (is_bad_actor sent.author) (is_bad_actor sent.committer || false) bad in
      (actors.0, (or_parts (is_bad_actor sent.committer) false actors.1).0)
