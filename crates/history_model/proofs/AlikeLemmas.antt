-- Edits cut in any way into commits come to the same files, and all orders of a log to one set.
use Rattle.std.proofs.Common.{◌≡◌, true, false, cond, List, [], ◌∷◌, ◌++◌, map, refl, sym, ◌∙◌, ap, subst, inl, Some, None, option_map, option_and_then, unwrap_or, option_to_list, append-nil}
use Rattle.std.specs.List.{flat_map, filter_map}
use Rattle.std.specs.FinMap.{get, empty}
use Rattle.std.specs.Prelude.{pos}
use Rattle.history_model.specs.Bytes.{Bytes}
use Rattle.history_model.specs.FileMap.{FileMap, Edit, edited, edited_by, folders_of}
use Rattle.history_model.specs.Objects.{CommitValue, StoredCommit, StoredFolder, id_of, folder_id}
use Rattle.gix_hash.specs.Id.{Id}
use Rattle.history_model.specs.Repository.{Repository, Reference, as_commit, peeled, peeled_value, id_at}
use Rattle.history_model.specs.Commands.{Commit, CommitCommand, EditLine, LogCommand}
use Rattle.history_model.specs.Words.{commit_of}
use Rattle.history_model.specs.Meaning.{after, takes_id, branch_or_name, name_commit, first_files, files_at, read_line, read_edit, edits_of, new_commit, put_bytes, read_actor, moved_reference}
use Rattle.history_model.specs.Replies.{Committed, LogIs}
use Rattle.gix_traverse_graph.specs.Walks.{InSomeOrder}
use Rattle.gix_traverse_graph.specs.declared.parents.Parents.TheVariants.{All as AllParents, First as FirstParent}
use Rattle.gix_traverse_graph.proofs.Listing.{one_set}
use Rattle.history_model.specs.Answers.{IsLog, commits_of, walk_request, kept, tip_word, hidden_word, since_of}
use Rattle.history_model.specs.Steps.{Step}
use Rattle.history_model.specs.laws.Wholeness.{IsSound}
use Rattle.history_model.specs.Causes.{first_cause}
use Rattle.history_model.specs.Forms.{title}
use Rattle.history_model.proofs.LogLemmas.{some_order}
use Rattle.history_model.proofs.WholeLists.{in_right, text_itself}
use Rattle.history_model.proofs.WholeStored.{stored_there}
use Rattle.history_model.proofs.WholeSteps.{steps_keep_sound}
use Rattle.history_model.specs.laws.Alike.{base_files, files_of_name, GraftsRead, Commits, EditsCutAnyWay, IsPlainLog, OrdersPrintOneSet}
use Rattle.history_model.proofs.AfterFirstLemmas.{get-with}

-- ---- orders

ids_of : List Id → Rattle.history_model.specs.Replies.Reply → List Id
ids_of d (LogIs ids) = ids
ids_of d _ = d

-- a plain log is a walk of its request, with no commit left out
listed : (r : Repository) (c : LogCommand) (xs : List Id) → IsPlainLog c → (ids : List Id) × IsLog r c ids × (LogIs xs ≡ LogIs ids) → InSomeOrder (commits_of r) (walk_request r c) xs
unfolding ids_of
listed r c xs plain (ids, (walked, walk, kept_ids), same) =
    subst (InSomeOrder (commits_of r) (walk_request r c)) (sym (ap (ids_of xs) same ∙ kept_ids ∙ ap (λ paths. kept r paths walked) plain.no_path)) (some_order c.order (commits_of r) (walk_request r c) walked walk)

one_request : (r : Repository) (c d : LogCommand) → c.items ≡ d.items → IsPlainLog c → IsPlainLog d → walk_request r c ≡ walk_request r d
one_request r c d items pc pd = λ i. record {
  tips = filter_map (commit_of r) (filter_map tip_word (items i));
  hidden = filter_map (commit_of r) (filter_map hidden_word (items i));
  parents = cond (same_parents i) FirstParent AllParents;
  since = option_map pos (same_since i);
  accepts = λ _. true;
}
  where
    same_parents : c.first_parents ≡ d.first_parents
    same_parents = pc.all_parents ∙ sym pd.all_parents

    same_since : since_of c.order ≡ since_of d.order
    same_since = pc.no_cutoff ∙ sym pd.no_cutoff

pub orders_print_one_set : OrdersPrintOneSet
orders_print_one_set r a b c d xs ys items pc pd first second id =
    let left = listed r c xs pc first.answer in
    let right = subst (λ q. InSomeOrder (commits_of r) q ys) (sym (one_request r c d items pc pd)) (listed r d ys pd second.answer) in
    one_set (commits_of r) (walk_request r c) xs ys (λ x. refl) left right id

-- ---- edits

edits_join : (m : FileMap) (xs ys : List Edit) → edited_by m (xs ++ ys) ≡ edited_by (edited_by m xs) ys
edits_join m [] ys = refl
edits_join m (x ∷ xs) ys = edits_join (edited m x) xs ys

map_join : (f : EditLine → Edit) (xs ys : List EditLine) → map f (xs ++ ys) ≡ map f xs ++ map f ys
map_join f [] ys = refl
map_join f (x ∷ xs) ys = ap (λ l. f x ∷ l) (map_join f xs ys)

-- the lines of edits read so
reads_so : (read : Bytes → FileMap) (r : Repository) (lines : List EditLine) → GraftsRead read r lines → map (read_edit r) lines ≡ map (read_line read) lines
reads_so read r [] so = refl
reads_so read r (line ∷ lines) so = λ i. so.0 i ∷ reads_so read r lines so.1 i

-- ---- one commit

-- what the name is at afterwards, and its files
record Advances (mid : Repository) (name : Bytes) (files : FileMap) : Type 0 where
  id : Id
  at : name_commit mid name ≡ Some id
  left : files_at mid id ≡ files

module _ (r : Repository) (sound : IsSound r) (c : CommitCommand) (none : first_cause r (Commit c) ≡ None) (free : takes_id r (Commit c) ≡ false) where
  at_name : id_at (after r (Commit c)) (branch_or_name r c.name) ≡ Some (id_of r.kind (StoredCommit (new_commit r c)))
  at_name = ap (option_map (λ (ref : Reference). ref.id))
      (get-with r.names (branch_or_name r c.name) ref (branch_or_name r c.name) ∙ ap (λ b. cond b (Some ref) (get r.names (branch_or_name r c.name))) (text_itself (branch_or_name r c.name)))
    where
      ref : Reference
      ref = moved_reference r (branch_or_name r c.name) (id_of r.kind (StoredCommit (new_commit r c))) (read_actor c.committer) (title c.message)

  advances : Advances (after r (Commit c)) (branch_or_name r c.name) (new_commit r c).files
  advances = record {
    id = t;
    at = ap (option_and_then (peeled (after r (Commit c)))) at_name ∙ ap (option_and_then (peeled_value t)) there;
    left = ap (λ o. unwrap_or (option_map (λ (v : CommitValue). v.files) (option_and_then as_commit o)) empty) there;
  }
    where
      t : Id
      t = id_of r.kind (StoredCommit (new_commit r c))

      there : get (after r (Commit c)).objects (id_of r.kind (StoredCommit (new_commit r c))) ≡ Some (StoredCommit (new_commit r c))
      there = stored_there r sound (Commit c) none free (StoredCommit (new_commit r c))
          (in_right (StoredCommit (new_commit r c)) (flat_map put_bytes (edits_of r c) ++ map StoredFolder (folders_of (new_commit r c).files)) (StoredCommit (new_commit r c) ∷ []) (inl refl))

-- the files of a name that has advanced, and those that the next commit on it changes
named_files : (mid : Repository) (name : Bytes) (files : FileMap) → Advances mid name files → files_of_name mid name ≡ files
named_files mid name files adv = ap (λ o. first_files mid (option_to_list o)) adv.at ∙ adv.left

next_base : (mid : Repository) (name : Bytes) (files : FileMap) → Advances mid name files → (d : CommitCommand) → branch_or_name mid d.name ≡ name → base_files mid d ≡ files
next_base mid name files adv d is =
    ap (λ n. first_files mid (option_to_list (name_commit mid n) ++ filter_map (commit_of mid) d.parents)) is
    ∙ ap (λ o. first_files mid (option_to_list o ++ filter_map (commit_of mid) d.parents)) adv.at
    ∙ adv.left

advanced : (r mid : Repository) (name : Bytes) (c : CommitCommand) (id : Id) → IsSound r → branch_or_name r c.name ≡ name → Step r (Commit c) (Committed id) mid → Advances mid name (edited_by (base_files r c) (edits_of r c))
advanced r mid name c id sound is step =
    subst (λ x. Advances x name (edited_by (base_files r c) (edits_of r c))) (sym step.result)
    (subst (λ n. Advances (after r (Commit c)) n (edited_by (base_files r c) (edits_of r c))) is (advances r sound c step.no_cause step.not_taken))

-- ---- commits in a row

abbrev lines_of : List CommitCommand → List EditLine
lines_of cs = flat_map (λ c. c.edits) cs

record Ended (r new : Repository) (name : Bytes) (files : FileMap) : Type 0 where
  kind : new.kind ≡ r.kind
  files_there : files_of_name new name ≡ files

ended : (read : Bytes → FileMap) (name : Bytes) (r new : Repository) (c : CommitCommand) (cs : List CommitCommand) → IsSound r → Commits read name r (c ∷ cs) new
    → Ended r new name (edited_by (base_files r c) (map (read_line read) (lines_of (c ∷ cs))))
ended read name r new c [] sound (mid, id, is, so, step, end) = record {
  kind = ap (λ (x : Repository). x.kind) (end ∙ step.result);
  files_there =
      ap (λ x. files_of_name x name) end
      ∙ named_files mid name (edited_by (base_files r c) (edits_of r c)) (advanced r mid name c id sound is step)
      ∙ ap (edited_by (base_files r c)) (reads_so read r c.edits so)
      ∙ ap (λ lines. edited_by (base_files r c) (map (read_line read) lines)) (sym (append-nil c.edits));
}
ended read name r new c (d ∷ ds) sound (mid, id, is, so, step, more) =
    let rest = ended read name mid new d ds (steps_keep_sound r mid (Commit c) (Committed id) step sound) more in
    let base : base_files mid d ≡ edited_by (base_files r c) (edits_of r c) =
    next_base mid name (edited_by (base_files r c) (edits_of r c)) (advanced r mid name c id sound is step) d more.2 in
    record {
      kind = rest.kind ∙ ap (λ (x : Repository). x.kind) step.result;
      files_there =
          rest.files_there
          ∙ ap (λ files. edited_by files (map (read_line read) (lines_of (d ∷ ds)))) (base ∙ ap (edited_by (base_files r c)) (reads_so read r c.edits so))
          ∙ sym (edits_join (base_files r c) (map (read_line read) c.edits) (map (read_line read) (lines_of (d ∷ ds))))
          ∙ ap (edited_by (base_files r c)) (sym (map_join (read_line read) c.edits (lines_of (d ∷ ds))));
    }

pub edits_cut_any_way : EditsCutAnyWay
edits_cut_any_way read name other r s new end c d cs ds sound_r sound_s kinds base edits left right = record {
  files = files;
  tree = λ i. folder_id (kind i) (files i);
}
  where
    ended_left : Ended r new name (edited_by (base_files r c) (map (read_line read) (lines_of (c ∷ cs))))
    ended_left = ended read name r new c cs sound_r left

    ended_right : Ended s end other (edited_by (base_files s d) (map (read_line read) (lines_of (d ∷ ds))))
    ended_right = ended read other s end d ds sound_s right

    kind : new.kind ≡ end.kind
    kind = ended_left.kind ∙ kinds ∙ sym ended_right.kind

    files : files_of_name new name ≡ files_of_name end other
    files =
        ended_left.files_there
        ∙ (λ i. edited_by (base i) (map (read_line read) (edits i)))
        ∙ sym ended_right.files_there
