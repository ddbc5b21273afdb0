-- Each command moves and takes the names that it is said to.
use Rattle.std.proofs.Common.{◌≡◌, inl, inr, true, false, cond, not, ◌&&◌, ◌||◌, List, [], ◌∷◌, ◌++◌, map, refl, sym, ◌∙◌, ap, Some, None, option_map, unwrap_or, bytes_eq, codes, append_assoc}
use Rattle.std.specs.List.{AllByRecursion, list_any}
use Rattle.std.specs.FinMap.{get, get-remove}
use Rattle.std.proofs.lemmas.Cmp.{nat_list_cmp_total}
use Rattle.std.proofs.lemmas.Map.Text.{is_eq-slice_cmp}
use Rattle.std.proofs.lemmas.Bool.{and_parts, or_parts}
use Rattle.std.proofs.lemmas.List.{append-nil}
use Rattle.gix_hash.specs.Id.{Id, null_id}
use Rattle.gix_hash.specs.Order.{id_eq}
use Rattle.history_model.specs.Bytes.{Bytes, has_twice}
use Rattle.history_model.specs.Objects.{Actor}
use Rattle.history_model.specs.Repository.{Repository, Reference, LogEntry, moves_at, stands}
use Rattle.history_model.specs.Forms.{IsWritten, is_name, is_private, is_reference}
use Rattle.history_model.specs.Words.{commit_of}
use Rattle.history_model.specs.Commands.{Command, Commit, Tag, Move, MoveCommand, To, Rename, Delete}
use Rattle.history_model.specs.Meaning.{after, history_actor, moved_reference, read_actor, with_lines}
use Rattle.history_model.specs.Causes.{first_cause}
use Rattle.history_model.specs.declared.Cause.TheVariants.{NameTwice, NoSuchName}
use Rattle.history_model.specs.laws.Wholeness.{IsSound}
use Rattle.history_model.proofs.AfterFirstLemmas.{get-with}
use Rattle.history_model.proofs.IdLemmas.{id_itself, ids_apart}
use Rattle.history_model.proofs.RecoveredLemmas.{some_is}
use Rattle.history_model.proofs.WholeForms.{after_written}
use Rattle.history_model.proofs.WholeLists.{none_passes, text_itself}
use Rattle.history_model.proofs.WholeReads.{no_cause, tests_no_such_name}
use Rattle.history_layout.specs.TreeSteps.{move_entry}
use Rattle.history_layout.specs.OneNameSteps.{NameMove, MovesOneName, commit_move, tag_move}
use Rattle.history_layout.specs.RenameSteps.{held_id}
use Rattle.history_layout.specs.EditSteps.{moved_name, renamed, MovesTo, AreEditsOf, MayRename}
use Rattle.history_layout.specs.CommandEdits.{moved_by, moved_on, CommitsEdit, TagsEdit, MovesEdit, RenamesEdit, DeletesEdit}
use Rattle.history_layout.proofs.MoveLines.{name_of, names_joined, once_behind, others_stay, line_moved}
use Rattle.history_layout.proofs.OneNameStands.{commits_move_one_name, tags_move_one_name}
use Rattle.history_layout.proofs.Renames.{not_false, differ, held, get_new, made_new, from_named}

-- ---- a name that a command moves

named_in : (r : Repository) (name : Bytes) (ref : Reference) → IsWritten r → get r.names name ≡ Some ref → is_name name ≡ true
named_in r name ref written at = (and_parts (is_name name) (not (is_private name)) (and_parts (is_name name && not (is_private name)) (is_reference r.kind ref) (written.names name ref at)).0).0

moves_to : (r : Repository) (command : Command) → IsSound r → first_cause r command ≡ None → (name : Bytes) (id : Id) (actor : Actor) (message : Bytes)
    → get (after r command).names name ≡ Some (moved_reference r name id actor message) → MovesTo r command (record { name = name; entry = move_entry r name id actor message })
moves_to r command sound none name id actor message at =
    let entry : LogEntry = move_entry r name id actor message in
    let told : moves_at (after r command) name ≡ cond (id_eq entry.before id) (moves_at r name) (entry ∷ moves_at r name) = ap (λ o. unwrap_or (option_map (λ (ref : Reference). ref.moves) o) []) at in
    record {
      named = named_in (after r command) name (moved_reference r name id actor message) (after_written r sound.whole sound.written command none) at;
      holds = ap (option_map (λ (ref : Reference). ref.id)) at;
      moved = λ apart. told ∙ ap (λ b. cond b (moves_at r name) (entry ∷ moves_at r name)) (ids_apart entry.before id apart);
      unmoved = λ same. told ∙ ap (λ b. cond b (moves_at r name) (entry ∷ moves_at r name)) (ap (λ x. id_eq x id) same ∙ id_itself id);
    }

-- ---- a commit and a tag

module _ (r : Repository) (command : Command) (move : NameMove) (sound : IsSound r) (none : first_cause r command ≡ None) (moves : MovesOneName r command move) where
  abbrev ref : Reference
  ref = moved_reference r move.name move.id move.actor move.message

  there : (name : Bytes) → get (after r command).names name ≡ cond (bytes_eq name move.name) (Some ref) (get r.names name)
  there name = ap (λ names. get names name) moves.names ∙ get-with r.names move.name ref name

  one_edit : MayRename r command (moved_by r move ∷ []) None → AreEditsOf r command (moved_by r move ∷ []) None
  one_edit renaming = record {
    each = (moves_to r command sound none move.name move.id move.actor move.message (there move.name ∙ ap (λ b. cond b (Some ref) (get r.names move.name)) (text_itself move.name)), tt);
    gone = tt;
    others = λ name apart. there name ∙ ap (λ b. cond b (Some ref) (get r.names name)) (or_parts (bytes_eq name move.name) false apart).0;
    branch = moves.branch;
    renaming = renaming;
  }

pub commits_edit : CommitsEdit
commits_edit r c sound none = one_edit r (Commit c) (commit_move r c) sound none (commits_move_one_name r c) tt

pub tags_edit : TagsEdit
tags_edit r c sound none = one_edit r (Tag c) (tag_move r c) sound none (tags_move_one_name r c) tt

-- ---- a move

pub names_of_lines : (r : Repository) (c : MoveCommand) (lines : List To) → map moved_name (map (moved_on r c) lines) ≡ map name_of lines
names_of_lines r c [] = refl
names_of_lines r c (to ∷ lines) = ap (λ names. to.name ∷ names) (names_of_lines r c lines)

module _ (r : Repository) (c : MoveCommand) (sound : IsSound r) (none : first_cause r (Move c) ≡ None) where
  once : has_twice bytes_eq (map name_of c.to) ≡ false
  once = no_cause r (Move c) none NameTwice (inr (inr (inl refl)))

  line_edit : (first rest : List To) (to : To) → c.to ≡ first ++ to ∷ rest → MovesTo r (Move c) (moved_on r c to)
  line_edit first rest to is =
      moves_to r (Move c) sound none to.name (unwrap_or (commit_of r to.word) (null_id r.kind)) (read_actor c.actor) c.message
      (ap (λ lines. get (with_lines r (read_actor c.actor) c.message lines r.names) to.name) is ∙ line_moved r (read_actor c.actor) c.message first rest to r.names own_once)
    where
      own_once : list_any (bytes_eq to.name) (map name_of rest) ≡ false
      own_once = (or_parts (list_any (bytes_eq to.name) (map name_of rest)) (has_twice bytes_eq (map name_of rest))
          (once_behind (map name_of first) (to.name ∷ map name_of rest) (sym (ap (has_twice bytes_eq) (ap (map name_of) is ∙ names_joined first (to ∷ rest))) ∙ once))).0

  line_edits : (first rest : List To) → c.to ≡ first ++ rest → AllByRecursion (MovesTo r (Move c)) (map (moved_on r c) rest)
  line_edits first [] is = tt
  line_edits first (to ∷ rest) is = (line_edit first rest to is, line_edits (first ++ to ∷ []) rest (is ∙ sym (append_assoc first (to ∷ []) rest)))

  move_edit : AreEditsOf r (Move c) (map (moved_on r c) c.to) None
  move_edit = record {
    each = line_edits [] c.to refl;
    gone = tt;
    others = λ name apart. others_stay r (read_actor c.actor) c.message c.to r.names name
        (ap (list_any (bytes_eq name)) (sym (append-nil (map moved_name (map (moved_on r c) c.to)) ∙ names_of_lines r c c.to)) ∙ apart);
    branch = refl;
    renaming = tt;
  }

pub moves_edit : MovesEdit
moves_edit r c sound none = move_edit r c sound none

-- ---- a rename

module _ (r : Repository) (from to : Bytes) (sound : IsSound r) (none : first_cause r (Rename from to) ≡ None) where
  abbrev made : Reference
  made = moved_reference r to (held_id r from) history_actor (codes "rename")

  apart : bytes_eq from to ≡ false
  apart = differ r from to sound none

  rename_edit : AreEditsOf r (Rename from to) (renamed r from to ∷ []) (Some from)
  rename_edit = record {
    each = (moves_to r (Rename from to) sound none to (held_id r from) history_actor (codes "rename") (made_new r from to sound none), tt);
    gone = record {
      named = from_named r from to sound none;
      deleted = text_itself from;
      gone = get_new r from to sound none from ∙ ap (λ b. cond b (Some made) (cond (bytes_eq from from) None (get r.names from))) apart ∙ ap (λ b. cond b None (get r.names from)) (text_itself from);
      apart = ap (λ b. b || false) apart;
    };
    others = λ name none_of.
        let parts = or_parts (bytes_eq name to) (bytes_eq name from || false) none_of in
        get_new r from to sound none name ∙ ap (λ b. cond b (Some made) (cond (bytes_eq name from) None (get r.names name))) parts.0 ∙ ap (λ b. cond b None (get r.names name)) (or_parts (bytes_eq name from) false parts.1).0;
    branch = refl;
    renaming = record { goes = refl; comes = refl; held = held r from to sound none };
  }

pub renames_edit : RenamesEdit
renames_edit r from to sound none = rename_edit r from to sound none

-- ---- a deletion

pub deletes_edit : DeletesEdit
deletes_edit r name at sound none = record {
  each = tt;
  gone = record {
    named = named_in r name there.0 sound.written there.1;
    deleted = text_itself name;
    gone = without name ∙ ap (λ b. cond b None (get r.names name)) (text_itself name);
    apart = refl;
  };
  others = λ q apart. without q ∙ ap (λ b. cond b None (get r.names q)) (or_parts (bytes_eq q name) false apart).0;
  branch = refl;
  renaming = tt;
}
  where
    there : (ref : Reference) × (get r.names name ≡ Some ref)
    there = some_is (get r.names name)
        (not_false (stands r name) (none_passes (λ n. not (stands r n)) (name ∷ []) (no_cause r (Delete name at) none NoSuchName tests_no_such_name) name (inl refl)))

    without : (q : Bytes) → get (after r (Delete name at)).names q ≡ cond (bytes_eq q name) None (get r.names q)
    without q = get-remove nat_list_cmp_total r.names name q ∙ ap (λ b. cond b None (get r.names q)) (is_eq-slice_cmp q name)
