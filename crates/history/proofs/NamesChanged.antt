-- Names that move, and one that goes, in one transaction: what they pass through, and what they leave.
use Rattle.std.proofs.Common.{◌≡◌, ◌≢◌, inl, inr, false, bytes_eq, List, [], ◌∷◌, map, ℕ, refl, sym, ◌∙◌, ap, subst, Option, None}
use Rattle.std.specs.Prelude.{IsFalse}
use Rattle.std.specs.Borrow.{Bor}
use Rattle.std.proofs.lemmas.Bool.{or_from}
use Rattle.std.specs.List.{AllByRecursion, list_any}
use Rattle.gix_ref_file.specs.Tree.{Tree}
use Rattle.gix_ref_file.specs.History.{History, Adds}
use Rattle.gix_ref_file.proofs.Histories.{adds_weaker}
use Rattle.history_model.specs.Bytes.{Bytes}
use Rattle.history_model.specs.Causes.{first_cause}
use Rattle.history_model.specs.Commands.{Command, Commit, Delete, Move, MoveCommand, Rename, Tag, To}
use Rattle.history_model.specs.Meaning.{after, read_actor, takes_id}
use Rattle.history_model.specs.Places.{file_at, log_place, packed_place}
use Rattle.history_model.specs.Answers.{Answers}
use Rattle.history_model.specs.Replies.{Committed, Deleted, Moved, Renamed, Reply, Tagged}
use Rattle.history_model.specs.Steps.{Accepts}
use Rattle.history_model.specs.laws.Wholeness.{IsSound}
use Rattle.history_model.proofs.WholeLists.{either, same_text}
use Rattle.history_model.proofs.WholeSteps.{steps_keep_sound}
use Rattle.history_layout.specs.CommandEdits.{moved_by, moved_on}
use Rattle.history_layout.specs.EditFits.{CanBeEdited}
use Rattle.history_layout.specs.EditSteps.{AreEditsOf, EditsMade, EditsOnTheWay}
use Rattle.history_layout.specs.OneNameSteps.{commit_move, tag_move}
use Rattle.history_layout.specs.Passing.{HoldsBetween}
use Rattle.history_layout.proofs.EditsOfCommands.{commits_edit, deletes_edit, moves_edit, renames_edit, tags_edit}
use Rattle.history_layout.proofs.EditsAllowed.{commits_can_be_edited, deletes_can_be_edited, moves_can_be_edited, renames_can_be_edited, tags_can_be_edited}
use Rattle.history_layout.proofs.EditsPassed.{edits_pass}
use Rattle.history_layout.proofs.EditsStood.{edits_stand}
use Rattle.history_layout.proofs.PassedStates.{names_pass}
use Rattle.history_store.specs.Changing.{HaveOneActor, HoldNamesOf, MayChange}
use Rattle.history_store.specs.Packing.{KeepsRecords}
use Rattle.history_store.specs.declared.changing.MovedName.{MovedName}
use Rattle.history_store.specs.declared.names.Names.{Names}
use Rattle.history_repository.specs.Face.{names_part}
use Rattle.history_repository.specs.Stands.{pair_of}
use Rattle.history_repository.specs.declared.repository.Repository.{Repository}
use Rattle.history_plans.specs.Halves.{names_tree}
use Rattle.history_plans.proofs.PartsStand.{names_set}
use Rattle.history.specs.Moving.{AskedEdits, edits_of, gone_of}
use Rattle.history.specs.NameFiles.{ChangesNameAlone}
use Rattle.history.specs.Acts.{LeavesAsAsked}
use Rattle.history.specs.Storing.{HasStored, IsDone, name_taken, names_moved}
use Rattle.history.specs.declared.moves.Done.{Done}
use Rattle.history.proofs.AfterStoring.{sound_before, stand_still}
use Rattle.history_layout.specs.EditSteps as edits
use Rattle.history_model.specs.Repository as plain

-- ---- what is requested

-- what is known of a command that changes names, and of which no cause holds
record HasEdits (r : plain.Repository) (sent : Command) : Type 0 where
  are : AreEditsOf r sent (names_moved r sent) (name_taken sent)
  fit : CanBeEdited r (names_moved r sent) (name_taken sent)
  one_actor : HaveOneActor (names_moved r sent)
  sound : IsSound (after r sent)

-- the lines of a move have one actor
one_actor_on : (r : plain.Repository) (c : MoveCommand) (lines : List To) → HaveOneActor (map (moved_on r c) lines)
one_actor_on r c [] = tt
one_actor_on r c (to ∷ lines) = rest lines
  where
    rest : (others : List To) → AllByRecursion (λ (other : edits.MovedName). other.entry.actor ≡ read_actor c.actor) (map (moved_on r c) others)
    rest [] = tt
    rest (other ∷ others) = (refl, rest others)

accept : (r : plain.Repository) (sent : Command) (reply : Reply) → first_cause r sent ≡ None → IsFalse (takes_id r sent) → Answers r sent reply → Accepts r sent reply (after r sent)
accept r sent reply none free says = record { no_cause = none; not_taken = free; answer = says; result = refl }

has_edits : (r : plain.Repository) (sent : Command) (made : Done) → IsDone r sent made → IsSound r → first_cause r sent ≡ None → IsFalse (takes_id r sent) → HasEdits r sent
has_edits r (Commit c) made is before none free = record {
  are = commits_edit r c before none;
  fit = commits_can_be_edited r c before none;
  one_actor = tt;
  sound = steps_keep_sound r (after r (Commit c)) (Commit c) (Committed (commit_move r c).id) (accept r (Commit c) (Committed (commit_move r c).id) none free refl) before;
}
has_edits r (Tag c) made is before none free = record {
  are = tags_edit r c before none;
  fit = tags_can_be_edited r c before none;
  one_actor = tt;
  sound = steps_keep_sound r (after r (Tag c)) (Tag c) (Tagged (tag_move r c).id) (accept r (Tag c) (Tagged (tag_move r c).id) none free refl) before;
}
has_edits r (Move c) made is before none free = record {
  are = moves_edit r c before none;
  fit = moves_can_be_edited r c before none;
  one_actor = one_actor_on r c c.to;
  sound = steps_keep_sound r (after r (Move c)) (Move c) Moved (accept r (Move c) Moved none free refl) before;
}
has_edits r (Rename from to) made is before none free = record {
  are = renames_edit r from to before none;
  fit = renames_can_be_edited r from to before none;
  one_actor = tt;
  sound = steps_keep_sound r (after r (Rename from to)) (Rename from to) Renamed (accept r (Rename from to) Renamed none free refl) before;
}
has_edits r (Delete name at) made is before none free = record {
  are = deletes_edit r name at before none;
  fit = deletes_can_be_edited r name at before none;
  one_actor = tt;
  sound = steps_keep_sound r (after r (Delete name at)) (Delete name at) Deleted (accept r (Delete name at) Deleted none free refl) before;
}
has_edits r sent made is before none free = absurd is

module _ {F : Type 0} (IsHonest : F → Type 0) (history : F → History) (now : Repository F) (r : plain.Repository) (sent : Command) where
  pub edits_asked : HasStored IsHonest history now r sent → first_cause r sent ≡ None → IsFalse (takes_id r sent) → (made : Done) → IsDone r sent made
      → (given : List MovedName) (gone : Option (Bor (List ℕ))) → edits_of given ≡ names_moved r sent → gone_of gone ≡ name_taken sent → AskedEdits IsHonest history now r sent given gone
  edits_asked s none free made is given taken moves takes =
      let has = has_edits r sent made is (sound_before IsHonest history now r sent s) none free in
      record {
        stored = s;
        none = none;
        sound = has.sound;
        are = subst (λ name. AreEditsOf r sent (edits_of given) name) (sym takes) (subst (λ names. AreEditsOf r sent names (name_taken sent)) (sym moves) has.are);
        fit = subst (λ name. CanBeEdited r (edits_of given) name) (sym takes) (subst (λ names. CanBeEdited r names (name_taken sent)) (sym moves) has.fit);
        one_actor = subst HaveOneActor (sym moves) has.one_actor;
      }

  -- ---- what they pass through, and what they leave

  module _ (given : List MovedName) (gone : Option (Bor (List ℕ))) (asked : AskedEdits IsHonest history now r sent given gone) where
    pub may_change : MayChange IsHonest history now.names r (edits_of given) (gone_of gone)
    may_change = record { whole = stand_still IsHonest history now r sent asked.stored; fit = asked.fit; one_actor = asked.one_actor }

    abbrev On : Tree → Tree → Type 0
    On old tree = EditsOnTheWay r.kind (edits_of given) (gone_of gone) old tree

    pub edits_passed : (new : History) → Adds (On (names_tree history now)) (history (names_part now)) new → Adds (HoldsBetween r sent) (history (names_part now)) new
    edits_passed new pass =
        let s = asked.stored in
        let sound = sound_before IsHonest history now r sent s in
        adds_weaker (history (names_part now)) new pass (λ tree may.
        names_pass r sent tree sound asked.none
        (edits_pass r sent (edits_of given) (gone_of gone) (pair_of history s.before) tree sound asked.none s.stood.whole.stands asked.are
        (subst (λ names. On (history names.store.files).tree tree) s.kept.names may)))

    pub names_changed : (new : Names F) → IsHonest new.store.files → new.kind ≡ now.names.kind
        → EditsMade r.kind (edits_of given) (gone_of gone) (names_tree history now) (history new.store.files).tree
        → KeepsRecords new (history new.store.files).tree → HoldNamesOf IsHonest history new (after r sent)
    names_changed new honest kind made records =
        let stand = stand_still IsHonest history now r sent asked.stored in
        record {
          honest = honest;
          holds = edits_stand r sent (edits_of given) (gone_of gone) (names_tree history now) (history new.store.files).tree
              (sound_before IsHonest history now r sent asked.stored) asked.none stand.holds asked.are made;
          apart = asked.sound.whole.names.apart;
          set = names_set (after r sent) asked.sound.whole;
          kind = kind ∙ stand.kind;
          records = records;
        }

-- ---- the other files

apart : (path name : Bytes) → path ≢ name → bytes_eq path name ≡ false
apart path name other = elim (either (bytes_eq path name)) [
  | inl e ↦ absurd (other (same_text path name e))
  | inr e ↦ e
]

none_of_one : (path name : Bytes) → path ≢ name → list_any (bytes_eq path) (name ∷ []) ≡ false
none_of_one path name other = or_from (bytes_eq path name) false (apart path name other) refl

none_of_two : (path a b : Bytes) → path ≢ a → path ≢ b → list_any (bytes_eq path) (a ∷ b ∷ []) ≡ false
none_of_two path a b first second = or_from (bytes_eq path a) (list_any (bytes_eq path) (b ∷ [])) (apart path a first) (none_of_one path b second)

one_alone : (r : plain.Repository) (one : edits.MovedName) (old new : Tree) → EditsMade r.kind (one ∷ []) None old new → ChangesNameAlone one.name old new
one_alone r one old new made = λ path no_name no_log. elim (either (bytes_eq path packed_place)) [
  | inl e ↦ let is = same_text path packed_place e in ap (file_at new) is ∙ made.gone ∙ ap (file_at old) (sym is)
  | inr e ↦ made.others path (none_of_one path one.name no_name) (none_of_one path (log_place one.name) no_log) (λ is. absurd (cc (e, ap (λ p. bytes_eq p packed_place) is)))
]

alone : (r : plain.Repository) (sent : Command) (made : Done) → IsDone r sent made → (old new : Tree) → EditsMade r.kind (names_moved r sent) (name_taken sent) old new → LeavesAsAsked r sent old new
alone r (Commit c) made is old new edits_made = one_alone r (moved_by r (commit_move r c)) old new edits_made
alone r (Tag c) made is old new edits_made = one_alone r (moved_by r (tag_move r c)) old new edits_made
alone r (Move c) made is old new edits_made = tt
alone r (Rename from to) made is old new edits_made =
    λ path a b c d e. edits_made.others path (none_of_two path to from a c) (none_of_two path (log_place to) (log_place from) b d) e
alone r (Delete name at) made is old new edits_made =
    λ path a b c. edits_made.others path (none_of_one path name a) (none_of_one path (log_place name) b) c
alone r sent made is old new edits_made = absurd is

pub edits_alone : (r : plain.Repository) (sent : Command) (made : Done) → IsDone r sent made → (moved : List edits.MovedName) (taken : Option Bytes) → moved ≡ names_moved r sent → taken ≡ name_taken sent
    → (old new : Tree) → EditsMade r.kind moved taken old new → LeavesAsAsked r sent old new
edits_alone r sent made is moved taken moves takes old new h =
    alone r sent made is old new (subst (λ name. EditsMade r.kind (names_moved r sent) name old new) takes (subst (λ names. EditsMade r.kind names taken old new) moves h))
