-- A step leaves a whole repository in written form so, and a stop does.
use Rattle.std.proofs.Common.{◌≡◌, zero, suc, Bool, true, false, cond, not, ◌&&◌, List, [], ◌∷◌, refl, sym, ◌∙◌, ap, subst, arith, inl, inr, Option, Some, None, is_some, option_map, unwrap_or, Contains, MatchBool}
use Rattle.std.specs.List.{list_all}
use Rattle.std.specs.FinMap.{get}
use Rattle.history_model.specs.Bytes.{Bytes}
use Rattle.gix_hash.specs.Id.{Id}
use Rattle.history_model.specs.Repository.{Repository, Reference, IsWhole, id_at, moves_at}
use Rattle.history_model.specs.Forms.{IsWritten, IsWrittenValue, is_id, is_name, is_private, is_branch, is_reference, is_log_entry}
use Rattle.history_model.specs.Commands.{Command}
use Rattle.history_model.specs.Replies.{Reply, RefusedFor, Faulted}
use Rattle.history_model.specs.Meaning.{after, stored_by, takes_id}
use Rattle.history_model.specs.Causes.{first_cause}
use Rattle.history_model.specs.Stops.{LeftByStop, Between, made, is_changing}
use Rattle.history_model.specs.Steps.{Accepts}
use Rattle.history_model.specs.laws.Wholeness.{IsSound, StepsKeepSound, SequencesKeepSound, StopsKeepSound}
use Rattle.history_model.specs.declared.Cause.{Cause}
use Rattle.history_model.proofs.WholeLists.{In, none_is_some}
use Rattle.history_model.proofs.WholeNames.{after_whole}
use Rattle.history_model.proofs.WholeForms.{after_written, stored_formed, moves_formed, name_parts}
use Rattle.std.proofs.lemmas.Bool.{and_from, and_parts}
use Rattle.std.proofs.lemmas.Option.{same_Some}

pub contains_in : {X : Type 0} (xs : List X) (x : X) → Contains xs x → In x xs
contains_in [] x (k, less, at) = absurd (omega arith)
contains_in (y ∷ xs) x (zero, less, at) = inl (sym at)
contains_in (y ∷ xs) x (suc k, less, at) = inr (contains_in xs x (k, omega arith, at))

pub in_contains : {X : Type 0} (xs : List X) (x : X) → In x xs → Contains xs x
in_contains [] x i = absurd i
in_contains (y ∷ xs) x (inl e) = (zero, omega arith, sym e)
in_contains (y ∷ xs) x (inr i) = let rest = in_contains xs x i in (suc rest.0, omega arith, rest.2)

-- the repository that a command makes
made_written : (old : Repository) (command : Command) → IsWhole old → IsWritten old → first_cause old command ≡ None → IsWritten (made old command)
made_written old command whole written none = go (takes_id old command)
  where
    go : (b : Bool) → IsWritten (cond b old (after old command))
    go true = written
    go false = after_written old whole written command none

made_kind : (old : Repository) (command : Command) → (made old command).kind ≡ old.kind
made_kind old command = go (takes_id old command)
  where
    go : (b : Bool) → (cond b old (after old command)).kind ≡ old.kind
    go true = refl
    go false = refl

-- a name that holds an id has its form, and the id too
holds_formed : (r : Repository) → IsWritten r → (name : Bytes) (id : Id) → id_at r name ≡ Some id → ((is_name name && not (is_private name)) ≡ true) × (is_id r.kind id ≡ true)
holds_formed r written name id at = go (get r.names name) refl at
  where
    go : (o : Option Reference) → get r.names name ≡ o → option_map (λ (ref : Reference). ref.id) o ≡ Some id → ((is_name name && not (is_private name)) ≡ true) × (is_id r.kind id ≡ true)
    go None e k = none_is_some id k
    go (Some ref) e k =
        let parts = name_parts r written name ref e in
        (parts.0, subst (λ q. is_id r.kind q ≡ true) (same_Some ref.id id k) (and_parts (is_id r.kind ref.id) (list_all (is_log_entry r.kind) ref.moves) parts.1).0)

between_written : (old : Repository) (command : Command) (x : Repository) → IsWhole old → IsWritten old → first_cause old command ≡ None → Between old command x → IsWritten x
between_written old command x whole written none between = record {
  branch = elim between.branch [
    | inl e ↦ subst (λ b. is_branch b ≡ true) (sym e) written.branch
    | inr e ↦ subst (λ b. is_branch b ≡ true) (sym e) new_written.branch
  ];
  names = λ name ref at.
      and_from (is_name name && not (is_private name)) (is_reference x.kind ref) (held name ref at).0
      (and_from (is_id x.kind ref.id) (list_all (is_log_entry x.kind) ref.moves) (subst (λ k. is_id k ref.id ≡ true) (sym between.kind) (held name ref at).1) (subst (λ k. list_all (is_log_entry k) ref.moves ≡ true) (sym between.kind) (moved name ref at)));
  values = λ id value at. subst (λ k. IsWrittenValue k value) (sym between.kind) (elim ((between.stored).no_more id value at) [
    | inl e ↦ written.values id value e
    | inr c ↦ stored_formed old whole written command none value (contains_in (stored_by old command) value c)
  ]);
}
  where
    new : Repository
    new = made old command

    new_written : IsWritten new
    new_written = made_written old command whole written none

    held : (name : Bytes) (ref : Reference) → get x.names name ≡ Some ref → ((is_name name && not (is_private name)) ≡ true) × (is_id old.kind ref.id ≡ true)
    held name ref at = elim ((between.names name).id) [
      | inl e ↦ holds_formed old written name ref.id (sym e ∙ ap (option_map (λ (r : Reference). r.id)) at)
      | inr e ↦
          let formed = holds_formed new new_written name ref.id (sym e ∙ ap (option_map (λ (r : Reference). r.id)) at) in
          (formed.0, subst (λ k. is_id k ref.id ≡ true) (made_kind old command) formed.1)
    ]

    moved : (name : Bytes) (ref : Reference) → get x.names name ≡ Some ref → list_all (is_log_entry old.kind) ref.moves ≡ true
    moved name ref at =
        subst (λ moves. list_all (is_log_entry old.kind) moves ≡ true) (ap (λ o. unwrap_or (option_map (λ (r : Reference). r.moves) o) []) at) (elim ((between.names name).moves) [
          | inl e ↦ subst (λ moves. list_all (is_log_entry old.kind) moves ≡ true) (sym e) (moves_formed old written name)
          | inr (inl e) ↦ subst (λ moves. list_all (is_log_entry old.kind) moves ≡ true) (sym e) (subst (λ k. list_all (is_log_entry k) (moves_at new name) ≡ true) (made_kind old command) (moves_formed new new_written name))
          | inr (inr e) ↦ subst (λ moves. list_all (is_log_entry old.kind) moves ≡ true) (sym e.1) refl
        ])

pub stops_keep_sound : StopsKeepSound
stops_keep_sound old x command left sound = record { whole = left.0; written = go (is_changing command) (first_cause old command) refl left.1 }
  where
    go : (b : Bool) (o : Option Cause) → first_cause old command ≡ o → MatchBool (b && not (is_some o)) (Between old command x) (x ≡ old) → IsWritten x
    go true None e between = between_written old command x sound.whole sound.written e between
    go true (Some cause) e same = subst IsWritten (sym same) sound.written
    go false o e same = subst IsWritten (sym same) sound.written

accepted : (old new : Repository) (command : Command) (reply : Reply) → Accepts old command reply new → IsSound old → IsSound new
accepted old new command reply h sound = subst IsSound (sym h.result) (record {
  whole = after_whole old sound.whole sound.written command h.no_cause h.not_taken;
  written = after_written old sound.whole sound.written command h.no_cause;
})

pub steps_keep_sound : StepsKeepSound
steps_keep_sound old new command (RefusedFor cause) step sound = subst IsSound (sym step.1) sound
steps_keep_sound old new command (Faulted fault) step sound = go (is_changing command) step.1
  where
    go : (b : Bool) → MatchBool b (LeftByStop old command new) (new ≡ old) → IsSound new
    go true left = stops_keep_sound old new command left sound
    go false same = subst IsSound (sym same) sound
steps_keep_sound old new command reply step sound = accepted old new command reply step sound

pub sequences_keep_sound : SequencesKeepSound
sequences_keep_sound old new [] [] steps sound = subst IsSound (sym steps) sound
sequences_keep_sound old new [] (reply ∷ replies) steps sound = absurd steps
sequences_keep_sound old new (command ∷ commands) [] steps sound = absurd steps
sequences_keep_sound old new (command ∷ commands) (reply ∷ replies) (mid, step, on, more) sound =
    sequences_keep_sound mid new commands replies more (steps_keep_sound old mid command reply step sound)
