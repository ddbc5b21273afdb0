-- What a stop leaves while a command's names move.
use Rattle.std.proofs.Common.{◌≡◌, inl, inr, Bool, true, false, cond, not, ◌&&◌, refl, sym, ◌∙◌, ap, subst, Option, Some, None, option_map, is_some, MatchBool}
use Rattle.gix_ref_file.specs.Tree.{Tree}
use Rattle.history_model.specs.Bytes.{Bytes}
use Rattle.history_model.specs.Objects.{StoredFolder}
use Rattle.gix_hash.specs.Id.{Id}
use Rattle.history_model.specs.Repository.{Repository, Reference, IsWhole, id_at, stands, peeled, Values, HaveOwnIds}
use Rattle.history_model.specs.Commands.{Command}
use Rattle.history_model.specs.Meaning.{after, stored_by, takes_id}
use Rattle.history_model.specs.Causes.{first_cause}
use Rattle.history_model.specs.Places.{Pair}
use Rattle.history_model.specs.Recovery.{recovered, recovered_objects, recovered_names}
use Rattle.history_model.specs.StandsFor.{StandsFor, StandsWhole}
use Rattle.history_layout.specs.TreeHalves.{HoldsValues, HoldsNames}
use Rattle.history_model.specs.Stops.{LeftByStop, Between, NameBetween, deletes, made, is_changing}
use Rattle.history_model.specs.Moments.{LeavesStopped}
use Rattle.history_model.specs.laws.Wholeness.{IsSound}
use Rattle.history_layout.specs.Passing.{HoldsBetween, MovingStops, passing}
use Rattle.history_model.specs.declared.Cause.{Cause}
use Rattle.gix_hash.specs.declared.kind.Kind.{Kind}
use Rattle.history_model.proofs.StepLemmas.{stops_may_leave_all}
use Rattle.history_model.proofs.RecoveredLemmas.{recovered_stands}
use Rattle.history_layout.proofs.PassedObjects.{still_holds}
use Rattle.history_layout.proofs.TreePuts.{halves_stand}
use Rattle.history_model.proofs.WholeCommands.{all_fits}
use Rattle.history_model.proofs.WholeGrowth.{grown_whole}
use Rattle.history_model.proofs.WholeNames.{after_whole}
use Rattle.history_model.proofs.WholeReads.{plain_written}
use Rattle.history_model.proofs.WholeSteps.{stops_keep_sound}
use Rattle.history_model.proofs.WholeStored.{accepted_store_exactly}
use Rattle.history_model.proofs.WholeStores.{all_keep}
use Rattle.history_layout.proofs.PassedStops.{held_more}

pub some_id : (o : Option Reference) → is_some (option_map (λ (ref : Reference). ref.id) o) ≡ is_some o
some_id None = refl
some_id (Some ref) = refl

-- ---- a stop

module _ (old : Repository) (command : Command) (pair : Pair) (sound : IsSound old) (changing : is_changing command ≡ true) (none : first_cause old command ≡ None) (free : takes_id old command ≡ false)
    (values : HoldsValues old.kind (recovered_objects pair.objects) (after old command).objects) (held : HoldsBetween old command pair.names) where
  abbrev left_so : Repository
  left_so = passing old command held.names held.branch

  made_is : made old command ≡ after old command
  made_is = ap (λ b. cond b old (after old command)) free

  whole_after : IsWhole (after old command)
  whole_after = after_whole old sound.whole sound.written command none free

  held_id : (name : Bytes) (id : Id) → id_at left_so name ≡ Some id → is_some (peeled left_so id) ≡ true
  held_id name id at = elim ((held.each name).id) [
    | inl e ↦ held_more old left_so (λ q v h. all_keep old.kind old.objects (stored_by old command) q v h) id (((sound.whole).names).held name id (sym e ∙ at))
    | inr e ↦ (whole_after.names).held name id (sym e ∙ at)
  ]

  whole_left : IsWhole left_so
  whole_left = record {
    store = grown_whole old (sound.whole).store (λ q m at. plain_written m (((sound.written).values q (StoredFolder m) at).0)) (stored_by old command) free
        (all_fits old (sound.whole).store sound.written command none) held.names held.branch;
    names = record { held = held_id; apart = held.apart };
  }

  between : Between old command left_so
  between =
      let exactly = (accepted_store_exactly old command sound none free).between in
      record {
        kind = refl;
        stored = record { keeps = exactly.keeps; no_more = exactly.no_more };
        names = λ name. subst (λ m. NameBetween old m left_so (deletes command name) name) (sym made_is) (held.each name);
        branch = elim held.branch_is [ inl e ↦ inl e | inr e ↦ inr (e ∙ ap (λ (m : Repository). m.branch) (sym made_is)) ];
        not_lost = held.not_lost;
      }

  matched : (b : Bool) (o : Option Cause) → b ≡ true → o ≡ None → MatchBool (b && not (is_some o)) (Between old command left_so) (left_so ≡ old)
  matched true None e f = between
  matched true (Some cause) e f = cc
  matched false o e f = cc

  left : LeftByStop old command left_so
  left = (whole_left, matched (is_changing command) (first_cause old command) changing none)

  stopped : LeavesStopped old command pair
  stopped = (
    left_so,
    left,
    record {
      stands = (halves_stand old.kind (recovered old.kind pair) left_so).1 (refl, values, held.holds);
      written = (stops_keep_sound old left_so command left sound).written;
      whole = whole_left;
    },
  )

pub moving_stops : MovingStops
moving_stops old command pair sound changing none free values held = stopped old command pair sound changing none free values held

-- ---- files as before the command

-- a stop before any change leaves all as it was
pub nothing_stops : (old : Repository) (command : Command) (pair : Pair) → StandsWhole old.kind pair old → LeavesStopped old command pair
nothing_stops old command pair h = (old, stops_may_leave_all old command h.whole, record { stands = recovered_stands old.kind pair old h.stands; written = h.written; whole = h.whole })

pub names_recover : (r : Repository) (pair : Pair) → StandsFor r.kind pair r → HoldsNames (recovered_names r.kind pair.names) r
names_recover r pair s = ((halves_stand r.kind (recovered r.kind pair) r).0 (recovered_stands r.kind pair r s)).2

pub values_recover : (kind : Kind) (tree : Tree) (values : Values) → HaveOwnIds kind values → HoldsValues kind tree values → HoldsValues kind (recovered_objects tree) values
values_recover kind tree values own h = still_holds tree kind tree values own h (λ path away. refl) h.folders
