-- What a `rename` is refused for, and how its new name is made.
use Rattle.std.proofs.Common.{◌≡◌, inl, inr, Bool, true, false, cond, not, ◌||◌, List, [], ◌∷◌, refl, sym, ◌∙◌, ap, subst, Option, Some, None, option_map, is_some, bytes_eq}
use Rattle.std.specs.Prelude.{Result, Err}
use Rattle.std.specs.List.{list_any}
use Rattle.std.specs.FinMap.{get, keys}
use Rattle.gix_hash.specs.Id.{Id, id_of}
use Rattle.gix_hash.specs.declared.object_id.ObjectId.{ObjectId}
use Rattle.gix_ref_file.specs.History.{History}
use Rattle.history_model.specs.Bytes.{Bytes}
use Rattle.history_model.specs.Repository.{Reference, id_at, stands}
use Rattle.history_model.specs.Forms.{is_name, is_private}
use Rattle.history_model.specs.Commands.{Rename}
use Rattle.history_model.specs.Causes.{do_collide, first_cause, some_collide}
use Rattle.history_model.specs.declared.Cause.{Cause}
use Rattle.history_model.specs.declared.Cause.TheVariants.{BadName, PrivateName, NameTwice, NoSuchName, Taken, Collides}
use Rattle.history_model.proofs.WholeLists.{none_passes}
use Rattle.history_model.proofs.WholeReads.{no_cause}
use Rattle.history_store.specs.Packing.{NameReads}
use Rattle.history_repository.specs.Face.{names_part}
use Rattle.history_plans.specs.Moving.{names_cause}
use Rattle.history_plans.specs.Renaming.{PlansRename, TestsRename}
use Rattle.history_repository.specs.Stands.{Stands}
use Rattle.history_store.specs.declared.changing.MovedName.{MovedName}
use Rattle.history_repository.specs.declared.repository.Repository.{Repository}
use Rattle.history_repository.specs.declared.stopped.Stopped.{Stopped}
use Rattle.history_repository.specs.declared.stopped.Stopped.TheVariants.{Refused, Fault}
use Rattle.history_plans.proofs.Collisions.{new_collides}
use Rattle.history_plans.proofs.LineLemmas.{all_named}
use Rattle.history_repository.proofs.NameReads.{held}
use Rattle.history_repository.proofs.WordReads.{stands_so}
use Rattle.history_model.specs.Repository as plain

-- ---- the causes that the names and the files give

-- the causes that the names give by themselves come first
told_by : Option Cause → (stood taken collides : Bool) → Option Cause
told_by (Some cause) stood taken collides = Some cause
told_by None stood taken collides = cond (not stood) (Some NoSuchName) (cond taken (Some Taken) (cond collides (Some Collides) None))

module _ (r : plain.Repository) (from to : Bytes) where
  abbrev names : List Bytes
  names = from ∷ to ∷ []

  first_told : first_cause r (Rename from to) ≡ told_by (names_cause names) (stands r from) (stands r to) (some_collide r (Rename from to))
  unfolding told_by
  first_told = go (list_any (λ name. not (is_name name)) names) (list_any is_private names) (bytes_eq from to) (stands r from) (stands r to) (some_collide r (Rename from to))
    where
      go : (bad private twice stood taken collides : Bool)
          → cond (bad || false) (Some BadName) (cond private (Some PrivateName) (cond twice (Some NameTwice) (cond (not stood || false) (Some NoSuchName) (cond (taken || false) (Some Taken) (cond collides (Some Collides) None)))))
          ≡ told_by (cond bad (Some BadName) (cond private (Some PrivateName) (cond ((twice || false) || (false || false)) (Some NameTwice) None))) stood taken collides
      go true private twice stood taken collides = refl
      go false true twice stood taken collides = refl
      go false false true stood taken collides = refl
      go false false false true true collides = refl
      go false false false true false collides = refl
      go false false false false taken collides = refl

  pub by_names : (cause : Cause) → names_cause names ≡ Some cause → first_cause r (Rename from to) ≡ Some cause
  unfolding told_by
  by_names cause e = first_told ∙ ap (λ o. told_by o (stands r from) (stands r to) (some_collide r (Rename from to))) e

  module _ (named : names_cause names ≡ None) where
    pub are_named : (is_name from ≡ true) × (is_name to ≡ true)
    are_named = go (is_name from) (is_name to) (all_named names named)
      where
        go : (a b : Bool) → (not a || (not b || false)) ≡ false → (a ≡ true) × (b ≡ true)
        go true true e = (refl, refl)
        go true false e = cc
        go false b e = cc

    past_names : first_cause r (Rename from to) ≡ told_by None (stands r from) (stands r to) (some_collide r (Rename from to))
    past_names = first_told ∙ ap (λ o. told_by o (stands r from) (stands r to) (some_collide r (Rename from to))) named

    pub by_missing : id_at r from ≡ None → first_cause r (Rename from to) ≡ Some NoSuchName
    unfolding told_by
    by_missing e = past_names ∙ ap (λ s. told_by None s (stands r to) (some_collide r (Rename from to))) (stands_so r from None e)

    module _ (there : is_some (id_at r from) ≡ true) where
      past_old : first_cause r (Rename from to) ≡ cond (stands r to) (Some Taken) (cond (some_collide r (Rename from to)) (Some Collides) None)
      unfolding told_by
      past_old = past_names ∙ ap (λ s. told_by None s (stands r to) (some_collide r (Rename from to))) (stands_so r from (id_at r from) refl ∙ there)

      pub by_taken : is_some (id_at r to) ≡ true → first_cause r (Rename from to) ≡ Some Taken
      by_taken e = past_old ∙ ap (λ s. cond s (Some Taken) (cond (some_collide r (Rename from to)) (Some Collides) None)) (stands_so r to (id_at r to) refl ∙ e)

      -- the new name doesn't exist, and collides or doesn't
      pub by_place : id_at r to ≡ None → (found : Bool) → list_any (do_collide to) (keys r.names) ≡ found → first_cause r (Rename from to) ≡ cond found (Some Collides) None
      by_place e found told =
          let free = stands_so r to None e in
          past_old ∙ ap (λ s. cond s (Some Taken) (cond (some_collide r (Rename from to)) (Some Collides) None)) free
          ∙ ap (λ b. cond b (Some Collides) None) (new_collides r to free ∙ told)

-- what is read of a name is what it holds
module _ {F : Type 0} (IsHonest : F → Type 0) (history : F → History) (old : Repository F) (r : plain.Repository) (h : Stands IsHonest history old r) where
  pub held_at : (name path : Bytes) → path ≡ name → is_name name ≡ true → (found : Option ObjectId) → NameReads old.names.kind (history (names_part old)).tree path found → id_at r name ≡ option_map id_of found
  held_at name path same formed found tells =
      ap (id_at r) (sym same) ∙ sym (held IsHonest history old r h path found tells)

-- a name exists if an id was found for it
pub stands_told : (held : Option Id) (found : Option ObjectId) → held ≡ option_map id_of found → is_some found ≡ true → is_some held ≡ true
stands_told held None e there = cc
stands_told held (Some id) e there = ap is_some e

pub free_told : (held : Option Id) (found : Option ObjectId) → held ≡ option_map id_of found → is_some found ≡ false → held ≡ None
free_told held None e none = e
free_told held (Some id) e none = cc

-- ---- what is reported

pub refusal_told : (MayFail : Type 0) (r : plain.Repository) (from to : Bytes) (ends : Result ObjectId Stopped) (cause : Cause) → ends ≡ Err (Refused cause) → first_cause r (Rename from to) ≡ Some cause → TestsRename MayFail r from to ends
refusal_told MayFail r from to ends cause is_end first = subst (TestsRename MayFail r from to) (sym is_end) first

pub test_stopped : (MayFail : Type 0) (r : plain.Repository) (from to : Bytes) (result : Result ObjectId Stopped) (ends : Result MovedName Stopped) (stopped : Stopped) → result ≡ Err stopped → ends ≡ Err stopped → TestsRename MayFail r from to result → PlansRename MayFail r from to ends
test_stopped MayFail r from to result ends stopped was is_end h = subst (PlansRename MayFail r from to) (sym is_end) (by_case stopped (subst (TestsRename MayFail r from to) was h))
  where
    by_case : (stopped : Stopped) → TestsRename MayFail r from to (Err stopped) → PlansRename MayFail r from to (Err stopped)
    by_case (Refused cause) k = k
    by_case (Fault fault) k = k

-- ---- the entry

-- and the new one doesn't
pub is_free : (r : plain.Repository) (from to : Bytes) → first_cause r (Rename from to) ≡ None → id_at r to ≡ None
is_free r from to none = go (get r.names to) (none_passes (stands r) (to ∷ []) (no_cause r (Rename from to) none Taken (inr (inr (inr (inr (inr (inr (inr (inr (inl refl)))))))))) to (inl refl))
  where
    go : (o : Option Reference) → is_some o ≡ false → option_map (λ (ref : Reference). ref.id) o ≡ None
    go None e = refl
    go (Some ref) e = cc
