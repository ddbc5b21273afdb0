-- What a rename leaves of its two names.
use Rattle.std.proofs.Common.{◌≡◌, inl, inr, Bool, true, false, cond, not, ◌&&◌, [], ◌∷◌, refl, ◌∙◌, ap, Option, Some, None, option_map, is_some, unwrap_or, bytes_eq, codes}
use Rattle.std.specs.FinMap.{get, remove, get-remove}
use Rattle.std.proofs.lemmas.Cmp.{nat_list_cmp_total}
use Rattle.std.proofs.lemmas.Map.Text.{is_eq-slice_cmp}
use Rattle.std.proofs.lemmas.Bool.{and_parts}
use Rattle.gix_hash.specs.Id.{Id, null_id}
use Rattle.history_model.specs.Bytes.{Bytes}
use Rattle.history_model.specs.Repository.{Repository, Reference, id_at, stands}
use Rattle.history_model.specs.Forms.{is_name, is_private, is_reference}
use Rattle.history_model.specs.Commands.{Rename}
use Rattle.history_model.specs.Meaning.{References, after, history_actor, moved_reference}
use Rattle.history_model.specs.Causes.{first_cause}
use Rattle.history_model.specs.declared.Cause.TheVariants.{NameTwice, NoSuchName}
use Rattle.history_model.specs.laws.Wholeness.{IsSound}
use Rattle.history_layout.specs.RenameSteps.{held_id}
use Rattle.history_model.proofs.AfterFirstLemmas.{get-with}
use Rattle.history_model.proofs.RecoveredLemmas.{some_is}
use Rattle.history_model.proofs.WholeLists.{none_passes, text_itself}
use Rattle.history_model.proofs.WholeReads.{no_cause}

abbrev id_in : Option Reference → Option Id
id_in o = option_map (λ (ref : Reference). ref.id) o

pub not_false : (b : Bool) → not b ≡ false → b ≡ true
not_false true e = refl
not_false false e = cc

kept_id : (none : Id) (o : Option Reference) → is_some o ≡ true → id_in o ≡ Some (unwrap_or (id_in o) none)
kept_id none None e = cc
kept_id none (Some ref) e = refl

-- ---- the names on the way, and after it

module _ (r : Repository) (from to : Bytes) (sound : IsSound r) (none : first_cause r (Rename from to) ≡ None) where
  abbrev id : Id
  id = held_id r from

  abbrev made : Reference
  made = moved_reference r to id history_actor (codes "rename")

  abbrev new : Repository
  new = after r (Rename from to)

  pub differ : bytes_eq from to ≡ false
  differ = no_cause r (Rename from to) none NameTwice (inr (inr (inl refl)))

  stood : stands r from ≡ true
  stood = not_false (stands r from) (none_passes (λ name. not (stands r name)) (from ∷ []) (no_cause r (Rename from to) none NoSuchName (inr (inr (inr (inr (inr (inr (inr (inl refl))))))))) from (inl refl))

  pub held : id_at r from ≡ Some id
  held = kept_id (null_id r.kind) (get r.names from) stood

  get_removed : (names : References) (q : Bytes) → get (remove names from) q ≡ cond (bytes_eq q from) None (get names q)
  get_removed names q = get-remove nat_list_cmp_total names from q ∙ ap (λ b. cond b None (get names q)) (is_eq-slice_cmp q from)

  pub get_new : (q : Bytes) → get new.names q ≡ cond (bytes_eq q to) (Some made) (cond (bytes_eq q from) None (get r.names q))
  get_new q = get-with (remove r.names from) to made q ∙ ap (λ o. cond (bytes_eq q to) (Some made) o) (get_removed r.names q)

  pub made_new : get new.names to ≡ Some made
  made_new = get_new to ∙ ap (λ b. cond b (Some made) (cond (bytes_eq to from) None (get r.names to))) (text_itself to)

  -- ---- forms

  named : (q : Bytes) → stands r q ≡ true → is_name q ≡ true
  named q there =
      let ref = some_is (get r.names q) there in
      (and_parts (is_name q) (not (is_private q)) (and_parts (is_name q && not (is_private q)) (is_reference r.kind ref.0) ((sound.written).names q ref.0 ref.1)).0).0

  pub from_named : is_name from ≡ true
  from_named = named from stood
