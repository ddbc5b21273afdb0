-- Whether a name may exist beside the others, by what the names above and below it read as.
use Rattle.std.proofs.Common.{◌≡◌, ◌⊎◌, inl, inr, Bool, true, false, not, refl, sym, ◌∙◌, ap, subst, None, is_some}
use Rattle.std.specs.FinMap.{keys, contains_key}
use Rattle.gix_ref_file.specs.History.{History}
use Rattle.gix_ref_file.specs.Tree.{Tree}
use Rattle.history_model.specs.Bytes.{Bytes}
use Rattle.history_model.specs.FileMap.{is_below}
use Rattle.history_model.specs.Repository.{stands}
use Rattle.history_model.specs.Forms.{is_name}
use Rattle.history_model.specs.Causes.{do_collide}
use Rattle.history_layout.proofs.OfferedFiles.{all_keys}
use Rattle.gix_ref_way.specs.Ways.{IsAbove}
use Rattle.history_store.specs.AllNames.{TellsMeeting}
use Rattle.history_repository.specs.Face.{names_part}
use Rattle.history_repository.specs.Stands.{Stands, pair_of}
use Rattle.history_store.specs.Packing.{id_read}
use Rattle.history_repository.specs.declared.repository.Repository.{Repository}
use Rattle.std.specs.List.{list_any}
use Rattle.history_plans.proofs.Collisions.{above_it, apart_free, is_below_it, new_collides, none_any, one_collides}
use Rattle.history_repository.proofs.NameReads.{stands_held, state_told}
use Rattle.std.proofs.lemmas.Bool.{or_from, or_parts}
use Rattle.history_model.specs.Repository as plain

-- ---- a repository with its files

module _ {F : Type 0} (IsHonest : F → Type 0) (history : F → History) (repository : Repository F) (r : plain.Repository) (stand : Stands IsHonest history repository r) (name : Bytes) (formed : is_name name ≡ true) where
  abbrev tree : Tree
  tree = (history (names_part repository)).tree

  -- a name exists if an id is read for it
  read_there : (other : Bytes) → is_some (id_read r.kind tree other) ≡ stands r other
  read_there other = ap is_some (state_told (pair_of history repository) r stand.whole.stands other) ∙ sym (stands_held r other)

  -- a name in the way is one of the repository's
  in_the_way : TellsMeeting r.kind name tree true → list_any (do_collide name) (keys r.names) ≡ true
  in_the_way (other, beside, there) = go (list_any (do_collide name) (keys r.names)) refl
    where
      met : {A : Type 0} → do_collide name other ≡ false → (IsAbove other name ⊎ IsAbove name other) → A
      met apart (inl above) = absurd (cc ((or_parts (is_below name other) (is_below other name) apart).1, is_below_it other name above))
      met apart (inr below) = absurd (cc ((or_parts (is_below name other) (is_below other name) apart).0, is_below_it name other below))

      go : (b : Bool) → list_any (do_collide name) (keys r.names) ≡ b → list_any (do_collide name) (keys r.names) ≡ true
      go true is = is
      go false is = met (apart_free r name is other (sym (read_there other) ∙ there)) beside

  -- if there is none, none of the repository's collides
  clear_way : TellsMeeting r.kind name tree false → list_any (do_collide name) (keys r.names) ≡ false
  clear_way clear = none_any (do_collide name) (keys r.names) (all_keys (λ k. not (do_collide name k)) r.names (λ k there. ap not (apart k there)))
    where
      reads_none : {A : Type 0} (k : Bytes) → contains_key r.names k ≡ true → id_read r.kind tree k ≡ None → A
      reads_none k there none = absurd (cc (sym (read_there k ∙ there) ∙ ap is_some none))

      apart : (k : Bytes) → contains_key r.names k ≡ true → do_collide name k ≡ false
      apart k there = or_from _ _ (below (is_below name k) refl) (above (is_below k name) refl)
        where
          below : (b : Bool) → is_below name k ≡ b → is_below name k ≡ false
          below false is = is
          below true is = reads_none k there (clear k (inr (above_it name k is)))

          above : (b : Bool) → is_below k name ≡ b → is_below k name ≡ false
          above false is = is
          above true is = reads_none k there (clear k (inl (above_it k name is)))

  told_so : (found : Bool) → TellsMeeting r.kind name tree found → list_any (do_collide name) (keys r.names) ≡ found
  told_so true told = in_the_way told
  told_so false told = clear_way told

  pub collision_told : (found : Bool) → TellsMeeting repository.names.kind name tree found → list_any (do_collide name) (keys r.names) ≡ found
  collision_told found told = told_so found (subst (λ kind. TellsMeeting kind name tree found) stand.names_kind told)

-- of a name that a command is to make
module _ {F : Type 0} (IsHonest : F → Type 0) (history : F → History) (repository : Repository F) (r : plain.Repository) (stand : Stands IsHonest history repository r) (name : Bytes)
    (formed : is_name name ≡ true) (new : stands r name ≡ false) where
  pub place_collides : (found : Bool) → TellsMeeting repository.names.kind name (history (names_part repository)).tree found → one_collides r name ≡ found
  place_collides found told = new_collides r name new ∙ collision_told IsHonest history repository r stand name formed found told
