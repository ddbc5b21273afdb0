-- What a run and a recovery made, as a round.
use Rattle.std.proofs.Common.{◌≡◌, ◌⊎◌, ℕ, ◌≤◌, Bool, false, List, [], ◌∷◌, Option, Some, None, Result, refl, sym, ◌∙◌, ap, ap₂, subst, inl, inr}
use Rattle.gix_ref_file.specs.Tree.{Tree}
use Rattle.gix_ref_file.specs.Calls.{HasFault}
use Rattle.gix_ref_file.specs.History.{History, Adds, HasRisen, moment}
use Rattle.gix_hash.specs.declared.kind.Kind.{Kind}
use Rattle.history_model.specs.Bytes.{Bytes}
use Rattle.history_model.specs.Commands.{Command}
use Rattle.history_model.specs.Replies.{Reply}
use Rattle.history_model.specs.Places.{Pair}
use Rattle.history_model.specs.Recovery.{recovered}
use Rattle.history_model.specs.Steps.{some_failed}
use Rattle.history_model.specs.StandsFor.{StandsWhole}
use Rattle.history_model.specs.Moments.{Moment, GoesOnFrom, Traces}
use Rattle.history_model.specs.Rounds.{Round, IsLast, IsLeft, IsRound, WritesReplies}
use Rattle.history_model.specs.laws.Joining.{GoesOnAt}
use Rattle.history_model.specs.Joined.{pair_now}
use Rattle.history_model.proofs.FailureLemmas.{traces_weaken}
use Rattle.history_model.proofs.Joining.{begins_there, now_at, of_each, stops_make_rounds}
use Rattle.history_repository.specs.Face.{has_failed, names_part, objects_part}
use Rattle.history_repository.specs.declared.repository.Repository.{Repository}
use Rattle.gix_ref_file.specs.declared.files.Files.{Ghosts}
use Rattle.history.specs.Runs.{CountsFailure, EndsRun}
use Rattle.history.specs.Calls.{KeepsBoth, KeepsHonesty}
use Rattle.history.specs.Moments.{GoesLater, IsTraced, moment_of}
use Rattle.history.specs.NameFiles.{AllLeaveAsSaid}
use Rattle.history.specs.declared.running.RunError.{RunError}
use Rattle.history.proofs.Counts.{risen_before, risen_later}
use Rattle.history_model.specs.declared.End.{End}
use Rattle.history_repository.specs.Opened.{trees_of}
use Rattle.history_model.specs.Repository as plain
use Rattle.history_rounds.specs.Joined.{IsRoundOver}
use Rattle.history_rounds.proofs.Ends.{ends_failed, ends_told, ends_written}

pub grown : {P : Tree → Type 0} (old new : History) → Adds P old new → GoesOnFrom old new
grown old new adds = (adds.during, adds.added)

module _ {F : Type 0} (files : Ghosts F) (Reports : Type 0) (opened ended : Repository F) (objects names left_objects left_names : F) (same_objects : objects_part opened ≡ objects) (same_names : names_part opened ≡ names)
    (keeps : KeepsBoth files Reports opened ended) (is_objects : left_objects ≡ objects_part ended) (is_names : left_names ≡ names_part ended) where
  -- the parts that a run left keep honesty
  left_kept : KeepsHonesty files Reports objects left_objects × KeepsHonesty files Reports names left_names
  left_kept = (
    subst (λ o. KeepsHonesty files Reports o left_objects) same_objects (subst (KeepsHonesty files Reports (objects_part opened)) (sym is_objects) keeps.objects),
    subst (λ n. KeepsHonesty files Reports n left_names) same_names (subst (KeepsHonesty files Reports (names_part opened)) (sym is_names) keeps.names),
  )

  pub still_honest : files.is_honest objects → files.is_honest names → files.is_honest left_objects × files.is_honest left_names
  still_honest o n = (left_kept.0.honest o, left_kept.1.honest n)

  -- a call that failed in the recovery has failed in the round
  pub failed_recovering : (then_objects then_names : F) → HasFault files.failures files.reading_may_fail left_objects then_objects ⊎ HasFault files.failures files.reading_may_fail left_names then_names
      → HasRisen (files.failures objects) (files.failures then_objects) ⊎ HasRisen (files.failures names) (files.failures then_names) ⊎ files.reading_may_fail
  failed_recovering then_objects then_names (inl (inl h)) = inl (risen_before _ (files.failures left_objects) _ left_kept.0.later h)
  failed_recovering then_objects then_names (inr (inl h)) = inr (inl (risen_before _ (files.failures left_names) _ left_kept.1.later h))
  failed_recovering then_objects then_names (inl (inr may)) = inr (inr may)
  failed_recovering then_objects then_names (inr (inr may)) = inr (inr may)

-- ---- by histories

module _ (MayFail : Type 0) (kind : Kind) (old_objects old_names objects names : History) (begin finish : Moment) (old new : plain.Repository) (commands : List Command) (replies : List Reply) (read written : Bytes)
    (on : GoesOnAt old_objects old_names objects names begin) (whole : StandsWhole kind (pair_now old_objects old_names) old) (wrote : WritesReplies read commands replies written)
    (traces : Traces objects names MayFail old begin commands replies finish new) (at_objects : finish.objects ≡ moment objects) (at_names : finish.names ≡ moment names) where
  a_round : Option (List Pair) → Pair → Round
  a_round recoveries left = record {
    objects = objects;
    names = names;
    begin = begin;
    input = read;
    replies = replies;
    written = written;
    last = pair_now objects names;
    recoveries = recoveries;
    left = left;
  }

  made : (recoveries : Option (List Pair)) (left : Pair) → IsLast recoveries (some_failed commands replies) objects names new finish wrote.0 (pair_now objects names)
      → IsLeft kind (pair_now objects names) recoveries left → IsRound kind (pair_now old_objects old_names) (a_round recoveries left)
  unfolding a_round
  made recoveries left last leaves = record {
    begins = begins_there old_objects old_names objects names begin on;
    runs = of_each kind (pair_now old_objects old_names) old (a_round recoveries left) whole (record {
      commands = commands;
      rest = wrote.0;
      at = finish;
      mid = new;
      splits = wrote.1;
      traces = (traces_weaken MayFail objects names old begin commands replies finish new traces).0;
      written = wrote.2;
      last = last;
    });
    leaves = leaves;
  }

  module _ (Reads Writes : Bytes → Type 0) (Ends : plain.Repository → List Command → List Reply → Bytes → Bytes → Bool → plain.Repository → Type 0) (reads : Reads read) (writes : Writes written)
      (failed : Bool) (ends : Ends old commands replies read written failed new) (packs : AllLeaveAsSaid names old begin commands replies traces.moments)
      (then_objects then_names : History) (own : GoesOnFrom objects then_objects × GoesOnFrom names then_names) where
    over : (recoveries : Option (List Pair)) (left : Pair) → IsRound kind (pair_now old_objects old_names) (a_round recoveries left)
        → IsRoundOver kind old_objects old_names old Reads Writes Ends then_objects then_names left
    unfolding a_round
    over recoveries left is = record {
      round = a_round recoveries left;
      is_round = is;
      reads = reads;
      writes = writes;
      leaves = refl;
      commands = commands;
      failed = failed;
      new = new;
      ends = ends;
      moments = traces.moments;
      covers = (ap (λ (m : Moment). m.objects) traces.ends ∙ at_objects, ap (λ (m : Moment). m.names) traces.ends ∙ at_names);
      files = packs;
      own = own;
      begins_at = (on.objects_at, on.names_at);
      stops = λ stop here. stops_make_rounds MayFail kind old_objects old_names objects names begin finish old new commands replies read wrote.0 on whole wrote.1 traces stop here;
    }

    -- what stayed as it was
    pub stays : some_failed commands replies ≡ false → (left : Pair) → left ≡ pair_now objects names → IsRoundOver kind old_objects old_names old Reads Writes Ends then_objects then_names left
    stays unfailed left same = over None left (made None left (unfailed, (now_at objects finish.objects at_objects, now_at names finish.names at_names)) same)

    -- what was recovered
    pub recovers : (left : Pair) → left ≡ recovered kind (pair_now objects names) → IsRoundOver kind old_objects old_names old Reads Writes Ends then_objects then_names left
    recovers left is = over (Some []) left (made (Some []) left (inl (now_at objects finish.objects at_objects, now_at names finish.names at_names)) is)

    -- what was recovered in part, recovered anew
    pub recovers_anew : (part left : Pair) → recovered kind part ≡ recovered kind (pair_now objects names) → left ≡ recovered kind part → IsRoundOver kind old_objects old_names old Reads Writes Ends then_objects then_names left
    recovers_anew part left alike is =
        over (Some (part ∷ [])) left (made (Some (part ∷ [])) left (inl (now_at objects finish.objects at_objects, now_at names finish.names at_names)) (alike, is))

-- ---- by files

module _ {F : Type 0} (history : F → History) (failures : F → ℕ) (MayFail : Type 0) (kind : Kind) (objects names : F) (opened ended : Repository F) (same_objects : objects_part opened ≡ objects) (same_names : names_part opened ≡ names)
    (r new : plain.Repository) (commands : List Command) (replies : List Reply) (read written : Bytes) (whole : StandsWhole kind (trees_of history objects names) r) (later : GoesLater history failures opened ended)
    (AtEnd Last : Type 0) (result : Result End RunError) (ends : EndsRun AtEnd Last (CountsFailure failures MayFail opened ended) r commands replies read written result (has_failed ended) new)
    (traced : IsTraced history failures MayFail opened ended r commands replies new) (Reads Writes : Bytes → Type 0) (reads : Reads read) (writes : Writes written) where
  on : GoesOnAt (history objects) (history names) (history (objects_part ended)) (history (names_part ended)) (moment_of history failures opened)
  on = record {
    objects_on = subst (λ o. GoesOnFrom (history o) (history (objects_part ended))) same_objects later.2;
    names_on = subst (λ n. GoesOnFrom (history n) (history (names_part ended))) same_names later.3;
    objects_at = ap (λ o. moment (history o)) same_objects;
    names_at = ap (λ n. moment (history n)) same_names;
  }

  -- the parts that the run left, and what came of them
  module _ (left_objects left_names then_objects then_names : F) (is_objects : left_objects ≡ objects_part ended) (is_names : left_names ≡ names_part ended)
      (objects_on : GoesOnFrom (history left_objects) (history then_objects)) (names_on : GoesOnFrom (history left_names) (history then_names))
      (objects_later : failures left_objects ≤ failures then_objects) (names_later : failures left_names ≤ failures then_names) where
    -- a call that failed in the run has failed in the round
    pub failed_then : CountsFailure failures MayFail opened ended → HasRisen (failures objects) (failures then_objects) ⊎ HasRisen (failures names) (failures then_names) ⊎ MayFail
    failed_then (inl h) = inl (risen_later _ _ _ (subst (λ o. HasRisen (failures o) (failures (objects_part ended))) same_objects h) (subst (λ o. failures o ≤ failures then_objects) is_objects objects_later))
    failed_then (inr (inl h)) = inr (inl (risen_later _ _ _ (subst (λ n. HasRisen (failures n) (failures (names_part ended))) same_names h) (subst (λ n. failures n ≤ failures then_names) is_names names_later)))
    failed_then (inr (inr h)) = inr (inr h)

    abbrev Over : Pair → Type 0
    Over left = IsRoundOver kind (history objects) (history names) r Reads Writes
        (λ old cs rs a b failed x. EndsRun AtEnd Last (HasRisen (failures objects) (failures then_objects) ⊎ HasRisen (failures names) (failures then_names) ⊎ MayFail) old cs rs a b result failed x)
        (history then_objects) (history then_names) left

    told : EndsRun AtEnd Last (HasRisen (failures objects) (failures then_objects) ⊎ HasRisen (failures names) (failures then_names) ⊎ MayFail) r commands replies read written result (has_failed ended) new
    told = ends_told AtEnd AtEnd Last Last (CountsFailure failures MayFail opened ended) _ (λ at. at) (λ last. last) failed_then r commands replies read written result (has_failed ended) new ends

    own : GoesOnFrom (history (objects_part ended)) (history then_objects) × GoesOnFrom (history (names_part ended)) (history then_names)
    own = (subst (λ o. GoesOnFrom (history o) (history then_objects)) is_objects objects_on, subst (λ n. GoesOnFrom (history n) (history then_names)) is_names names_on)

    pair_is : trees_of history left_objects left_names ≡ pair_now (history (objects_part ended)) (history (names_part ended))
    pair_is = ap₂ (trees_of history) is_objects is_names

    pub stayed : has_failed ended ≡ false → trees_of history then_objects then_names ≡ trees_of history left_objects left_names → Over (trees_of history then_objects then_names)
    stayed unfailed same = stays MayFail kind (history objects) (history names) (history (objects_part ended)) (history (names_part ended)) (moment_of history failures opened) (moment_of history failures ended) r new commands replies read written
        on whole (ends_written _ _ _ r commands replies read written (has_failed ended) new result ends) traced.0 refl refl Reads Writes _ reads writes (has_failed ended) told traced.2 (history then_objects) (history then_names) own
        (sym (ends_failed _ _ _ r commands replies read written (has_failed ended) new result ends) ∙ unfailed) (trees_of history then_objects then_names) (same ∙ pair_is)

    pub recovered_whole : trees_of history then_objects then_names ≡ recovered kind (trees_of history left_objects left_names) → Over (trees_of history then_objects then_names)
    recovered_whole is = recovers MayFail kind (history objects) (history names) (history (objects_part ended)) (history (names_part ended)) (moment_of history failures opened) (moment_of history failures ended) r new commands replies read written
        on whole (ends_written _ _ _ r commands replies read written (has_failed ended) new result ends) traced.0 refl refl Reads Writes _ reads writes (has_failed ended) told traced.2 (history then_objects) (history then_names) own
        (trees_of history then_objects then_names) (is ∙ ap (recovered kind) pair_is)

    pub recovered_part : recovered kind (trees_of history then_objects then_names) ≡ recovered kind (trees_of history left_objects left_names) → Over (recovered kind (trees_of history then_objects then_names))
    recovered_part alike = recovers_anew MayFail kind (history objects) (history names) (history (objects_part ended)) (history (names_part ended)) (moment_of history failures opened) (moment_of history failures ended) r new commands replies read written
        on whole (ends_written _ _ _ r commands replies read written (has_failed ended) new result ends) traced.0 refl refl Reads Writes _ reads writes (has_failed ended) told traced.2 (history then_objects) (history then_names) own
        (trees_of history then_objects then_names) (recovered kind (trees_of history then_objects then_names)) (alike ∙ ap (recovered kind) pair_is) refl
