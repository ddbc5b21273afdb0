-- What commands did if it isn't said whether a reading may fail, and which of them met the failed
-- call.
use Rattle.std.proofs.Common.{◌≡◌, ◌⊎◌, ℕ, zero, suc, ◌-◌, ◌^◌, ◌<◌, ◌≤◌, ◌≢◌, inl, inr, true, false, not, ◌&&◌, List, [], ◌∷◌, refl, sym, ◌∙◌, ap, subst, Contains, IsTrue, arith}
use Rattle.std.specs.List.{AllByRecursion}
use Rattle.gix_ref_file.specs.History.{History, HasRisen}
use Rattle.history_model.specs.Repository.{Repository}
use Rattle.history_model.specs.Commands.{Command}
use Rattle.history_model.specs.Replies.{Reply, Faulted}
use Rattle.history_model.specs.Steps.{goes_on, some_failed}
use Rattle.history_model.specs.Moments.{Moment, ActedOn, ActsOn, HasFailedCall, HasCountedFailure, CountsStay, last_moment}
use Rattle.history_model.specs.laws.Joining.{TracesWeaken}
use Rattle.history_model.specs.laws.Failures.{IsUncounted, FaultsAreCounted, EndsByFailedCall, FaultsComeLast, UnfailedCountNone}
use Rattle.history_model.specs.declared.Fault.TheVariants.{File}
use Rattle.std.proofs.lemmas.Bool.{not-false, or_parts}

-- ---- readings that may fail

weaker_failure : (MayFail : Type 0) (command : Command) (begin finish : Moment) → HasFailedCall MayFail command begin finish → HasFailedCall (Unit {0}) command begin finish
weaker_failure MayFail command begin finish (inl counted) = inl counted
weaker_failure MayFail command begin finish (inr may) = inr tt

acts_weaken : (MayFail : Type 0) (objects names : History) (old : Repository) (begin : Moment) (commands : List Command) (replies : List Reply) (moments : List Moment) (new : Repository)
    → ActsOn objects names MayFail old begin commands replies moments new → ActsOn objects names (Unit {0}) old begin commands replies moments new
acts_weaken MayFail objects names old begin [] [] [] new h = h
acts_weaken MayFail objects names old begin (command ∷ commands) (reply ∷ replies) (next ∷ moments) new h = (
  h.0,
  record {
    step = (h.1).step;
    later = (h.1).later;
    counts = (h.1).counts;
    uncounted = (h.1).uncounted;
    unchanged = (h.1).unchanged;
    stands = (h.1).stands;
    stops = (h.1).stops;
    failure = λ faulted. weaker_failure MayFail command begin next ((h.1).failure faulted);
  },
  h.2,
  acts_weaken MayFail objects names h.0 next commands replies moments new h.3,
)
acts_weaken MayFail objects names old begin [] [] (next ∷ moments) new h = absurd h
acts_weaken MayFail objects names old begin [] (reply ∷ replies) moments new h = absurd h
acts_weaken MayFail objects names old begin (command ∷ commands) [] moments new h = absurd h
acts_weaken MayFail objects names old begin (command ∷ commands) (reply ∷ replies) [] new h = absurd h

pub traces_weaken : (MayFail : Type 0) → TracesWeaken MayFail
traces_weaken MayFail objects names old begin commands replies finish new traces = (
  record { moments = traces.moments; acts = acts_weaken MayFail objects names old begin commands replies traces.moments new traces.acts; ends = traces.ends },
  refl,
)

-- ---- over files where no call failed

-- a count that stays below its last value hasn't risen
no_rise : (begin mid next finish : ℕ) → finish ≡ begin → finish < 2 ^ 64 - 1 → begin ≤ mid → next ≤ finish → HasRisen mid next → ⊥
no_rise begin mid next finish same small first last risen = absurd (omega (arith, same, small, first, last, risen))

module _ (objects names : History) (start : Moment) where
  -- each moment counts as many as the last, at most
  counts_last : (old : Repository) (begin : Moment) (commands : List Command) (replies : List Reply) (moments : List Moment) (new : Repository) → ActsOn objects names ⊥ old begin commands replies moments new
      → (begin.object_failures ≤ (last_moment begin moments).object_failures) × (begin.name_failures ≤ (last_moment begin moments).name_failures)
  counts_last old begin [] [] [] new h = (omega arith, omega arith)
  counts_last old begin (command ∷ commands) (reply ∷ replies) (next ∷ moments) new h =
      let rest = counts_last h.0 next commands replies moments new h.3 in
      (omega (arith, ((h.1).counts).0, rest.0), omega (arith, ((h.1).counts).1, rest.1))
  counts_last old begin [] [] (next ∷ moments) new h = absurd h
  counts_last old begin [] (reply ∷ replies) moments new h = absurd h
  counts_last old begin (command ∷ commands) [] moments new h = absurd h
  counts_last old begin (command ∷ commands) (reply ∷ replies) [] new h = absurd h

  none_faulted : (old : Repository) (begin : Moment) (commands : List Command) (replies : List Reply) (moments : List Moment) (new : Repository) → start.object_failures ≤ begin.object_failures → start.name_failures ≤ begin.name_failures
      → IsUncounted start (last_moment begin moments) → ActsOn objects names ⊥ old begin commands replies moments new → AllByRecursion (λ reply. reply ≢ Faulted File) replies
  none_faulted old begin [] [] [] new from_objects from_names none h = tt
  none_faulted old begin (command ∷ commands) (reply ∷ replies) (next ∷ moments) new from_objects from_names none h =
      let rest = counts_last h.0 next commands replies moments new h.3 in (
        λ e. uncounted ((h.1).failure e) rest,
        none_faulted h.0 next commands replies moments new (omega (arith, from_objects, ((h.1).counts).0)) (omega (arith, from_names, ((h.1).counts).1)) none h.3,
      )
    where
      uncounted : HasFailedCall ⊥ command begin next → (next.object_failures ≤ (last_moment next moments).object_failures) × (next.name_failures ≤ (last_moment next moments).name_failures) → ⊥
      uncounted (inl (changing, inl risen)) rest = no_rise _ _ _ _ none.objects none.objects_last from_objects rest.0 risen
      uncounted (inl (changing, inr risen)) rest = no_rise _ _ _ _ none.names none.names_last from_names rest.1 risen
      uncounted (inr never) rest = never
  none_faulted old begin [] [] (next ∷ moments) new from_objects from_names none h = absurd h
  none_faulted old begin [] (reply ∷ replies) moments new from_objects from_names none h = absurd h
  none_faulted old begin (command ∷ commands) [] moments new from_objects from_names none h = absurd h
  none_faulted old begin (command ∷ commands) (reply ∷ replies) [] new from_objects from_names none h = absurd h

pub faults_are_counted : FaultsAreCounted
faults_are_counted objects names old begin commands replies finish new traces none =
    none_faulted objects names begin old begin commands replies traces.moments new (omega arith) (omega arith) (subst (IsUncounted begin) (sym traces.ends) none) traces.acts

-- ---- the command that met a failed call

stay_then : (a b c : Moment) → CountsStay a b → CountsStay b c → CountsStay a c
stay_then a b c h k = (k.0 ∙ h.0, k.1 ∙ h.1)

rose_then : (a b c : Moment) → CountsStay a b → HasCountedFailure b c → HasCountedFailure a c
rose_then a b c stay (inl risen) = inl (subst (λ n. HasRisen n c.object_failures) stay.0 risen)
rose_then a b c stay (inr risen) = inr (subst (λ n. HasRisen n c.name_failures) stay.1 risen)

no_true : false ≡ true → ⊥
no_true e = cc

-- a reply after which the run goes on is no `fault File`
goes_unfaulted : (command : Command) (reply : Reply) (begin finish : Moment) → IsTrue (goes_on command reply) → (reply ≡ Faulted File → HasFailedCall ⊥ command begin finish) → reply ≢ Faulted File
goes_unfaulted command reply begin finish on why e = go (why e)
  where
    go : HasFailedCall ⊥ command begin finish → ⊥
    go (inl (changing, counted)) = no_true (sym (ap (λ b. not (b && true)) changing) ∙ sym (ap (goes_on command) e) ∙ on)
    go (inr never) = never

in_rest : (reply other : Reply) (replies : List Reply) → reply ≢ other → Contains (reply ∷ replies) other → Contains replies other
in_rest reply other replies not (zero, within, is) = absurd (not is)
in_rest reply other replies not (suc k, within, is) = (k, omega (arith, within), is)

only : (reply other : Reply) → Contains (reply ∷ []) other → reply ≡ other
only reply other (zero, within, is) = is
only reply other (suc k, within, is) = absurd (omega (arith, within))

none_in : {X : Type 0} (x : X) → Contains [] x → ⊥
none_in x (k, within, is) = absurd (omega (arith, within))

module _ (objects names : History) (start : Moment) where
  -- if the run goes on after a command, another one met the failed call
  goes_further : (begin next finish : Moment) (command : Command) (commands : List Command) (reply : Reply) (replies : List Reply) (moments : List Moment) → reply ≢ Faulted File → CountsStay start next
      → EndsByFailedCall start commands replies moments finish → EndsByFailedCall start (command ∷ commands) (reply ∷ replies) (next ∷ moments) finish
  goes_further begin next finish command commands reply replies moments none so_far rest = record {
    done = command ∷ rest.done;
    answered = reply ∷ rest.answered;
    between = next ∷ rest.between;
    last = rest.last;
    commands_are = ap (λ l. command ∷ l) rest.commands_are;
    replies_are = ap (λ l. reply ∷ l) rest.replies_are;
    moments_are = ap (λ l. next ∷ l) rest.moments_are;
    unfaulted = (none, rest.unfaulted);
    uncounted = (so_far, rest.uncounted);
    changing = rest.changing;
    counted = rest.counted;
  }

  -- if no command follows, this one did
  ends_here : (begin next : Moment) (command : Command) (reply : Reply) → CountsStay start begin → reply ≡ Faulted File → HasFailedCall ⊥ command begin next
      → EndsByFailedCall start (command ∷ []) (reply ∷ []) (next ∷ []) next
  ends_here begin next command reply stay is (inl (changing, counted)) = record {
    done = [];
    answered = [];
    between = [];
    last = command;
    commands_are = refl;
    replies_are = ap (λ a. a ∷ []) is;
    moments_are = refl;
    unfaulted = tt;
    uncounted = tt;
    changing = changing;
    counted = rose_then start begin next stay counted;
  }
  ends_here begin next command reply stay is (inr never) = absurd never

  ends_so : (mid : Repository) (begin next : Moment) (command : Command) (commands : List Command) (reply : Reply) (replies : List Reply) (moments : List Moment) (new : Repository) → CountsStay start begin
      → (reply ≡ Faulted File → HasFailedCall ⊥ command begin next) → commands ≡ [] → ActsOn objects names ⊥ mid next commands replies moments new → Contains (reply ∷ replies) (Faulted File)
      → EndsByFailedCall start (command ∷ commands) (reply ∷ replies) (next ∷ moments) (last_moment next moments)
  ends_so mid begin next command [] reply [] [] new stay why e h told = let is = only reply (Faulted File) told in ends_here begin next command reply stay is (why is)
  ends_so mid begin next command (c ∷ commands) reply replies moments new stay why e h told = absurd (cc e)
  ends_so mid begin next command [] reply [] (m ∷ moments) new stay why e h told = absurd h
  ends_so mid begin next command [] reply (a ∷ replies) moments new stay why e h told = absurd h

  met : (old mid : Repository) (begin next : Moment) (command : Command) (commands : List Command) (reply : Reply) (replies : List Reply) (moments : List Moment) (new : Repository) → CountsStay start begin
      → ActedOn objects names ⊥ old begin command reply next mid → ActsOn objects names ⊥ mid next commands replies moments new → Contains (reply ∷ replies) (Faulted File)
      → (CountsStay start next → Contains replies (Faulted File) → EndsByFailedCall start commands replies moments (last_moment next moments))
      → IsTrue (goes_on command reply) ⊎ (commands ≡ []) → EndsByFailedCall start (command ∷ commands) (reply ∷ replies) (next ∷ moments) (last_moment next moments)
  met old mid begin next command commands reply replies moments new stay acted h told further (inl on) =
      let none = goes_unfaulted command reply begin next on acted.failure in
      let so_far = stay_then start begin next stay (acted.uncounted on) in
      goes_further begin next (last_moment next moments) command commands reply replies moments none so_far (further so_far (in_rest reply (Faulted File) replies none told))
  met old mid begin next command commands reply replies moments new stay acted h told further (inr none) = ends_so mid begin next command commands reply replies moments new stay acted.failure none h told

  pub comes_last : (old : Repository) (begin : Moment) (commands : List Command) (replies : List Reply) (moments : List Moment) (new : Repository) → CountsStay start begin
      → ActsOn objects names ⊥ old begin commands replies moments new → Contains replies (Faulted File) → EndsByFailedCall start commands replies moments (last_moment begin moments)
  comes_last old begin [] [] [] new stay h told = absurd (none_in (Faulted File) told)
  comes_last old begin (command ∷ commands) (reply ∷ replies) (next ∷ moments) new stay h told =
      met old h.0 begin next command commands reply replies moments new stay h.1 h.3 told (λ so_far told. comes_last h.0 next commands replies moments new so_far h.3 told) h.2
  comes_last old begin [] [] (next ∷ moments) new stay h told = absurd h
  comes_last old begin [] (reply ∷ replies) moments new stay h told = absurd h
  comes_last old begin (command ∷ commands) [] moments new stay h told = absurd h
  comes_last old begin (command ∷ commands) (reply ∷ replies) [] new stay h told = absurd h

pub faults_come_last : FaultsComeLast
faults_come_last objects names old begin commands replies finish new traces told =
    subst (EndsByFailedCall begin commands replies traces.moments) traces.ends
    (comes_last objects names begin old begin commands replies traces.moments new (refl, refl) traces.acts told)

counts_none : (objects names : History) (old : Repository) (begin : Moment) (commands : List Command) (replies : List Reply) (moments : List Moment) (new : Repository)
    → ActsOn objects names (Unit {0}) old begin commands replies moments new → some_failed commands replies ≡ false → CountsStay begin (last_moment begin moments)
counts_none objects names old begin [] [] [] new h unfailed = (refl, refl)
counts_none objects names old begin (command ∷ commands) (reply ∷ replies) (next ∷ moments) new h unfailed =
    let fails = or_parts (not (goes_on command reply)) (some_failed commands replies) unfailed in
    stay_then begin next (last_moment next moments) ((h.1).uncounted (not-false (goes_on command reply) fails.0))
    (counts_none objects names h.0 next commands replies moments new h.3 fails.1)
counts_none objects names old begin [] [] (next ∷ moments) new h unfailed = absurd h
counts_none objects names old begin [] (reply ∷ replies) moments new h unfailed = absurd h
counts_none objects names old begin (command ∷ commands) [] moments new h unfailed = absurd h
counts_none objects names old begin (command ∷ commands) (reply ∷ replies) [] new h unfailed = absurd h

pub unfailed_count_none : UnfailedCountNone
unfailed_count_none objects names old begin commands replies finish new traces unfailed =
    subst (CountsStay begin) traces.ends (counts_none objects names old begin commands replies traces.moments new traces.acts unfailed)
