-- Rounds of runs, stopped or at their end, and of recoveries.
use Rattle.std.proofs.Common.{◌≡◌, ◌⊎◌, ◌==◌, ℕ, Bool, true, false, not, ◌&&◌, ◌||◌, List, [], ◌∷◌, ◌++◌, refl, sym, ◌∙◌, ap, subst, inl, inr, Option, None, Some, is_some, MatchBool, IsTrue, arith}
use Rattle.std.specs.List.{list_all, flat_map}
use Rattle.gix_ref_file.specs.History.{History}
use Rattle.std.proofs.lemmas.Bool.Decides.{nat_tests}
use Rattle.history_model.specs.Bytes.{Bytes, begins}
use Rattle.history_model.specs.Repository.{Repository}
use Rattle.history_model.specs.Commands.{Command}
use Rattle.history_model.specs.Spelling.{spelling}
use Rattle.history_model.specs.Grammar.{is_command}
use Rattle.history_model.specs.Places.{Pair}
use Rattle.history_model.specs.StandsFor.{StandsWhole}
use Rattle.history_model.specs.Recovery.{recovered}
use Rattle.history_model.specs.Causes.{first_cause}
use Rattle.history_model.specs.Replies.{Reply, RefusedFor, Faulted, reply_text}
use Rattle.history_model.specs.Stops.{LeftByStop, Between, is_changing}
use Rattle.history_model.specs.Steps.{Step, Steps, goes_on, some_failed}
use Rattle.history_model.specs.Runs.{BeginsWith, Runs, EndsReading, EndsWriting, Ends, CutsShort}
use Rattle.history_model.specs.Moments.{Moment, IsPairAt, StandsAt, ActedOn, ActsOn, last_moment}
use Rattle.history_model.specs.laws.Joining.{IsCommandPair, RoundsJoin, RunsEnd, RunsHaveWritten, TracesStop}
use Rattle.history_model.specs.Rounds.{HasWritten, IsCutOff, Round, IsStoppedIn, IsLast, IsRunOf, Recovers, IsLeft, IsRound, Leaves, IsOutcome, WritesReplies}
use Rattle.history_model.specs.declared.End.{End}
use Rattle.history_model.specs.declared.End.TheVariants.{Input, Refused as ByRefusal, Fault as ByFault}
use Rattle.gix_hash.specs.declared.kind.Kind.{Kind}
use Rattle.history_model.proofs.RecoveredLemmas.{recovered_stands}
use Rattle.std.proofs.lemmas.Bool.{or_right, or_left}
use Rattle.std.proofs.lemmas.Option.{same_Some}

-- ---- the kind stays

left_kind : (old : Repository) (command : Command) (new : Repository) (b : Bool) → MatchBool b (Between old command new) (new ≡ old) → new.kind ≡ old.kind
left_kind old command new true h = h.kind
left_kind old command new false h = ap (λ (r : Repository). r.kind) h

fault_kind : (old : Repository) (command : Command) (new : Repository) (b : Bool) → MatchBool b (LeftByStop old command new) (new ≡ old) → new.kind ≡ old.kind
fault_kind old command new true h = left_kind old command new (is_changing command && not (is_some (first_cause old command))) h.1
fault_kind old command new false h = ap (λ (r : Repository). r.kind) h

step_kind : (old : Repository) (command : Command) (reply : Reply) (new : Repository) → Step old command reply new → new.kind ≡ old.kind
step_kind old command (RefusedFor cause) new h = ap (λ (r : Repository). r.kind) h.1
step_kind old command (Faulted fault) new h = fault_kind old command new (is_changing command) h.1
step_kind old command reply new h = ap (λ (r : Repository). r.kind) h.result

-- ---- steps, and the input that they are of

regroup : {X : Type 0} (xs ys zs : List X) → (xs ++ ys) ++ zs ≡ xs ++ (ys ++ zs)
regroup [] ys zs = refl
regroup (x ∷ xs) ys zs = ap (λ l. x ∷ l) (regroup xs ys zs)

texts_join : (xs ys : List Command) → flat_map spelling (xs ++ ys) ≡ flat_map spelling xs ++ flat_map spelling ys
texts_join [] ys = refl
texts_join (x ∷ xs) ys = ap (λ t. spelling x ++ t) (texts_join xs ys) ∙ sym (regroup (spelling x) (flat_map spelling xs) (flat_map spelling ys))

known_front : (xs ys : List Command) → list_all is_command (xs ++ ys) ≡ true → list_all is_command xs ≡ true
known_front [] ys e = refl
known_front (x ∷ xs) ys e = both (is_command x) (list_all is_command (xs ++ ys)) (list_all is_command xs) (known_front xs ys) e
  where
    both : (a b c : Bool) → (b ≡ true → c ≡ true) → (a && b) ≡ true → (a && c) ≡ true
    both true b c h e = h e
    both false b c h e = cc

begins_front : (input : Bytes) (xs ys : List Command) (rest : Bytes) → BeginsWith input (xs ++ ys) rest → BeginsWith input xs (flat_map spelling ys ++ rest)
begins_front input xs ys rest h = record {
  known = known_front xs ys h.known;
  split = h.split ∙ ap (λ t. t ++ rest) (texts_join xs ys) ∙ regroup (flat_map spelling xs) (flat_map spelling ys) rest;
}

-- ---- of what was acted on

module _ (objects names : History) where
  acts_steps : (old : Repository) (begin : Moment) (commands : List Command) (replies : List Reply) (moments : List Moment) (new : Repository)
      → ActsOn objects names (Unit {0}) old begin commands replies moments new → Steps old commands replies new
  acts_steps old begin [] [] [] new h = h
  acts_steps old begin (c ∷ cs) (a ∷ bs) (next ∷ ms) new h = (h.0, h.1.step, h.2, acts_steps h.0 next cs bs ms new h.3)
  acts_steps old begin [] [] (m ∷ ms) new h = absurd h
  acts_steps old begin [] (a ∷ bs) ms new h = absurd h
  acts_steps old begin (c ∷ cs) [] ms new h = absurd h
  acts_steps old begin (c ∷ cs) (a ∷ bs) [] new h = absurd h

  acts_kind : (old : Repository) (begin : Moment) (commands : List Command) (replies : List Reply) (moments : List Moment) (new : Repository)
      → ActsOn objects names (Unit {0}) old begin commands replies moments new → new.kind ≡ old.kind
  acts_kind old begin [] [] [] new h = ap (λ (r : Repository). r.kind) h
  acts_kind old begin (c ∷ cs) (a ∷ bs) (next ∷ ms) new h = acts_kind h.0 next cs bs ms new h.3 ∙ step_kind old c a h.0 h.1.step
  acts_kind old begin [] [] (m ∷ ms) new h = absurd h
  acts_kind old begin [] (a ∷ bs) ms new h = absurd h
  acts_kind old begin (c ∷ cs) [] ms new h = absurd h
  acts_kind old begin (c ∷ cs) (a ∷ bs) [] new h = absurd h

  -- what the last command left represents the repository
  stands_then : (old : Repository) (begin : Moment) (commands : List Command) (replies : List Reply) (moments : List Moment) (new : Repository)
      → ActsOn objects names (Unit {0}) old begin commands replies moments new → StandsAt objects names begin false old → StandsAt objects names (last_moment begin moments) (some_failed commands replies) new
  stands_then old begin [] [] [] new h stands = subst (StandsAt objects names begin false) (sym h) stands
  stands_then old begin (c ∷ []) (a ∷ []) (next ∷ []) new h stands =
      subst (λ b. StandsAt objects names next b new) (or_false (not (goes_on c a))) (subst (StandsAt objects names next (not (goes_on c a))) (sym h.3) h.1.stands)
    where
      or_false : (b : Bool) → b ≡ (b || false)
      or_false true = refl
      or_false false = refl
  stands_then old begin (c ∷ d ∷ cs) (a ∷ bs) (next ∷ ms) new (mid, acted, on, more) stands =
      let going : goes_on c a ≡ true = goes on in
      subst (λ b. StandsAt objects names (last_moment next ms) (b || some_failed (d ∷ cs) bs) new) (sym (ap not going))
      (stands_then mid next (d ∷ cs) bs ms new more (subst (λ b. StandsAt objects names next b mid) (ap not going) acted.stands))
    where
      goes : {d : Command} {cs : List Command} {P : Type 0} → P ⊎ (d ∷ cs ≡ []) → P
      goes (inl p) = p
      goes (inr e) = cc
  stands_then old begin [] [] (m ∷ ms) new h stands = absurd h
  stands_then old begin [] (a ∷ bs) ms new h stands = absurd h
  stands_then old begin (c ∷ cs) [] ms new h stands = absurd h
  stands_then old begin (c ∷ cs) (a ∷ bs) [] new h stands = absurd h
  stands_then old begin (c ∷ []) (a ∷ b ∷ bs) (next ∷ ms) new h stands = absurd h.3
  stands_then old begin (c ∷ []) (a ∷ []) (next ∷ m ∷ ms) new h stands = absurd h.3

-- ---- a round

same_pair : (objects names : History) (moment : Moment) (a b : Pair) → IsPairAt objects names moment a → IsPairAt objects names moment b → a ≡ b
same_pair objects names moment a b h k = λ i. record {
  objects = same_Some a.objects b.objects (sym h.0 ∙ k.0) i;
  names = same_Some a.names b.names (sym h.1 ∙ k.1) i;
}

recovered_whole : (kind : Kind) (pair : Pair) (r : Repository) → StandsWhole kind pair r → StandsWhole kind (recovered kind pair) r
recovered_whole kind pair r h = record { stands = recovered_stands kind pair r h.stands; written = h.written; whole = h.whole }

-- of what the pair at a moment represents, and of what recovery makes of it
module _ (objects names : History) (moment : Moment) (kind : Kind) (r : Repository) (same : r.kind ≡ kind) (pair : Pair) (here : IsPairAt objects names moment pair) where
  unfailed_stands : (failed : Bool) → failed ≡ false → StandsAt objects names moment failed r → StandsWhole kind pair r
  unfailed_stands true e h = absurd (cc e)
  unfailed_stands false e h = subst (λ p. StandsWhole kind p r) (same_pair objects names moment h.0 pair h.1 here) (subst (λ k. StandsWhole k h.0 r) same h.2)

  recovered_so : (failed : Bool) → StandsAt objects names moment failed r → StandsWhole kind (recovered kind pair) r
  recovered_so true h = subst (λ p. StandsWhole kind (recovered kind p) r) (same_pair objects names moment h.0 pair h.1 here) (subst (λ k. StandsWhole k (recovered k h.0) r) same h.2)
  recovered_so false h = recovered_whole kind pair r (unfailed_stands false refl h)

recovers_so : (kind : Kind) (stopped : Pair) (recoveries : List Pair) (left : Pair) → Recovers kind stopped recoveries left → left ≡ recovered kind stopped
recovers_so kind stopped [] left h = h
recovers_so kind stopped (pair ∷ recoveries) left h = recovers_so kind pair recoveries left h.1 ∙ h.0

record Explained (kind : Kind) (recoveries : Option (List Pair)) (failed : Bool) (mid : Repository) (rest : Bytes) (left : Pair) : Type 0 where
  x : Repository
  leaves : Leaves recoveries failed mid rest x
  stands : StandsWhole kind left x

module _ (kind : Kind) (pair : Pair) (round : Round) (old : Repository) (whole : StandsWhole kind pair old) (is : IsRound kind pair round) where
  abbrev run : IsRunOf old round
  run = is.runs old whole

  abbrev has_failed : Bool
  has_failed = some_failed run.commands round.replies

  mid_kind : run.mid.kind ≡ kind
  mid_kind = acts_kind round.objects round.names old round.begin run.commands round.replies (run.traces).moments run.mid (run.traces).acts ∙ (whole.stands).of_kind

  stands : StandsAt round.objects round.names run.at has_failed run.mid
  stands = subst (λ m. StandsAt round.objects round.names m has_failed run.mid) (run.traces).ends
      (stands_then round.objects round.names old round.begin run.commands round.replies (run.traces).moments run.mid (run.traces).acts
      (pair, is.begins, subst (λ k. StandsWhole k pair old) (sym (whole.stands).of_kind) whole))

  explained : (recoveries : Option (List Pair)) → IsLast recoveries has_failed round.objects round.names run.mid run.at run.rest round.last → IsLeft kind round.last recoveries round.left
      → Explained kind recoveries has_failed run.mid run.rest round.left
  explained None last left = record {
    x = run.mid;
    leaves = (last.0, refl);
    stands = subst (λ p. StandsWhole kind p run.mid) (sym left) (unfailed_stands round.objects round.names run.at kind run.mid mid_kind round.last last.1 has_failed last.0 stands);
  }
  explained (Some recoveries) (inl here) left = record {
    x = run.mid;
    leaves = inl refl;
    stands = subst (λ p. StandsWhole kind p run.mid) (sym (recovers_so kind round.last recoveries round.left left)) (recovered_so round.objects round.names run.at kind run.mid mid_kind round.last here has_failed stands);
  }
  explained (Some recoveries) (inr (unfailed, during)) left =
      let stops = during.acted.stops round.last during.stop in record {
        x = stops.0;
        leaves = inr (unfailed, record { command = during.command; more = during.more; known = during.known; comes = during.comes; left = stops.1 });
        stands = subst (λ p. StandsWhole kind p stops.0) (sym (recovers_so kind round.last recoveries round.left left)) (subst (λ k. StandsWhole k (recovered k round.last) stops.0) mid_kind stops.2);
      }

  round_explained : Explained kind round.recoveries has_failed run.mid run.rest round.left
  round_explained = explained round.recoveries run.last is.leaves

  outcome : IsOutcome old round round_explained.x
  outcome = record {
    commands = run.commands;
    rest = run.rest;
    mid = run.mid;
    splits = run.splits;
    steps = acts_steps round.objects round.names old round.begin run.commands round.replies (run.traces).moments run.mid (run.traces).acts;
    written = run.written;
    leaves = round_explained.leaves;
  }

pub rounds_join : RoundsJoin
rounds_join kind pair [] old whole h = (old, whole, refl)
rounds_join kind pair (round ∷ rounds) old whole h =
    let found = round_explained kind pair round old whole h.0 in
    let rest = rounds_join kind round.left rounds found.x found.stands h.1 in
    (rest.0, rest.1, (found.x, outcome kind pair round old whole h.0, rest.2))

-- ---- the pairs of a trace

none_behind : {X : Type 0} (xs : List X) → xs ≡ xs ++ []
none_behind [] = refl
none_behind (x ∷ xs) = ap (λ l. x ∷ l) (none_behind xs)

all_written : (replies : List Reply) (rest : Bytes) → HasWritten replies rest (flat_map reply_text replies)
all_written replies rest = record { whole = replies; cut = []; part = []; all = none_behind replies; is = none_behind (flat_map reply_text replies); cut_off = inl refl }

module _ (objects names : History) (rest : Bytes) (pair : Pair) where
  record Stopping (old : Repository) (begin : Moment) (commands : List Command) (replies : List Reply) : Type 0 where
    done : List Command
    coming : List Command
    made : List Reply
    more : List Reply
    past : List Moment
    mid : Repository
    split : commands ≡ done ++ coming
    replied : replies ≡ made ++ more
    acts : ActsOn objects names (Unit {0}) old begin done made past mid
    stop : IsPairAt objects names (last_moment begin past) pair
        ⊎ ((some_failed done made ≡ false) × IsStoppedIn objects names mid (last_moment begin past) (flat_map spelling coming ++ rest) pair)

  first_known : (c : Command) (cs : List Command) → list_all is_command (c ∷ cs) ≡ true → (is_command c ≡ true) × (list_all is_command cs ≡ true)
  first_known c cs e = both (is_command c) (list_all is_command cs) e
    where
      both : (a b : Bool) → (a && b) ≡ true → (a ≡ true) × (b ≡ true)
      both true b e = (refl, e)
      both false b e = absurd (cc e)

  behind : (old mid : Repository) (begin next : Moment) (c : Command) (cs : List Command) (a : Reply) (bs : List Reply) → ActedOn objects names (Unit {0}) old begin c a next mid → goes_on c a ≡ true
      → Stopping mid next cs bs → Stopping old begin (c ∷ cs) (a ∷ bs)
  behind old mid begin next c cs a bs acted going s = record {
    done = c ∷ s.done;
    coming = s.coming;
    made = a ∷ s.made;
    more = s.more;
    past = next ∷ s.past;
    mid = s.mid;
    split = ap (λ l. c ∷ l) s.split;
    replied = ap (λ l. a ∷ l) s.replied;
    acts = (mid, acted, inl going, s.acts);
    stop = further s.stop;
  }
    where
      further : (IsPairAt objects names (last_moment next s.past) pair ⊎ ((some_failed s.done s.made ≡ false) × IsStoppedIn objects names s.mid (last_moment next s.past) (flat_map spelling s.coming ++ rest) pair))
          → IsPairAt objects names (last_moment next s.past) pair ⊎ ((some_failed (c ∷ s.done) (a ∷ s.made) ≡ false) × IsStoppedIn objects names s.mid (last_moment next s.past) (flat_map spelling s.coming ++ rest) pair)
      further (inl here) = inl here
      further (inr during) = inr (ap (λ b. not b || some_failed s.done s.made) going ∙ during.0, during.1)

  stopping : (old new : Repository) (begin : Moment) (commands : List Command) (replies : List Reply) (moments : List Moment) → list_all is_command commands ≡ true
      → ActsOn objects names (Unit {0}) old begin commands replies moments new → IsCommandPair objects names begin moments pair → Stopping old begin commands replies
  stopping old new begin [] [] [] known acts stop = absurd stop
  stopping old new begin (c ∷ cs) (a ∷ bs) (next ∷ ms) known acts (inl stop) = record {
    done = [];
    coming = c ∷ cs;
    made = [];
    more = a ∷ bs;
    past = [];
    mid = old;
    split = refl;
    replied = refl;
    acts = refl;
    stop = inr (
      refl,
      record {
        command = c;
        more = flat_map spelling cs ++ rest;
        known = (first_known c cs known).0;
        comes = regroup (spelling c) (flat_map spelling cs) rest;
        reply = a;
        finish = next;
        new = acts.0;
        acted = acts.1;
        stop = stop;
      },
    );
  }
  stopping old new begin (c ∷ d ∷ cs) (a ∷ b ∷ bs) (next ∷ m ∷ ms) known (mid, acted, on, more) (inr stop) =
      behind old mid begin next c (d ∷ cs) a (b ∷ bs) acted (goes on) (stopping mid new next (d ∷ cs) (b ∷ bs) (m ∷ ms) (first_known c (d ∷ cs) known).1 more stop)
    where
      goes : {d : Command} {cs : List Command} {P : Type 0} → P ⊎ (d ∷ cs ≡ []) → P
      goes (inl p) = p
      goes (inr e) = cc
  stopping old new begin (c ∷ cs) (a ∷ bs) (next ∷ []) known acts (inr stop) = absurd stop
  stopping old new begin (c ∷ []) (a ∷ bs) (next ∷ m ∷ ms) known acts (inr stop) = absurd (no_end bs acts.3)
    where
      no_end : (bs : List Reply) → ActsOn objects names (Unit {0}) (acts.0) next [] bs (m ∷ ms) new → ⊥
      no_end [] e = e
      no_end (b ∷ bs) e = e
  stopping old new begin (c ∷ d ∷ cs) (a ∷ []) (next ∷ m ∷ ms) known acts (inr stop) = absurd acts.3
  stopping old new begin [] (a ∷ bs) moments known acts stop = absurd acts
  stopping old new begin [] [] (m ∷ ms) known acts stop = absurd acts
  stopping old new begin (c ∷ cs) [] moments known acts stop = absurd acts
  stopping old new begin (c ∷ cs) (a ∷ bs) [] known acts stop = absurd acts

pub traces_stop : TracesStop
traces_stop objects names old new begin finish commands replies input rest splits traces pair (inl here) = (
  [],
  replies,
  refl,
  record {
    commands = [];
    rest = input;
    at = begin;
    mid = old;
    splits = record { known = refl; split = refl };
    traces = record { moments = []; acts = refl; ends = refl };
    written = all_written [] input;
    last = inl here;
  },
)
traces_stop objects names old new begin finish commands replies input rest splits traces pair (inr stop) =
    let s = stopping objects names rest pair old new begin commands replies traces.moments splits.known traces.acts stop in (
      s.made,
      s.more,
      s.replied,
      record {
        commands = s.done;
        rest = flat_map spelling s.coming ++ rest;
        at = last_moment begin s.past;
        mid = s.mid;
        splits = begins_front input s.done s.coming rest (subst (λ cs. BeginsWith input cs rest) s.split splits);
        traces = record { moments = s.past; acts = s.acts; ends = refl };
        written = all_written s.made _;
        last = s.stop;
      },
    )

-- ---- what runs write

same_byte : (b : ℕ) → (b == b) ≡ true
same_byte b = grind (arith, nat_tests)

begins_itself : (text : Bytes) → begins text text ≡ true
begins_itself [] = refl
begins_itself (b ∷ text) = ap (λ t. t && begins text text) (same_byte b) ∙ begins_itself text

of_end : (rest last : Bytes) (end : End) (failed : Bool) → Ends (Unit {0}) rest last end failed → IsCutOff [] rest last
of_end rest last Input failed h = inl h.2
of_end rest last ByRefusal failed (cause, none, is, unfailed) = inr (cause, none.because, or_left _ _ (subst (λ t. begins last t ≡ true) is (begins_itself last)))
of_end rest last ByFault true h = inl h
of_end rest last ByFault false (cause, none, is) = inr (cause, none.because, or_right _ _ (subst (λ t. begins last t ≡ true) is (begins_itself last)))

runs_written : (old new : Repository) (commands : List Command) (replies : List Reply) (input output : Bytes) (end : End) (failed : Bool)
    → Runs (Unit {0}) (Unit {0}) old commands replies input output end failed new → WritesReplies input commands replies output
runs_written old new commands replies input output end failed h = (
  h.rest,
  h.ran.splits,
  record {
    whole = replies;
    cut = [];
    part = h.last;
    all = none_behind replies;
    is = h.ran.written;
    cut_off = of_end h.rest h.last end failed h.ends;
  },
)

state_written : (old new : Repository) (commands : List Command) (replies : List Reply) (input output : Bytes) (failed : Bool)
    → EndsReading (Unit {0}) (Unit {0}) old commands replies input output failed new → WritesReplies input commands replies output
state_written old new commands replies input output failed h = (
  h.rest,
  h.ran.splits,
  record {
    whole = replies;
    cut = [];
    part = [];
    all = none_behind replies;
    is = h.ran.written;
    cut_off = inl refl;
  },
)

-- one command more
begins_more : (input : Bytes) (front : List Command) (command : Command) (rest more : Bytes) → BeginsWith input front rest → is_command command ≡ true → rest ≡ spelling command ++ more
    → BeginsWith input (front ++ command ∷ []) more
begins_more input front command rest more h known comes = record {
  known = all_known front h.known;
  split = h.split ∙ ap (λ t. flat_map spelling front ++ t) comes ∙ sym (regroup (flat_map spelling front) (spelling command) more)
      ∙ ap (λ t. (flat_map spelling front ++ t) ++ more) (none_behind (spelling command)) ∙ sym (ap (λ t. t ++ more) (texts_join front (command ∷ [])));
}
  where
    all_known : (front : List Command) → list_all is_command front ≡ true → list_all is_command (front ++ command ∷ []) ≡ true
    all_known [] e = ap (λ b. b && true) known
    all_known (c ∷ front) e = go (is_command c) (list_all is_command front) (list_all is_command (front ++ command ∷ [])) (all_known front) e
      where
        go : (a b d : Bool) → (b ≡ true → d ≡ true) → (a && b) ≡ true → (a && d) ≡ true
        go true b d h e = h e
        go false b d h e = cc

-- what is cut from one of two texts begins one
begins_either : {P Q : Type 0} (a b : Bool) → (IsTrue a × P) ⊎ (IsTrue b × Q) → IsTrue (a || b)
begins_either true b h = refl
begins_either false b (inl h) = absurd (cc h.0)
begins_either false b (inr h) = h.0

writing_written : (old new : Repository) (commands : List Command) (replies : List Reply) (input output : Bytes) (failed : Bool)
    → EndsWriting (Unit {0}) (Unit {0}) old commands replies input output failed new → WritesReplies input commands replies output
writing_written old new commands replies input output failed h =
    subst (λ cs. WritesReplies input cs replies output) (sym h.all.0) (subst (λ others. WritesReplies input (h.answered ++ h.last) others output) (sym h.all.1) (go h.last h.cut_off h.cut))
  where
    go : (last : List Command) (cut_off : List Reply) → CutsShort (Unit {0}) (Unit {0}) h.mid last cut_off h.rest h.part failed new → WritesReplies input (h.answered ++ last) (h.written ++ cut_off) output
    go (command ∷ []) (reply ∷ []) (more, known, comes, step, fails, counted, begun) = (
      more,
      begins_more input h.answered command h.rest more h.ran.splits known comes,
      record {
        whole = h.written;
        cut = reply ∷ [];
        part = h.part;
        all = refl;
        is = h.ran.written;
        cut_off = begun.0;
      },
    )
    go [] [] (cause, none, same, unfailed, begun) = (
      h.rest,
      subst (λ cs. BeginsWith input cs h.rest) (none_behind h.answered) h.ran.splits,
      record {
        whole = h.written;
        cut = [];
        part = h.part;
        all = refl;
        is = h.ran.written;
        cut_off = inr (cause, none.because, begins_either _ _ begun);
      },
    )
    go [] (b ∷ bs) k = absurd k
    go (c ∷ []) [] k = absurd k
    go (c ∷ d ∷ cs) [] k = absurd k
    go (c ∷ d ∷ cs) (b ∷ bs) k = absurd k
    go (c ∷ []) (b ∷ d ∷ bs) k = absurd k

pub runs_end : RunsEnd
runs_end objects names old new begin finish commands replies input output end runs traces pair at =
    let wrote = runs_written old new commands replies input output end false runs in
    record {
      commands = commands;
      rest = wrote.0;
      at = finish;
      mid = new;
      splits = wrote.1;
      traces = traces;
      written = wrote.2;
      last = (sym runs.ran.fails, at);
    }

pub runs_have_written : RunsHaveWritten
runs_have_written = (runs_written, state_written, writing_written)
