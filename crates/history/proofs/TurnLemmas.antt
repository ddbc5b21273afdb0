-- What a turn does, and turns in a row.
use Rattle.std.proofs.Common.{◌≡◌, ℕ, ◌⊎◌, Bool, true, false, not, ◌&&◌, ◌||◌, ◌==◌, ◌≢◌, ◌<◌, length, List, [], ◌∷◌, ◌++◌, Option, Some, None, Result, Ok, Err, refl, sym, ap, subst, ◌∙◌, inl, inr, IsTrue, IsFalse, arith, ◌≤◌, take, drop}
use Rattle.std.proofs.lemmas.List.{append-nil, length-take-le, take-append-drop}
use Rattle.std.proofs.lemmas.Bool.Decides.{nat_tests}
use Rattle.std.specs.Io.KnownBytes.{Appends}
use Rattle.gix_hash.specs.Writes.{AppendsFewer}
use Rattle.history_model.specs.Bytes.{Bytes, begins}
use Rattle.history_model.specs.Repository.{Repository}
use Rattle.history_model.specs.Commands.{Command}
use Rattle.history_model.specs.Spelling.{has_spelling}
use Rattle.history_model.specs.Grammar.{is_command, Spells, HasRestCause}
use Rattle.history_model.specs.Stage.{is_spoken}
use Rattle.history_model.specs.Replies.{Reply, RefusedFor, reply_text}
use Rattle.history_model.specs.Steps.{some_failed, goes_on}
use Rattle.history_model.specs.Runs.{Ran, Ends, IsNoCommand}
use Rattle.history_model.specs.declared.Cause.{Cause}
use Rattle.history_model.specs.declared.Cause.TheVariants.{Truncated}
use Rattle.history_model.specs.declared.End.{End}
use Rattle.history_model.specs.declared.End.TheVariants.{Input, Refused as ByRefusal, Fault as ByFault}
use Rattle.history_word.specs.Progress.{IsCauseOf}
use Rattle.history.specs.declared.running.RunError.{RunError}
use Rattle.history.specs.declared.running.RunError.TheVariants.{Read, Write}
use Rattle.gix_ref_file.specs.History.{History, HasRisen}
use Rattle.history_model.specs.Moments.{Moment, Traces, HasFailedCall as Failed}
use Rattle.gix_traverse_graph.specs.declared.rows.Row.{Row}
use Rattle.history.specs.Acts.{IsAnswer}
use Rattle.history.specs.Indexed.{FollowsRows}
use Rattle.history.specs.NameFiles.{AllLeaveAsSaid}
use Rattle.history.specs.Replies.{text_of}
use Rattle.history.specs.Runs.{EndsHere}
use Rattle.history.specs.Turns.{GoesOn, Turns}
use Rattle.history.proofs.ActLemmas.{told_text}
use Rattle.history.proofs.RunLemmas.{ends_then, ran_none, ran_one, ran_then}
use Rattle.history_store.proofs.Beside.{from_and_2}
use Rattle.std.proofs.lemmas.Bool.{not-false}
use Rattle.history.specs.declared.reply.Reply as own

-- ---- one turn

pub known_offered : (sent : Command) → IsTrue (is_command sent) → IsTrue (is_spoken sent)
known_offered sent h = from_and_2 (has_spelling sent) (is_spoken sent) h

goes : (failed : Bool) (on : Bool) → failed ≡ not on → failed ≡ false → IsTrue on
goes failed on e f = not-false on (sym e ∙ f)

same_byte : (b : ℕ) → (b == b) ≡ true
same_byte b = grind (arith, nat_tests)

begins_front : (front back : Bytes) → IsTrue (begins front (front ++ back))
begins_front [] back = refl
begins_front (b ∷ front) back = ap (λ t. t && begins front (front ++ back)) (same_byte b) ∙ begins_front front back

only_fails : (on : Bool) → not on ≡ (not on || false)
only_fails true = refl
only_fails false = refl

no_goes : (failed on : Bool) → failed ≡ not on → failed ≡ true → IsFalse on
no_goes failed true e f = absurd (cc (sym f ∙ e))
no_goes failed false e f = refl

-- what a writer that failed has taken of a text, and what it hasn't
pub in_two : (old new : Option Bytes) (text : Bytes) → AppendsFewer old new text → (front back : Bytes) × (text ≡ front ++ back) × (length front < length text) × Appends old new front
in_two old new text (count, less, wrote) =
    let within : count ≤ length text = omega (arith, less) in
    let long = length-take-le count text within in
    (take count text, drop count text, sym (take-append-drop count text), omega (arith, long, less), wrote)

-- ---- of a command that was replied to
module _ (objects names : History) (MayFail : Type 0) (StandsNow RecoversNow : Repository → Type 0) (start finish : Moment) (kept rows : Option (List Row)) (r : Repository) (sent : Command) (answer : own.Reply) (failed : Bool)
    (a : IsAnswer objects names MayFail StandsNow RecoversNow start finish kept rows failed r sent answer) where
  abbrev CallFailed : Type 0
  CallFailed = HasRisen start.object_failures finish.object_failures ⊎ HasRisen start.name_failures finish.name_failures ⊎ MayFail

  failed_so : Failed MayFail sent start finish → CallFailed
  failed_so (inl (changing, inl objects)) = inl objects
  failed_so (inl (changing, inr names)) = inr (inl names)
  failed_so (inr may) = inr (inr may)

  abbrev Traced : List Command → List Reply → Repository → Type 0
  Traced commands replies left = (traces : Traces objects names MayFail r start commands replies finish left) × FollowsRows kept rows r commands replies × AllLeaveAsSaid names r start commands replies traces.moments

  answer_ran : (taken rest : Bytes) → Spells taken sent → Ran CallFailed r (sent ∷ []) (a.reply ∷ []) (taken ++ rest) (text_of answer) rest [] failed a.left
  answer_ran taken rest k =
      ran_one CallFailed r a.left (taken ++ rest) (text_of answer) sent a.reply rest failed (ap (λ xs. xs ++ rest) k.1) (told_text answer a.reply a.tells) k.0 (a.acted).step (a.fails ∙ only_fails (goes_on sent a.reply)) (λ is. failed_so ((a.acted).failure is))

  traced : Traced (sent ∷ []) (a.reply ∷ []) a.left
  traced = (record { moments = finish ∷ []; acts = (a.left, a.acted, inr refl, refl); ends = refl }, a.rows_follow, (a.leaves, tt))

  stands_then : failed ≡ false → StandsNow a.left
  stands_then unfailed = a.stands (goes failed (goes_on sent a.reply) a.fails unfailed)

  recovers_then : failed ≡ true → RecoversNow a.left
  recovers_then fails = a.recovers (no_goes failed (goes_on sent a.reply) a.fails fails)

  -- the run goes on
  pub turn_goes_on : (Takes Writes : Bytes → Type 0) (taken : Bytes) → Spells taken sent → failed ≡ false → Takes taken → Writes (text_of answer) → GoesOn Takes Writes StandsNow Traced CallFailed r
  turn_goes_on Takes Writes taken k unfailed takes writes = record {
    commands = sent ∷ [];
    replies = a.reply ∷ [];
    taken = taken;
    written = text_of answer;
    new = a.left;
    takes = takes;
    writes = writes;
    ran = subst (λ b. Ran CallFailed r (sent ∷ []) (a.reply ∷ []) taken (text_of answer) [] [] b a.left) unfailed
        (subst (λ xs. Ran CallFailed r (sent ∷ []) (a.reply ∷ []) xs (text_of answer) [] [] failed a.left) (append-nil taken) (answer_ran taken [] k));
    traced = traced;
    stands = stands_then unfailed;
  }

  -- a changing command had a fault
  pub turn_fails : (Comes Writes : Bytes → Type 0) (AtEnd L : Type 0) (taken rest : Bytes) → Spells taken sent → failed ≡ true → Comes (taken ++ rest) → Writes (text_of answer)
      → EndsHere Comes Writes StandsNow RecoversNow Traced AtEnd L CallFailed r (Ok ByFault) failed
  turn_fails Comes Writes AtEnd L taken rest k e comes writes = record {
    commands = sent ∷ [];
    replies = a.reply ∷ [];
    read = taken ++ rest;
    written = text_of answer;
    new = a.left;
    reads = comes;
    writes = writes;
    ends = record {
      rest = rest;
      last = [];
      ran = answer_ran taken rest k;
      ends = subst (λ b. Ends AtEnd rest [] ByFault b) (sym e) refl;
    };
    traced = traced;
    stands = stands_then;
    recovers = recovers_then;
  }

  -- the writer failed within the reply
  pub turn_cut : (Comes Writes : Bytes → Type 0) (AtEnd L : Type 0) (taken rest front back : Bytes) → Spells taken sent → Comes (taken ++ rest) → text_of answer ≡ front ++ back → length front < length (text_of answer) → Writes front
      → EndsHere Comes Writes StandsNow RecoversNow Traced AtEnd L CallFailed r (Err Write) failed
  turn_cut Comes Writes AtEnd L taken rest front back k comes e short writes = record {
    commands = sent ∷ [];
    replies = a.reply ∷ [];
    read = taken ++ rest;
    written = front;
    new = a.left;
    reads = comes;
    writes = writes;
    ends = record {
      answered = [];
      written = [];
      last = sent ∷ [];
      cut_off = a.reply ∷ [];
      all = (refl, refl);
      rest = taken ++ rest;
      part = front;
      mid = r;
      ran = ran_none CallFailed r (taken ++ rest) front;
      cut = (
        rest,
        k.0,
        ap (λ xs. xs ++ rest) k.1,
        (a.acted).step,
        a.fails ∙ only_fails (goes_on sent a.reply),
        λ is. failed_so ((a.acted).failure is),
        (
          subst (λ xs. IsTrue (begins front xs)) (sym e ∙ told_text answer a.reply a.tells) (begins_front front back),
          subst (λ xs. length front < length xs) (told_text answer a.reply a.tells) short,
        ),
      );
    };
    traced = traced;
    stands = stands_then;
    recovers = recovers_then;
  }

some_cause : (bytes : Bytes) (cause : Cause) → bytes ≢ [] → IsCauseOf bytes cause → HasRestCause bytes cause
some_cause [] cause some h = absurd (some refl)
some_cause (b ∷ bytes) cause some h = h

no_command : (AtEnd : Type 0) (bytes : Bytes) (cause : Cause) → bytes ≢ [] → IsCauseOf bytes cause → (cause ≡ Truncated → AtEnd) → IsNoCommand AtEnd bytes cause
no_command AtEnd bytes cause some h end = record { because = some_cause bytes cause some h; at_end = end }

-- the reader failed, or the last reading was made
short_rest : (Failed L : Type 0) (bytes : Bytes) → (Failed × IsCauseOf bytes Truncated) ⊎ L → (bytes ≡ []) ⊎ HasRestCause bytes Truncated ⊎ L
short_rest Failed L [] (inl h) = inl refl
short_rest Failed L (b ∷ bytes) (inl h) = inr (inl h.1)
short_rest Failed L bytes (inr l) = inr (inr l)

-- nothing at all is cut short
pub nothing_short : (Failed L : Type 0) (bytes : Bytes) → (Failed × (bytes ≡ [])) ⊎ L → (Failed × IsCauseOf bytes Truncated) ⊎ L
nothing_short Failed L bytes (inl h) = inl (h.0, subst (λ xs. IsCauseOf xs Truncated) (sym h.1) refl)
nothing_short Failed L bytes (inr l) = inr l

never : {X : Type 0} (b : Bool) → b ≡ false → b ≡ true → X
never b e f = absurd (cc (sym f ∙ e))

-- ---- of a turn that acts on no command
module _ (Comes Writes : Bytes → Type 0) (StandsNow RecoversNow : Repository → Type 0) (Traced : List Command → List Reply → Repository → Type 0) (AtEnd L C : Type 0) (r : Repository) (failed : Bool)
    (unfailed : failed ≡ false) (stands : StandsNow r) (traced : Traced [] [] r) where
  abbrev Here : Result End RunError → Type 0
  Here result = EndsHere Comes Writes StandsNow RecoversNow Traced AtEnd L C r result failed

  unfailed_ran : (rest last : Bytes) → Ran C r [] [] rest last rest last failed r
  unfailed_ran rest last = subst (λ b. Ran C r [] [] rest last rest last b r) (sym unfailed) (ran_none C r rest last)

  -- a rest that is no command was refused
  pub turn_refused : (bytes : Bytes) (cause : Cause) → bytes ≢ [] → IsCauseOf bytes cause → (cause ≡ Truncated → AtEnd) → Comes bytes → Writes (reply_text (RefusedFor cause)) → Here (Ok ByRefusal)
  turn_refused bytes cause some h end comes writes = record {
    commands = [];
    replies = [];
    read = bytes;
    written = reply_text (RefusedFor cause);
    new = r;
    reads = comes;
    writes = writes;
    ends = record {
      rest = bytes;
      last = reply_text (RefusedFor cause);
      ran = unfailed_ran bytes (reply_text (RefusedFor cause));
      ends = (cause, no_command AtEnd bytes cause some h end, refl, unfailed);
    };
    traced = traced;
    stands = λ _. stands;
    recovers = λ e. never failed unfailed e;
  }

  -- the writer failed within the reply to the refused bytes
  pub turn_refusal_cut : (bytes : Bytes) (cause : Cause) (front back : Bytes) → bytes ≢ [] → IsCauseOf bytes cause → (cause ≡ Truncated → AtEnd) → Comes bytes
      → reply_text (RefusedFor cause) ≡ front ++ back → length front < length (reply_text (RefusedFor cause)) → Writes front → Here (Err Write)
  turn_refusal_cut bytes cause front back some h end comes e short writes = record {
    commands = [];
    replies = [];
    read = bytes;
    written = front;
    new = r;
    reads = comes;
    writes = writes;
    ends = record {
      answered = [];
      written = [];
      last = [];
      cut_off = [];
      all = (refl, refl);
      rest = bytes;
      part = front;
      mid = r;
      ran = ran_none C r bytes front;
      cut = (cause, no_command AtEnd bytes cause some h end, refl, unfailed, inl (subst (λ xs. IsTrue (begins front xs)) (sym e) (begins_front front back), short));
    };
    traced = traced;
    stands = λ _. stands;
    recovers = λ e. never failed unfailed e;
  }

  pub turn_broken : (Failed : Type 0) (bytes : Bytes) → (Failed × IsCauseOf bytes Truncated) ⊎ L → Comes bytes → Writes [] → Here (Err Read)
  turn_broken Failed bytes why comes writes = record {
    commands = [];
    replies = [];
    read = bytes;
    written = [];
    new = r;
    reads = comes;
    writes = writes;
    ends = record {
      rest = bytes;
      ran = unfailed_ran bytes [];
      unfailed = unfailed;
      cut = short_rest Failed L bytes why;
    };
    traced = traced;
    stands = λ _. stands;
    recovers = λ e. never failed unfailed e;
  }

  -- the input ended
  pub turn_ends : AtEnd → Comes [] → Writes [] → Here (Ok Input)
  turn_ends end comes writes = record {
    commands = [];
    replies = [];
    read = [];
    written = [];
    new = r;
    reads = comes;
    writes = writes;
    ends = record {
      rest = [];
      last = [];
      ran = unfailed_ran [] [];
      ends = (refl, end, refl, unfailed);
    };
    traced = traced;
    stands = λ _. stands;
    recovers = λ e. never failed unfailed e;
  }

-- what a turn returns if a command was replied to
pub turn_told : (Takes Comes Writes : Bytes → Type 0) (StandsNow RecoversNow : Repository → Type 0) (Traced : List Command → List Reply → Repository → Type 0) (AtEnd L C : Type 0) (r : Repository) (end : Option End) (failed : Bool)
    → ((end ≡ None) × GoesOn Takes Writes StandsNow Traced C r) ⊎ ((end ≡ Some ByFault) × EndsHere Comes Writes StandsNow RecoversNow Traced AtEnd L C r (Ok ByFault) failed)
    → Turns Takes Comes Writes StandsNow RecoversNow Traced AtEnd L C r (Ok end) failed
turn_told Takes Comes Writes StandsNow RecoversNow Traced AtEnd L C r end failed (inl h) = subst (λ e. Turns Takes Comes Writes StandsNow RecoversNow Traced AtEnd L C r (Ok e) failed) (sym h.0) h.1
turn_told Takes Comes Writes StandsNow RecoversNow Traced AtEnd L C r end failed (inr h) = subst (λ e. Turns Takes Comes Writes StandsNow RecoversNow Traced AtEnd L C r (Ok e) failed) (sym h.0) h.1

-- ---- turns in a row

pub goes_none : (Takes Writes : Bytes → Type 0) (StandsNow : Repository → Type 0) (Traced : List Command → List Reply → Repository → Type 0) (C : Type 0) (r : Repository)
    → Takes [] → Writes [] → StandsNow r → Traced [] [] r → GoesOn Takes Writes StandsNow Traced C r
goes_none Takes Writes StandsNow Traced C r takes writes stands traced = record {
  commands = [];
  replies = [];
  taken = [];
  written = [];
  new = r;
  takes = takes;
  writes = writes;
  ran = ran_none C r [] [];
  traced = traced;
  stands = stands;
}

-- what was traced from the repository that a turn left continues the trace
abbrev pub TracesOn : (List Command → List Reply → Repository → Type 0) → (Repository → List Command → List Reply → Repository → Type 0) → (List Command → List Reply → Repository → Type 0) → Type 0
TracesOn First Second Both = (commands more : List Command) (replies others : List Reply) (mid new : Repository) → some_failed commands replies ≡ false
    → First commands replies mid → Second mid more others new → Both (commands ++ more) (replies ++ others) new

pub goes_then : (Took Takes Taking Wrote Writes Writing : Bytes → Type 0) (Stood StandsNow : Repository → Type 0) (First : List Command → List Reply → Repository → Type 0)
    (Second : Repository → List Command → List Reply → Repository → Type 0) (Both : List Command → List Reply → Repository → Type 0) (C D E : Type 0) (r : Repository)
    → ((xs ys : Bytes) → Took xs → Takes ys → Taking (xs ++ ys)) → ((xs ys : Bytes) → Wrote xs → Writes ys → Writing (xs ++ ys)) → (C → E) → (D → E)
    → (h : GoesOn Took Wrote Stood First C r) → TracesOn First Second Both → GoesOn Takes Writes StandsNow (Second h.new) D h.new → GoesOn Taking Writing StandsNow Both E r
goes_then Took Takes Taking Wrote Writes Writing Stood StandsNow First Second Both C D E r t w c d h on k = record {
  commands = h.commands ++ k.commands;
  replies = h.replies ++ k.replies;
  taken = h.taken ++ k.taken;
  written = h.written ++ k.written;
  new = k.new;
  takes = t h.taken k.taken h.takes k.takes;
  writes = w h.written k.written h.writes k.writes;
  ran = ran_then C D E r h.new k.new h.commands k.commands h.replies k.replies h.taken k.taken h.written k.written [] [] false c d h.ran k.ran;
  traced = on h.commands k.commands h.replies k.replies h.new k.new (sym (h.ran).fails) h.traced k.traced;
  stands = k.stands;
}

pub run_then : (Took Comes Reads Wrote Writes Writing : Bytes → Type 0) (Stood StandsNow RecoversNow : Repository → Type 0) (First : List Command → List Reply → Repository → Type 0)
    (Second : Repository → List Command → List Reply → Repository → Type 0) (Both : List Command → List Reply → Repository → Type 0) (AtEnd L M C D E : Type 0) (r : Repository) (result : Result End RunError) (failed : Bool)
    → ((xs ys : Bytes) → Took xs → Comes ys → Reads (xs ++ ys)) → ((xs ys : Bytes) → Wrote xs → Writes ys → Writing (xs ++ ys)) → (L → M) → (C → E) → (D → E)
    → (h : GoesOn Took Wrote Stood First C r) → TracesOn First Second Both → EndsHere Comes Writes StandsNow RecoversNow (Second h.new) AtEnd L D h.new result failed
    → EndsHere Reads Writing StandsNow RecoversNow Both AtEnd M E r result failed
run_then Took Comes Reads Wrote Writes Writing Stood StandsNow RecoversNow First Second Both AtEnd L M C D E r result failed t w m c d h on k = record {
  commands = h.commands ++ k.commands;
  replies = h.replies ++ k.replies;
  read = h.taken ++ k.read;
  written = h.written ++ k.written;
  new = k.new;
  reads = t h.taken k.read h.takes k.reads;
  writes = w h.written k.written h.writes k.writes;
  ends = ends_then AtEnd L M C D E r h.new k.new h.commands k.commands h.replies k.replies h.taken k.read h.written k.written result failed m c d h.ran k.ends;
  traced = on h.commands k.commands h.replies k.replies h.new k.new (sym (h.ran).fails) h.traced k.traced;
  stands = k.stands;
  recovers = k.recovers;
}
