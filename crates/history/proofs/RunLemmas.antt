-- Runs one after another.
use Rattle.std.proofs.Common.{◌≡◌, ℕ, ◌⊎◌, Bool, true, false, not, ◌&&◌, ◌||◌, ◌≢◌, ◌<◌, length, List, [], ◌∷◌, ◌++◌, Option, Some, None, Result, Ok, Err, IfOk, MatchResult, MatchBool, is_ok, refl, sym, ap, subst, ◌∙◌, inl, inr, append_assoc, IsTrue, arith}
use Rattle.std.proofs.lemmas.List.{append-nil, length-append}
use Rattle.std.proofs.lemmas.List.Folds.{list_all-append}
use Rattle.std.proofs.lemmas.Grind.{flat_map-append}
use Rattle.std.specs.Io.KnownBytes.{Consumes, Appends}
use Rattle.std.specs.List.{flat_map, list_all, AllByRecursion}
use Rattle.history_model.specs.Bytes.{Bytes}
use Rattle.history_model.specs.Repository.{Repository}
use Rattle.history_model.specs.Commands.{Command}
use Rattle.history_model.specs.Spelling.{spelling}
use Rattle.history_model.specs.Grammar.{is_command}
use Rattle.history_model.specs.Replies.{Reply, Faulted, reply_text}
use Rattle.history_model.specs.Steps.{Step, Steps, some_failed, goes_on}
use Rattle.history_model.specs.Runs.{Ran, CutsShort}
use Rattle.history_model.specs.declared.Fault.TheVariants.{File}
use Rattle.history_model.specs.declared.End.{End}
use Rattle.history_word.specs.declared.buffer.Buffer.{Buffer}
use Rattle.history_word.specs.Buffer.{unread}
use Rattle.history_word.specs.Taking.{Came}
use Rattle.history.specs.declared.running.RunError.{RunError}
use Rattle.history.specs.declared.running.RunError.TheVariants.{Read, Write}
use Rattle.history.specs.Runs.{EndsRun}
use Rattle.std.proofs.lemmas.Bool.{or_parts, not-false}

-- ---- steps

pub steps_then : (old mid new : Repository) (commands more : List Command) (replies others : List Reply) → Steps old commands replies mid → some_failed commands replies ≡ false
    → Steps mid more others new → Steps old (commands ++ more) (replies ++ others) new
steps_then old mid new [] more [] others h f k = subst (λ r. Steps r more others new) h k
steps_then old mid new [] more (reply ∷ replies) others h f k = absurd h
steps_then old mid new (command ∷ commands) more [] others h f k = absurd h
steps_then old mid new (command ∷ commands) more (reply ∷ replies) others h f k =
    let unfailed = or_parts (not (goes_on command reply)) (some_failed commands replies) f in
    (h.0, h.1, inl (not-false (goes_on command reply) unfailed.0), steps_then h.0 mid new commands more replies others h.3 unfailed.1 k)

-- if none of the first commands failed, one of all failed exactly if one of the later ones did
pub fails_then : (old mid : Repository) (commands more : List Command) (replies others : List Reply) → Steps old commands replies mid → some_failed commands replies ≡ false
    → some_failed (commands ++ more) (replies ++ others) ≡ some_failed more others
fails_then old mid [] more [] others h f = refl
fails_then old mid [] more (reply ∷ replies) others h f = absurd h
fails_then old mid (command ∷ commands) more [] others h f = absurd h
fails_then old mid (command ∷ commands) more (reply ∷ replies) others h f =
    let unfailed = or_parts (not (goes_on command reply)) (some_failed commands replies) f in
    ap (λ b. b || some_failed (commands ++ more) (replies ++ others)) unfailed.0 ∙ fails_then h.0 mid commands more replies others h.3 unfailed.1

-- ---- texts

texts_then : {X : Type 0} (text : X → Bytes) (xs ys : List X) (a b rest : Bytes) → a ≡ flat_map text xs ++ [] → b ≡ flat_map text ys ++ rest → a ++ b ≡ flat_map text (xs ++ ys) ++ rest
texts_then text xs ys a b rest e f =
    ap (λ zs. zs ++ b) (e ∙ append-nil (flat_map text xs)) ∙ ap (λ zs. flat_map text xs ++ zs) f ∙ sym (append_assoc (flat_map text xs) (flat_map text ys) rest)
    ∙ ap (λ zs. zs ++ rest) (sym (flat_map-append text xs ys))

known_then : (commands more : List Command) → IsTrue (list_all is_command commands) → IsTrue (list_all is_command more) → IsTrue (list_all is_command (commands ++ more))
known_then commands more h k = list_all-append is_command commands more ∙ ap (λ b. b && list_all is_command more) h ∙ k

faults_then : {C D E : Type 0} → (C → E) → (D → E) → (replies others : List Reply) → AllByRecursion (λ reply. reply ≡ Faulted File → C) replies
    → AllByRecursion (λ reply. reply ≡ Faulted File → D) others → AllByRecursion (λ reply. reply ≡ Faulted File → E) (replies ++ others)
faults_then c d [] [] h k = tt
faults_then c d [] (reply ∷ others) h k = (λ e. d (k.0 e), faults_then c d [] others tt k.1)
faults_then c d (reply ∷ replies) others h k = (λ e. c (h.0 e), faults_then c d replies others h.1 k)

-- ---- commands in a row

pub ran_none : (C : Type 0) (old : Repository) (rest last : Bytes) → Ran C old [] [] rest last rest last false old
ran_none C old rest last = record {
  splits = record { known = refl; split = refl };
  steps = refl;
  fails = refl;
  written = refl;
  file_faults = tt;
}

pub ran_one : (C : Type 0) (old new : Repository) (read written : Bytes) (command : Command) (reply : Reply) (rest : Bytes) (failed : Bool)
    → read ≡ spelling command ++ rest → written ≡ reply_text reply → IsTrue (is_command command) → Step old command reply new
    → failed ≡ some_failed (command ∷ []) (reply ∷ []) → (reply ≡ Faulted File → C) → Ran C old (command ∷ []) (reply ∷ []) read written rest [] failed new
ran_one C old new read written command reply rest failed e f known step fails file = record {
  splits = record { known = ap (λ b. b && true) known; split = e ∙ ap (λ zs. zs ++ rest) (sym (append-nil (spelling command))) };
  steps = (new, step, inr refl, refl);
  fails = fails;
  written = f ∙ sym (append-nil (reply_text reply)) ∙ sym (append-nil (reply_text reply ++ []));
  file_faults = (file, tt);
}

pub ran_then : (C D E : Type 0) (old mid new : Repository) (commands more : List Command) (replies others : List Reply) (read following written texts rest last : Bytes) (failed : Bool) → (C → E) → (D → E)
    → Ran C old commands replies read written [] [] false mid → Ran D mid more others following texts rest last failed new
    → Ran E old (commands ++ more) (replies ++ others) (read ++ following) (written ++ texts) rest last failed new
ran_then C D E old mid new commands more replies others read following written texts rest last failed c d h k = record {
  splits = record {
    known = known_then commands more (h.splits).known (k.splits).known;
    split = texts_then spelling commands more read following rest (h.splits).split (k.splits).split;
  };
  steps = steps_then old mid new commands more replies others h.steps (sym h.fails) k.steps;
  fails = k.fails ∙ sym (fails_then old mid commands more replies others h.steps (sym h.fails));
  written = texts_then reply_text replies others written texts last h.written k.written;
  file_faults = faults_then c d replies others h.file_faults k.file_faults;
}

-- ---- ends

cut_then : (L M : Type 0) (Empty Short : Type 0) → (L → M) → Empty ⊎ Short ⊎ L → Empty ⊎ Short ⊎ M
cut_then L M Empty Short m (inl e) = inl e
cut_then L M Empty Short m (inr (inl s)) = inr (inl s)
cut_then L M Empty Short m (inr (inr l)) = inr (inr (m l))

short_then : (AtEnd D E : Type 0) (old : Repository) (commands : List Command) (replies : List Reply) (rest part : Bytes) (failed : Bool) (new : Repository) → (D → E)
    → CutsShort AtEnd D old commands replies rest part failed new → CutsShort AtEnd E old commands replies rest part failed new
short_then AtEnd D E old (command ∷ []) (reply ∷ []) rest part failed new d h = (h.0, h.1, h.2, h.3, h.4, λ e. d (h.5 e), h.6)
short_then AtEnd D E old [] [] rest part failed new d h = h
short_then AtEnd D E old [] (reply ∷ replies) rest part failed new d h = absurd h
short_then AtEnd D E old (command ∷ []) [] rest part failed new d h = absurd h
short_then AtEnd D E old (command ∷ []) (reply ∷ other ∷ replies) rest part failed new d h = absurd h
short_then AtEnd D E old (command ∷ next ∷ commands) [] rest part failed new d h = absurd h
short_then AtEnd D E old (command ∷ next ∷ commands) (reply ∷ replies) rest part failed new d h = absurd h

-- what ends after commands in a row ends after all of them
pub ends_then : (AtEnd L M C D E : Type 0) (old mid new : Repository) (commands more : List Command) (replies others : List Reply) (read following written texts : Bytes) (result : Result End RunError) (failed : Bool)
    → (L → M) → (C → E) → (D → E) → Ran C old commands replies read written [] [] false mid → EndsRun AtEnd L D mid more others following texts result failed new
    → EndsRun AtEnd M E old (commands ++ more) (replies ++ others) (read ++ following) (written ++ texts) result failed new
ends_then AtEnd L M C D E old mid new commands more replies others read following written texts (Ok end) failed m c d h k = record {
  rest = k.rest;
  last = k.last;
  ran = ran_then C D E old mid new commands more replies others read following written texts k.rest k.last failed c d h k.ran;
  ends = k.ends;
}
ends_then AtEnd L M C D E old mid new commands more replies others read following written texts (Err Read) failed m c d h k = record {
  rest = k.rest;
  ran = ran_then C D E old mid new commands more replies others read following written texts k.rest [] failed c d h k.ran;
  unfailed = k.unfailed;
  cut = cut_then L M _ _ m k.cut;
}
ends_then AtEnd L M C D E old mid new commands more replies others read following written texts (Err Write) failed m c d h k = record {
  answered = commands ++ k.answered;
  written = replies ++ k.written;
  last = k.last;
  cut_off = k.cut_off;
  all = (
    ap (λ cs. commands ++ cs) k.all.0 ∙ sym (append_assoc commands k.answered k.last),
    ap (λ rs. replies ++ rs) k.all.1 ∙ sym (append_assoc replies k.written k.cut_off),
  );
  rest = k.rest;
  part = k.part;
  mid = k.mid;
  ran = ran_then C D E old mid k.mid commands k.answered replies k.written read following written texts k.rest k.part false c d h k.ran;
  cut = short_then AtEnd D E k.mid k.last k.cut_off k.rest k.part failed new d k.cut;
}

-- ---- streams

-- a byte follows if a reading said so, whatever its error was made to
pub more_from : {E D : Type 0} (result : Result Bool E) (told : Result Bool D) (P Q : Type 0) (Else : E → Type 0) → told ≡ Ok true → is_ok told ≡ is_ok result
    → MatchResult result (λ x. told ≡ Ok x) Else → IfOk result (λ is_more. MatchBool is_more P Q) → P
more_from (Ok true) told P Q Else e v k h = h
more_from (Ok false) told P Q Else e v k h = absurd cc
more_from (Err x) told P Q Else e v k h = absurd (cc (ap is_ok e, v))

pub appends_same : (a : Option (List ℕ)) → Appends a a []
appends_same None = tt
appends_same (Some xs) = sym (append-nil xs)

pub appends_then : (a b c : Option (List ℕ)) (xs ys : List ℕ) → Appends a b xs → Appends b c ys → Appends a c (xs ++ ys)
appends_then None b c xs ys h k = tt
appends_then (Some ks) None c xs ys h k = absurd h
appends_then (Some ks) (Some ls) None xs ys h k = k
appends_then (Some ks) (Some ls) (Some ms) xs ys h k = k ∙ ap (λ zs. zs ++ ys) h ∙ append_assoc ks xs ys

-- what came is what the source gave, if the buffer was empty
pub consumed : {S : Type 0} (left : S → Option (List ℕ)) (readings : S → ℕ) (s : S) (b : Buffer) (t : S) (c : Buffer) (bytes : List ℕ)
    → unread b ≡ [] → Came left readings s b t c bytes → Consumes (left s) (left t) bytes
consumed left readings s b t c bytes e h = subst (Consumes (left s) (left t)) (ap (λ xs. xs ++ h.more) (sym e) ∙ h.same) h.came

-- what came after the buffer had bytes is not nothing
pub some_came : {S : Type 0} (left : S → Option (List ℕ)) (readings : S → ℕ) (s : S) (b : Buffer) (t : S) (c : Buffer) (bytes : List ℕ)
    → 0 < length (unread b) → Came left readings s b t c bytes → bytes ≢ []
some_came left readings s b t c bytes h k e = omega (arith, ap length (k.same ∙ e), length-append (unread b) k.more)
