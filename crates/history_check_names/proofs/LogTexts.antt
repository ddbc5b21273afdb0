-- Texts of logs: what their lines say, and when they begin with no move's line.
use Rattle.std.proofs.Common.{◌≡◌, ◌≢◌, ℕ, ◌<◌, ◌≤◌, Bool, true, false, not, ◌&&◌, ◌||◌, List, [], ◌∷◌, ◌++◌, length, take, drop, reverse, refl, sym, ◌∙◌, ap, subst, arith, append_assoc, append-nil, length-append, take-append-drop, nat_le, ◌==◌, Option, Some, None, is_some}
use Rattle.std.specs.Bool.{Decides}
use Rattle.std.specs.List.{flat_map, list_all}
use Rattle.std.specs.Prelude.{IsTrue, MatchOption}
use Rattle.std.proofs.lemmas.Bool.{or_parts, and_parts}
use Rattle.std.proofs.lemmas.Bool.Decides.{nat_tests}
use Rattle.std.proofs.lemmas.List.{append_cancel_right, reverse-append, take-append-le}
use Rattle.gix_hash.specs.Id.{Id}
use Rattle.gix_hash.specs.declared.kind.Kind.{Kind}
use Rattle.history_model.specs.Bytes.{Bytes, line, has_byte}
use Rattle.history_model.specs.Forms.{is_id, is_actor, is_log_entry, max_title}
use Rattle.history_model.specs.Logs.{log_line}
use Rattle.history_model.specs.Objects.{Actor, hex, actor_text}
use Rattle.history_model.specs.Repository.{LogEntry}
use Rattle.history_model.specs.PackedNames.{id_from_hex}
use Rattle.history_model.proofs.IdLemmas.{id_from_hex-hex, id_from_hex-is_id}
use Rattle.history_model.proofs.OnePairLines.{entry_parts, line_more}
use Rattle.history_model.proofs.OnePairTexts.{hex_high, actor_no_tab, actor_one_line, none_in}
use Rattle.history_model.proofs.PartLemmas.{split_at, one_is_in}
use Rattle.history_check_names.specs.Logs.{BeginsWithNoLine, BeginsWithLongLine, SpellsEntry, Parts, AreParts, IsUncut, TellsLower, TellsIds, max_log_line}

-- ---- bytes that aren't there

pub left_lacks : (d : ℕ) (s t : Bytes) → has_byte d (s ++ t) ≡ false → has_byte d s ≡ false
left_lacks d [] t h = refl
left_lacks d (b ∷ s) t h =
    let parts = or_parts (b == d) (has_byte d (s ++ t)) h in
    λ i. parts.0 i || left_lacks d s t parts.1 i

pub right_lacks : (d : ℕ) (s t : Bytes) → has_byte d (s ++ t) ≡ false → has_byte d t ≡ false
right_lacks d [] t h = h
right_lacks d (b ∷ s) t h = right_lacks d s t (or_parts (b == d) (has_byte d (s ++ t)) h).1

-- ---- a move's line

-- without its line feed
abbrev pub body : LogEntry → Bytes
body entry = hex entry.before ++ 32 ∷ hex entry.after ++ 32 ∷ actor_text entry.actor ++ 9 ∷ entry.message

shape : (b a w m : Bytes) → b ++ 32 ∷ a ++ 32 ∷ w ++ 9 ∷ m ≡ b ++ 32 ∷ (a ++ 32 ∷ (w ++ 9 ∷ m))
shape b a w m = append_assoc (b ++ 32 ∷ a) (32 ∷ w) (9 ∷ m) ∙ append_assoc b (32 ∷ a) (32 ∷ (w ++ 9 ∷ m))

abbrev parts_in : LogEntry → Parts
parts_in entry = record { before = hex entry.before; after = hex entry.after; actor = actor_text entry.actor; message = entry.message }

-- a move's line is its parts
entry_cut : (kind : Kind) (entry : LogEntry) → is_log_entry kind entry ≡ true → AreParts (parts_in entry) (body entry)
entry_cut kind entry is =
    let parts = entry_parts kind entry is in
    record {
      spelled = shape (hex entry.before) (hex entry.after) (actor_text entry.actor) entry.message;
      before = hex_high 32 (omega arith) kind entry.before parts.before;
      after = hex_high 32 (omega arith) kind entry.after parts.after;
      actor = actor_no_tab entry.actor parts.actor;
    }

-- it has no line feed
pub body_lacks : (kind : Kind) (entry : LogEntry) → is_log_entry kind entry ≡ true → has_byte 10 (body entry) ≡ false
body_lacks kind entry is =
    let parts = entry_parts kind entry is in
    none_in 10 (hex entry.before ++ 32 ∷ hex entry.after ++ 32 ∷ actor_text entry.actor) (9 ∷ entry.message)
    (none_in 10 (hex entry.before ++ 32 ∷ hex entry.after) (32 ∷ actor_text entry.actor)
    (none_in 10 (hex entry.before) (32 ∷ hex entry.after) (hex_high 10 (omega arith) kind entry.before parts.before) (hex_high 10 (omega arith) kind entry.after parts.after))
    (actor_one_line entry.actor parts.actor))
    parts.message

-- what is a line is the line's body
is_body : (text : Bytes) (entry : LogEntry) → line text ≡ log_line entry → text ≡ body entry
is_body text entry same = append_cancel_right text (body entry) (10 ∷ []) same

-- ---- one line

-- one text has one list of parts
record SameParts (a b : Parts) : Type 0 where
  before : a.before ≡ b.before
  after : a.after ≡ b.after
  actor : a.actor ≡ b.actor
  message : a.message ≡ b.message

parts_same : (a b : Parts) (text : Bytes) → AreParts a text → AreParts b text → SameParts a b
parts_same a b text p q =
    let first = split_at 32 a.before b.before (a.after ++ 32 ∷ (a.actor ++ 9 ∷ a.message)) (b.after ++ 32 ∷ (b.actor ++ 9 ∷ b.message)) p.before q.before (sym p.spelled ∙ q.spelled) in
    let second = split_at 32 a.after b.after (a.actor ++ 9 ∷ a.message) (b.actor ++ 9 ∷ b.message) p.after q.after first.1 in
    let third = split_at 9 a.actor b.actor a.message b.message p.actor q.actor second.1 in
    record { before = first.0; after = second.0; actor = third.0; message = third.1 }

-- the parts of a text that is a move's line are the move's
parts_are : (kind : Kind) (text : Bytes) (entry : LogEntry) (parts : Parts) → is_log_entry kind entry ≡ true → line text ≡ log_line entry → AreParts parts text → SameParts parts (parts_in entry)
parts_are kind text entry parts is same cut = parts_same parts (parts_in entry) text cut (subst (AreParts (parts_in entry)) (sym (is_body text entry same)) (entry_cut kind entry is))

-- what isn't cut spells no move
pub uncut_tells_none : (kind : Kind) (text : Bytes) → IsUncut text → SpellsEntry kind text false
uncut_tells_none kind text uncut = λ entry is same. uncut (parts_in entry) (subst (AreParts (parts_in entry)) (sym (is_body text entry same)) (entry_cut kind entry is))

pub no_ids_tell_none : (kind : Kind) (text : Bytes) (parts : Parts) → AreParts parts text → TellsIds kind parts false → SpellsEntry kind text false
no_ids_tell_none kind text parts cut none = λ entry is same.
    let are = parts_are kind text entry parts is same cut in
    let formed = entry_parts kind entry is in
    none (entry.before, formed.before, are.before) (entry.after, formed.after, are.after)

pub long_tells_none : (kind : Kind) (text : Bytes) (parts : Parts) → AreParts parts text → max_title < length parts.message → SpellsEntry kind text false
long_tells_none kind text parts cut long = λ entry is same.
    let are = parts_are kind text entry parts is same cut in
    let fits = (and_parts (is_id kind entry.before && is_id kind entry.after && is_actor entry.actor && not (has_byte 10 entry.message)) (nat_le (length entry.message) max_title) is).1 in
    too_long (length entry.message) fits (subst (λ m. max_title < length m) are.message long)
  where
    too_long : (n : ℕ) → nat_le n max_title ≡ true → max_title < n → ⊥
    too_long n fits long = absurd (grind (arith, nat_tests))

pub no_actor_tells_none : (kind : Kind) (text : Bytes) (parts : Parts) → AreParts parts text → ((actor : Actor) → IsTrue (is_actor actor) → parts.actor ≢ actor_text actor) → SpellsEntry kind text false
no_actor_tells_none kind text parts cut none = λ entry is same. none entry.actor (entry_parts kind entry is).actor (parts_are kind text entry parts is same cut).actor

-- parts that are a move's spell it
pub parts_tell : (kind : Kind) (text : Bytes) (parts : Parts) (actor : Actor) → has_byte 10 text ≡ false → AreParts parts text → TellsIds kind parts true → length parts.message ≤ max_title
    → parts.actor ≡ actor_text actor → IsTrue (is_actor actor) → SpellsEntry kind text true
parts_tell kind text parts actor lacks cut ids fits spelled formed =
    let entry : LogEntry = record { before = (ids.0).0; after = (ids.1).0; actor = actor; message = parts.message } in
    let one_line = right_lacks 10 (parts.before ++ 32 ∷ parts.after ++ 32 ∷ parts.actor ++ 9 ∷ []) parts.message
    (ap (has_byte 10) (append_assoc (parts.before ++ 32 ∷ parts.after ++ 32 ∷ parts.actor) (9 ∷ []) parts.message ∙ shape parts.before parts.after parts.actor parts.message ∙ sym cut.spelled) ∙ lacks) in (
      entry,
      all_of (is_id kind entry.before) (is_id kind entry.after) (is_actor actor) (has_byte 10 parts.message) (nat_le (length parts.message) max_title) (ids.0).1 (ids.1).1 formed one_line (short (length parts.message) fits),
      ap line (cut.spelled ∙ sym (shape parts.before parts.after parts.actor parts.message) ∙ (λ i. (ids.0).2 i ++ 32 ∷ (ids.1).2 i ++ 32 ∷ spelled i ++ 9 ∷ parts.message)),
    )
  where
    short : (n : ℕ) → n ≤ max_title → nat_le n max_title ≡ true
    short n fits = grind (arith, nat_tests)

    all_of : (a b c d e : Bool) → a ≡ true → b ≡ true → c ≡ true → d ≡ false → e ≡ true → (a && b && c && not d && e) ≡ true
    all_of a b c d e p q r s t = λ i. p i && q i && r i && not (s i) && t i

-- the text spells a move exactly if a reader of actors finds one in its third part
pub actor_told : {X : Type 0} (kind : Kind) (text : Bytes) (parts : Parts) (actor_in : X → Actor) (found : Option X) (b : Bool) → has_byte 10 text ≡ false → AreParts parts text → TellsIds kind parts true → length parts.message ≤ max_title
    → MatchOption found ((actor : Actor) → IsTrue (is_actor actor) → parts.actor ≢ actor_text actor) (λ x. (parts.actor ≡ actor_text (actor_in x)) × IsTrue (is_actor (actor_in x))) → b ≡ is_some found → SpellsEntry kind text b
actor_told kind text parts actor_in None true lacks cut ids fits told is = absurd (cc is)
actor_told kind text parts actor_in None false lacks cut ids fits told is = no_actor_tells_none kind text parts cut told
actor_told kind text parts actor_in (Some x) true lacks cut ids fits told is = parts_tell kind text parts (actor_in x) lacks cut ids fits told.0 told.1
actor_told kind text parts actor_in (Some x) false lacks cut ids fits told is = absurd (cc is)

-- ---- parts

-- a text without a space is no parts
pub no_first : (text : Bytes) → has_byte 32 text ≡ false → IsUncut text
no_first text lacks = λ parts cut. absurd (cc (sym lacks ∙ ap (has_byte 32) cut.spelled ∙ one_is_in 32 parts.before (parts.after ++ 32 ∷ (parts.actor ++ 9 ∷ parts.message))))

-- one whose first space is its last
pub no_second : (text before rest : Bytes) → text ≡ before ++ 32 ∷ rest → has_byte 32 before ≡ false → has_byte 32 rest ≡ false → IsUncut text
no_second text before rest is lacks none = λ parts cut.
    let first = split_at 32 before parts.before rest (parts.after ++ 32 ∷ (parts.actor ++ 9 ∷ parts.message)) lacks cut.before (sym is ∙ cut.spelled) in
    absurd (cc (sym none ∙ ap (has_byte 32) first.1 ∙ one_is_in 32 parts.after (parts.actor ++ 9 ∷ parts.message)))

-- one without a tab after its second space
pub no_third : (text before after rest : Bytes) → text ≡ before ++ 32 ∷ (after ++ 32 ∷ rest) → has_byte 32 before ≡ false → has_byte 32 after ≡ false → has_byte 9 rest ≡ false → IsUncut text
no_third text before after rest is lacks free none = λ parts cut.
    let first = split_at 32 before parts.before (after ++ 32 ∷ rest) (parts.after ++ 32 ∷ (parts.actor ++ 9 ∷ parts.message)) lacks cut.before (sym is ∙ cut.spelled) in
    let second = split_at 32 after parts.after rest (parts.actor ++ 9 ∷ parts.message) free cut.after first.1 in
    absurd (cc (sym none ∙ ap (has_byte 9) second.1 ∙ one_is_in 9 parts.actor parts.message))

-- ---- ids

-- what is no id's digits in either letter case is none's in lower case
pub no_lower : (kind : Kind) (text : Bytes) → id_from_hex kind text ≡ None → TellsLower kind text false
no_lower kind text none = λ spelled. let wrong : None ≡ Some spelled.0 = sym none ∙ ap (id_from_hex kind) spelled.2 ∙ id_from_hex-hex kind spelled.0 spelled.1 in absurd (cc wrong)

-- an id's digits are in lower case exactly if they are as it is written
pub lower_so : (kind : Kind) (text : Bytes) (id : Id) (written : Bytes) (b : Bool) → id_from_hex kind text ≡ Some id → written ≡ hex id → Decides b (written ≡ text) → TellsLower kind text b
lower_so kind text id written true reads is same = (id, id_from_hex-is_id kind text id reads, sym (same.0 refl) ∙ is)
lower_so kind text id written false reads is same = λ spelled.
    let found : Some id ≡ Some spelled.0 = sym reads ∙ ap (id_from_hex kind) spelled.2 ∙ id_from_hex-hex kind spelled.0 spelled.1 in
    let one : id ≡ spelled.0 = cc in
    absurd (cc (same.1 (is ∙ ap hex one ∙ sym spelled.2)))

pub first_denied : (kind : Kind) (parts : Parts) (b : Bool) → TellsLower kind parts.before b → b ≡ false → TellsIds kind parts false
first_denied kind parts true told is = absurd (cc is)
first_denied kind parts false told is = λ first second. told first

pub both_told : (kind : Kind) (parts : Parts) (a b : Bool) → TellsLower kind parts.before a → a ≡ true → TellsLower kind parts.after b → TellsIds kind parts b
both_told kind parts true true first is second = (first, second)
both_told kind parts true false first is second = λ before after. second after
both_told kind parts false b first is second = absurd (cc is)

-- ---- the first line of a text

-- a text without a line feed begins with no move's line
pub no_feed : (kind : Kind) (text : Bytes) → has_byte 10 text ≡ false → BeginsWithNoLine kind text
no_feed kind text lacks = λ entry more is same. absurd (cc (sym lacks ∙ ap (has_byte 10) (same ∙ line_more (body entry) more) ∙ one_is_in 10 (body entry) more))

pub long_fails : (text front behind : Bytes) → text ≡ front ++ 10 ∷ behind → has_byte 10 front ≡ false → max_log_line ≤ length front → BeginsWithLongLine text
long_fails text front behind cut lacks long = record {
  longer = omega (arith, ap length cut, length-append front (10 ∷ behind));
  endless = ap (λ t. has_byte 10 (take max_log_line t)) cut ∙ ap (has_byte 10) (take-append-le max_log_line front (10 ∷ behind) long)
      ∙ left_lacks 10 (take max_log_line front) (drop max_log_line front) (ap (has_byte 10) (take-append-drop max_log_line front) ∙ lacks);
}

pub bad_fails : (kind : Kind) (text front behind : Bytes) → text ≡ front ++ 10 ∷ behind → has_byte 10 front ≡ false → SpellsEntry kind front false → BeginsWithNoLine kind text
bad_fails kind text front behind cut lacks none = λ entry more is same.
    let parts = split_at 10 front (body entry) behind more lacks (body_lacks kind entry is) (sym cut ∙ same ∙ line_more (body entry) more) in
    none entry is (ap line parts.0)

pub good_taken : (kind : Kind) (text front behind : Bytes) → text ≡ front ++ 10 ∷ behind → SpellsEntry kind front true → (entry : LogEntry) × IsTrue (is_log_entry kind entry) × (text ≡ log_line entry ++ behind)
good_taken kind text front behind cut told = (told.0, told.1, cut ∙ sym (line_more front behind) ∙ ap (λ t. t ++ behind) told.2)

-- ---- lists of moves

pub lines_more : (xs : List LogEntry) (x : LogEntry) (rest : Bytes) → flat_map log_line (xs ++ x ∷ []) ++ rest ≡ flat_map log_line xs ++ (log_line x ++ rest)
lines_more [] x rest = ap (λ t. t ++ rest) (append-nil (log_line x))
lines_more (y ∷ xs) x rest =
    append_assoc (log_line y) (flat_map log_line (xs ++ x ∷ [])) rest ∙ ap (λ t. log_line y ++ t) (lines_more xs x rest)
    ∙ sym (append_assoc (log_line y) (flat_map log_line xs) (log_line x ++ rest))

pub all_more : {X : Type 0} (p : X → Bool) (xs : List X) (x : X) → list_all p xs ≡ true → p x ≡ true → list_all p (xs ++ x ∷ []) ≡ true
all_more p [] x all is = λ i. is i && true
all_more p (y ∷ xs) x all is = let parts = and_parts (p y) (list_all p xs) all in λ i. parts.0 i && all_more p xs x parts.1 is i

pub all_reverse : {X : Type 0} (p : X → Bool) (xs : List X) → list_all p xs ≡ true → list_all p (reverse xs) ≡ true
all_reverse p [] all = refl
all_reverse p (x ∷ xs) all =
    let parts = and_parts (p x) (list_all p xs) all in
    ap (list_all p) (reverse-append (x ∷ []) xs) ∙ all_more p (reverse xs) x (all_reverse p xs parts.1) parts.0
