-- The text of a log while a line is appended, and what recovery leaves of a file.
use Rattle.std.proofs.Common.{◌≡◌, ◌⊎◌, inl, inr, ℕ, zero, suc, Bool, true, false, cond, ◌&&◌, ◌||◌, List, [], ◌∷◌, ◌++◌, take, refl, sym, ◌∙◌, ap, Option, Some, None, option_map, is_some, ◌==◌, append_assoc, arith}
use Rattle.std.specs.List.{flat_map}
use Rattle.std.proofs.lemmas.List.{append-nil}
use Rattle.gix_ref_file.specs.Tree.{file}
use Rattle.history_model.specs.Bytes.{Bytes, has_byte, line}
use Rattle.history_model.specs.Objects.{actor_text, hex}
use Rattle.history_model.specs.Repository.{LogEntry}
use Rattle.history_model.specs.Forms.{is_log_entry}
use Rattle.history_model.specs.Logs.{log_line, whole_lines}
use Rattle.history_model.specs.Recovery.{recovered}
use Rattle.gix_hash.specs.declared.kind.Kind.{Kind}
use Rattle.history_model.proofs.OnePairLines.{entry_parts}
use Rattle.history_model.proofs.OnePairTexts.{hex_high, none_in, actor_one_line}
use Rattle.history_model.proofs.RecoveredLemmas.{after_line, holds}
use Rattle.std.proofs.lemmas.Bool.{or_parts, or_from}

-- ---- texts

take_none : (n : ℕ) → ◌≡◌ {A = Bytes} (take n []) []
take_none zero = refl
take_none (suc n) = refl

-- a beginning of a line is all of it, or has no line feed
cut_or_all : (body : Bytes) → has_byte 10 body ≡ false → (n : ℕ) → (has_byte 10 (take n (line body)) ≡ false) ⊎ (take n (line body) ≡ line body)
cut_or_all body h zero = inl refl
cut_or_all [] h (suc n) = inr (ap (λ t. 10 ∷ t) (take_none n))
cut_or_all (b ∷ body) h (suc n) =
    let parts = or_parts (b == 10) (has_byte 10 body) h in
    elim (cut_or_all body parts.1 n) [
      | inl e ↦ inl (or_from (b == 10) (has_byte 10 (take n (line body))) parts.0 e)
      | inr e ↦ inr (ap (λ t. b ∷ t) e)
    ]

pub none_whole : (text : Bytes) → has_byte 10 text ≡ false → whole_lines text ≡ []
none_whole [] h = refl
none_whole (b ∷ text) h = ap (λ c. cond c (b ∷ whole_lines text) []) h

pub lines_then : (moves : List LogEntry) (more : Bytes) → whole_lines (flat_map log_line moves ++ more) ≡ flat_map log_line moves ++ whole_lines more
lines_then [] more = refl
lines_then (move ∷ moves) more =
    ap whole_lines (append_assoc (log_line move) (flat_map log_line moves) more)
    ∙ after_line _ (flat_map log_line moves ++ more)
    ∙ ap (λ t. log_line move ++ t) (lines_then moves more)
    ∙ sym (append_assoc (log_line move) (flat_map log_line moves) (whole_lines more))

pub whole_line : (entry : LogEntry) → whole_lines (log_line entry) ≡ log_line entry
whole_line entry = ap whole_lines (sym (append-nil (log_line entry))) ∙ after_line _ [] ∙ append-nil (log_line entry)

body_of : LogEntry → Bytes
body_of entry = hex entry.before ++ 32 ∷ hex entry.after ++ 32 ∷ actor_text entry.actor ++ 9 ∷ entry.message

pub one_feed : (kind : Kind) (entry : LogEntry) → is_log_entry kind entry ≡ true → (n : ℕ) → (has_byte 10 (take n (log_line entry)) ≡ false) ⊎ (take n (log_line entry) ≡ log_line entry)
unfolding body_of
one_feed kind entry h n = cut_or_all (body_of entry) plain n
  where
    plain : has_byte 10 (body_of entry) ≡ false
    plain =
        let parts = entry_parts kind entry h in
        none_in 10 (hex entry.before ++ 32 ∷ hex entry.after ++ 32 ∷ actor_text entry.actor) (9 ∷ entry.message)
        (none_in 10 (hex entry.before ++ 32 ∷ hex entry.after) (32 ∷ actor_text entry.actor)
        (none_in 10 (hex entry.before) (32 ∷ hex entry.after) (hex_high 10 (omega arith) kind entry.before parts.before) (hex_high 10 (omega arith) kind entry.after parts.after))
        (actor_one_line entry.actor parts.actor)) parts.message

-- ---- what is left of a file

pub gone_too : (f : Bytes → Bytes) (o : Option Bytes) (b c : Bool) → c ≡ true → cond (is_some o && (b || c)) None (option_map f o) ≡ None
gone_too f None b c e = refl
gone_too f (Some x) true c e = refl
gone_too f (Some x) false true e = refl
gone_too f (Some x) false false e = cc

pub stays : (f : Bytes → Bytes) (o : Option Bytes) (b c : Bool) → b ≡ false → c ≡ false → cond (is_some o && (b || c)) None (option_map f o) ≡ option_map f o
stays f None b c e g = refl
stays f (Some x) true c e g = cc
stays f (Some x) false true e g = cc
stays f (Some x) false false e g = refl
