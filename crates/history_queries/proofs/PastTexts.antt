-- The text of a name's moves, by the lines of its log.
use Rattle.std.proofs.Common.{◌≡◌, true, List, [], ◌∷◌, ◌++◌, map, reverse, length, sym, ◌∙◌, ap, arith, Bor}
use Rattle.std.specs.Prelude.{codes, decimal}
use Rattle.std.specs.List.{All, flat_map, list_all}
use Rattle.std.proofs.lemmas.Bool.{and_parts}
use Rattle.std.proofs.lemmas.List.{append-nil, length-map}
use Rattle.std.proofs.lemmas.List.Elements.{All-nil, All-cons}
use Rattle.std.proofs.lemmas.List.Folds.{flat_map-map}
use Rattle.gix_hash.specs.declared.kind.Kind.{Kind}
use Rattle.gix_object_lines.specs.Bytes.{Lacks}
use Rattle.history_model.specs.Bytes.{Bytes, line}
use Rattle.history_model.specs.Objects.{hex, actor_text}
use Rattle.history_model.specs.Repository.{LogEntry}
use Rattle.history_model.specs.Forms.{is_log_entry}
use Rattle.history_model.specs.Logs.{log_line, log_text}
use Rattle.history_model.specs.Spelling.{part_text, parts_text}
use Rattle.history_model.specs.Replies.{ok, reply_text, PastIs}
use Rattle.history_model.proofs.OnePairLines.{entry_parts}
use Rattle.history_model.proofs.OnePairTexts.{actor_one_line, hex_high, none_in}
use Rattle.history_texts.proofs.LogLines.{map-reverse}

-- a move's line without its line feed
body_of : LogEntry → Bytes
body_of entry = hex entry.before ++ 32 ∷ hex entry.after ++ 32 ∷ actor_text entry.actor ++ 9 ∷ entry.message

one_line : (kind : Kind) (entry : LogEntry) → is_log_entry kind entry ≡ true → Lacks 10 (body_of entry)
unfolding body_of
one_line kind entry h =
    let parts = entry_parts kind entry h in
    none_in 10 (hex entry.before ++ 32 ∷ hex entry.after ++ 32 ∷ actor_text entry.actor) (9 ∷ entry.message)
    (none_in 10 (hex entry.before ++ 32 ∷ hex entry.after) (32 ∷ actor_text entry.actor)
    (none_in 10 (hex entry.before) (32 ∷ hex entry.after) (hex_high 10 (omega arith) kind entry.before parts.before) (hex_high 10 (omega arith) kind entry.after parts.after))
    (actor_one_line entry.actor parts.actor)) parts.message

lines_are : (moves : List LogEntry) → flat_map line (map body_of moves) ≡ flat_map log_line moves
unfolding body_of
lines_are moves = flat_map-map line body_of moves

pub bodies : List LogEntry → List Bytes
bodies moves = map body_of moves

pub bodies_lack : (kind : Kind) (moves : List LogEntry) → list_all (is_log_entry kind) moves ≡ true → All (Lacks 10) (bodies moves)
unfolding bodies
bodies_lack kind [] h = All-nil (Lacks 10)
bodies_lack kind (move ∷ moves) h =
    let parts = and_parts (is_log_entry kind move) (list_all (is_log_entry kind) moves) h in
    All-cons (Lacks 10) (body_of move) (bodies moves) (one_line kind move parts.0) (bodies_lack kind moves parts.1)

pub log_of_bodies : (moves : List LogEntry) → log_text moves ≡ flat_map line (reverse (bodies moves))
unfolding bodies
log_of_bodies moves = sym (lines_are (reverse moves)) ∙ ap (flat_map line) (map-reverse body_of moves)

-- a heading, and then the lines that were found
pub past_told : (moves : List LogEntry) (found : List (Bor Bytes)) (heading text : Bytes) → map (λ entry. entry.now) found ≡ bodies moves → heading ≡ part_text (ok (codes "past" ∷ decimal (length found) ∷ []))
    → text ≡ heading ++ flat_map (λ entry. line entry.now) found → text ≡ reply_text (PastIs moves)
unfolding bodies
past_told moves found heading text are is_heading is_text =
    let count : length found ≡ length moves = sym (length-map found (λ (entry : Bor Bytes). entry.now)) ∙ ap length are ∙ length-map moves body_of in
    let start : heading ≡ parts_text (ok (codes "past" ∷ decimal (length moves) ∷ []) ∷ []) =
    is_heading ∙ ap (λ n. part_text (ok (codes "past" ∷ decimal n ∷ []))) count ∙ sym (append-nil (part_text (ok (codes "past" ∷ decimal (length moves) ∷ [])))) in
    let lines : flat_map (λ (entry : Bor Bytes). line entry.now) found ≡ flat_map log_line moves =
    sym (flat_map-map line (λ (entry : Bor Bytes). entry.now) found) ∙ ap (flat_map line) are ∙ lines_are moves in
    is_text ∙ (λ i. start i ++ lines i)
