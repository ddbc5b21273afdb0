-- Names among those that move or go, and what their files and records say.
use Rattle.std.proofs.Common.{◌≡◌, inl, inr, Bool, true, false, not, ◌&&◌, ◌||◌, List, [], ◌∷◌, map, refl, sym, ◌∙◌, ap, subst, Option, Some, None, MatchOption, option_map, unwrap_or, bytes_eq, drop}
use Rattle.std.specs.List.{AllByRecursion, list_any, list_all}
use Rattle.std.proofs.lemmas.Bool.{and_parts, or_parts}
use Rattle.gix_ref_file.specs.Tree.{Tree}
use Rattle.gix_hash.specs.declared.kind.Kind.{Kind}
use Rattle.std.specs.FinMap.{get}
use Rattle.history_model.specs.Bytes.{Bytes, line}
use Rattle.history_model.specs.Objects.{hex}
use Rattle.history_model.specs.Repository.{Repository, Reference}
use Rattle.history_model.specs.Forms.{IsWritten, is_id, is_name, is_private, is_reference, is_log_entry}
use Rattle.history_model.specs.Commands.{Command}
use Rattle.history_model.specs.Meaning.{after}
use Rattle.history_model.specs.Places.{file_at, packed_place, log_place, is_log_place}
use Rattle.history_model.specs.NameStates.{Holds, loose_state, name_state}
use Rattle.history_model.proofs.PlaceLemmas.{one_text, texts_apart, apart_texts}
use Rattle.history_model.proofs.WholeLists.{either}
use Rattle.history_layout.specs.EditSteps.{MovedName, moved_name, MovesTo, ShowsMove}
use Rattle.history_layout.proofs.TreeMoves.{id_reads, state_by}
use Rattle.history_layout.proofs.PackedRecords.{packed_read}

-- ---- lists of names

pub none_else : (q : Bytes) (x : Bytes) (xs : Bool) → bytes_eq q x ≡ false → (bytes_eq q x || xs) ≡ true → xs ≡ true
none_else q x xs apart e = sym (ap (λ b. b || xs) apart) ∙ e

pub both_false : (a b : Bool) → a ≡ false → b ≡ false → (a || b) ≡ false
both_false true b e f = cc
both_false false b e f = f

pub find_moved : (P : MovedName → Type 0) (moved : List MovedName) (q : Bytes) → AllByRecursion P moved → list_any (bytes_eq q) (map moved_name moved) ≡ true → (m : MovedName) × (q ≡ m.name) × P m
find_moved P [] q all e = cc
find_moved P (m ∷ moved) q all e = elim (either (bytes_eq q m.name)) [
  | inl same ↦ (m, one_text q m.name same, all.0)
  | inr apart ↦ find_moved P moved q all.1 (none_else q m.name (list_any (bytes_eq q) (map moved_name moved)) apart e)
]

pub zip : (P Q : MovedName → Type 0) (moved : List MovedName) → AllByRecursion P moved → AllByRecursion Q moved → AllByRecursion (λ m. P m × Q m) moved
zip P Q [] p q = tt
zip P Q (m ∷ moved) p q = ((p.0, q.0), zip P Q moved p.1 q.1)

-- what is no log is none of these logs
pub no_logs : (q : Bytes) (xs : List Bytes) → is_log_place q ≡ false → list_any (bytes_eq q) (map log_place xs) ≡ false
no_logs q [] plain = refl
no_logs q (x ∷ xs) plain = both_false (bytes_eq q (log_place x)) (list_any (bytes_eq q) (map log_place xs)) (texts_apart q (log_place x) (λ same. cc (sym plain ∙ ap (λ t. is_log_place t) same))) (no_logs q xs plain)

-- what is no name is none of the moved
pub no_names : (P : MovedName → Type 0) (moved : List MovedName) (q : Bytes) → ((m : MovedName) → P m → is_name m.name ≡ true) → AllByRecursion P moved → is_name q ≡ false → list_any (bytes_eq q) (map moved_name moved) ≡ false
no_names P [] q named all plain = refl
no_names P (m ∷ moved) q named all plain = both_false (bytes_eq q m.name) (list_any (bytes_eq q) (map moved_name moved)) (texts_apart q m.name (λ same. cc (sym plain ∙ ap (λ t. is_name t) same ∙ named m all.0))) (no_names P moved q named all.1 plain)

-- the log of another name is none of these logs
pub other_logs : (q : Bytes) (xs : List Bytes) → list_any (bytes_eq q) xs ≡ false → list_any (bytes_eq (log_place q)) (map log_place xs) ≡ false
other_logs q [] apart = refl
other_logs q (x ∷ xs) apart =
    let parts = or_parts (bytes_eq q x) (list_any (bytes_eq q) xs) apart in
    both_false (bytes_eq (log_place q) (log_place x)) (list_any (bytes_eq (log_place q)) (map log_place xs))
    (texts_apart (log_place q) (log_place x) (λ same. apart_texts q x parts.0 (ap (λ (t : Bytes). drop 5 t) same))) (other_logs q xs parts.1)

pub log_of_any : (path : Bytes) (xs : List Bytes) → list_any (bytes_eq path) (map log_place xs) ≡ true → is_log_place path ≡ true
log_of_any path [] e = cc
log_of_any path (x ∷ xs) e = elim (either (bytes_eq path (log_place x))) [
  | inl same ↦ ap (λ t. is_log_place t) (one_text path (log_place x) same)
  | inr apart ↦ log_of_any path xs (none_else path (log_place x) (list_any (bytes_eq path) (map log_place xs)) apart e)
]

-- ---- states by files and records

pub state_of : (kind : Kind) (t : Tree) (q : Bytes) (o : Option Bytes) → is_name q ≡ true → file_at t q ≡ o → name_state kind t q ≡ unwrap_or (option_map (loose_state kind) o) (packed_read kind q (file_at t packed_place))
state_of kind t q o named e = λ i. state_by kind q (named i) (e i) (file_at t packed_place)

-- if a name's file exists, it alone counts
pub loose_same : (kind : Kind) (old tree : Tree) (q text : Bytes) → is_name q ≡ true → file_at old q ≡ Some text → file_at tree q ≡ file_at old q → name_state kind tree q ≡ name_state kind old q
loose_same kind old tree q text named is same = state_of kind tree q (Some text) named (same ∙ is) ∙ sym (state_of kind old q (Some text) named is)

-- if its file and what is packed of it are as before, so is its state
pub state_kept : (kind : Kind) (old tree : Tree) (q : Bytes) → (is_name q ≡ true → file_at tree q ≡ file_at old q) → packed_read kind q (file_at tree packed_place) ≡ packed_read kind q (file_at old packed_place)
    → name_state kind tree q ≡ name_state kind old q
state_kept kind old tree q same packed = go (is_name q) refl
  where
    go : (b : Bool) → is_name q ≡ b → name_state kind tree q ≡ name_state kind old q
    go false named = ap (λ b. state_by kind q b (file_at tree q) (file_at tree packed_place)) named ∙ sym (ap (λ b. state_by kind q b (file_at old q) (file_at old packed_place)) named)
    go true named =
        state_of kind tree q (file_at old q) named (same named)
        ∙ ap (unwrap_or (option_map (loose_state kind) (file_at old q))) packed ∙ sym (state_of kind old q (file_at old q) named refl)

-- ---- the id that a name moves to

pub id_formed : (r : Repository) (command : Command) → IsWritten (after r command) → (m : MovedName) → MovesTo r command m → is_id r.kind m.entry.after ≡ true
id_formed r command written m to = go (get (after r command).names m.name) refl to.holds
  where
    go : (o : Option Reference) → get (after r command).names m.name ≡ o → option_map (λ (ref : Reference). ref.id) o ≡ Some m.entry.after → is_id r.kind m.entry.after ≡ true
    go None e f = cc
    go (Some ref) e f =
        let parts = and_parts (is_name m.name && not (is_private m.name)) (is_reference r.kind ref) (written.names m.name ref e) in
        subst (λ o. MatchOption o (Unit {0}) (λ id. is_id r.kind id ≡ true)) f ((and_parts (is_id r.kind ref.id) (list_all (is_log_entry r.kind) ref.moves) parts.1).0)

pub shown_moved : (r : Repository) (command : Command) → IsWritten (after r command) → (m : MovedName) → MovesTo r command m → (tree : Tree) → ShowsMove tree m → name_state r.kind tree m.name ≡ Holds m.entry.after
shown_moved r command written m to tree shows =
    state_of r.kind tree m.name (Some (line (hex m.entry.after))) to.named shows ∙ id_reads r.kind m.entry.after (id_formed r command written m to)
