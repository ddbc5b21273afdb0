-- What a move of a name's files does to the half that holds the names.
use Rattle.std.proofs.Common.{◌≡◌, ◌≢◌, ℕ, zero, suc, ◌-◌, ◌<◌, Bool, true, false, cond, not, ◌&&◌, List, [], ◌∷◌, ◌++◌, length, take, drop, reverse, refl, sym, ◌∙◌, ap, subst, arith, Option, Some, None, option_map, unwrap_or, bytes_eq, nat_eq, nat_lt, codes, slice_index, length-append}
use Rattle.std.specs.List.{list_all, flat_map}
use Rattle.std.proofs.lemmas.List.{reverse-append}
use Rattle.std.proofs.lemmas.Grind.{flat_map-append}
use Rattle.std.proofs.Math.Seq.{take-append_seam, drop-append_seam}
use Rattle.hex.specs.Hex.{lower_digits}
use Rattle.gix_ref_file.specs.Tree.{Tree}
use Rattle.history_model.specs.Bytes.{Bytes, begins, ends, line}
use Rattle.history_model.specs.Objects.{Actor, hex}
use Rattle.gix_hash.specs.Id.{Id}
use Rattle.gix_hash.specs.Spelling.{hex_text}
use Rattle.history_model.specs.Repository.{Repository, LogEntry}
use Rattle.history_model.specs.Forms.{is_id, is_name}
use Rattle.history_model.specs.Logs.{log_line, log_text}
use Rattle.history_model.specs.PackedNames.{id_from_hex, whole_line}
use Rattle.history_model.specs.Places.{file_at, head_place, packed_place, log_place, is_log_place}
use Rattle.history_model.specs.NameStates.{NameState, Holds, Symbolic, Absent, Faulty, name_state, loose_state, loose_line, packed_text_state}
use Rattle.gix_hash.specs.declared.kind.Kind.{Kind}
use Rattle.history_model.proofs.IdLemmas.{low_digit, id_digits, id_from_hex-hex}
use Rattle.history_model.proofs.NameLemmas.{name-log}
use Rattle.std.proofs.lemmas.Bool.{and_parts}

-- ---- the id that a name's file holds

-- no digit is the `r` of `ref: `
no_r : (table : Bytes) → list_all (λ c. not (nat_eq 114 c)) table ≡ true → (i : ℕ) → i < length table → nat_eq 114 (slice_index table i) ≡ false
no_r [] h i less = absurd (omega arith)
no_r (c ∷ table) h zero less = turned (nat_eq 114 c) (and_parts (not (nat_eq 114 c)) (list_all (λ c. not (nat_eq 114 c)) table) h).0
  where
    turned : (b : Bool) → not b ≡ true → b ≡ false
    turned true e = cc
    turned false e = refl
no_r (c ∷ table) h (suc i) less = no_r table (and_parts (not (nat_eq 114 c)) (list_all (λ c. not (nat_eq 114 c)) table) h).1 i (omega arith)

no_ref : (digits : Bytes) → list_all (λ d. nat_lt d 16) digits ≡ true → begins (codes "ref: ") (hex_text digits) ≡ false
no_ref [] h = refl
no_ref (d ∷ digits) h = first _ _ (no_r lower_digits refl d (low_digit d (and_parts (nat_lt d 16) (list_all (λ d. nat_lt d 16) digits) h).0))
  where
    first : (a c : Bool) → a ≡ false → (a && c) ≡ false
    first true c e = cc
    first false c e = refl

pub line_read : (text : Bytes) → whole_line (line text) ≡ Some text
line_read text = ap (λ b. cond b (Some (take (length (line text) - 1) (line text))) None) ends_so ∙ ap Some (ap (λ n. take n (line text)) shorter ∙ take-append_seam text (10 ∷ []))
  where
    shorter : length (line text) - 1 ≡ length text
    shorter = let sum = length-append text (10 ∷ []) in omega arith

    ends_so : ends (10 ∷ []) (line text) ≡ true
    ends_so = ap (λ n. bytes_eq (10 ∷ []) (drop n (line text))) shorter ∙ ap (bytes_eq (10 ∷ [])) (drop-append_seam text (10 ∷ []))

pub id_reads : (kind : Kind) (id : Id) → is_id kind id ≡ true → loose_state kind (line (hex id)) ≡ Holds id
id_reads kind id h =
    ap (λ o. unwrap_or (option_map (loose_line kind) o) Faulty) (line_read (hex id))
    ∙ no_symbol (begins (codes "ref: ") (hex id)) _ (no_ref id.digits (id_digits kind id h))
    ∙ ap (λ o. unwrap_or (option_map Holds o) Faulty) (id_from_hex-hex kind id h)
  where
    no_symbol : (a b : Bool) → a ≡ false → cond (a && b) (Symbolic (drop 5 (hex id))) (unwrap_or (option_map Holds (id_from_hex kind (hex id))) Faulty) ≡ unwrap_or (option_map Holds (id_from_hex kind (hex id))) Faulty
    no_symbol true b e = cc
    no_symbol false b e = refl

-- a name's state by its own file and by `packed-refs`
abbrev pub state_by : Kind → Bytes → Bool → Option Bytes → Option Bytes → NameState
state_by kind name named own packed = cond named (unwrap_or (option_map (loose_state kind) own) (unwrap_or (option_map (packed_text_state kind name) packed) Absent)) Absent

pub state_same : (kind : Kind) (old new : Tree) (name : Bytes) → (is_name name ≡ true → file_at new name ≡ file_at old name) → file_at new packed_place ≡ file_at old packed_place → name_state kind new name ≡ name_state kind old name
state_same kind old new name own packed = go (is_name name) refl
  where
    go : (b : Bool) → is_name name ≡ b → name_state kind new name ≡ name_state kind old name
    go false e = ap (λ b. state_by kind name b (file_at new name) (file_at new packed_place)) e ∙ sym (ap (λ b. state_by kind name b (file_at old name) (file_at old packed_place)) e)
    go true e = λ i. state_by kind name (is_name name) (own e i) (packed i)

-- ---- places

pub head_apart : (name : Bytes) → is_name name ≡ true → head_place ≢ name
head_apart name h same = absurd (cc (subst (λ n. is_name n ≡ true) (sym same) h))

pub packed_apart : (name : Bytes) → is_name name ≡ true → packed_place ≢ name
packed_apart name h same = absurd (cc (subst (λ n. is_name n ≡ true) (sym same) h))

no_log : false ≡ true → ⊥
no_log e = cc

pub head_no_log : (name : Bytes) → head_place ≢ log_place name
head_no_log name same = no_log (ap (λ t. is_log_place t) same)

pub packed_no_log : (name : Bytes) → packed_place ≢ log_place name
packed_no_log name same = no_log (ap (λ t. is_log_place t) same)

pub log_no_name : (name other : Bytes) → is_name name ≡ true → log_place other ≢ name
log_no_name name other h same = absurd (cc (ap (λ t. is_log_place t) same ∙ name-log name h))

module _ (r : Repository) (name : Bytes) (id : Id) (actor : Actor) (message : Bytes) where
  pub more_texts : (moves : List LogEntry) (one : LogEntry) → log_text (one ∷ moves) ≡ log_text moves ++ log_line one
  more_texts moves one = ap (flat_map log_line) (reverse-append (one ∷ []) moves) ∙ flat_map-append log_line (reverse moves) (one ∷ []) ∙ ap (λ t. log_text moves ++ t) (alone (log_line one))
    where
      alone : (text : Bytes) → text ++ [] ≡ text
      alone [] = refl
      alone (b ∷ text) = ap (λ t. b ∷ t) (alone text)
