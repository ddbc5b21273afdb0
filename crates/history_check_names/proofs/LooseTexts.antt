-- What the texts of names' files read as.
use Rattle.std.proofs.Common.{◌≡◌, ◌≢◌, Bool, true, false, cond, ◌-◌, ◌&&◌, [], ◌∷◌, ◌++◌, length, take, drop, Some, None, option_map, unwrap_or, refl, sym, ◌∙◌, ap, codes}
use Rattle.gix_hash.specs.Id.{Id}
use Rattle.gix_hash.specs.declared.kind.Kind.{Kind}
use Rattle.history_model.specs.Bytes.{Bytes, begins, ends, line}
use Rattle.history_model.specs.Forms.{is_name}
use Rattle.history_model.specs.NameStates.{NameState, Holds, Symbolic, Faulty, loose_state, loose_line}
use Rattle.history_model.specs.PackedNames.{id_from_hex, whole_line}
use Rattle.history_model.proofs.FormatLemmas.{ends_so}
use Rattle.history_model.proofs.WholePaths.{begins_parts}
use Rattle.history_layout.proofs.TreeMoves.{line_read}
use Rattle.history_check_names.specs.Sound.{is_symbolic_line}

-- ---- lines

pub symbolic_some : (text name : Bytes) → text ≡ codes "ref: " ++ name → is_name name ≡ is_symbolic_line text
symbolic_some text name is = sym (ap is_symbolic_line is)

pub symbolic_none : (text : Bytes) → ((rest : Bytes) → text ≢ codes "ref: " ++ rest) → false ≡ is_symbolic_line text
symbolic_none text none = by_front (begins (codes "ref: ") text) refl
  where
    by_front : (b : Bool) → begins (codes "ref: ") text ≡ b → false ≡ (b && is_name (drop 5 text))
    by_front true is = absurd (none (drop 5 text) (begins_parts (codes "ref: ") text is))
    by_front false is = refl

-- ---- texts

read_line : (kind : Kind) (text digits : Bytes) → text ≡ line digits → loose_state kind text ≡ loose_line kind digits
read_line kind text digits is = ap (λ o. unwrap_or (option_map (loose_line kind) o) Faulty) (ap whole_line is ∙ line_read digits)

abbrev by_symbol : Kind → Bytes → Bool → NameState
by_symbol kind digits b = cond b (Symbolic (drop 5 digits)) (unwrap_or (option_map Holds (id_from_hex kind digits)) Faulty)

pub symbolic_read : (kind : Kind) (text digits : Bytes) → text ≡ line digits → is_symbolic_line digits ≡ true → (target : Bytes) × (loose_state kind text ≡ Symbolic target)
symbolic_read kind text digits is symbolic = (drop 5 digits, read_line kind text digits is ∙ ap (by_symbol kind digits) symbolic)

pub id_read : (kind : Kind) (text digits : Bytes) (id : Id) → text ≡ line digits → is_symbolic_line digits ≡ false → id_from_hex kind digits ≡ Some id → loose_state kind text ≡ Holds id
id_read kind text digits id is plain reads = read_line kind text digits is ∙ ap (by_symbol kind digits) plain ∙ ap (λ o. unwrap_or (option_map Holds o) Faulty) reads

pub none_read : (kind : Kind) (text digits : Bytes) → text ≡ line digits → is_symbolic_line digits ≡ false → id_from_hex kind digits ≡ None → loose_state kind text ≡ Faulty
none_read kind text digits is plain reads = read_line kind text digits is ∙ ap (by_symbol kind digits) plain ∙ ap (λ o. unwrap_or (option_map Holds o) Faulty) reads

-- a text without a line feed at its end
pub endless_read : (kind : Kind) (text : Bytes) → ((rest : Bytes) → text ≢ rest ++ 10 ∷ []) → loose_state kind text ≡ Faulty
endless_read kind text none = by_end (ends (10 ∷ []) text) refl
  where
    by_end : (b : Bool) → ends (10 ∷ []) text ≡ b → unwrap_or (option_map (loose_line kind) (cond b (Some (take (length text - 1) text)) None)) Faulty ≡ Faulty
    by_end true is = absurd (none (take (length text - 1) text) (ends_so text is))
    by_end false is = refl
