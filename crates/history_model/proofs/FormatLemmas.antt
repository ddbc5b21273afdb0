-- The files of names and logs are in the formats that gix_ref_format reads.
use Rattle.std.proofs.Common.{◌≡◌, ◌-◌, ◌==◌, Bool, true, false, cond, not, ◌&&◌, ◌||◌, [], ◌∷◌, ◌++◌, length, take, drop, refl, sym, ◌∙◌, ap, subst, arith, tests, Option, Some, None, option_map, unwrap_or, bytes_eq, nat_le, codes, append_assoc, append-nil, filter, take-append-drop}
use Rattle.std.specs.Str.{is_utf8}
use Rattle.std.proofs.Math.Seq.{take-append_seam, drop-append_seam}
use Rattle.hex.specs.Hex.{hex_digit_value}
use Rattle.gix_hash.specs.Id.{Id}
use Rattle.gix_hash.specs.Kind.{hex_len}
use Rattle.gix_hash.specs.Spelling.{IsHexOf}
use Rattle.gix_hash.specs.declared.kind.Kind.{Kind}
use Rattle.gix_object_lines.specs.NameTest.{is_partial_name, is_full_name, is_capitals, has_slash}
use Rattle.gix_ref_name.specs.Targets.{ToObject, ToName}
use Rattle.gix_ref_log.specs.LogLine.{line_text as log_line_text}
use Rattle.gix_ref_format.specs.Lookup.{packed_key}
use Rattle.gix_ref_format.specs.Loose.{loose_target, loose_text, referent, leading_id, is_symbolic, ends_word}
use Rattle.gix_ref_format.proofs.WrittenLemmas.{name_reads}
use Rattle.history_model.specs.Bytes.{Bytes, begins, ends, line}
use Rattle.history_model.specs.Forms.{is_name, is_private, max_name}
use Rattle.history_model.specs.laws.Formats.{LooseReadsAlike, RecordsAlike, CandidatesAlike, LinesAlike}
use Rattle.history_model.specs.Objects.{hex, actor_text}
use Rattle.history_model.specs.PackedNames.{id_from_hex}
use Rattle.history_model.specs.NameStates.{NameState, Holds, Symbolic, Faulty, loose_line}
use Rattle.history_model.proofs.IdLemmas.{id_from_hex-tells}
use Rattle.history_model.proofs.WholeLists.{same_text}
use Rattle.history_model.proofs.WholePaths.{begins_parts}
use Rattle.std.proofs.Common.{inl}
use Rattle.std.proofs.lemmas.Bool.{and_from, and_parts}
use Rattle.history_model.proofs.NameLemmas.{some_or}

-- ---- logs

pub lines_alike : LinesAlike
lines_alike entry = shape (hex entry.before) (hex entry.after) (actor_text entry.actor) entry.message
  where
    shape : (b a t m : Bytes) → line (b ++ 32 ∷ a ++ 32 ∷ t ++ 9 ∷ m) ≡ line (log_line_text b a t m)
    shape b a t m = ap (λ front. line (front ++ 9 ∷ m)) (append_assoc b (32 ∷ a) (32 ∷ t))

-- ---- names

-- a name, in the parts of its test
record NameParts (name : Bytes) : Type 0 where
  partial : is_partial_name name ≡ true
  below : name ≡ codes "refs/" ++ drop 5 name

name_parts : (name : Bytes) → is_name name ≡ true → NameParts name
name_parts name h =
    let a = and_parts (is_partial_name name && begins (codes "refs/") name && is_utf8 name) (nat_le (length name) max_name) h in
    let b = and_parts (is_partial_name name && begins (codes "refs/") name) (is_utf8 name) a.0 in
    let c = and_parts (is_partial_name name) (begins (codes "refs/") name) b.0 in
    record { partial = c.0; below = begins_parts (codes "refs/") name c.1 }

slash_below : (rest : Bytes) → has_slash (codes "refs/" ++ rest) ≡ true
slash_below rest = refl

full_of : (name : Bytes) → is_name name ≡ true → is_full_name name ≡ true
full_of name h =
    let parts = name_parts name h in
    and_from (is_partial_name name) (has_slash name || is_capitals name) parts.partial
    (some_or (has_slash name) (is_capitals name) (inl (subst (λ n. has_slash n ≡ true) (sym parts.below) (slash_below (drop 5 name)))))

regrouped : (a b c : Bool) → (((false || a) || b) || c) ≡ ((a || c) || b)
regrouped true b c = refl
regrouped false true true = refl
regrouped false true false = refl
regrouped false false true = refl
regrouped false false false = refl

key_below : (rest : Bytes) → packed_key (codes "refs/" ++ rest) ≡ cond (is_private (codes "refs/" ++ rest)) None (Some (codes "refs/" ++ rest))
key_below rest =
    let name = codes "refs/" ++ rest in
    ap (λ b. cond b None (Some name)) (regrouped (begins (codes "refs/bisect/") name) (begins (codes "refs/rewritten/") name) (begins (codes "refs/worktree/") name))

pub records_alike : RecordsAlike
records_alike name h =
    let below = (name_parts name h).below in
    subst (λ n. packed_key n ≡ cond (is_private n) None (Some n)) (sym below) (key_below (drop 5 name))

-- ---- words

pub candidates_alike : CandidatesAlike
candidates_alike word = λ i. filter (λ name. begins (codes "refs/") name && not (is_private name))
    (word ∷ (codes "refs/" ++ same i) ∷ (codes "refs/tags/" ++ same i) ∷ (codes "refs/heads/" ++ same i) ∷ (codes "refs/remotes/" ++ same i) ∷ behind i ∷ [])
  where
    same : word ≡ word ++ []
    same = sym (append-nil word)

    behind : codes "refs/remotes/" ++ word ++ codes "/HEAD" ≡ codes "refs/remotes/" ++ (word ++ codes "/HEAD")
    behind = append_assoc (codes "refs/remotes/") word (codes "/HEAD")

-- ---- loose files

pub ends_so : (text : Bytes) → ends (10 ∷ []) text ≡ true → text ≡ line (take (length text - 1) text)
ends_so text e =
    sym (take-append-drop (length text - 1) text)
    ∙ ap (λ back. take (length text - 1) text ++ back) (sym (same_text (10 ∷ []) (drop (length text - 1) text) e))

pub holds_same : {a b : Id} → Holds a ≡ Holds b → a ≡ b
holds_same e = cc

symbolic_same : {a b : Bytes} → Symbolic a ≡ Symbolic b → a ≡ b
symbolic_same e = cc

-- no digit is an `r`
not_symbolic : (text digits : Bytes) → IsHexOf text digits → is_symbolic (line text) ≡ false
not_symbolic [] digits e = refl
not_symbolic (c ∷ text) [] e = absurd cc
not_symbolic (c ∷ text) (d ∷ digits) e = go (114 == c) refl
  where
    go : (t : Bool) → (114 == c) ≡ t → (t && bytes_eq (codes "ef: ") (take 4 (line text))) ≡ false
    go false is = refl
    go true is =
        let byte : 114 ≡ c = grind (arith, tests) in
        let value : hex_digit_value c ≡ Some d = cc in
        let none : hex_digit_value c ≡ None = ap hex_digit_value (sym byte) in
        absurd (differ (sym none ∙ value))
      where
        differ : None ≡ Some d → ⊥
        differ e = cc

-- a line that spells an id
hex_line : (kind : Kind) (text : Bytes) (id : Id) → id_from_hex kind text ≡ Some id → loose_target kind (line text) ≡ Some (ToObject id)
hex_line kind text id read =
    let tells = id_from_hex-tells kind text id read in
    let behind : drop (hex_len kind) (line text) ≡ 10 ∷ [] = ap (λ n. drop n (line text)) (sym tells.0) ∙ drop-append_seam text (10 ∷ []) in
    let front : take (hex_len kind) (line text) ≡ text = ap (λ n. take n (line text)) (sym tells.0) ∙ take-append_seam text (10 ∷ []) in
    let led : leading_id kind (line text) ≡ Some id =
    ap (λ back. cond (ends_word back) (id_from_hex kind (take (hex_len kind) (line text))) None) behind ∙ ap (id_from_hex kind) front ∙ read in
    ap (λ (t : Bool). cond t (cond (is_full_name (referent (line text))) (Some (ToName (referent (line text)))) None) (option_map ToObject (leading_id kind (line text))))
    (not_symbolic text id.digits tells.1)
    ∙ ap (option_map ToObject) led

module _ (kind : Kind) (text : Bytes) where
  abbrev is_symbol : Bool
  is_symbol = begins (codes "ref: ") text && is_name (drop 5 text)

  -- what a line reads as
  abbrev read_as : Bool → Option Id → NameState
  read_as symbol found = cond symbol (Symbolic (drop 5 text)) (unwrap_or (option_map Holds found) Faulty)

  object_told : (id : Id) → loose_line kind text ≡ Holds id → loose_target kind (line text) ≡ Some (ToObject id)
  object_told id h = go is_symbol (id_from_hex kind text) refl h
    where
      go : (symbol : Bool) (found : Option Id) → id_from_hex kind text ≡ found → read_as symbol found ≡ Holds id → loose_target kind (line text) ≡ Some (ToObject id)
      go true found e h = absurd cc
      go false None e h = absurd cc
      go false (Some other) e h = hex_line kind text id (e ∙ ap Some (holds_same h))

  name_told : (name : Bytes) → loose_line kind text ≡ Symbolic name → loose_target kind (line text) ≡ Some (ToName name)
  name_told name h = go is_symbol (id_from_hex kind text) refl h
    where
      go : (symbol : Bool) (found : Option Id) → is_symbol ≡ symbol → read_as symbol found ≡ Symbolic name → loose_target kind (line text) ≡ Some (ToName name)
      go true found e h =
          let parts = and_parts (begins (codes "ref: ") text) (is_name (drop 5 text)) e in
          let same : drop 5 text ≡ name = symbolic_same h in
          let whole : line text ≡ loose_text (ToName name) = ap line (begins_parts (codes "ref: ") text parts.0 ∙ ap (λ n. codes "ref: " ++ n) same) in
          subst (λ t. loose_target kind t ≡ Some (ToName name)) (sym whole) (name_reads kind name (full_of name (subst (λ n. is_name n ≡ true) same parts.1)))
      go false None e h = absurd cc
      go false (Some other) e h = absurd cc

-- what a text with its line feed reads as
abbrev line_read : Kind → Bytes → Bool → NameState
line_read kind text ended = unwrap_or (option_map (loose_line kind) (cond ended (Some (take (length text - 1) text)) None)) Faulty

pub loose_reads_alike : LooseReadsAlike
loose_reads_alike kind text = (λ id h. object (ends (10 ∷ []) text) refl id h, λ name h. symbol (ends (10 ∷ []) text) refl name h)
  where
    object : (ended : Bool) → ends (10 ∷ []) text ≡ ended → (id : Id) → line_read kind text ended ≡ Holds id → loose_target kind text ≡ Some (ToObject id)
    object true e id h = subst (λ t. loose_target kind t ≡ Some (ToObject id)) (sym (ends_so text e)) (object_told kind (take (length text - 1) text) id h)
    object false e id h = absurd cc

    symbol : (ended : Bool) → ends (10 ∷ []) text ≡ ended → (name : Bytes) → line_read kind text ended ≡ Symbolic name → loose_target kind text ≡ Some (ToName name)
    symbol true e name h = subst (λ t. loose_target kind t ≡ Some (ToName name)) (sym (ends_so text e)) (name_told kind (take (length text - 1) text) name h)
    symbol false e name h = absurd cc
