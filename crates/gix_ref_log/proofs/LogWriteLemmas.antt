-- What is written of a line part by part is the line, and spells it.
use Rattle.std.proofs.Common.{◌≡◌, ◌∙◌, refl, sym, subst, inl, ℕ, ℤ, ◌+◌, ◌*◌, ◌/◌, ◌%◌, ◌<◌, List, [], ◌∷◌, ◌++◌, append_assoc, true, arith}
use Rattle.std.specs.Prelude.{codes, FitsSigned}
use Rattle.std.specs.Int.{w64}
use Rattle.std.proofs.lemmas.List.{append-nil, length-map}
use Rattle.gix_hash.specs.Id.{Id, id_of}
use Rattle.gix_hash.specs.Kind.{byte_len, hex_len}
use Rattle.gix_hash.specs.Spelling.{IsHexOf, hex_character, hex_text}
use Rattle.gix_hash.specs.Views.{IsBytesOf}
use Rattle.gix_hash.specs.declared.kind.Kind.{Kind}
use Rattle.gix_hash.specs.declared.kind.Kind.TheVariants.{Sha1, Sha256}
use Rattle.gix_hash.proofs.ByteLists.{id-digits_len}
use Rattle.gix_object_lines.specs.Actor.{actor_text}
use Rattle.gix_object_lines.specs.Bytes.{Lacks}
use Rattle.gix_object_lines.specs.HexLine.{is_id}
use Rattle.gix_object_lines.specs.Time.{SpellsTime, SpellsOffset, Ahead, Behind, two_digits, time_text}
use Rattle.gix_object_lines.specs.declared.lines.time.Time.{Time}
use Rattle.gix_object_lines.proofs.ActorLemmas.{actor_written}
use Rattle.gix_object_lines.proofs.CutLemmas.{lacks_both, lacks_cons}
use Rattle.gix_object_lines.proofs.TimeLemmas.{seconds_lack}
use Rattle.gix_ref_log.specs.LogLine.{SpellsLine, line_text}
use Rattle.gix_ref_log.specs.LogOwned.{IsWritable, written_parts, written_text}
use Rattle.gix_ref_log.specs.declared.line.Line.{Line}
use Rattle.gix_object_lines.proofs.HexDigits.{id_of_spelled}

-- ---- part by part

module _ (b a x m : List ℕ) where
  pub in_four : line_text b a x m ++ 10 ∷ [] ≡ (b ++ 32 ∷ []) ++ ((a ++ 32 ∷ []) ++ (x ++ 9 ∷ (m ++ 10 ∷ [])))
  in_four = simp append_assoc

  pub two_then_two : line_text b a x m ++ 10 ∷ [] ≡ ((b ++ 32 ∷ []) ++ (a ++ 32 ∷ [])) ++ (x ++ 9 ∷ (m ++ 10 ∷ []))
  two_then_two = simp append_assoc

  pub three_then_one : line_text b a x m ++ 10 ∷ [] ≡ (((b ++ 32 ∷ []) ++ (a ++ 32 ∷ [])) ++ x) ++ 9 ∷ (m ++ 10 ∷ [])
  three_then_one = simp append_assoc

  pub all_four : line_text b a x m ++ 10 ∷ [] ≡ ((((b ++ 32 ∷ []) ++ (a ++ 32 ∷ [])) ++ x) ++ 9 ∷ (m ++ 10 ∷ [])) ++ []
  all_four = three_then_one ∙ sym (append-nil _)

-- ---- the text of a time has no tab

two_lack : (n : ℕ) → n < 100 → Lacks 9 (two_digits n)
two_lack n below = lacks_cons 9 (48 + n / 10) ((48 + n % 10) ∷ []) (λ e. omega arith) (lacks_cons 9 (48 + n % 10) [] (λ e. omega arith) refl)

offset_lacks : (text : List ℕ) (z : ℤ) → SpellsOffset text z → Lacks 9 text
offset_lacks text z (Ahead h m hl ml spelled is) = subst (Lacks 9) (sym spelled) (lacks_cons 9 43 (two_digits h ++ two_digits m) (λ e. omega arith) (lacks_both 9 (two_digits h) (two_digits m) (two_lack h hl) (two_lack m ml)))
offset_lacks text z (Behind h m hl ml spelled is) = subst (Lacks 9) (sym spelled) (lacks_cons 9 45 (two_digits h ++ two_digits m) (λ e. omega arith) (lacks_both 9 (two_digits h) (two_digits m) (two_lack h hl) (two_lack m ml)))

time_lacks : (text : List ℕ) (time : Time) → SpellsTime text time → Lacks 9 text
time_lacks text time is = subst (Lacks 9) (sym is.spelled)
    (lacks_both 9 is.front (32 ∷ is.back) (seconds_lack 9 is.front time.seconds (λ e. omega arith) (λ d r e. omega arith) is.seconds)
    (lacks_cons 9 32 is.back (λ e. omega arith) (offset_lacks is.back time.offset is.offset)))

actor_lacks : (name email : List ℕ) (time : Time) → Lacks 9 name → Lacks 9 email → SpellsTime (time_text time) time → Lacks 9 (actor_text name email time)
actor_lacks name email time no_name no_email told =
    lacks_both 9 (name ++ codes " <" ++ email ++ codes "> ") (time_text time)
    (lacks_both 9 (name ++ codes " <" ++ email) (codes "> ") (lacks_both 9 (name ++ codes " <") email (lacks_both 9 name (codes " <") no_name refl) no_email) refl)
    (time_lacks (time_text time) time told)

-- ---- ids

twice : (kind : Kind) → 2 * byte_len kind ≡ hex_len kind
twice Sha1 = refl
twice Sha256 = refl

pub digits_are_id : (id : Id) (bytes : List ℕ) → IsBytesOf bytes id → IsHexOf (hex_text id.digits) id.digits → is_id (hex_text id.digits) ≡ true
digits_are_id id bytes are spelled =
    id_of_spelled (hex_text id.digits) id (record { whole = length-map id.digits hex_character ∙ id-digits_len id bytes are ∙ twice id.kind; spelled = spelled })

-- ---- the whole line

pub written_spells : (line : Line) → is_id (hex_text (id_of line.previous_oid).digits) ≡ true → is_id (hex_text (id_of line.new_oid).digits) ≡ true → FitsSigned w64 line.signature.time.seconds
    → IsWritable line → Lacks 9 line.signature.name → Lacks 9 line.signature.email → SpellsLine (written_text line) (written_parts line)
written_spells line before after fits w no_name no_email =
    let s = line.signature in
    let told = actor_written s.name s.email s.time fits w.1 in
    record {
      actor = actor_text s.name s.email s.time;
      spelled = inl refl;
      before_is_id = before;
      after_is_id = after;
      actor_spelled = told.actor;
      no_tab = actor_lacks s.name s.email s.time no_name no_email told.moment;
      message_in_line = w.0;
    }
