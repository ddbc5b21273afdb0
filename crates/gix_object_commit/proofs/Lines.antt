-- Lines, and where they end.
use Rattle.std.proofs.Common.{◌≡◌, ◌≢◌, ◌∙◌, ap, refl, sym, subst, ℕ, ◌<◌, ◌+◌, ◌/◌, ◌%◌, List, [], ◌∷◌, ◌++◌, length, append_assoc, length-append, arith}
use Rattle.std.specs.Prelude.{codes, flat_map, All}
use Rattle.std.proofs.lemmas.List.{append_cancel_left}
use Rattle.gix_object_lines.specs.Bytes.{Lacks}
use Rattle.gix_object_lines.specs.HexLine.{hex_line}
use Rattle.gix_object_lines.specs.Time.{SpellsTime, SpellsOffset, Ahead, Behind, two_digits}
use Rattle.gix_object_lines.specs.Actor.{SpellsActor}
use Rattle.gix_object_lines.specs.declared.lines.time.Time.{Time}
use Rattle.gix_object_lines.proofs.Cuts.{cut_once, lacks_head}
use Rattle.gix_object_lines.proofs.CutLemmas.{lacks_cons, lacks_both}
use Rattle.gix_object_lines.proofs.TimeLemmas.{seconds_lack}
use Rattle.gix_object_lines.specs.Person.{Person, actor_line}
use Rattle.gix_object_commit.specs.Commit.{Field, line, field_text, IsPerson, IsField}
use Rattle.gix_object_commit.specs.Reading.{IsUnspaced}
use Rattle.gix_object_commit.proofs.Progress.{all_head}

pub line_shape : (word text rest : List ℕ) → line word text ++ rest ≡ word ++ 32 ∷ (text ++ 10 ∷ rest)
line_shape word text rest = append_assoc word (32 ∷ (text ++ 10 ∷ [])) rest ∙ ap (λ t. word ++ 32 ∷ t) (append_assoc text (10 ∷ []) rest)

pub hex_shape : (word digits rest : List ℕ) → hex_line word digits ++ rest ≡ word ++ 32 ∷ (digits ++ 10 ∷ rest)
hex_shape word digits rest = append_assoc (word ++ 32 ∷ digits) (10 ∷ []) rest ∙ append_assoc word (32 ∷ digits) (10 ∷ rest)

-- what follows a word and a space
pub behind_same : (input word text text' : List ℕ) → input ≡ word ++ 32 ∷ text → input ≡ word ++ 32 ∷ text' → text ≡ text'
behind_same input word text text' a b = let same : 32 ∷ text ≡ 32 ∷ text' = append_cancel_left word (32 ∷ text) (32 ∷ text') (sym a ∙ b) in cc

-- ---- an actor's line is one line

two_lack : (n : ℕ) → n < 100 → Lacks 10 (two_digits n)
two_lack n below = lacks_cons 10 (48 + n / 10) ((48 + n % 10) ∷ []) (λ e. omega arith) (lacks_cons 10 (48 + n % 10) [] (λ e. omega arith) refl)

offset_lacks : (text : List ℕ) (z : _) → SpellsOffset text z → Lacks 10 text
offset_lacks text z (Ahead h m hl ml spelled is) = subst (Lacks 10) (sym spelled) (lacks_cons 10 43 (two_digits h ++ two_digits m) (λ e. omega arith) (lacks_both 10 (two_digits h) (two_digits m) (two_lack h hl) (two_lack m (omega arith))))
offset_lacks text z (Behind h m hl ml spelled is) = subst (Lacks 10) (sym spelled) (lacks_cons 10 45 (two_digits h ++ two_digits m) (λ e. omega arith) (lacks_both 10 (two_digits h) (two_digits m) (two_lack h hl) (two_lack m (omega arith))))

pub time_lacks : (text : List ℕ) (time : Time) → SpellsTime text time → Lacks 10 text
time_lacks text time is = subst (Lacks 10) (sym is.spelled)
    (lacks_both 10 is.front (32 ∷ is.back) (seconds_lack 10 is.front time.seconds (λ e. omega arith) (λ d r e. omega arith) is.seconds)
    (lacks_cons 10 32 is.back (λ e. omega arith) (offset_lacks is.back time.offset is.offset)))

pub actor_lacks : (text name email time : List ℕ) → SpellsActor text name email time → Lacks 10 text
actor_lacks text name email time is =
    subst (Lacks 10) (sym is.cut.spelled)
    (lacks_both 10 (name ++ codes " <" ++ email ++ codes "> ") time
    (lacks_both 10 (name ++ codes " <" ++ email) (codes "> ")
    (lacks_both 10 (name ++ codes " <") email (lacks_both 10 name (codes " <") is.cut.name_in_line refl) is.cut.email_in_line) refl)
    (time_lacks time is.time_told.0 is.time_told.1))

-- ---- one line, one part

pub person_same : (a b : Person) → a.name ≡ b.name → a.email ≡ b.email → a.time ≡ b.time → a ≡ b
person_same a b p q r = λ i. record { name = p i; email = q i; time = r i }

pub field_same : (a b : Field) → a.name ≡ b.name → a.value ≡ b.value → a ≡ b
field_same a b p q = λ i. record { name = p i; value = q i }

-- the text of an actor's line, and what follows it
pub actor_cut : (text text' rest rest' : List ℕ) (person : Person) → IsPerson person → Lacks 10 text' → text ≡ text' ++ 10 ∷ rest' → text ≡ actor_line person ++ 10 ∷ rest → (text' ≡ actor_line person) × (rest' ≡ rest)
actor_cut text text' rest rest' person is lacks a b = cut_once 10 text' rest' (actor_line person) rest lacks (actor_lacks (actor_line person) person.name person.email person.time is) (sym a ∙ b)

-- a field begins with its name, and so with no space
pub field_unspaced : (field : Field) (rest : List ℕ) → IsField field → IsUnspaced (field_text field ++ rest)
field_unspaced field rest is = named field.name field.value is.named is.name_one_word
  where
    named : (name value : List ℕ) → name ≢ [] → Lacks 32 name → IsUnspaced (line name value ++ rest)
    named [] value some word = absurd (some refl)
    named (x ∷ name) value some word = λ spaced. let first : x ≡ 32 = cc (spaced.1) in lacks_head 32 x name word first

-- the empty line, and then the message
abbrev pub BeginsMessage : List ℕ → Type 0
BeginsMessage text = (message : List ℕ) × (text ≡ 10 ∷ message)

-- no field begins with a line feed
pub field_no_message : (field : Field) (rest message : List ℕ) → IsField field → 10 ∷ message ≡ field_text field ++ rest → ⊥
field_no_message field rest message is e = named field.name field.value is.named is.name_in_line e
  where
    named : (name value : List ℕ) → name ≢ [] → Lacks 10 name → 10 ∷ message ≡ line name value ++ rest → ⊥
    named [] value some in_line e = some refl
    named (x ∷ name) value some in_line e = let first : x ≡ 10 = cc in lacks_head 10 x name in_line first

-- fields and the empty line begin with no space
pub fields_unspaced : (fields : List Field) (end : List ℕ) → All IsField fields → BeginsMessage end → IsUnspaced (flat_map field_text fields ++ end)
fields_unspaced [] end fits begins = λ spaced. absurd (let clash : 10 ∷ begins.0 ≡ 32 ∷ spaced.0 = sym begins.1 ∙ spaced.1 in let heads : ◌≡◌ {A = ℕ} 10 32 = cc in omega arith)
fields_unspaced (field ∷ fields) end fits begins = subst IsUnspaced (sym (append_assoc (field_text field) (flat_map field_text fields) end)) (field_unspaced field (flat_map field_text fields ++ end) (all_head IsField field fields fits))

pub field_shorter : (rest after : List ℕ) (field : Field) → rest ≡ field_text field ++ after → length after < length rest
field_shorter rest after field is = omega (arith, ap length is, length-append (field_text field) after, length-append field.name (32 ∷ (field.value ++ 10 ∷ [])))
