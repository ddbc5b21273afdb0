-- What is written of a tag spells it.
use Rattle.std.proofs.Common.{◌≡◌, ◌∙◌, ap, refl, sym, subst, ℕ, ℤ, ◌+◌, ◌/◌, ◌%◌, ◌<◌, ◌≤◌, Bool, true, false, not, ◌||◌, ◌&&◌, List, [], ◌∷◌, ◌++◌, length, length-append, append_assoc, Option, Some, None, inl, inr, arith}
use Rattle.std.specs.Prelude.{codes, ◌==◌, ◌⊎◌, if◌then◌else◌}
use Rattle.std.specs.List.{list_any}
use Rattle.std.proofs.lemmas.Bool.{true≢false, cases_lt, or_parts, not-false, and_parts}
use Rattle.std.proofs.lemmas.Bool.Decides.{Decides-eqb}
use Rattle.std.proofs.lemmas.List.{append-nil}
use Rattle.std.proofs.lemmas.List.Folds.{Any-from_list_any, list_any-from_Any}
use Rattle.gix_hash.specs.declared.kind.Kind as hash
use Rattle.gix_object_lines.specs.Bytes.{Lacks}
use Rattle.gix_object_lines.specs.HexLine.{hex_line, is_hex, is_id, IsHex}
use Rattle.gix_object_lines.specs.Kind.{kind_word}
use Rattle.gix_object_lines.specs.PartialName.{IsPartialName}
use Rattle.gix_object_lines.specs.Time.{SpellsTime, SpellsOffset, Ahead, Behind, two_digits}
use Rattle.gix_object_lines.specs.Writes.{Refusal, cause_of}
use Rattle.gix_object_lines.specs.declared.kind.Kind.{Kind}
use Rattle.gix_object_lines.specs.declared.kind.Kind.TheVariants.{Tree, Blob, Commit, Tag}
use Rattle.gix_object_lines.specs.declared.lines.time.Time.{Time}
use Rattle.gix_object_lines.specs.declared.write.TagNameError.{TagNameError}
use Rattle.gix_object_lines.specs.declared.write.TagNameError.TheVariants.{StartsWithDash, InvalidRefName}
use Rattle.gix_object_lines.proofs.CutLemmas.{lacks_both, lacks_cons}
use Rattle.gix_object_lines.proofs.TimeLemmas.{seconds_lack}
use Rattle.gix_object_tag.specs.Format.{TellsWhen, IsWholeBody, IsInFormat}
use Rattle.gix_object_lines.specs.NameTest.{begins, is_partial_name}
use Rattle.gix_object_tag.specs.NameTest.{name_fault}
use Rattle.gix_object_tag.specs.Pieces.{first_refusal, first_of}
use Rattle.gix_object_tag.specs.Signature.{IsArmored, IsSigned}
use Rattle.gix_object_tag.specs.Tag.{Parts, IsLine, SpellsTagger, SpellsRest, Body, SpellsTag}
use Rattle.gix_object_tag.specs.TagText.{name_line, tagger_line, body_text, name_refusal, tagger_refusal, is_marked, is_marked_tagger, is_bad_tagger, unspellable_unless, tag_text, tag_refusal, pieces_of, head_piece, name_piece, tagger_piece, body_piece, tagger_text}
use Rattle.gix_object_lines.proofs.TimeTests.{tells_time-Decides}
use Rattle.gix_object_lines.specs.TimeTest.{tells_time}
use Rattle.gix_hash.specs.Kind.{hex_len}
use Rattle.gix_object_tag.specs.BodyTest.{is_whole_body}
use Rattle.gix_object_tag.proofs.BodyTests.{is_whole_body-Decides}
use Rattle.gix_object_lines.proofs.NameTests.{is_partial_name-Decides}
use Rattle.gix_object_lines.specs.Person.{Person}

-- ---- what isn't refused

not_refused : (refusal : Option Refusal) (text : List ℕ) (later : Option Refusal) → cause_of (first_of refusal text later) ≡ None → (refusal ≡ None) × (cause_of later ≡ None)
not_refused None text None e = (refl, refl)
not_refused None text (Some r) e = absurd cc
not_refused (Some r) text later e = absurd cc

no_fault : (fault : Option TagNameError) → name_refusal fault ≡ None → fault ≡ None
no_fault None e = refl
no_fault (Some x) e = absurd cc

not_bad : (bad : Bool) → tagger_refusal bad ≡ None → bad ≡ false
not_bad false e = refl
not_bad true e = absurd cc

fine : (b : Bool) → unspellable_unless b ≡ None → b ≡ true
fine true e = refl
fine false e = absurd cc

pub passes : (parts : Parts) (bad whole : Bool) → cause_of (first_refusal (pieces_of parts bad whole)) ≡ None → (is_id parts.target ≡ true) × (name_fault parts.name ≡ None) × (bad ≡ false) × (whole ≡ true)
passes parts bad whole e =
    let last = body_piece parts whole ∷ [] in
    let later = tagger_piece parts bad ∷ last in
    let first = not_refused (unspellable_unless (is_id parts.target)) (head_piece parts).text (first_refusal (name_piece parts ∷ later)) e in
    let second = not_refused (name_refusal (name_fault parts.name)) (name_piece parts).text (first_refusal later) first.1 in
    let third = not_refused (tagger_refusal bad) (tagger_piece parts bad).text (first_refusal last) second.1 in
    let fourth = not_refused (unspellable_unless whole) (body_piece parts whole).text None third.1 in
    (fine (is_id parts.target) first.0, no_fault (name_fault parts.name) second.0, not_bad bad third.0, fine whole fourth.0)

-- ---- names

name_is : (name : List ℕ) (partial dashed : Bool) → (if partial then (if dashed then Some StartsWithDash else None) else Some InvalidRefName) ≡ None → partial ≡ true
name_is name true dashed e = refl
name_is name false dashed e = absurd cc

pub partial_name : (name : List ℕ) → name_fault name ≡ None → IsPartialName name
partial_name name e = (is_partial_name-Decides name).0 (name_is name (is_partial_name name) (begins (codes "-") name) e)

-- a test that passes nowhere
none_pass : (p q : ℕ → Bool) (text : List ℕ) → ((x : ℕ) → q x ≡ true → p x ≡ true) → list_any p text ≡ false → list_any q text ≡ false
none_pass p q text more none = by (list_any q text) refl
  where
    by : (t : Bool) → list_any q text ≡ t → list_any q text ≡ false
    by false e = e
    by true e =
        let a = Any-from_list_any q text e in
        absurd (true≢false (sym (list_any-from_Any p text (a.0, a.1, a.2, a.3, more a.1 a.4)) ∙ none))

pub in_line : (name : List ℕ) → IsPartialName name → Lacks 10 name
in_line name is = by (list_any (λ other. other == 10) name) refl
  where
    by : (t : Bool) → list_any (λ other. other == 10) name ≡ t → list_any (λ other. other == 10) name ≡ false
    by false e = e
    by true e =
        let a = Any-from_list_any (λ other. other == 10) name e in
        let ten : a.1 ≡ 10 = (Decides-eqb a.1 10).0 a.4 in
        absurd (is.no_barred_byte (a.0, a.1, a.2, a.3, inl (omega (arith, ten))))

-- ---- taggers

yes_left : (a b c : Bool) → a ≡ true → ((a || b) || c) ≡ true
yes_left true b c e = refl
yes_left false b c e = absurd cc

yes_middle : (a b c : Bool) → b ≡ true → ((a || b) || c) ≡ true
yes_middle true b c e = refl
yes_middle false true c e = refl
yes_middle false false c e = absurd cc

yes_right : (a b c : Bool) → c ≡ true → ((a || b) || c) ≡ true
yes_right true b c e = refl
yes_right false true c e = refl
yes_right false false true e = refl
yes_right false false false e = absurd cc

pub unmarked : (part : List ℕ) → is_marked part ≡ false → (Lacks 60 part) × (Lacks 62 part) × (Lacks 10 part)
unmarked part e = (
  none_pass (λ byte. byte == 60 || byte == 62 || byte == 10) (λ byte. byte == 60) part (λ x. yes_left (x == 60) (x == 62) (x == 10)) e,
  none_pass (λ byte. byte == 60 || byte == 62 || byte == 10) (λ byte. byte == 62) part (λ x. yes_middle (x == 60) (x == 62) (x == 10)) e,
  none_pass (λ byte. byte == 60 || byte == 62 || byte == 10) (λ byte. byte == 10) part (λ x. yes_right (x == 60) (x == 62) (x == 10)) e,
)

two_lack : (byte n : ℕ) → byte < 48 ⊎ 57 < byte → n < 100 → Lacks byte (two_digits n)
two_lack byte n (inl low) below = lacks_cons byte (48 + n / 10) ((48 + n % 10) ∷ []) (λ e. omega arith) (lacks_cons byte (48 + n % 10) [] (λ e. omega arith) refl)
two_lack byte n (inr high) below = lacks_cons byte (48 + n / 10) ((48 + n % 10) ∷ []) (λ e. omega arith) (lacks_cons byte (48 + n % 10) [] (λ e. omega arith) refl)

offset_lacks : (byte : ℕ) (text : List ℕ) (z : ℤ) → byte < 48 ⊎ 57 < byte → (43 ≡ byte → ⊥) → (45 ≡ byte → ⊥) → SpellsOffset text z → Lacks byte text
offset_lacks byte text z far plus minus (Ahead h m hl ml spelled is) = subst (Lacks byte) (sym spelled) (lacks_cons byte 43 (two_digits h ++ two_digits m) plus (lacks_both byte (two_digits h) (two_digits m) (two_lack byte h far hl) (two_lack byte m far (omega arith))))
offset_lacks byte text z far plus minus (Behind h m hl ml spelled is) = subst (Lacks byte) (sym spelled) (lacks_cons byte 45 (two_digits h ++ two_digits m) minus (lacks_both byte (two_digits h) (two_digits m) (two_lack byte h far hl) (two_lack byte m far (omega arith))))

feed_lacks : (text : List ℕ) (time : Time) → SpellsTime text time → Lacks 10 text
feed_lacks text time is = subst (Lacks 10) (sym is.spelled)
    (lacks_both 10 is.front (32 ∷ is.back) (seconds_lack 10 is.front time.seconds (λ e. omega arith) (λ d r e. omega arith) is.seconds)
    (lacks_cons 10 32 is.back (λ e. omega arith) (offset_lacks 10 is.back time.offset (inl (omega arith)) (λ e. omega arith) (λ e. omega arith) is.offset)))

mark_lacks : (text : List ℕ) (time : Time) → SpellsTime text time → Lacks 62 text
mark_lacks text time is = subst (Lacks 62) (sym is.spelled)
    (lacks_both 62 is.front (32 ∷ is.back) (seconds_lack 62 is.front time.seconds (λ e. omega arith) (λ d r e. omega arith) is.seconds)
    (lacks_cons 62 32 is.back (λ e. omega arith) (offset_lacks 62 is.back time.offset (inr (omega arith)) (λ e. omega arith) (λ e. omega arith) is.offset)))

pub shape : (a b c d e : List ℕ) → a ++ (b ++ (c ++ (d ++ e))) ≡ a ++ b ++ c ++ d ++ e
shape a b c d e = simp append_assoc

tagger_reads : (tagger : Option Person) (after : List ℕ) → is_marked_tagger tagger ≡ false → TellsWhen tagger → ((rest : List ℕ) → after ≡ codes "tagger " ++ rest → ⊥) → SpellsTagger (tagger_line tagger ++ after) tagger after
tagger_reads None after good tells other = (refl, λ h. other h.0 h.1)
tagger_reads (Some tagger) after good tells other =
    let both = or_parts (is_marked tagger.name) (is_marked tagger.email) good in
    let name = unmarked tagger.name both.0 in
    let email = unmarked tagger.email both.1 in
    record {
      text = tagger_text tagger;
      line = record {
        spelled = append_assoc (codes "tagger ") (tagger_text tagger ++ 10 ∷ []) after ∙ ap (λ t. codes "tagger " ++ t) (append_assoc (tagger_text tagger) (10 ∷ []) after);
        in_line = lacks_both 10 tagger.name (codes " <" ++ (tagger.email ++ (codes "> " ++ tagger.time))) name.2 (lacks_both 10 (codes " <") (tagger.email ++ (codes "> " ++ tagger.time)) refl (lacks_both 10 tagger.email (codes "> " ++ tagger.time) email.2 (lacks_both 10 (codes "> ") tagger.time refl (feed_lacks tagger.time tells.0 tells.1))));
      };
      actor = record {
        cut = record { spelled = shape tagger.name (codes " <") tagger.email (codes "> ") tagger.time; first = name.0; last = mark_lacks tagger.time tells.0 tells.1; name_in_line = name.2; email_in_line = email.2 };
        time_told = tells;
      };
    }

-- ---- bodies

-- an armor after the whole front begins inside the signature
inside : (front signature other rest : List ℕ) → front ++ signature ≡ other ++ rest → length front ≤ length other → (more : List ℕ) × (other ≡ front ++ more) × (signature ≡ more ++ rest)
inside [] signature other rest e below = (other, refl, e)
inside (x ∷ front) signature [] rest e below = absurd (omega arith)
inside (x ∷ front) signature (y ∷ other) rest e below =
    let heads : x ≡ y = cc in
    let tails : front ++ signature ≡ other ++ rest = cc in
    let more = inside front signature other rest tails (omega arith) in
    (more.0, (λ i. sym heads i ∷ more.1 i), more.2)

-- a line that begins in the signature, and not at its start
line_inside : (front more : List ℕ) (x : ℕ) (tail : List ℕ) → more ≡ x ∷ tail → ((front ++ more) ≡ []) ⊎ ((before : List ℕ) × (front ++ more ≡ before ++ 10 ∷ [])) → (more ≡ []) ⊎ ((before : List ℕ) × (more ≡ before ++ 10 ∷ []))
line_inside front more x tail some (inl none) = let len = ap length none in absurd (omega (arith, length-append front more, ap length some, len))
line_inside [] more x tail some (inr h) = inr h
line_inside (y ∷ front) more x tail some (inr ([], e)) = let len = ap length e in absurd (omega (arith, length-append front more, ap length some, len))
line_inside (y ∷ front) more x tail some (inr (z ∷ before, e)) = let tails : front ++ more ≡ before ++ 10 ∷ [] = cc in line_inside front more x tail some (inr (before, tails))

signed_behind : (message signature : List ℕ) → IsSigned signature [] signature → IsSigned ((message ++ 10 ∷ []) ++ signature) (message ++ 10 ∷ []) signature
signed_behind message signature own = record {
  armored = record { spelled = refl; line_begins = inr (message, refl); format = own.armored.format; armor = own.armored.armor };
  last = λ other rest armored. later other rest armored (cases_lt (length (message ++ 10 ∷ [])) (length other));
}
  where
    front : List ℕ
    front = message ++ 10 ∷ []

    by_more : (other rest more : List ℕ) → IsArmored (front ++ signature) other rest → other ≡ front ++ more → signature ≡ more ++ rest → length front < length other → length other ≤ length front
    by_more other rest [] armored is cut past = omega (arith, ap length is, length-append front [])
    by_more other rest (x ∷ tail) armored is cut past =
        let begins = subst (λ o. (o ≡ []) ⊎ ((before : List ℕ) × (o ≡ before ++ 10 ∷ []))) is armored.line_begins in
        let most = own.last (x ∷ tail) rest (record { spelled = cut; line_begins = line_inside front (x ∷ tail) x tail refl begins; format = armored.format; armor = armored.armor }) in
        absurd (omega arith)

    later : (other rest : List ℕ) → IsArmored (front ++ signature) other rest → (length front < length other) ⊎ (length other ≤ length front) → length other ≤ length front
    later other rest armored (inr below) = below
    later other rest armored (inl past) =
        let more = inside front signature other rest armored.spelled (omega arith) in
        by_more other rest more.0 armored more.1 more.2 past

body_reads : (message : List ℕ) (signature : Option (List ℕ)) → IsWholeBody message signature → SpellsRest (body_text message signature) message signature
body_reads message None whole = Body message refl (refl, whole)
body_reads [] (Some signature) whole = Body signature refl ([], whole, inr (refl, refl))
body_reads (byte ∷ message) (Some signature) whole =
    let front = byte ∷ message in
    Body (front ++ 10 ∷ signature) refl (front ++ 10 ∷ [], subst (λ t. IsSigned t (front ++ 10 ∷ []) signature) (append_assoc front (10 ∷ []) signature) (signed_behind front signature whole), inl refl)

-- ---- the whole

word_in_line : (kind : Kind) → Lacks 10 (kind_word kind)
word_in_line Tree = refl
word_in_line Blob = refl
word_in_line Commit = refl
word_in_line Tag = refl

line_of : (word value after : List ℕ) → Lacks 10 value → IsLine word ((word ++ (value ++ 10 ∷ [])) ++ after) value after
line_of word value after lacks = record { spelled = append_assoc word (value ++ 10 ∷ []) after ∙ ap (λ t. word ++ t) (append_assoc value (10 ∷ []) after); in_line = lacks }

body_begins : (message : List ℕ) (signature : Option (List ℕ)) (rest : List ℕ) → body_text message signature ≡ codes "tagger " ++ rest → ⊥
body_begins message None rest e = cc
body_begins [] (Some signature) rest e = cc
body_begins (byte ∷ message) (Some signature) rest e = cc

pub written_spells : (kind : hash.Kind) (parts : Parts) → name_fault parts.name ≡ None → is_marked_tagger parts.tagger ≡ false → IsInFormat kind parts → SpellsTag kind (tag_text parts) parts
written_spells kind parts named plain format =
    let name = partial_name parts.name named in
    let body = body_text parts.message parts.signature in
    let from_body = append-nil body in
    record {
      after_target = (codes "type " ++ (kind_word parts.target_kind ++ 10 ∷ [])) ++ (name_line parts.name ++ (tagger_line parts.tagger ++ (body ++ [])));
      after_kind = name_line parts.name ++ (tagger_line parts.tagger ++ (body ++ []));
      after_name = tagger_line parts.tagger ++ (body ++ []);
      after_tagger = body;
      target = record { spelled = append_assoc (hex_line (codes "object") parts.target) (codes "type " ++ (kind_word parts.target_kind ++ 10 ∷ [])) (name_line parts.name ++ (tagger_line parts.tagger ++ (body ++ []))); hex = format.target };
      target_kind = line_of (codes "type ") (kind_word parts.target_kind) (name_line parts.name ++ (tagger_line parts.tagger ++ (body ++ []))) (word_in_line parts.target_kind);
      name = record { line = line_of (codes "tag ") parts.name (tagger_line parts.tagger ++ (body ++ [])) (in_line parts.name name); some = name.some };
      tagger = subst (λ t. SpellsTagger (tagger_line parts.tagger ++ t) parts.tagger body) (sym from_body) (tagger_reads parts.tagger body plain format.tagger (body_begins parts.message parts.signature));
      rest = body_reads parts.message parts.signature format.body;
    }

-- ---- what isn't refused is in the format

good_tagger : (tagger : Option Person) → is_bad_tagger tagger ≡ false → (is_marked_tagger tagger ≡ false) × TellsWhen tagger
good_tagger None e = (refl, tt)
good_tagger (Some tagger) e =
    let both = or_parts (is_marked tagger.name || is_marked tagger.email) (not (tells_time tagger.time)) e in
    (both.0, (tells_time-Decides tagger.time).0 (not-false (tells_time tagger.time) both.1))

pub target_hex : (kind : hash.Kind) (target : List ℕ) → is_id target ≡ true → length target ≡ hex_len kind → IsHex (hex_len kind) target
target_hex kind target is len = (len, (and_parts (length target == 40 || length target == 64) (is_hex target) is).1)

pub written_back : (kind : hash.Kind) (parts : Parts) → cause_of (tag_refusal parts (is_bad_tagger parts.tagger)) ≡ None → length parts.target ≡ hex_len kind → SpellsTag kind (tag_text parts) parts
written_back kind parts ok len =
    let pass = passes parts (is_bad_tagger parts.tagger) (is_whole_body parts.message parts.signature) ok in
    let tagger = good_tagger parts.tagger pass.2 in
    written_spells kind parts pass.1 tagger.0 (record {
      target = target_hex kind parts.target pass.0 len;
      tagger = tagger.1;
      body = (is_whole_body-Decides parts.message parts.signature).0 pass.3;
    })
