-- A line is cut at its marks in one way, and what is written for an actor spells it.
use Rattle.std.proofs.Common.{◌≡◌, ◌∙◌, ap, refl, sym, subst, ℕ, ℤ, ◌+◌, ◌/◌, ◌%◌, ◌<◌, List, [], ◌∷◌, ◌++◌, append_assoc, Result, Ok, Err, arith}
use Rattle.std.specs.Prelude.{codes, FitsSigned}
use Rattle.std.specs.Fmt.{signed_decimal}
use Rattle.std.specs.Int.{w64}
use Rattle.gix_object_lines.specs.Bytes.{Lacks}
use Rattle.gix_object_lines.specs.Time.{SpellsTime, SpellsOffset, Ahead, Behind, two_digits, offset_text, time_text}
use Rattle.gix_object_lines.specs.Actor.{IsCut, TellsTime, IsSpellable, IsReadBack, actor_text}
use Rattle.gix_object_lines.specs.declared.lines.time.Time.{Time}
use Rattle.gix_object_lines.proofs.Cuts.{cut_once, lacks_tail}
use Rattle.gix_object_lines.proofs.CutLemmas.{cut_last_once, lacks_both, lacks_cons, lacks_front}
use Rattle.gix_object_lines.proofs.TimeLemmas.{seconds_lack, time_written, time_parts}

pub shape : (name email rest : List ℕ) → name ++ codes " <" ++ email ++ codes "> " ++ rest ≡ (name ++ 32 ∷ []) ++ 60 ∷ (email ++ 62 ∷ (32 ∷ rest))
shape name email rest = simp append_assoc

pub spelled_from : (line front name back email behind rest : List ℕ) → line ≡ front ++ 60 ∷ back → front ≡ name ++ 32 ∷ [] → back ≡ email ++ 62 ∷ behind → behind ≡ 32 ∷ rest → line ≡ name ++ codes " <" ++ email ++ codes "> " ++ rest
spelled_from line front name back email behind rest a b c d =
    a ∙ ap (λ f. f ++ 60 ∷ back) b ∙ ap (λ t. (name ++ 32 ∷ []) ++ 60 ∷ t) (c ∙ ap (λ t. email ++ 62 ∷ t) d) ∙ sym (shape name email rest)

-- a space is no other mark
space_end : (byte : ℕ) (name : List ℕ) → (32 ≡ byte → ⊥) → Lacks byte name → Lacks byte (name ++ 32 ∷ [])
space_end byte name other l = lacks_both byte name (32 ∷ []) l (lacks_cons byte 32 [] other refl)

module _ (line name email rest : List ℕ) (is : IsCut line name email rest) where
  -- the first `<` is after the name and a space
  pub front_is : (front back : List ℕ) → line ≡ front ++ 60 ∷ back → Lacks 60 front → (front ≡ name ++ 32 ∷ []) × (back ≡ email ++ 62 ∷ (32 ∷ rest))
  front_is front back cut lacks = cut_once 60 front back (name ++ 32 ∷ []) (email ++ 62 ∷ (32 ∷ rest)) lacks (space_end 60 name (λ e. omega arith) is.first) (sym cut ∙ is.spelled ∙ shape name email rest)

  -- the last `>` is after the email
  pub email_is : (back other behind : List ℕ) → back ≡ email ++ 62 ∷ (32 ∷ rest) → back ≡ other ++ 62 ∷ behind → Lacks 62 behind → (other ≡ email) × (behind ≡ 32 ∷ rest)
  email_is back other behind whole cut lacks = cut_last_once 62 other behind email (32 ∷ rest) lacks (lacks_cons 62 32 rest (λ e. omega arith) is.last) (sym cut ∙ whole)

pub last_same : (a b : List ℕ) → a ++ 32 ∷ [] ≡ b ++ 32 ∷ [] → a ≡ b
last_same a b e = (cut_last_once 32 a [] b [] refl refl e).0

pub one_cut : (line name email rest name' email' rest' : List ℕ) → IsCut line name email rest → IsCut line name' email' rest' → (name ≡ name') × (email ≡ email') × (rest ≡ rest')
one_cut line name email rest name' email' rest' a b =
    let front = front_is line name' email' rest' b (name ++ 32 ∷ []) (email ++ 62 ∷ (32 ∷ rest)) (a.spelled ∙ shape name email rest) (space_end 60 name (λ e. omega arith) a.first) in
    let mail = email_is line name' email' rest' b (email ++ 62 ∷ (32 ∷ rest)) email (32 ∷ rest) front.1 refl (lacks_cons 62 32 rest (λ e. omega arith) a.last) in
    (last_same name name' front.0, mail.0, tail_same rest rest' mail.1)
  where
    tail_same : (r r' : List ℕ) → 32 ∷ r ≡ 32 ∷ r' → r ≡ r'
    tail_same r r' e = cc

pub first_of : (front name : List ℕ) → front ≡ name ++ 32 ∷ [] → Lacks 60 front → Lacks 60 name
first_of front name e l = lacks_front 60 name (32 ∷ []) (subst (Lacks 60) e l)

pub rest_lacks : (back rest : List ℕ) → back ≡ 32 ∷ rest → Lacks 62 back → Lacks 62 rest
rest_lacks back rest e l = lacks_tail 62 32 rest (subst (Lacks 62) e l)

pub cut_named : (line n e r n' e' r' : List ℕ) → n' ≡ n → e' ≡ e → r' ≡ r → IsCut line n e r → IsCut line n' e' r'
cut_named line n e r n' e' r' p q t is =
    subst (λ x. IsCut line x e' r') (sym p) (subst (λ y. IsCut line n y r') (sym q) (subst (λ z. IsCut line n e z) (sym t) is))

-- ---- what is written

digits_lack_mark : (n : ℕ) → n < 100 → (62 ≡ 48 + n / 10 → ⊥) × (62 ≡ 48 + n % 10 → ⊥)
digits_lack_mark n below = (λ e. omega arith, λ e. omega arith)

two_lack : (n : ℕ) → n < 100 → Lacks 62 (two_digits n)
two_lack n below = lacks_cons 62 (48 + n / 10) ((48 + n % 10) ∷ []) (λ e. omega arith) (lacks_cons 62 (48 + n % 10) [] (λ e. omega arith) refl)

offset_lacks : (text : List ℕ) (z : ℤ) → SpellsOffset text z → Lacks 62 text
offset_lacks text z (Ahead h m hl ml spelled is) = subst (Lacks 62) (sym spelled) (lacks_cons 62 43 (two_digits h ++ two_digits m) (λ e. omega arith) (lacks_both 62 (two_digits h) (two_digits m) (two_lack h hl) (two_lack m ml)))
offset_lacks text z (Behind h m hl ml spelled is) = subst (Lacks 62) (sym spelled) (lacks_cons 62 45 (two_digits h ++ two_digits m) (λ e. omega arith) (lacks_both 62 (two_digits h) (two_digits m) (two_lack h hl) (two_lack m ml)))

pub time_lacks : (text : List ℕ) (time : Time) → SpellsTime text time → Lacks 62 text
time_lacks text time is = subst (Lacks 62) (sym is.spelled)
    (lacks_both 62 is.front (32 ∷ is.back) (seconds_lack 62 is.front time.seconds (λ e. omega arith) (λ d r e. omega arith) is.seconds)
    (lacks_cons 62 32 is.back (λ e. omega arith) (offset_lacks is.back time.offset is.offset)))

pub actor_written : (name email : List ℕ) (time : Time) → FitsSigned w64 time.seconds → IsSpellable name email time → IsReadBack name email time
actor_written name email time fits h =
    let told = time_written time fits h.offset_spellable in
    record {
      actor = record {
        cut = record { spelled = refl; first = h.name_plain.no_open; last = time_lacks (time_text time) time told; name_in_line = h.name_plain.in_line; email_in_line = h.email_plain.in_line };
        time_told = (time, told);
      };
      moment = told;
    }

-- what is written part by part is the line
pub line_parts : (name email : List ℕ) (time : Time) (seconds offset : List ℕ) → seconds ≡ signed_decimal time.seconds → offset ≡ offset_text time.offset
    → name ++ (codes " <" ++ (email ++ (codes "> " ++ (seconds ++ (32 ∷ [] ++ (offset ++ [])))))) ≡ actor_text name email time
line_parts name email time seconds offset p q =
    ap (λ t. name ++ (codes " <" ++ (email ++ (codes "> " ++ t)))) (time_parts time seconds offset p q) ∙ regroup name (codes " <") email (codes "> ") (time_text time)
  where
    regroup : (a b c d e : List ℕ) → a ++ (b ++ (c ++ (d ++ e))) ≡ a ++ b ++ c ++ d ++ e
    regroup a b c d e = simp append_assoc

-- if reading fails, the text is no time
pub untold : {E : Type 0} (read text : List ℕ) (fault : E) → read ≡ text → ((time : Time) → SpellsTime read time → ◌≡◌ {A = Result Time E} (Err fault) (Ok time)) → TellsTime text → ⊥
untold read text fault same every told = differ fault told.0 (every told.0 (subst (λ t. SpellsTime t told.0) (sym same) told.1))
  where
    differ : {E : Type 0} (fault : E) (time : Time) → ◌≡◌ {A = Result Time E} (Err fault) (Ok time) → ⊥
    differ fault time e = cc
