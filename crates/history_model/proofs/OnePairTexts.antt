-- The texts of ids and actors in their written forms: which bytes they have, and that equal texts
-- are of equal ids and actors.
use Rattle.std.proofs.Common.{◌≡◌, ℕ, zero, suc, ◌^◌, ◌<◌, Bool, true, false, not, ◌&&◌, ◌||◌, [], ◌∷◌, ◌++◌, length, refl, sym, ◌∙◌, ap, arith, tests, inl, inr, bytes_eq, nat_lt, nat_le, ◌==◌, append_assoc, codes, decimal, slice_index, length-append}
use Rattle.std.specs.List.{list_any, list_all}
use Rattle.std.specs.Char.{is_ascii_digit}
use Rattle.std.proofs.lemmas.Fmt.{decimal_injective}
use Rattle.hex.specs.Hex.{lower_digits}
use Rattle.history_model.specs.Bytes.{Bytes, has_byte, begins, ends, is_empty}
use Rattle.history_model.specs.Objects.{hex, Actor, actor_text}
use Rattle.gix_hash.specs.Id.{Id}
use Rattle.gix_hash.specs.Spelling.{hex_text}
use Rattle.history_model.specs.Forms.{is_id, is_actor, is_actor_part, is_offset, max_seconds, max_actor_part}
use Rattle.gix_hash.specs.declared.kind.Kind.{Kind}
use Rattle.history_model.proofs.IdLemmas.{low_digit, id_digits}
use Rattle.history_model.proofs.PartLemmas.{split_at, tail_same}
use Rattle.history_model.proofs.WholeLists.{clash}
use Rattle.history_model.proofs.WholeTexts.{cut_same, decimal_high}
use Rattle.std.proofs.lemmas.Bool.{or_parts, and_parts, not-true, or_cases, or_from}

-- ---- hex

-- a table of digits has only bytes that are at least `0`
table_high : (d : ℕ) → d < 48 → (table : Bytes) → list_all (λ c. nat_le 48 c) table ≡ true → (i : ℕ) → i < length table → (slice_index table i == d) ≡ false
table_high d low [] h i less = absurd (omega arith)
table_high d low (c ∷ table) h zero less = apart c (and_parts (nat_le 48 c) (list_all (λ c. nat_le 48 c) table) h).0
  where
    apart : (c : ℕ) → nat_le 48 c ≡ true → (c == d) ≡ false
    apart c k = grind (arith, tests)
table_high d low (c ∷ table) h (suc i) less = table_high d low table (and_parts (nat_le 48 c) (list_all (λ c. nat_le 48 c) table) h).1 i (omega arith)

digit_high : (d : ℕ) → d < 48 → (i : ℕ) → i < 16 → (slice_index lower_digits i == d) ≡ false
digit_high d low i less = table_high d low lower_digits refl i less

-- hex has no byte below the digits
hex_plain : (d : ℕ) → d < 48 → (digits : Bytes) → list_all (λ d. nat_lt d 16) digits ≡ true → has_byte d (hex_text digits) ≡ false
hex_plain d low [] h = refl
hex_plain d low (i ∷ digits) h =
    let parts = and_parts (nat_lt i 16) (list_all (λ d. nat_lt d 16) digits) h in
    or_from (slice_index lower_digits i == d) (has_byte d (hex_text digits)) (digit_high d low i (low_digit i parts.0)) (hex_plain d low digits parts.1)

pub hex_high : (d : ℕ) → d < 48 → (kind : Kind) (id : Id) → is_id kind id ≡ true → has_byte d (hex id) ≡ false
hex_high d low kind id h = hex_plain d low id.digits (id_digits kind id h)

-- ---- actors

pub none_in : (d : ℕ) (s t : Bytes) → has_byte d s ≡ false → has_byte d t ≡ false → has_byte d (s ++ t) ≡ false
none_in d [] t hs ht = ht
none_in d (b ∷ s) t hs ht = or_from (b == d) (has_byte d (s ++ t)) (or_parts (b == d) (has_byte d s) hs).0 (none_in d s t (or_parts (b == d) (has_byte d s) hs).1 ht)

abbrev pub part_bytes : Bytes
part_bytes = 60 ∷ 62 ∷ 0 ∷ 9 ∷ 13 ∷ 10 ∷ []

-- an actor's name or email has none of these bytes
without : (d : ℕ) → has_byte d part_bytes ≡ true → (part : Bytes) → list_any (λ b. has_byte b part_bytes) part ≡ false → has_byte d part ≡ false
without d is [] h = refl
without d is (b ∷ part) h =
    let parts = or_parts (has_byte b part_bytes) (list_any (λ b. has_byte b part_bytes) part) h in
    or_from (b == d) (has_byte d part) (go (b == d) refl) (without d is part parts.1)
  where
    same : (b d : ℕ) → (b == d) ≡ true → b ≡ d
    same b d e = grind (arith, tests)

    go : (t : Bool) → (b == d) ≡ t → t ≡ false
    go false e = refl
    go true e = clash (ap (λ n. has_byte n part_bytes) (same b d e) ∙ is) (or_parts (has_byte b part_bytes) (list_any (λ b. has_byte b part_bytes) part) h).0

pub part_plain : (d : ℕ) → has_byte d part_bytes ≡ true → (part : Bytes) → is_actor_part part ≡ true → has_byte d part ≡ false
part_plain d is part h =
    let outer = and_parts (not (list_any (λ b. has_byte b part_bytes) part) && not (begins (32 ∷ []) part) && not (ends (32 ∷ []) part)) (nat_le (length part) max_actor_part) h in
    let mid = and_parts (not (list_any (λ b. has_byte b part_bytes) part) && not (begins (32 ∷ []) part)) (not (ends (32 ∷ []) part)) outer.0 in
    let inner = and_parts (not (list_any (λ b. has_byte b part_bytes) part)) (not (begins (32 ∷ []) part)) mid.0 in
    without d is part (not-true (list_any (λ b. has_byte b part_bytes) part) inner.0)

digit_apart : (d c : ℕ) → d < 43 → is_ascii_digit c ≡ true → (c == d) ≡ false
digit_apart d c low h = grind (arith, tests)

offset_plain : (d : ℕ) → d < 43 → (offset : Bytes) → is_offset offset ≡ true → has_byte d offset ≡ false
offset_plain d low [] h = refl
offset_plain d low (s ∷ []) h = cc
offset_plain d low (s ∷ a ∷ []) h = cc
offset_plain d low (s ∷ a ∷ b ∷ []) h = cc
offset_plain d low (s ∷ a ∷ b ∷ c ∷ []) h = cc
offset_plain d low (s ∷ a ∷ b ∷ c ∷ e ∷ []) h =
    let outer = and_parts ((s == 43 || s == 45) && list_all is_ascii_digit (a ∷ b ∷ c ∷ e ∷ []) && nat_lt c 54) (not (bytes_eq (s ∷ a ∷ b ∷ c ∷ e ∷ []) (codes "-0000"))) h in
    let mid = and_parts ((s == 43 || s == 45) && list_all is_ascii_digit (a ∷ b ∷ c ∷ e ∷ [])) (nat_lt c 54) outer.0 in
    let inner = and_parts (s == 43 || s == 45) (list_all is_ascii_digit (a ∷ b ∷ c ∷ e ∷ [])) mid.0 in
    or_from (s == d) (has_byte d (a ∷ b ∷ c ∷ e ∷ [])) (sign inner.0) (digits (a ∷ b ∷ c ∷ e ∷ []) inner.1)
  where
    sign : (s == 43 || s == 45) ≡ true → (s == d) ≡ false
    sign k = elim (or_cases (s == 43) (s == 45) k) [ inl x ↦ one 43 x (omega arith) | inr x ↦ one 45 x (omega arith) ]
      where
        one : (n : ℕ) → (s == n) ≡ true → d < n → (s == d) ≡ false
        one n x less = grind (arith, tests)

    digits : (ds : Bytes) → list_all is_ascii_digit ds ≡ true → has_byte d ds ≡ false
    digits [] k = refl
    digits (x ∷ ds) k =
        let parts = and_parts (is_ascii_digit x) (list_all is_ascii_digit ds) k in
        or_from (x == d) (has_byte d ds) (digit_apart d x low parts.0) (digits ds parts.1)
offset_plain d low (s ∷ a ∷ b ∷ c ∷ e ∷ f ∷ more) h = cc

record ActorParts (actor : Actor) : Type 0 where
  name : is_actor_part actor.name ≡ true
  email : is_actor_part actor.email ≡ true
  seconds : actor.seconds < 2 ^ 64
  offset : is_offset actor.offset ≡ true

actor_parts : (actor : Actor) → is_actor actor ≡ true → ActorParts actor
actor_parts actor h =
    let a = and_parts (not (is_empty actor.name) && is_actor_part actor.name && is_actor_part actor.email && nat_le actor.seconds max_seconds) (is_offset actor.offset) h in
    let b = and_parts (not (is_empty actor.name) && is_actor_part actor.name && is_actor_part actor.email) (nat_le actor.seconds max_seconds) a.0 in
    let c = and_parts (not (is_empty actor.name) && is_actor_part actor.name) (is_actor_part actor.email) b.0 in
    let d = and_parts (not (is_empty actor.name)) (is_actor_part actor.name) c.0 in
    record { name = d.1; email = c.1; seconds = small actor.seconds b.1; offset = a.1 }
  where
    small : (n : ℕ) → nat_le n max_seconds ≡ true → n < 2 ^ 64
    small n k = grind (arith, tests)

-- an actor's text has neither tab nor line feed
actor_plain : (d : ℕ) → d < 43 → has_byte d part_bytes ≡ true → has_byte d (codes " <") ≡ false → has_byte d (codes "> ") ≡ false → (32 == d) ≡ false
    → (actor : Actor) → is_actor actor ≡ true → has_byte d (actor_text actor) ≡ false
actor_plain d low is opens close space actor h =
    none_in d (actor.name ++ codes " <" ++ actor.email ++ codes "> " ++ decimal actor.seconds) (32 ∷ actor.offset)
    (none_in d (actor.name ++ codes " <" ++ actor.email ++ codes "> ") (decimal actor.seconds)
    (none_in d (actor.name ++ codes " <" ++ actor.email) (codes "> ")
    (none_in d (actor.name ++ codes " <") actor.email (none_in d actor.name (codes " <") (part_plain d is actor.name parts.name) opens) (part_plain d is actor.email parts.email)) close)
    (decimal_high d (omega arith) actor.seconds))
    (or_from (32 == d) (has_byte d actor.offset) space (offset_plain d low actor.offset parts.offset))
  where
    parts : ActorParts actor
    parts = actor_parts actor h

pub actor_no_tab : (actor : Actor) → is_actor actor ≡ true → has_byte 9 (actor_text actor) ≡ false
actor_no_tab actor h = actor_plain 9 (omega arith) refl refl refl refl actor h

pub actor_one_line : (actor : Actor) → is_actor actor ≡ true → has_byte 10 (actor_text actor) ≡ false
actor_one_line actor h = actor_plain 10 (omega arith) refl refl refl refl actor h

pub last_same : (a b : Bytes) (c : ℕ) → a ++ c ∷ [] ≡ b ++ c ∷ [] → a ≡ b
last_same a b c e =
    let left = length-append a (c ∷ []) in
    let right = length-append b (c ∷ []) in
    let whole = ap length e in
    (cut_same a b (c ∷ []) (c ∷ []) (omega arith) e).0

actor_shape : (n e d o : Bytes) → n ++ codes " <" ++ e ++ codes "> " ++ d ++ 32 ∷ o ≡ (n ++ 32 ∷ []) ++ 60 ∷ (e ++ 62 ∷ 32 ∷ (d ++ 32 ∷ o))
actor_shape n e d o = simp append_assoc

-- actors with equal texts are equal
pub actor_same : (a b : Actor) → is_actor a ≡ true → is_actor b ≡ true → actor_text a ≡ actor_text b → a ≡ b
actor_same a b ha hb e =
    let pa = actor_parts a ha in
    let pb = actor_parts b hb in
    let names = split_at 60 (a.name ++ 32 ∷ []) (b.name ++ 32 ∷ []) (a.email ++ 62 ∷ 32 ∷ (decimal a.seconds ++ 32 ∷ a.offset)) (b.email ++ 62 ∷ 32 ∷ (decimal b.seconds ++ 32 ∷ b.offset))
    (none_in 60 a.name (32 ∷ []) (part_plain 60 refl a.name pa.name) refl) (none_in 60 b.name (32 ∷ []) (part_plain 60 refl b.name pb.name) refl)
    (sym (actor_shape a.name a.email (decimal a.seconds) a.offset) ∙ e ∙ actor_shape b.name b.email (decimal b.seconds) b.offset) in
    let emails = split_at 62 a.email b.email (32 ∷ (decimal a.seconds ++ 32 ∷ a.offset)) (32 ∷ (decimal b.seconds ++ 32 ∷ b.offset)) (part_plain 62 refl a.email pa.email) (part_plain 62 refl b.email pb.email) names.1 in
    let rest = split_at 32 (decimal a.seconds) (decimal b.seconds) a.offset b.offset (decimal_high 32 (omega arith) a.seconds) (decimal_high 32 (omega arith) b.seconds) (tail_same emails.1) in
    λ i. record { name = last_same a.name b.name 32 names.0 i; email = emails.0 i; seconds = decimal_injective a.seconds b.seconds pa.seconds pb.seconds rest.0 i; offset = rest.1 i }
