-- What the fields that are kept say of those that were sent.
use Rattle.std.proofs.Common.{◌≡◌, ℕ, ◌<◌, ◌≤◌, Bool, true, false, not, ◌&&◌, ◌||◌, [], ◌∷◌, length, refl, sym, ◌∙◌, ap, nat_lt, nat_le, ◌==◌, arith}
use Rattle.std.specs.List.{list_any}
use Rattle.std.proofs.lemmas.Bool.Decides.{nat_tests}
use Rattle.history_model.specs.Bytes.{Bytes, begins, ends, has_byte, is_empty}
use Rattle.history_model.specs.FileMap.{components, is_path}
use Rattle.history_model.specs.Causes.{is_bad_path, is_bad_actor}
use Rattle.history_model.specs.CommandParts.{source_paths}
use Rattle.history_model.specs.Forms.{is_actor_part, max_path}
use Rattle.history_word.specs.Commands.{IsActor}
use Rattle.history_word.specs.declared.command.ActorLine.{ActorLine}
use Rattle.history_word.specs.Fields.{Keeps}
use Rattle.history_word.specs.declared.command.Field.{Field}
use Rattle.history_word.specs.declared.command.Field.TheVariants.{Whole, TooLong}
use Rattle.history_repository.specs.Fields.{kept_bytes}
use Rattle.std.proofs.lemmas.Bool.{or_parts, and_parts, not-false}
use Rattle.history_model.specs.Commands as model

-- ---- limits

pub within : (limit n : ℕ) → n ≤ limit → nat_lt limit n ≡ false
within limit n small = grind (arith, nat_tests)

pub beyond : (limit n : ℕ) → limit < n → nat_lt limit n ≡ true
beyond limit n large = grind (arith, nat_tests)

pub not_beyond : (limit n : ℕ) → nat_lt limit n ≡ false → n ≤ limit
not_beyond limit n e = grind (arith, nat_tests)

pub over : (limit n : ℕ) → nat_lt limit n ≡ true → limit < n
over limit n e = grind (arith, nat_tests)

-- all of a field within its limit is kept
pub kept_whole : (limit : ℕ) (field : Field) (bytes : Bytes) → Keeps limit field bytes → length bytes ≤ limit → kept_bytes field ≡ bytes
kept_whole limit (Whole kept) bytes h small = h.1
kept_whole limit (TooLong kept) bytes h small = absurd (omega (arith, h.0))

-- ---- paths

-- of a path within the limit
pub bad_within : (path : Bytes) → length path ≤ max_path → is_bad_path path ≡ not (is_path path)
bad_within path small = ap (λ over. not (is_path path) || over) (within max_path (length path) small) ∙ or_false (not (is_path path))
  where
    or_false : (a : Bool) → (a || false) ≡ a
    or_false true = refl
    or_false false = refl

pub bad_beyond : (path : Bytes) → max_path < length path → is_bad_path path ≡ true
bad_beyond path large = ap (λ over. not (is_path path) || over) (beyond max_path (length path) large) ∙ either_true (not (is_path path))
  where
    either_true : (a : Bool) → (a || true) ≡ true
    either_true true = refl
    either_true false = refl

-- a path that isn't bad is one
pub good_path : (path : Bytes) → is_bad_path path ≡ false → is_path path ≡ true
good_path path good = turned_back (is_path path) (or_parts (not (is_path path)) (nat_lt max_path (length path)) good).0
  where
    turned_back : (b : Bool) → not b ≡ false → b ≡ true
    turned_back true e = refl
    turned_back false e = cc

-- a text of some length is not empty
pub not_empty : (text : Bytes) → (length text == 0) ≡ false → is_empty text ≡ false
not_empty [] e = cc
not_empty (b ∷ text) e = refl

pub no_length : (text : Bytes) → (length text == 0) ≡ true → is_empty text ≡ true
no_length [] e = refl
no_length (b ∷ text) e = let z : ⊥ = grind (arith, nat_tests, e) in absurd z

-- ---- actors

pub never_both : (a : Bool) → (a && false) ≡ false
never_both true = refl
never_both false = refl

-- what is over the limit is no name and no email
pub no_part : (part : Bytes) → 512 < length part → is_actor_part part ≡ false
no_part part large =
    ap (λ fits. not (list_any (λ b. has_byte b (60 ∷ 62 ∷ 0 ∷ 9 ∷ 13 ∷ 10 ∷ [])) part) && not (begins (32 ∷ []) part) && not (ends (32 ∷ []) part) && fits) over
    ∙ never_both (not (list_any (λ b. has_byte b (60 ∷ 62 ∷ 0 ∷ 9 ∷ 13 ∷ 10 ∷ [])) part) && not (begins (32 ∷ []) part) && not (ends (32 ∷ []) part))
  where
    over : nat_le (length part) 512 ≡ false
    over = grind (arith, nat_tests)

-- a name or an email is within its limit
pub part_fits : (part : Bytes) → is_actor_part part ≡ true → length part ≤ 512
part_fits part good =
    let fits = (and_parts (not (list_any (λ b. has_byte b (60 ∷ 62 ∷ 0 ∷ 9 ∷ 13 ∷ 10 ∷ [])) part) && not (begins (32 ∷ []) part) && not (ends (32 ∷ []) part)) (nat_le (length part) 512) good).1 in
    grind (arith, nat_tests)

-- of a good actor the name and the email are whole
pub whole_actor : (actor : ActorLine) (order : model.ActorLine) → IsActor actor order → is_bad_actor order ≡ false → (kept_bytes actor.name ≡ order.name) × (kept_bytes actor.email ≡ order.email)
whole_actor actor order is good =
    let parts = or_parts (is_empty order.name || not (is_actor_part order.name)) (not (is_actor_part order.email)) good in
    let names = or_parts (is_empty order.name) (not (is_actor_part order.name)) parts.0 in (
      kept_whole 512 actor.name order.name is.name (part_fits order.name (not-false (is_actor_part order.name) names.1)),
      kept_whole 512 actor.email order.email is.email (part_fits order.email (not-false (is_actor_part order.email) parts.1)),
    )

-- ---- fields that are kept whole

-- a path that isn't bad is kept whole
pub whole_path : (field : Field) (path : Bytes) → Keeps max_path field path → is_bad_path path ≡ false → kept_bytes field ≡ path
whole_path field path keeps good = kept_whole max_path field path keeps (not_beyond max_path (length path) (or_parts (not (is_path path)) (nat_lt max_path (length path)) good).1)

-- and so is a content within its limit
pub whole_content : (limit : ℕ) (field : Field) (content : Bytes) → Keeps limit field content → nat_lt limit (length content) ≡ false → kept_bytes field ≡ content
whole_content limit field content keeps small = kept_whole limit field content keeps (not_beyond limit (length content) small)

-- ---- a graft's source

-- a field is kept as none exactly if it is empty
pub empty_kept : (limit : ℕ) (field : Field) (bytes : Bytes) → Keeps limit field bytes → is_empty (kept_bytes field) ≡ is_empty bytes
empty_kept limit (Whole kept) bytes h = ap is_empty h.1
empty_kept limit (TooLong kept) [] h = absurd (omega (arith, h.0))
empty_kept limit (TooLong kept) (b ∷ bytes) h = ap is_empty h.1

pub none_tested : (source : Bytes) → is_empty source ≡ true → list_any is_bad_path (source_paths source) ≡ false
none_tested [] e = refl
none_tested (b ∷ source) e = cc

pub one_tested : (source : Bytes) → is_empty source ≡ false → is_bad_path source ≡ list_any is_bad_path (source_paths source)
one_tested [] e = cc
one_tested (b ∷ source) e = sym (alone (is_bad_path (b ∷ source)))
  where
    alone : (a : Bool) → (a || false) ≡ a
    alone true = refl
    alone false = refl
