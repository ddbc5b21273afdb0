-- The texts of owned parts.
use Rattle.std.proofs.Common.{◌≡◌, ◌∙◌, ap, refl, sym, ℕ, ◌%◌, ◌+◌, ◌<◌, ◌≤◌, ◌^◌, Bool, true, false, cond, ◌&&◌, List, [], ◌∷◌, ◌++◌, length, length-append, Option, None, Some, arith}
use Rattle.std.specs.Option.{SomeIff, option_map}
use Rattle.std.specs.Prelude.{MatchOption, codes, count_by, filter, ◌==◌, nat_lt, unsigned_abs}
use Rattle.std.proofs.lemmas.Bool.{ne_eqb, and_parts}
use Rattle.std.proofs.lemmas.List.Sums.{length-filter}
use Rattle.std.proofs.lemmas.Bool.Decides.{Decides-eqb, Decides-ltb}
use Rattle.gix_object_lines.specs.Actor.{IsSpellable}
use Rattle.gix_object_lines.specs.Writes.{cause_of}
use Rattle.gix_object_lines.specs.declared.encode.Error as encode
use Rattle.gix_object_lines.specs.declared.write.Error.TheVariants.{Header}
use Rattle.gix_object_lines.specs.declared.lines.actor.Actor.{Actor}
use Rattle.gix_object_commit.specs.Commit.{line, field_text, folded}
use Rattle.gix_object_commit.specs.OwnedText.{own_field, is_whole_offset, is_own_person}
use Rattle.gix_object_commit.specs.Writing.{unspellable_unless, is_plain, is_word, is_folded, field_piece}
use Rattle.gix_object_lines.specs.Pieces.{refused_or}
use Rattle.gix_object_commit.specs.declared.header.ExtraHeader.{ExtraHeader}
use Rattle.gix_object_commit.proofs.Folds.{by_feed, feed_folded, plain_folded}
use Rattle.gix_object_commit.proofs.FoldedTests.{plain_byte}
use Rattle.gix_object_commit.proofs.OwnPieces.{line_piece}
use Rattle.gix_object_commit.proofs.Written.{fine, plain_name}

-- ---- actors

pub own_spellable : (actor : Actor) → is_own_person actor ≡ true → IsSpellable actor.name actor.email actor.time
own_spellable actor e =
    let a = and_parts (is_plain actor.name) (is_plain actor.email && is_whole_offset actor.time.offset) e in
    let b = and_parts (is_plain actor.email) (is_whole_offset actor.time.offset) a.1 in
    let amount = unsigned_abs actor.time.offset in
    let c = and_parts (amount % 60 == 0) (nat_lt amount 360_000) b.1 in
    let n = plain_name actor.name a.0 in
    let m = plain_name actor.email b.0 in
    record {
      name_plain = record { no_open = n.0; no_close = n.1; in_line = n.2 };
      email_plain = record { no_open = m.0; no_close = m.1; in_line = m.2 };
      offset_spellable = ((Decides-eqb (amount % 60) 0).0 c.0, (Decides-ltb amount 360_000).0 c.1);
    }

-- a front that was written wasn't refused
pub front_fine : (actor : Actor) (cause : Option encode.Error) → cause ≡ unspellable_unless (is_own_person actor) → cause_of (refused_or (option_map Header cause) [] None) ≡ None → IsSpellable actor.name actor.email actor.time
front_fine actor cause is none = own_spellable actor (fine (is_own_person actor) (ap (option_map Header) (sym is ∙ unrefused cause none)))
  where
    unrefused : (cause : Option encode.Error) → cause_of (refused_or (option_map Header cause) [] None) ≡ None → cause ≡ None
    unrefused None e = refl
    unrefused (Some c) e = absurd cc

-- ---- headers

and_true : (b : Bool) → (b && true) ≡ b
and_true true = refl
and_true false = refl

pub folded_is : (value : List ℕ) → is_folded (folded value) ≡ true
folded_is [] = refl
folded_is (byte ∷ value) =
    by_feed byte
    (λ is. ap is_folded (feed_folded byte value is) ∙ plain_byte 32 (folded value) (λ e. omega arith) ∙ folded_is value)
    (λ differs. ap is_folded (plain_folded byte value differs) ∙ plain_byte byte (folded value) differs ∙ folded_is value)

pub header_piece_is : (header : ExtraHeader) (name value : List ℕ) (word : Bool) (cause : Option encode.Error) → name ≡ header.name → value ≡ header.value → cause ≡ unspellable_unless word → word ≡ is_word name
    → line_piece name (folded value) cause ≡ field_piece (own_field header)
header_piece_is header name value word cause n v k w =
    let kept : is_word header.name ≡ (is_word header.name && is_folded (folded header.value)) = sym (ap (λ t. is_word header.name && t) (folded_is header.value) ∙ and_true (is_word header.name)) in
    let causes = k ∙ ap unspellable_unless (w ∙ ap is_word n ∙ kept) in
    λ i. record { text = line (n i) (folded (v i)); cause = option_map Header (causes i) }

-- a value gains a byte for each of its line feeds
folded_length : (value : List ℕ) → length (folded value) ≡ length value + length (filter (λ byte. byte == 10) value)
folded_length [] = refl
folded_length (byte ∷ value) =
    let later = folded_length value in
    by_feed byte
    (λ is. let long = ap length (feed_folded byte value is) in
    let feeds = ap (λ b. length (filter (λ other. other == 10) (b ∷ value))) is in
    omega (arith, later, long, feeds))
    (λ differs. let long = ap length (plain_folded byte value differs) in
    let feeds = ap (λ t. length (cond t (byte ∷ filter (λ other. other == 10) value) (filter (λ other. other == 10) value))) (ne_eqb byte 10 differs) in
    omega (arith, later, long, feeds))

pub header_length : (header : ExtraHeader) (name value : List ℕ) → name ≡ header.name → value ≡ header.value
    → length (field_text (own_field header)) ≡ length (name ++ (codes " " ++ (value ++ codes "\n"))) + count_by (λ byte. byte == 10) value
header_length header name value n v =
    rw (n, v) (omega (arith, length-append {A = ℕ}, folded_length header.value, length-filter (λ byte. byte == 10) header.value))

-- a sum that is returned if 64 bits hold it
pub sum_told : (r : Option ℕ) (sum whole : ℕ) → sum ≡ whole → SomeIff r (sum < 2 ^ 64) sum → MatchOption r (2 ^ 64 ≤ whole) (λ total. total ≡ whole)
sum_told None sum whole is none = omega (arith, is, none)
sum_told (Some total) sum whole is some = some.1 ∙ is
