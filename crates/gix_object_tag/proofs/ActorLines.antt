-- The line of an actor that is owned.
use Rattle.std.proofs.Common.{◌≡◌, refl, sym, ℕ, ℤ, ◌%◌, Bool, true, false, not, ◌||◌, List, ◌++◌, Option, None, Result, Ok, Err}
use Rattle.std.specs.Prelude.{codes, ◌==◌, nat_lt, unsigned_abs}
use Rattle.std.proofs.lemmas.Bool.Decides.{Decides-eqb, Decides-ltb}
use Rattle.gix_object_lines.specs.Actor.{IsSpellable, actor_text}
use Rattle.gix_object_lines.specs.LineWrites.{WritesLine}
use Rattle.gix_object_lines.specs.Time.{IsSpellableOffset, time_text}
use Rattle.gix_object_lines.specs.Writes.{Writes}
use Rattle.gix_object_lines.specs.declared.encode.Error.TheVariants.{NewlineInHeaderValue, EmptyValue, Unspellable}
use Rattle.gix_object_lines.specs.declared.lines.time.Time.{Time}
use Rattle.gix_object_lines.specs.declared.write.Error.{Error}
use Rattle.gix_object_lines.specs.declared.write.Error.TheVariants.{Writer, Header, TagName, Filename}
use Rattle.gix_object_tag.specs.OwnedText.{is_bad_offset}
use Rattle.gix_object_tag.specs.TagText.{is_marked}
use Rattle.gix_object_tag.proofs.ReadBack.{unmarked, shape}

split : (a b : Bool) → (not a || not b) ≡ false → (a ≡ true) × (b ≡ true)
split true true e = (refl, refl)
split true false e = absurd cc
split false b e = absurd cc

good_offset : (offset : ℤ) → is_bad_offset offset ≡ false → IsSpellableOffset offset
good_offset offset e =
    let both = split (unsigned_abs offset % 60 == 0) (nat_lt (unsigned_abs offset) 360_000) e in
    ((Decides-eqb (unsigned_abs offset % 60) 0).0 both.0, (Decides-ltb (unsigned_abs offset) 360_000).0 both.1)

none_of : (a b c : Bool) → a ≡ false → b ≡ false → c ≡ false → ((a || b) || c) ≡ false
none_of a b c x y z = λ i. (x i || y i) || z i

pub spellable : (name email : List ℕ) (time : Time) → is_marked name ≡ false → is_marked email ≡ false → is_bad_offset time.offset ≡ false
    → (((is_marked name || is_marked email) || is_bad_offset time.offset) ≡ false) × IsSpellable name email time
spellable name email time a b c =
    let n = unmarked name a in
    let m = unmarked email b in (
      none_of (is_marked name) (is_marked email) (is_bad_offset time.offset) a b c,
      record {
        name_plain = record { no_open = n.0; no_close = n.1; in_line = n.2 };
        email_plain = record { no_open = m.0; no_close = m.1; in_line = m.2 };
        offset_spellable = good_offset time.offset c;
      },
    )

-- a line that has a text isn't refused
pub from_line : (P : Type 0) (a b : Option (List ℕ)) (text : List ℕ) (result : Result (Unit {0}) Error) → P → WritesLine P a b text result → Writes {U = Unit {0}} a b text None result
from_line P a b text (Ok u) p h = (refl, h.1)
from_line P a b text (Err (Writer e)) p h = h.1
from_line P a b text (Err (Header NewlineInHeaderValue)) p h = absurd h
from_line P a b text (Err (Header EmptyValue)) p h = absurd h
from_line P a b text (Err (Header Unspellable)) p h = absurd (h.0 p)
from_line P a b text (Err (TagName e)) p h = absurd h
from_line P a b text (Err (Filename e)) p h = absurd h

pub same_text : (name email : List ℕ) (time : Time) → actor_text name email time ≡ name ++ (codes " <" ++ (email ++ (codes "> " ++ time_text time)))
same_text name email time = sym (shape name (codes " <") email (codes "> ") (time_text time))
