-- Where the title ends.
use Rattle.std.proofs.Common.{◌≡◌, ◌∙◌, ap, refl, sym, ℕ, zero, suc, ◌+◌, ◌<◌, ◌≤◌, Bool, true, false, ◌||◌, Option, None, Some, List, [], ◌∷◌, ◌++◌, length, take, drop, length-drop, length-append, take-append-drop, arith}
use Rattle.std.proofs.Common.{subst}
use Rattle.std.specs.Prelude.{slice_index}
use Rattle.std.proofs.lemmas.List.{take_at, drop_at, drop-drop}
use Rattle.std.proofs.lemmas.Bool.{cases_lt}
use Rattle.std.proofs.Common.{inl, inr, length-take-le}
use Rattle.std.proofs.lemmas.Bool.{cond-true, cond-false, false_from_ne_true, or_from, or_left, or_right, or_parts}
use Rattle.std.proofs.lemmas.List.Prefix.{at_from_reads, at_reads}
use Rattle.std.proofs.lemmas.Slice.Eq.{bytes_eq-Decides}
use Rattle.memchr.specs.Find.{FindsNeedle, OccursAt}
use Rattle.gix_object_message.specs.Lines.{begins_with}
use Rattle.gix_object_message.specs.Title.{short_break, long_break, title_of, behind_title, IsBreak, PartsMessage}

abbrev pub is_break : List ℕ → Bool
is_break text = begins_with short_break text || begins_with long_break text

-- no break begins before this place
abbrev pub NoBreakBefore : List ℕ → ℕ → Type 0
NoBreakBefore text at = (k : ℕ) → k < at → is_break (drop k text) ≡ false

pub title_at : (text : List ℕ) (at : ℕ) → NoBreakBefore text at → is_break (drop at text) ≡ true → title_of text ≡ take at text
unfolding title_of
title_at [] zero before is = refl
title_at [] (suc at) before is = refl
title_at (b ∷ text) zero before is = cond-true _ _ _ is
title_at (b ∷ text) (suc at) before is =
    cond-false _ _ _ (before 0 (omega arith)) ∙ ap (λ t. b ∷ t) (title_at text at (λ k low. before (suc k) (omega arith)) is)

pub title_whole : (text : List ℕ) → NoBreakBefore text (length text) → title_of text ≡ text
unfolding title_of
title_whole [] before = refl
title_whole (b ∷ text) before =
    cond-false _ _ _ (before 0 (omega arith)) ∙ ap (λ t. b ∷ t) (title_whole text (λ k low. before (suc k) (omega arith)))

behind_other : (b : ℕ) (text : List ℕ) → is_break (b ∷ text) ≡ false → behind_title (b ∷ text) ≡ behind_title text
unfolding behind_title
behind_other b text other =
    let neither = or_parts (begins_with short_break (b ∷ text)) (begins_with long_break (b ∷ text)) other in
    cond-false _ (drop 2 (b ∷ text)) _ neither.0 ∙ cond-false _ (drop 4 (b ∷ text)) _ neither.1

pub behind_short : (text : List ℕ) (at : ℕ) → NoBreakBefore text at → begins_with short_break (drop at text) ≡ true → behind_title text ≡ drop 2 (drop at text)
unfolding behind_title
behind_short [] zero before is = refl
behind_short [] (suc at) before is = refl
behind_short (b ∷ text) zero before is = cond-true _ _ _ is
behind_short (b ∷ text) (suc at) before is =
    behind_other b text (before 0 (omega arith)) ∙ behind_short text at (λ k low. before (suc k) (omega arith)) is

pub behind_long : (text : List ℕ) (at : ℕ) → NoBreakBefore text at → begins_with short_break (drop at text) ≡ false → begins_with long_break (drop at text) ≡ true → behind_title text ≡ drop 4 (drop at text)
unfolding behind_title
behind_long [] zero before not_short is = refl
behind_long [] (suc at) before not_short is = refl
behind_long (b ∷ text) zero before not_short is = cond-false _ (drop 2 (b ∷ text)) _ not_short ∙ cond-true _ (drop 4 (b ∷ text)) _ is
behind_long (b ∷ text) (suc at) before not_short is =
    behind_other b text (before 0 (omega arith)) ∙ behind_long text at (λ k low. before (suc k) (omega arith)) not_short is

pub behind_none : (text : List ℕ) → NoBreakBefore text (length text) → behind_title text ≡ []
unfolding behind_title
behind_none [] before = refl
behind_none (b ∷ text) before =
    behind_other b text (before 0 (omega arith)) ∙ behind_none text (λ k low. before (suc k) (omega arith))

-- ---- what `memmem::find` returns

begins_from : (front text : List ℕ) (at : ℕ) → OccursAt text front at → take (length front) (drop at text) ≡ front
begins_from front text at occurs =
    ap (take (length front)) (at_from_reads 0 text front at occurs.fits occurs.reads) ∙ take_at front _ _ refl

pub short_at : (text : List ℕ) (at : ℕ) → OccursAt text short_break at → begins_with short_break (drop at text) ≡ true
short_at text at occurs = (bytes_eq-Decides _ _).1 (begins_from short_break text at occurs)

pub long_at : (text : List ℕ) (at : ℕ) → OccursAt text long_break at → begins_with long_break (drop at text) ≡ true
long_at text at occurs = (bytes_eq-Decides _ _).1 (begins_from long_break text at occurs)

occurs_from : (front text : List ℕ) (at : ℕ) → 0 < length front → begins_with front (drop at text) ≡ true → OccursAt text front at
occurs_from front text at some is =
    let same : take (length front) (drop at text) ≡ front = (bytes_eq-Decides _ _).0 is in
    let cut : drop at text ≡ front ++ drop (length front) (drop at text) =
    sym (take-append-drop (length front) (drop at text)) ∙ ap (λ f. f ++ drop (length front) (drop at text)) same in
    record {
      fits = omega (arith, length-drop at text, ap length cut, length-append front (drop (length front) (drop at text)));
      reads = at_reads 0 text front at _ cut;
    }

pub nowhere : (front text : List ℕ) (k : ℕ) → 0 < length front → (OccursAt text front k → ⊥) → begins_with front (drop k text) ≡ false
nowhere front text k some h = false_from_ne_true _ (λ is. h (occurs_from front text k some is))

-- ---- the first break

abbrev pub Absent : List ℕ → List ℕ → ℕ → Type 0
Absent text front at = (k : ℕ) → k < at → OccursAt text front k → ⊥

pub found_at : (text front : List ℕ) (at : ℕ) (r : Option ℕ) → FindsNeedle text front 0 r → r ≡ Some at → OccursAt text front at × Absent text front at
found_at text front at None h e = absurd cc
found_at text front at (Some k) h e =
    let same : k ≡ at = cc in
    (subst (OccursAt text front) same h.1, λ j low occurs. h.0.before j (omega arith) (omega arith) occurs)

pub found_none : (text front : List ℕ) (r : Option ℕ) → FindsNeedle text front 0 r → r ≡ None → Absent text front (length text + 1)
found_none text front None h e = λ k low occurs. h k (omega arith) low occurs
found_none text front (Some k) h e = absurd cc

pub within : (text front : List ℕ) (m n : ℕ) → n ≤ m → Absent text front m → Absent text front n
within text front m n less absent = λ k low occurs. absent k (omega arith) occurs

none_before : (text : List ℕ) (at : ℕ) → Absent text short_break at → Absent text long_break at → NoBreakBefore text at
none_before text at no_short no_long = λ k low.
    or_from _ _ (nowhere short_break text k (omega arith) (no_short k low)) (nowhere long_break text k (omega arith) (no_long k low))

pub short_first : (text : List ℕ) (at : ℕ) → OccursAt text short_break at → Absent text short_break at → Absent text long_break at → (take at text ≡ title_of text) × (drop (at + 2) text ≡ behind_title text)
short_first text at occurs no_short no_long =
    let before = none_before text at no_short no_long in
    let here = short_at text at occurs in (
      sym (title_at text at before (or_left _ _ here)),
      sym (behind_short text at before here ∙ drop-drop 2 at text),
    )

-- both can't be at one place
pub long_first : (text : List ℕ) (at : ℕ) → OccursAt text long_break at → Absent text short_break (at + 1) → Absent text long_break at → (take at text ≡ title_of text) × (drop (at + 4) text ≡ behind_title text)
long_first text at occurs no_short no_long =
    let before = none_before text at (within text short_break (at + 1) at (omega arith) no_short) no_long in
    let here = long_at text at occurs in
    let other = nowhere short_break text at (omega arith) (no_short at (omega arith)) in (
      sym (title_at text at before (or_right _ _ here)),
      sym (behind_long text at before other here ∙ drop-drop 4 at text),
    )

pub no_break : (text : List ℕ) → Absent text short_break (length text + 1) → Absent text long_break (length text + 1) → (text ≡ title_of text) × ([] ≡ behind_title text)
no_break text no_short no_long =
    let before = none_before text (length text) (within text short_break _ _ (omega arith) no_short) (within text long_break _ _ (omega arith) no_long) in
    (sym (title_whole text before), sym (behind_none text before))

-- where LF LF is, CR LF CR LF isn't
pub apart : (text : List ℕ) (at : ℕ) → OccursAt text short_break at → OccursAt text long_break at → ⊥
apart text at short long =
    let low : 0 < length short_break = omega arith in
    let high : 0 < length long_break = omega arith in
    let first : slice_index short_break 0 ≡ slice_index long_break 0 = sym (short.reads 0 low) ∙ long.reads 0 high in
    omega (arith, first)

-- ---- the relation

occurs_in : (text front other back : List ℕ) → text ≡ front ++ (other ++ back) → OccursAt text other (length front)
occurs_in text front other back is =
    let behind : drop (length front) text ≡ other ++ back = ap (drop (length front)) is ∙ drop_at front (other ++ back) _ refl in
    record {
      fits = omega (arith, ap length is, length-append front (other ++ back), length-append other back);
      reads = at_reads 0 text other (length front) back behind;
    }

-- neither break is at this place
absent_break : (text : List ℕ) (at k : ℕ) → Absent text short_break at → Absent text long_break at → (other : List ℕ) → IsBreak other → k < at → OccursAt text other k → ⊥
absent_break text at k no_short no_long other (inl short) low occurs = no_short k low (subst (λ b. OccursAt text b k) short occurs)
absent_break text at k no_short no_long other (inr long) low occurs = no_long k low (subst (λ b. OccursAt text b k) long occurs)

pub parts_at : (text gap rest : List ℕ) (at : ℕ) → IsBreak gap → OccursAt text gap at → Absent text short_break at → Absent text long_break at → rest ≡ drop (at + length gap) text → PartsMessage text (take at text) rest
parts_at text gap rest at is occurs no_short no_long rest_is =
    let size : length (take at text) ≡ at = length-take-le at text (omega (arith, occurs.fits)) in
    inl (record {
      gap = gap;
      is_break = is;
      spelled = sym (take-append-drop at text) ∙ ap (λ t. take at text ++ t) (at_from_reads 0 text gap at occurs.fits occurs.reads ∙ ap (λ r. gap ++ r) (sym rest_is));
      first = λ front other back is' spelled'. elim (cases_lt (length front) at) [
        | inl low ↦ absurd (absent_break text at (length front) no_short no_long other is' low (occurs_in text front other back spelled'))
        | inr high ↦ omega arith
      ];
    })

pub parts_none : (text : List ℕ) → Absent text short_break (length text + 1) → Absent text long_break (length text + 1) → PartsMessage text text []
parts_none text no_short no_long = inr (record {
  no_break = λ front other back is spelled.
      let occurs = occurs_in text front other back spelled in
      absent_break text (length text + 1) (length front) no_short no_long other is (omega (arith, occurs.fits)) occurs;
  all = refl;
  none = refl;
})
