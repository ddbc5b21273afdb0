-- What the buffer holds of a log that is read from its end.
use Rattle.std.proofs.Common.{◌≡◌, ◌∙◌, ap, refl, sym, subst, inl, inr, ℕ, ◌+◌, ◌-◌, ◌<◌, ◌≤◌, Bool, true, false, List, [], ◌∷◌, ◌++◌, length, take, drop, length-append, length-drop, length-take-le, append_assoc, arith}
use Rattle.std.specs.Prelude.{◌==◌, ◌⊎◌, reverse}
use Rattle.std.specs.Bool.{MatchBool}
use Rattle.std.specs.List.{slice_split}
use Rattle.std.proofs.Math.Seq.{drop-append_seam}
use Rattle.std.proofs.lemmas.List.{drop-take, take-append-drop, take-append-le, take-take, take_all}
use Rattle.gix_ref_file.specs.Tree.{overwritten, part}
use Rattle.gix_object_lines.specs.Bytes.{Lacks}
use Rattle.gix_object_lines.proofs.CutLemmas.{lacks_both}
use Rattle.gix_ref_log.specs.LogBackward.{Fits, IsAt}
use Rattle.gix_ref_log.specs.LogLine.{is_feed}
use Rattle.gix_ref_log.specs.LogPlace.{IsWindow, IsLastLine, IsTooLong}
use Rattle.gix_ref_log.proofs.LogSplitLemmas.{split_none, split_last, reverse_some, last_feed, IsCutLast}

pub live : (b : Bool) (X Y : Type 0) → b ≡ false → MatchBool b X Y → Y
live true X Y e h = absurd cc
live false X Y e h = h

abbrev pub lines_before : List ℕ → ℕ → List (List ℕ)
lines_before log end = reverse (slice_split is_feed (take end log))

-- ---- the whole before `end`, by what the buffer holds

module _ (log : List ℕ) (end held start : ℕ) (buffer : List ℕ) (is : IsLastLine log end held start buffer) (ordered : held ≤ end) (within : held ≤ length buffer) where
  abbrev pub early : List ℕ
  early = take (end - held) (take end log)

  sized : length is.front + length is.line ≡ held
  sized = sym (length-append is.front is.line) ∙ ap (λ (t : List ℕ). length t) (sym is.cut) ∙ length-take-le held buffer within

  whole : take end log ≡ early ++ (is.front ++ is.line)
  whole = sym (take-append-drop (end - held) (take end log)) ∙ ap (λ t. early ++ t) (sym is.window.bytes ∙ is.cut)

  early_sized : length early ≡ end - held
  early_sized =
      let a = length-take-le end log is.window.inside in
      length-take-le (end - held) (take end log) (omega (arith, a))

  -- the line is what the buffer holds from `start` on
  pub line_is : drop start (take held buffer) ≡ is.line
  line_is = ap (drop start) is.cut ∙ ap (λ n. drop n (is.front ++ is.line)) (sym is.sized) ∙ drop-append_seam is.front is.line

  pub line_sized : length is.line ≡ held - start
  line_sized = omega (arith, sized, is.sized)

  -- where it is the log's first
  pub first_whole : start ≡ 0 → take end log ≡ is.line
  first_whole none = by_front is.begins
    where
      by_front : ((before : List ℕ) × (is.front ≡ before ++ 10 ∷ [])) ⊎ ((is.front ≡ []) × (held ≡ end)) → take end log ≡ is.line
      by_front (inl cut) =
          let a = length-append cut.0 (10 ∷ []) in
          let b : length is.front ≡ length (cut.0 ++ 10 ∷ []) = ap (λ (t : List ℕ). length t) cut.1 in
          absurd (omega (arith, a, b, is.sized, none))
      by_front (inr all) =
          let zero_left : end - held ≡ 0 = omega (arith, all.1) in
          whole ∙ ap (λ t. early ++ (t ++ is.line)) all.0 ∙ ap (λ n. take n (take end log) ++ is.line) zero_left

  -- if a line feed is before it
  abbrev pub before_of : ((before : List ℕ) × (is.front ≡ before ++ 10 ∷ [])) ⊎ ((is.front ≡ []) × (held ≡ end)) → 0 < start → (before : List ℕ) × (is.front ≡ before ++ 10 ∷ [])
  before_of (inl cut) some = cut
  before_of (inr all) some =
      let b : length is.front ≡ 0 = ap (λ (t : List ℕ). length t) all.0 in
      absurd (omega (arith, b, is.sized, some))

  module _ (some : 0 < start) where
    abbrev pub before : List ℕ
    before = (before_of is.begins some).0

    front_is : is.front ≡ before ++ 10 ∷ []
    front_is = (before_of is.begins some).1

    before_sized : length before + 1 ≡ start
    before_sized =
        let a = length-append before (10 ∷ []) in
        let b : length is.front ≡ length (before ++ 10 ∷ []) = ap (λ (t : List ℕ). length t) front_is in
        omega (arith, a, b, is.sized)

    pub cut_whole : take end log ≡ (early ++ before) ++ 10 ∷ is.line
    cut_whole = whole ∙ ap (λ t. early ++ (t ++ is.line)) front_is ∙ regroup early before is.line
      where
        regroup : (a b d : List ℕ) → a ++ ((b ++ 10 ∷ []) ++ d) ≡ (a ++ b) ++ 10 ∷ d
        regroup a b d = simp append_assoc

    rest_sized : length (early ++ before) ≡ end - (held - start + 1)
    rest_sized =
        let a = length-append early before in
        omega (arith, a, early_sized, before_sized, sized, is.sized, ordered)

    pub rest_is : take (end - (held - start + 1)) log ≡ early ++ before
    rest_is =
        let end' = end - (held - start + 1) in
        let less : end' ≤ end = omega arith in
        let fits : end' ≤ length (early ++ before) = omega (arith, rest_sized) in
        let all : length (early ++ before) ≤ end' = omega (arith, rest_sized) in
        sym (take-take end' end log less) ∙ ap (take end') cut_whole ∙ take-append-le end' (early ++ before) (10 ∷ is.line) fits ∙ take_all _ _ all

    held_is : take (start - 1) buffer ≡ before
    held_is =
        let less : start - 1 ≤ held = omega (arith, sized, is.sized) in
        let fits : start - 1 ≤ length before = omega (arith, before_sized) in
        let all : length before ≤ start - 1 = omega (arith, before_sized) in
        sym (take-take (start - 1) held buffer less) ∙ ap (take (start - 1)) (is.cut ∙ ap (λ t. t ++ is.line) front_is ∙ append_assoc before (10 ∷ []) is.line)
        ∙ take-append-le (start - 1) before (10 ∷ is.line) fits ∙ take_all _ _ all

    pub rest_window : IsWindow log (end - (held - start + 1)) (start - 1) buffer
    rest_window = record {
      inside = omega (arith, is.window.inside);
      bytes =
          let seam : end - (held - start + 1) - (start - 1) ≡ length early = omega (arith, early_sized, before_sized, sized, is.sized, ordered) in
          held_is ∙ sym (ap (λ n. drop n (take (end - (held - start + 1)) log)) seam ∙ ap (drop (length early)) rest_is ∙ drop-append_seam early before);
    }

    pub lines_cut : lines_before log end ≡ is.line ∷ lines_before log (end - (held - start + 1))
    lines_cut = ap (λ t. reverse (slice_split is_feed t)) cut_whole ∙ split_last (early ++ before) is.line is.unbroken
        ∙ ap (λ t. is.line ∷ reverse (slice_split is_feed t)) (sym rest_is)

  pub first_alone : start ≡ 0 → lines_before log end ≡ is.line ∷ []
  first_alone none = ap (λ t. reverse (slice_split is_feed t)) (first_whole none) ∙ ap reverse (split_none is.line is.unbroken)

-- ---- what fits

pub fits_any : (room : ℕ) (line : List ℕ) (rest : List (List ℕ)) → length line < room → Fits room line rest
fits_any room line [] less = omega (arith, less)
fits_any room line (next ∷ rest) less = less

-- the line is given, and the reader is before it
pub goes_on : (log : List ℕ) (done : Bool) (end held₀ : ℕ) (buffer₀ : List ℕ) (left : List (List ℕ)) (held start : ℕ) (buffer text : List ℕ) (room : ℕ)
    → done ≡ false → IsAt log done end held₀ buffer₀ left → (is : IsLastLine log end held start buffer) → held ≤ end → held ≤ length buffer → length buffer ≡ room → text ≡ drop start (take held buffer) → 0 < start
    → (after : List (List ℕ)) × IsAt log false (end - (held - start + 1)) (start - 1) buffer after × (left ≡ text ∷ after) × Fits room text after
goes_on log done end held₀ buffer₀ left held start buffer text room undone at is ordered within sized text_is some =
    let line = text_is ∙ line_is log end held start buffer is ordered within in
    let size = line_sized log end held start buffer is ordered within in
    let same : length text ≡ length is.line = ap (λ (t : List ℕ). length t) line in
    let rest = lines_before log (end - (held - start + 1)) in (
      rest,
      (rest_window log end held start buffer is ordered within some, refl),
      (live done _ _ undone at).1 ∙ lines_cut log end held start buffer is ordered within some ∙ ap (λ t. t ∷ rest) (sym line),
      fits_any room text rest (omega (arith, same, size, sized, within, some, first_less is ordered within some)),
    )
  where
    first_less : (is : IsLastLine log end held start buffer) → held ≤ end → held ≤ length buffer → 0 < start → start ≤ held
    first_less is ordered within some =
        let a = length-append is.front is.line in
        let b : length (take held buffer) ≡ length (is.front ++ is.line) = ap (λ (t : List ℕ). length t) is.cut in
        omega (arith, a, b, length-take-le held buffer within, is.sized)

-- the log's first line is given, and none is left
pub ends_first : (log : List ℕ) (done : Bool) (end held₀ : ℕ) (buffer₀ : List ℕ) (left : List (List ℕ)) (held start : ℕ) (buffer text : List ℕ) (room : ℕ)
    → done ≡ false → IsAt log done end held₀ buffer₀ left → (is : IsLastLine log end held start buffer) → held ≤ end → held ≤ length buffer → length buffer ≡ room → text ≡ drop start (take held buffer) → start ≡ 0
    → (left ≡ text ∷ []) × Fits room text []
ends_first log done end held₀ buffer₀ left held start buffer text room undone at is ordered within sized text_is none =
    let line = text_is ∙ line_is log end held start buffer is ordered within in
    let size = line_sized log end held start buffer is ordered within in
    let same : length text ≡ length is.line = ap (λ (t : List ℕ). length t) line in
    ((live done _ _ undone at).1 ∙ first_alone log end held start buffer is ordered within none ∙ ap (λ t. t ∷ []) (sym line), omega (arith, same, size, sized, within))

-- ---- what doesn't fit

pub too_long : (log : List ℕ) (done : Bool) (end held : ℕ) (buffer : List ℕ) (left : List (List ℕ)) (room : ℕ)
    → done ≡ false → IsAt log done end held buffer left → IsTooLong log end room → (text : List ℕ) × (rest : List (List ℕ)) × (left ≡ text ∷ rest) × ¬ Fits room text rest
too_long log done end held buffer left room undone at is = by_feed (last_feed early)
  where
    early : List ℕ
    early = take (end - room) (take end log)

    late : List ℕ
    late = drop (end - room) (take end log)

    len : length (take end log) ≡ end
    len = length-take-le end log is.inside

    late_sized : length late ≡ room
    late_sized = length-drop (end - room) (take end log) ∙ omega (arith, len, is.more)

    not_fits : (text : List ℕ) (rest : List (List ℕ)) → (rest ≡ [] → ⊥) → room ≤ length text → Fits room text rest → ⊥
    not_fits text [] some long fits = some refl
    not_fits text (next ∷ rest) some long fits = omega (arith, fits, long)

    by_feed : Lacks 10 early ⊎ IsCutLast early → (text : List ℕ) × (rest : List (List ℕ)) × (left ≡ text ∷ rest) × ¬ Fits room text rest
    by_feed (inl none) =
        let all : Lacks 10 (take end log) = subst (Lacks 10) (take-append-drop (end - room) (take end log)) (lacks_both 10 early late none is.unbroken) in
        (take end log, [], (live done _ _ undone at).1 ∙ ap reverse (split_none (take end log) all), λ fits. omega (arith, fits, len, is.more))
    by_feed (inr cut) =
        let line = cut.1 ++ late in
        let whole : take end log ≡ cut.0 ++ 10 ∷ line = sym (take-append-drop (end - room) (take end log)) ∙ ap (λ t. t ++ late) cut.2 ∙ append_assoc cut.0 (10 ∷ cut.1) late in
        let sizes = length-append cut.1 late in (
          line,
          reverse (slice_split is_feed cut.0),
          (live done _ _ undone at).1 ∙ ap (λ t. reverse (slice_split is_feed t)) whole ∙ split_last cut.0 line (lacks_both 10 cut.1 late cut.3 is.unbroken),
          not_fits line (reverse (slice_split is_feed cut.0)) (reverse_some cut.0) (omega (arith, sizes, late_sized)),
        )

-- ---- what a reading puts in

pub filled : (log buffer new : List ℕ) (end held count : ℕ) → count ≡ held → held ≤ end → held ≤ length buffer → end ≤ length log
    → new ≡ overwritten (take held buffer) (take count (part log (end - held) (length (take held buffer)))) → IsWindow log end held (new ++ drop held buffer)
filled log buffer new end held count full ordered within inside is = record {
  inside = inside;
  bytes =
      let size = length-take-le held buffer within in
      let came = take held (drop (end - held) log) in
      let left = length-drop (end - held) log in
      let came_sized : length came ≡ held = length-take-le held (drop (end - held) log) (omega (arith, left, ordered, inside)) in
      let over = drop (length came) (take held buffer) in
      let new_is : new ≡ came ++ over = is ∙ ap (λ n. overwritten (take held buffer) (take n (part log (end - held) (length (take held buffer))))) full
      ∙ ap (λ n. overwritten (take held buffer) (take held (part log (end - held) n))) size ∙ ap (overwritten (take held buffer)) (take-take held held (drop (end - held) log) (omega arith)) in
      let parts : end - held + held ≡ end = omega (arith, ordered) in
      ap (λ t. take held (t ++ drop held buffer)) new_is ∙ ap (take held) (append_assoc came over (drop held buffer))
      ∙ take-append-le held came (over ++ drop held buffer) (omega (arith, came_sized)) ∙ take_all held came (omega (arith, came_sized))
      ∙ sym (drop-take (end - held) held log) ∙ ap (λ n. drop (end - held) (take n log)) parts;
}
