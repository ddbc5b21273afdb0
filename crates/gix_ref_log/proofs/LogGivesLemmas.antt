-- What readers of logs give.
use Rattle.std.proofs.Common.{◌≡◌, ◌∙◌, ap, refl, sym, subst, ℕ, ◌+◌, ◌-◌, ◌<◌, ◌≤◌, Bool, true, false, List, [], ◌∷◌, length, take, drop, length-take-le, arith}
use Rattle.std.specs.Prelude.{⊤, Option, None, Some, Err, nat_eq, min, reverse, if◌then◌else◌}
use Rattle.std.specs.Bool.{MatchBool}
use Rattle.std.specs.List.{ends_with, slice_split}
use Rattle.std.specs.Option.{ok_or}
use Rattle.std.specs.Cmp.Lexicographic.{pointwise}
use Rattle.std.proofs.lemmas.Bool.{eqb-false}
use Rattle.std.proofs.lemmas.Bool.Decides.{Decides-eqb}
use Rattle.std.proofs.lemmas.List.{drop-drop, drop-take, take-take, take_all}
use Rattle.gix_object_lines.specs.Bytes.{without_last_feed}
use Rattle.gix_ref_file.specs.declared.files.FileError.TheVariants as file
use Rattle.gix_ref_log.specs.LogBackward.{Fits, GivesBack, IsAt}
use Rattle.gix_ref_log.specs.LogLine.{is_feed, split_lines}
use Rattle.gix_ref_log.specs.LogOwned.{IsCopied}
use Rattle.gix_ref_log.specs.LogPlace.{IsWindow}
use Rattle.gix_ref_log.specs.declared.line.Line.{Line}
use Rattle.gix_ref_log.specs.declared.iter.error.Error.{Error}
use Rattle.gix_ref_log.specs.declared.iter.error.Error.TheVariants.{Io, Decode, Memory}
use Rattle.gix_ref_log.specs.declared.iter.decode.Error.{Error as DecodeError}
use Rattle.gix_ref_log.specs.declared.iter.error.IoError.TheVariants.{Reader, Short, NoBuffer, LineTooLong}
use Rattle.gix_ref_log.specs.declared.iter.decode.LineNumber.TheVariants.{FromEnd}

-- the line that is next is given, as what it says or as an error
pub gives_line : (room : ℕ) (may all : Type 0) (given : ℕ) (left : List (List ℕ)) (text : List ℕ) (after : List (List ℕ)) (line : Option Line) → left ≡ text ∷ after → Fits room text after
    → IsCopied text line
    → GivesBack room may all given left (Some (ok_or line (Decode (record { line = FromEnd given })))) after
gives_line room may all given left text after None next fits h = (text, next, fits, h, refl)
gives_line room may all given left text after (Some line) next fits h = (text, next, fits, h)

-- an error that ends the walk
pub gives_error : (room : ℕ) (may all : Type 0) (given : ℕ) (left : List (List ℕ)) (error : Error)
    → (error ≡ Io LineTooLong → (text : List ℕ) × (rest : List (List ℕ)) × (left ≡ text ∷ rest) × ¬ Fits room text rest)
    → (error ≡ Io (Reader file.Failed) → may) → (error ≡ Io Short → ¬ all) → (error ≡ Io NoBuffer → ⊥) → ((line : DecodeError) → error ≡ Decode line → ⊥)
    → (after : List (List ℕ)) × (after ≡ []) × GivesBack room may all given left (Some (Err error)) after
gives_error room may all given left (Io (Reader file.Failed)) long failed short empty decode = ([], refl, (failed refl, refl))
gives_error room may all given left (Io (Reader file.Memory)) long failed short empty decode = ([], refl, refl)
gives_error room may all given left (Io Short) long failed short empty decode = ([], refl, (short refl, refl))
gives_error room may all given left (Io NoBuffer) long failed short empty decode = absurd (empty refl)
gives_error room may all given left (Io LineTooLong) long failed short empty decode =
    let l = long refl in
    ([], refl, (l.0, l.1, l.2, l.3, refl))
gives_error room may all given left (Decode line) long failed short empty decode = absurd (decode line refl)
gives_error room may all given left Memory long failed short empty decode = ([], refl, refl)

-- the walk gets shorter
pub nearer_counts : (done : Bool) (before after : ℕ) → MatchBool done ⊤ (after < before) → (if done then 0 else after + 1) < before + 1
nearer_counts true before after h = omega arith
nearer_counts false before after h = omega (arith, h)

-- ---- where a reader begins

feed_off : (text : List ℕ) → ends_with nat_eq text (10 ∷ []) ≡ true → without_last_feed text ≡ take (length text - 1) text
feed_off text e = ap (λ (b : Bool). if b then take (length text - 1) text else text) e

feed_none : (text : List ℕ) → ends_with nat_eq text (10 ∷ []) ≡ false → without_last_feed text ≡ text
feed_none text e = ap (λ (b : Bool). if b then take (length text - 1) text else text) e

split_some : (log : List ℕ) → 0 < length log → split_lines log ≡ slice_split is_feed (without_last_feed log)
split_some [] some = absurd (omega (arith, some))
split_some (byte ∷ rest) some = refl

module _ (log : List ℕ) (end held : ℕ) (buffer : List ℕ) (window : IsWindow log end held buffer) (all : end ≡ length log) (ordered : held ≤ end) (within : held ≤ length buffer) (some : 0 < held) where
  abbrev pub shown : List ℕ
  shown = take held buffer

  whole : take end log ≡ log
  whole = take_all end log (omega (arith, all))

  shown_is : shown ≡ drop (end - held) log
  shown_is = window.bytes ∙ ap (drop (end - held)) whole

  shown_sized : length shown ≡ held
  shown_sized = length-take-le held buffer within

  same_end : drop (length shown - 1) shown ≡ drop (length log - 1) log
  same_end =
      let at : length shown - 1 ≡ held - 1 = omega (arith, shown_sized) in
      let sum : end - held + (held - 1) ≡ length log - 1 = omega (arith, all, ordered, some) in
      ap (λ n. drop n shown) at ∙ ap (drop (held - 1)) shown_is ∙ drop-drop (held - 1) (end - held) log ∙ ap (λ n. drop n log) sum

  same_feed : ends_with nat_eq shown (10 ∷ []) ≡ ends_with nat_eq log (10 ∷ [])
  same_feed = ap (pointwise nat_eq (10 ∷ [])) same_end

  pub stands : (feed : Bool) → ends_with nat_eq shown (10 ∷ []) ≡ feed → (kept : ℕ) → kept ≡ length (without_last_feed shown)
      → IsWindow log (end - (held - kept)) kept buffer × (reverse (split_lines log) ≡ reverse (slice_split is_feed (take (end - (held - kept)) log)))
  stands true e kept is =
      let off : length (without_last_feed shown) ≡ length (take (length shown - 1) shown) = ap (λ (t : List ℕ). length t) (feed_off shown e) in
      let less = length-take-le (length shown - 1) shown (omega arith) in
      let kept_is : kept ≡ held - 1 = omega (arith, is, off, less, shown_sized) in
      let end_is : end - (held - kept) ≡ length log - 1 = omega (arith, kept_is, all, some, ordered) in
      let seam : end - (held - kept) - kept ≡ end - held = omega (arith, kept_is, all, some, ordered) in
      let sum : end - held + kept ≡ end - (held - kept) = omega (arith, kept_is, all, some, ordered) in
      let fewer : kept ≤ held = omega (arith, kept_is) in (
        record {
          inside = omega (arith, all);
          bytes = sym (take-take kept held buffer fewer) ∙ ap (take kept) shown_is ∙ sym (drop-take (end - held) kept log)
              ∙ ap (λ n. drop (end - held) (take n log)) sum ∙ ap (λ n. drop n (take (end - (held - kept)) log)) (sym seam);
        },
        ap reverse (split_some log (omega (arith, all, some, ordered)) ∙ ap (slice_split is_feed) (feed_off log (sym same_feed ∙ e)) ∙ ap (λ n. slice_split is_feed (take n log)) (sym end_is)),
      )
  stands false e kept is =
      let off : length (without_last_feed shown) ≡ length shown = ap (λ (t : List ℕ). length t) (feed_none shown e) in
      let kept_is : kept ≡ held = omega (arith, is, off, shown_sized) in
      let end_is : end - (held - kept) ≡ end = omega (arith, kept_is) in (
        subst (λ n. IsWindow log n kept buffer) (sym end_is) (subst (λ n. IsWindow log end n buffer) (sym kept_is) window),
        ap reverse (split_some log (omega (arith, all, some, ordered)) ∙ ap (slice_split is_feed) (feed_none log (sym same_feed ∙ e) ∙ sym whole) ∙ ap (λ n. slice_split is_feed (take n log)) (sym end_is)),
      )

-- a reader that has read the end of the log is before all its lines
pub begins : (log : List ℕ) (end held kept : ℕ) (buffer : List ℕ) → IsWindow log end held buffer → end ≡ length log → held ≡ min end (length buffer) → 0 < length buffer → kept ≡ length (without_last_feed (take held buffer))
    → IsAt log (nat_eq end 0) (end - (held - kept)) kept buffer (reverse (split_lines log))
begins log end held kept buffer window all held_is room kept_is = by_end (nat_eq end 0) refl
  where
    none : (log : List ℕ) → 0 ≡ length log → reverse (split_lines log) ≡ []
    none [] e = refl
    none (byte ∷ rest) e = absurd (omega (arith, e))

    by_end : (b : Bool) → nat_eq end 0 ≡ b → MatchBool b (reverse (split_lines log) ≡ []) (IsWindow log (end - (held - kept)) kept buffer × (reverse (split_lines log) ≡ reverse (slice_split is_feed (take (end - (held - kept)) log))))
    by_end true e = none log (sym ((Decides-eqb end 0).0 e) ∙ all)
    by_end false e =
        let some : end ≡ 0 → ⊥ = eqb-false end 0 e in
        stands log end held buffer window all (omega (arith, held_is)) (omega (arith, held_is)) (omega (arith, held_is, room, some)) (ends_with nat_eq (take held buffer) (10 ∷ [])) refl kept kept_is
