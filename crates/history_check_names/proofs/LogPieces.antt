-- A log that is read in pieces.
use Rattle.std.proofs.Common.{◌≡◌, ◌≢◌, ℕ, ◌+◌, ◌-◌, ◌<◌, ◌≤◌, true, false, List, [], ◌∷◌, ◌++◌, length, take, drop, reverse, refl, sym, ◌∙◌, ap, subst, arith, append_assoc, append-nil, length-append, length-take, length-drop, take-append-drop, Option, Some, None}
use Rattle.std.specs.List.{flat_map, list_all}
use Rattle.std.specs.Prelude.{IsTrue, min, option_map, unwrap_or}
use Rattle.std.proofs.lemmas.List.{drop_all, drop_at, drop-drop, reverse-reverse, take_at, take-append-le}
use Rattle.gix_hash.specs.declared.kind.Kind.{Kind}
use Rattle.gix_ref_file.specs.Tree.{overwritten, part}
use Rattle.history_model.specs.Bytes.{Bytes, has_byte}
use Rattle.history_model.specs.Forms.{is_log_entry}
use Rattle.history_model.specs.Logs.{log_line}
use Rattle.history_model.specs.Repository.{LogEntry}
use Rattle.history_check_names.specs.Logs.{BeginsWithLongLine, BeginsWithNoLine, SpellsLog, FailsAt, HasFault, IsEndless, IsLineFault, IsPiece, SpellsEntry, BeginsWithMoves, max_log_line, max_piece}
use Rattle.history_check_names.specs.declared.log.LogFault.{LogFault}
use Rattle.history_check_names.specs.declared.log.LogFault.TheVariants.{Bad, Long, Memory}
use Rattle.history_check_names.proofs.LogTexts.{all_more, all_reverse, bad_fails, good_taken, left_lacks, lines_more, long_fails, no_feed}

-- ---- one line

one_more : (kind : Kind) (log rest behind : Bytes) (lines : ℕ) → BeginsWithMoves kind log rest lines → (entry : LogEntry) × IsTrue (is_log_entry kind entry) × (rest ≡ log_line entry ++ behind) → BeginsWithMoves kind log behind (lines + 1)
one_more kind log rest behind lines told (entry, is, cut) = record {
  moves = told.moves ++ entry ∷ [];
  formed = all_more (is_log_entry kind) told.moves entry told.formed is;
  cut = told.cut ∙ ap (λ t. flat_map log_line told.moves ++ t) cut ∙ sym (lines_more told.moves entry behind);
  lines_are = omega (arith, told.lines_are, length-append told.moves (entry ∷ []));
}

fails_at : (kind : Kind) (log rest : Bytes) (lines at : ℕ) (Wrong : Bytes → Type 0) → BeginsWithMoves kind log rest lines → at ≡ lines + 1 → rest ≢ [] → Wrong rest → FailsAt kind log at Wrong
fails_at kind log rest lines at Wrong told is some wrong = record {
  before = told.moves;
  rest = rest;
  formed = told.formed;
  cut = told.cut;
  number_is = omega (arith, is, told.lines_are);
  some = some;
  wrong = wrong;
}

cut_more : (rest front behind more : Bytes) → rest ≡ front ++ 10 ∷ behind → rest ++ more ≡ front ++ 10 ∷ (behind ++ more)
cut_more rest front behind more cut = ap (λ t. t ++ more) cut ∙ append_assoc front (10 ∷ behind) more

not_empty : (text front behind : Bytes) → text ≡ front ++ 10 ∷ behind → text ≢ []
not_empty text front behind cut = λ none. absurd (omega (arith, ap length none, ap length cut, length-append front (10 ∷ behind)))

-- what is wrong with a line, in the log that it is a line of
pub line_fails : (kind : Kind) (log rest more front behind : Bytes) (lines : ℕ) (fault : LogFault) → BeginsWithMoves kind log (rest ++ more) lines → rest ≡ front ++ 10 ∷ behind → has_byte 10 front ≡ false → IsLineFault kind front (lines + 1) fault → HasFault kind log fault
line_fails kind log rest more front behind lines (Bad at) told cut lacks (is, none) =
    let whole = cut_more rest front behind more cut in
    fails_at kind log (rest ++ more) lines at (BeginsWithNoLine kind) told is (not_empty (rest ++ more) front (behind ++ more) whole) (bad_fails kind (rest ++ more) front (behind ++ more) whole lacks none)
line_fails kind log rest more front behind lines (Long at) told cut lacks (is, long) =
    let whole = cut_more rest front behind more cut in
    fails_at kind log (rest ++ more) lines at BeginsWithLongLine told is (not_empty (rest ++ more) front (behind ++ more) whole) (long_fails (rest ++ more) front (behind ++ more) whole lacks long)
line_fails kind log rest more front behind lines Memory told cut lacks wrong = tt

-- ---- the lines of a piece

-- of a piece, after so many lines of a log, this much is taken, and this is the rest
pub record LinesTaken (kind : Kind) (piece rest : Bytes) (before lines : ℕ) : Type 0 where
  pub taken : Bytes
  pub cut : piece ≡ taken ++ rest
  pub room : lines + length rest ≤ before + length piece
  pub told : (log more : Bytes) → BeginsWithMoves kind log (piece ++ more) before → BeginsWithMoves kind log (rest ++ more) lines

pub none_taken : (kind : Kind) (piece : Bytes) (before : ℕ) → LinesTaken kind piece piece before before
none_taken kind piece before = record { taken = []; cut = refl; room = omega arith; told = λ log more told. told }

-- a line has at least its line feed
pub behind_shorter : (rest front behind : Bytes) → rest ≡ front ++ 10 ∷ behind → length behind < length rest
behind_shorter rest front behind cut = omega (arith, ap length cut, length-append front (10 ∷ behind))

pub line_taken : (kind : Kind) (piece rest front behind : Bytes) (before lines : ℕ) → LinesTaken kind piece rest before lines → rest ≡ front ++ 10 ∷ behind → SpellsEntry kind front true → LinesTaken kind piece behind before (lines + 1)
line_taken kind piece rest front behind before lines so_far cut good = record {
  taken = so_far.taken ++ (front ++ 10 ∷ []);
  cut = so_far.cut ∙ ap (λ t. so_far.taken ++ t) (cut ∙ sym (append_assoc front (10 ∷ []) behind)) ∙ sym (append_assoc so_far.taken (front ++ 10 ∷ []) behind);
  room = omega (arith, so_far.room, behind_shorter rest front behind cut);
  told = λ log more start. one_more kind log (rest ++ more) (behind ++ more) lines (so_far.told log more start) (good_taken kind (rest ++ more) front (behind ++ more) (cut_more rest front behind more cut) good);
}

module _ (kind : Kind) (piece rest : Bytes) (before lines : ℕ) (read : LinesTaken kind piece rest before lines) where
  sizes : length piece ≡ length read.taken + length rest
  sizes = ap length read.cut ∙ length-append read.taken rest

  pub rest_within : length rest ≤ length piece
  rest_within = omega (arith, sizes)

  pub lines_within : lines ≤ before + (length piece - length rest)
  lines_within = omega (arith, sizes, read.room)

  -- the rest of the piece begins the rest of the log
  pub rest_told : (log more : Bytes) → BeginsWithMoves kind log (piece ++ more) before → BeginsWithMoves kind log (drop (length piece - length rest) (piece ++ more)) lines
  rest_told log more start = subst (λ t. BeginsWithMoves kind log t lines) (sym is) (read.told log more start)
    where
      is : drop (length piece - length rest) (piece ++ more) ≡ rest ++ more
      is =
          ap (λ t. drop (length piece - length rest) t) (ap (λ t. t ++ more) read.cut ∙ append_assoc read.taken rest more)
          ∙ drop_at read.taken (rest ++ more) (length piece - length rest) (omega (arith, sizes))

  -- if nothing is taken, the rest is the piece
  pub piece_lacks : length piece - length rest ≡ 0 → has_byte 10 rest ≡ false → has_byte 10 piece ≡ false
  piece_lacks none lacks = ap (has_byte 10) (read.cut ∙ ap (λ t. t ++ rest) (nothing read.taken (omega (arith, sizes, none)))) ∙ lacks
    where
      nothing : (text : Bytes) → length text ≡ 0 → text ≡ []
      nothing [] h = refl
      nothing (b ∷ text) h = absurd (omega (arith, h))

-- what is wrong with a piece in which no line ends
pub piece_endless : (kind : Kind) (log piece more : Bytes) (lines : ℕ) (fault : LogFault) → BeginsWithMoves kind log (piece ++ more) lines → IsPiece piece more → has_byte 10 piece ≡ false → IsEndless piece (lines + 1) fault → HasFault kind log fault
piece_endless kind log piece more lines fault told (some, last) lacks wrong = go fault wrong
  where
    full : piece ++ more ≢ []
    full = λ none. some (front_none piece none)
      where
        front_none : (text : Bytes) → text ++ more ≡ [] → text ≡ []
        front_none [] h = refl
        front_none (b ∷ text) h = absurd (cc h)

    go : (fault : LogFault) → IsEndless piece (lines + 1) fault → HasFault kind log fault
    go (Bad at) (is, short) =
        let none : has_byte 10 (piece ++ more) ≡ false = ap (λ m. has_byte 10 (piece ++ m)) (last short) ∙ ap (has_byte 10) (append-nil piece) ∙ lacks in
        fails_at kind log (piece ++ more) lines at (BeginsWithNoLine kind) told is full (no_feed kind (piece ++ more) none)
    go (Long at) (is, long) = fails_at kind log (piece ++ more) lines at BeginsWithLongLine told is full (record {
      longer = omega (arith, long, length-append piece more);
      endless = ap (has_byte 10) (take-append-le max_log_line piece more (omega (arith, long)))
          ∙ left_lacks 10 (take max_log_line piece) (drop max_log_line piece) (ap (has_byte 10) (take-append-drop max_log_line piece) ∙ lacks);
    })
    go Memory h = absurd h

-- ---- all pieces

-- of a file of so many bytes the log's first lines, so many, are read to this byte, at which a line begins
pub record IsReadTo (Honest : Type 0) (kind : Kind) (log : Bytes) (len at lines : ℕ) : Type 0 where
  pub counted : lines ≤ at
  pub within : at ≤ len
  pub told : Honest → BeginsWithMoves kind log (drop at log) lines

pub none_read : (Honest : Type 0) (kind : Kind) (log : Bytes) (len : ℕ) → IsReadTo Honest kind log len 0 0
none_read Honest kind log len = record {
  counted = omega arith;
  within = omega arith;
  told = λ honest. record { moves = []; formed = refl; cut = refl; lines_are = refl };
}

whole : (log piece : Bytes) (at size : ℕ) → piece ≡ part log at size → piece ++ drop size (drop at log) ≡ drop at log
whole log piece at size is = ap (λ p. p ++ drop size (drop at log)) is ∙ take-append-drop size (drop at log)

pub piece_read : (Honest : Type 0) (kind : Kind) (log piece : Bytes) (len at lines last taken : ℕ) → IsReadTo Honest kind log len at lines → at < len → length piece ≤ len - at
    → (Honest → piece ≡ part log at (min (len - at) max_piece)) → (0 < taken) × (taken ≤ length piece) × (last ≤ lines + taken)
    → ((text more : Bytes) → BeginsWithMoves kind text (piece ++ more) lines → BeginsWithMoves kind text (drop taken (piece ++ more)) last) → IsReadTo Honest kind log len (at + taken) last
piece_read Honest kind log piece len at lines last taken read inside few is bounds on = record {
  counted = omega (arith, read.counted, bounds.2);
  within = omega (arith, inside, few, bounds.1);
  told = λ honest.
      let size = min (len - at) max_piece in
      let all = whole log piece at size (is honest) in
      subst (λ t. BeginsWithMoves kind log t last) (ap (drop taken) all ∙ drop-drop taken at log)
      (on log (drop size (drop at log)) (subst (λ t. BeginsWithMoves kind log t lines) (sym all) (read.told honest)));
}

module _ (kind : Kind) (log piece : Bytes) (len at lines : ℕ) (is : piece ≡ part log at (min (len - at) max_piece)) (inside : at < len) (size : len ≡ length log) where
  left : length (drop at log) ≡ len - at
  left = length-drop at log ∙ ap (λ n. n - at) (sym size)

  long : length piece ≡ min (min (len - at) max_piece) (len - at)
  long = ap length is ∙ length-take (min (len - at) max_piece) (drop at log) ∙ ap (min (min (len - at) max_piece)) left

  is_piece : IsPiece piece (drop (min (len - at) max_piece) (drop at log))
  is_piece = (
    λ none. absurd (omega (arith, long, ap length none, inside)),
    λ short. drop_all (min (len - at) max_piece) (drop at log) (omega (arith, left, long, short)),
  )

  -- what is wrong with a piece is wrong with the log
  pub piece_fails : (fault : LogFault) → BeginsWithMoves kind log (drop at log) lines → ((text more : Bytes) → BeginsWithMoves kind text (piece ++ more) lines → IsPiece piece more → HasFault kind text fault) → HasFault kind log fault
  piece_fails fault told wrong =
      wrong log (drop (min (len - at) max_piece) (drop at log)) (subst (λ t. BeginsWithMoves kind log t lines) (sym (whole log piece at (min (len - at) max_piece) is)) told) is_piece

pub all_read : (kind : Kind) (log : Bytes) (len at lines : ℕ) → BeginsWithMoves kind log (drop at log) lines → len ≤ at → len ≡ length log → SpellsLog kind log
all_read kind log len at lines read over size = record {
  moves = reverse read.moves;
  formed = all_reverse (is_log_entry kind) read.moves read.formed;
  told = read.cut ∙ ap (λ t. flat_map log_line read.moves ++ t) (drop_all at log (omega (arith, over, size))) ∙ append-nil (flat_map log_line read.moves) ∙ ap (flat_map log_line) (sym (reverse-reverse read.moves));
}

-- ---- a piece of a file

none_there : (bytes : Bytes) (at most : ℕ) → length bytes ≡ 0 → 0 ≡ length (part bytes at most)
none_there bytes at most none = omega (arith, none, length-take most (drop at bytes), length-drop at bytes)

pub counted : (o : Option Bytes) (at most : ℕ) → unwrap_or (option_map (λ bytes. length (part bytes at most)) o) 0 ≡ length (part (unwrap_or o []) at most)
counted None at most = none_there [] at most refl
counted (Some bytes) at most = refl

-- a buffer of so many bytes that was filled at its beginning, without the bytes after that
pub piece_filled : (text : Bytes) (at room all count : ℕ) (buffer read rest piece : Bytes) → piece ≡ take count (take all (read ++ rest)) → read ≡ overwritten buffer (part text at (length buffer)) → length read ≡ all
    → count ≡ length (part text at (length buffer)) → length buffer ≡ room → piece ≡ part text at room
piece_filled text at room all count buffer read rest piece is filled long told size =
    is ∙ ap (take count) (take_at read rest all long ∙ filled)
    ∙ take_at (part text at (length buffer)) (drop (length (part text at (length buffer))) buffer) count (sym told)
    ∙ ap (part text at) size
