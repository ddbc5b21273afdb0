use Rattle.std.proofs.Common.{◌≡◌, ◌-◌, min, ◌++◌, length, take, ap, ◌∙◌, arith}
use Rattle.history_word.specs.Fields.{max_kept}
use Rattle.history_word.proofs.FieldLemmas.{on_ok_from, items_ok, keep_more}
use Rattle.history_word.proofs.command.Field.add.Goals as goal

pub returns-in-TooLong : goal.returns-in-TooLong
returns-in-TooLong c = λ limit size front h.
    let kept = rw c.in-TooLong.is at h in
    let room : c.min.result ≡ min (max_kept - length c.in-TooLong.kept.items) (length c.args.bytes.now) = omega (arith, c.min.ensures, c.saturating_sub-room.ensures, c.len.ensures) in
    on_ok_from c.extend_from_slice-in-TooLong.result _ (λ ok. (
      kept.0,
      items_ok _ _ _ _ c.extend_from_slice-in-TooLong.ensures.items ok
          ∙ ap (λ n. c.in-TooLong.kept.items ++ take n c.args.bytes.now) room
          ∙ ap (λ xs. xs ++ take (min (max_kept - length xs) (length c.args.bytes.now)) c.args.bytes.now) kept.1
          ∙ keep_more max_kept front c.args.bytes.now,
    ))
