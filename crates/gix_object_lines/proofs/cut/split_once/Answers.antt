use Rattle.std.proofs.Common.{◌≡◌, ◌∙◌, ◌+◌, ◌-◌, ◌∷◌, ◌++◌, ap, sym, length, take, drop, length-drop, arith}
use Rattle.std.specs.Prelude.{slice_index}
use Rattle.std.proofs.lemmas.Bool.Decides.{Decides-eqb}
use Rattle.std.proofs.lemmas.List.{take_all}
use Rattle.gix_object_lines.proofs.Cuts.{lacks_from, lacks_before, cut_at}
use Rattle.gix_object_lines.proofs.cut.split_once.Goals as goal

pub returns-in_err-at : goal.returns-in_err-at
returns-in_err-at c =
    rw c.from_residual.ensures
    (lacks_from c.args.byte c.args.bytes.now (λ k below is. c.in_err-at.ensures k (omega arith) below ((Decides-eqb (slice_index c.args.bytes.now k) c.args.byte).1 is)))

pub returns : goal.returns
returns c =
    let bytes = c.args.bytes.now in
    let byte = c.args.byte in
    let at = c.in_ok-at.at in
    let first = c.in_ok-at.ensures.0 in
    let cut = cut_at byte bytes at first.high ((Decides-eqb (slice_index bytes at) byte).0 c.in_ok-at.ensures.1) in
    let all : take (length bytes - (at + 1)) (drop (at + 1) bytes) ≡ drop (at + 1) bytes = take_all _ _ (omega (arith, length-drop (at + 1) bytes)) in (
      cut ∙ ap (λ rest. take at bytes ++ byte ∷ rest) (sym all),
      lacks_before byte bytes at first.high (λ k before is. first.before k (omega arith) before ((Decides-eqb (slice_index bytes k) byte).1 is)),
    )
