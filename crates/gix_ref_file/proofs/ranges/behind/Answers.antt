use Rattle.std.proofs.Common.{◌∙◌, ◌++◌, ◌∷◌, ap, suc, take, drop, arith}
use Rattle.std.proofs.Math.Seq.{split_at}
use Rattle.std.proofs.lemmas.List.{length-take-le}
use Rattle.gix_ref_file.proofs.ranges.behind.Goals as goal

pub returns-in_ok-with_byte-in-Some : goal.returns-in_ok-with_byte-in-Some
returns-in_ok-with_byte-in-Some c =
    let path = c.args.path.now in
    let at = c.in-Some.at in
    let here = c.in-Some.ensures in (
      take at path,
      drop (suc at) path,
      split_at path at 0 here.1 ∙ ap (λ byte. take at path ++ byte ∷ drop (suc at) path) here.2,
      c.in_ok-with_byte-in-Some.ensures,
      omega (arith, here.0, here.1, length-take-le at path (omega (arith, here.1))),
    )
