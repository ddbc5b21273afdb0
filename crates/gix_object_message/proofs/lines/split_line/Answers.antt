use Rattle.std.proofs.Common.{◌≡◌, ◌∙◌, ◌++◌, ◌∷◌, ◌+◌, ◌<◌, suc, ap, sym, length, take, drop, append-nil, take-append-drop, arith, rules}
use Rattle.std.specs.Prelude.{slice_index}
use Rattle.std.proofs.lemmas.Bool.Decides.{Decides-eqb}
use Rattle.gix_object_message.specs.Lines.{lines_of}
use Rattle.gix_object_message.proofs.LineLemmas.{lines_of-nil, lines_of_cut, lines_of_whole}
use Rattle.gix_object_message.proofs.lines.split_line.Goals as goal

pub returns-in-Some : goal.returns-in-Some
returns-in-Some c =
    let text = c.args.text.now in
    let at = c.in-Some.at in
    let first = c.in-Some.ensures.0 in
    let next : suc at ≡ at + 1 = omega arith in
    let front : take (suc at) text ≡ c.split_at.result.0.now = ap (λ n. take n text) next ∙ sym c.split_at.ensures.front in
    let back : drop (suc at) text ≡ c.split_at.result.1.now = ap (λ n. drop n text) next ∙ sym c.split_at.ensures.back in
    let cut = lines_of_cut text at first.high ((Decides-eqb (slice_index text at) 10).0 c.in-Some.ensures.1) (λ k low is. first.before k (omega arith) low ((Decides-eqb (slice_index text k) 10).1 is)) in (
      sym (take-append-drop (suc at) text) ∙ ap (λ rest. take (suc at) text ++ rest) back ∙ ap (λ line. line ++ c.split_at.result.1.now) front,
      omega (arith, c.split_at.ensures.front_len),
      cut ∙ ap (λ rest. take (suc at) text ∷ lines_of rest) back ∙ ap (λ line. line ∷ lines_of c.split_at.result.1.now) front,
    )

pub returns-in-None : goal.returns-in-None
returns-in-None c =
    let text = c.args.text.now in
    let some : 0 < length text = search rules in (
      sym (append-nil text),
      some,
      lines_of_whole text some (λ k low is. c.in-None.ensures k (omega arith) low ((Decides-eqb (slice_index text k) 10).1 is)) ∙ ap (λ rest. text ∷ rest) (sym lines_of-nil),
    )
