use Rattle.std.proofs.Common.{◌≡◌, ◌∙◌, ◌<◌, ◌++◌, ◌∷◌, [], ap, length, rules}
use Rattle.std.proofs.lemmas.List.{nil_from_length}
use Rattle.gix_object_message.specs.Lines.{lines_of}
use Rattle.gix_object_message.specs.White.{trim_end}
use Rattle.gix_object_message.proofs.SummaryLemmas.{joined, step_more, step_last, joined_all}
use Rattle.gix_object_message.proofs.summary.join_lines.Goals as goal

pub loop-line-preserved-in_ok-push : goal.loop-line-preserved-in_ok-push
loop-line-preserved-in_ok-push c =
    let items = c.loop-line.joined.items in
    let line = c.in-Some.line.now in
    let behind = c.in-Some.behind.now in
    let some : 0 < length behind = search rules in
    let written : c.push.new.self.items ≡ (items ++ trim_end line) ++ 32 ∷ [] =
    c.in_ok-push.ensures.items ∙ ap (λ x. x ++ 32 ∷ []) (c.in_ok-extend_from_slice.ensures.items ∙ ap (λ x. items ++ x) c.trim_end.ensures) in
    ap (λ x. x ++ joined (lines_of behind)) written ∙ step_more _ items c.loop-line.rest.now line behind c.loop-line.invariant c.in-Some.ensures.2 some

pub loop-line-preserved : goal.loop-line-preserved
loop-line-preserved c =
    let items = c.loop-line.joined.items in
    let line = c.in-Some.line.now in
    let behind = c.in-Some.behind.now in
    let none : behind ≡ [] = nil_from_length behind (search rules) in
    let written : c.extend_from_slice.new.self.items ≡ items ++ trim_end line =
    c.in_ok-extend_from_slice.ensures.items ∙ ap (λ x. items ++ x) c.trim_end.ensures in
    ap (λ x. x ++ joined (lines_of behind)) written ∙ step_last _ items c.loop-line.rest.now line behind c.loop-line.invariant c.in-Some.ensures.2 none

pub returns : goal.returns
returns c = joined_all _ c.loop-line.joined.items c.loop-line.rest.now c.loop-line.invariant c.in_default.ensures
