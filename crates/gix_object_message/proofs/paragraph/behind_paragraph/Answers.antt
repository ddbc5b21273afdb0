use Rattle.std.proofs.Common.{◌≡◌, true, false, rules}
use Rattle.gix_object_message.specs.Lines.{lines_of, is_empty_line}
use Rattle.gix_object_message.specs.Paragraphs.{begins_empty}
use Rattle.gix_object_message.proofs.ParagraphLemmas.{goes_on_filled, goes_on_empty, ends_here, ends_last}
use Rattle.gix_object_message.proofs.paragraph.behind_paragraph.Goals.{else-is_empty_line-via-then-is_empty_line+else-not-begins_empty, else-is_empty_line-via-else-is_empty_line}
use Rattle.gix_object_message.proofs.paragraph.behind_paragraph.Goals as goal

pub loop-line-preserved : goal.loop-line-preserved
loop-line-preserved c =
    let line = c.in-Some.line.now in
    let behind = c.in-Some.behind.now in
    elim c.else-is_empty_line.branch [
      | else-is_empty_line-via-then-is_empty_line+else-not-begins_empty w ↦
          let next : begins_empty (lines_of behind) ≡ true = search rules in
          goes_on_empty c.args.text.now c.loop-line.rest.now line behind c.loop-line.invariant c.in-Some.ensures next
      | else-is_empty_line-via-else-is_empty_line w ↦
          let filled : is_empty_line line ≡ false = search rules in
          goes_on_filled c.args.text.now c.loop-line.rest.now line behind c.loop-line.invariant c.in-Some.ensures filled
    ]

pub returns-then-not-begins_empty : goal.returns-then-not-begins_empty
returns-then-not-begins_empty c =
    let line = c.in-Some.line.now in
    let behind = c.in-Some.behind.now in
    let empty : is_empty_line line ≡ true = search rules in
    let next : begins_empty (lines_of behind) ≡ false = search rules in
    ends_here c.args.text.now c.loop-line.rest.now line behind c.loop-line.invariant c.in-Some.ensures empty next

pub returns-in_default : goal.returns-in_default
returns-in_default c = ends_last c.args.text.now c.loop-line.rest.now c.requires c.loop-line.invariant c.in_default.ensures
