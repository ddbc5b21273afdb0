use Rattle.std.proofs.Common.{◌≡◌, ◌≢◌, rules}
use Rattle.gix_object_message.specs.Paragraphs.{is_trailer_paragraph}
use Rattle.gix_object_message.proofs.RunLemmas.{passed_on, passed_stop, passed_end}
use Rattle.gix_object_message.proofs.runs.behind_run.Goals as goal

pub loop-paragraph-preserved : goal.loop-paragraph-preserved
loop-paragraph-preserved c =
    let same : is_trailer_paragraph c.in-Some.paragraph.now ≡ c.args.trailers = search rules in
    passed_on c.args.trailers c.args.text.now c.loop-paragraph.rest.now c.in-Some.paragraph.now c.in-Some.behind.now c.loop-paragraph.invariant c.in-Some.ensures same

pub returns-then-is_trailer_paragraph-trailers : goal.returns-then-is_trailer_paragraph-trailers
returns-then-is_trailer_paragraph-trailers c =
    let differs : is_trailer_paragraph c.in-Some.paragraph.now ≢ c.args.trailers = search rules in
    passed_stop c.args.trailers c.args.text.now c.loop-paragraph.rest.now c.in-Some.paragraph.now c.in-Some.behind.now c.loop-paragraph.invariant c.in-Some.ensures differs

pub returns-in_default : goal.returns-in_default
returns-in_default c = passed_end c.args.trailers c.args.text.now c.loop-paragraph.rest.now c.loop-paragraph.invariant c.in_default.ensures
