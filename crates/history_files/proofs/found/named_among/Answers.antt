use Rattle.std.proofs.Common.{◌∙◌, ap, sym, bytes_eq}
use Rattle.std.specs.Prelude.{option_and_then}
use Rattle.history_files.specs.Reading.{named_by}
use Rattle.history_files.proofs.Among.{named_here, named_later}
use Rattle.history_files.proofs.found.named_among.Goals as goal

pub returns-then-eq : goal.returns-then-eq
returns-then-eq c =
    c.found_by.ensures
    ∙ sym (ap (option_and_then named_by) (c.loop-entry.invariant
    ∙ named_here c.args.entries.now c.loop-entry.entry-index c.entry-item.result c.args.name.now c.loop-entry-test.true c.entry-item.is
    (ap (bytes_eq c.args.name.now) (sym c.as_bytes.ensures) ∙ sym c.eq.ensures ∙ c.if-eq.true)))

pub loop-entry-preserved : goal.loop-entry-preserved
loop-entry-preserved c =
    c.loop-entry.invariant
    ∙ named_later c.args.entries.now c.loop-entry.entry-index c.entry-item.result c.args.name.now c.loop-entry-test.true c.entry-item.is
    (ap (bytes_eq c.args.name.now) (sym c.as_bytes.ensures) ∙ sym c.eq.ensures ∙ c.if-eq.false)
