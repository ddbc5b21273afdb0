use Rattle.std.proofs.Common.{◌∙◌, ap, arith, map}
use Rattle.std.proofs.lemmas.List.{take_all}
use Rattle.gix_ref_format.specs.Packed.{record_of}
use Rattle.gix_ref_format.specs.declared.packed.Reference.{Reference}
use Rattle.history_check_names.specs.Sound.{IsSoundRecord}
use Rattle.history_check_objects.specs.Stored.{facts_in}
use Rattle.history_check_names.proofs.RecordCauses.{all_sound, one_more_sound}
use Rattle.history_check_names.proofs.records.test_records.Goals as goal

pub loop-entry-init : goal.loop-entry-init
loop-entry-init g c = λ honest. tt

pub loop-entry-preserved : goal.loop-entry-preserved
loop-entry-preserved g c = λ honest.
    one_more_sound (λ (r : Reference). IsSoundRecord c.args.kind (facts_in c.args.stored.now) (g.F.Files.history c.args.files.now).tree (record_of r)) c.deref-entry-items.result.now c.loop-entry.entry-index c.entry-item.result
    c.loop-entry-test.true c.entry-item.is (c.loop-entry.invariant honest) (c.in_ok-test_record.ensures.sound honest)

pub returns-clause-sound : goal.returns-clause-sound
returns-clause-sound g c = λ honest.
    all_sound (IsSoundRecord c.args.kind (facts_in c.args.stored.now) (g.F.Files.history c.args.files.now).tree) c.deref-entry-items.result.now _ c.loop-entry.entry-index
    (ap (map record_of) c.deref-entry-items.ensures.value ∙ (c.requires honest).records) (take_all c.loop-entry.entry-index c.deref-entry-items.result.now (omega (arith, c.loop-entry-test.false))) (c.loop-entry.invariant honest)
