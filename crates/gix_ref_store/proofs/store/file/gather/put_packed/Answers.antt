use Rattle.std.specs.BTreeMap.{keys}
use Rattle.gix_ref_format.specs.Packed.{record_of}
use Rattle.gix_ref_format.specs.PackedKept.{kept, records_left}
use Rattle.gix_ref_store.specs.Asks.{is_asked}
use Rattle.gix_ref_store.proofs.AskLemmas.{asked_front}
use Rattle.gix_ref_store.proofs.NameSets.{keeps_same, brings_none, keeps_on, brings_on, missing_none, missing_on}
use Rattle.gix_ref_store.proofs.GatherLemmas.{all_coming, one_came, all_came}
use Rattle.gix_ref_store.proofs.store.file.gather.put_packed.Goals as goal

pub loop-found-init : goal.loop-found-init
loop-found-init c = (
  tt,
  tt,
  keeps_same (keys c.args.names.now),
  brings_none (is_asked c.args.asked) (keys c.args.names.now),
  all_coming (records_left c.iter_prefixed-records.result) (is_asked c.args.asked) (keys c.args.names.now),
  missing_none c.args.names.now.entries,
)

pub loop-found-preserved : goal.loop-found-preserved
loop-found-preserved c = (
  tt,
  tt,
  keeps_on (keys c.args.names.now) (keys c.loop-found.names) (keys c.put_record.new.names) c.loop-found.invariant.2 c.in_ok-put_record.ensures.kept,
  brings_on (is_asked c.args.asked) (keys c.args.names.now) (keys c.loop-found.names) (keys c.put_record.new.names) c.loop-found.invariant.3 c.in_ok-put_record.ensures.asked,
  one_came (records_left c.iter_prefixed-records.result) (records_left c.loop-found.records) (records_left c.next.new.self) (record_of c.in-Some.found) (is_asked c.args.asked) (keys c.loop-found.names)
      (keys c.put_record.new.names) c.in-Some.ensures.steps c.in_ok-put_record.ensures.kept c.in_ok-put_record.ensures.there c.loop-found.invariant.4,
  missing_on c.args.names.now.entries c.loop-found.names.entries c.put_record.new.names.entries c.loop-found.invariant.2 c.loop-found.invariant.5 c.in_ok-put_record.ensures.missing,
)

pub returns-in_err-put_record-clause-kept : goal.returns-in_err-put_record-clause-kept
returns-in_err-put_record-clause-kept c =
    keeps_on (keys c.args.names.now) (keys c.loop-found.names) (keys c.put_record.new.names) c.loop-found.invariant.2 c.in_err-put_record.ensures.kept

pub returns-in_err-put_record-clause-missing : goal.returns-in_err-put_record-clause-missing
returns-in_err-put_record-clause-missing c =
    missing_on c.args.names.now.entries c.loop-found.names.entries c.put_record.new.names.entries c.loop-found.invariant.2 c.loop-found.invariant.5 c.in_err-put_record.ensures.missing

pub returns-clause-all : goal.returns-clause-all
returns-clause-all c =
    all_came c.args.asked.front.now (is_asked c.args.asked) (kept c.args.packed.now) (records_left c.iter_prefixed-records.result) (records_left c.loop-found.records) (keys c.loop-found.names) (asked_front c.args.asked) c.iter_prefixed-records.ensures
    c.in_default.ensures.steps.0 c.loop-found.invariant.4
