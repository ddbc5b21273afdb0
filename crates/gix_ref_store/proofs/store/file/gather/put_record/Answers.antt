use Rattle.std.proofs.Common.{◌≡◌, ◌∙◌, sym, subst, rules}
use Rattle.std.specs.BTreeMap.{keys}
use Rattle.std.specs.Prelude.{IsTrue, OnOk}
use Rattle.gix_object_lines.specs.NameTest.{is_full_name}
use Rattle.gix_ref_format.specs.Packed.{record_of}
use Rattle.gix_ref_store.specs.Asks.{is_asked}
use Rattle.gix_ref_store.specs.Walks.{has}
use Rattle.gix_ref_store.proofs.NameSets.{brings_one, some_name}
use Rattle.gix_ref_store.proofs.store.file.gather.put_record.Goals as goal

pub returns-in-Some-clause-asked : goal.returns-in-Some-clause-asked
returns-in-Some-clause-asked c =
    brings_one (is_asked c.args.asked) (keys c.args.names.now) (keys c.put_recorded.new.names) c.in-Some.name (rw c.in-Some.is at c.in_ok-name.ensures.asked) c.put_recorded.ensures.only

pub returns-in-Some-clause-there : goal.returns-in-Some-clause-there
returns-in-Some-clause-there c = λ so.
    let bytes : c.as_bytes.result.now ≡ (record_of c.args.found).name = search rules in
    let full : IsTrue (is_full_name c.as_bytes.result.now) = search rules in
    let same : c.in-Some.name ≡ c.as_bytes.result.now = some_name (sym c.in-Some.is ∙ c.in_ok-name.ensures.found full (subst (λ n. IsTrue (is_asked c.args.asked n)) (sym bytes) so)) in
    subst (λ n. OnOk c.put_recorded.result (IsTrue (has (keys c.put_recorded.new.names) n))) (same ∙ bytes) c.put_recorded.ensures.there

pub returns-in-Some-clause-missing : goal.returns-in-Some-clause-missing
returns-in-Some-clause-missing c = c.put_recorded.ensures.missing (rw c.in-Some.is at c.in_ok-name.ensures.full)

pub returns-in-None-clause-there : goal.returns-in-None-clause-there
returns-in-None-clause-there c = λ so.
    let bytes : c.as_bytes.result.now ≡ (record_of c.args.found).name = search rules in
    let full : IsTrue (is_full_name c.as_bytes.result.now) = search rules in
    absurd (cc (sym c.in-None.is ∙ c.in_ok-name.ensures.found full (subst (λ n. IsTrue (is_asked c.args.asked n)) (sym bytes) so)))
