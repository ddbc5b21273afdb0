use Rattle.std.proofs.Common.{sym, ap, subst}
use Rattle.std.specs.BTreeMap.{keys}
use Rattle.std.specs.Map.{keys_of}
use Rattle.gix_ref_store.specs.Finds.{records_in}
use Rattle.gix_ref_store.specs.Asks.{is_asked}
use Rattle.gix_ref_store.specs.Stores.{base_of}
use Rattle.gix_ref_store.specs.Walks.{GathersRecords}
use Rattle.gix_ref_store.proofs.AskLemmas.{asked_refs}
use Rattle.gix_ref_store.proofs.NameSets.{brings_on, knows_none, missing_known}
use Rattle.gix_ref_store.proofs.ListingLemmas.{only_asked, is_listing}
use Rattle.gix_ref_store.proofs.ItemLemmas.{of_items, still_places, record_named, no_record}
use Rattle.gix_ref_store.proofs.store.file.Store.listed.Goals as goal

pub returns-in_ok-put_packed-in-Some-clause-listed : goal.returns-in_ok-put_packed-in-Some-clause-listed
returns-in_ok-put_packed-in-Some-clause-listed g c = λ honest.
    let tree = (g.F.Files.history c.args.self.now.files).tree in
    let b = base_of c.args.self.now in
    let asked = is_asked c.args.asked in
    let start = keys c.new-names.result in
    let loose = keys c.put_loose.new.names in
    let names = keys c.put_packed.new.names in
    let records = records_in c.args.packed in
    let none = ap keys_of c.new-names.ensures.empty in
    let brings = brings_on asked start loose names c.in_ok-put_loose.ensures.asked c.in_ok-put_packed-in-Some.ensures.asked in
    let places = c.in_ok-put_loose.ensures.all honest in
    let knows = c.in_ok-put_loose.ensures.told honest (knows_none b tree c.new-names.result.entries c.new-names.ensures.empty) in
    let all = subst (λ rs. GathersRecords rs asked names) (sym (ap records_in c.in-Some.is)) c.in_ok-put_packed-in-Some.ensures.all in
    of_items tree asked c.args.self.now c.args.packed c.put_packed.new.names.entries c.items.result c.items.ensures.store c.items.ensures.packed c.items.ensures.names c.items.ensures.order
    (missing_known b tree asked c.put_loose.new.names.entries c.put_packed.new.names.entries knows places c.in_ok-put_packed-in-Some.ensures.missing (only_asked asked start names none brings))
    (is_listing b tree records asked start names c.items.ensures.order none brings (still_places b tree asked loose names c.in_ok-put_packed-in-Some.ensures.kept places)
    (λ name so is. all name (record_named records name (asked_refs c.args.asked name so) is) so))

pub returns-in-None-clause-listed : goal.returns-in-None-clause-listed
returns-in-None-clause-listed g c = λ honest.
    let tree = (g.F.Files.history c.args.self.now.files).tree in
    let b = base_of c.args.self.now in
    let asked = is_asked c.args.asked in
    let names = keys c.put_loose.new.names in
    of_items tree asked c.args.self.now c.args.packed c.put_loose.new.names.entries c.items-in-None.result c.items-in-None.ensures.store c.items-in-None.ensures.packed c.items-in-None.ensures.names c.items-in-None.ensures.order
    (c.in_ok-put_loose.ensures.told honest (knows_none b tree c.new-names.result.entries c.new-names.ensures.empty))
    (is_listing b tree (records_in c.args.packed) asked (keys c.new-names.result) names c.items-in-None.ensures.order (ap keys_of c.new-names.ensures.empty)
    c.in_ok-put_loose.ensures.asked (c.in_ok-put_loose.ensures.all honest)
    (λ name so is. absurd (no_record name (rw (sym (ap records_in c.in-None.is)) is))))
