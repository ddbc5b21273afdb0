use Rattle.std.specs.BTreeMap.{keys}
use Rattle.std.proofs.Common.{sym, subst, ap, ◌∙◌}
use Rattle.gix_ref_store.specs.Asks.{is_asked}
use Rattle.gix_ref_store.specs.Stores.{base_of, shared_folder}
use Rattle.gix_ref_store.specs.Walks.{Gathers, GathersPlaces}
use Rattle.gix_ref_store.proofs.AskLemmas.{asked_refs}
use Rattle.gix_ref_store.proofs.GatherLemmas.{on_ok, both_places, still_all}
use Rattle.gix_ref_store.proofs.store.file.Store.put_loose.Goals as goal

pub returns-in-Some-clause-all : goal.returns-in-Some-clause-all
returns-in-Some-clause-all g c = λ honest.
    let tree = (g.F.Files.history c.args.self.now.files).tree in
    let asked = is_asked c.args.asked in
    let names = keys c.put_below-in-Some.new.names in
    let b = base_of c.args.self.now in
    let own = still_all tree b.git asked (keys c.put_below.new.names) names c.put_below-in-Some.ensures.kept
    (subst (λ p. Gathers tree p asked (keys c.put_below.new.names)) c.git_dir.ensures (c.in_ok-put_below.ensures.all honest)) in
    on_ok c.put_below-in-Some.result (Gathers tree c.deref.result.now asked names) (GathersPlaces b tree asked names)
    (λ shared. both_places b tree asked names (asked_refs c.args.asked) own (subst (λ p. Gathers tree p asked names) (c.deref.ensures.value ∙ sym (ap (shared_folder b.git) c.in-Some.is)) shared)) (c.put_below-in-Some.ensures.all honest)

pub returns-in-None-clause-all : goal.returns-in-None-clause-all
returns-in-None-clause-all g c = λ honest.
    let tree = (g.F.Files.history c.args.self.now.files).tree in
    let asked = is_asked c.args.asked in
    let names = keys c.put_below.new.names in
    let b = base_of c.args.self.now in
    let own = subst (λ p. Gathers tree p asked names) c.git_dir.ensures (c.in_ok-put_below.ensures.all honest) in
    both_places b tree asked names (asked_refs c.args.asked) own (subst (λ p. Gathers tree p asked names) (sym (ap (shared_folder b.git) c.in-None.is)) own)

pub returns-in-Some-clause-told : goal.returns-in-Some-clause-told
returns-in-Some-clause-told g c = λ honest knows. c.put_below-in-Some.ensures.told honest (c.in_ok-put_below.ensures.told honest knows)
