use Rattle.std.proofs.Common.{◌≡◌, ◌∙◌, sym, subst, refl, inl, false, rules}
use Rattle.std.specs.BTreeMap.{keys}
use Rattle.std.specs.Prelude.{IsTrue, OnOk}
use Rattle.gix_ref_store.specs.Asks.{is_asked}
use Rattle.gix_ref_store.specs.Walks.{has}
use Rattle.gix_ref_store.proofs.AskLemmas.{asked_leads}
use Rattle.gix_ref_store.proofs.NameSets.{brings_one, some_name}
use Rattle.gix_ref_store.proofs.store.file.walk.Walk.put.Goals as goal

pub returns-then-not-branch-clause-there : goal.returns-then-not-branch-clause-there
returns-then-not-branch-clause-there g c = λ full so.
    let may : c.in_ok-may_be_at.field-0 ≡ false = search rules in
    absurd (cc (sym may ∙ c.in_ok-may_be_at.ensures (asked_leads c.args.self.now.asked c.args.path.now c.args.path.now so (inl refl))))

pub returns-then-not-branch-clause-folder : goal.returns-then-not-branch-clause-folder
returns-then-not-branch-clause-folder g c = λ honest led is.
    let may : c.in_ok-may_be_at.field-0 ≡ false = search rules in
    absurd (cc (sym may ∙ c.in_ok-may_be_at.ensures led))

pub returns-in-Some-clause-asked : goal.returns-in-Some-clause-asked
returns-in-Some-clause-asked g c =
    brings_one (is_asked c.args.self.now.asked) (keys c.args.names.now) (keys c.keep.new.names) c.in-Some.name (rw c.in-Some.is at c.in_ok-name.ensures.asked) c.keep.ensures.only

pub returns-in-Some-clause-there : goal.returns-in-Some-clause-there
returns-in-Some-clause-there g c = λ full so.
    subst (λ n. OnOk c.keep.result (IsTrue (has (keys c.keep.new.names) n))) (some_name (sym c.in-Some.is ∙ c.in_ok-name.ensures.found full so)) c.keep.ensures.there

pub returns-in-None-clause-there : goal.returns-in-None-clause-there
returns-in-None-clause-there g c = λ full so. absurd (cc (sym c.in-None.is ∙ c.in_ok-name.ensures.found full so))
