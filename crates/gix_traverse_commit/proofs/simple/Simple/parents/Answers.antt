use Rattle.std.proofs.Common.{ap, refl, inl, inr}
use Rattle.gix_traverse_commit.proofs.Rest.{known_gains}
use Rattle.gix_traverse_commit.proofs.simple.Simple.parents.Goals as goal

pub returns-clause-made : goal.returns-clause-made
returns-clause-made g c = λ a m. elim (c.begin_anew.ensures.ahead a m) [
  | inl n ↦ inl (record { begun = n.begun; tips = n.tips; hidden = n.hidden; parents = refl; sorting = n.sorting; accepts_as = record { given = n.accepts_as.given; unmet = n.accepts_as.unmet }; asked = n.asked; empty = n.empty; none_waits = n.none_waits })
  | inr t ↦ inr (record { begun = t.begun; no_tips = t.no_tips; queued = t.queued; goes_on = t.goes_on; hidden = t.hidden; parents = refl; sorting = t.sorting; accepts_as = record { given = t.accepts_as.given; unmet = t.accepts_as.unmet }; accepted = t.accepted; refused = t.refused })
]

pub returns-clause-source : goal.returns-clause-source
returns-clause-source g c = ap (λ w. w.source) c.begin_anew.ensures.stays

pub returns-clause-anew : goal.returns-clause-anew
returns-clause-anew g c = record {
  unasked = ap (λ w. w.predicate) c.begin_anew.ensures.stays;
  kind = ap (λ w. w.kind) c.begin_anew.ensures.stays;
  gains = known_gains c.args.self (record c.begin_anew.new.self { parents = c.args.parents }) (ap (λ w. w.known) c.begin_anew.ensures.stays);
  over = λ o. let t = (c.begin_anew.ensures.over o).0 in record { begun = t.begun; empty = t.empty; none_waits = t.none_waits };
}
