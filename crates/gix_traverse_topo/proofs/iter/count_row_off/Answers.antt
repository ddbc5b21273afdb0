use Rattle.std.proofs.Common.{ℕ, inl, inr, List, refl, sym, ◌∙◌, ap, subst, arith}
use Rattle.std.proofs.lemmas.Result.{err_from_is_err_and}
use Rattle.gix_hash.specs.declared.object_id.ObjectId.{ObjectId}
use Rattle.gix_traverse_graph.specs.Commits.{asked}
use Rattle.gix_traverse_graph.specs.Order.{At}
use Rattle.gix_traverse_topo.specs.Nodes.{all_facts, counts, hidden_in}
use Rattle.gix_traverse_topo.specs.Standing.{weight, CountsOff}
use Rattle.gix_traverse_topo.specs.declared.known.Known.{Known}
use Rattle.gix_traverse_topo.specs.declared.known.Facts.{Facts}
use Rattle.gix_traverse_topo.specs.Standing.{NotCounted}
use Rattle.gix_traverse_topo.proofs.Counting.{row_none, row_more, still_counted}
use Rattle.gix_traverse_topo.proofs.Updates.{past_end, le_self, many_counts}
use Rattle.gix_traverse_topo.proofs.iter.count_row_off.Goals as goal

pub row-init : goal.row-init
row-init c = record {
  ids = refl;
  hidden = refl;
  as_many = refl;
  told = refl;
  off = λ way h before hs xs facts at goes once. row_none way h before (asked c.args.along facts.parents.items) hs xs c.args.known.now c.args.ready.now goes once;
  falls = le_self (weight c.args.known.now c.args.ready.now);
}

pub row-preserved : goal.row-preserved
row-preserved c =
    let inv = c.row.invariant in
    let old : Known = c.args.known.now in
    let cs : List ℕ = counts c.row.known.nodes.items in
    let cs' : List ℕ = counts c.count_off.new.known.nodes.items in
    let y : ObjectId = c.in-Some.parent in
    let step : CountsOff (hidden_in old.nodes.items) old.ids.keys (all_facts old.nodes.items) cs c.row.ready y cs' c.count_off.new.ready =
    subst (λ (lo : ℕ). CountsOff lo old.ids.keys (all_facts old.nodes.items) cs c.row.ready y cs' c.count_off.new.ready) inv.hidden
    (subst (λ (ks : List ObjectId). CountsOff (hidden_in c.row.known.nodes.items) ks (all_facts old.nodes.items) cs c.row.ready y cs' c.count_off.new.ready) (ap (λ (i : _). i.keys) inv.ids)
    (subst (λ (rs : List Facts). CountsOff (hidden_in c.row.known.nodes.items) c.row.known.ids.keys rs cs c.row.ready y cs' c.count_off.new.ready) inv.told c.in_ok-count_off.ensures.counted)) in
    record {
      ids = c.in_ok-count_off.ensures.ids ∙ inv.ids;
      hidden = c.in_ok-count_off.ensures.hidden ∙ inv.hidden;
      as_many = c.in_ok-count_off.ensures.as_many ∙ inv.as_many;
      told = c.in_ok-count_off.ensures.all_facts ∙ inv.told;
      off = λ way h before hs xs facts at goes once.
          let here = sym (c.in-Some.ensures.parent facts (subst (λ (zs : List Facts). At zs c.args.number.0 facts) (sym inv.told) at)) in
          row_more way h before (asked c.args.along facts.parents.items) hs xs old c.args.ready.now goes once c.row.index y cs cs' c.row.ready c.count_off.new.ready here (many_counts c.row.known.nodes.items old.nodes.items inv.told ∙ goes.all_read) (inv.off way h before hs xs facts at goes once) step;
      falls = omega (arith, c.in_ok-count_off.ensures.falls, inv.falls);
    }

pub returns-clause-off : goal.returns-clause-off
returns-clause-off c = λ way h before hs xs facts at goes once.
    let inv = c.row.invariant in
    (c.row.index, past_end (asked c.args.along facts.parents.items) c.row.index (sym (c.in_default.ensures.parent facts (subst (λ (zs : List Facts). At zs c.args.number.0 facts) (sym inv.told) at))), inv.off way h before hs xs facts at goes once)

pub returns-in_err-count_off-clause-refused : goal.returns-in_err-count_off-clause-refused
returns-in_err-count_off-clause-refused c =
    let p = err_from_is_err_and c.from_residual.result c.from_residual.ensures.1 in
    let inv = c.row.invariant in
    let old : Known = c.args.known.now in
    let cs : List ℕ = counts c.row.known.nodes.items in
    let y : ObjectId = c.in-Some.parent in
    rw (p.1, p.2) (λ way h before hs xs facts at goes once. elim c.in_err-count_off.ensures.refused [
      | inl e ↦ e
      | inr none ↦ absurd (
          let here = sym (c.in-Some.ensures.parent facts (subst (λ (zs : List Facts). At zs c.args.number.0 facts) (sym inv.told) at)) in
          still_counted way h before (asked c.args.along facts.parents.items) hs xs old c.args.ready.now goes once c.row.index y cs c.row.ready here (many_counts c.row.known.nodes.items old.nodes.items inv.told ∙ goes.all_read) (inv.off way h before hs xs facts at goes once)
          (subst (λ (lo : ℕ). NotCounted lo old.ids.keys cs y) inv.hidden (subst (λ (ks : List ObjectId). NotCounted (hidden_in c.row.known.nodes.items) ks cs y) (ap (λ (i : _). i.keys) inv.ids) none)))
    ])
