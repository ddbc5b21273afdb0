use Rattle.std.proofs.Common.{◌∙◌, subst, refl, inl, inr, Some}
use Rattle.std.proofs.lemmas.Result.{err_from_is_err_and}
use Rattle.gix_object_tree.specs.Reading.{place_of, Steps}
use Rattle.gix_traverse_tree.proofs.Listed.{listed_start, listed_done, step_entry, step_ended, step_unread}
use Rattle.gix_traverse_tree.proofs.breadthfirst.show_entries.Goals as goal

pub entries-init : goal.entries-init
entries-init g c = record {
  can = tt;
  finite = tt;
  kind = refl;
  listed = listed_start g.V.Visit.goes c.args.entries.hash_kind c.args.above c.args.entries.rest.now c.args.delegate.now c.args.nodes.now.items;
}

pub returns-in_err-entry-clause-stopped : goal.returns-in_err-entry-clause-stopped
returns-in_err-entry-clause-stopped g c =
    let p = err_from_is_err_and c.from_residual.result c.from_residual.ensures.1 in
    let steps = subst (λ r. Steps (place_of c.entries.rest) (Some r) (place_of c.next.new.self)) c.in_err-entry.was c.in-Some.ensures.steps in
    rw (p.1, p.2) (inr (step_unread g.V.Visit.goes c.args.entries.hash_kind c.args.above c.args.entries.rest.now (place_of c.entries.rest) (place_of c.next.new.self) _ c.args.delegate.now c.entries.delegate c.args.nodes.now.items c.entries.nodes.items c.entries.invariant.kind c.entries.invariant.listed steps))

pub entries-preserved : goal.entries-preserved
entries-preserved g c =
    let steps = subst (λ r. Steps (place_of c.entries.rest) (Some r) (place_of c.next.new.self)) c.in_ok-entry.was c.in-Some.ensures.steps in
    let told = c.in_ok-pass.ensures.passed in
    record {
      can = tt;
      finite = tt;
      kind = steps.0 ∙ c.entries.invariant.kind;
      listed = step_entry g.V.Visit.goes c.args.entries.hash_kind c.args.above c.args.entries.rest.now (place_of c.entries.rest) (place_of c.next.new.self) c.in_ok-entry.entry c.args.delegate.now c.entries.delegate c.pass.new.delegate c.args.nodes.now.items c.entries.nodes.items c.pass.new.nodes.items told.0 c.entries.invariant.kind c.entries.invariant.listed steps told.1 told.2;
    }

pub returns-in_err-pass-clause-stopped : goal.returns-in_err-pass-clause-stopped
returns-in_err-pass-clause-stopped g c =
    let p = err_from_is_err_and c.from_residual-in_err-pass.result c.from_residual-in_err-pass.ensures.1 in
    let steps = subst (λ r. Steps (place_of c.entries.rest) (Some r) (place_of c.next.new.self)) c.in_ok-entry.was c.in-Some.ensures.steps in
    rw (p.1, p.2) (elim c.in_err-pass.ensures.ended [
      | inl e ↦ inl e
      | inr told ↦ inr (rw told.0 (step_ended g.V.Visit.goes c.args.entries.hash_kind c.args.above c.args.entries.rest.now (place_of c.entries.rest) (place_of c.next.new.self) c.in_ok-entry.entry c.args.delegate.now c.entries.delegate c.pass.new.delegate c.args.nodes.now.items c.entries.nodes.items c.entries.invariant.kind c.entries.invariant.listed steps told.1))
    ])

pub returns-clause-listed : goal.returns-clause-listed
returns-clause-listed g c =
    listed_done g.V.Visit.goes c.args.entries.hash_kind c.args.above c.args.entries.rest.now c.entries.rest.rest.now c.args.delegate.now c.entries.delegate c.args.nodes.now.items c.entries.nodes.items c.in_default.ensures.steps.0 c.entries.invariant.listed
