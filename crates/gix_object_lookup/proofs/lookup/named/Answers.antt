use Rattle.std.proofs.Common.{◌≡◌, ◌∙◌, sym, subst, [], ◌∷◌, ◌++◌, Some}
use Rattle.std.proofs.lemmas.Bool.{false≢true}
use Rattle.std.proofs.lemmas.List.Elements.{All-push}
use Rattle.std.proofs.lemmas.Result.{err_from_is_err_and}
use Rattle.gix_object_tree.specs.Entry.{Item, item_of, SpellsEntry, SpellsNoEntry, EntryFault}
use Rattle.gix_object_tree.specs.Reading.{place_of, Steps}
use Rattle.gix_object_tree.proofs.Spelled.{entries_more}
use Rattle.gix_object_lookup.proofs.Named.{found_none}
use Rattle.gix_object_lookup.proofs.lookup.named.Goals as goal

pub returns-in_err-entry-clause-refused : goal.returns-in_err-entry-clause-refused
returns-in_err-entry-clause-refused c =
    let rest = c.entries.tree.rest.now in
    let read = c.entries.invariant in
    let steps = subst (λ e. Steps (place_of c.entries.tree) (Some e) (place_of c.next.new.self)) c.in_err-entry.was c.in-Some.ensures.steps in
    let p = err_from_is_err_and c.from_residual.result c.from_residual.ensures.1 in
    rw (p.1, p.2) (
      record {
        items = read.0;
        rest = rest;
        spelled = read.1;
        left = subst (λ k. SpellsNoEntry k rest) read.2 steps.1;
        fault = subst (λ k. EntryFault k rest c.in_err-entry.field-0.0) read.2 steps.2;
      },
      read.3,
    )

pub returns-then-has_name-clause-found : goal.returns-then-has_name-clause-found
returns-then-has_name-clause-found c =
    let kind = c.args.tree.hash_kind in
    let rest = c.entries.tree.rest.now in
    let read = c.entries.invariant in
    let item = item_of c.in_ok-entry.entry in
    let after = c.next.new.self.rest.now in
    let steps = subst (λ e. Steps (place_of c.entries.tree) (Some e) (place_of c.next.new.self)) c.in_ok-entry.was c.in-Some.ensures.steps in (
      read.0,
      after,
      entries_more kind c.args.tree.rest.now read.0 rest item after read.1 (subst (λ k. SpellsEntry k rest item after) read.2 steps.1),
      read.3,
      c.has_name.ensures.0 c.if-has_name.true,
    )

pub entries-preserved : goal.entries-preserved
entries-preserved c =
    let kind = c.args.tree.hash_kind in
    let rest = c.entries.tree.rest.now in
    let read = c.entries.invariant in
    let item = item_of c.in_ok-entry.entry in
    let after = c.next.new.self.rest.now in
    let steps = subst (λ e. Steps (place_of c.entries.tree) (Some e) (place_of c.next.new.self)) c.in_ok-entry.was c.in-Some.ensures.steps in (
      read.0 ++ item ∷ [],
      entries_more kind c.args.tree.rest.now read.0 rest item after read.1 (subst (λ k. SpellsEntry k rest item after) read.2 steps.1),
      steps.0 ∙ read.2,
      All-push (λ (i : Item). i.name ≡ c.args.name.now → ⊥) read.0 item read.3 (λ same. false≢true (sym c.if-has_name.false ∙ c.has_name.ensures.1 same)),
    )

pub returns-clause-found : goal.returns-clause-found
returns-clause-found c =
    let read = c.entries.invariant in
    let steps = subst (λ r. Steps (place_of c.entries.tree) r (place_of c.next.new.self)) c.in_default.is c.next.ensures.steps in
    found_none (place_of c.args.tree) c.args.name.now read.0 c.entries.tree.rest.now read.1 read.3 steps.0
