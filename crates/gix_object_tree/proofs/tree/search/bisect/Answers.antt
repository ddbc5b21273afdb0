use Rattle.std.proofs.Common.{◌∙◌, ap, sym, subst, ◌<◌, length, map, arith}
use Rattle.std.proofs.lemmas.Bool.{false≢true}
use Rattle.gix_object_tree.specs.Order.{item_key}
use Rattle.gix_object_tree.specs.WellFormed.{IsNamed}
use Rattle.gix_object_tree.proofs.Searched.{item_at, map_length, other_named}
use Rattle.gix_object_tree.proofs.tree.search.bisect.Goals as goal

pub returns-clause-missing : goal.returns-clause-missing
returns-clause-missing g c = λ ordered.
    let item = g.T.AsEntry.item in
    let entries = c.args.entries.now in
    let x = c.index-entries-at.result in
    let at = c.in_ok-at.at in
    let within : at < length entries = c.in_ok-at.ensures.within in
    let long = map_length item entries in
    let is = item_at item entries at x within c.index-entries-at.is in
    let key = ap (λ y. item_key (item y)) c.index-entries-at.is ∙ c.in_ok-at.ensures.found x in
    let differs = λ (named : IsNamed c.args.name.now c.args.is_tree (item x)).
    false≢true (sym c.if-is_named.false ∙ c.is_named.ensures.1 (subst (IsNamed c.args.name.now c.args.is_tree) (sym c.as_entry.ensures) named)) in
    other_named (map item entries) at (item x) c.args.name.now c.args.is_tree (omega arith) is key differs ordered
