use Rattle.std.proofs.Common.{rules}
use Rattle.std.proofs.lemmas.Fn.{always_returns_same}
use Rattle.gix_hash.specs.Order.{digits_cmp}
use Rattle.gix_object_tree.specs.Order.{git_key, item_key}
use Rattle.gix_object_tree.proofs.Searched.{search_found, search_missing}
use Rattle.gix_object_tree.proofs.tree.search.search.Goals as goal

pub returns-clause-found : goal.returns-clause-found
returns-clause-found g c =
    let key = git_key c.args.name.now c.args.is_tree in
    let found = c.binary_search_by.ensures.position (λ x. digits_cmp (item_key (g.T.AsEntry.item x)) key) (always_returns_same _ _ _ (λ a r f' called. (search rules, search rules))) in
    search_found g.T.AsEntry.item c.args.entries.now key c.ok.result c.binary_search_by.result c.ok.ensures.value found

pub returns-clause-missing : goal.returns-clause-missing
returns-clause-missing g c =
    let key = git_key c.args.name.now c.args.is_tree in
    let found = c.binary_search_by.ensures.position (λ x. digits_cmp (item_key (g.T.AsEntry.item x)) key) (always_returns_same _ _ _ (λ a r f' called. (search rules, search rules))) in
    search_missing g.T.AsEntry.item c.args.entries.now key c.ok.result c.binary_search_by.result c.ok.ensures.value found
