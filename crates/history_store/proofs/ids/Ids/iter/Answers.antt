use Rattle.std.proofs.Common.{◌∙◌, sym, ap, subst}
use Rattle.history_store.specs.Ids.{joined, IsAscending}
use Rattle.history_texts.specs.IdLists.{is_one_of}
use Rattle.history_store.proofs.IdOrder.{joined_ascends}
use Rattle.history_store.proofs.IdSets.{contains-set_of}
use Rattle.history_store.proofs.ids.Ids.iter.Goals as goal

pub returns-clause-ids : goal.returns-clause-ids
returns-clause-ids c = λ id. contains-set_of (joined c.args.self.now.lists.items) id ∙ ap (λ lists. is_one_of (joined lists) id) (sym c.as_slice.ensures.value)

pub returns-clause-ascending : goal.returns-clause-ascending
returns-clause-ascending c = subst (λ lists. IsAscending (joined lists)) (sym c.as_slice.ensures.value) (joined_ascends 0 c.args.self.now.lists.items c.args.self.now.in_order)
