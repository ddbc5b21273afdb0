use Rattle.std.proofs.Common.{rules, tests}
use Rattle.std.proofs.lemmas.Cmp.{nat_list_cmp_total}
use Rattle.std.proofs.lemmas.List.Sorted.{answers_always}
use Rattle.std.proofs.lemmas.List.MinMax.{ranks_by}
use Rattle.gix_ref_format.specs.PackedBuffer.{before}
use Rattle.gix_ref_format.proofs.SortLemmas.{holds_sorted}
use Rattle.gix_ref_format.proofs.packed.open.sorted_entries.Goals as goal

pub returns-clause-order : goal.returns-clause-order
returns-clause-order c =
    c.in_ok-sort_by.ensures.sorted before (ranks_by nat_list_cmp_total (λ e. e.name)) (answers_always _ _ _ (λ q a r q' k. search (rules, tests)))

pub returns-clause-holds : goal.returns-clause-holds
returns-clause-holds c =
    holds_sorted c.args.entries.items c.sort_by.new.self.items c.sort_by.ensures.permutation
    (c.sort_by.ensures.stable before (ranks_by nat_list_cmp_total (λ e. e.name)) (answers_always _ _ _ (λ q a r q' k. search (rules, tests))))
