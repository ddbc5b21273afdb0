use Rattle.std.proofs.Common.{rules, tests}
use Rattle.std.proofs.lemmas.Cmp.{nat_list_cmp_total}
use Rattle.std.proofs.lemmas.List.Sorted.{answers_always}
use Rattle.std.proofs.lemmas.List.MinMax.{ranks_by}
use Rattle.gix_ref_format.specs.Edited.{line_of}
use Rattle.gix_ref_format.proofs.EditLemmas.{arranges, by_name}
use Rattle.gix_ref_format.proofs.packed.merge.sorted_by_name.Goals as goal

pub returns : goal.returns
returns c =
    arranges c.args.lines.items c.sort_by.new.self.items c.sort_by.ensures.permutation
    (c.sort_by.ensures.stable by_name (ranks_by nat_list_cmp_total (λ e. (line_of e).name)) (answers_always _ _ _ (λ q a r q' k. search (rules, tests))))
    (c.in_ok-sort_by.ensures.sorted by_name (ranks_by nat_list_cmp_total (λ e. (line_of e).name)) (answers_always _ _ _ (λ q a r q' k. search (rules, tests))))
