use Rattle.std.proofs.Common.{◌≡◌, ◌∙◌, ap, rules, tests, not, filter, subst, sym, bytes_eq}
use Rattle.std.proofs.lemmas.Cmp.{nat_list_cmp_total}
use Rattle.std.proofs.lemmas.Fn.{filter_same}
use Rattle.std.proofs.lemmas.List.Kept.{IsSortedBy-filter}
use Rattle.std.proofs.lemmas.List.Sorted.{ranks_by}
use Rattle.gix_ref_format.specs.PackedBuffer.{IsInOrder, before, entry_records}
use Rattle.gix_ref_format.specs.declared.packed.buffer.Entry.{Entry}
use Rattle.gix_ref_format.proofs.RunLemmas.{filter_records, is_other}
use Rattle.gix_ref_format.proofs.packed.again.entries_without.Goals as goal

pub returns-clause-order : goal.returns-clause-order
returns-clause-order c = λ order.
    let others = λ (entry : Entry). not (bytes_eq entry.name c.args.gone.now) in
    let left : c.retain.new.self.items ≡ filter others c.args.entries.items = filter_same _ _ _ (λ x b f' k. search (rules, tests)) _ _ c.retain.ensures.filtered in
    subst IsInOrder (sym left) (IsSortedBy-filter before (ranks_by nat_list_cmp_total (λ e. e.name)) others c.args.entries.items order)

pub returns-clause-others : goal.returns-clause-others
returns-clause-others c =
    let others = λ (entry : Entry). not (bytes_eq entry.name c.args.gone.now) in
    let left : c.retain.new.self.items ≡ filter others c.args.entries.items = filter_same _ _ _ (λ x b f' k. search (rules, tests)) _ _ c.retain.ensures.filtered in
    ap entry_records left ∙ sym (filter_records (is_other c.args.gone.now) c.args.entries.items)
