use Rattle.std.proofs.Common.{List, rules, subst, sym, tests}
use Rattle.std.proofs.lemmas.List.Sorted.{IsPartitionPoint-from_clause}
use Rattle.gix_ref_format.specs.PackedBuffer.{entry_records}
use Rattle.gix_ref_format.specs.PackedText.{AllBelow, NoneBelow}
use Rattle.gix_ref_format.specs.declared.packed.buffer.Entry.{Entry}
use Rattle.gix_ref_format.proofs.MergeLemmas.{ascend_from}
use Rattle.gix_ref_format.proofs.RunLemmas.{all_below, none_below, parts_are, sorted_from}
use Rattle.gix_ref_format.proofs.SortLemmas.{below, ranks_part}
use Rattle.gix_ref_format.proofs.packed.run.Run.around.Goals as goal

pub after-requires : goal.after-requires
after-requires c =
    let name = c.args.name.now in
    let xs = c.args.self.entries.now in
    let parts = IsPartitionPoint-from_clause (below name) xs c.partition_point-count.result c.partition_point-count.ensures.partitioned
    (ranks_part name xs (sorted_from xs (ascend_from (entry_records xs) c.args.self.ascend))) (λ a r q k. search (rules, tests)) in
    subst (λ (es : List Entry). NoneBelow name (entry_records es)) (sym c.split_at.ensures.back) (none_below name xs c.partition_point-count.result parts)

pub returns : goal.returns
returns c =
    let name = c.args.name.now in
    let xs = c.args.self.entries.now in
    let count = c.partition_point-count.result in
    let parts = IsPartitionPoint-from_clause (below name) xs count c.partition_point-count.ensures.partitioned
    (ranks_part name xs (sorted_from xs (ascend_from (entry_records xs) c.args.self.ascend))) (λ a r q k. search (rules, tests)) in
    record {
      rest = entry_records c.split_at.result.1.entries.now;
      parts = parts_are xs c.split_at.result.0.entries.now c.split_at.result.1.entries.now count c.split_at.ensures.front c.split_at.ensures.back;
      below = subst (λ (es : List Entry). AllBelow name (entry_records es)) (sym c.split_at.ensures.front) (all_below name xs count parts);
      after = c.after.ensures;
    }
