use Rattle.std.proofs.Common.{rules, tests}
use Rattle.std.proofs.lemmas.List.Sorted.{IsPartitionPoint-from_clause}
use Rattle.gix_ref_format.proofs.SortLemmas.{below, parted}
use Rattle.gix_ref_format.proofs.PrefixLemmas.{prefixed}
use Rattle.gix_ref_format.proofs.packed.buffer.Buffer.iter_prefixed.Goals as goal

pub returns : goal.returns
returns c =
    prefixed c.args.prefix.now c.split_at.result.1.now c.as_slice-entries.result.now c.args.self.now.entries.items c.leading_with.result.now c.partition_point-first.result
    c.as_slice-entries.ensures.value c.split_at.ensures.back c.args.self.now.in_order
    (IsPartitionPoint-from_clause (below c.args.prefix.now) c.as_slice-entries.result.now c.partition_point-first.result c.partition_point-first.ensures.partitioned
    (parted c.args.prefix.now c.as_slice-entries.result.now c.args.self.now.entries.items c.as_slice-entries.ensures.value c.args.self.now.in_order) (λ a r q k. search (rules, tests)))
    c.leading_with.ensures
