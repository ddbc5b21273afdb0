use Rattle.std.proofs.Common.{◌∙◌, sym, rules, tests}
use Rattle.std.proofs.lemmas.List.Sorted.{IsPartitionPoint-from_clause}
use Rattle.gix_ref_format.specs.PackedBuffer.{has_prefix}
use Rattle.gix_ref_format.proofs.PrefixLemmas.{filter_run}
use Rattle.gix_ref_format.proofs.packed.records.leading_with.Goals as goal

pub returns : goal.returns
returns c = λ parted.
    c.split_at.ensures.front
    ∙ sym (filter_run (has_prefix c.args.prefix.now) c.args.entries.now c.partition_point-count.result
    (IsPartitionPoint-from_clause (has_prefix c.args.prefix.now) c.args.entries.now c.partition_point-count.result c.partition_point-count.ensures.partitioned parted (λ a r q k. search (rules, tests))))
