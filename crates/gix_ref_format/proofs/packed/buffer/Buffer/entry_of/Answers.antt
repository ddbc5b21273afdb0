use Rattle.std.proofs.Common.{◌≡◌, ◌∙◌, sym, ap, rules, true, false, cond, None, Some, option_map, tests}
use Rattle.std.specs.Prelude.{bytes_eq}
use Rattle.std.proofs.lemmas.List.Sorted.{IsPartitionPoint-from_clause}
use Rattle.gix_ref_format.specs.PackedBuffer.{entry_record}
use Rattle.gix_ref_format.proofs.SortLemmas.{named, below, searched_hit, parted, none_there, found_there}
use Rattle.gix_ref_format.proofs.packed.buffer.Buffer.entry_of.Goals as goal

pub returns-in_err-entry : goal.returns-in_err-entry
returns-in_err-entry c =
    let xs = c.args.self.now.entries.items in
    let key = c.args.name.now in
    let parts = IsPartitionPoint-from_clause (below key) c.deref.result.now c.partition_point-at.result c.partition_point-at.ensures.partitioned
    (parted key c.deref.result.now xs c.deref.ensures.value c.args.self.now.in_order) (λ a r q k. search (rules, tests)) in
    let none = none_there c.deref-2.result.now xs c.partition_point-at.result c.deref-2.ensures.value c.in_err-entry.ensures.lookup.3 in
    rw c.from_residual.ensures (sym (searched_hit key c.deref.result.now xs c.partition_point-at.result None c.deref.ensures.value c.args.self.now.in_order parts none))

pub returns-then-eq : goal.returns-then-eq
returns-then-eq c =
    let xs = c.args.self.now.entries.items in
    let key = c.args.name.now in
    let e = c.in_ok-entry.entry.now in
    let parts = IsPartitionPoint-from_clause (below key) c.deref.result.now c.partition_point-at.result c.partition_point-at.ensures.partitioned
    (parted key c.deref.result.now xs c.deref.ensures.value c.args.self.now.in_order) (λ a r q k. search (rules, tests)) in
    let there = found_there c.deref-2.result.now xs c.partition_point-at.result e c.deref-2.ensures.value c.in_ok-entry.ensures.lookup.3.0 c.in_ok-entry.ensures.lookup.1 in
    let same : named key e ≡ true = sym (ap (λ n. bytes_eq n key) c.name_of.ensures) ∙ sym c.eq.ensures ∙ c.if-eq.true in
    sym (searched_hit key c.deref.result.now xs c.partition_point-at.result (Some e) c.deref.ensures.value c.args.self.now.in_order parts there
    ∙ ap (λ b. option_map entry_record (cond b (Some e) None)) same)

pub returns-else-eq : goal.returns-else-eq
returns-else-eq c =
    let xs = c.args.self.now.entries.items in
    let key = c.args.name.now in
    let e = c.in_ok-entry.entry.now in
    let parts = IsPartitionPoint-from_clause (below key) c.deref.result.now c.partition_point-at.result c.partition_point-at.ensures.partitioned
    (parted key c.deref.result.now xs c.deref.ensures.value c.args.self.now.in_order) (λ a r q k. search (rules, tests)) in
    let there = found_there c.deref-2.result.now xs c.partition_point-at.result e c.deref-2.ensures.value c.in_ok-entry.ensures.lookup.3.0 c.in_ok-entry.ensures.lookup.1 in
    let differs : named key e ≡ false = sym (ap (λ n. bytes_eq n key) c.name_of.ensures) ∙ sym c.eq.ensures ∙ c.if-eq.false in
    sym (searched_hit key c.deref.result.now xs c.partition_point-at.result (Some e) c.deref.ensures.value c.args.self.now.in_order parts there
    ∙ ap (λ b. option_map entry_record (cond b (Some e) None)) differs)
