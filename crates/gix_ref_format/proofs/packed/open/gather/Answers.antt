use Rattle.std.proofs.lemmas.Result.{err_from_is_err_and}
use Rattle.gix_ref_format.specs.Packed.{item_view}
use Rattle.gix_ref_format.specs.PackedBuffer.{entry_records}
use Rattle.gix_ref_format.specs.PackedIter.{items_left}
use Rattle.gix_ref_format.proofs.GatherLemmas.{gathered_on, gathered_all, gathered_fault}
use Rattle.gix_ref_format.proofs.packed.open.gather.Goals as goal

pub returns-in_err-owned_record : goal.returns-in_err-owned_record
returns-in_err-owned_record c =
    let p = err_from_is_err_and c.from_residual.result c.from_residual.ensures.1 in
    rw (p.1, p.2)
    (gathered_fault (items_left c.args.records) (entry_records c.loop-item.entries.items) (item_view c.in-Some.item) (items_left c.loop-item.left) (items_left c.next.new.self)
    c.in_err-owned_record.field-0.0 c.loop-item.invariant.2 c.in-Some.ensures.steps c.in_err-owned_record.ensures)

pub loop-item-preserved : goal.loop-item-preserved
loop-item-preserved c = (
  tt,
  tt,
  gathered_on (items_left c.args.records) c.loop-item.entries.items c.push.new.self.items c.in_ok-owned_record.field-0 (item_view c.in-Some.item) (items_left c.loop-item.left)
      (items_left c.next.new.self) c.loop-item.invariant.2 c.in-Some.ensures.steps c.in_ok-owned_record.ensures c.in_ok-push.ensures.items,
)

pub returns : goal.returns
returns c =
    gathered_all (items_left c.args.records) (entry_records c.loop-item.entries.items) (items_left c.loop-item.left) c.loop-item.invariant.2 c.in_default.ensures.steps.0
