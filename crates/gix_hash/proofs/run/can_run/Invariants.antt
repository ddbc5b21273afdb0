use Rattle.std.proofs.Common.{◌≡◌, ◌<◌, ◌≤◌, ℕ, length, false}
use Rattle.std.specs.Ordering.{is_gt}
use Rattle.std.specs.List.{slice_index_or}
use Rattle.gix_hash.specs.Id.{id_of}
use Rattle.gix_hash.specs.Order.{digits_cmp}
use Rattle.gix_hash.specs.declared.object_id.ObjectId.{ObjectId}
use Rattle.gix_hash.proofs.run.can_run.Given as goal

abbrev pub invariant-ids : goal.invariant-ids
invariant-ids l = record {
  count : l.hex_len ≡ length l.prefix.digits;
  ascending : (i j : ℕ) (d : ObjectId) → i < j → j < l.i → is_gt (digits_cmp (id_of (slice_index_or l.ids i d)).digits (id_of (slice_index_or l.ids j d)).digits) ≡ false;
  enough : (k : ℕ) (d : ObjectId) → k < l.i → l.hex_len ≤ length (id_of (slice_index_or l.ids k d)).digits;
}
