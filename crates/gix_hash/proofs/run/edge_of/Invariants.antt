use Rattle.std.proofs.Common.{◌≡◌, ◌<◌, ◌≤◌, ◌+◌, ◌^◌, ℕ, length, true, false}
use Rattle.std.specs.List.{slice_index_or}
use Rattle.gix_hash.specs.Run.{against, comes_before}
use Rattle.gix_hash.specs.declared.object_id.ObjectId.{ObjectId}
use Rattle.gix_hash.proofs.run.edge_of.Given as goal

abbrev pub invariant-halves : goal.invariant-halves
invariant-halves l = record {
  within : l.low + l.size ≤ length l.ids;
  before : (i : ℕ) (id : ObjectId) → i < l.low → comes_before l.edge (against l.prefix (slice_index_or l.ids i id)) ≡ true;
  after : (i : ℕ) (id : ObjectId) → l.low + l.size ≤ i → i < length l.ids → comes_before l.edge (against l.prefix (slice_index_or l.ids i id)) ≡ false;
  calls : (k : ℕ) → length l.ids < 2 ^ k → (j : ℕ) × (l.calls + j ≡ l.fn.calls + k) × (l.size < 2 ^ j);
}

abbrev pub decreases-halves : goal.decreases-halves
decreases-halves l = l.size
