-- What the changes of making a repository leave.
use Rattle.std.proofs.Common.{◌≡◌, ◌∙◌, ap, []}
use Rattle.std.specs.Prelude.{Some, unwrap_or}
use Rattle.std.specs.FinMap.{remove}
use Rattle.gix_ref_file.specs.Tree.{Tree, file, bytes_of, bytes_at}
use Rattle.gix_ref_file.specs.Changes.{to_write, to_rename, to_remove_file, after}
use Rattle.gix_ref_file.proofs.Trees.{get_inserted}
use Rattle.history_model.specs.Bytes.{Bytes}
use Rattle.history_model.specs.Repository.{first_branch}
use Rattle.history_model.specs.StandsFor.{head_text}
use Rattle.history_model.specs.Places.{file_at, head_place, unfinished_place}
use Rattle.history_store.specs.References.{head_lock}
use Rattle.history_store.specs.Creation.{IsCleared, HasHead}
use Rattle.gix_ref_way.proofs.Stored.{apart_from_inserted, apart_from_removed}
use Rattle.history_store.proofs.Beside.{file_removed}

pub cleared : (old new : Tree) → new ≡ after (to_remove_file unfinished_place) old → IsCleared old new
cleared old new is = record {
  gone = ap (λ t. file_at t unfinished_place) is ∙ file_removed old unfinished_place;
  others = λ path apart. ap (λ t. file_at t path) is ∙ apart_from_removed old unfinished_place path apart;
}

pub head_written : (text : Bytes) (old mid new : Tree) → text ≡ head_text first_branch → mid ≡ after (to_write head_lock text) old → new ≡ after (to_rename head_lock head_place) mid → HasHead old new
head_written text old mid new is_text is_mid is_new =
    let locked : bytes_at mid head_lock ≡ text = ap (λ t. bytes_at t head_lock) is_mid ∙ ap (λ node. unwrap_or (bytes_of node) []) (get_inserted old head_lock (file text)) in
    record {
      head = ap (λ t. file_at t head_place) is_new ∙ ap bytes_of (get_inserted (remove mid head_lock) head_place (file (bytes_at mid head_lock))) ∙ ap Some (locked ∙ is_text);
      lock = ap (λ t. file_at t head_lock) is_new ∙ apart_from_inserted (remove mid head_lock) head_place _ head_lock (λ same. cc) ∙ file_removed mid head_lock;
      others = λ path apart other. ap (λ t. file_at t path) is_new ∙ apart_from_inserted (remove mid head_lock) head_place _ path apart ∙ apart_from_removed mid head_lock path other
          ∙ ap (λ t. file_at t path) is_mid ∙ apart_from_inserted old head_lock (file text) path other;
    }
