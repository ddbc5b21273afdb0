-- A walk is over where its test says so.
use Rattle.std.proofs.Common.{◌≡◌, ◌∙◌, ap, List, Bool, true}
use Rattle.std.specs.Prelude.{◌&&◌}
use Rattle.gix_hash.specs.declared.object_id.ObjectId.{ObjectId}
use Rattle.gix_traverse_commit_known.specs.Ending.{is_empty}
use Rattle.gix_traverse_commit_known.specs.Known.{turns_of}
use Rattle.gix_traverse_commit.specs.Simply.{IsOver, is_over}
use Rattle.gix_traverse_commit.specs.declared.simple.Simple.{Simple}
use Rattle.std.proofs.lemmas.Bool.{and_parts}
use Rattle.gix_traverse_commit_known.proofs.Ending.{empty_from, empty_test}

pub over_from : {F P : Type 0} (walk : Simple F P) → is_over walk ≡ true → IsOver walk
over_from walk e =
    let rest = (and_parts walk.begun (is_empty walk.known.queue && is_empty (turns_of walk.known)) e).1 in
    record {
      begun = (and_parts walk.begun (is_empty walk.known.queue && is_empty (turns_of walk.known)) e).0;
      empty = empty_from walk.known.queue (and_parts (is_empty walk.known.queue) (is_empty (turns_of walk.known)) rest).0;
      none_waits = empty_from (turns_of walk.known) (and_parts (is_empty walk.known.queue) (is_empty (turns_of walk.known)) rest).1;
    }

pub over_test : {F P : Type 0} (walk : Simple F P) → IsOver walk → is_over walk ≡ true
over_test walk o =
    ap (λ (b : Bool). b && (is_empty walk.known.queue && is_empty (turns_of walk.known))) o.begun
    ∙ ap (λ (xs : List ObjectId). is_empty xs && is_empty (turns_of walk.known)) o.empty
    ∙ empty_test (turns_of walk.known) o.none_waits
