use Rattle.gix_ref_store.specs.Stores.{base_of}
use Rattle.gix_ref_store.proofs.FaultLemmas.{no_id, no_name}
use Rattle.gix_ref_store.proofs.store.file.Store.target_of.Goals as goal

pub returns-in-Err-Parse-clause-found : goal.returns-in-Err-Parse-clause-found
returns-in-Err-Parse-clause-found g c = λ other.
    no_id (base_of c.args.self.now).kind c.args.text.now (rw c.in-Err-Parse.field-0-is at (rw c.in-Err-Parse.is at c.decode.ensures))

pub returns-in-Err-RefnameValidation-clause-found : goal.returns-in-Err-RefnameValidation-clause-found
returns-in-Err-RefnameValidation-clause-found g c = λ other.
    no_name (base_of c.args.self.now).kind c.args.text.now (rw c.in-Err-RefnameValidation.field-0-is at (rw c.in-Err-RefnameValidation.is at c.decode.ensures))
