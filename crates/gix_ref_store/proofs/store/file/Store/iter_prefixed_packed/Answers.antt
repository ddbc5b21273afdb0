use Rattle.std.proofs.Common.{◌∙◌, subst, refl, ℕ, List, Bool, false}
use Rattle.std.specs.Prelude.{IfOk}
use Rattle.gix_ref_store.specs.Known.{known_as}
use Rattle.gix_ref_store.specs.Finds.{records_in}
use Rattle.gix_ref_store.specs.Items.{left_in}
use Rattle.gix_ref_store.specs.Listings.{IsListing}
use Rattle.gix_ref_store.specs.RefStates.{state_among}
use Rattle.gix_ref_store.specs.Stores.{base_of}
use Rattle.gix_ref_store.proofs.AskLemmas.{asks_front}
use Rattle.gix_ref_store.proofs.store.file.Store.iter_prefixed_packed.Goals as goal

pub returns-clause-listed : goal.returns-clause-listed
returns-clause-listed g c = λ honest.
    let tree = (g.F.Files.history c.args.self.now.files).tree in
    let composes = c.args.self.now.options.precompose_unicode in
    let is = asks_front (record { front = c.as_bytes.result; is_whole = false; composes = composes }) (known_as composes c.args.prefix.now) composes (c.as_bytes.ensures ∙ c.in_ok-front.ensures) refl refl in
    subst (λ (asked : List ℕ → Bool). IfOk c.listed.result (λ items. IsListing (state_among (base_of c.args.self.now) tree (records_in c.args.packed)) asked (left_in tree items))) is (c.listed.ensures.listed honest)
