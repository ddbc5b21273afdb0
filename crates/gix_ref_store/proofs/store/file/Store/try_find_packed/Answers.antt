use Rattle.std.proofs.Common.{◌∙◌, ap, subst}
use Rattle.gix_ref_format.specs.Lookup.{lookup_names}
use Rattle.gix_ref_store.specs.Known.{known_as}
use Rattle.gix_ref_store.specs.RefStates.{state_among}
use Rattle.gix_ref_store.specs.Stores.{base_of}
use Rattle.gix_ref_store.specs.Finds.{records_in}
use Rattle.gix_ref_store.specs.Searches.{Finds}
use Rattle.gix_ref_store.proofs.store.file.Store.try_find_packed.Goals as goal

pub returns-clause-found : goal.returns-clause-found
returns-clause-found g c = λ honest.
    subst (λ w. Finds (state_among (base_of c.args.self.now) (g.F.Files.history c.args.self.now.files).tree (records_in c.args.packed)) (lookup_names w) c.find_among.result)
    (c.as_bytes.ensures ∙ c.in_ok-word.ensures ∙ ap (known_as c.args.self.now.options.precompose_unicode) c.to_partial_path.ensures) (c.find_among.ensures.found honest)
