use Rattle.std.proofs.Common.{◌≡◌, ◌∙◌, ap, subst, option_map}
use Rattle.std.specs.Prelude.{MatchResult}
use Rattle.gix_ref_format.specs.Lookup.{lookup_names}
use Rattle.gix_ref_store.specs.Known.{known_as}
use Rattle.gix_ref_store.specs.RefStates.{ref_state, first_met}
use Rattle.gix_ref_store.specs.Stores.{base_of}
use Rattle.gix_ref_store.specs.Finds.{met_of, FindFault}
use Rattle.gix_ref_store.proofs.store.file.Store.try_find.Goals as goal

pub returns-clause-found : goal.returns-clause-found
returns-clause-found g c = λ honest.
    let b = base_of c.args.self.now in
    let tree = (g.F.Files.history c.args.self.now.files).tree in
    subst (λ w. MatchResult c.find_word.result (λ found. option_map met_of found ≡ first_met (ref_state b tree) (lookup_names w)) (FindFault b tree (lookup_names w) (first_met (ref_state b tree) (lookup_names w))))
    (c.as_bytes.ensures ∙ c.in_ok-word.ensures ∙ ap (known_as c.args.self.now.options.precompose_unicode) c.to_partial_path.ensures) (c.find_word.ensures.found honest)
