use Rattle.std.proofs.Common.{◌∙◌, sym, ap, Some, option_map}
use Rattle.gix_hash.specs.Id.{id_of}
use Rattle.gix_ref_name.specs.Names.{part_of}
use Rattle.gix_ref_name.specs.Targets.{target_view}
use Rattle.gix_ref_store.specs.RefStates.{Stands}
use Rattle.gix_ref_store.specs.Stores.{base_of, names_of}
use Rattle.gix_ref_store.proofs.Among.{no_peeled}
use Rattle.gix_ref_store.proofs.store.file.Store.try_find_loose.Goals as goal

pub returns-in-Some-clause-found : goal.returns-in-Some-clause-found
returns-in-Some-clause-found g c = λ honest.
    let b = base_of c.args.self.now in
    let tree = (g.F.Files.history c.args.self.now.files).tree in
    let r = c.in-Some.field-0 in
    let met = rw c.in-Some.is at (c.in_ok-name.ensures.found honest) in
    let none = no_peeled b tree (names_of c.args.self.now (part_of c.args.name)) r.name (target_view r.target) (option_map id_of r.peeled) met in
    ap (λ peeled. Some (record { name = r.name; ref_state = Stands (target_view r.target) peeled })) (sym none) ∙ met
