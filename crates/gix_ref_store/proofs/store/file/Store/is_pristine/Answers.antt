use Rattle.std.proofs.Common.{◌≡◌, rules, true, false}
use Rattle.gix_ref_name.specs.Names.{name_of}
use Rattle.gix_ref_name.specs.Targets.{target_view}
use Rattle.gix_ref_store.proofs.PristineLemmas.{by_loose}
use Rattle.gix_ref_store.proofs.store.file.Store.is_pristine.Goals as goal

pub returns-clause-told : goal.returns-clause-told
returns-clause-told g c = λ honest.
    let headed : c.points_to.result ≡ true = search rules in
    let unpacked : c.in_ok-has_packed.field-0 ≡ false = search rules in
    by_loose c.args.self.now (g.F.Files.history c.args.self.now.files).tree (name_of c.args.default_ref) (target_view c.in-Some.head) c.points_to.result c.in_ok-has_packed.field-0 c.in_ok-used.used
    (rw c.in-Some.is at (c.in_ok-head.ensures.told honest)) c.points_to.ensures headed (c.in_ok-has_packed.ensures.told honest) unpacked (c.in_ok-used.ensures.told honest)
