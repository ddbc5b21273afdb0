use Rattle.std.proofs.Common.{◌∙◌, sym, ap, ℕ, map, Vec, arith}
use Rattle.std.specs.BTreeMap.{keys}
use Rattle.std.specs.Prelude.{IsTrue}
use Rattle.std.specs.declared.alloc.Global.{Global}
use Rattle.gix_ref_file.proofs.Listings.{item_is, map_length}
use Rattle.gix_object_lines.specs.NameTest.{is_full_name}
use Rattle.gix_ref_store.specs.Listings.{is_pseudo}
use Rattle.gix_ref_store.proofs.NameSets.{keeps_on, brings_on}
use Rattle.gix_ref_store.proofs.WalkSteps.{one_more_there, all_pseudo}
use Rattle.gix_ref_store.proofs.store.file.walk.Walk.pseudo.Goals as goal

pub loop-name-preserved : goal.loop-name-preserved
loop-name-preserved g c =
    let before = keys c.loop-name.names in
    let after = keys c.put_pseudo.new.names in
    let at = item_is c.deref-name-items.result.now c.loop-name.name-index c.name-item.result c.loop-name-test.true c.name-item.is ∙ sym c.deref.ensures.value in (
      keeps_on (keys c.args.names.now) before after c.loop-name.invariant.0 c.in_ok-put_pseudo.ensures.kept,
      brings_on is_pseudo (keys c.args.names.now) before after c.loop-name.invariant.1 c.in_ok-put_pseudo.ensures.asked,
      λ i below full pseudo. one_more_there (λ n. IsTrue (is_full_name n) × IsTrue (is_pseudo n)) _ before after c.deref.result.now c.loop-name.name-index c.in_ok-put_pseudo.ensures.kept
          (λ j less ok. c.loop-name.invariant.2 j less ok.0 ok.1) at (λ ok. c.in_ok-put_pseudo.ensures.there ok.0 ok.1) i below (full, pseudo),
      λ honest knows. c.in_ok-put_pseudo.ensures.told honest (c.loop-name.invariant.3 honest knows),
    )

pub returns-clause-all : goal.returns-clause-all
returns-clause-all g c = λ honest.
    let tree = (g.F.Files.history c.args.self.now.store.now.files).tree in
    let rooted = g.met.F.Files.rooted c.args.self.now.store.now.files honest in
    let names = ap (map (λ (name : Vec ℕ Global). name.items)) c.deref-name-items.ensures.value ∙ c.in_ok-list.ensures.names honest in
    all_pseudo tree c.args.self.now.base.now _ (keys c.loop-name.names) rooted names
    (λ i below full pseudo. c.loop-name.invariant.2 i (omega (arith, below, c.loop-name-test.false, map_length c.deref-name-items.result.now)) full pseudo)
