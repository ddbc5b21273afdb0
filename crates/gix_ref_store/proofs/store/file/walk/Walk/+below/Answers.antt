use Rattle.std.proofs.Common.{◌≡◌, ◌∙◌, sym, ap, subst, ℕ, false, ◌&&◌, map, length, Vec, arith, rules}
use Rattle.std.specs.BTreeMap.{keys}
use Rattle.std.specs.Prelude.{IsTrue, nat_lt, nat_le}
use Rattle.std.specs.declared.alloc.Global.{Global}
use Rattle.gix_object_lines.specs.NameTest.{is_full_name}
use Rattle.gix_ref_file.specs.Tree.{max_path, node_at, is_folder, names_at, under}
use Rattle.gix_ref_file.proofs.Listings.{map_length}
use Rattle.gix_ref_store.specs.Asks.{is_asked, leads}
use Rattle.gix_ref_store.specs.Walks.{GathersBelow, has}
use Rattle.gix_ref_store.proofs.AskLemmas.{asked_leads}
use Rattle.gix_ref_store.proofs.NameSets.{keeps_on, brings_on}
use Rattle.gix_ref_store.proofs.WalkSteps.{IsGathered, still_gathered, entered, passed, step_of, step_stands, one_more, all_gathered}
use Rattle.gix_ref_store.proofs.store.file.walk.Walk.+below.Goals as goal
use Rattle.gix_ref_store.proofs.store.file.walk.Walk.+below.Goals.{then-more+in_ok-below, else-more}

pub loop-name-preserved-then-not-is_deeper : goal.loop-name-preserved-then-not-is_deeper
loop-name-preserved-then-not-is_deeper g t c =
    let files = c.args.self.now.store.now.files in
    let tree = (g.F.Files.history files).tree in
    let base = c.args.self.now.base.now in
    let place = c.in_ok-place.place.items in
    let path = c.in_ok-path.path.items in
    let xs = c.deref-name-items.result.now in
    let i = c.loop-name.name-index in
    let step = step_of base c.args.folder.now place path c.deref-in-loop-name.result.now xs i c.name-item.result c.requires c.in_ok-place.ensures c.loop-name-test.true c.name-item.is c.deref-in-loop-name.ensures.value c.in_ok-path.ensures in (
      c.loop-name.invariant.0,
      c.loop-name.invariant.1,
      λ honest.
          let rooted = g.met.F.Files.rooted files honest in
          let names = ap (map (λ (name : Vec ℕ Global). name.items)) c.deref-name-items.ensures.value ∙ c.in_ok-list.ensures.names honest ∙ ap (names_at tree) c.deref.ensures.value in
          let deep = step_stands tree base c.args.folder.now place path xs i rooted names c.loop-name-test.true step in
          let e : c.is_deeper.result ≡ (nat_lt (length c.args.folder.now) (length path) && nat_le (length path) max_path) = search rules in
          let none : c.is_deeper.result ≡ false = search rules in
          absurd (cc (sym none ∙ e ∙ deep)),
      c.loop-name.invariant.3,
    )

pub loop-name-preserved : goal.loop-name-preserved
loop-name-preserved g t c =
    let files = c.args.self.now.store.now.files in
    let tree = (g.F.Files.history files).tree in
    let base = c.args.self.now.base.now in
    let lead = leads c.args.self.now.asked in
    let asked = is_asked c.args.self.now.asked in
    let led = asked_leads c.args.self.now.asked in
    let place = c.in_ok-place.place.items in
    let path = c.in_ok-path.path.items in
    let xs = c.deref-name-items.result.now in
    let i = c.loop-name.name-index in
    let start = keys c.args.names.now in
    let before = keys c.loop-name.names in
    let put = keys c.put.new.names in
    let step = step_of base c.args.folder.now place path c.deref-in-loop-name.result.now xs i c.name-item.result c.requires c.in_ok-place.ensures c.loop-name-test.true c.name-item.is c.deref-in-loop-name.ensures.value c.in_ok-path.ensures in
    let at : c.deref-in-loop-name-3.result.now ≡ path = c.deref-in-loop-name-3.ensures.value in
    let there : IsTrue (is_full_name path) → IsTrue (asked path) → IsTrue (has put path) =
    subst (λ p. IsTrue (is_full_name p) → IsTrue (asked p) → IsTrue (has put p)) at c.in_ok-more.ensures.there in
    let kept = keeps_on start before put c.loop-name.invariant.0 c.in_ok-more.ensures.kept in
    let brings = brings_on asked start before put c.loop-name.invariant.1 c.in_ok-more.ensures.asked in
    elim c.if-more.branch [
      | then-more+in_ok-below w ↦ rw w.names-is (
        keeps_on start put (keys w.below.new.names) kept w.in_ok-below.ensures.kept,
        brings_on asked start put (keys w.below.new.names) brings w.in_ok-below.ensures.asked,
        λ honest.
            let after = keys w.below.new.names in
            let rooted = g.met.F.Files.rooted files honest in
            let gathers = subst (λ p. GathersBelow tree base asked p after) w.deref-then-more.ensures.value (w.in_ok-below.ensures.all honest) in
            one_more (IsGathered tree base asked after) place (under base path) _ i
            (λ j less. still_gathered tree base asked _ before after (keeps_on before put after c.in_ok-more.ensures.kept w.in_ok-below.ensures.kept) (c.loop-name.invariant.2 honest j less))
            step.at (entered tree rooted base lead asked led path step.some after (λ full so. w.in_ok-below.ensures.kept path (there full so)) gathers),
        λ honest knows. w.in_ok-below.ensures.told honest (c.in_ok-more.ensures.told honest (c.loop-name.invariant.3 honest knows)),
      )
      | else-more w ↦ rw w.names-is (
        kept,
        brings,
        λ honest.
            let rooted = g.met.F.Files.rooted files honest in
            let folder = subst (λ p. IsTrue (lead p) → IsTrue (is_folder (node_at tree (under base p))) → IsTrue c.in_ok-more.more) at (c.in_ok-more.ensures.folder honest) in
            one_more (IsGathered tree base asked put) place (under base path) _ i
            (λ j less. still_gathered tree base asked _ before put c.in_ok-more.ensures.kept (c.loop-name.invariant.2 honest j less))
            step.at (passed tree rooted base lead asked led path step.some put there c.in_ok-more.more folder w.if-more.false),
        λ honest knows. c.in_ok-more.ensures.told honest (c.loop-name.invariant.3 honest knows),
      )
    ]

pub returns-clause-all : goal.returns-clause-all
returns-clause-all g t c = λ honest.
    let tree = (g.F.Files.history c.args.self.now.store.now.files).tree in
    let rooted = g.met.F.Files.rooted c.args.self.now.store.now.files honest in
    let names = ap (map (λ (name : Vec ℕ Global). name.items)) c.deref-name-items.ensures.value ∙ c.in_ok-list.ensures.names honest ∙ ap (names_at tree) c.deref.ensures.value in
    all_gathered tree c.args.self.now.base.now (is_asked c.args.self.now.asked) c.args.folder.now c.in_ok-place.place.items _ (keys c.loop-name.names) rooted c.requires c.in_ok-place.ensures names
    (λ i below. c.loop-name.invariant.2 honest i (omega (arith, below, c.loop-name-test.false, map_length c.deref-name-items.result.now)))
