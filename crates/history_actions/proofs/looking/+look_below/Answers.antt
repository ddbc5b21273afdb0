use Rattle.std.proofs.Common.{◌≡◌, ◌∙◌, sym, ap, subst, ℕ, ◌&&◌, map, length, Vec, true, false, arith, rules}
use Rattle.std.specs.Prelude.{nat_lt, nat_le}
use Rattle.std.specs.declared.alloc.Global.{Global}
use Rattle.gix_ref_file.specs.Tree.{node_at, place_of}
use Rattle.gix_ref_file.proofs.Listings.{map_length}
use Rattle.gix_ref_way.proofs.Surveys.{is_listed, file_stands, not_absent, one_more, is_deep}
use Rattle.history_actions.specs.Looking.{AreOwnBelow, may_have_file}
use Rattle.history_actions.proofs.Looked.{IsOwnFrom, all_own, own_file, own_folder}
use Rattle.history_actions.proofs.looking.+look_below.Goals as goal
use Rattle.history_actions.proofs.looking.+look_below.Goals.{in-Folder+in_ok-look_below-in-Folder, in-File}

pub loop-name-init : goal.loop-name-init
loop-name-init g t c = λ honest i below. absurd (omega (arith, below))

pub returns-in-File-2-clause-stray : goal.returns-in-File-2-clause-stray
returns-in-File-2-clause-stray g t c = λ honest.
    let tree = (g.F.Files.history c.args.files.now).tree in
    let rooted = g.met.F.Files.rooted c.args.files.now honest in
    let names = ap (map (λ (name : Vec ℕ Global). name.items)) c.deref-name-items.ensures.value ∙ c.in_ok-list.ensures.names honest in
    let l = is_listed tree c.args.folder.now c.deref-name-items.result.now c.loop-name.name-index c.name-item.result c.in_ok-path.path.items c.deref.result.now rooted names c.loop-name-test.true c.name-item.is c.deref.ensures.value c.in_ok-path.ensures in
    let place = ap (λ p. place_of (node_at tree p)) (sym c.deref-in-loop-name.ensures.value) ∙ sym (c.in_ok-kind_of.ensures.place honest) in
    let not : may_have_file c.args.part c.args.kind c.in_ok-path.path.items ≡ false = search rules in
    (file_stands tree c.in_ok-path.path.items _ (place ∙ c.in-File-2.is), not)

pub returns-in-Folder-2-clause-stray : goal.returns-in-Folder-2-clause-stray
returns-in-Folder-2-clause-stray g t c = λ honest.
    let tree = (g.F.Files.history c.args.files.now).tree in
    let rooted = g.met.F.Files.rooted c.args.files.now honest in
    let names = ap (map (λ (name : Vec ℕ Global). name.items)) c.deref-name-items.ensures.value ∙ c.in_ok-list.ensures.names honest in
    let l = is_listed tree c.args.folder.now c.deref-name-items.result.now c.loop-name.name-index c.name-item.result c.in_ok-path.path.items c.deref.result.now rooted names c.loop-name-test.true c.name-item.is c.deref.ensures.value c.in_ok-path.ensures in
    let place = ap (λ p. place_of (node_at tree p)) (sym c.deref-in-loop-name.ensures.value) ∙ sym (c.in_ok-kind_of.ensures.place honest) in
    let deep = is_deep c.args.folder.now c.in_ok-path.path.items l.deeper l.is_path in
    let told : c.is_deeper.result ≡ (nat_lt (length c.args.folder.now) (length c.in_ok-path.path.items) && nat_le (length c.in_ok-path.path.items) 4096) = search rules in
    absurd (cc (sym c.if-is_deeper.false ∙ told ∙ deep))

pub returns-in-Absent-clause-stray : goal.returns-in-Absent-clause-stray
returns-in-Absent-clause-stray g t c = λ honest.
    let tree = (g.F.Files.history c.args.files.now).tree in
    let rooted = g.met.F.Files.rooted c.args.files.now honest in
    let names = ap (map (λ (name : Vec ℕ Global). name.items)) c.deref-name-items.ensures.value ∙ c.in_ok-list.ensures.names honest in
    let l = is_listed tree c.args.folder.now c.deref-name-items.result.now c.loop-name.name-index c.name-item.result c.in_ok-path.path.items c.deref.result.now rooted names c.loop-name-test.true c.name-item.is c.deref.ensures.value c.in_ok-path.ensures in
    let place = ap (λ p. place_of (node_at tree p)) (sym c.deref-in-loop-name.ensures.value) ∙ sym (c.in_ok-kind_of.ensures.place honest) in
    absurd (not_absent tree c.in_ok-path.path.items l.is_path l.there (place ∙ c.in-Absent.is))

pub returns-clause-own : goal.returns-clause-own
returns-clause-own g t c = λ honest.
    let names = ap (map (λ (name : Vec ℕ Global). name.items)) c.deref-name-items.ensures.value ∙ c.in_ok-list.ensures.names honest in
    all_own c.args.part c.args.kind (g.F.Files.history c.args.files.now).tree (g.met.F.Files.rooted c.args.files.now honest) c.args.folder.now _ names
    (λ i below. c.loop-name.invariant honest i (omega (arith, below, c.loop-name-test.false, map_length c.deref-name-items.result.now)))

pub loop-name-preserved : goal.loop-name-preserved
loop-name-preserved g t c = λ honest.
    let tree = (g.F.Files.history c.args.files.now).tree in
    let rooted = g.met.F.Files.rooted c.args.files.now honest in
    let names = ap (map (λ (name : Vec ℕ Global). name.items)) c.deref-name-items.ensures.value ∙ c.in_ok-list.ensures.names honest in
    let l = is_listed tree c.args.folder.now c.deref-name-items.result.now c.loop-name.name-index c.name-item.result c.in_ok-path.path.items c.deref.result.now rooted names c.loop-name-test.true c.name-item.is c.deref.ensures.value c.in_ok-path.ensures in
    let place = ap (λ p. place_of (node_at tree p)) (sym c.deref-in-loop-name.ensures.value) ∙ sym (c.in_ok-kind_of.ensures.place honest) in
    let path = c.in_ok-path.path.items in
    let here : IsOwnFrom c.args.part c.args.kind tree path = elim c.match-branch-4.branch [
      | in-Folder+in_ok-look_below-in-Folder w ↦
          let opened : w.deref-in-Folder.result.now ≡ path = w.deref-in-Folder.ensures.value in
          own_folder c.args.part c.args.kind tree rooted path l.is_path (place ∙ w.in-Folder.is) (subst (λ p. AreOwnBelow c.args.part c.args.kind p tree) opened (w.in_ok-look_below-in-Folder.ensures.own honest))
      | in-File w ↦
          let may : may_have_file c.args.part c.args.kind path ≡ true = search rules in
          own_file c.args.part c.args.kind tree rooted path _ (place ∙ w.in-File.is) may
    ] in
    one_more (IsOwnFrom c.args.part c.args.kind tree) c.args.folder.now c.in_ok-path.path.items _ c.loop-name.name-index (c.loop-name.invariant honest) l.at here
