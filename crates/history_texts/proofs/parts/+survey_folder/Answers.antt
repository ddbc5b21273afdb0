use Rattle.std.proofs.Common.{◌≡◌, ◌∙◌, sym, ap, subst, ℕ, ◌&&◌, map, length, Vec, true, false, arith, rules}
use Rattle.std.specs.Prelude.{nat_lt, nat_le, is_some}
use Rattle.std.specs.declared.alloc.Global.{Global}
use Rattle.history_texts.specs.Parts.{may_hold_folder, IsClearBelow}
use Rattle.gix_ref_way.proofs.Surveys.{is_listed, folder_stands, not_absent, one_more, is_deep}
use Rattle.history_texts.proofs.Surveys.{IsClearFrom, all_clear, clear_file, clear_folder, none_stray}
use Rattle.gix_ref_file.specs.Tree.{node_at, place_of}
use Rattle.gix_ref_file.proofs.Listings.{map_length}
use Rattle.history_texts.proofs.parts.+survey_folder.Goals as goal
use Rattle.history_texts.proofs.parts.+survey_folder.Goals.{then-may_hold_folder+else-is_deeper, else-may_hold_folder, in-Folder+in_ok-stray-in-Folder+else-is_some, in-File}

pub loop-name-init : goal.loop-name-init
loop-name-init g t c = λ honest i below. absurd (omega (arith, below))

pub returns-in-Folder-2-clause-found : goal.returns-in-Folder-2-clause-found
returns-in-Folder-2-clause-found g t c = λ honest.
    let tree = (g.F.Files.history c.args.files.now).tree in
    let rooted = g.met.F.Files.rooted c.args.files.now honest in
    let names = ap (map (λ (name : Vec ℕ Global). name.items)) c.deref-name-items.ensures.value ∙ c.in_ok-list.ensures.names honest in
    let l = is_listed tree c.args.folder.now c.deref-name-items.result.now c.loop-name.name-index c.name-item.result c.in_ok-path.path.items c.deref.result.now rooted names c.loop-name-test.true c.name-item.is c.deref.ensures.value c.in_ok-path.ensures in
    let place = ap (λ p. place_of (node_at tree p)) (sym c.deref-in-loop-name.ensures.value) ∙ sym (c.in_ok-kind_of.ensures.place honest) ∙ c.in-Folder-2.is in
    let deep = is_deep c.args.folder.now c.in_ok-path.path.items l.deeper l.is_path in (
      folder_stands tree c.in_ok-path.path.items l.is_path place,
      elim c.if-may_hold_folder.branch [
        | then-may_hold_folder+else-is_deeper w ↦ absurd (let e : w.is_deeper.result ≡ (nat_lt (length c.args.folder.now) (length c.in_ok-path.path.items) && nat_le (length c.in_ok-path.path.items) 4096) = search rules in cc (sym w.if-is_deeper.false ∙ e ∙ deep))
        | else-may_hold_folder w ↦ let e : c.may_hold_folder.result ≡ may_hold_folder c.args.part c.in_ok-path.path.items = search rules in sym e ∙ w.if-may_hold_folder.false
      ],
    )

pub returns-in-Absent-clause-found : goal.returns-in-Absent-clause-found
returns-in-Absent-clause-found g t c = λ honest.
    let tree = (g.F.Files.history c.args.files.now).tree in
    let rooted = g.met.F.Files.rooted c.args.files.now honest in
    let names = ap (map (λ (name : Vec ℕ Global). name.items)) c.deref-name-items.ensures.value ∙ c.in_ok-list.ensures.names honest in
    let l = is_listed tree c.args.folder.now c.deref-name-items.result.now c.loop-name.name-index c.name-item.result c.in_ok-path.path.items c.deref.result.now rooted names c.loop-name-test.true c.name-item.is c.deref.ensures.value c.in_ok-path.ensures in
    absurd (not_absent tree c.in_ok-path.path.items l.is_path l.there (ap (λ p. place_of (node_at tree p)) (sym c.deref-in-loop-name.ensures.value) ∙ sym (c.in_ok-kind_of.ensures.place honest) ∙ c.in-Absent.is))

pub loop-name-preserved : goal.loop-name-preserved
loop-name-preserved g t c = λ honest.
    let tree = (g.F.Files.history c.args.files.now).tree in
    let rooted = g.met.F.Files.rooted c.args.files.now honest in
    let names = ap (map (λ (name : Vec ℕ Global). name.items)) c.deref-name-items.ensures.value ∙ c.in_ok-list.ensures.names honest in
    let l = is_listed tree c.args.folder.now c.deref-name-items.result.now c.loop-name.name-index c.name-item.result c.in_ok-path.path.items c.deref.result.now rooted names c.loop-name-test.true c.name-item.is c.deref.ensures.value c.in_ok-path.ensures in
    let place = ap (λ p. place_of (node_at tree p)) (sym c.deref-in-loop-name.ensures.value) ∙ sym (c.in_ok-kind_of.ensures.place honest) in
    let path = c.in_ok-path.path.items in
    let here : IsClearFrom c.args.part c.args.permitted.now tree path = elim c.match-branch-4.branch [
      | in-Folder+in_ok-stray-in-Folder+else-is_some w ↦
          let may : may_hold_folder c.args.part path ≡ true = search rules in
          let opened : w.deref-in-Folder.result.now ≡ path = w.deref-in-Folder.ensures.value in
          let none : is_some w.in_ok-stray-in-Folder.stray ≡ false = search rules in
          let below = none_stray w.in_ok-stray-in-Folder.stray _ _ none (w.in_ok-stray-in-Folder.ensures.found honest) in
          clear_folder c.args.part c.args.permitted.now tree rooted path l.is_path (place ∙ w.in-Folder.is) may (subst (λ p. IsClearBelow c.args.part c.args.permitted.now p tree) opened below)
      | in-File w ↦
          let same : path ≡ c.args.permitted.now = search rules in
          clear_file c.args.part c.args.permitted.now tree rooted path _ l.is_path (place ∙ w.in-File.is) same
    ] in
    one_more (IsClearFrom c.args.part c.args.permitted.now tree) c.args.folder.now c.in_ok-path.path.items _ c.loop-name.name-index (c.loop-name.invariant honest) l.at here

pub returns-clause-found : goal.returns-clause-found
returns-clause-found g t c = λ honest.
    let names = ap (map (λ (name : Vec ℕ Global). name.items)) c.deref-name-items.ensures.value ∙ c.in_ok-list.ensures.names honest in
    all_clear c.args.part c.args.permitted.now (g.F.Files.history c.args.files.now).tree (g.met.F.Files.rooted c.args.files.now honest) c.args.folder.now _ names
    (λ i below. c.loop-name.invariant honest i (omega (arith, below, c.loop-name-test.false, map_length c.deref-name-items.result.now)))
