use Rattle.std.proofs.Common.{◌≡◌, ◌∙◌, inr, sym, ap, subst, ℕ, ◌&&◌, map, length, Vec, true, arith, rules}
use Rattle.std.specs.Prelude.{nat_lt, nat_le}
use Rattle.std.specs.declared.alloc.Global.{Global}
use Rattle.history_check_objects.specs.Stored.{facts_in}
use Rattle.gix_ref_file.specs.Tree.{node_at, place_of}
use Rattle.gix_ref_file.proofs.Listings.{map_length}
use Rattle.history_model.specs.Places.{file_at, is_name_folder}
use Rattle.gix_ref_way.proofs.Surveys.{is_listed, folder_stands, not_absent, one_more, is_deep}
use Rattle.history_check_names.specs.Sound.{IsSoundBelow}
use Rattle.history_check_names.proofs.Found.{IsSoundFrom, all_sound, sound_file, sound_folder}
use Rattle.history_check_names.proofs.Sizes.{file_size, size_told}
use Rattle.history_check_names.proofs.survey.+test_folder.Goals as goal
use Rattle.history_check_names.proofs.survey.+test_folder.Goals.{then-may_hold_folder+else-is_deeper, else-may_hold_folder, in-Folder+in_ok-test_folder-in-Folder, in-File+in_ok-test_file-in-File}

pub test_file-requires-clause-size : goal.test_file-requires-clause-size
test_file-requires-clause-size g t c = λ honest.
    let tree = (g.F.Files.history c.args.files.now).tree in
    let path = c.in_ok-path.path.items in
    let place = ap (λ p. place_of (node_at tree p)) (sym c.deref-in-loop-name.ensures.value) ∙ sym (c.in_ok-kind_of.ensures.place honest) ∙ c.in-File.is in
    size_told (file_at tree path) c.in-File.len (file_size tree path c.in-File.len place)

pub loop-name-init : goal.loop-name-init
loop-name-init g t c = λ honest i below. absurd (omega (arith, below))

pub returns-in-Folder-2-clause-wrong : goal.returns-in-Folder-2-clause-wrong
returns-in-Folder-2-clause-wrong g t c = λ honest.
    let tree = (g.F.Files.history c.args.files.now).tree in
    let rooted = g.met.F.Files.rooted c.args.files.now honest in
    let names = ap (map (λ (name : Vec ℕ Global). name.items)) c.deref-name-items.ensures.value ∙ c.in_ok-list.ensures.names honest in
    let l = is_listed tree c.args.folder.now c.deref-name-items.result.now c.loop-name.name-index c.name-item.result c.in_ok-path.path.items c.deref.result.now rooted names c.loop-name-test.true c.name-item.is c.deref.ensures.value c.in_ok-path.ensures in
    let place = ap (λ p. place_of (node_at tree p)) (sym c.deref-in-loop-name.ensures.value) ∙ sym (c.in_ok-kind_of.ensures.place honest) ∙ c.in-Folder-2.is in
    let deep = is_deep c.args.folder.now c.in_ok-path.path.items l.deeper l.is_path in inr (
      folder_stands tree c.in_ok-path.path.items l.is_path place,
      elim c.if-may_hold_folder.branch [
        | then-may_hold_folder+else-is_deeper w ↦ absurd (let e : w.is_deeper.result ≡ (nat_lt (length c.args.folder.now) (length c.in_ok-path.path.items) && nat_le (length c.in_ok-path.path.items) 4096) = search rules in cc (sym w.if-is_deeper.false ∙ e ∙ deep))
        | else-may_hold_folder w ↦ let e : c.may_hold_folder.result ≡ is_name_folder c.in_ok-path.path.items = search rules in sym e ∙ w.if-may_hold_folder.false
      ],
    )

pub returns-in-Absent-clause-wrong : goal.returns-in-Absent-clause-wrong
returns-in-Absent-clause-wrong g t c = λ honest.
    let tree = (g.F.Files.history c.args.files.now).tree in
    let rooted = g.met.F.Files.rooted c.args.files.now honest in
    let names = ap (map (λ (name : Vec ℕ Global). name.items)) c.deref-name-items.ensures.value ∙ c.in_ok-list.ensures.names honest in
    let l = is_listed tree c.args.folder.now c.deref-name-items.result.now c.loop-name.name-index c.name-item.result c.in_ok-path.path.items c.deref.result.now rooted names c.loop-name-test.true c.name-item.is c.deref.ensures.value c.in_ok-path.ensures in
    absurd (not_absent tree c.in_ok-path.path.items l.is_path l.there (ap (λ p. place_of (node_at tree p)) (sym c.deref-in-loop-name.ensures.value) ∙ sym (c.in_ok-kind_of.ensures.place honest) ∙ c.in-Absent.is))

pub returns-clause-sound : goal.returns-clause-sound
returns-clause-sound g t c = λ honest.
    let names = ap (map (λ (name : Vec ℕ Global). name.items)) c.deref-name-items.ensures.value ∙ c.in_ok-list.ensures.names honest in
    all_sound c.args.kind (facts_in c.args.stored.now) (g.F.Files.history c.args.files.now).tree (g.met.F.Files.rooted c.args.files.now honest) c.args.folder.now _ names
    (λ i below. c.loop-name.invariant honest i (omega (arith, below, c.loop-name-test.false, map_length c.deref-name-items.result.now)))

pub loop-name-preserved : goal.loop-name-preserved
loop-name-preserved g t c = λ honest.
    let tree = (g.F.Files.history c.args.files.now).tree in
    let facts = facts_in c.args.stored.now in
    let rooted = g.met.F.Files.rooted c.args.files.now honest in
    let names = ap (map (λ (name : Vec ℕ Global). name.items)) c.deref-name-items.ensures.value ∙ c.in_ok-list.ensures.names honest in
    let l = is_listed tree c.args.folder.now c.deref-name-items.result.now c.loop-name.name-index c.name-item.result c.in_ok-path.path.items c.deref.result.now rooted names c.loop-name-test.true c.name-item.is c.deref.ensures.value c.in_ok-path.ensures in
    let place = ap (λ p. place_of (node_at tree p)) (sym c.deref-in-loop-name.ensures.value) ∙ sym (c.in_ok-kind_of.ensures.place honest) in
    let path = c.in_ok-path.path.items in
    let here : IsSoundFrom c.args.kind facts tree path = elim c.match-branch-4.branch [
      | in-Folder+in_ok-test_folder-in-Folder w ↦
          let may : is_name_folder path ≡ true = search rules in
          let opened : w.deref-in-Folder.result.now ≡ path = w.deref-in-Folder.ensures.value in
          sound_folder c.args.kind facts tree rooted path l.is_path (place ∙ w.in-Folder.is) may (subst (λ p. IsSoundBelow c.args.kind facts p tree) opened (w.in_ok-test_folder-in-Folder.ensures.sound honest))
      | in-File+in_ok-test_file-in-File w ↦ sound_file c.args.kind facts tree rooted path _ l.is_path (place ∙ w.in-File.is) (w.in_ok-test_file-in-File.ensures.sound honest)
    ] in
    one_more (IsSoundFrom c.args.kind facts tree) c.args.folder.now c.in_ok-path.path.items _ c.loop-name.name-index (c.loop-name.invariant honest) l.at here
