use Rattle.std.proofs.Common.{◌≡◌, ◌∙◌, ◌∷◌, ◌++◌, [], sym, ap, subst, ℕ, ◌+◌, ◌&&◌, List, map, length, Vec, true, false, arith, rules}
use Rattle.std.specs.Prelude.{nat_lt, nat_le}
use Rattle.std.specs.declared.alloc.Global.{Global}
use Rattle.gix_hash.specs.declared.object_id.ObjectId.{ObjectId}
use Rattle.gix_ref_file.specs.Tree.{node_at, place_of}
use Rattle.gix_ref_file.proofs.Listings.{map_length}
use Rattle.history_model.specs.Places.{is_object_folder}
use Rattle.gix_ref_way.proofs.Surveys.{is_listed, not_absent, is_deep}
use Rattle.history_check_objects.specs.Flaws.{IsObjectsFlaw}
use Rattle.history_check_objects.specs.Folders.{HasFolders}
use Rattle.history_check_objects.specs.Listing.{Gathers}
use Rattle.history_check_objects.proofs.Listings.{GathersSome, all_gathered, file_more, folder_is_stray, folder_more, no_object, none_yet, told}
use Rattle.history_check_objects.proofs.SeenFolders.{one_seen}
use Rattle.history_check_objects.proofs.listing.+gather.Goals as goal
use Rattle.history_check_objects.proofs.listing.+gather.Goals.{then-may_hold_folder+else-is_deeper, else-may_hold_folder, in-Folder+in_ok-gather-in-Folder+in_ok-insert-in-Folder, in-File+in_ok-id-in-File+in_ok-push-in-File}

pub loop-name-init : goal.loop-name-init
loop-name-init g t c = record {
  gathered = λ honest. none_yet c.args.kind (g.F.Files.history c.args.files.now).tree c.args.folder.now c.args.ids.now.items _;
  folders = λ honest has. has;
}

pub returns-in_err-id-in-File-clause-flaw : goal.returns-in_err-id-in-File-clause-flaw
returns-in_err-id-in-File-clause-flaw g t c = λ honest.
    let tree = (g.F.Files.history c.args.files.now).tree in
    let place = ap (λ p. place_of (node_at tree p)) (sym c.deref-in-loop-name.ensures.value) ∙ sym (c.in_ok-kind_of.ensures.place honest) ∙ c.in-File.is in
    told (IsObjectsFlaw g.F.Files.reading_may_fail c.args.kind tree) c.from_residual-in_err-id-in-File.result c.in_err-id-in-File.field-0.0 (search rules)
    (no_object g.F.Files.reading_may_fail c.args.kind tree c.in_ok-path.path.items _ place c.in_err-id-in-File.field-0.0 c.in_err-id-in-File.ensures.flaw)

pub returns-in-Folder-2-clause-flaw : goal.returns-in-Folder-2-clause-flaw
returns-in-Folder-2-clause-flaw g t c = λ honest.
    let tree = (g.F.Files.history c.args.files.now).tree in
    let rooted = g.met.F.Files.rooted c.args.files.now honest in
    let names = ap (map (λ (name : Vec ℕ Global). name.items)) c.deref-name-items.ensures.value ∙ c.in_ok-list.ensures.names honest in
    let l = is_listed tree c.args.folder.now c.deref-name-items.result.now c.loop-name.name-index c.name-item.result c.in_ok-path.path.items c.deref.result.now rooted names c.loop-name-test.true c.name-item.is c.deref.ensures.value c.in_ok-path.ensures in
    let place = ap (λ p. place_of (node_at tree p)) (sym c.deref-in-loop-name.ensures.value) ∙ sym (c.in_ok-kind_of.ensures.place honest) ∙ c.in-Folder-2.is in
    let deep = is_deep c.args.folder.now c.in_ok-path.path.items l.deeper l.is_path in
    let other : is_object_folder c.in_ok-path.path.items ≡ false = elim c.if-may_hold_folder.branch [
      | then-may_hold_folder+else-is_deeper w ↦ absurd (let e : w.is_deeper.result ≡ (nat_lt (length c.args.folder.now) (length c.in_ok-path.path.items) && nat_le (length c.in_ok-path.path.items) 4096) = search rules in cc (sym w.if-is_deeper.false ∙ e ∙ deep))
      | else-may_hold_folder w ↦ let e : c.may_hold_folder.result ≡ is_object_folder c.in_ok-path.path.items = search rules in sym e ∙ w.if-may_hold_folder.false
    ] in
    folder_is_stray c.args.kind tree c.in_ok-path.path.items l.is_path place other

pub returns-in-Absent-clause-flaw : goal.returns-in-Absent-clause-flaw
returns-in-Absent-clause-flaw g t c = λ honest.
    let tree = (g.F.Files.history c.args.files.now).tree in
    let rooted = g.met.F.Files.rooted c.args.files.now honest in
    let names = ap (map (λ (name : Vec ℕ Global). name.items)) c.deref-name-items.ensures.value ∙ c.in_ok-list.ensures.names honest in
    let l = is_listed tree c.args.folder.now c.deref-name-items.result.now c.loop-name.name-index c.name-item.result c.in_ok-path.path.items c.deref.result.now rooted names c.loop-name-test.true c.name-item.is c.deref.ensures.value c.in_ok-path.ensures in
    absurd (not_absent tree c.in_ok-path.path.items l.is_path l.there (ap (λ p. place_of (node_at tree p)) (sym c.deref-in-loop-name.ensures.value) ∙ sym (c.in_ok-kind_of.ensures.place honest) ∙ c.in-Absent.is))

pub loop-name-preserved : goal.loop-name-preserved
loop-name-preserved g t c = record {
  gathered = λ honest.
      let tree = (g.F.Files.history c.args.files.now).tree in
      let rooted = g.met.F.Files.rooted c.args.files.now honest in
      let listed = map (λ (name : Vec ℕ Global). name.items) c.deref-name-items.result.now in
      let names = ap (map (λ (name : Vec ℕ Global). name.items)) c.deref-name-items.ensures.value ∙ c.in_ok-list.ensures.names honest in
      let l = is_listed tree c.args.folder.now c.deref-name-items.result.now c.loop-name.name-index c.name-item.result c.in_ok-path.path.items c.deref.result.now rooted names c.loop-name-test.true c.name-item.is c.deref.ensures.value c.in_ok-path.ensures in
      let place = ap (λ p. place_of (node_at tree p)) (sym c.deref-in-loop-name.ensures.value) ∙ sym (c.in_ok-kind_of.ensures.place honest) in
      let path = c.in_ok-path.path.items in
      elim c.match-branch-4.branch [
        | in-Folder+in_ok-gather-in-Folder+in_ok-insert-in-Folder w ↦
            let may : is_object_folder path ≡ true = search rules in
            let opened : w.deref-in-Folder.result.now ≡ path = w.deref-in-Folder.ensures.value in
            let below = subst (λ p. Gathers c.args.kind tree p c.loop-name.ids.items w.gather.new.ids.items) opened (w.in_ok-gather-in-Folder.ensures.gathered honest) in
            subst (λ (ids : Vec ObjectId Global). GathersSome c.args.kind tree c.args.folder.now c.args.ids.now.items ids.items listed (c.loop-name.name-index + 1)) (sym w.ids-is)
            (folder_more c.args.kind tree rooted c.args.folder.now c.args.ids.now.items c.loop-name.ids.items listed c.loop-name.name-index (c.loop-name.invariant.gathered honest) path l.at l.is_path w.gather.new.ids.items (place ∙ w.in-Folder.is) may below)
        | in-File+in_ok-id-in-File+in_ok-push-in-File w ↦
            let pushed : c.match-branch-4.ids.items ≡ c.loop-name.ids.items ++ w.in_ok-id-in-File.id ∷ [] = search rules in
            subst (λ (ids : List ObjectId). GathersSome c.args.kind tree c.args.folder.now c.args.ids.now.items ids listed (c.loop-name.name-index + 1)) (sym pushed)
            (file_more c.args.kind tree rooted c.args.folder.now c.args.ids.now.items c.loop-name.ids.items listed c.loop-name.name-index (c.loop-name.invariant.gathered honest) path l.at l.is_path _ w.in_ok-id-in-File.id (place ∙ w.in-File.is)
            w.in_ok-id-in-File.ensures.placed.0 w.in_ok-id-in-File.ensures.placed.1)
      ];
  folders = λ honest has.
      let tree = (g.F.Files.history c.args.files.now).tree in
      let place = ap (λ p. place_of (node_at tree p)) (sym c.deref-in-loop-name.ensures.value) ∙ sym (c.in_ok-kind_of.ensures.place honest) in
      elim c.match-branch-4.branch [
        | in-Folder+in_ok-gather-in-Folder+in_ok-insert-in-Folder w ↦
            subst (HasFolders tree) (sym w.folders-is)
            (one_seen tree _ _ c.in_ok-path.path _ w.in_ok-insert-in-Folder.ensures.keys (place ∙ w.in-Folder.is) (w.in_ok-gather-in-Folder.ensures.folders honest (c.loop-name.invariant.folders honest has)))
        | in-File+in_ok-id-in-File+in_ok-push-in-File w ↦ subst (HasFolders tree) (sym w.folders-is) (c.loop-name.invariant.folders honest has)
      ];
}

pub returns-clause-gathered : goal.returns-clause-gathered
returns-clause-gathered g t c = λ honest.
    let names = ap (map (λ (name : Vec ℕ Global). name.items)) c.deref-name-items.ensures.value ∙ c.in_ok-list.ensures.names honest in
    all_gathered c.args.kind (g.F.Files.history c.args.files.now).tree (g.met.F.Files.rooted c.args.files.now honest) c.args.folder.now c.args.ids.now.items c.loop-name.ids.items _ c.loop-name.name-index (c.loop-name.invariant.gathered honest)
    (omega (arith, c.loop-name-test.false, map_length c.deref-name-items.result.now)) names

pub returns-clause-folders : goal.returns-clause-folders
returns-clause-folders g t c = λ honest has. c.loop-name.invariant.folders honest has
