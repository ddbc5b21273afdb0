use Rattle.std.proofs.Common.{◌≡◌, ◌≢◌, ◌∙◌, ◌&&◌, refl, ℕ, [], ◌∷◌, inl, inr, sym, ap, map, length, Vec, Option, Some, None, ◌≤◌, Bool, true, false, arith, rules}
use Rattle.std.specs.Prelude.{nat_lt, nat_le, Result, IsTrue, IsErrOf}
use Rattle.std.specs.FinMap.{get}
use Rattle.gix_ref_file.specs.Tree.{Tree, Node, file, folder, node_at, place_of}
use Rattle.gix_ref_file.specs.History.{HasRisen, HasCause}
use Rattle.gix_ref_file.specs.declared.files.FileError.{FileError}
use Rattle.gix_ref_file.specs.declared.files.FileError.TheVariants.{Failed}
use Rattle.gix_ref_file.specs.declared.files.Place.TheVariants as places
use Rattle.gix_ref_file.proofs.Listings.{map_length}
use Rattle.std.specs.declared.alloc.Global.{Global}
use Rattle.gix_ref_way.specs.Ways.{Bytes, IsAbove}
use Rattle.gix_ref_way.proofs.Blocked.{one_below, still_none}
use Rattle.gix_ref_way.proofs.FilesBelow.{longer_too}
use Rattle.gix_ref_way.proofs.FoldersMade.{risen_later}
use Rattle.gix_ref_way.proofs.Surveys.{is_listed, is_deep, one_more, file_stands}
use Rattle.gix_ref_way.proofs.Clearings.{not_root, folder_there, below_in, way_now, below_now, below_way, below_joined, way_joined, may_go, caused, removed_gone}
use Rattle.gix_ref_way.proofs.way.+clear_way.Goals as goal
use Rattle.gix_ref_way.proofs.way.+clear_way.Goals.{then-is_deeper+in_ok-clear_way, else-is_deeper}

nothing_there : (tree : Tree) (place : Bytes) → place ≢ [] → place_of (node_at tree place) ≡ places.Absent → get tree place ≡ None
nothing_there tree [] some absent = absurd (some refl)
nothing_there tree (b ∷ place) some absent = by_node (get tree (b ∷ place)) absent
  where
    by_node : (o : Option Node) → place_of o ≡ places.Absent → o ≡ None
    by_node None e = refl
    by_node (Some (file bytes)) e = cc
    by_node (Some folder) e = cc

-- a change that the tree allows failed, so that was counted
risen_of : {T : Type 0} (first before now : ℕ) (r : Result T FileError) {allowed : Bool} → first ≤ before → IsTrue allowed → HasCause allowed before now r → IsErrOf r Failed → HasRisen first now
risen_of first before now r {allowed} later may cause failed = elim (cause failed) [
  | inl risen ↦ omega (arith, later, risen)
  | inr barred ↦ absurd (let wrong : true ≡ false = sym may ∙ barred in cc wrong)
]

pub returns-in_err-path-clause-moments : goal.returns-in_err-path-clause-moments
returns-in_err-path-clause-moments g t c = λ honest. below_way c.args.place.now (g.F.Files.history c.args.files.now) (g.F.Files.history c.loop-name.files) (c.loop-name.invariant.moments honest)

pub returns-in_err-clear_way-clause-moments : goal.returns-in_err-clear_way-clause-moments
returns-in_err-clear_way-clause-moments g t c = λ honest.
    let place = c.args.place.now in
    let some : place ≢ [] = not_root place c.is_empty.result c.is_empty.ensures c.if-is_empty.false in
    let path = c.deref-then-is_deeper.result.now in
    let above : IsAbove place path = below_in place c.deref.result.now path some (c.deref-then-is_deeper.ensures.value ∙ c.in_ok-path.ensures) in
    let old = g.F.Files.history c.args.files.now in
    let mid = g.F.Files.history c.loop-name.files in
    let new = g.F.Files.history c.clear_way.new.files in
    below_way place old new (below_joined place path old mid new above (c.loop-name.invariant.moments honest) (c.clear_way.ensures.moments (c.loop-name.invariant.honest honest)))

pub returns-in_err-clear_way-clause-blocked : goal.returns-in_err-clear_way-clause-blocked
returns-in_err-clear_way-clause-blocked g t c = λ honest blocked.
    let place = c.args.place.now in
    let some : place ≢ [] = not_root place c.is_empty.result c.is_empty.ensures c.if-is_empty.false in
    let path = c.deref-then-is_deeper.result.now in
    let above : IsAbove place path = below_in place c.deref.result.now path some (c.deref-then-is_deeper.ensures.value ∙ c.in_ok-path.ensures) in
    let old = g.F.Files.history c.args.files.now in
    let mid = g.F.Files.history c.loop-name.files in
    let inner = c.in_err-clear_way.ensures.blocked (c.loop-name.invariant.honest honest) in
    let residual = c.from_residual-in_err-clear_way.ensures in
    inr (one_below place path old.tree mid.tree above (below_now place old mid (c.loop-name.invariant.moments honest)).files (inner (search rules)))

pub returns-in_err-clear_way-clause-failed : goal.returns-in_err-clear_way-clause-failed
returns-in_err-clear_way-clause-failed g t c = λ honest failed.
    let inner = c.in_err-clear_way.ensures.failed (c.loop-name.invariant.honest honest) in
    let residual = c.from_residual-in_err-clear_way.ensures in
    risen_later _ _ _ _ c.loop-name.invariant.later (inner (search rules)) (omega arith)

pub returns-in-Ok-File-clause-blocked : goal.returns-in-Ok-File-clause-blocked
returns-in-Ok-File-clause-blocked g t c = λ honest blocked.
    inl (file_stands (g.F.Files.history c.args.files.now).tree c.args.place.now _ (sym (c.in-Ok-File.ensures.place honest) ∙ c.in-Ok-File.field-0-is))

pub returns-in-Ok-Absent-clause-gone : goal.returns-in-Ok-Absent-clause-gone
returns-in-Ok-Absent-clause-gone g t c = λ honest some.
    nothing_there (g.F.Files.history c.args.files.now).tree c.args.place.now some (sym (c.in-Ok-Absent.ensures.place honest) ∙ c.in-Ok-Absent.field-0-is)

pub returns-in_err-remove_empty_folder-clause-moments : goal.returns-in_err-remove_empty_folder-clause-moments
returns-in_err-remove_empty_folder-clause-moments g t c = λ honest.
    way_joined c.args.place.now (g.F.Files.history c.args.files.now) (g.F.Files.history c.loop-name.files) (g.F.Files.history c.remove_empty_folder.new.self) (c.loop-name.invariant.moments honest) (c.remove_empty_folder.ensures.change (c.loop-name.invariant.honest honest)).moments

pub returns-clause-moments : goal.returns-clause-moments
returns-clause-moments g t c = λ honest.
    way_joined c.args.place.now (g.F.Files.history c.args.files.now) (g.F.Files.history c.loop-name.files) (g.F.Files.history c.remove_empty_folder.new.self) (c.loop-name.invariant.moments honest) (c.remove_empty_folder.ensures.change (c.loop-name.invariant.honest honest)).moments

pub returns-clause-gone : goal.returns-clause-gone
returns-clause-gone g t c = λ honest some.
    removed_gone c.args.place.now (g.F.Files.history c.loop-name.files).tree (g.F.Files.history c.remove_empty_folder.new.self).tree (c.in_ok-remove_empty_folder.ensures.change (c.loop-name.invariant.honest honest)).made

pub returns-in_err-remove_empty_folder-clause-failed : goal.returns-in_err-remove_empty_folder-clause-failed
returns-in_err-remove_empty_folder-clause-failed g t c = λ honest failed.
    let place = c.args.place.now in
    let old = (g.F.Files.history c.args.files.now).tree in
    let some : place ≢ [] = not_root place c.is_empty.result c.is_empty.ensures c.if-is_empty.false in
    let there = folder_there old place c.in-Ok-Folder.field-0 some (c.in-Ok-Folder.ensures.place honest) c.in-Ok-Folder.field-0-is in
    let names = ap (map (λ (name : Vec ℕ Global). name.items)) c.deref-name-items.ensures.value ∙ c.in_ok-listed.ensures.names honest in
    let now = g.F.Files.history c.loop-name.files in
    let clears = below_now place (g.F.Files.history c.args.files.now) now (c.loop-name.invariant.moments honest) in
    let may = may_go place old now.tree (map (λ (name : Vec ℕ Global). name.items) c.deref-name-items.result.now) (g.met.F.Files.rooted c.args.files.now honest) there names clears
    (λ i below. c.loop-name.invariant.gone honest i (omega (arith, below, c.loop-name-test.false, map_length c.deref-name-items.result.now))) in
    let from_error = c.from_residual-in_err-remove_empty_folder.ensures in
    risen_of _ _ _ _ c.loop-name.invariant.later may (c.remove_empty_folder.ensures.cause (c.loop-name.invariant.honest honest)) (search rules)

pub loop-name-preserved : goal.loop-name-preserved
loop-name-preserved g t c =
    let so_far = c.loop-name.invariant in
    let place = c.args.place.now in
    let some : place ≢ [] = not_root place c.is_empty.result c.is_empty.ensures c.if-is_empty.false in
    let old = (g.F.Files.history c.args.files.now).tree in
    let names = λ (honest : g.F.Files.is_honest c.args.files.now). ap (map (λ (name : Vec ℕ Global). name.items)) c.deref-name-items.ensures.value ∙ c.in_ok-listed.ensures.names honest in
    let l = λ (honest : g.F.Files.is_honest c.args.files.now). is_listed old place c.deref-name-items.result.now c.loop-name.name-index c.name-item.result c.in_ok-path.path.items c.deref.result.now
    (g.met.F.Files.rooted c.args.files.now honest) (names honest) c.loop-name-test.true c.name-item.is c.deref.ensures.value c.in_ok-path.ensures in
    elim c.if-is_deeper.branch [
      | then-is_deeper+in_ok-clear_way w ↦
          let path = w.deref-then-is_deeper.result.now in
          let above : IsAbove place path = below_in place c.deref.result.now path some (w.deref-then-is_deeper.ensures.value ∙ c.in_ok-path.ensures) in
          let then = g.F.Files.history c.loop-name.files in
          let new = g.F.Files.history w.clear_way.new.files in
          rw w.files-is (record {
            honest = λ honest. w.clear_way.ensures.honest (so_far.honest honest);
            moments = λ honest. below_joined place path (g.F.Files.history c.args.files.now) then new above (so_far.moments honest) (w.clear_way.ensures.moments (so_far.honest honest));
            gone = λ honest.
                let went = way_now path then new (w.clear_way.ensures.moments (so_far.honest honest)) in
                one_more (λ p. get new.tree p ≡ None) place path (map (λ (name : Vec ℕ Global). name.items) c.deref-name-items.result.now) c.loop-name.name-index
                (λ i below. still_none path place _ then.tree new.tree some went (so_far.gone honest i below))
                (w.deref-then-is_deeper.ensures.value ∙ (l honest).at)
                (w.in_ok-clear_way.ensures.gone (so_far.honest honest) (longer_too place path above));
            later = omega (arith, so_far.later, w.clear_way.ensures.later);
            unfailed = w.in_ok-clear_way.ensures.quiet ∙ so_far.unfailed;
          })
      | else-is_deeper w ↦ rw w.files-is (record {
        honest = so_far.honest;
        moments = so_far.moments;
        gone = λ honest. absurd (let e : c.is_deeper.result ≡ (nat_lt (length place) (length c.in_ok-path.path.items) && nat_le (length c.in_ok-path.path.items) 4096) = search rules in
            cc (sym w.if-is_deeper.false ∙ e ∙ is_deep place c.in_ok-path.path.items (l honest).deeper (l honest).is_path));
        later = so_far.later;
        unfailed = so_far.unfailed;
      })
    ]
