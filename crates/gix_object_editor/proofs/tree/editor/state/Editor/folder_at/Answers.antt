use Rattle.std.proofs.Common.{ℕ, inl, inr, refl, ◌≡◌, ◌≢◌, ◌<◌, ◌∙◌, ◌+◌, ◌-◌, List, [], ◌∷◌, ap, sym, subst, arith, length, drop, take, get_or}
use Rattle.std.specs.Prelude.{Ok, is_some, IsTrue, IsFalse}
use Rattle.std.specs.Borrow.{Bor}
use Rattle.std.specs.List.{All}
use Rattle.std.proofs.lemmas.List.{get_or-map}
use Rattle.std.proofs.lemmas.Result.{err_from_is_err_and}
use Rattle.gix_hash.specs.Id.{id_of}
use Rattle.gix_object_nodes.specs.declared.node.Node.{Node}
use Rattle.gix_object_nodes.specs.Nodes.{slots_of, child_of, files_of_node, IsNoFolder, LeadsTo}
use Rattle.gix_object_editor.specs.Editor.{names_of, LeadsInto}
use Rattle.gix_object_editor.specs.Entries.{MayStandMade}
use Rattle.gix_object_editor.specs.Grown.{Appends, HasTree, IsFolderOf, IsMarkedBut, first_of}
use Rattle.gix_object_editor.proofs.Asking.{into_asked, into_stops, late_opening, some_all, some_names, walk_into_stops}
use Rattle.gix_object_editor.proofs.Edited.{reach, reach_more, same_given, up_given}
use Rattle.gix_object_editor.proofs.Edits.{edit_fault, end_tree, leads_into, left_names, stopped_tree}
use Rattle.gix_object_editor.proofs.FolderMade.{leads_made, leads_there, made_forest, made_keeps_each, made_marked, made_read, made_within, makes_made, makes_there}
use Rattle.gix_object_editor.proofs.Growth.{grows_same, grows_then, no_files, none_into}
use Rattle.gix_object_editor.proofs.Kept.{full_rest, made_drop}
use Rattle.gix_object_editor.proofs.Cuts.{none_of}
use Rattle.gix_object_editor.proofs.Raised.{none_after}
use Rattle.gix_object_editor.proofs.Refused as Refused
use Rattle.gix_object_editor.proofs.Upserted.{laid_but}
use Rattle.gix_object_editor.proofs.Walked.{names}
use Rattle.gix_object_editor.proofs.tree.editor.state.Editor.folder_at.Goals as goal

pub walk-requires-clause-tree : goal.walk-requires-clause-tree
walk-requires-clause-tree g c = record { forest = c.args.self.now.forest; within = c.args.self.now.forest.rooted }

pub folder_below-requires-clause-tree : goal.folder_below-requires-clause-tree
folder_below-requires-clause-tree g c = record { forest = c.walk.ensures.grows.opened.forest; within = c.in_ok-at.ensures.within.0 }

pub folder_below-requires-clause-blocked : goal.folder_below-requires-clause-blocked
folder_below-requires-clause-blocked g c = λ more.
    let path = c.args.path.now in
    let i = c.in_ok-at.depth in
    let so = c.in_ok-at.ensures in
    let left = left_names path i so.within.1 in
    let lt : i + 1 < length path = omega (arith, left.0, more) in
    subst (λ n. IsNoFolder (slots_of c.walk.new.nodes.items c.in_ok-at.at.0 n)) (sym (ap (λ p. get_or p 0 []) left.1)) (so.walked.blocked lt)

pub make_folders-requires-clause-tree : goal.make_folders-requires-clause-tree
make_folders-requires-clause-tree g c =
    let grows = c.folder_below.ensures.grows in
    record { forest = grows.opened.forest; within = omega (arith, c.in_ok-at.ensures.within.0, grows.opened.longer) }

pub make_folders-requires-clause-plain : goal.make_folders-requires-clause-plain
make_folders-requires-clause-plain g c =
    let found = subst (IsFolderOf c.walk.new.nodes.items c.folder_below.new.nodes.items c.in_ok-at.at.0 _) c.in-None.is c.in_ok-found.ensures.found in
    no_files (slots_of c.folder_below.new.nodes.items) c.in_ok-at.at.0 _ found.0

pub make_folders-requires-clause-full : goal.make_folders-requires-clause-full
make_folders-requires-clause-full g c =
    let path = c.args.path.now in
    let i = c.in_ok-at.depth in
    subst (λ (xs : List (Bor (List ℕ))). All (λ name. name ≢ []) (names xs)) (sym (left_names path i c.in_ok-at.ensures.within.1).2) (full_rest path i c.in_ok-check_names.ensures.ok)

pub mark_if-requires-clause-tree : goal.mark_if-requires-clause-tree
mark_if-requires-clause-tree g c =
    let appends = c.in_ok-made-in-None.ensures.made.appends in
    subst (λ ns. HasTree ns c.in_ok-at.at.0) (sym c.as_mut_slice.ensures.value) (record { forest = appends.forest; within = omega (arith, c.in_ok-at.ensures.within.0, c.folder_below.ensures.grows.opened.longer, appends.longer) })

pub mark_if-requires-clause-marked : goal.mark_if-requires-clause-marked
mark_if-requires-clause-marked g c = λ stood.
    let path = c.args.path.now in
    let i = c.in_ok-at.depth in
    let grows = grows_then c.walk.ensures.grows c.folder_below.ensures.grows in
    let within : c.in_ok-at.at.0 < length c.folder_below.new.nodes.items = omega (arith, c.in_ok-at.ensures.within.0, c.folder_below.ensures.grows.opened.longer) in
    subst (IsMarkedBut c.in_ok-at.at.0) (sym c.as_mut_slice.ensures.value)
    (laid_but grows within (subst (λ b. Appends b c.folder_below.new.nodes.items c.in_ok-at.at.0 (first_of (take (length path - i) (drop i path))) c.make_folders.new.nodes.items) stood c.in_ok-made-in-None.ensures.made.appends) c.args.self.now.forest c.args.self.now.marked)

pub invariant_of-self-in-None : goal.invariant_of-self-in-None
invariant_of-self-in-None g c =
    let grows = grows_then c.walk.ensures.grows c.folder_below.ensures.grows in
    let within : c.in_ok-at.at.0 < length c.folder_below.new.nodes.items = omega (arith, c.in_ok-at.ensures.within.0, c.folder_below.ensures.grows.opened.longer) in
    let so = c.in_ok-made-in-None.ensures.made in
    let old = c.args.self.now in
    let up = λ (yes : IsTrue c.is_some-stands.result). up_given c.make_folders.new.nodes c.as_mut_slice.ensures.value c.as_mut_slice.ensures.len (c.mark_if.ensures.marked yes) in
    let same = λ (no : IsFalse c.is_some-stands.result). same_given c.make_folders.new.nodes c.as_mut_slice.ensures.value c.as_mut_slice.ensures.len (c.mark_if.ensures.same no) in
    record { forest = made_forest old.forest old.marked grows within so up same; marked = made_marked old.forest old.marked grows within so up same }

-- ---- refusals

pub returns-in_err-at-clause-refused : goal.returns-in_err-at-clause-refused
returns-in_err-at-clause-refused g c =
    let p = err_from_is_err_and c.from_residual-in_err-at.result c.from_residual-in_err-at.ensures.1 in
    let told = c.in_err-at.ensures.refused in
    let slots = slots_of c.walk.new.nodes.items in
    rw (p.1, p.2) (edit_fault (g.S.Lookup.is_honest c.args.self.now.store) (g.S.Lookup.may_fail c.args.self.now.store) (g.S.Lookup.table c.args.self.now.store) (names_of c.args.path.now)
    (LeadsInto (λ trees. files_of_node trees slots 0) (names_of c.args.path.now)) c.in_err-at.field-0.0 told.0
    (leads_into (λ trees. files_of_node trees slots 0) (names_of c.args.path.now) told.0 (stopped_tree slots (names_of c.args.path.now) told.0 (told.1 [] refl))) told.2)

pub returns-in_err-found-clause-refused : goal.returns-in_err-found-clause-refused
returns-in_err-found-clause-refused g c =
    let p = err_from_is_err_and c.from_residual-in_err-found.result c.from_residual-in_err-found.ensures.1 in
    let told = c.in_err-found.ensures.refused in
    let path = c.args.path.now in
    let i = c.in_ok-at.depth in
    let at = c.in_ok-at.at.0 in
    let so = c.in_ok-at.ensures in
    let new = c.folder_below.new.nodes.items in
    let left = left_names path i so.within.1 in
    let one : length (take (length path - i) (drop i path)) ≡ 1 = elim c.in_err-found.ensures.alone [ inl e ↦ e | inr none ↦ absurd (cc none) ] in
    let last = none_after path i (omega (arith, one, left.0, so.within.1)) in
    let r = reach_more (reach c.args.self.now.nodes.items c.walk.new.nodes.items 0 at i path c.walk.ensures.grows so.within.0 so.within.1 so.walked [] refl) c.folder_below.ensures.grows (λ some. absurd (some last)) in
    let leads = subst (λ l. LeadsTo (slots_of new) (names path) at (get_or (names path) i [] ∷ l)) last r.leads in
    let stands = ap (λ p. slots_of new at (get_or p 0 [])) (sym left.1) ∙ told.1 in
    rw (p.1, p.2) (edit_fault (g.S.Lookup.is_honest c.args.self.now.store) (g.S.Lookup.may_fail c.args.self.now.store) (g.S.Lookup.table c.args.self.now.store) (names_of path)
    (LeadsInto (λ trees. files_of_node trees (slots_of new) 0) (names_of path)) c.in_err-found.field-0.0 (id_of told.0.oid)
    (end_tree (slots_of new) (names path) at (get_or (names path) i []) told.0 leads stands told.2) told.3)

pub returns-in_err-at-clause-asked : goal.returns-in_err-at-clause-asked
returns-in_err-at-clause-asked g c =
    let p = err_from_is_err_and c.from_residual-in_err-at.result c.from_residual-in_err-at.ensures.1 in
    rw (p.1, p.2) (λ honest trees has. walk_into_stops (g.S.Lookup.is_honest c.args.self.now.store) (g.S.Lookup.may_fail c.args.self.now.store) (g.S.Lookup.table c.args.self.now.store) trees (slots_of c.args.self.now.nodes.items) 0 c.args.path.now
    c.args.self.now.lookups c.walk.new.lookups c.in_err-at.field-0.0 (c.in_err-at.ensures.asked honest trees has) (some_names c.args.path.now c.in_ok-check_names.ensures.ok.0))

pub returns-in_err-found-clause-asked : goal.returns-in_err-found-clause-asked
returns-in_err-found-clause-asked g c =
    let p = err_from_is_err_and c.from_residual-in_err-found.result c.from_residual-in_err-found.ensures.1 in
    let so = c.in_ok-at.ensures in
    let path = c.args.path.now in
    let told = c.in_err-found.ensures.refused in
    rw (p.1, p.2) (λ honest trees has. into_stops (g.S.Lookup.table c.args.self.now.store) trees (slots_of c.args.self.now.nodes.items) (slots_of c.walk.new.nodes.items) 0 c.in_ok-at.at.0 path c.in_ok-at.depth c.args.self.now.lookups c.walk.new.lookups
    c.folder_below.new.lookups so.within.1 (λ more rest. none_into trees (slots_of c.walk.new.nodes.items) c.in_ok-at.at.0 _ rest (so.walked.blocked more)) (so.asked honest trees has)
    (g.S.Lookup.is_honest c.args.self.now.store) (g.S.Lookup.may_fail c.args.self.now.store) c.in_err-found.field-0.0
    (late_opening (g.S.Lookup.is_honest c.args.self.now.store) (g.S.Lookup.may_fail c.args.self.now.store) (g.S.Lookup.table c.args.self.now.store) (id_of told.0.oid) c.in_err-found.field-0.0 told.3)
    _ (ap (λ p. get_or p 0 []) (left_names path c.in_ok-at.depth so.within.1).1) (c.in_err-found.ensures.asked honest trees has))

pub returns-in_err-made-in-None-clause-asked : goal.returns-in_err-made-in-None-clause-asked
returns-in_err-made-in-None-clause-asked g c =
    let p = err_from_is_err_and c.from_residual-in_err-made-in-None.result c.from_residual-in_err-made-in-None.ensures.1 in
    let so = c.in_ok-at.ensures in
    let path = c.args.path.now in
    rw (p.1, p.2) (λ honest trees has. some_all (g.S.Lookup.table c.args.self.now.store) _ c.args.self.now.lookups c.folder_below.new.lookups (into_asked (g.S.Lookup.table c.args.self.now.store) trees (slots_of c.args.self.now.nodes.items) (slots_of c.walk.new.nodes.items) 0 c.in_ok-at.at.0 path c.in_ok-at.depth c.args.self.now.lookups c.walk.new.lookups
    c.folder_below.new.lookups so.within.1 (λ more rest. none_into trees (slots_of c.walk.new.nodes.items) c.in_ok-at.at.0 _ rest (so.walked.blocked more)) (so.asked honest trees has)
    _ (ap (λ p. get_or p 0 []) (left_names path c.in_ok-at.depth so.within.1).1) (c.in_ok-found.ensures.asked honest trees has)))

pub returns-in_err-at-clause-kept : goal.returns-in_err-at-clause-kept
returns-in_err-at-clause-kept g c =
    let p = err_from_is_err_and c.from_residual-in_err-at.result c.from_residual-in_err-at.ensures.1 in
    rw p.1 (Refused.stopped g.S.Lookup.is_honest g.S.Lookup.table c.args.path.now _ c.args.self.now _ refl (omega (arith, c.walk.ensures.counted)) c.in_ok-check_names.ensures.ok _ c.walk.ensures.grows)

pub returns-in_err-found-clause-kept : goal.returns-in_err-found-clause-kept
returns-in_err-found-clause-kept g c =
    let p = err_from_is_err_and c.from_residual-in_err-found.result c.from_residual-in_err-found.ensures.1 in
    rw p.1 (Refused.stopped g.S.Lookup.is_honest g.S.Lookup.table c.args.path.now _ c.args.self.now _ refl (omega (arith, c.walk.ensures.counted, c.folder_below.ensures.counted)) c.in_ok-check_names.ensures.ok _
    (grows_then c.walk.ensures.grows c.folder_below.ensures.grows))

pub returns-in_err-made-in-None-clause-kept : goal.returns-in_err-made-in-None-clause-kept
returns-in_err-made-in-None-clause-kept g c =
    let p = err_from_is_err_and c.from_residual-in_err-made-in-None.result c.from_residual-in_err-made-in-None.ensures.1 in
    let grows = grows_then c.walk.ensures.grows c.folder_below.ensures.grows in
    rw p.1 (Refused.stopped g.S.Lookup.is_honest g.S.Lookup.table c.args.path.now _ c.args.self.now _ refl (omega (arith, c.walk.ensures.counted, c.folder_below.ensures.counted)) c.in_ok-check_names.ensures.ok _
    (grows_then grows (grows_same grows.opened.forest c.in_err-made-in-None.ensures.same)))

-- ---- the folder is there

pub returns-in-Some-clause-asked : goal.returns-in-Some-clause-asked
returns-in-Some-clause-asked g c = λ honest trees has.
    let so = c.in_ok-at.ensures in
    let path = c.args.path.now in
    into_asked (g.S.Lookup.table c.args.self.now.store) trees (slots_of c.args.self.now.nodes.items) (slots_of c.walk.new.nodes.items) 0 c.in_ok-at.at.0 path c.in_ok-at.depth c.args.self.now.lookups c.walk.new.lookups
    c.folder_below.new.lookups so.within.1 (λ more rest. none_into trees (slots_of c.walk.new.nodes.items) c.in_ok-at.at.0 _ rest (so.walked.blocked more)) (so.asked honest trees has)
    _ (ap (λ p. get_or p 0 []) (left_names path c.in_ok-at.depth so.within.1).1) (c.in_ok-found.ensures.asked honest trees has)

pub returns-in-Some-clause-kept : goal.returns-in-Some-clause-kept
returns-in-Some-clause-kept g c =
    Refused.grown g.S.Lookup.is_honest g.S.Lookup.table c.args.path.now _ c.args.self.now _ refl (omega (arith, c.walk.ensures.counted, c.folder_below.ensures.counted)) c.in_ok-check_names.ensures.ok _
    (grows_then c.walk.ensures.grows c.folder_below.ensures.grows)

pub returns-in-Some-clause-leads : goal.returns-in-Some-clause-leads
returns-in-Some-clause-leads g c =
    let path = c.args.path.now in
    let i = c.in_ok-at.depth in
    let at = c.in_ok-at.at.0 in
    let so = c.in_ok-at.ensures in
    let left = left_names path i so.within.1 in
    let one : length (take (length path - i) (drop i path)) ≡ 1 = elim c.in_ok-found.ensures.alone [ inl e ↦ e | inr none ↦ absurd (cc (sym none ∙ ap Ok c.in-Some.is)) ] in
    let last = none_after path i (omega (arith, one, left.0, so.within.1)) in
    let r = reach_more (reach c.args.self.now.nodes.items c.walk.new.nodes.items 0 at i path c.walk.ensures.grows so.within.0 so.within.1 so.walked [] refl) c.folder_below.ensures.grows (λ some. absurd (some last)) in
    let found = subst (IsFolderOf c.walk.new.nodes.items c.folder_below.new.nodes.items at _) c.in-Some.is c.in_ok-found.ensures.found in
    let stands = ap (λ p. child_of (slots_of c.folder_below.new.nodes.items at (get_or p 0 []))) (sym left.1) ∙ found.0 in
    leads_there r last c.in-Some.folder.0 stands

pub returns-in-Some-clause-within : goal.returns-in-Some-clause-within
returns-in-Some-clause-within g c =
    let at = c.in_ok-at.at.0 in
    let found = subst (IsFolderOf c.walk.new.nodes.items c.folder_below.new.nodes.items at _) c.in-Some.is c.in_ok-found.ensures.found in
    c.folder_below.ensures.grows.opened.forest.within at _ c.in-Some.folder.0 found.0

pub returns-in-Some-clause-made : goal.returns-in-Some-clause-made
returns-in-Some-clause-made g c =
    let path = c.args.path.now in
    let i = c.in_ok-at.depth in
    let at = c.in_ok-at.at.0 in
    let so = c.in_ok-at.ensures in
    let left = left_names path i so.within.1 in
    let one : length (take (length path - i) (drop i path)) ≡ 1 = elim c.in_ok-found.ensures.alone [ inl e ↦ e | inr none ↦ absurd (cc (sym none ∙ ap Ok c.in-Some.is)) ] in
    let last = none_after path i (omega (arith, one, left.0, so.within.1)) in
    let r = reach_more (reach c.args.self.now.nodes.items c.walk.new.nodes.items 0 at i path c.walk.ensures.grows so.within.0 so.within.1 so.walked [] refl) c.folder_below.ensures.grows (λ some. absurd (some last)) in
    let found = subst (IsFolderOf c.walk.new.nodes.items c.folder_below.new.nodes.items at _) c.in-Some.is c.in_ok-found.ensures.found in
    let stands = ap (λ p. child_of (slots_of c.folder_below.new.nodes.items at (get_or p 0 []))) (sym left.1) ∙ found.0 in
    makes_there g.S.Lookup.is_honest g.S.Lookup.table c.args.self.now _ r last c.in-Some.folder.0 stands c.args.hash

-- ---- the folder is made

pub returns-in_ok-made-in-None-clause-asked : goal.returns-in_ok-made-in-None-clause-asked
returns-in_ok-made-in-None-clause-asked g c = λ honest trees has.
    let so = c.in_ok-at.ensures in
    let path = c.args.path.now in
    into_asked (g.S.Lookup.table c.args.self.now.store) trees (slots_of c.args.self.now.nodes.items) (slots_of c.walk.new.nodes.items) 0 c.in_ok-at.at.0 path c.in_ok-at.depth c.args.self.now.lookups c.walk.new.lookups
    c.folder_below.new.lookups so.within.1 (λ more rest. none_into trees (slots_of c.walk.new.nodes.items) c.in_ok-at.at.0 _ rest (so.walked.blocked more)) (so.asked honest trees has)
    _ (ap (λ p. get_or p 0 []) (left_names path c.in_ok-at.depth so.within.1).1) (c.in_ok-found.ensures.asked honest trees has)

pub returns-in_ok-made-in-None-clause-kept : goal.returns-in_ok-made-in-None-clause-kept
returns-in_ok-made-in-None-clause-kept g c =
    let path = c.args.path.now in
    let i = c.in_ok-at.depth in
    let at = c.in_ok-at.at.0 in
    let old = c.args.self.now in
    let new = c.folder_below.new.nodes.items in
    let walk_so = c.in_ok-at.ensures in
    let is = (left_names path i walk_so.within.1).1 in
    let found = subst (IsFolderOf c.walk.new.nodes.items new at _) c.in-None.is c.in_ok-found.ensures.found in
    let plain : IsNoFolder (slots_of new at (get_or (names path) i [])) = subst (λ p. IsNoFolder (slots_of new at (get_or p 0 []))) is found.0 in
    let r = reach_more (reach old.nodes.items c.walk.new.nodes.items 0 at i path c.walk.ensures.grows walk_so.within.0 walk_so.within.1 walk_so.walked [] refl) c.folder_below.ensures.grows (λ some. plain) in
    let so = c.in_ok-made-in-None.ensures.made in
    let up = λ (yes : IsTrue c.is_some-stands.result). up_given c.make_folders.new.nodes c.as_mut_slice.ensures.value c.as_mut_slice.ensures.len (c.mark_if.ensures.marked yes) in
    let same = λ (no : IsFalse c.is_some-stands.result). same_given c.make_folders.new.nodes c.as_mut_slice.ensures.value c.as_mut_slice.ensures.len (c.mark_if.ensures.same no) in
    let slot : c.slot_at.result ≡ slots_of new at (get_or (names path) i []) =
    c.slot_at.ensures ∙ ap (slots_of c.as_slice.result.now at) (sym (get_or-map (λ (x : Bor (List ℕ)). x.now) path i _ [] walk_so.within.1)) ∙ ap (λ (ns : List Node). slots_of ns at (get_or (names path) i [])) c.as_slice.ensures.value in
    let stood : c.is_some-stands.result ≡ is_some (slots_of new at (get_or (names path) i [])) = c.is_some-stands.ensures ∙ ap is_some slot in
    Refused.made g.S.Lookup.is_honest g.S.Lookup.table path _ old _ refl (omega (arith, c.walk.ensures.counted, c.folder_below.ensures.counted)) c.in_ok-check_names.ensures.ok _
    (made_read old.forest old.marked r.grows r.within so up same r.leads.0 r.leads.1 (λ free. ap (λ p. slots_of c.folder_below.new.nodes.items at (get_or p 0 [])) is ∙ none_of _ (sym stood ∙ free)))
    (λ h has down fit each. made_keeps_each old.forest old.marked r.grows r.within so up same h has down
    (subst (λ (xs : List (Bor (List ℕ))). MayStandMade has c.args.hash (names xs)) (sym (left_names path i walk_so.within.1).2) (made_drop has path i c.args.hash fit)) each)

pub returns-in_ok-made-in-None-clause-leads : goal.returns-in_ok-made-in-None-clause-leads
returns-in_ok-made-in-None-clause-leads g c =
    let path = c.args.path.now in
    let i = c.in_ok-at.depth in
    let at = c.in_ok-at.at.0 in
    let old = c.args.self.now in
    let new = c.folder_below.new.nodes.items in
    let walk_so = c.in_ok-at.ensures in
    let is = (left_names path i walk_so.within.1).1 in
    let found = subst (IsFolderOf c.walk.new.nodes.items new at _) c.in-None.is c.in_ok-found.ensures.found in
    let plain : IsNoFolder (slots_of new at (get_or (names path) i [])) = subst (λ p. IsNoFolder (slots_of new at (get_or p 0 []))) is found.0 in
    let r = reach_more (reach old.nodes.items c.walk.new.nodes.items 0 at i path c.walk.ensures.grows walk_so.within.0 walk_so.within.1 walk_so.walked [] refl) c.folder_below.ensures.grows (λ some. plain) in
    let so = c.in_ok-made-in-None.ensures.made in
    let up = λ (yes : IsTrue c.is_some-stands.result). up_given c.make_folders.new.nodes c.as_mut_slice.ensures.value c.as_mut_slice.ensures.len (c.mark_if.ensures.marked yes) in
    let same = λ (no : IsFalse c.is_some-stands.result). same_given c.make_folders.new.nodes c.as_mut_slice.ensures.value c.as_mut_slice.ensures.len (c.mark_if.ensures.same no) in
    leads_made old.forest old.marked r.grows r.within so up same r.leads is

pub returns-in_ok-made-in-None-clause-within : goal.returns-in_ok-made-in-None-clause-within
returns-in_ok-made-in-None-clause-within g c =
    let old = c.args.self.now in
    let grows = grows_then c.walk.ensures.grows c.folder_below.ensures.grows in
    let within : c.in_ok-at.at.0 < length c.folder_below.new.nodes.items = omega (arith, c.in_ok-at.ensures.within.0, c.folder_below.ensures.grows.opened.longer) in
    let up = λ (yes : IsTrue c.is_some-stands.result). up_given c.make_folders.new.nodes c.as_mut_slice.ensures.value c.as_mut_slice.ensures.len (c.mark_if.ensures.marked yes) in
    let same = λ (no : IsFalse c.is_some-stands.result). same_given c.make_folders.new.nodes c.as_mut_slice.ensures.value c.as_mut_slice.ensures.len (c.mark_if.ensures.same no) in
    made_within old.forest old.marked grows within c.in_ok-made-in-None.ensures.made up same

pub returns-in_ok-made-in-None-clause-made : goal.returns-in_ok-made-in-None-clause-made
returns-in_ok-made-in-None-clause-made g c =
    let path = c.args.path.now in
    let i = c.in_ok-at.depth in
    let at = c.in_ok-at.at.0 in
    let old = c.args.self.now in
    let new = c.folder_below.new.nodes.items in
    let walk_so = c.in_ok-at.ensures in
    let is = (left_names path i walk_so.within.1).1 in
    let found = subst (IsFolderOf c.walk.new.nodes.items new at _) c.in-None.is c.in_ok-found.ensures.found in
    let plain : IsNoFolder (slots_of new at (get_or (names path) i [])) = subst (λ p. IsNoFolder (slots_of new at (get_or p 0 []))) is found.0 in
    let r = reach_more (reach old.nodes.items c.walk.new.nodes.items 0 at i path c.walk.ensures.grows walk_so.within.0 walk_so.within.1 walk_so.walked [] refl) c.folder_below.ensures.grows (λ some. plain) in
    let so = c.in_ok-made-in-None.ensures.made in
    let up = λ (yes : IsTrue c.is_some-stands.result). up_given c.make_folders.new.nodes c.as_mut_slice.ensures.value c.as_mut_slice.ensures.len (c.mark_if.ensures.marked yes) in
    let same = λ (no : IsFalse c.is_some-stands.result). same_given c.make_folders.new.nodes c.as_mut_slice.ensures.value c.as_mut_slice.ensures.len (c.mark_if.ensures.same no) in
    let slot : c.slot_at.result ≡ slots_of new at (get_or (names path) i []) =
    c.slot_at.ensures ∙ ap (slots_of c.as_slice.result.now at) (sym (get_or-map (λ (x : Bor (List ℕ)). x.now) path i _ [] walk_so.within.1)) ∙ ap (λ (ns : List Node). slots_of ns at (get_or (names path) i [])) c.as_slice.ensures.value in
    let stood : c.is_some-stands.result ≡ is_some (slots_of new at (get_or (names path) i [])) = c.is_some-stands.ensures ∙ ap is_some slot in
    makes_made g.S.Lookup.is_honest g.S.Lookup.table old _ r plain so up same is stood
