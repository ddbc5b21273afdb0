use Rattle.std.proofs.Common.{◌≡◌, ◌∙◌, sym, ap, subst, ◌<◌, ◌≤◌, List, ◌∷◌, Some, length, inr, arith, map, length-append}
use Rattle.std.specs.Prelude.{IfSome}
use Rattle.std.proofs.lemmas.Option.{slice_get-get_or}
use Rattle.std.proofs.lemmas.Result.{err_from_is_err_and}
use Rattle.gix_hash.specs.Id.{Id, id_of}
use Rattle.gix_object_lines.specs.declared.kind.Kind.TheVariants as kinds
use Rattle.gix_object_tree.specs.Reading.{Place, place_of, start}
use Rattle.gix_object_lookup.specs.Existing.{Stands, KindFault}
use Rattle.gix_traverse_tree.specs.Nodes.{node_under, IsLinked, IsWayUp, MemoryOr, ShowsListing, StopsListing, StopsLevel}
use Rattle.gix_traverse_tree.specs.Trees.{is_among}
use Rattle.gix_traverse_tree.specs.declared.breadthfirst.Node.{Node}
use Rattle.gix_traverse_tree.proofs.Called.{on_ok, on_err, memory_or}
use Rattle.gix_traverse_tree.proofs.Levelled.{tree_unread, tree_shown, tree_stopped}
use Rattle.gix_traverse_tree.proofs.Ways.{some_below, stand_is, linked_more, among_from_contains}
use Rattle.gix_traverse_tree.proofs.breadthfirst.State.read.Goals as goal

pub lies_above-requires-clause-within : goal.lies_above-requires-clause-within
lies_above-requires-clause-within g c =
    let nodes = c.args.self.now.nodes.items in
    let at = slice_get-get_or nodes c.args.number c.index.result.now c.requires.within ∙ ap Some (sym c.index.ensures) in
    let h = some_below c.index.result.now.above c.args.number (length nodes) (c.requires.linked c.args.number c.index.result.now at) (let l = c.requires.within in omega arith) in
    subst (λ (ns : List Node). IfSome c.index.result.now.above (λ n. n < length ns)) (sym c.as_slice.ensures.value) h

pub returns-then-lies_above-clause-stopped : goal.returns-then-lies_above-clause-stopped
returns-then-lies_above-clause-stopped g c = λ tree trees stand.
    let nodes = c.args.self.now.nodes.items in
    let at = slice_get-get_or nodes c.args.number c.index.result.now c.requires.within ∙ ap Some (sym c.index.ensures) in
    let (is, way) = stand_is nodes c.args.number c.index.result.now tree at stand in
    let test = c.lies_above.ensures tree.above (subst (λ (ns : List Node). IsWayUp ns c.index.result.now.above tree.above) (sym c.as_slice.ensures.value) way) in
    let among = ap (λ (id : Id). is_among id tree.above) (sym is) ∙ sym test ∙ c.if-lies_above.true in
    inr (tree_unread g.V.Visit.goes (g.F.Lookup.is_honest c.args.objects.now) (g.F.Lookup.may_fail c.args.objects.now) (g.F.Lookup.table c.args.objects.now) (g.F.Lookup.ids c.args.objects.now) tree trees c.args.delegate.now c.pop_front_tracked_path_and_set_current.new.self _ c.in_ok-pop_front_tracked_path_and_set_current.ensures among)

pub returns-in_err-read_tree-clause-stopped : goal.returns-in_err-read_tree-clause-stopped
returns-in_err-read_tree-clause-stopped g c = λ tree trees stand.
    let nodes = c.args.self.now.nodes.items in
    let at = slice_get-get_or nodes c.args.number c.index.result.now c.requires.within ∙ ap Some (sym c.index.ensures) in
    let (is, way) = stand_is nodes c.args.number c.index.result.now tree at stand in
    let test = c.lies_above.ensures tree.above (subst (λ (ns : List Node). IsWayUp ns c.index.result.now.above tree.above) (sym c.as_slice.ensures.value) way) in
    let alone = ap (λ (id : Id). is_among id tree.above) (sym is) ∙ sym test ∙ c.if-lies_above.false in
    let fault = subst (λ (id : Id). KindFault (g.F.Lookup.is_honest c.args.objects.now) (g.F.Lookup.may_fail c.args.objects.now) (g.F.Lookup.table c.args.objects.now) id kinds.Tree c.in_err-read_tree.field-0.0) is c.in_err-read_tree.ensures.refused in
    let p = err_from_is_err_and c.from_residual-in_err-read_tree.result c.from_residual-in_err-read_tree.ensures.1 in
    rw (p.1, p.2) (inr (tree_unread g.V.Visit.goes (g.F.Lookup.is_honest c.args.objects.now) (g.F.Lookup.may_fail c.args.objects.now) (g.F.Lookup.table c.args.objects.now) (g.F.Lookup.ids c.args.objects.now) tree trees c.args.delegate.now c.pop_front_tracked_path_and_set_current.new.self _ c.in_ok-pop_front_tracked_path_and_set_current.ensures (alone, fault)))

pub returns-clause-linked : goal.returns-clause-linked
returns-clause-linked g c =
    let nodes = c.args.self.now.nodes.items in
    on_ok c.show_entries.result _ (IsLinked c.show_entries.new.nodes.items)
    (λ (calls, below, runs, listing, (added, named, put)).
    subst IsLinked (sym put) (linked_more nodes (Some c.args.number) added c.requires.linked c.requires.within))
    c.show_entries.ensures.listed

pub returns-clause-longer : goal.returns-clause-longer
returns-clause-longer g c =
    let nodes = c.args.self.now.nodes.items in
    on_ok c.show_entries.result _ (length nodes ≤ length c.show_entries.new.nodes.items)
    (λ (calls, below, runs, listing, (added, named, put)).
    let e = ap (λ (ns : List Node). length ns) put in
    let f = length-append nodes (map (node_under (Some c.args.number)) added) in
    omega (arith, e, f))
    c.show_entries.ensures.listed

pub returns-clause-read : goal.returns-clause-read
returns-clause-read g c = λ tree stand.
    let nodes = c.args.self.now.nodes.items in
    let at = slice_get-get_or nodes c.args.number c.index.result.now c.requires.within ∙ ap Some (sym c.index.ensures) in
    let (is, way) = stand_is nodes c.args.number c.index.result.now tree at stand in
    let test = c.lies_above.ensures tree.above (subst (λ (ns : List Node). IsWayUp ns c.index.result.now.above tree.above) (sym c.as_slice.ensures.value) way) in
    let alone = ap (λ (id : Id). is_among id tree.above) (sym is) ∙ sym test ∙ c.if-lies_above.false in
    let H = g.F.Lookup.is_honest c.args.objects.now in
    let table = g.F.Lookup.table c.args.objects.now in
    let content = c.read_tree.new.buffer.items in
    let found = subst (λ (id : Id). H → Stands table id kinds.Tree content) is c.in_ok-read_tree.ensures.found in
    let listed = ap (λ (id : Id). is_among id (g.F.Lookup.ids c.args.objects.now)) (sym is) ∙ among_from_contains (g.F.Lookup.ids c.args.objects.now) (id_of c.index.result.now.id) c.in_ok-read_tree.ensures.listed in
    let kind : c.kind.result ≡ tree.id.kind = c.kind.ensures ∙ ap (λ (id : Id). id.kind) is in
    let place : place_of c.from_bytes-entries.result ≡ start tree.id.kind content = c.from_bytes-entries.ensures ∙ (λ i. start (kind i) (c.as_slice-2.ensures.value i)) in
    on_ok c.show_entries.result _ _
    (λ shows. tree_shown g.V.Visit.goes H (g.F.Lookup.may_fail c.args.objects.now) table (g.F.Lookup.ids c.args.objects.now) c.args.number tree content c.args.delegate.now c.pop_front_tracked_path_and_set_current.new.self c.show_entries.new.delegate nodes c.show_entries.new.nodes.items (alone, found) listed c.in_ok-pop_front_tracked_path_and_set_current.ensures
    (subst (λ (p : Place). ShowsListing g.V.Visit.goes p.kind p.input (Some c.args.number) c.pop_front_tracked_path_and_set_current.new.self nodes c.show_entries.new.delegate c.show_entries.new.nodes.items) place shows))
    c.show_entries.ensures.listed

pub returns-clause-stopped : goal.returns-clause-stopped
returns-clause-stopped g c = λ tree trees stand.
    let nodes = c.args.self.now.nodes.items in
    let at = slice_get-get_or nodes c.args.number c.index.result.now c.requires.within ∙ ap Some (sym c.index.ensures) in
    let (is, way) = stand_is nodes c.args.number c.index.result.now tree at stand in
    let test = c.lies_above.ensures tree.above (subst (λ (ns : List Node). IsWayUp ns c.index.result.now.above tree.above) (sym c.as_slice.ensures.value) way) in
    let alone = ap (λ (id : Id). is_among id tree.above) (sym is) ∙ sym test ∙ c.if-lies_above.false in
    let H = g.F.Lookup.is_honest c.args.objects.now in
    let table = g.F.Lookup.table c.args.objects.now in
    let content = c.read_tree.new.buffer.items in
    let found = subst (λ (id : Id). H → Stands table id kinds.Tree content) is c.in_ok-read_tree.ensures.found in
    let kind : c.kind.result ≡ tree.id.kind = c.kind.ensures ∙ ap (λ (id : Id). id.kind) is in
    let place : place_of c.from_bytes-entries.result ≡ start tree.id.kind content = c.from_bytes-entries.ensures ∙ (λ i. start (kind i) (c.as_slice-2.ensures.value i)) in
    let stops : _ → Type 0 = StopsLevel g.V.Visit.goes H (g.F.Lookup.may_fail c.args.objects.now) table (tree ∷ trees) c.args.delegate.now c.show_entries.new.delegate in
    let listed : _ → Type 0 = StopsListing g.V.Visit.goes (place_of c.from_bytes-entries.result).kind (place_of c.from_bytes-entries.result).input c.pop_front_tracked_path_and_set_current.new.self c.show_entries.new.delegate in
    on_err c.show_entries.result (MemoryOr listed) (MemoryOr stops)
    (λ error h. memory_or listed stops error
    (λ e stop. tree_stopped g.V.Visit.goes H (g.F.Lookup.may_fail c.args.objects.now) table (g.F.Lookup.ids c.args.objects.now) tree trees content c.args.delegate.now c.pop_front_tracked_path_and_set_current.new.self c.show_entries.new.delegate e (alone, found) c.in_ok-pop_front_tracked_path_and_set_current.ensures
    (subst (λ (p : Place). StopsListing g.V.Visit.goes p.kind p.input c.pop_front_tracked_path_and_set_current.new.self c.show_entries.new.delegate e) place stop)) h)
    c.show_entries.ensures.stopped
