use Rattle.std.proofs.Common.{◌≡◌, ◌∙◌, ◌++◌, ◌∷◌, [], ◌<◌, ap, sym, subst, arith, length, rules, true, None}
use Rattle.std.specs.Prelude.{is_ok}
use Rattle.std.proofs.lemmas.List.{with_items_is}
use Rattle.gix_hash.specs.Id.{id_of}
use Rattle.gix_object_tree.specs.ModeText.{mode_of}
use Rattle.gix_object_nodes.specs.declared.node.Slot.{Slot}
use Rattle.gix_object_nodes.specs.Files.{Leaf}
use Rattle.gix_object_nodes.specs.Marks.{KeepsRest}
use Rattle.gix_object_editor.specs.Entries.{made_leaf}
use Rattle.gix_object_editor.specs.Laid.{AreMade}
use Rattle.gix_object_editor.proofs.Folders.{names_pushed}
use Rattle.gix_object_editor.proofs.Made.{taken_made}
use Rattle.gix_object_editor.proofs.Walked.{names}
use Rattle.gix_object_editor.proofs.tree.editor.lay.make_folders.Goals as goal

pub returns-clause-made : goal.returns-clause-made
returns-clause-made c =
    let path = c.args.names.now in
    let ok : is_ok c.push.result ≡ true = search rules in
    let same : c.in_ok-path.path.items ≡ path = search rules in
    let longer : names c.as_slice.result.now ≡ names path ++ [] ∷ [] =
    ap names c.as_slice.ensures.value ∙ names_pushed _ c.in_ok-path.path.items c.push.new.self.items _ ok c.push.ensures.items ∙ ap (λ xs. names xs ++ [] ∷ []) same in
    let slot : Slot = record { mode = c.from.result; oid = c.null.result; child = None } in
    let leaf : Leaf = record { mode = mode_of c.from.result; id = id_of c.null.result } in
    let made : leaf ≡ made_leaf c.args.hash = search rules in
    let new = c.take_at.new.nodes in
    let rest = subst (λ ns. KeepsRest ns c.in_ok-end.end.0 [] new) c.as_mut_slice.ensures.value c.take_at.ensures.rest in
    let n : length new ≡ c.lay_entry.new.nodes.len = omega (arith, c.take_at.ensures.rest.len, c.as_mut_slice.ensures.len) in
    subst (λ ns. AreMade c.args.nodes.now.items c.args.at.0 path c.args.hash c.args.changed ns c.in_ok-end.end.0) (sym (with_items_is c.lay_entry.new.nodes new n))
    (taken_made c.args.nodes.now.items c.lay_entry.new.nodes.items new c.args.at.0 c.in_ok-end.end.0 path c.as_slice.result.now slot c.args.hash c.args.changed c.requires.named longer made
    c.in_ok-end.ensures.laid c.take_at.ensures.here rest c.requires.tree.forest c.requires.plain c.requires.full)

pub take_at-requires : goal.take_at-requires
take_at-requires c = subst (λ ns. c.in_ok-end.end.0 < length ns) (sym c.as_mut_slice.ensures.value) c.in_ok-end.ensures.laid.within
