use Rattle.std.proofs.Common.{◌∙◌, ap, sym, Some}
use Rattle.gix_object_lookup.specs.Table.{content_at, kind_at}
use Rattle.gix_hash.specs.Id.{id_of}
use Rattle.history_files.proofs.TreesKept.{tree_stands}
use Rattle.history_files.proofs.read_trees.ReadTrees.read.Goals as goal

pub returns-in_ok-keep-clause-kept : goal.returns-in_ok-keep-clause-kept
returns-in_ok-keep-clause-kept g c = λ honest kept.
    let table = g.S.Lookup.table c.args.store.now in
    c.in_ok-keep.ensures table kept
    (tree_stands table (id_of c.args.id.now) c.find_into.new.buffer (ap (kind_at table) (sym c.as_oid.ensures) ∙ sym (c.in_ok-find_into.ensures.kind honest) ∙ c.in-Some-Tree.is ∙ ap Some c.in-Some-Tree.field-0-is)
    (c.in_ok-find_into.ensures.content honest ∙ ap (content_at table) c.as_oid.ensures))
