use Rattle.std.proofs.Common.{◌∙◌, ap, map}
use Rattle.std.specs.Prelude.{option_and_then}
use Rattle.gix_hash.specs.Id.{id_of}
use Rattle.gix_object_tree.specs.Entry.{item_of}
use Rattle.gix_object_nodes.specs.Files.{named}
use Rattle.history_files.specs.Reading.{named_by}
use Rattle.history_files.proofs.Read.{same_tree}
use Rattle.history_files.proofs.found.named_in.Goals as goal

pub returns-clause-found : goal.returns-clause-found
returns-clause-found g c = λ honest items stands.
    let found = c.in_ok-entries.entries.items in
    c.named_among.ensures
    ∙ ap (λ entries. option_and_then named_by (named c.args.name.now (map item_of entries))) c.as_slice.ensures.value
    ∙ ap (λ all. option_and_then named_by (named c.args.name.now all))
    (same_tree (g.S.Lookup.table c.args.store.now) (id_of c.args.tree.now) (map item_of found) items (c.in_ok-entries.ensures.read honest) stands)
