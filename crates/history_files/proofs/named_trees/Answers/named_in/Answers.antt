use Rattle.std.proofs.Common.{◌∙◌, ap, subst, sym}
use Rattle.std.specs.Prelude.{option_map}
use Rattle.gix_hash.specs.Id.{id_of}
use Rattle.history_files.specs.NamedTrees.{HasNamed}
use Rattle.history_files.specs.Reading.{entry_of}
use Rattle.history_files.proofs.TreesKept.{kept_more}
use Rattle.history_files.proofs.named_trees.Answers.named_in.Goals as goal

pub returns-in-Some-clause-found : goal.returns-in-Some-clause-found
returns-in-Some-clause-found g c = λ honest answers among kind files is.
    ap (option_map entry_of) c.found_by.ensures ∙ answers c.args.tree.now c.in-Some.named.now (sym c.in-Some.ensures.value) kind files is c.args.name.now among

pub returns-clause-found : goal.returns-clause-found
returns-clause-found g c = λ honest answers among kind files is.
    let named = subst (λ names. HasNamed (g.S.Lookup.table c.args.store.now) names (id_of c.args.tree.now) c.in_ok-named.named) c.as_slice.ensures.value (c.in_ok-named.ensures.read honest) in
    ap (option_map entry_of) c.found_by-found.ensures ∙ named kind files is c.args.name.now among

pub returns-clause-kept : goal.returns-clause-kept
returns-clause-kept g c = λ honest answers.
    let table = g.S.Lookup.table c.args.store.now in
    let own = c.args.self.now in
    kept_more (λ tree named. HasNamed table own.names.items tree named) own.named c.insert.new.self c.args.tree.now c.in_ok-named.named c.in_ok-insert.ensures.updates
    (subst (λ names. HasNamed table names (id_of c.args.tree.now) c.in_ok-named.named) c.as_slice.ensures.value (c.in_ok-named.ensures.read honest)) answers
