use Rattle.std.proofs.Common.{◌∙◌, sym, refl}
use Rattle.gix_ref_store.specs.declared.store.file.own.OwnFile.TheVariants.{Missing}
use Rattle.gix_ref_store.proofs.NameSets.{has_found, missing_none, none_found, put_keeps, put_missing, put_only, put_there}
use Rattle.gix_ref_store.proofs.store.file.gather.put_recorded.Goals as goal

pub returns-then-contains_key-clause-there : goal.returns-then-contains_key-clause-there
returns-then-contains_key-clause-there c = has_found c.args.names.now.entries c.args.name ∙ sym c.contains_key.ensures ∙ c.if-contains_key.true

pub returns-then-contains_key-clause-missing : goal.returns-then-contains_key-clause-missing
returns-then-contains_key-clause-missing c = λ full. missing_none c.args.names.now.entries

pub returns-clause-kept : goal.returns-clause-kept
returns-clause-kept c = put_keeps c.args.names.now.entries c.insert.new.self.entries c.args.name Missing c.in_ok-insert.ensures.updates.0

pub returns-clause-only : goal.returns-clause-only
returns-clause-only c = put_only c.args.names.now.entries c.insert.new.self.entries c.args.name Missing c.in_ok-insert.ensures.updates.0

pub returns-clause-there : goal.returns-clause-there
returns-clause-there c = put_there c.args.names.now.entries c.insert.new.self.entries c.args.name Missing c.in_ok-insert.ensures.updates.0

pub returns-clause-missing : goal.returns-clause-missing
returns-clause-missing c = λ full.
    put_missing c.args.names.now.entries c.insert.new.self.entries c.args.name Missing c.in_ok-insert.ensures.updates.0 full refl (none_found _ (sym c.contains_key.ensures ∙ c.if-contains_key.false))
