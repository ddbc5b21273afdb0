use Rattle.gix_ref_store.proofs.NameSets.{put_keeps, put_only, put_there, put_known}
use Rattle.gix_ref_store.specs.Stores.{base_of}
use Rattle.gix_ref_store.proofs.store.file.walk.Walk.keep.Goals as goal

pub returns-clause-kept : goal.returns-clause-kept
returns-clause-kept g c = put_keeps c.args.names.now.entries c.insert.new.self.entries c.args.name c.in_ok-own.own c.in_ok-insert.ensures.updates.0

pub returns-clause-only : goal.returns-clause-only
returns-clause-only g c = put_only c.args.names.now.entries c.insert.new.self.entries c.args.name c.in_ok-own.own c.in_ok-insert.ensures.updates.0

pub returns-clause-there : goal.returns-clause-there
returns-clause-there g c = put_there c.args.names.now.entries c.insert.new.self.entries c.args.name c.in_ok-own.own c.in_ok-insert.ensures.updates.0

pub returns-clause-told : goal.returns-clause-told
returns-clause-told g c = λ honest knows.
    let tree = (g.F.Files.history c.args.self.now.store.now.files).tree in
    put_known c.args.names.now.entries c.insert.new.self.entries c.args.name c.in_ok-own.own c.in_ok-insert.ensures.updates.0 (base_of c.args.self.now.store.now) tree c.in_ok-own.ensures.full (c.in_ok-own.ensures.told honest) knows
