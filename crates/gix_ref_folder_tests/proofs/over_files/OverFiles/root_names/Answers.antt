use Rattle.std.specs.Prelude.{IfOk}
use Rattle.std.proofs.Common.{◌≡◌, ◌++◌, rules}
use Rattle.gix_ref_folder.specs.declared.part.Part.TheVariants.{Objects, Names}
use Rattle.gix_ref_folder_tests.proofs.Own.{root_listed}
use Rattle.gix_ref_folder_tests.proofs.over_files.OverFiles.root_names.Goals as goal

pub returns : goal.returns
returns g c root part honest =
    let all : c.append.new.self.items ≡ c.in_ok-names.names.items ++ c.in_ok-others.others.items = search rules in
    let objects = rw c.in_ok-names.ensures at (c.list.ensures.names (honest.honest Objects)) in
    let names = rw c.in_ok-others.ensures at (c.list-2.ensures.names (honest.honest Names)) in
    root_listed g.F.Files.history c.args.self.now _ _ _ (λ p. g.met.F.Files.rooted _ (honest.honest p)) honest.own all objects names part
