use Rattle.std.proofs.Common.{◌≡◌, ◌∙◌, sym, rules, false, true}
use Rattle.history_model.specs.Forms.{is_name}
use Rattle.history_check_names.specs.Packed.{has_record}
use Rattle.history_check_names.proofs.Told.{kept_record, named_file, record_there, unnamed_file}
use Rattle.history_check_names.proofs.file.name_exists.Goals as goal

pub returns-then-not-is_name-clause-found : goal.returns-then-not-is_name-clause-found
returns-then-not-is_name-clause-found g c = λ kind honest reads. let none : is_name c.args.name.now ≡ false = search rules in unnamed_file kind (g.F.Files.history c.args.files.now).tree c.args.name.now none

pub returns-then-has-clause-found : goal.returns-then-has-clause-found
returns-then-has-clause-found g c = λ kind honest reads.
    let tree = (g.F.Files.history c.args.files.now).tree in
    let named : is_name c.args.name.now ≡ true = search rules in
    let there : has_record kind tree c.args.name.now ≡ true = sym (kept_record kind c.args.packed.now tree c.args.name.now c.has.result c.has.ensures reads) ∙ c.if-has.true in
    record_there kind tree c.args.name.now named there

pub returns-clause-found : goal.returns-clause-found
returns-clause-found g c = λ kind honest reads.
    let tree = (g.F.Files.history c.args.files.now).tree in
    let named : is_name c.args.name.now ≡ true = search rules in
    let lacks : has_record kind tree c.args.name.now ≡ false = sym (kept_record kind c.args.packed.now tree c.args.name.now c.has.result c.has.ensures reads) ∙ c.if-has.false in
    named_file kind tree c.args.name.now c.is_file.result named lacks (c.is_file.ensures.found honest)
