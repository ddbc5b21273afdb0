use Rattle.std.proofs.Common.{◌∙◌, ap, false, sym}
use Rattle.std.specs.Prelude.{is_some}
use Rattle.history_model.specs.Places.{file_at}
use Rattle.history_store.specs.Packed.{record_of_name}
use Rattle.history_store.specs.Packing.{kept_hit}
use Rattle.history_store.proofs.NamesPacked.{kept_so, no_file}
use Rattle.history_store.proofs.names.Names.is_packed.Goals as goal

pub returns-clause-packed : goal.returns-clause-packed
returns-clause-packed g c = λ honest is.
    let self = c.args.self.now in
    let tree = (g.F.Files.history self.store.files).tree in
    let e = record_of_name c.args.named.now in
    let away = c.in_ok-is_file.ensures.found honest in (
      no_file tree e.name (ap (λ path. is_some (file_at tree path)) (sym c.to_path.ensures) ∙ sym away ∙ c.if-branch.false),
      kept_so self.packed e.name e (ap (λ name. kept_hit self.packed name) (sym c.as_ref.ensures) ∙ sym c.record.ensures ∙ c.is_record.ensures is),
    )
