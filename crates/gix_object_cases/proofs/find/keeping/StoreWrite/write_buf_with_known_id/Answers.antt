use Rattle.std.proofs.Common.{refl}
use Rattle.gix_object_cases.proofs.Kept.{kept}
use Rattle.case_words.specs.declared.stored.Stored.{Stored}
use Rattle.gix_object_cases.proofs.find.keeping.StoreWrite.write_buf_with_known_id.Goals as goal

pub returns-clause-kept : goal.returns-clause-kept
returns-clause-kept c =
    let stored : Stored = record { id = c.args.id; kind = c.args.object; content = c.in_ok-from_slice.field-0 } in
    (refl, λ _. kept stored c.args.self.now.objects.items c.insert.new.self.items c.args.from.now c.in_ok-insert.ensures.items c.in_ok-from_slice.ensures.items)
