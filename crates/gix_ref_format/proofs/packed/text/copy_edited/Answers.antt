use Rattle.std.proofs.Common.{◌∙◌, List, ℕ, subst}
use Rattle.std.specs.Option.{option_to_list}
use Rattle.gix_ref_format.specs.Edited.{line_of}
use Rattle.gix_ref_format.specs.PackedBuffer.{entry_records}
use Rattle.gix_ref_format.specs.PackedText.{IsAround}
use Rattle.gix_ref_format.proofs.MergeLemmas.{copied}
use Rattle.gix_ref_format.proofs.packed.text.copy_edited.Goals as goal

pub returns : goal.returns
returns c =
    let front = c.around.result.0 in
    let back = c.around.result.1 in
    record {
      front = entry_records front.entries.now;
      around = subst (λ (name : List ℕ). IsAround name (entry_records c.args.before.entries.now) (entry_records front.entries.now) (entry_records back.entries.now))
          (c.to_path.ensures ∙ c.name.ensures) c.around.ensures;
      text = copied c.args.text.now.items c.extend_from_slice.new.self.items c.write_line.new.text.items front.text.now (entry_records front.entries.now)
          (option_to_list (line_of c.args.line.now).says) c.in_ok-extend_from_slice.ensures.items front.lines c.in_ok-write_line.ensures.text;
      stands = c.write_line.ensures.stands;
    }
