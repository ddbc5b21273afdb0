use Rattle.gix_ref_name.specs.Names.{name_of}
use Rattle.gix_ref_format.proofs.WrittenLemmas.{name_reads}
use Rattle.gix_ref_format.proofs.laws.written_name_is_read.Goals as goal

pub returns : goal.returns
returns c = name_reads c.args.kind (name_of c.args.name) c.args.name.full
