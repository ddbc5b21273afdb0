use Rattle.gix_ref_file.proofs.Others.{append_read, shorten_read, rename_read, rename_gone}
use Rattle.gix_ref_file.proofs.Trees.{bytes_at_inserted}
use Rattle.gix_ref_file.proofs.laws.changes_are_read.Goals as goal

pub returns-clause-written : goal.returns-clause-written
returns-clause-written c tree path bytes may = bytes_at_inserted tree path bytes may

pub returns-clause-appended : goal.returns-clause-appended
returns-clause-appended c = append_read

pub returns-clause-shortened : goal.returns-clause-shortened
returns-clause-shortened c = shorten_read

pub returns-clause-renamed : goal.returns-clause-renamed
returns-clause-renamed c = rename_read

pub returns-clause-moved : goal.returns-clause-moved
returns-clause-moved c = rename_gone
