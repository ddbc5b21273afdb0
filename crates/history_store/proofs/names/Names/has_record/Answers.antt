use Rattle.std.proofs.Common.{◌≡◌, ◌∙◌, sym, true, false}
use Rattle.history_layout.proofs.FullNames.{full_of}
use Rattle.history_store.proofs.names.Names.has_record.Goals as goal

pub returns-in-Err : goal.returns-in-Err
returns-in-Err g c = λ named. let wrong : true ≡ false = sym (full_of c.args.name.now named) ∙ c.in-Err.ensures in cc wrong
