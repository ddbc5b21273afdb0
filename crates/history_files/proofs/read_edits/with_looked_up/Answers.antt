use Rattle.history_files.proofs.read_edits.with_looked_up.Goals as goal

pub returns-in-Err : goal.returns-in-Err
returns-in-Err g c = record {
  kept = λ honest kept. c.new.ensures (g.S.Lookup.table c.args.store.now);
  failed = λ same. let z : ⊥ = cc in absurd z;
}
