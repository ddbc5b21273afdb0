use Rattle.history_store.proofs.objects.Objects.open.Goals as goal

pub returns-in-Ok-clause-whole : goal.returns-in-Ok-clause-whole
returns-in-Ok-clause-whole g c = λ honest. (c.in-Ok.ensures.whole honest).opened
