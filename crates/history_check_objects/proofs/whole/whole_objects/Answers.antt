use Rattle.history_check_objects.proofs.whole.whole_objects.Goals as goal

pub returns-clause-whole : goal.returns-clause-whole
returns-clause-whole g c = λ honest. c.in_ok-stored.ensures.whole honest (c.in_ok-ids.ensures.listed honest)
