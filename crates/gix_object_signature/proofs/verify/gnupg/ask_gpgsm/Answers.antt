use Rattle.gix_object_signature.proofs.verify.gnupg.ask_gpgsm.Goals as goal

pub returns-clause-told : goal.returns-clause-told
returns-clause-told g c =
    record {
      answer = c.run.result;
      answered = simp (c.new.ensures, c.new-2.ensures, c.new-3.ensures, c.new-4.ensures) at c.run.ensures.asked;
      told = c.read_answer.ensures;
    }
