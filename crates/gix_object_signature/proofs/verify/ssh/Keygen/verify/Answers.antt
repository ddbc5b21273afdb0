use Rattle.std.proofs.Common.{◌∙◌, ap, map, refl}
use Rattle.gix_object_signature.specs.Run.{Answers, argument_of}
use Rattle.gix_object_signature.proofs.AskingLemmas.{asks_by}
use Rattle.gix_object_signature.proofs.verify.ssh.Keygen.verify.Goals as goal

pub returns-clause-told : goal.returns-clause-told
returns-clause-told g c =
    asks_by (Answers g.F.FnMut) c.args.runner.now c.run.new.runner c.as_slice.result.now _ c.args.content.now c.run.result c.told.result c.run.ensures.asked
    (ap (map argument_of) c.as_slice.ensures.value ∙ c.in_ok-words.ensures
    ∙ rw (c.text.ensures, c.text-2.ensures, c.text-3.ensures, c.text-4.ensures, c.text-5.ensures, c.text-6.ensures, c.text-7.ensures) refl)
    c.told.ensures
