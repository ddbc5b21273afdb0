use Rattle.std.proofs.Common.{◌∙◌, ap, map, codes, ◌∷◌, []}
use Rattle.std.proofs.lemmas.List.{append-nil}
use Rattle.bstr.specs.BStr.{bstr_bytes}
use Rattle.gix_object_signature.specs.Run.{Answers, Plain, File, argument_of}
use Rattle.gix_object_signature.specs.VerifyingSsh.{path_of, time_words}
use Rattle.gix_object_signature.proofs.AskingLemmas.{asks_by}
use Rattle.gix_object_signature.proofs.verify.ssh.Keygen.find_principals.Goals as goal

pub returns-clause-told : goal.returns-clause-told
returns-clause-told g c =
    let self = c.args.self.now in
    asks_by (Answers g.F.FnMut) c.args.runner.now c.run.new.runner c.as_slice.result.now _ [] c.run.result c.told.result c.run.ensures.asked
    (ap (map argument_of) c.as_slice.ensures.value ∙ c.in_ok-words.ensures
    ∙ rw (c.text.ensures, c.text-2.ensures, c.text-3.ensures)
    (ap (λ tail. Plain (bstr_bytes self.program) ∷ Plain (codes "-Y") ∷ Plain (codes "find-principals") ∷ Plain (codes "-f") ∷ Plain (bstr_bytes self.allowed) ∷ Plain (codes "-s") ∷ File (bstr_bytes self.signature) ∷ tail)
    (append-nil (time_words (path_of self.time)))))
    c.told.ensures
