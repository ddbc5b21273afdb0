use Rattle.std.proofs.Common.{map, drop}
use Rattle.std.specs.Prelude.{Result}
use Rattle.gix_object_signature.specs.Run.{Answers}
use Rattle.gix_object_signature.specs.VerifyingSsh.{Tries, question_of, verify_request}
use Rattle.gix_object_signature.specs.declared.run.Answer.{Answer}
use Rattle.gix_object_signature.specs.declared.verify.Error.{Error}
use Rattle.gix_object_signature.proofs.verify.ssh.Keygen.try_each.Given as goal

-- what comes of the names that are left comes of all
abbrev pub invariant-loop-name : goal.invariant-loop-name
invariant-loop-name g l =
    goal.F-IsAlwaysCallable g l.runner
    × ((result : Result Answer Error) (after : g.row.F.Denot)
    → Tries (Answers g.F.FnMut) (verify_request (question_of l.self) l.content) l.runner (map (λ name. name.now) (drop l.name-index l.names)) l.last result after
    → Tries (Answers g.F.FnMut) (verify_request (question_of l.self) l.content) l.initial.runner (map (λ name. name.now) l.names) l.initial.last result after)
