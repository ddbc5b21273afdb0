use Rattle.std.proofs.Common.{Some, subst}
use Rattle.std.specs.Io.KnownBytes.{Consumes, Appends}
use Rattle.history_model.specs.Repository.{fresh}
use Rattle.history_repository.specs.Face.{has_failed}
use Rattle.history.proofs.Answering.{answered, given, none_failed}
use Rattle.history.proofs.in_memory.answer.answer_stream.Goals as goal

pub returns-clause-answers : goal.returns-clause-answers
returns-clause-answers c =
    let made = c.in_ok-repository.ensures in
    let ran = c.in_ok-end.ensures.runs (fresh c.args.kind) made.unfailed made.stands in
    let left = Some c.run.new.reader.rest.now in
    let contents = Some c.run.new.writer.bytes.items in
    answered c.args.kind c.args.input.now left contents c.in_ok-end.end (has_failed c.run.new.repository) ran.commands ran.replies ran.read ran.written ran.new _ none_failed
    (subst (λ old. Consumes old left ran.read) c.new-reader.ensures.left ran.reads) (subst (λ old. Appends old contents ran.written) c.new-written.ensures.contents ran.writes) ran.ends

pub returns-clause-meant : goal.returns-clause-meant
returns-clause-meant c = λ output meant. given c.args.kind c.args.input.now output (Some c.run.new.writer.bytes.items) c.in_ok-end.end meant (returns-clause-answers c)
