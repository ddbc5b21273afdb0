use Rattle.std.proofs.Common.{◌∙◌, sym, subst}
use Rattle.gix_object_lines.specs.Actor.{SpellsActor}
use Rattle.gix_object_lines.proofs.CutLemmas.{lacks_it}
use Rattle.gix_object_lines.specs.Person.{actor_line}
use Rattle.std.proofs.lemmas.Result.{err_from_is_err_and}
use Rattle.gix_object_commit.proofs.FaultLemmas.{actor_fault}
use Rattle.gix_object_commit.proofs.Lines.{line_shape, behind_same, actor_cut, person_same}
use Rattle.gix_object_commit.proofs.person.read_person.Goals as goal

pub returns-in_err-text-2-clause-every : goal.returns-in_err-text-2-clause-every
returns-in_err-text-2-clause-every c = λ person rest is whole.
    let word = rw c.in_ok-text.ensures.ok_part at c.strip_word.ensures in
    let behind = behind_same _ _ _ _ word (whole ∙ line_shape c.args.word.now (actor_line person) rest) in
    let none = rw c.in_err-text-2.ensures.ok_part at c.split_once.ensures in
    absurd (lacks_it 10 _ (actor_line person) rest behind none)

pub returns-in_err-actor-clause-every : goal.returns-in_err-actor-clause-every
returns-in_err-actor-clause-every c = λ person rest is whole.
    let word = rw c.in_ok-text.ensures.ok_part at c.strip_word.ensures in
    let behind = behind_same _ _ _ _ word (whole ∙ line_shape c.args.word.now (actor_line person) rest) in
    let cut = rw c.in_ok-text-2.ensures.ok_part at c.split_once.ensures in
    let same = actor_cut _ _ rest _ person is cut.1 cut.0 behind in
    absurd (c.in_err-actor.ensures.every person.name person.email person.time (subst (λ t. SpellsActor t person.name person.email person.time) (sym same.0) is))

pub returns-in_err-actor-clause-refused : goal.returns-in_err-actor-clause-refused
returns-in_err-actor-clause-refused c =
    let p = err_from_is_err_and c.from_residual-in_err-actor.result c.from_residual-in_err-actor.ensures.1 in
    let word = rw c.in_ok-text.ensures.ok_part at c.strip_word.ensures in
    let cut = rw c.in_ok-text-2.ensures.ok_part at c.split_once.ensures in
    rw (p.1, p.2) (actor_fault c.args.word.now c.args.input.now _ _ _ _ word cut.0 cut.1 c.in_err-actor.ensures.refused)

pub returns-clause-every : goal.returns-clause-every
returns-clause-every c = λ person rest is whole.
    let word = rw c.in_ok-text.ensures.ok_part at c.strip_word.ensures in
    let behind = behind_same _ _ _ _ word (whole ∙ line_shape c.args.word.now (actor_line person) rest) in
    let cut = rw c.in_ok-text-2.ensures.ok_part at c.split_once.ensures in
    let same = actor_cut _ _ rest _ person is cut.1 cut.0 behind in
    let parts = c.in_ok-actor.ensures.every person.name person.email person.time (subst (λ t. SpellsActor t person.name person.email person.time) (sym same.0) is) in
    (person_same _ person parts.0 parts.1 parts.2, same.1)
