use Rattle.std.proofs.Common.{◌<◌, ap, length, arith}
use Rattle.std.specs.Option.{option_map}
use Rattle.gix_object_lines.specs.Person.{person_of}
use Rattle.gix_object_commit.specs.Tokens.{part_of, place_of}
use Rattle.gix_object_commit.specs.ReadingOn.{signatures_place, actor_told}
use Rattle.gix_object_commit.proofs.Readings.{given_on, given_one}
use Rattle.gix_object_commit.proofs.NoMore.{ok_given, ends_at_end, ends_at_fault, ends_behind_actors, before_actors}
use Rattle.gix_object_commit.proofs.ref_iter.reading_on.SignaturesIterator.next.Goals as goal

pub returns-in_err-next-clause-steps : goal.returns-in_err-next-clause-steps
returns-in_err-next-clause-steps c =
    ends_at_end actor_told (signatures_place c.args.self.now) (place_of c.tokens.self.tokens) (place_of c.next.new.self) c.tokens.invariant.passed (option_map person_of c.from_residual.result) (ap (λ o. option_map person_of o) c.from_residual.ensures) c.in_err-next.ensures.steps

pub returns-in_err-ok-clause-steps : goal.returns-in_err-ok-clause-steps
returns-in_err-ok-clause-steps c =
    ends_at_fault actor_told (signatures_place c.args.self.now) (place_of c.tokens.self.tokens) (place_of c.next.new.self) c.tokens.invariant.passed (option_map person_of c.from_residual-in_err-ok.result) (ap (λ o. option_map person_of o) c.from_residual-in_err-ok.ensures) c.in_ok-next.field-0 c.in_ok-next.ensures.steps c.in_err-ok.ensures.value

pub tokens-preserved : goal.tokens-preserved
tokens-preserved c =
    let ok = ok_given c.in_ok-next.field-0 c.in_ok-ok.field-0 c.in_ok-ok.ensures.value in
    let less : length (place_of c.next.new.self).input < length (place_of c.tokens.self.tokens).input = (c.in_ok-next.ensures.goes.on tt).2 in
    let within = c.tokens.invariant.within in record {
      passed = given_on actor_told (signatures_place c.args.self.now) (place_of c.tokens.self.tokens) (place_of c.next.new.self) c.in_ok-next.field-0 c.in_ok-ok.field-0 c.tokens.invariant.passed c.in_ok-next.ensures.steps ok (before_actors c.in_ok-ok.field-0 c.in-Tree.is);
      within = omega arith;
    }

pub returns-in-Author-clause-steps : goal.returns-in-Author-clause-steps
returns-in-Author-clause-steps c =
    let ok = ok_given c.in_ok-next.field-0 c.in_ok-ok.field-0 c.in_ok-ok.ensures.value in
    given_one actor_told (signatures_place c.args.self.now) (place_of c.tokens.self.tokens) (place_of c.next.new.self) c.in_ok-next.field-0 c.in_ok-ok.field-0 (person_of c.in-Author.author) c.tokens.invariant.passed c.in_ok-next.ensures.steps ok (ap (λ t. actor_told (part_of t)) c.in-Author.is)

pub returns-in-Committer-clause-steps : goal.returns-in-Committer-clause-steps
returns-in-Committer-clause-steps c =
    let ok = ok_given c.in_ok-next.field-0 c.in_ok-ok.field-0 c.in_ok-ok.ensures.value in
    given_one actor_told (signatures_place c.args.self.now) (place_of c.tokens.self.tokens) (place_of c.next.new.self) c.in_ok-next.field-0 c.in_ok-ok.field-0 (person_of c.in-Committer.committer) c.tokens.invariant.passed c.in_ok-next.ensures.steps ok (ap (λ t. actor_told (part_of t)) c.in-Committer.is)

pub returns-in_default-clause-steps : goal.returns-in_default-clause-steps
returns-in_default-clause-steps c =
    let ok = ok_given c.in_ok-next.field-0 c.in_ok-ok.field-0 c.in_ok-ok.ensures.value in
    ends_behind_actors (signatures_place c.args.self.now) (place_of c.tokens.self.tokens) (place_of c.next.new.self) c.in_ok-next.field-0 c.in_ok-ok.field-0 c.tokens.invariant.passed c.in_ok-next.ensures.steps ok c.in_default.not-Tree c.in_default.not-Parent c.in_default.not-Author c.in_default.not-Committer
