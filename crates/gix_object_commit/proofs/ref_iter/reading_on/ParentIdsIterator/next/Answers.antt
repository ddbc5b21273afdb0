use Rattle.std.proofs.Common.{◌<◌, ap, length, arith}
use Rattle.std.specs.Option.{option_map}
use Rattle.gix_hash.specs.Id.{id_of}
use Rattle.gix_object_commit.specs.Tokens.{part_of, place_of}
use Rattle.gix_object_commit.specs.ReadingOn.{ids_place, parent_told}
use Rattle.gix_object_commit.proofs.Readings.{given_on, given_one}
use Rattle.gix_object_commit.proofs.NoMore.{ok_given, ends_at_end, ends_at_fault, ends_behind_parents}
use Rattle.gix_object_commit.proofs.ref_iter.reading_on.ParentIdsIterator.next.Goals as goal

pub returns-in_err-next-clause-steps : goal.returns-in_err-next-clause-steps
returns-in_err-next-clause-steps c =
    ends_at_end parent_told (ids_place c.args.self.now) (place_of c.tokens.self.tokens) (place_of c.next.new.self) c.tokens.invariant.passed (option_map id_of c.from_residual.result) (ap (λ o. option_map id_of o) c.from_residual.ensures) c.in_err-next.ensures.steps

pub returns-in_err-ok-clause-steps : goal.returns-in_err-ok-clause-steps
returns-in_err-ok-clause-steps c =
    ends_at_fault parent_told (ids_place c.args.self.now) (place_of c.tokens.self.tokens) (place_of c.next.new.self) c.tokens.invariant.passed (option_map id_of c.from_residual-in_err-ok.result) (ap (λ o. option_map id_of o) c.from_residual-in_err-ok.ensures) c.in_ok-next.field-0 c.in_ok-next.ensures.steps c.in_err-ok.ensures.value

pub tokens-preserved : goal.tokens-preserved
tokens-preserved c =
    let ok = ok_given c.in_ok-next.field-0 c.in_ok-ok.field-0 c.in_ok-ok.ensures.value in
    let less : length (place_of c.next.new.self).input < length (place_of c.tokens.self.tokens).input = (c.in_ok-next.ensures.goes.on tt).2 in
    let within = c.tokens.invariant.within in record {
      passed = given_on parent_told (ids_place c.args.self.now) (place_of c.tokens.self.tokens) (place_of c.next.new.self) c.in_ok-next.field-0 c.in_ok-ok.field-0 c.tokens.invariant.passed c.in_ok-next.ensures.steps ok (ap (λ t. parent_told (part_of t)) c.in-Tree.is);
      within = omega arith;
    }

pub returns-in-Parent-clause-steps : goal.returns-in-Parent-clause-steps
returns-in-Parent-clause-steps c =
    let ok = ok_given c.in_ok-next.field-0 c.in_ok-ok.field-0 c.in_ok-ok.ensures.value in
    given_one parent_told (ids_place c.args.self.now) (place_of c.tokens.self.tokens) (place_of c.next.new.self) c.in_ok-next.field-0 c.in_ok-ok.field-0 (id_of c.in-Parent.id) c.tokens.invariant.passed c.in_ok-next.ensures.steps ok (ap (λ t. parent_told (part_of t)) c.in-Parent.is)

pub returns-in_default-clause-steps : goal.returns-in_default-clause-steps
returns-in_default-clause-steps c =
    let ok = ok_given c.in_ok-next.field-0 c.in_ok-ok.field-0 c.in_ok-ok.ensures.value in
    ends_behind_parents (ids_place c.args.self.now) (place_of c.tokens.self.tokens) (place_of c.next.new.self) c.in_ok-next.field-0 c.in_ok-ok.field-0 c.tokens.invariant.passed c.in_ok-next.ensures.steps ok c.in_default.not-Tree c.in_default.not-Parent
