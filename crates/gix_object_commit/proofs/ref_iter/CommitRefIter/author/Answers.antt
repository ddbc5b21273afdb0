use Rattle.std.proofs.Common.{ap}
use Rattle.std.proofs.lemmas.Result.{err_from_is_err_and}
use Rattle.gix_object_lines.specs.declared.decode.Error.TheVariants.{FieldName}
use Rattle.gix_object_lines.specs.Person.{person_of}
use Rattle.gix_object_commit.specs.ReadingOn.{author_told}
use Rattle.gix_object_commit.specs.Tokens.{part_of, place_of}
use Rattle.gix_object_commit.proofs.FirstTold.{none_first, one_first, stops_at_fault, stops_at_end}
use Rattle.gix_object_commit.proofs.Readings.{given_on, given_one, given_fault, no_author}
use Rattle.gix_object_commit.proofs.ref_iter.CommitRefIter.author.Goals as goal

pub returns-in_err-author-clause-refused : goal.returns-in_err-author-clause-refused
returns-in_err-author-clause-refused c =
    let p = err_from_is_err_and c.from_residual.result c.from_residual.ensures.1 in
    given_fault author_told (place_of c.args.self) (place_of c.tokens.token-iterator) (place_of c.next.new.self) c.in-Some.token c.in_err-author.field-0.0 p.0 c.from_residual.result c.tokens.invariant.passed c.in-Some.ensures.steps c.in_err-author.was p.1 p.2

pub returns-in_err-author-clause-every : goal.returns-in_err-author-clause-every
returns-in_err-author-clause-every c = λ value first.
    absurd (none_first author_told (place_of c.args.self) c.in_err-author.field-0.0 value (stops_at_fault author_told (place_of c.args.self) (place_of c.tokens.token-iterator) (place_of c.next.new.self) c.in-Some.token c.in_err-author.field-0.0 c.tokens.invariant.passed c.in-Some.ensures.steps c.in_err-author.was) first)

pub returns-in-Author-clause-read : goal.returns-in-Author-clause-read
returns-in-Author-clause-read c = (
  place_of c.next.new.self,
  given_one author_told (place_of c.args.self) (place_of c.tokens.token-iterator) (place_of c.next.new.self) c.in-Some.token c.in_ok-author.field-0 (person_of c.in-Author.author) c.tokens.invariant.passed c.in-Some.ensures.steps c.in_ok-author.was (ap (λ t. author_told (part_of t)) c.in-Author.is),
)

pub returns-in-Author-clause-every : goal.returns-in-Author-clause-every
returns-in-Author-clause-every c = λ value first.
    let this = given_one author_told (place_of c.args.self) (place_of c.tokens.token-iterator) (place_of c.next.new.self) c.in-Some.token c.in_ok-author.field-0 (person_of c.in-Author.author) c.tokens.invariant.passed c.in-Some.ensures.steps c.in_ok-author.was (ap (λ t. author_told (part_of t)) c.in-Author.is) in
    one_first author_told (place_of c.args.self) (person_of c.in-Author.author) value (place_of c.next.new.self, this) first

pub tokens-preserved : goal.tokens-preserved
tokens-preserved c =
    let none = no_author c.in_ok-author.field-0 c.in_default.not-Author in record {
      can = tt;
      finite = tt;
      passed = given_on author_told (place_of c.args.self) (place_of c.tokens.token-iterator) (place_of c.next.new.self) c.in-Some.token c.in_ok-author.field-0 c.tokens.invariant.passed c.in-Some.ensures.steps c.in_ok-author.was none;
    }

pub returns-clause-every : goal.returns-clause-every
returns-clause-every c = λ value first.
    none_first author_told (place_of c.args.self) FieldName value (stops_at_end author_told (place_of c.args.self) (place_of c.tokens.token-iterator) (place_of c.next.new.self) c.tokens.invariant.passed c.in-None.ensures.steps) first
