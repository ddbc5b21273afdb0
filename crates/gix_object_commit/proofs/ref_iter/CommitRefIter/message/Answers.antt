use Rattle.std.proofs.Common.{ap}
use Rattle.std.proofs.lemmas.Result.{err_from_is_err_and}
use Rattle.gix_object_lines.specs.declared.decode.Error.TheVariants.{FieldName}
use Rattle.gix_object_commit.specs.ReadingOn.{message_told}
use Rattle.gix_object_commit.specs.Tokens.{part_of, place_of}
use Rattle.bstr.specs.BStr.{bstr_bytes}
use Rattle.gix_object_commit.proofs.FirstTold.{none_first, one_first, stops_at_fault, stops_at_end}
use Rattle.gix_object_commit.proofs.Readings.{given_on, given_one, given_fault, no_message}
use Rattle.gix_object_commit.proofs.ref_iter.CommitRefIter.message.Goals as goal

pub returns-in_err-message-clause-refused : goal.returns-in_err-message-clause-refused
returns-in_err-message-clause-refused c =
    let p = err_from_is_err_and c.from_residual.result c.from_residual.ensures.1 in
    given_fault message_told (place_of c.args.self) (place_of c.tokens.token-iterator) (place_of c.next.new.self) c.in-Some.token c.in_err-message.field-0.0 p.0 c.from_residual.result c.tokens.invariant.passed c.in-Some.ensures.steps c.in_err-message.was p.1 p.2

pub returns-in_err-message-clause-every : goal.returns-in_err-message-clause-every
returns-in_err-message-clause-every c = λ value first.
    absurd (none_first message_told (place_of c.args.self) c.in_err-message.field-0.0 value (stops_at_fault message_told (place_of c.args.self) (place_of c.tokens.token-iterator) (place_of c.next.new.self) c.in-Some.token c.in_err-message.field-0.0 c.tokens.invariant.passed c.in-Some.ensures.steps c.in_err-message.was) first)

pub returns-in-Message-clause-read : goal.returns-in-Message-clause-read
returns-in-Message-clause-read c = (
  place_of c.next.new.self,
  given_one message_told (place_of c.args.self) (place_of c.tokens.token-iterator) (place_of c.next.new.self) c.in-Some.token c.in_ok-message.field-0 (bstr_bytes c.in-Message.message) c.tokens.invariant.passed c.in-Some.ensures.steps c.in_ok-message.was (ap (λ t. message_told (part_of t)) c.in-Message.is),
)

pub returns-in-Message-clause-every : goal.returns-in-Message-clause-every
returns-in-Message-clause-every c = λ value first.
    let this = given_one message_told (place_of c.args.self) (place_of c.tokens.token-iterator) (place_of c.next.new.self) c.in-Some.token c.in_ok-message.field-0 (bstr_bytes c.in-Message.message) c.tokens.invariant.passed c.in-Some.ensures.steps c.in_ok-message.was (ap (λ t. message_told (part_of t)) c.in-Message.is) in
    one_first message_told (place_of c.args.self) (bstr_bytes c.in-Message.message) value (place_of c.next.new.self, this) first

pub tokens-preserved : goal.tokens-preserved
tokens-preserved c =
    let none = no_message c.in_ok-message.field-0 c.in_default.not-Message in record {
      can = tt;
      finite = tt;
      passed = given_on message_told (place_of c.args.self) (place_of c.tokens.token-iterator) (place_of c.next.new.self) c.in-Some.token c.in_ok-message.field-0 c.tokens.invariant.passed c.in-Some.ensures.steps c.in_ok-message.was none;
    }

pub returns-clause-every : goal.returns-clause-every
returns-clause-every c = λ value first.
    none_first message_told (place_of c.args.self) FieldName value (stops_at_end message_told (place_of c.args.self) (place_of c.tokens.token-iterator) (place_of c.next.new.self) c.tokens.invariant.passed c.in-None.ensures.steps) first
