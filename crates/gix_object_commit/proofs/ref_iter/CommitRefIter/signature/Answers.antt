use Rattle.std.proofs.Common.{◌∙◌, ap, subst, Some, None, cond}
use Rattle.std.proofs.lemmas.Result.{err_from_is_err_and}
use Rattle.bstr.specs.BStr.{bstr_bytes}
use Rattle.gix_object_lines.specs.declared.decode.Error.TheVariants.{FieldName}
use Rattle.gix_object_commit.specs.SignedCommit.{signature_told}
use Rattle.gix_object_commit.specs.Tokens.{part_of, place_of, start, GivesToken}
use Rattle.gix_object_commit.specs.LineViews.{field_of}
use Rattle.gix_object_commit.proofs.FirstTold.{stops_at_fault, stops_at_end}
use Rattle.gix_object_commit.proofs.Readings.{given_on, given_one, given_fault}
use Rattle.gix_object_commit.proofs.FirstSignature.{gives_token, gives_none, before_actors, before_headers, told_by_name, named_so, front_more, finds_once, none_found, signed_here}
use Rattle.gix_object_commit.proofs.ref_iter.CommitRefIter.signature.Goals as goal

pub returns-in_err-ok_or-clause-every : goal.returns-in_err-ok_or-clause-every
returns-in_err-ok_or-clause-every c = λ found is.
    let here = start c.args.hash_kind c.args.input.now in
    let gives = gives_none (place_of c.tokens.tokens) (place_of c.next.new.self) c.next.result c.ok_or.result c.in_err-ok_or.field-0.0 c.next.ensures.steps c.ok_or.ensures.value c.in_err-ok_or.was in
    absurd (none_found c.args.hash_kind c.args.input.now FieldName found (stops_at_end (signature_told c.args.hash_kind) here (place_of c.tokens.tokens) (place_of c.next.new.self) c.tokens.invariant.passed gives) is)

pub returns-in_err-branch-clause-every : goal.returns-in_err-branch-clause-every
returns-in_err-branch-clause-every c = λ found is.
    let here = start c.args.hash_kind c.args.input.now in
    let gives = gives_token (place_of c.tokens.tokens) (place_of c.next.new.self) c.next.result c.ok_or.result c.in_ok-ok_or.field-0 c.next.ensures.steps c.ok_or.ensures.value c.in_ok-ok_or.was in
    absurd (none_found c.args.hash_kind c.args.input.now c.in_err-branch.field-0.0 found (stops_at_fault (signature_told c.args.hash_kind) here (place_of c.tokens.tokens) (place_of c.next.new.self) c.in_ok-ok_or.field-0 c.in_err-branch.field-0.0 c.tokens.invariant.passed gives c.in_err-branch.was) is)

pub returns-in_err-branch-clause-refused : goal.returns-in_err-branch-clause-refused
returns-in_err-branch-clause-refused c =
    let here = start c.args.hash_kind c.args.input.now in
    let gives = gives_token (place_of c.tokens.tokens) (place_of c.next.new.self) c.next.result c.ok_or.result c.in_ok-ok_or.field-0 c.next.ensures.steps c.ok_or.ensures.value c.in_ok-ok_or.was in
    let p = err_from_is_err_and c.from_residual-in_err-branch.result c.from_residual-in_err-branch.ensures.1 in
    given_fault (signature_told c.args.hash_kind) here (place_of c.tokens.tokens) (place_of c.next.new.self) c.in_ok-ok_or.field-0 c.in_err-branch.field-0.0 p.0 c.from_residual-in_err-branch.result c.tokens.invariant.passed gives c.in_err-branch.was p.1 p.2

pub tokens-preserved-in-Tree : goal.tokens-preserved-in-Tree
tokens-preserved-in-Tree c =
    let here = start c.args.hash_kind c.args.input.now in
    let gives = gives_token (place_of c.tokens.tokens) (place_of c.next.new.self) c.next.result c.ok_or.result c.in_ok-ok_or.field-0 c.next.ensures.steps c.ok_or.ensures.value c.in_ok-ok_or.was in record {
      can = tt;
      finite = tt;
      passed = given_on (signature_told c.args.hash_kind) here (place_of c.tokens.tokens) (place_of c.next.new.self) c.in_ok-ok_or.field-0 c.in_ok-branch.field-0 c.tokens.invariant.passed gives c.in_ok-branch.was (before_actors c.args.hash_kind c.in_ok-branch.field-0 c.in-Tree.is);
      front = front_more c.args.input.now (place_of c.tokens.tokens) (place_of c.next.new.self) c.in_ok-branch.field-0 c.tokens.invariant.front (subst (λ g. GivesToken (place_of c.tokens.tokens) (Some g) (place_of c.next.new.self)) c.in_ok-branch.was gives);
    }

pub tokens-preserved-in-Committer : goal.tokens-preserved-in-Committer
tokens-preserved-in-Committer c =
    let here = start c.args.hash_kind c.args.input.now in
    let gives = gives_token (place_of c.tokens.tokens) (place_of c.next.new.self) c.next.result c.ok_or.result c.in_ok-ok_or.field-0 c.next.ensures.steps c.ok_or.ensures.value c.in_ok-ok_or.was in record {
      can = tt;
      finite = tt;
      passed = given_on (signature_told c.args.hash_kind) here (place_of c.tokens.tokens) (place_of c.next.new.self) c.in_ok-ok_or.field-0 c.in_ok-branch.field-0 c.tokens.invariant.passed gives c.in_ok-branch.was (before_headers c.args.hash_kind c.in_ok-branch.field-0 c.in-Committer.is);
      front = front_more c.args.input.now (place_of c.tokens.tokens) (place_of c.next.new.self) c.in_ok-branch.field-0 c.tokens.invariant.front (subst (λ g. GivesToken (place_of c.tokens.tokens) (Some g) (place_of c.next.new.self)) c.in_ok-branch.was gives);
    }

pub returns-then-is_named-clause-read : goal.returns-then-is_named-clause-read
returns-then-is_named-clause-read c =
    let gives = gives_token (place_of c.tokens.tokens) (place_of c.next.new.self) c.next.result c.ok_or.result c.in_ok-ok_or.field-0 c.next.ensures.steps c.ok_or.ensures.value c.in_ok-ok_or.was in
    let same = c.as_bytes-name.ensures.value ∙ c.signature_field_name.ensures in
    let named = named_so c.args.hash_kind c.as_bytes-name.result.now (field_of c.in-ExtraHeader.header) c.is_named.result same c.is_named.ensures c.if-is_named.true in
    signed_here c.args.hash_kind c.args.input.now (place_of c.tokens.tokens) (place_of c.next.new.self) c.in_ok-ok_or.field-0 c.in_ok-branch.field-0 c.in-ExtraHeader.header (bstr_bytes c.new.result) (bstr_bytes c.new-then-is_named.result)
    c.tokens.invariant.passed c.tokens.invariant.front gives c.in_ok-branch.was c.in-ExtraHeader.is named c.new.ensures c.new-then-is_named.ensures

pub returns-then-is_named-clause-every : goal.returns-then-is_named-clause-every
returns-then-is_named-clause-every c = λ found is. finds_once c.args.hash_kind c.args.input.now (Some _) found (returns-then-is_named-clause-read c) is

pub tokens-preserved : goal.tokens-preserved
tokens-preserved c =
    let here = start c.args.hash_kind c.args.input.now in
    let gives = gives_token (place_of c.tokens.tokens) (place_of c.next.new.self) c.next.result c.ok_or.result c.in_ok-ok_or.field-0 c.next.ensures.steps c.ok_or.ensures.value c.in_ok-ok_or.was in
    let same = c.as_bytes-name.ensures.value ∙ c.signature_field_name.ensures in
    let none = ap (λ t. signature_told c.args.hash_kind (part_of t)) c.in-ExtraHeader.is ∙ told_by_name c.args.hash_kind c.as_bytes-name.result.now (field_of c.in-ExtraHeader.header) c.is_named.result same c.is_named.ensures ∙ ap (λ t. cond t (Some (Some (field_of c.in-ExtraHeader.header))) None) c.if-is_named.false in record {
      can = tt;
      finite = tt;
      passed = given_on (signature_told c.args.hash_kind) here (place_of c.tokens.tokens) (place_of c.next.new.self) c.in_ok-ok_or.field-0 c.in_ok-branch.field-0 c.tokens.invariant.passed gives c.in_ok-branch.was none;
      front = front_more c.args.input.now (place_of c.tokens.tokens) (place_of c.next.new.self) c.in_ok-branch.field-0 c.tokens.invariant.front (subst (λ g. GivesToken (place_of c.tokens.tokens) (Some g) (place_of c.next.new.self)) c.in_ok-branch.was gives);
    }

pub returns-in-Message-clause-read : goal.returns-in-Message-clause-read
returns-in-Message-clause-read c =
    let here = start c.args.hash_kind c.args.input.now in
    let gives = gives_token (place_of c.tokens.tokens) (place_of c.next.new.self) c.next.result c.ok_or.result c.in_ok-ok_or.field-0 c.next.ensures.steps c.ok_or.ensures.value c.in_ok-ok_or.was in (
      place_of c.next.new.self,
      given_one (signature_told c.args.hash_kind) here (place_of c.tokens.tokens) (place_of c.next.new.self) c.in_ok-ok_or.field-0 c.in_ok-branch.field-0 None c.tokens.invariant.passed gives c.in_ok-branch.was (ap (λ t. signature_told c.args.hash_kind (part_of t)) c.in-Message.is),
    )

pub returns-in-Message-clause-every : goal.returns-in-Message-clause-every
returns-in-Message-clause-every c = λ found is. finds_once c.args.hash_kind c.args.input.now None found (returns-in-Message-clause-read c) is
