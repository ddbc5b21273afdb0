use Rattle.std.proofs.Common.{◌∙◌, ap, sym, length, arith}
use Rattle.std.proofs.lemmas.Option.{slice_get_within}
use Rattle.gix_object_commit.specs.HeaderViews.{fields_in}
use Rattle.gix_object_commit.specs.LineViews.{field_of}
use Rattle.gix_object_commit.proofs.NamedValues.{named_here, named_later, named_nowhere}
use Rattle.gix_object_commit.proofs.extra_headers.FindAllIterator.next.Goals as goal

pub returns-then-is_named-clause-steps : goal.returns-then-is_named-clause-steps
returns-then-is_named-clause-steps c =
    let here = c.loop-header.self in
    sym c.loop-header.invariant ∙ named_here here.name.now (fields_in here.headers) here.place (field_of c.in-Some.header) (sym c.in-Some.ensures.given) (sym c.is_named.ensures ∙ c.if-is_named.true)

pub returns-then-is_named-clause-goes : goal.returns-then-is_named-clause-goes
returns-then-is_named-clause-goes c =
    let one_less = ap length (returns-then-is_named-clause-steps c) in
    record { on = λ finite. (tt, tt, omega arith); keeps = tt; rests = λ finite. tt }

pub loop-header-smaller : goal.loop-header-smaller
loop-header-smaller c =
    let here = c.loop-header.self in
    let within = slice_get_within (fields_in here.headers) here.place (field_of c.in-Some.header) (sym c.in-Some.ensures.given) in
    omega arith

pub loop-header-preserved : goal.loop-header-preserved
loop-header-preserved c =
    let here = c.loop-header.self in
    sym (named_later here.name.now (fields_in here.headers) here.place (field_of c.in-Some.header) (sym c.in-Some.ensures.given) (sym c.is_named.ensures ∙ c.if-is_named.false)) ∙ c.loop-header.invariant

pub returns-clause-steps : goal.returns-clause-steps
returns-clause-steps c =
    let here = c.loop-header.self in
    let none = named_nowhere here.name.now (fields_in here.headers) here.place (sym c.in_default.ensures.given) in
    (sym c.loop-header.invariant ∙ none, none)
