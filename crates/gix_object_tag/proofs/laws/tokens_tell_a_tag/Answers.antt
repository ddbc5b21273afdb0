use Rattle.std.proofs.Common.{◌≡◌, ◌∙◌, ap, sym, subst, refl, Bool, true, false, ◌||◌, [], ◌∷◌, ◌++◌}
use Rattle.gix_object_tag.specs.Tokens.{Part, part_of, place_of, start, Place, IsPartAt, IsNext}
use Rattle.gix_object_tag.specs.Whole.{tells_name}
use Rattle.gix_object_tag.proofs.Left.{IsFrom, is_named, tag_to, has_part, step_on, named_on, end_named}
use Rattle.gix_object_tag.proofs.Readings.{reads_more}
use Rattle.gix_object_tag.proofs.WholeReadings.{reads_named, is_tag, is_read}
use Rattle.gix_object_tag.proofs.laws.tokens_tell_a_tag.Goals as goal

still : (named tells : Bool) → named ≡ true → named ≡ (named || tells)
still true tells e = refl
still false tells e = absurd cc

now : (named tells later : Bool) → named ≡ false → later ≡ tells → later ≡ (named || tells)
now true tells later e is = absurd cc
now false tells later e is = is

-- whether the name has come, after a step
named_behind : (here next : Place) (part : Part) (named later : Bool) → IsNext here part next → named ≡ is_named here.stage → later ≡ (named || tells_name part) → later ≡ is_named next.stage
named_behind here next part named later step is told =
    told ∙ ap (λ n. n || tells_name part) is ∙ named_on here.kind here.stage here.input part next.input step.1 ∙ ap is_named (sym step.2)

-- what is left of a tag after a step
on_behind : (kind : _) (here next : Place) (part : Part) → here.kind ≡ kind → IsNext here part next → IsFrom kind here.stage here.input → IsFrom kind next.stage next.input
on_behind kind here next part same step from =
    subst (λ s. IsFrom kind s next.input) (sym step.2)
    (step_on kind here.stage here.input part next.input (subst (λ k. IsPartAt k here.stage here.input part next.input) same step.1) from)

pub tokens-init : goal.tokens-init
tokens-init c =
    let e = c.from_bytes-tokens.ensures in
    let kind = c.args.hash_kind in
    let input = c.args.input.now in
    record {
      kind = ap (λ (p : Place). p.kind) e;
      on = λ is. subst (λ (p : Place). IsFrom kind p.stage p.input) (sym e) (tag_to kind input is);
      read = ([], sym e);
      named = sym (ap (λ (p : Place). is_named p.stage) e);
    }

pub tokens-preserved-then-named : goal.tokens-preserved-then-named
tokens-preserved-then-named c =
    let i = c.tokens.invariant in
    let kind = c.args.hash_kind in
    let here = place_of c.tokens.tokens in
    let next = place_of c.next.new.self in
    let part = part_of c.in-Ok.token in
    let step = rw c.in-Ok.is at c.in-Some.ensures.steps in
    record {
      kind = step.3 ∙ i.kind;
      on = λ is. on_behind kind here next part i.kind step (i.on is);
      read = (i.read.0 ++ part ∷ [], reads_more (start kind c.args.input.now) here next i.read.0 part i.read.1 step);
      named = named_behind here next part c.tokens.named c.tokens.named step i.named (still c.tokens.named (tells_name part) c.if-named.true);
    }

pub tokens-preserved : goal.tokens-preserved
tokens-preserved c =
    let i = c.tokens.invariant in
    let kind = c.args.hash_kind in
    let here = place_of c.tokens.tokens in
    let next = place_of c.next.new.self in
    let part = part_of c.in-Ok.token in
    let step = rw c.in-Ok.is at c.in-Some.ensures.steps in
    record {
      kind = step.3 ∙ i.kind;
      on = λ is. on_behind kind here next part i.kind step (i.on is);
      read = (i.read.0 ++ part ∷ [], reads_more (start kind c.args.input.now) here next i.read.0 part i.read.1 step);
      named = named_behind here next part c.tokens.named c.is_name-named.result step i.named (now c.tokens.named (tells_name part) c.is_name-named.result c.if-named.false c.is_name-named.ensures);
    }

pub returns-in-Err-clause-reader : goal.returns-in-Err-clause-reader
returns-in-Err-clause-reader c =
    let i = c.tokens.invariant in
    let kind = c.args.hash_kind in
    let here = place_of c.tokens.tokens in
    let step = rw c.in-Err.is at c.in-Some.ensures.steps in (
      λ is. let part = has_part kind here.stage here.input (i.on is) in absurd (step.0.1 part.0 part.1 (subst (λ k. IsPartAt k here.stage here.input part.0 part.1) (sym i.kind) part.2)),
      is_tag kind c.args.input.now,
    )

pub returns-in-Err-clause-answer : goal.returns-in-Err-clause-answer
returns-in-Err-clause-answer c =
    let i = c.tokens.invariant in
    let here = place_of c.tokens.tokens in
    let step = rw c.in-Err.is at c.in-Some.ensures.steps in (
      λ e. absurd cc,
      λ is. let part = has_part c.args.hash_kind here.stage here.input (i.on is) in absurd (step.0.1 part.0 part.1 (subst (λ k. IsPartAt k here.stage here.input part.0 part.1) (sym i.kind) part.2)),
    )

pub returns-clause-reader : goal.returns-clause-reader
returns-clause-reader c =
    let i = c.tokens.invariant in
    let kind = c.args.hash_kind in (
      λ is. is_read kind c.args.input.now (place_of c.tokens.tokens) i.read.0 i.read.1 c.in_default.ensures.steps.0 (i.on is),
      is_tag kind c.args.input.now,
    )

pub returns-clause-answer : goal.returns-clause-answer
returns-clause-answer c =
    let i = c.tokens.invariant in
    let kind = c.args.hash_kind in
    let input = c.args.input.now in
    let there = place_of c.tokens.tokens in
    let none = c.in_default.ensures.steps.0 in (
      λ e. is_tag kind input (i.read.0, there, i.read.1, none, reads_named (start kind input) there i.read.0 i.read.1 ∙ sym i.named ∙ e),
      λ is. i.named ∙ end_named kind there.stage (subst (λ t. IsFrom kind there.stage t) none (i.on is)),
    )
