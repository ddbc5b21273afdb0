use Rattle.std.proofs.Common.{◌∙◌, ap, sym, subst, false}
use Rattle.gix_object_commit.specs.Tokens.{IsPartAt, part_of}
use Rattle.gix_object_commit.specs.Whole.{is_message}
use Rattle.gix_object_commit.proofs.Left.{IsReadSoFar, none_read, one_read, stuck, ends_whole, whole_is}
use Rattle.gix_object_commit.proofs.laws.tokens.tokens_tell_a_commit.Goals as goal

pub tokens-init : goal.tokens-init
tokens-init c =
    let start = c.from_bytes-tokens.ensures in
    let kind = c.args.hash_kind in
    let input = c.args.input.now in
    record {
      kind = ap (λ place. place.kind) start;
      so_far = subst (λ stage. IsReadSoFar kind input stage c.from_bytes-tokens.result.rest.now false) (sym (ap (λ place. place.stage) start))
          (subst (λ rest. IsReadSoFar kind input _ rest false) (sym (ap (λ place. place.input) start)) (none_read kind input));
    }

pub tokens-preserved : goal.tokens-preserved
tokens-preserved c =
    let i = c.tokens.invariant in
    let tokens = c.tokens.tokens in
    let kind = c.args.hash_kind in
    let input = c.args.input.now in
    let part = part_of c.in-Ok.token in
    let after = c.next.new.self.rest.now in
    let steps = rw c.in-Ok.is at c.in-Some.ensures.steps in
    let is = subst (λ k. IsPartAt k tokens.stage tokens.rest.now part after) i.kind steps.0 in
    let next = one_read kind input tokens.stage tokens.rest.now c.tokens.whole part after i.so_far is in
    record {
      kind = steps.2 ∙ i.kind;
      so_far = subst (λ whole. IsReadSoFar kind input c.next.new.self.stage after whole) (sym c.is_message-whole.ensures)
          (subst (λ stage. IsReadSoFar kind input stage after (is_message part)) (sym steps.1) next);
    }

pub returns-in-Err : goal.returns-in-Err
returns-in-Err c =
    let i = c.tokens.invariant in
    let tokens = c.tokens.tokens in
    let steps = rw c.in-Err.is at c.in-Some.ensures.steps in (
      λ e. absurd cc,
      λ is. absurd (stuck c.args.hash_kind c.args.input.now tokens.stage tokens.rest.now c.tokens.whole i.so_far steps.0.0
          (λ part after at_next. steps.0.1 part after (subst (λ k. IsPartAt k tokens.stage tokens.rest.now part after) (sym i.kind) at_next)) is),
    )

pub returns : goal.returns
returns c =
    let i = c.tokens.invariant in
    let tokens = c.tokens.tokens in
    let kind = c.args.hash_kind in
    let input = c.args.input.now in (
      λ e. whole_is kind input tokens.stage tokens.rest.now c.tokens.whole i.so_far e,
      λ is. ends_whole kind input tokens.stage tokens.rest.now c.tokens.whole i.so_far c.in_default.ensures.steps.0 is,
    )
