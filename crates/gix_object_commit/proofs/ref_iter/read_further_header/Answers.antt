use Rattle.std.proofs.Common.{◌≡◌, ◌∙◌, ap, sym, ℕ, List, [], ◌-◌, length, take, arith}
use Rattle.gix_object_commit.specs.Tokens.{Message}
use Rattle.gix_object_commit.proofs.Stages.{at_message}
use Rattle.gix_object_commit.proofs.ref_iter.read_further_header.Goals as goal

none_left : (xs ys : List ℕ) → take (length xs - length xs) ys ≡ []
none_left xs ys = let n : length xs - length xs ≡ 0 = omega arith in ap (λ k. take k ys) n

pub returns-in-Some-clause-every : goal.returns-in-Some-clause-every
returns-in-Some-clause-every c = λ kind part rest is.
    let message = at_message kind c.args.input.now part rest c.in-Some.message.now is c.in-Some.ensures in
    (ap Message c.new.ensures ∙ sym message.0, none_left c.in-Some.message.now _ ∙ sym message.1)
