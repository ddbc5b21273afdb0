use Rattle.std.proofs.Common.{◌≡◌, ◌∙◌, Err, arith, subst, sym, true, false}
use Rattle.std.specs.Prelude.{IsTrue}
use Rattle.std.proofs.lemmas.Result.{err_from_is_err_and}
use Rattle.gix_ref_file.specs.Changes.{may_hold_file}
use Rattle.gix_ref_file.specs.declared.files.FileError.TheVariants.{Failed}
use Rattle.gix_ref_way.proofs.OneFile.{created_ones, then_created, then_removed, put_back, stays, none_left, may_make, risen}
use Rattle.gix_ref_way.proofs.anew.write_anew.Goals as goal

pub returns-in_err-create_new-clause-moments : goal.returns-in_err-create_new-clause-moments
returns-in_err-create_new-clause-moments g c = λ honest. created_ones c.args.path.now c.args.bytes.now _ _ (c.create_new.ensures.change honest).moments

pub returns-then-branch-clause-moments : goal.returns-then-branch-clause-moments
returns-then-branch-clause-moments g c = λ honest. created_ones c.args.path.now c.args.bytes.now _ _ (c.create_new.ensures.change honest).moments

pub returns-in_err-remove_file-clause-moments : goal.returns-in_err-remove_file-clause-moments
returns-in_err-remove_file-clause-moments g c = λ honest.
    then_removed c.args.path.now _ _ _ (created_ones c.args.path.now c.args.bytes.now _ _ (c.create_new.ensures.change honest).moments)
    (c.remove_file.ensures.change (c.create_new.ensures.honest honest)).moments

pub returns-in_err-create_new-2-clause-moments : goal.returns-in_err-create_new-2-clause-moments
returns-in_err-create_new-2-clause-moments g c = λ honest.
    let path = c.args.path.now in
    let honest_1 = c.create_new.ensures.honest honest in
    let honest_2 = c.remove_file.ensures.honest honest_1 in
    then_created path c.args.bytes.now _ _ _
    (then_removed path _ _ _ (created_ones path c.args.bytes.now _ _ (c.create_new.ensures.change honest).moments) (c.remove_file.ensures.change honest_1).moments)
    (c.create_new-2.ensures.change honest_2).moments

pub returns-in_err-create_new-2-clause-failed : goal.returns-in_err-create_new-2-clause-failed
returns-in_err-create_new-2-clause-failed g c = λ honest may failed.
    let path = c.args.path.now in
    let honest_1 = c.create_new.ensures.honest honest in
    let honest_2 = c.remove_file.ensures.honest honest_1 in
    let error = err_from_is_err_and c.from_residual-in_err-create_new-2.result c.from_residual-in_err-create_new-2.ensures.1 in
    let same : c.create_new-2.result ≡ Err Failed = cc (error.1, error.2) in
    let there = sym (c.in_ok-create_new.ensures.is_new honest) ∙ c.if-branch.false in
    let first = stays path c.args.bytes.now _ _ there (c.in_ok-create_new.ensures.change honest).made in
    let room = subst (λ t. IsTrue (may_hold_file t path)) (sym first) may in
    let rose = risen _ _ _ _ (may_make path c.args.bytes.now _ _ room (c.in_ok-remove_file.ensures.change honest_1).made) (c.create_new-2.ensures.cause honest_2) same in
    omega (arith, rose, c.in_ok-create_new.ensures.unfailed, c.in_ok-remove_file.ensures.unfailed)

pub returns-then-branch-2-clause-made : goal.returns-then-branch-2-clause-made
returns-then-branch-2-clause-made g c = λ honest.
    let honest_1 = c.create_new.ensures.honest honest in
    let honest_2 = c.remove_file.ensures.honest honest_1 in
    put_back c.args.path.now c.args.bytes.now _ _ _ _
    (sym (c.in_ok-create_new.ensures.is_new honest) ∙ c.if-branch.false) (c.in_ok-create_new.ensures.change honest).made (c.in_ok-remove_file.ensures.change honest_1).made
    (sym (c.in_ok-create_new-2.ensures.is_new honest_2) ∙ c.if-branch-2.true) (c.in_ok-create_new-2.ensures.change honest_2).made

pub returns-then-branch-2-clause-moments : goal.returns-then-branch-2-clause-moments
returns-then-branch-2-clause-moments g c = λ honest.
    let path = c.args.path.now in
    let honest_1 = c.create_new.ensures.honest honest in
    let honest_2 = c.remove_file.ensures.honest honest_1 in
    then_created path c.args.bytes.now _ _ _
    (then_removed path _ _ _ (created_ones path c.args.bytes.now _ _ (c.create_new.ensures.change honest).moments) (c.remove_file.ensures.change honest_1).moments)
    (c.create_new-2.ensures.change honest_2).moments

pub returns-clause-moments : goal.returns-clause-moments
returns-clause-moments g c = λ honest.
    let path = c.args.path.now in
    let honest_1 = c.create_new.ensures.honest honest in
    let honest_2 = c.remove_file.ensures.honest honest_1 in
    then_created path c.args.bytes.now _ _ _
    (then_removed path _ _ _ (created_ones path c.args.bytes.now _ _ (c.create_new.ensures.change honest).moments) (c.remove_file.ensures.change honest_1).moments)
    (c.create_new-2.ensures.change honest_2).moments

-- the second is made where the first was removed
pub returns-clause-failed : goal.returns-clause-failed
returns-clause-failed g c = λ honest may failed.
    let path = c.args.path.now in
    let honest_1 = c.create_new.ensures.honest honest in
    let honest_2 = c.remove_file.ensures.honest honest_1 in
    let there = sym (c.in_ok-create_new.ensures.is_new honest) ∙ c.if-branch.false in
    let first = stays path c.args.bytes.now _ _ there (c.in_ok-create_new.ensures.change honest).made in
    let room = subst (λ t. IsTrue (may_hold_file t path)) (sym first) may in
    let none = none_left path _ _ room (c.in_ok-remove_file.ensures.change honest_1).made in
    let wrong : true ≡ false = sym none ∙ sym (c.in_ok-create_new-2.ensures.is_new honest_2) ∙ c.if-branch-2.false in
    absurd (cc wrong)
