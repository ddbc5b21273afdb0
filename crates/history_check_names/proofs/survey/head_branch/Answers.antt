use Rattle.std.proofs.Common.{◌≡◌, None, rules, false, true}
use Rattle.history_model.specs.Forms.{is_branch}
use Rattle.history_model.specs.Places.{file_at, head_place}
use Rattle.history_check_names.proofs.Heads.{seen_there, no_branch, other_name, branch_named}
use Rattle.history_check_names.proofs.Sizes.{long_head, no_size, size_there}
use Rattle.history_check_names.proofs.survey.head_branch.Goals as goal

pub returns-in_default-clause-wrong : goal.returns-in_default-clause-wrong
returns-in_default-clause-wrong g c = λ facts honest.
    let tree = (g.F.Files.history c.args.names.now.store.files).tree in
    let none : c.in_ok-len.field-0 ≡ None = search rules in
    let size = rw none at (seen_there g.F.Files.is_honest g.F.Files.history c.files.result.now c.args.names.now.store.files head_place c.in_ok-len.field-0 c.files.ensures honest c.in_ok-len.ensures.found) in
    no_size (file_at tree head_place) size

pub returns-then-len-gt-MAX_LOOSE-clause-wrong : goal.returns-then-len-gt-MAX_LOOSE-clause-wrong
returns-then-len-gt-MAX_LOOSE-clause-wrong g c = λ facts honest.
    let tree = (g.F.Files.history c.args.names.now.store.files).tree in
    let size = rw c.in-Some.is at (seen_there g.F.Files.is_honest g.F.Files.history c.files.result.now c.args.names.now.store.files head_place c.in_ok-len.field-0 c.files.ensures honest c.in_ok-len.ensures.found) in
    long_head tree c.in-Some.len size c.if-len-gt-MAX_LOOSE.true

pub returns-in_default-2-clause-wrong : goal.returns-in_default-2-clause-wrong
returns-in_default-2-clause-wrong g c = λ facts honest.
    let tree = (g.F.Files.history c.args.names.now.store.files).tree in
    let size = rw c.in-Some.is at (seen_there g.F.Files.is_honest g.F.Files.history c.files.result.now c.args.names.now.store.files head_place c.in_ok-len.field-0 c.files.ensures honest c.in_ok-len.ensures.found) in
    let none : c.in_ok-branch.field-0 ≡ None = search rules in
    let found = rw none at (c.in_ok-branch.ensures.found honest) in
    no_branch tree _ (size_there (file_at tree head_place) c.in-Some.len size) found

pub returns-then-is_branch-clause-found : goal.returns-then-is_branch-clause-found
returns-then-is_branch-clause-found g c = λ honest.
    let found = rw c.in-Some-2.is at (c.in_ok-branch.ensures.found honest) in
    let formed : is_branch c.in-Some-2.branch.items ≡ true = search rules in
    branch_named (g.F.Files.history c.args.names.now.store.files).tree c.in-Some-2.branch.items found formed

pub returns-clause-wrong : goal.returns-clause-wrong
returns-clause-wrong g c = λ facts honest.
    let found = rw c.in-Some-2.is at (c.in_ok-branch.ensures.found honest) in
    let none : is_branch c.in-Some-2.branch.items ≡ false = search rules in
    other_name (g.F.Files.history c.args.names.now.store.files).tree c.in-Some-2.branch.items found none
