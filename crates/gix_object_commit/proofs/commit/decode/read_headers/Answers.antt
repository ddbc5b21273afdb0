use Rattle.std.proofs.Common.{◌≡◌, ◌∙◌, ap, sym, subst, refl, ℕ, List, [], ◌∷◌, ◌++◌, map, inl, inr}
use Rattle.std.specs.Prelude.{flat_map}
use Rattle.std.proofs.lemmas.List.{map-append}
use Rattle.std.proofs.lemmas.Result.{err_from_is_err_and}
use Rattle.gix_object_commit.specs.Commit.{field_text, IsField}
use Rattle.gix_object_commit.specs.Reading.{IsUnspaced}
use Rattle.gix_object_commit.specs.LineViews.{field_of}
use Rattle.gix_object_commit.proofs.FaultLemmas.{next_header, no_room_for_header}
use Rattle.gix_object_commit.proofs.Results.{when_pushed}
use Rattle.gix_object_commit.proofs.Lines.{BeginsMessage, field_no_message, fields_unspaced, field_shorter}
use Rattle.gix_object_commit.proofs.Progress.{Progress, progress_none, progress_one, progress_end, progress_stuck}
use Rattle.gix_object_commit.proofs.commit.decode.read_headers.Goals as goal

message_same : (a b : List ℕ) → 10 ∷ a ≡ 10 ∷ b → a ≡ b
message_same a b e = cc

pub headers-init : goal.headers-init
headers-init c = (subst (λ xs. Progress field_text IsField BeginsMessage c.args.input.now (map field_of xs) c.args.input.now) (sym c.new-headers.ensures.items) (progress_none field_text IsField BeginsMessage c.args.input.now), inl (ap (map field_of) c.new-headers.ensures.items))

pub returns-in-Some-clause-read : goal.returns-in-Some-clause-read
returns-in-Some-clause-read c = (c.headers.invariant.0.spelled ∙ ap (λ t. flat_map field_text (map field_of c.headers.headers.items) ++ t) c.in-Some.ensures, c.headers.invariant.0.fit)

pub returns-in-Some-clause-every : goal.returns-in-Some-clause-every
returns-in-Some-clause-every c = λ fields message fits whole.
    let same = progress_end field_text IsField BeginsMessage _ _ _ c.headers.invariant.0
    (λ y r fit is. field_no_message y r c.in-Some.message.now fit (sym c.in-Some.ensures ∙ is))
    fields (10 ∷ message) fits (message, refl) whole in
    (same.0, message_same _ _ (sym c.in-Some.ensures ∙ same.1))

pub returns-in_err-header-clause-every : goal.returns-in_err-header-clause-every
returns-in_err-header-clause-every c = λ fields message fits whole.
    absurd (progress_stuck field_text IsField BeginsMessage _ _ _ c.headers.invariant.0
    (λ end begins is. c.in_default.ensures begins.0 (is ∙ begins.1))
    (λ y more end fit fits begins is. c.in_err-header.ensures.every y _ fit (fields_unspaced more end fits begins) is)
    fields (10 ∷ message) fits (message, refl) whole)

pub returns-in_err-header-clause-refused : goal.returns-in_err-header-clause-refused
returns-in_err-header-clause-refused c =
    let p = err_from_is_err_and c.from_residual.result c.from_residual.ensures.1 in
    rw (p.1, p.2) (inl (next_header c.args.input.now (map field_of c.headers.headers.items) c.headers.rest.now _ c.headers.invariant.0.fit c.headers.invariant.0.spelled c.headers.invariant.1 (λ message is. c.in_default.ensures message is) c.in_err-header.ensures.refused))

pub headers-smaller : goal.headers-smaller
headers-smaller c = field_shorter _ _ (field_of c.in_ok-header.header) c.in_ok-header.ensures.read.0

pub headers-preserved : goal.headers-preserved
headers-preserved c =
    let pushed = when_pushed c.push.result _ _ _ (sym c.is_err.ensures.value ∙ c.if-is_err.false) c.push.ensures.items in
    let step = progress_one field_text IsField BeginsMessage _ _ _ (field_of c.in_ok-header.header) c.in_ok-header.after.now c.headers.invariant.0
    c.in_ok-header.ensures.read.1 c.in_ok-header.ensures.read.0
    (λ end begins is. c.in_default.ensures begins.0 (is ∙ begins.1))
    (λ y r more end fit fits begins same is. c.in_ok-header.ensures.every y r fit (subst IsUnspaced (sym same) (fields_unspaced more end fits begins)) is) in (
      subst (λ xs. Progress field_text IsField BeginsMessage c.args.input.now xs c.in_ok-header.after.now)
          (sym (ap (map field_of) pushed ∙ map-append field_of c.headers.headers.items (c.in_ok-header.header ∷ []))) step,
      inr c.in_ok-header.ensures.read.2,
    )

pub returns-then-is_err-clause-refused : goal.returns-then-is_err-clause-refused
returns-then-is_err-clause-refused c =
    inr (
      refl,
      no_room_for_header c.args.input.now (map field_of c.headers.headers.items) (field_of c.in_ok-header.header) c.headers.rest.now c.in_ok-header.after.now
          c.headers.invariant.0.fit c.in_ok-header.ensures.read.1 c.headers.invariant.0.spelled c.in_ok-header.ensures.read.0 c.in_ok-header.ensures.read.2,
    )
