use Rattle.std.proofs.Common.{rules, ◌≡◌, ◌∙◌, ap, sym, subst, List, ℕ, ℤ, Ok, Result}
use Rattle.gix_object_lines.specs.declared.decode.Error.{Error}
use Rattle.gix_object_lines.specs.declared.lines.time.Time.{Time}
use Rattle.bstr.specs.BStr.{bstr_bytes}
use Rattle.gix_object_commit.specs.Tokens.{place_of}
use Rattle.gix_object_lines.specs.Time.{SpellsTime}
use Rattle.gix_object_lines.specs.Person.{Person, person_of}
use Rattle.gix_traverse_commit_known.proofs.Told.{committer_time}
use Rattle.gix_traverse_commit_known.proofs.either.seconds.Goals as goal

time_same : (a b : Time) → ◌≡◌ {A = Result Time Error} (Ok a) (Ok b) → a ≡ b
time_same a b e = cc

pub returns-in_err-committer-clause-every : goal.returns-in_err-committer-clause-every
returns-in_err-committer-clause-every c = λ seconds told. absurd (c.in_err-committer.ensures.every told.committer told.committed)

pub returns-in_err-time-clause-every : goal.returns-in_err-time-clause-every
returns-in_err-time-clause-every c = λ seconds told.
    let same : person_of c.in_ok-committer.committer ≡ told.committer = c.in_ok-committer.ensures.every told.committer told.committed in
    let spelled : SpellsTime (bstr_bytes c.in_ok-committer.committer.time) told.time = subst (λ (p : Person). SpellsTime p.time told.time) (sym same) told.spelled in
    let z = c.in_err-time.ensures.every told.time (subst (λ (t : List ℕ). SpellsTime t told.time) (sym c.as_bytes.ensures) spelled) in
    let b : ⊥ = cc in absurd b

pub returns-in_err-time-clause-refused : goal.returns-in_err-time-clause-refused
returns-in_err-time-clause-refused c =
    let (time, spelled) = committer_time (place_of c.args.reader) (person_of c.in_ok-committer.committer) c.in_ok-committer.ensures.read in
    let z = c.in_err-time.ensures.every time (subst (λ (t : List ℕ). SpellsTime t time) (sym c.as_bytes.ensures) spelled) in
    let b : ⊥ = cc in absurd b

pub returns-clause-told : goal.returns-clause-told
returns-clause-told c = record {
  committer = person_of c.in_ok-committer.committer;
  time = c.in_ok-time.time;
  committed = c.in_ok-committer.ensures.read;
  spelled = subst (λ (t : List ℕ). SpellsTime t c.in_ok-time.time) c.as_bytes.ensures c.in_ok-time.ensures.read;
  same = search rules;
}

pub returns-clause-every : goal.returns-clause-every
returns-clause-every c = λ seconds told.
    let same : person_of c.in_ok-committer.committer ≡ told.committer = c.in_ok-committer.ensures.every told.committer told.committed in
    let spelled : SpellsTime (bstr_bytes c.in_ok-committer.committer.time) told.time = subst (λ (p : Person). SpellsTime p.time told.time) (sym same) told.spelled in
    let e = c.in_ok-time.ensures.every told.time (subst (λ (t : List ℕ). SpellsTime t told.time) (sym c.as_bytes.ensures) spelled) in
    let t = time_same c.in_ok-time.time told.time e in
    ap (λ (z : ℤ). Ok z) (search rules ∙ ap (λ (u : Time). u.seconds) t ∙ sym told.same)
