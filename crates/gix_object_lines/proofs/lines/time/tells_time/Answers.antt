use Rattle.std.proofs.Common.{◌≡◌, ◌∙◌, sym, refl, List, ℕ, Result, Ok, Err, Decides, is_ok}
use Rattle.std.specs.Prelude.{IfOk}
use Rattle.std.proofs.lemmas.Bool.Decides.{same_from_decides}
use Rattle.gix_object_lines.specs.Actor.{TellsTime}
use Rattle.gix_object_lines.specs.Time.{SpellsTime}
use Rattle.gix_object_lines.specs.TimeTest as test
use Rattle.gix_object_lines.specs.declared.lines.time.Time.{Time}
use Rattle.gix_object_lines.proofs.TimeTests.{tells_time-Decides}
use Rattle.gix_object_lines.proofs.lines.time.tells_time.Goals as goal

-- a time is read if there is one
read_where_told : {E : Type 0} (text : List ℕ) (r : Result Time E) → IfOk r (SpellsTime text) → ((time : Time) → SpellsTime text time → r ≡ Ok time) → Decides (is_ok r) (TellsTime text)
read_where_told text (Ok time) read every = (λ _. (time, read), λ _. refl)
read_where_told text (Err e) read every = (λ no. absurd cc, λ told. let same = every told.0 told.1 in absurd cc)

pub returns-clause-test : goal.returns-clause-test
returns-clause-test c =
    let text = c.args.text.now in
    c.is_ok.ensures.value
    ∙ same_from_decides (is_ok c.read_time.result) (test.tells_time text) (read_where_told text c.read_time.result c.read_time.ensures.read c.read_time.ensures.every) (tells_time-Decides text)

pub returns-clause-grammar : goal.returns-clause-grammar
returns-clause-grammar c =
    let decides = read_where_told c.args.text.now c.read_time.result c.read_time.ensures.read c.read_time.ensures.every in
    (λ yes. decides.0 (sym c.is_ok.ensures.value ∙ yes), λ told. c.is_ok.ensures.value ∙ decides.1 told)
