use Rattle.std.proofs.Common.{◌∙◌, sym, ap, subst, bytes_eq, Some}
use Rattle.std.specs.Prelude.{Option}
use Rattle.std.proofs.lemmas.Bool.Decides.{Decides-eqb}
use Rattle.std.proofs.lemmas.Slice.Eq.{slice_eq-Decides}
use Rattle.history_model.specs.Words.{head_word}
use Rattle.history_model.proofs.PlaceLemmas.{text_itself, texts_apart}
use Rattle.history_repository.specs.Meanings.{IsFirstStanding}
use Rattle.history_repository.specs.declared.words.Standing.{Standing}
use Rattle.history_queries.proofs.PastLemmas.{head_asked, name_asked, candidate_asked}
use Rattle.history_queries.proofs.pasts.past_name.Goals as goal

pub returns-then-eq : goal.returns-then-eq
returns-then-eq g c = λ r stand.
    let head = (slice_eq-Decides Decides-eqb c.args.word.now head_word c.eq.result c.eq.ensures).0 c.if-eq.true in
    c.in_ok-from_slice.ensures.items ∙ c.deref.ensures.value ∙ stand.branch ∙ head_asked r c.args.word.now (ap (λ w. bytes_eq w head_word) head ∙ text_itself head_word)

pub returns-then-is_name : goal.returns-then-is_name
returns-then-is_name g c = λ r stand.
    let other = texts_apart c.args.word.now head_word (λ same. absurd (cc ((slice_eq-Decides Decides-eqb c.args.word.now head_word c.eq.result c.eq.ensures).1 same, c.if-eq.false))) in
    c.in_ok-from_slice-2.ensures.items ∙ name_asked r c.args.word.now other (sym c.is_name.ensures ∙ c.if-is_name.true)

pub returns-in-Some : goal.returns-in-Some
returns-in-Some g c = λ r stand.
    let other = texts_apart c.args.word.now head_word (λ same. absurd (cc ((slice_eq-Decides Decides-eqb c.args.word.now head_word c.eq.result c.eq.ensures).1 same, c.if-eq.false))) in
    let found = subst (λ (o : Option Standing). IsFirstStanding r c.args.word.now o) c.in-Some.is (c.in_ok-standing.ensures r stand) in
    candidate_asked r c.args.word.now other (sym c.is_name.ensures ∙ c.if-is_name.false) (Some c.in-Some.standing.name.items) found.first
