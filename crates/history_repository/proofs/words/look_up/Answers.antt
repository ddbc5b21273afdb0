use Rattle.std.proofs.Common.{◌∙◌, ap, sym, subst, bytes_eq}
use Rattle.std.specs.Prelude.{Option}
use Rattle.std.proofs.lemmas.Bool.Decides.{Decides-eqb}
use Rattle.std.proofs.lemmas.Slice.Eq.{slice_eq-Decides}
use Rattle.gix_hash.specs.Id.{id_of}
use Rattle.history_model.specs.Words.{WordMeaning, head_word}
use Rattle.history_model.proofs.PlaceLemmas.{text_itself, texts_apart}
use Rattle.history_repository.specs.Meanings.{IsFirstStanding, IsLookedUp}
use Rattle.history_repository.specs.declared.words.Standing.{Standing}
use Rattle.history_repository.proofs.HeldLemmas.{held_stored}
use Rattle.history_repository.proofs.WordReads.{branch_at, branch_reads, branch_unborn, found_reads, none_reads}
use Rattle.history_repository.proofs.words.look_up.Goals as goal

pub returns-in-Some : goal.returns-in-Some
returns-in-Some g c = λ r stand.
    let is = (slice_eq-Decides Decides-eqb c.args.word.now head_word c.eq.result c.eq.ensures).0 c.if-eq.true in
    let id = id_of c.in-Some.id in
    let at = branch_at g.F.Files.is_honest g.F.Files.history c.args.repository.now r stand c.deref.result.now c.deref.ensures.value _ (c.in_ok-id.ensures.found stand.honest_names stand.records) c.in-Some.id c.in-Some.is in
    let stored = held_stored r stand.whole.whole.names r.branch id at in
    record { reads = branch_reads r c.args.word.now id (ap (λ w. bytes_eq w head_word) is ∙ text_itself head_word) at; value = stored.0; stored = stored.1 }

pub returns-in-None : goal.returns-in-None
returns-in-None g c = λ r stand.
    let is = (slice_eq-Decides Decides-eqb c.args.word.now head_word c.eq.result c.eq.ensures).0 c.if-eq.true in
    branch_unborn g.F.Files.is_honest g.F.Files.history c.args.repository.now r stand c.args.word.now c.deref.result.now (ap (λ w. bytes_eq w head_word) is ∙ text_itself head_word) c.deref.ensures.value
    _ (c.in_ok-id.ensures.found stand.honest_names stand.records) c.in-None.is

pub returns-in-Some-2 : goal.returns-in-Some-2
returns-in-Some-2 g c = λ r stand.
    let other = texts_apart c.args.word.now head_word (λ same. absurd (cc ((slice_eq-Decides Decides-eqb c.args.word.now head_word c.eq.result c.eq.ensures).1 same, c.if-eq.false))) in
    let found = subst (λ (o : Option Standing). IsFirstStanding r c.args.word.now o) c.in-Some-2.is (c.in_ok-standing.ensures r stand) in
    let name = c.in-Some-2.standing.name.items in
    let id = id_of c.in-Some-2.standing.id in
    let stored = held_stored r stand.whole.whole.names name id found.holds in
    record { reads = found_reads r c.args.word.now other name id found.first found.holds; value = stored.0; stored = stored.1 }

pub returns-in-None-2 : goal.returns-in-None-2
returns-in-None-2 g c = λ r stand.
    let other = texts_apart c.args.word.now head_word (λ same. absurd (cc ((slice_eq-Decides Decides-eqb c.args.word.now head_word c.eq.result c.eq.ensures).1 same, c.if-eq.false))) in
    let none = subst (λ (o : Option Standing). IsFirstStanding r c.args.word.now o) c.in-None-2.is (c.in_ok-standing.ensures r stand) in
    subst (λ (meaning : WordMeaning). IsLookedUp r meaning c.look_up_id.result) (sym (none_reads r c.args.word.now other none)) (c.look_up_id.ensures r stand)
