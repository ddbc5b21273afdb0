use Rattle.std.proofs.Common.{sym, subst, ◌∙◌}
use Rattle.std.specs.Prelude.{codes}
use Rattle.std.proofs.lemmas.Slice.Eq.{slice_eq-Decides}
use Rattle.std.proofs.lemmas.Bool.Decides.{Decides-eqb}
use Rattle.history_word.specs.LineTable.{name_heading_of}
use Rattle.history_word.specs.Words.{left}
use Rattle.history_word.specs.Drafts.{Says}
use Rattle.history_word.proofs.UnofferedLemmas.{is_other, no_line_of}
use Rattle.history_word.proofs.heading.heading_of_name_line.Goals as goal

pub returns-then-eq : goal.returns-then-eq
returns-then-eq c =
    let name = (slice_eq-Decides Decides-eqb _ _ _ c.eq.ensures).0 c.if-eq.true ∙ c.as_slice.ensures in
    subst (λ first. Says c.tag.result (name_heading_of first (left c.args.words.now))) (sym name) c.tag.ensures

pub returns-then-eq-2 : goal.returns-then-eq-2
returns-then-eq-2 c =
    let name = (slice_eq-Decides Decides-eqb _ _ _ c.eq-else-eq.ensures).0 c.if-eq-2.true ∙ c.as_slice-else-eq.ensures in
    subst (λ first. Says c.actor.result (name_heading_of first (left c.args.words.now))) (sym name) c.actor.ensures

pub returns-then-eq-3 : goal.returns-then-eq-3
returns-then-eq-3 c =
    let name = (slice_eq-Decides Decides-eqb _ _ _ c.eq-else-eq-2.ensures).0 c.if-eq-3.true ∙ c.as_slice-else-eq-2.ensures in
    subst (λ first. Says c.move_line.result (name_heading_of first (left c.args.words.now))) (sym name) c.move_line.ensures

pub returns-then-eq-4 : goal.returns-then-eq-4
returns-then-eq-4 c =
    let name = (slice_eq-Decides Decides-eqb _ _ _ c.eq-else-eq-3.ensures).0 c.if-eq-4.true ∙ c.as_slice-else-eq-3.ensures in
    subst (λ first. Says c.to.result (name_heading_of first (left c.args.words.now))) (sym name) c.to.ensures

pub returns-then-eq-5 : goal.returns-then-eq-5
returns-then-eq-5 c =
    let name = (slice_eq-Decides Decides-eqb _ _ _ c.eq-else-eq-4.ensures).0 c.if-eq-5.true ∙ c.as_slice-else-eq-4.ensures in
    subst (λ first. Says c.actor-then-eq-5.result (name_heading_of first (left c.args.words.now))) (sym name) c.actor-then-eq-5.ensures

pub returns-then-eq-6 : goal.returns-then-eq-6
returns-then-eq-6 c =
    let name = (slice_eq-Decides Decides-eqb _ _ _ c.eq-else-eq-5.ensures).0 c.if-eq-6.true ∙ c.as_slice-else-eq-5.ensures in
    subst (λ first. Says c.delete.result (name_heading_of first (left c.args.words.now))) (sym name) c.delete.ensures

pub returns-then-eq-7 : goal.returns-then-eq-7
returns-then-eq-7 c =
    let name = (slice_eq-Decides Decides-eqb _ _ _ c.eq-else-eq-6.ensures).0 c.if-eq-7.true ∙ c.as_slice-else-eq-6.ensures in
    subst (λ first. Says c.names.result (name_heading_of first (left c.args.words.now))) (sym name) c.names.ensures

pub returns-then-eq-8 : goal.returns-then-eq-8
returns-then-eq-8 c =
    let name = (slice_eq-Decides Decides-eqb _ _ _ c.eq-else-eq-7.ensures).0 c.if-eq-8.true ∙ c.as_slice-else-eq-7.ensures in
    subst (λ first. Says c.past.result (name_heading_of first (left c.args.words.now))) (sym name) c.past.ensures

pub returns-then-eq-9 : goal.returns-then-eq-9
returns-then-eq-9 c =
    let name = (slice_eq-Decides Decides-eqb _ _ _ c.eq-else-eq-8.ensures).0 c.if-eq-9.true ∙ c.as_slice-else-eq-8.ensures in
    subst (λ first. Says c.log.result (name_heading_of first (left c.args.words.now))) (sym name) c.log.ensures

pub returns-then-eq-10 : goal.returns-then-eq-10
returns-then-eq-10 c =
    let name = (slice_eq-Decides Decides-eqb _ _ _ c.eq-else-eq-9.ensures).0 c.if-eq-10.true ∙ c.as_slice-else-eq-9.ensures in
    subst (λ first. Says c.switch.result (name_heading_of first (left c.args.words.now))) (sym name) c.switch.ensures

pub returns-then-eq-11 : goal.returns-then-eq-11
returns-then-eq-11 c =
    let name = (slice_eq-Decides Decides-eqb _ _ _ c.eq-else-eq-10.ensures).0 c.if-eq-11.true ∙ c.as_slice-else-eq-10.ensures in
    subst (λ first. Says c.rename.result (name_heading_of first (left c.args.words.now))) (sym name) c.rename.ensures

pub returns-then-eq-12 : goal.returns-then-eq-12
returns-then-eq-12 c =
    let name = (slice_eq-Decides Decides-eqb _ _ _ c.eq-else-eq-11.ensures).0 c.if-eq-12.true ∙ c.as_slice-else-eq-11.ensures in
    subst (λ first. Says c.index.result (name_heading_of first (left c.args.words.now))) (sym name) c.index.ensures

pub returns-then-eq-13 : goal.returns-then-eq-13
returns-then-eq-13 c =
    let name = (slice_eq-Decides Decides-eqb _ _ _ c.eq-else-eq-12.ensures).0 c.if-eq-13.true ∙ c.as_slice-else-eq-12.ensures in
    subst (λ first. Says c.pack.result (name_heading_of first (left c.args.words.now))) (sym name) c.pack.ensures

pub returns-else-eq-13 : goal.returns-else-eq-13
returns-else-eq-13 c =
    no_line_of c.args.first.now (left c.args.words.now)
    (is_other c.args.first.now _ (codes "tag") _ (slice_eq-Decides Decides-eqb _ _ _ c.eq.ensures).1 c.as_slice.ensures c.if-eq.false)
    (is_other c.args.first.now _ (codes "tagger") _ (slice_eq-Decides Decides-eqb _ _ _ c.eq-else-eq.ensures).1 c.as_slice-else-eq.ensures c.if-eq-2.false)
    (is_other c.args.first.now _ (codes "move") _ (slice_eq-Decides Decides-eqb _ _ _ c.eq-else-eq-2.ensures).1 c.as_slice-else-eq-2.ensures c.if-eq-3.false)
    (is_other c.args.first.now _ (codes "to") _ (slice_eq-Decides Decides-eqb _ _ _ c.eq-else-eq-3.ensures).1 c.as_slice-else-eq-3.ensures c.if-eq-4.false)
    (is_other c.args.first.now _ (codes "actor") _ (slice_eq-Decides Decides-eqb _ _ _ c.eq-else-eq-4.ensures).1 c.as_slice-else-eq-4.ensures c.if-eq-5.false)
    (is_other c.args.first.now _ (codes "delete") _ (slice_eq-Decides Decides-eqb _ _ _ c.eq-else-eq-5.ensures).1 c.as_slice-else-eq-5.ensures c.if-eq-6.false)
    (is_other c.args.first.now _ (codes "names") _ (slice_eq-Decides Decides-eqb _ _ _ c.eq-else-eq-6.ensures).1 c.as_slice-else-eq-6.ensures c.if-eq-7.false)
    (is_other c.args.first.now _ (codes "past") _ (slice_eq-Decides Decides-eqb _ _ _ c.eq-else-eq-7.ensures).1 c.as_slice-else-eq-7.ensures c.if-eq-8.false)
    (is_other c.args.first.now _ (codes "log") _ (slice_eq-Decides Decides-eqb _ _ _ c.eq-else-eq-8.ensures).1 c.as_slice-else-eq-8.ensures c.if-eq-9.false)
    (is_other c.args.first.now _ (codes "switch") _ (slice_eq-Decides Decides-eqb _ _ _ c.eq-else-eq-9.ensures).1 c.as_slice-else-eq-9.ensures c.if-eq-10.false)
    (is_other c.args.first.now _ (codes "rename") _ (slice_eq-Decides Decides-eqb _ _ _ c.eq-else-eq-10.ensures).1 c.as_slice-else-eq-10.ensures c.if-eq-11.false)
    (is_other c.args.first.now _ (codes "index") _ (slice_eq-Decides Decides-eqb _ _ _ c.eq-else-eq-11.ensures).1 c.as_slice-else-eq-11.ensures c.if-eq-12.false)
    (is_other c.args.first.now _ (codes "pack") _ (slice_eq-Decides Decides-eqb _ _ _ c.eq-else-eq-12.ensures).1 c.as_slice-else-eq-12.ensures c.if-eq-13.false)
