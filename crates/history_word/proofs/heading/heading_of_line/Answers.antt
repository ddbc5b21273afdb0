use Rattle.std.proofs.Common.{◌≡◌, ◌∷◌, sym, ap, subst, ◌∙◌}
use Rattle.std.specs.Prelude.{codes}
use Rattle.std.proofs.lemmas.Slice.Eq.{slice_eq-Decides}
use Rattle.std.proofs.lemmas.Bool.Decides.{Decides-eqb}
use Rattle.history_word.specs.LineTable.{heading_of}
use Rattle.history_word.specs.Lines.{split_words}
use Rattle.history_word.specs.Words.{left}
use Rattle.history_word.specs.Drafts.{Says}
use Rattle.history_word.proofs.UnofferedLemmas.{is_other, said_behind}
use Rattle.history_word.proofs.heading.heading_of_line.Goals as goal

pub returns-then-eq : goal.returns-then-eq
returns-then-eq c =
    let name = (slice_eq-Decides Decides-eqb _ _ _ c.eq.ensures).0 c.if-eq.true ∙ c.as_slice.ensures in
    let words : split_words c.args.line.now ≡ codes "commit" ∷ left c.next.new.self = sym c.new-words.ensures ∙ c.in_ok-first.ensures.found ∙ ap (λ w. w ∷ left c.next.new.self) name in
    subst (λ ws. Says c.commit.result (heading_of ws)) (sym words) c.commit.ensures

pub returns-then-eq-2 : goal.returns-then-eq-2
returns-then-eq-2 c =
    let name = (slice_eq-Decides Decides-eqb _ _ _ c.eq-else-eq.ensures).0 c.if-eq-2.true ∙ c.as_slice-else-eq.ensures in
    let words : split_words c.args.line.now ≡ codes "parent" ∷ left c.next.new.self = sym c.new-words.ensures ∙ c.in_ok-first.ensures.found ∙ ap (λ w. w ∷ left c.next.new.self) name in
    subst (λ ws. Says c.parent.result (heading_of ws)) (sym words) c.parent.ensures

pub returns-then-eq-3 : goal.returns-then-eq-3
returns-then-eq-3 c =
    let name = (slice_eq-Decides Decides-eqb _ _ _ c.eq-else-eq-2.ensures).0 c.if-eq-3.true ∙ c.as_slice-else-eq-2.ensures in
    let words : split_words c.args.line.now ≡ codes "put" ∷ left c.next.new.self = sym c.new-words.ensures ∙ c.in_ok-first.ensures.found ∙ ap (λ w. w ∷ left c.next.new.self) name in
    subst (λ ws. Says c.put.result (heading_of ws)) (sym words) c.put.ensures

pub returns-then-eq-4 : goal.returns-then-eq-4
returns-then-eq-4 c =
    let name = (slice_eq-Decides Decides-eqb _ _ _ c.eq-else-eq-3.ensures).0 c.if-eq-4.true ∙ c.as_slice-else-eq-3.ensures in
    let words : split_words c.args.line.now ≡ codes "remove" ∷ left c.next.new.self = sym c.new-words.ensures ∙ c.in_ok-first.ensures.found ∙ ap (λ w. w ∷ left c.next.new.self) name in
    subst (λ ws. Says c.remove.result (heading_of ws)) (sym words) c.remove.ensures

pub returns-then-eq-5 : goal.returns-then-eq-5
returns-then-eq-5 c =
    let name = (slice_eq-Decides Decides-eqb _ _ _ c.eq-else-eq-4.ensures).0 c.if-eq-5.true ∙ c.as_slice-else-eq-4.ensures in
    let words : split_words c.args.line.now ≡ codes "remove-file" ∷ left c.next.new.self = sym c.new-words.ensures ∙ c.in_ok-first.ensures.found ∙ ap (λ w. w ∷ left c.next.new.self) name in
    subst (λ ws. Says c.remove_file.result (heading_of ws)) (sym words) c.remove_file.ensures

pub returns-then-eq-6 : goal.returns-then-eq-6
returns-then-eq-6 c =
    let name = (slice_eq-Decides Decides-eqb _ _ _ c.eq-else-eq-5.ensures).0 c.if-eq-6.true ∙ c.as_slice-else-eq-5.ensures in
    let words : split_words c.args.line.now ≡ codes "graft" ∷ left c.next.new.self = sym c.new-words.ensures ∙ c.in_ok-first.ensures.found ∙ ap (λ w. w ∷ left c.next.new.self) name in
    subst (λ ws. Says c.graft.result (heading_of ws)) (sym words) c.graft.ensures

pub returns-then-eq-7 : goal.returns-then-eq-7
returns-then-eq-7 c =
    let name = (slice_eq-Decides Decides-eqb _ _ _ c.eq-else-eq-6.ensures).0 c.if-eq-7.true ∙ c.as_slice-else-eq-6.ensures in
    let words : split_words c.args.line.now ≡ codes "author" ∷ left c.next.new.self = sym c.new-words.ensures ∙ c.in_ok-first.ensures.found ∙ ap (λ w. w ∷ left c.next.new.self) name in
    subst (λ ws. Says c.actor.result (heading_of ws)) (sym words) c.actor.ensures

pub returns-then-eq-8 : goal.returns-then-eq-8
returns-then-eq-8 c =
    let name = (slice_eq-Decides Decides-eqb _ _ _ c.eq-else-eq-7.ensures).0 c.if-eq-8.true ∙ c.as_slice-else-eq-7.ensures in
    let words : split_words c.args.line.now ≡ codes "committer" ∷ left c.next.new.self = sym c.new-words.ensures ∙ c.in_ok-first.ensures.found ∙ ap (λ w. w ∷ left c.next.new.self) name in
    subst (λ ws. Says c.actor-then-eq-8.result (heading_of ws)) (sym words) c.actor-then-eq-8.ensures

pub returns-then-eq-9 : goal.returns-then-eq-9
returns-then-eq-9 c =
    let name = (slice_eq-Decides Decides-eqb _ _ _ c.eq-else-eq-8.ensures).0 c.if-eq-9.true ∙ c.as_slice-else-eq-8.ensures in
    let words : split_words c.args.line.now ≡ codes "message" ∷ left c.next.new.self = sym c.new-words.ensures ∙ c.in_ok-first.ensures.found ∙ ap (λ w. w ∷ left c.next.new.self) name in
    subst (λ ws. Says c.message.result (heading_of ws)) (sym words) c.message.ensures

pub returns-then-eq-10 : goal.returns-then-eq-10
returns-then-eq-10 c =
    let name = (slice_eq-Decides Decides-eqb _ _ _ c.eq-else-eq-9.ensures).0 c.if-eq-10.true ∙ c.as_slice-else-eq-9.ensures in
    let words : split_words c.args.line.now ≡ codes "end" ∷ left c.next.new.self = sym c.new-words.ensures ∙ c.in_ok-first.ensures.found ∙ ap (λ w. w ∷ left c.next.new.self) name in
    subst (λ ws. Says c.end.result (heading_of ws)) (sym words) c.end.ensures

pub returns-then-eq-11 : goal.returns-then-eq-11
returns-then-eq-11 c =
    let name = (slice_eq-Decides Decides-eqb _ _ _ c.eq-else-eq-10.ensures).0 c.if-eq-11.true ∙ c.as_slice-else-eq-10.ensures in
    let words : split_words c.args.line.now ≡ codes "files" ∷ left c.next.new.self = sym c.new-words.ensures ∙ c.in_ok-first.ensures.found ∙ ap (λ w. w ∷ left c.next.new.self) name in
    subst (λ ws. Says c.files.result (heading_of ws)) (sym words) c.files.ensures

pub returns-then-eq-12 : goal.returns-then-eq-12
returns-then-eq-12 c =
    let name = (slice_eq-Decides Decides-eqb _ _ _ c.eq-else-eq-11.ensures).0 c.if-eq-12.true ∙ c.as_slice-else-eq-11.ensures in
    let words : split_words c.args.line.now ≡ codes "show" ∷ left c.next.new.self = sym c.new-words.ensures ∙ c.in_ok-first.ensures.found ∙ ap (λ w. w ∷ left c.next.new.self) name in
    subst (λ ws. Says c.show.result (heading_of ws)) (sym words) c.show.ensures

pub returns-else-eq-12 : goal.returns-else-eq-12
returns-else-eq-12 c =
    subst (λ ws. Says c.heading_of_name_line.result (heading_of ws)) (sym (sym c.new-words.ensures ∙ c.in_ok-first.ensures.found)) (said_behind c.heading_of_name_line.result c.in_ok-first.first.now (left c.next.new.self)
    (is_other c.in_ok-first.first.now _ (codes "commit") _ (slice_eq-Decides Decides-eqb _ _ _ c.eq.ensures).1 c.as_slice.ensures c.if-eq.false)
    (is_other c.in_ok-first.first.now _ (codes "parent") _ (slice_eq-Decides Decides-eqb _ _ _ c.eq-else-eq.ensures).1 c.as_slice-else-eq.ensures c.if-eq-2.false)
    (is_other c.in_ok-first.first.now _ (codes "put") _ (slice_eq-Decides Decides-eqb _ _ _ c.eq-else-eq-2.ensures).1 c.as_slice-else-eq-2.ensures c.if-eq-3.false)
    (is_other c.in_ok-first.first.now _ (codes "remove") _ (slice_eq-Decides Decides-eqb _ _ _ c.eq-else-eq-3.ensures).1 c.as_slice-else-eq-3.ensures c.if-eq-4.false)
    (is_other c.in_ok-first.first.now _ (codes "remove-file") _ (slice_eq-Decides Decides-eqb _ _ _ c.eq-else-eq-4.ensures).1 c.as_slice-else-eq-4.ensures c.if-eq-5.false)
    (is_other c.in_ok-first.first.now _ (codes "graft") _ (slice_eq-Decides Decides-eqb _ _ _ c.eq-else-eq-5.ensures).1 c.as_slice-else-eq-5.ensures c.if-eq-6.false)
    (is_other c.in_ok-first.first.now _ (codes "author") _ (slice_eq-Decides Decides-eqb _ _ _ c.eq-else-eq-6.ensures).1 c.as_slice-else-eq-6.ensures c.if-eq-7.false)
    (is_other c.in_ok-first.first.now _ (codes "committer") _ (slice_eq-Decides Decides-eqb _ _ _ c.eq-else-eq-7.ensures).1 c.as_slice-else-eq-7.ensures c.if-eq-8.false)
    (is_other c.in_ok-first.first.now _ (codes "message") _ (slice_eq-Decides Decides-eqb _ _ _ c.eq-else-eq-8.ensures).1 c.as_slice-else-eq-8.ensures c.if-eq-9.false)
    (is_other c.in_ok-first.first.now _ (codes "end") _ (slice_eq-Decides Decides-eqb _ _ _ c.eq-else-eq-9.ensures).1 c.as_slice-else-eq-9.ensures c.if-eq-10.false)
    (is_other c.in_ok-first.first.now _ (codes "files") _ (slice_eq-Decides Decides-eqb _ _ _ c.eq-else-eq-10.ensures).1 c.as_slice-else-eq-10.ensures c.if-eq-11.false)
    (is_other c.in_ok-first.first.now _ (codes "show") _ (slice_eq-Decides Decides-eqb _ _ _ c.eq-else-eq-11.ensures).1 c.as_slice-else-eq-11.ensures c.if-eq-12.false) c.heading_of_name_line.ensures)
