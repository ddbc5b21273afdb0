use Rattle.std.proofs.Common.{◌≡◌, ◌∷◌, [], ◌++◌, ◌∙◌, refl, sym, ap, codes}
use Rattle.std.proofs.lemmas.Slice.Eq.{slice_eq-Decides}
use Rattle.std.proofs.lemmas.Bool.{not-false}
use Rattle.std.proofs.lemmas.Bool.Decides.{Decides-eqb}
use Rattle.history_word.specs.Words.{left}
use Rattle.history_word.proofs.PathSizes.{first_size, next_size}
use Rattle.history_word.proofs.logs.path_sizes.Goals as goal

pub loop-word-init : goal.loop-word-init
loop-word-init c =
    first_size (left c.args.words.now) (left c.next.new.self) c.in_ok-next.field-0.now c.in_ok-number.field-0 _ c.in_ok-next.ensures.found (sym c.in_ok-number.ensures) c.args.words.now.short
    (c.add.ensures ∙ ap (λ done. done ++ c.in_ok-number.field-0 ∷ []) c.new-sizes.ensures)

pub loop-word-preserved : goal.loop-word-preserved
loop-word-preserved c =
    let name : c.in-Some.word.now ≡ codes "path" = (slice_eq-Decides Decides-eqb _ _ _ refl).0 (not-false _ (sym c.ne.ensures ∙ c.if-ne.false)) ∙ c.as_slice.ensures in
    next_size (left c.args.words.now) (left c.loop-word.words) (left c.next-in-loop-word.new.self) (left c.next-in-Some.new.self) c.in-Some.word.now c.in_ok-next-2.field-0.now c.in_ok-number-2.field-0 _ _ c.loop-word.invariant
    c.in-Some.ensures.found name c.in_ok-next-2.ensures.found (sym c.in_ok-number-2.ensures) c.add-in-Some.ensures
