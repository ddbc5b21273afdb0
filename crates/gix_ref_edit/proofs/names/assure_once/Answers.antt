use Rattle.std.proofs.Common.{◌∙◌, ap, sym, subst, map, List, ℕ}
use Rattle.gix_ref_edit.specs.Names.{IsLeastTwice, first_twice, names_of}
use Rattle.gix_ref_edit.proofs.NameLemmas.{once_arranged, twice_arranged}
use Rattle.gix_ref_edit.proofs.names.assure_once.Goals as goal

pub returns-in-Some-clause-twice : goal.returns-in-Some-clause-twice
returns-in-Some-clause-twice c =
    subst (λ (n : List ℕ). IsLeastTwice (names_of c.args.edits.now) n) (sym c.in_ok-from_slice-in-Some.ensures)
    (twice_arranged (names_of c.args.edits.now) (map (λ name. name.now) c.in_ok-names.names.items) c.in-Some.name.now c.in_ok-names.ensures
    (sym (ap (λ l. first_twice (map (λ name. name.now) l)) c.as_slice.ensures.value) ∙ sym c.in-Some.ensures))

pub returns-clause-once : goal.returns-clause-once
returns-clause-once c =
    once_arranged (names_of c.args.edits.now) (map (λ name. name.now) c.in_ok-names.names.items) c.in_ok-names.ensures
    (sym (ap (λ l. first_twice (map (λ name. name.now) l)) c.as_slice.ensures.value) ∙ sym c.in-None.ensures)
