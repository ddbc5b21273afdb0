use Rattle.std.proofs.Common.{◌≡◌, ◌∙◌, ap, arith, inl, inr, refl, sym, subst, rules, false, true}
use Rattle.std.proofs.lemmas.Result.{err_from_is_err_and}
use Rattle.gix_hash.specs.Id.{id_of}
use Rattle.history_check_names.specs.Causes.{IsCollision}
use Rattle.history_check_names.specs.Sound.{IsApart}
use Rattle.history_check_objects.specs.Stored.{facts_in}
use Rattle.gix_ref_file.specs.Tree.{bytes_at}
use Rattle.history_model.specs.Bytes.{Bytes}
use Rattle.history_model.specs.Forms.{is_name, is_private}
use Rattle.history_model.specs.NameStates as states
use Rattle.history_check_names.proofs.Sizes.{long_faulty}
use Rattle.history_check_names.proofs.Told.{collision_cause, file_named, private_file, text_of, state_is, name_sound, name_causes}
use Rattle.history_check_names.proofs.file.test_name.Goals as goal

pub returns-then-not-is_name-clause-wrong : goal.returns-then-not-is_name-clause-wrong
returns-then-not-is_name-clause-wrong g c = λ honest there. let none : is_name c.args.name.items ≡ false = search rules in
    record { stands = there; below = c.requires.below; finished = c.requires.finished; bad = inl none }

pub returns-then-is_private-clause-wrong : goal.returns-then-is_private-clause-wrong
returns-then-is_private-clause-wrong g c = λ honest there. let private : is_private c.args.name.items ≡ true = search rules in (private_file c.args.kind (g.F.Files.history c.args.files.now).tree c.args.name.items there, private)

pub returns-then-len-gt-MAX_LOOSE-clause-wrong : goal.returns-then-len-gt-MAX_LOOSE-clause-wrong
returns-then-len-gt-MAX_LOOSE-clause-wrong g c = λ honest there.
    let tree = (g.F.Files.history c.args.files.now).tree in
    let named : is_name c.args.name.items ≡ true = search rules in
    let text = bytes_at tree c.args.name.items in
    record {
      stands = there;
      below = c.requires.below;
      finished = c.requires.finished;
      bad = inr (state_is c.args.kind (facts_in c.args.stored.now) tree c.args.name.items text text (text_of tree c.args.name.items there) named refl states.Faulty
          (long_faulty c.args.kind text (omega (arith, c.if-len-gt-MAX_LOOSE.true, c.requires.size honest))));
    }

pub returns-in-Holds-clause-sound : goal.returns-in-Holds-clause-sound
returns-in-Holds-clause-sound g c = λ honest text at.
    let tree = (g.F.Files.history c.args.files.now).tree in
    let facts = facts_in c.args.stored.now in
    let named : is_name c.args.name.items ≡ true = search rules in
    let common : is_private c.args.name.items ≡ false = search rules in
    let apart : IsApart c.args.kind tree c.args.name.items = subst (IsApart c.args.kind tree) c.deref-3.ensures.value (c.in_ok-test_apart.ensures.apart c.args.kind honest (c.requires.packed honest)) in
    name_sound c.args.kind facts tree c.args.name.items text c.in_ok-text.text.items at named (c.in_ok-text.ensures.found honest ∙ ap (bytes_at tree) c.deref-4.ensures.value) (id_of c.in-Holds.id) c.test_held.result common apart (ap (states.loose_state c.args.kind) (sym c.deref-5.ensures.value) ∙ c.in-Holds.ensures) c.test_held.ensures.held

pub returns-in-Holds-clause-wrong : goal.returns-in-Holds-clause-wrong
returns-in-Holds-clause-wrong g c = λ honest there.
    let tree = (g.F.Files.history c.args.files.now).tree in
    let facts = facts_in c.args.stored.now in
    let named : is_name c.args.name.items ≡ true = search rules in
    name_causes c.args.kind facts tree c.args.name.items (bytes_at tree c.args.name.items) c.in_ok-text.text.items (text_of tree c.args.name.items there) named (c.in_ok-text.ensures.found honest ∙ ap (bytes_at tree) c.deref-4.ensures.value) g.F.Files.reading_may_fail c.in-Holds.id c.args.name c.test_held.result refl (ap (states.loose_state c.args.kind) (sym c.deref-5.ensures.value) ∙ c.in-Holds.ensures) c.test_held.ensures.unheld

pub returns-in-Symbolic-clause-wrong : goal.returns-in-Symbolic-clause-wrong
returns-in-Symbolic-clause-wrong g c = λ honest there.
    let tree = (g.F.Files.history c.args.files.now).tree in
    let named : is_name c.args.name.items ≡ true = search rules in
    let target : Bytes = c.in-Symbolic.ensures.0 in (
      target,
      state_is c.args.kind (facts_in c.args.stored.now) tree c.args.name.items (bytes_at tree c.args.name.items) c.in_ok-text.text.items (text_of tree c.args.name.items there) named
          (c.in_ok-text.ensures.found honest ∙ ap (bytes_at tree) c.deref-4.ensures.value) (states.Symbolic target) (ap (states.loose_state c.args.kind) (sym c.deref-5.ensures.value) ∙ c.in-Symbolic.ensures.1),
    )

pub returns-clause-wrong : goal.returns-clause-wrong
returns-clause-wrong g c = λ honest there.
    let tree = (g.F.Files.history c.args.files.now).tree in
    let named : is_name c.args.name.items ≡ true = search rules in
    record {
      stands = there;
      below = c.requires.below;
      finished = c.requires.finished;
      bad = inr (state_is c.args.kind (facts_in c.args.stored.now) tree c.args.name.items (bytes_at tree c.args.name.items) c.in_ok-text.text.items (text_of tree c.args.name.items there) named
          (c.in_ok-text.ensures.found honest ∙ ap (bytes_at tree) c.deref-4.ensures.value) states.Faulty (ap (states.loose_state c.args.kind) (sym c.deref-5.ensures.value) ∙ c.in-Faulty.ensures));
    }

pub returns-in_err-test_apart-clause-wrong : goal.returns-in_err-test_apart-clause-wrong
returns-in_err-test_apart-clause-wrong g c = λ honest there.
    let tree = (g.F.Files.history c.args.files.now).tree in
    let facts = facts_in c.args.stored.now in
    let named : is_name c.args.name.items ≡ true = search rules in
    let common : is_private c.args.name.items ≡ false = search rules in
    let reads = c.requires.packed honest in
    let p = err_from_is_err_and c.from_residual.result c.from_residual.ensures.1 in
    rw (p.1, p.2) (collision_cause g.F.Files.reading_may_fail c.args.kind facts tree c.args.name.items c.in_err-test_apart.field-0.0 reads.good common (file_named c.args.kind tree c.args.name.items named there)
    (subst (λ n. IsCollision g.F.Files.reading_may_fail c.args.kind tree n c.in_err-test_apart.field-0.0) c.deref-3.ensures.value (c.in_err-test_apart.ensures.collides c.args.kind honest reads)))
