use Rattle.std.proofs.Common.{◌≡◌, ◌∙◌, ◌-◌, ◌<◌, ◌≤◌, ap, sym, arith, drop, take, length, length-drop}
use Rattle.gix_hash.specs.Id.{id_of}
use Rattle.history_model.specs.Forms.{max_content}
use Rattle.history_model.specs.Objects.{digest, object_text}
use Rattle.history_model.proofs.IdLemmas.{one_id}
use Rattle.history_check_objects.specs.Flaws.{IsTooLong}
use Rattle.history_check_objects.proofs.Steps.{take_whole}
use Rattle.history_check_objects.proofs.Texts.{is_object, text_flaw, too_large}
use Rattle.std.proofs.lemmas.Bool.{not-false}
use Rattle.history_check_objects.proofs.reading.found_in.Goals as goal

pub returns-then-content-gt-MAX_CONTENT-clause-flaw :
    goal.returns-then-content-gt-MAX_CONTENT-clause-flaw
returns-then-content-gt-MAX_CONTENT-clause-flaw c = λ tree has.
    let content = take (length c.args.text.now - c.in-Some.start) (drop c.in-Some.start c.args.text.now) in
    let whole = take_whole (drop c.in-Some.start c.args.text.now) (length c.args.text.now - c.in-Some.start) (omega (arith, length-drop c.in-Some.start c.args.text.now)) in
    let long : max_content < length content = omega (arith, c.if-content-gt-MAX_CONTENT.true) in
    text_flaw c.args.kind tree (id_of c.args.id.now) c.args.place.items c.args.text.now has (λ id text. IsTooLong text) (too_large c.args.text.now content c.in-Some.object (c.in-Some.ensures.text ∙ ap (object_text c.in-Some.object) (sym whole)) long)

pub returns-in-Some-2-clause-read : goal.returns-in-Some-2-clause-read
returns-in-Some-2-clause-read c = λ tree has.
    let content = take (length c.args.text.now - c.in-Some.start) (drop c.in-Some.start c.args.text.now) in
    let whole = take_whole (drop c.in-Some.start c.args.text.now) (length c.args.text.now - c.in-Some.start) (omega (arith, length-drop c.in-Some.start c.args.text.now)) in
    let within : length content ≤ max_content = omega (arith, c.if-content-gt-MAX_CONTENT.false) in
    let own : id_of c.args.id.now ≡ digest c.args.kind c.args.text.now = sym (one_id _ _ (not-false _ (sym c.ne.ensures ∙ c.if-ne.false))) ∙ c.digest_of.ensures in
    record {
      content = content;
      object = is_object c.args.kind tree (id_of c.args.id.now) c.args.place.items c.args.text.now has c.in-Some.object content (c.in-Some.ensures.text ∙ ap (object_text c.in-Some.object) (sym whole)) own (sym c.is_reserved.ensures ∙ c.if-is_reserved.false) within _
          (rw c.in-Some-2.is at c.in_ok-links.ensures);
    }
