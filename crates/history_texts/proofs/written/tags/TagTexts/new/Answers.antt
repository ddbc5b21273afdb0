use Rattle.std.proofs.Common.{◌∙◌, ap, ◌∷◌, ◌++◌}
use Rattle.std.specs.Prelude.{codes}
use Rattle.history_texts.proofs.TagLines.{after_name, after_tagger, after_type, first_rest, fourth_rest, none_so, second_rest, third_rest}
use Rattle.history_texts.proofs.written.tags.TagTexts.new.Goals as goal

pub returns-in_err-rest : goal.returns-in_err-rest
returns-in_err-rest c =
    none_so _ _ c.from_residual-in_err-rest.result c.from_residual-in_err-rest.ensures (λ parts are is.
    c.in_err-rest.ensures (after_type parts) (first_rest parts are c.args.content.now c.in_ok-target.target.now c.in_ok-target.rest.now is c.in_ok-target.ensures.0 c.in_ok-target.ensures.1))

pub returns-in_err-name : goal.returns-in_err-name
returns-in_err-name c =
    none_so _ _ c.from_residual-in_err-name.result c.from_residual-in_err-name.ensures (λ parts are is.
    c.in_err-name.ensures parts.name (after_name parts) are.name
    (second_rest parts are c.args.content.now c.in_ok-target.target.now c.in_ok-target.rest.now is c.in_ok-target.ensures.0 c.in_ok-target.ensures.1 c.in_ok-rest.rest.now c.in_ok-rest.ensures))

pub returns-in_err-tagger : goal.returns-in_err-tagger
returns-in_err-tagger c =
    none_so _ _ c.from_residual-in_err-tagger.result c.from_residual-in_err-tagger.ensures (λ parts are is.
    c.in_err-tagger.ensures parts.tagger (after_tagger parts) are.tagger
    (third_rest parts are c.args.content.now c.in_ok-target.target.now c.in_ok-target.rest.now is c.in_ok-target.ensures.0 c.in_ok-target.ensures.1 c.in_ok-rest.rest.now c.in_ok-rest.ensures
    c.in_ok-name.name.now c.in_ok-name.rest.now c.in_ok-name.ensures.0 c.in_ok-name.ensures.1))

pub returns-in_err-message : goal.returns-in_err-message
returns-in_err-message c =
    none_so _ _ c.from_residual-in_err-message.result c.from_residual-in_err-message.ensures (λ parts are is.
    c.in_err-message.ensures parts.message
    (fourth_rest parts are c.args.content.now c.in_ok-target.target.now c.in_ok-target.rest.now is c.in_ok-target.ensures.0 c.in_ok-target.ensures.1 c.in_ok-rest.rest.now c.in_ok-rest.ensures
    c.in_ok-name.name.now c.in_ok-name.rest.now c.in_ok-name.ensures.0 c.in_ok-name.ensures.1 c.in_ok-tagger.tagger.now c.in_ok-tagger.rest.now c.in_ok-tagger.ensures.0 c.in_ok-tagger.ensures.1))

pub returns : goal.returns
returns c = (
  record { target = c.in_ok-target.ensures.0; name = c.in_ok-name.ensures.0; tagger = c.in_ok-tagger.ensures.0 },
  c.in_ok-target.ensures.1 ∙ ap (λ rest. codes "object " ++ (c.in_ok-target.target.now ++ 10 ∷ rest))
      (c.in_ok-rest.ensures ∙ ap (λ rest. codes "type commit\n" ++ rest)
      (c.in_ok-name.ensures.1 ∙ ap (λ rest. codes "tag " ++ (c.in_ok-name.name.now ++ 10 ∷ rest))
      (c.in_ok-tagger.ensures.1 ∙ ap (λ rest. codes "tagger " ++ (c.in_ok-tagger.tagger.now ++ 10 ∷ rest)) c.in_ok-message.ensures))),
)
