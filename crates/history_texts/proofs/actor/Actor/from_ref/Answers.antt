use Rattle.std.proofs.Common.{◌∙◌, ap, sym}
use Rattle.history_texts.proofs.ActorTexts.{answered, formed_there, plain_is, stands, time_of_words, time_there, words_same}
use Rattle.history_texts.proofs.actor.Actor.from_ref.Goals as goal

pub returns-in_default : goal.returns-in_default
returns-in_default c actor formed is = stands 32 _ _ _ (c.as_bytes.ensures ∙ ap (λ p. p.time) is) c.in_default.ensures

pub returns-in_default-parse_time : goal.returns-in_default-parse_time
returns-in_default-parse_time c actor formed is =
    time_there actor _ _ formed (words_same actor c.as_bytes.result.now _ _ (c.as_bytes.ensures ∙ ap (λ p. p.time) is) c.in-Some.ensures.0 c.in-Some.ensures.1) c.in_default-parse_time.ensures

pub returns : goal.returns
returns c =
    let time = c.in-Some-parse_time.ensures in
    let name = c.in_ok-name.ensures.items ∙ c.as_bytes-2.ensures in
    let email = c.in_ok-email.ensures.items ∙ c.as_bytes-3.ensures in
    let told = time_of_words c.as_bytes.result.now _ _ c.in-Some-parse_time.time c.in-Some.ensures.0 time in
    answered _ _ _ _ c.new.result c.new.ensures
    (λ i. record { name = sym name i; email = sym email i; time = (sym c.as_bytes.ensures ∙ told) i })
    (λ actor formed is.
    let words = words_same actor c.as_bytes.result.now _ _ (c.as_bytes.ensures ∙ ap (λ p. p.time) is) c.in-Some.ensures.0 c.in-Some.ensures.1 in
    formed_there actor _ _ _ _ _ formed (plain_is actor _ _ _ _ c.in-Some-parse_time.time formed (name ∙ ap (λ p. p.name) is) (email ∙ ap (λ p. p.email) is) words time) time)
