-- Where a message's title ends.
use Rattle.std.proofs.Common.{◌≡◌, ◌∙◌, refl, ap, cond, not, ◌==◌, [], ◌∷◌, ◌++◌}
use Rattle.std.specs.List.{list_any}
use Rattle.std.proofs.lemmas.List.Sums.{take_while-cons}
use Rattle.gix_object_lines.specs.Bytes.{Lacks}
use Rattle.history_model.specs.Bytes.{Bytes}
use Rattle.history_model.specs.Forms.{title}
use Rattle.std.proofs.lemmas.Bool.{or_parts}

pub title_before : (front rest : Bytes) → Lacks 10 front → title (front ++ 10 ∷ rest) ≡ front
title_before [] rest lacks = take_while-cons (λ c. not (c == 10)) 10 rest
title_before (b ∷ front) rest lacks =
    let parts = or_parts (b == 10) (list_any (λ other. other == 10) front) lacks in
    take_while-cons (λ c. not (c == 10)) b (front ++ 10 ∷ rest) ∙ ap (λ t. cond (not t) (b ∷ title (front ++ 10 ∷ rest)) []) parts.0 ∙ ap (λ text. b ∷ text) (title_before front rest parts.1)

pub title_whole : (message : Bytes) → Lacks 10 message → title message ≡ message
title_whole [] lacks = refl
title_whole (b ∷ message) lacks =
    let parts = or_parts (b == 10) (list_any (λ other. other == 10) message) lacks in
    take_while-cons (λ c. not (c == 10)) b message ∙ ap (λ t. cond (not t) (b ∷ title message) []) parts.0 ∙ ap (λ text. b ∷ text) (title_whole message parts.1)
