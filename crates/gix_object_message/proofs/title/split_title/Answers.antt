use Rattle.std.proofs.Common.{◌≡◌, ◌∙◌, ◌+◌, ◌<◌, ◌≤◌, ℕ, length, subst, arith}
use Rattle.memchr.specs.Find.{OccursAt}
use Rattle.std.proofs.lemmas.List.{take_rest}
use Rattle.gix_object_message.specs.Title.{short_break, long_break}
use Rattle.std.proofs.Common.{inl, inr, refl}
use Rattle.gix_object_message.proofs.TitleLemmas.{parts_at, parts_none, found_at, found_none, within, short_first, long_first, no_break, apart}
use Rattle.gix_object_message.proofs.title.split_title.Goals as goal

pub returns-then-short-long-clause-title : goal.returns-then-short-long-clause-title
returns-then-short-long-clause-title c =
    let short = found_at _ short_break _ _ c.find-short.ensures c.in-Some-Some.is-0 in
    let long = found_at _ long_break _ _ c.find-long.ensures c.in-Some-Some.is-1 in
    (short_first c.args.message.now c.in-Some-Some.short short.0 short.1 (within _ _ c.in-Some-Some.long _ (omega arith) long.1)).0

pub returns-then-short-long-clause-rest : goal.returns-then-short-long-clause-rest
returns-then-short-long-clause-rest c =
    let short = found_at _ short_break _ _ c.find-short.ensures c.in-Some-Some.is-0 in
    let long = found_at _ long_break _ _ c.find-long.ensures c.in-Some-Some.is-1 in
    take_rest c.args.message.now (c.in-Some-Some.short + 2) ∙ (short_first c.args.message.now c.in-Some-Some.short short.0 short.1 (within _ _ c.in-Some-Some.long _ (omega arith) long.1)).1

strictly : (long short : ℕ) → long ≤ short → (long ≡ short → ⊥) → long < short
strictly long short low differs = omega arith

pub returns-else-short-long-clause-title : goal.returns-else-short-long-clause-title
returns-else-short-long-clause-title c =
    let short = found_at _ short_break _ _ c.find-short.ensures c.in-Some-Some.is-0 in
    let long = found_at _ long_break _ _ c.find-long.ensures c.in-Some-Some.is-1 in
    let below = c.if-short-long.false in
    let behind : c.in-Some-Some.long < c.in-Some-Some.short = strictly _ _ below (λ same. apart _ _ short.0 (subst (OccursAt c.args.message.now long_break) same long.0)) in
    (long_first c.args.message.now c.in-Some-Some.long long.0 (within _ _ c.in-Some-Some.short _ (omega arith) short.1) long.1).0

pub returns-else-short-long-clause-rest : goal.returns-else-short-long-clause-rest
returns-else-short-long-clause-rest c =
    let short = found_at _ short_break _ _ c.find-short.ensures c.in-Some-Some.is-0 in
    let long = found_at _ long_break _ _ c.find-long.ensures c.in-Some-Some.is-1 in
    let below = c.if-short-long.false in
    let behind : c.in-Some-Some.long < c.in-Some-Some.short = strictly _ _ below (λ same. apart _ _ short.0 (subst (OccursAt c.args.message.now long_break) same long.0)) in
    take_rest c.args.message.now (c.in-Some-Some.long + 4) ∙ (long_first c.args.message.now c.in-Some-Some.long long.0 (within _ _ c.in-Some-Some.short _ (omega arith) short.1) long.1).1

pub returns-in-Some-None-clause-title : goal.returns-in-Some-None-clause-title
returns-in-Some-None-clause-title c =
    let short = found_at _ short_break _ _ c.find-short.ensures c.in-Some-None.is-0 in
    let bound = short.0.fits in
    (short_first c.args.message.now c.in-Some-None.short short.0 short.1 (within _ _ (length c.args.message.now + 1) _ (omega arith) (found_none _ long_break _ c.find-long.ensures c.in-Some-None.is-1))).0

pub returns-in-Some-None-clause-rest : goal.returns-in-Some-None-clause-rest
returns-in-Some-None-clause-rest c =
    let short = found_at _ short_break _ _ c.find-short.ensures c.in-Some-None.is-0 in
    let bound = short.0.fits in
    take_rest c.args.message.now (c.in-Some-None.short + 2) ∙ (short_first c.args.message.now c.in-Some-None.short short.0 short.1 (within _ _ (length c.args.message.now + 1) _ (omega arith) (found_none _ long_break _ c.find-long.ensures c.in-Some-None.is-1))).1

pub returns-in-None-Some-clause-title : goal.returns-in-None-Some-clause-title
returns-in-None-Some-clause-title c =
    let long = found_at _ long_break _ _ c.find-long.ensures c.in-None-Some.is-1 in
    let bound = long.0.fits in
    (long_first c.args.message.now c.in-None-Some.long long.0 (within _ _ (length c.args.message.now + 1) _ (omega arith) (found_none _ short_break _ c.find-short.ensures c.in-None-Some.is-0)) long.1).0

pub returns-in-None-Some-clause-rest : goal.returns-in-None-Some-clause-rest
returns-in-None-Some-clause-rest c =
    let long = found_at _ long_break _ _ c.find-long.ensures c.in-None-Some.is-1 in
    let bound = long.0.fits in
    take_rest c.args.message.now (c.in-None-Some.long + 4) ∙ (long_first c.args.message.now c.in-None-Some.long long.0 (within _ _ (length c.args.message.now + 1) _ (omega arith) (found_none _ short_break _ c.find-short.ensures c.in-None-Some.is-0)) long.1).1

pub returns-in-None-None-clause-title : goal.returns-in-None-None-clause-title
returns-in-None-None-clause-title c =
    (no_break c.args.message.now (found_none _ short_break _ c.find-short.ensures c.in-None-None.is-0) (found_none _ long_break _ c.find-long.ensures c.in-None-None.is-1)).0

pub returns-in-None-None-clause-rest : goal.returns-in-None-None-clause-rest
returns-in-None-None-clause-rest c =
    (no_break c.args.message.now (found_none _ short_break _ c.find-short.ensures c.in-None-None.is-0) (found_none _ long_break _ c.find-long.ensures c.in-None-None.is-1)).1

pub returns-then-short-long-clause-parts : goal.returns-then-short-long-clause-parts
returns-then-short-long-clause-parts c =
    let text = c.args.message.now in
    let at = c.in-Some-Some.short in
    let short = found_at _ short_break _ _ c.find-short.ensures c.in-Some-Some.is-0 in
    let long = found_at _ long_break _ _ c.find-long.ensures c.in-Some-Some.is-1 in
    parts_at text short_break _ at (inl refl) short.0 short.1 (within _ _ c.in-Some-Some.long _ (omega arith) long.1) (take_rest text (at + 2))

pub returns-else-short-long-clause-parts : goal.returns-else-short-long-clause-parts
returns-else-short-long-clause-parts c =
    let text = c.args.message.now in
    let at = c.in-Some-Some.long in
    let short = found_at _ short_break _ _ c.find-short.ensures c.in-Some-Some.is-0 in
    let long = found_at _ long_break _ _ c.find-long.ensures c.in-Some-Some.is-1 in
    let below = c.if-short-long.false in
    parts_at text long_break _ at (inr refl) long.0 (within _ _ c.in-Some-Some.short _ below short.1) long.1 (take_rest text (at + 4))

pub returns-in-Some-None-clause-parts : goal.returns-in-Some-None-clause-parts
returns-in-Some-None-clause-parts c =
    let text = c.args.message.now in
    let at = c.in-Some-None.short in
    let short = found_at _ short_break _ _ c.find-short.ensures c.in-Some-None.is-0 in
    let bound = short.0.fits in
    parts_at text short_break _ at (inl refl) short.0 short.1 (within _ _ (length text + 1) _ (omega arith) (found_none _ long_break _ c.find-long.ensures c.in-Some-None.is-1)) (take_rest text (at + 2))

pub returns-in-None-Some-clause-parts : goal.returns-in-None-Some-clause-parts
returns-in-None-Some-clause-parts c =
    let text = c.args.message.now in
    let at = c.in-None-Some.long in
    let long = found_at _ long_break _ _ c.find-long.ensures c.in-None-Some.is-1 in
    let bound = long.0.fits in
    parts_at text long_break _ at (inr refl) long.0 (within _ _ (length text + 1) _ (omega arith) (found_none _ short_break _ c.find-short.ensures c.in-None-Some.is-0)) long.1 (take_rest text (at + 4))

pub returns-in-None-None-clause-parts : goal.returns-in-None-None-clause-parts
returns-in-None-None-clause-parts c =
    parts_none c.args.message.now (found_none _ short_break _ c.find-short.ensures c.in-None-None.is-0) (found_none _ long_break _ c.find-long.ensures c.in-None-None.is-1)
