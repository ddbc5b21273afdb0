use Rattle.std.proofs.Common.{◌∙◌, ap, subst, rules}
use Rattle.std.specs.Prelude.{FitsSigned}
use Rattle.std.specs.Fmt.{signed_decimal}
use Rattle.std.specs.Int.{w64, w32}
use Rattle.std.specs.Io.KnownBytes.{Appends}
use Rattle.std.proofs.lemmas.Int.{to_z-of_z}
use Rattle.gix_object_lines.specs.Time.{IsSpellableOffset, offset_text}
use Rattle.gix_hash.specs.Writes.{AppendsFewer}
use Rattle.gix_object_lines.proofs.ActorLemmas.{line_parts, actor_written}
use Rattle.gix_object_lines.proofs.lines.actor.write_actor_parts.Goals as goal

pub returns-in-Err-clause-written : goal.returns-in-Err-clause-written
returns-in-Err-clause-written g c =
    let fits : FitsSigned w64 c.args.time.seconds = search rules in
    let small : FitsSigned w32 c.args.time.offset = search rules in
    let seconds = c.as_bytes-seconds.ensures.value ∙ c.format.ensures.text ∙ ap signed_decimal (to_z-of_z w64 c.args.time.seconds fits) in
    let offset = c.in-Some.ensures.0 ∙ ap offset_text (to_z-of_z w32 c.args.time.offset small) in (
      record { name_plain = c.is_plain.ensures.0 c.if-not-is_plain.false; email_plain = c.is_plain-2.ensures.0 c.if-not-is_plain-2.false; offset_spellable = subst IsSpellableOffset (to_z-of_z w32 c.args.time.offset small) c.in-Some.ensures.1 },
      subst (AppendsFewer _ _) (line_parts c.args.name.now c.args.email.now c.args.time _ _ seconds offset) c.in-Err.ensures.err,
    )

pub returns-clause-written : goal.returns-clause-written
returns-clause-written g c =
    let fits : FitsSigned w64 c.args.time.seconds = search rules in
    let small : FitsSigned w32 c.args.time.offset = search rules in
    let seconds = c.as_bytes-seconds.ensures.value ∙ c.format.ensures.text ∙ ap signed_decimal (to_z-of_z w64 c.args.time.seconds fits) in
    let offset = c.in-Some.ensures.0 ∙ ap offset_text (to_z-of_z w32 c.args.time.offset small) in (
      record { name_plain = c.is_plain.ensures.0 c.if-not-is_plain.false; email_plain = c.is_plain-2.ensures.0 c.if-not-is_plain-2.false; offset_spellable = subst IsSpellableOffset (to_z-of_z w32 c.args.time.offset small) c.in-Some.ensures.1 },
      subst (Appends _ _) (line_parts c.args.name.now c.args.email.now c.args.time _ _ seconds offset) c.in_default-write_parts.ensures.ok,
    )

pub returns-clause-spelled : goal.returns-clause-spelled
returns-clause-spelled g c =
    let fits : FitsSigned w64 c.args.time.seconds = search rules in
    let small : FitsSigned w32 c.args.time.offset = search rules in
    actor_written c.args.name.now c.args.email.now c.args.time fits (record { name_plain = c.is_plain.ensures.0 c.if-not-is_plain.false; email_plain = c.is_plain-2.ensures.0 c.if-not-is_plain-2.false; offset_spellable = subst IsSpellableOffset (to_z-of_z w32 c.args.time.offset small) c.in-Some.ensures.1 })
