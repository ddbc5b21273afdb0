use Rattle.std.proofs.Common.{◌≡◌, ◌∙◌, ap, sym, rules, Bool, true, false, not, refl}
use Rattle.std.specs.Prelude.{FitsSigned}
use Rattle.std.specs.Int.{w32}
use Rattle.std.proofs.lemmas.Int.{to_z-of_z}
use Rattle.gix_object_tag.specs.OwnedText.{is_bad_offset}
use Rattle.gix_object_tag.specs.TagText.{is_marked}
use Rattle.gix_object_tag.proofs.ActorLines.{spellable}
use Rattle.gix_object_tag.proofs.tag.spelling.is_spellable.Goals as goal
use Rattle.std.proofs.lemmas.Bool.{not-true}

pub returns-clause-yes : goal.returns-clause-yes
returns-clause-yes c = λ e.
    let actor = c.args.actor.now in
    let small : FitsSigned w32 actor.time.offset = search rules in
    spellable actor.name actor.email actor.time
    (ap is_marked (sym c.as_bytes.ensures) ∙ sym c.is_marked.ensures ∙ c.if-is_marked.false)
    (ap is_marked (sym c.as_bytes-2.ensures) ∙ sym c.is_marked-2.ensures ∙ c.if-is_marked-2.false)
    (ap is_bad_offset (sym (to_z-of_z w32 actor.time.offset small)) ∙ sym c.is_bad_offset.ensures ∙ not-true c.is_bad_offset.result e)
