use Rattle.std.proofs.Common.{◌≡◌, ◌∙◌, sym, ap, subst, rules, Ok, to_z, of_z, w64}
use Rattle.bstr.specs.BStr.{bstr_bytes}
use Rattle.gix_object_lines.specs.Actor.{SpellsActor}
use Rattle.gix_object_lines.specs.Time.{SpellsTime}
use Rattle.gix_object_signature.proofs.SignerLemmas.{ok_is, same_line}
use Rattle.gix_object_signature.proofs.verify.signed_time.seconds_of.Goals as goal

pub returns-in_err-time : goal.returns-in_err-time
returns-in_err-time c =
    rw c.from_residual-in_err-time.ensures
    (λ seconds told.
    let actor : c.read_actor.result ≡ Ok c.in_ok-actor.actor = ok_is c.read_actor.result c.in_ok-actor.actor (sym c.ok.ensures.value ∙ c.in_ok-actor.was) in
    let signer : told.signer ≡ c.in_ok-signer.signer.now = same_line told.signed (sym c.in_ok-signer.ensures) in
    let facts = rw actor at (c.read_actor.ensures.every told.name told.email told.text (subst (λ s. SpellsActor s told.name told.email told.text) signer told.actor)) in
    let time : c.read_time.result ≡ Ok told.time = c.read_time.ensures.every told.time (subst (λ t. SpellsTime t told.time) (sym facts.2 ∙ sym c.as_bytes.ensures) told.moment) in
    let none = rw time at (sym c.ok-2.ensures.value ∙ c.in_err-time.was) in
    absurd cc)

pub returns : goal.returns
returns c =
    let actor : c.read_actor.result ≡ Ok c.in_ok-actor.actor = ok_is c.read_actor.result c.in_ok-actor.actor (sym c.ok.ensures.value ∙ c.in_ok-actor.was) in
    let time : c.read_time.result ≡ Ok c.in_ok-time.time = ok_is c.read_time.result c.in_ok-time.time (sym c.ok-2.ensures.value ∙ c.in_ok-time.was) in (
      record {
        signer = c.in_ok-signer.signer.now;
        signed = sym c.in_ok-signer.ensures;
        name = bstr_bytes c.in_ok-actor.actor.name;
        email = bstr_bytes c.in_ok-actor.actor.email;
        text = bstr_bytes c.in_ok-actor.actor.time;
        time = c.in_ok-time.time;
        actor = rw actor at c.read_actor.ensures.read;
        moment = subst (λ t. SpellsTime t c.in_ok-time.time) c.as_bytes.ensures (rw time at c.read_time.ensures.read);
        seconds_are = search rules;
      },
      λ other told.
          let signer : told.signer ≡ c.in_ok-signer.signer.now = same_line told.signed (sym c.in_ok-signer.ensures) in
          let facts = rw actor at (c.read_actor.ensures.every told.name told.email told.text (subst (λ s. SpellsActor s told.name told.email told.text) signer told.actor)) in
          let same = sym time ∙ c.read_time.ensures.every told.time (subst (λ t. SpellsTime t told.time) (sym facts.2 ∙ sym c.as_bytes.ensures) told.moment) in
          let one : c.in_ok-time.time ≡ told.time = cc in
          let stays : to_z w64 (of_z w64 c.in_ok-time.time.seconds) ≡ c.in_ok-time.time.seconds = search rules in
          told.seconds_are ∙ ap (λ t. t.seconds) (sym one) ∙ sym stays,
    )
