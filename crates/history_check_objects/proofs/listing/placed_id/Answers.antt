use Rattle.std.proofs.Common.{◌≡◌, ◌∙◌, ◌++◌, ◌-◌, sym, ap, take, drop, length, length-drop, arith, rules, List, ℕ}
use Rattle.history_check_objects.proofs.Steps.{take_whole}
use Rattle.gix_hash.specs.Id.{id_of}
use Rattle.history_check_objects.proofs.Listings.{other_place}
use Rattle.history_check_objects.proofs.listing.placed_id.Goals as goal

pub returns : goal.returns
returns c = λ id formed is.
    let path = c.args.path.now in
    let cut : c.deref.result.now ≡ take 2 (drop 8 path) ++ drop 11 path = c.deref.ensures.value ∙ c.in_ok-extend_from_slice.ensures.items ∙ ap (λ (t : List ℕ). t ++ take (length path - 11) (drop 11 path)) c.in_ok-digits.ensures.items ∙ ap (λ (t : List ℕ). take 2 (drop 8 path) ++ t) (take_whole (drop 11 path) (length path - 11) (omega (arith, length-drop 11 path))) in
    let apart : c.in_ok-place.place.items ≡ path → ⊥ = λ same. search rules in
    apart (c.in_ok-place.ensures ∙ sym (other_place c.args.kind id (id_of c.in-Some.id) path c.deref.result.now formed c.in-Some.ensures.0 is cut c.in-Some.ensures.1))
