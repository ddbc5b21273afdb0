use Rattle.std.proofs.Common.{◌≡◌, ◌∙◌, ap, sym, rules, true, not, ◌&&◌, ◌||◌, ◌++◌, ◌∷◌, [], map}
use Rattle.gix_ref_format.specs.Packed.{record_of}
use Rattle.std.specs.Ordering.{is_lt}
use Rattle.history_model.specs.Bytes.{by_bytes}
use Rattle.history_model.specs.Forms.{is_name}
use Rattle.history_check_names.specs.Packed.{is_ascending, record_names}
use Rattle.history_check_names.proofs.KeptNames.{follows_last}
use Rattle.history_check_names.proofs.packed.may_follow.Goals as goal

pub returns-in-Some : goal.returns-in-Some
returns-in-Some c = λ rises.
    let named : is_name (record_of c.args.next.now).name ≡ true = search rules in
    let up = ap (λ s. not s || is_ascending (record_names (map record_of c.args.records.now))) (sym c.if-not-sorted.false) ∙ rises in
    let told = follows_last c.args.records.now c.in-Some.last.now c.args.next.now c.comes_before.result (c.comes_before.ensures ∙ (λ i. is_lt (by_bytes (c.to_path.ensures i) (c.to_path-name.ensures i)))) c.in-Some.ensures.value up in
    told ∙ sym (λ i. named i && (not (c.if-not-sorted.false i) || is_ascending (record_names (map record_of c.args.records.now ++ record_of c.args.next.now ∷ []))))
