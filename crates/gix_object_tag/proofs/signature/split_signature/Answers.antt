use Rattle.std.proofs.Common.{◌≡◌, ◌∙◌, ◌+◌, ◌-◌, ◌<◌, ◌++◌, ℕ, List, ap, sym, subst, inl, inr, take, drop, length, length-drop, length-take-le, arith}
use Rattle.std.specs.Prelude.{slice_index}
use Rattle.std.proofs.lemmas.Bool.Decides.{Decides-eqb}
use Rattle.std.proofs.lemmas.List.{take-append-drop, get_or-take, take_all}
use Rattle.gix_object_signature.specs.Armor.{BeginsArmor, BeginsNoArmor}
use Rattle.gix_object_tag.proofs.ArmorLemmas.{none_behind, none_from, not_at, line_at, signed_at, nowhere_behind}
use Rattle.gix_object_tag.proofs.signature.split_signature.Goals as goal

-- all that follows a place
all_behind : (text : List ℕ) (at : ℕ) → take (length text - at) (drop at text) ≡ drop at text
all_behind text at = take_all (length text - at) (drop at text) (omega (arith, length-drop at text))

pub returns-then-begins_armor : goal.returns-then-begins_armor
returns-then-begins_armor c =
    let text = c.args.text.now in
    let at = c.in-Some.line_feed in
    let end = c.lines.end in
    let within = c.lines.invariant.within in
    let found = c.in-Some.ensures in
    let len = length-take-le end text within in
    let below : at < end = omega (arith, found.0.high) in
    let feed : slice_index text at ≡ 10 = sym (get_or-take end text at 0 below) ∙ (Decides-eqb (slice_index (take end text) at) 10).0 found.1 in
    let none = nowhere_behind text end (at + 1) within found.0.after in
    let front : c.split_at.result.0.now ≡ take (at + 1) text = c.split_at.ensures.front in
    let back : c.split_at.result.1.now ≡ drop (at + 1) text = c.split_at.ensures.back in
    let armor = c.begins_armor.ensures.yes c.if-begins_armor.true in
    signed_at text c.split_at.result.0.now c.split_at.result.1.now
    (sym (take-append-drop (at + 1) text) ∙ ap (λ t. t ++ drop (at + 1) text) (sym front) ∙ ap (λ t. c.split_at.result.0.now ++ t) (sym back))
    (inr (take at text, front ∙ line_at text at (omega arith) feed))
    (armor.0, subst (λ t. BeginsArmor t armor.0) (all_behind text (at + 1) ∙ sym back) armor.1)
    (λ other rest armored.
    let most = none_behind text (at + 1) end none other rest armored (c.lines.invariant.before other rest armored) in
    omega (arith, ap length front, length-take-le (at + 1) text (omega arith)))

pub lines-preserved : goal.lines-preserved
lines-preserved c =
    let text = c.args.text.now in
    let at = c.in-Some.line_feed in
    let end = c.lines.end in
    let within = c.lines.invariant.within in
    let found = c.in-Some.ensures in
    let len = length-take-le end text within in
    let none = nowhere_behind text end (at + 1) within found.0.after in
    let bare : BeginsNoArmor (drop (at + 1) text) = subst BeginsNoArmor (all_behind text (at + 1)) (c.begins_armor.ensures.no c.if-begins_armor.false) in
    record {
      within = omega (arith, found.0.high);
      before = λ front signature armored.
          none_from text at bare front signature armored (none_behind text (at + 1) end none front signature armored (c.lines.invariant.before front signature armored));
    }

pub returns-then-begins_armor-2 : goal.returns-then-begins_armor-2
returns-then-begins_armor-2 c =
    let text = c.args.text.now in
    let end = c.lines.end in
    let within = c.lines.invariant.within in
    let none = nowhere_behind text end 0 within c.in_default.ensures in
    let armor = c.begins_armor-2.ensures.yes c.if-begins_armor-2.true in
    let front = c.split_at-then-begins_armor-2.ensures.front in
    let back = c.split_at-then-begins_armor-2.ensures.back in
    signed_at text c.split_at-then-begins_armor-2.result.0.now c.split_at-then-begins_armor-2.result.1.now
    (sym back ∙ ap (λ t. t ++ c.split_at-then-begins_armor-2.result.1.now) (sym front))
    (inl front)
    (armor.0, subst (λ t. BeginsArmor t armor.0) (sym back) armor.1)
    (λ other rest armored.
    let most = none_behind text 0 end none other rest armored (c.lines.invariant.before other rest armored) in
    omega arith)

pub returns : goal.returns
returns c = λ front signature armored.
    let text = c.args.text.now in
    let end = c.lines.end in
    let none = nowhere_behind text end 0 c.lines.invariant.within c.in_default.ensures in
    let most = none_behind text 0 end none front signature armored (c.lines.invariant.before front signature armored) in
    not_at text 0 (c.begins_armor-2.ensures.no c.if-begins_armor-2.false) front signature armored (omega arith)
