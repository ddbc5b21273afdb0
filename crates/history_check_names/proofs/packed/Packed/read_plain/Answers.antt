use Rattle.std.proofs.Common.{◌≡◌, ◌∙◌, ◌+◌, ◌||◌, ◌&&◌, ◌++◌, ◌∷◌, [], List, Bool, IsTrue, not, map, ap, arith, refl, subst, sym}
use Rattle.gix_ref_format.specs.Packed.{item_view, record_of}
use Rattle.gix_ref_format.specs.PackedIter.{items_left}
use Rattle.gix_ref_format.specs.declared.packed.Reference.{Reference}
use Rattle.history_model.specs.Forms.{is_name}
use Rattle.history_check_names.specs.Packed.{is_ascending, record_names}
use Rattle.history_check_names.proofs.KeptNames.{one_put, was_kept, was_new}
use Rattle.history_check_names.proofs.PackedTexts.{bad_header}
use Rattle.history_check_names.proofs.ReadSoFar.{all_so, bad_follow, bad_item, bad_twice, one_next, rises, small}
use Rattle.history_check_names.proofs.packed.Packed.read_plain.Goals as goal

-- whether the next record may follow the kept ones, if those ascend or needn't
abbrev Tells : Bool → List Reference → Reference → Bool → Type 0
Tells sorted records one may = IsTrue (not sorted || is_ascending (record_names (map record_of records)))
    → may ≡ (is_name (record_of one).name && (not sorted || is_ascending (record_names (map record_of records ++ record_of one ∷ []))))

pub returns-in_default : goal.returns-in_default
returns-in_default c = bad_header c.args.kind c.args.text.now c.in_default.ensures.0

pub returns-in-Err : goal.returns-in-Err
returns-in-Err c =
    bad_item c.args.kind c.args.text.now (items_left c.loop-item.left) c.loop-item.records.items c.loop-item.names.keys c.says_sorted-sorted.result c.loop-item.number c.loop-item.invariant.2
    c.in-Err.field-0 (items_left c.next.new.self) (c.in-Some.ensures.steps ∙ ap (λ item. item_view item ∷ items_left c.next.new.self) c.in-Err.is)

pub returns-then-not-may_follow : goal.returns-then-not-may_follow
returns-then-not-may_follow c =
    let so_far = c.loop-item.invariant.2 in
    let sorted = c.says_sorted-sorted.result in
    let one = c.in-Ok-item.record in
    let told = subst (λ rs. Tells sorted rs one c.may_follow.result) c.deref.ensures.value c.may_follow.ensures in
    let up = rises c.args.kind c.args.text.now (items_left c.loop-item.left) c.loop-item.records.items c.loop-item.names.keys sorted c.loop-item.number so_far in
    bad_follow c.args.kind c.args.text.now (items_left c.loop-item.left) c.loop-item.records.items c.loop-item.names.keys sorted c.loop-item.number so_far
    one (items_left c.next.new.self) (c.in-Some.ensures.steps ∙ ap (λ item. item_view item ∷ items_left c.next.new.self) c.in-Ok-item.is) (sym (told up) ∙ c.if-not-may_follow.true)

pub returns-then-not-branch : goal.returns-then-not-branch
returns-then-not-branch c =
    let one = c.in-Ok-item.record in
    bad_twice c.args.kind c.args.text.now (items_left c.loop-item.left) c.loop-item.records.items c.loop-item.names.keys c.says_sorted-sorted.result c.loop-item.number c.loop-item.invariant.2
    one (items_left c.next.new.self) (c.in-Some.ensures.steps ∙ ap (λ item. item_view item ∷ items_left c.next.new.self) c.in-Ok-item.is)
    (was_kept c.loop-item.names.keys c.to_path.result (record_of one).name c.in_ok-insert.field-0 c.to_path.ensures c.in_ok-insert.ensures.added c.if-not-branch.true)

pub overflow_add-number : goal.overflow_add-number
overflow_add-number c =
    let few = small c.args.kind c.args.text.now (items_left c.loop-item.left) c.loop-item.records.items c.loop-item.names.keys c.says_sorted-sorted.result c.loop-item.number c.loop-item.invariant.2
    c.in-Ok-item.record (items_left c.next.new.self) (c.in-Some.ensures.steps ∙ ap (λ item. item_view item ∷ items_left c.next.new.self) c.in-Ok-item.is) in
    omega (arith, few, c.lines_of.ensures, c.type_inv.text)

pub loop-item-preserved : goal.loop-item-preserved
loop-item-preserved c =
    let so_far = c.loop-item.invariant.2 in
    let sorted = c.says_sorted-sorted.result in
    let one = c.in-Ok-item.record in
    let told = subst (λ rs. Tells sorted rs one c.may_follow.result) c.deref.ensures.value c.may_follow.ensures in
    let up = rises c.args.kind c.args.text.now (items_left c.loop-item.left) c.loop-item.records.items c.loop-item.names.keys sorted c.loop-item.number so_far in (
      tt,
      tt,
      one_next c.args.kind c.args.text.now (items_left c.loop-item.left) c.loop-item.records.items c.loop-item.names.keys sorted c.loop-item.number so_far
          one (items_left c.next.new.self) (c.in-Some.ensures.steps ∙ ap (λ item. item_view item ∷ items_left c.next.new.self) c.in-Ok-item.is)
          c.push.new.self.items c.insert.new.self.keys (c.loop-item.number + c.lines_of.result) (sym (told up) ∙ c.if-not-may_follow.false)
          (was_new c.loop-item.names.keys c.to_path.result (record_of one).name c.in_ok-insert.field-0 c.to_path.ensures c.in_ok-insert.ensures.added c.if-not-branch.false)
          c.in_ok-push.ensures.items
          (one_put c.loop-item.names.keys c.insert.new.self.keys c.to_path.result (record_of one).name c.to_path.ensures c.in_ok-insert.ensures.updates.0)
          (ap (λ n. c.loop-item.number + n) c.lines_of.ensures),
    )

pub returns : goal.returns
returns c =
    all_so c.args.kind c.args.text.now (items_left c.loop-item.left) c.loop-item.records.items c.loop-item.names.keys c.says_sorted-sorted.result c.loop-item.number c.loop-item.invariant.2
    c.in_default-next.ensures.steps.0 (record { records = c.loop-item.records; names = c.loop-item.names }) refl refl
