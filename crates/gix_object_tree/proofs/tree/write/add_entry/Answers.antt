use Rattle.std.proofs.Common.{◌≡◌, ◌∙◌, ap, subst, sym, ◌≤◌, ◌<◌, ◌+◌, ◌∷◌, ◌++◌, ℕ, length, arith}
use Rattle.std.specs.Prelude.{MatchOption, Option, Some, None}
use Rattle.std.specs.Option.{SomeIff}
use Rattle.gix_hash.specs.Id.{raw_bytes}
use Rattle.gix_object_tree.specs.Entry.{item_of}
use Rattle.gix_object_tree.specs.Writing.{entry_text}
use Rattle.gix_object_tree.proofs.Written.{entry_length, raw_of}
use Rattle.gix_object_tree.proofs.tree.write.add_entry.Goals as goal

matched : (r : Option ℕ) (n : ℕ) → SomeIff r (n < 18446744073709551616) n → MatchOption r (18446744073709551616 ≤ n) (λ total. total ≡ n)
matched (Some x) n is = is.1
matched None n is = omega arith

pub returns : goal.returns
returns c =
    let item = item_of c.args.entry in
    let mode = c.as_bytes-mode.result.now in
    let name = c.as_bytes-2.result.now in
    let raw = c.as_bytes-id.result.now in
    let parts : entry_text item ≡ mode ++ 32 ∷ (name ++ 0 ∷ raw) =
    ap (λ t. t ++ 32 ∷ (item.name ++ 0 ∷ raw_bytes item.id)) (sym (c.as_bytes-mode.ensures ∙ c.as_bytes.ensures.text))
    ∙ ap (λ t. mode ++ 32 ∷ (t ++ 0 ∷ raw_bytes item.id)) (sym c.as_bytes-2.ensures)
    ∙ ap (λ t. mode ++ 32 ∷ (name ++ 0 ∷ t)) (sym (raw_of raw item.id c.as_bytes-id.ensures)) in
    let long = entry_length item mode name raw parts in
    let first = c.in_ok-checked_add.ensures in
    let total : c.in_ok-checked_add.field-0 + (length mode + length raw + 2) ≡ c.args.before + length (entry_text item) = omega (arith, long, first) in
    subst (λ n. MatchOption c.checked_add-2.result (18446744073709551616 ≤ n) (λ total. total ≡ n)) total (matched c.checked_add-2.result _ c.checked_add-2.ensures)
