-- Ids' digits in a list.
use Rattle.std.proofs.Common.{◌≡◌, ◌∙◌, ap, sym, ℕ, List, [], map, Some, true}
use Rattle.std.specs.Prelude.{All}
use Rattle.std.specs.List.{list_all, slice_get}
use Rattle.std.specs.Option.{option_map}
use Rattle.std.proofs.lemmas.List.Sums.{AllPass-from_list_all, list_all-from_AllPass}
use Rattle.std.proofs.lemmas.Option.{slice_get_within, get_or_from_slice_get, slice_get-map}
use Rattle.bstr.specs.BStr.{bstr_bytes}
use Rattle.bstr.specs.declared.bstr.BStr.{BStr}
use Rattle.gix_hash.specs.Kind.{hex_len}
use Rattle.gix_hash.specs.declared.kind.Kind.{Kind}
use Rattle.gix_object_lines.specs.HexLine.{IsHex, is_id}
use Rattle.gix_object_lines.proofs.HexDigits.{is_id_of_hex}

pub all_ids_of_hex : (kind : Kind) (texts : List (List ℕ)) → All (IsHex (hex_len kind)) texts → list_all is_id texts ≡ true
all_ids_of_hex kind texts hex = list_all-from_AllPass is_id texts (λ k d below. is_id_of_hex kind _ (hex k d below))

-- where all pass it, each does
pub id_at : (digits : List BStr) (place : ℕ) (text : BStr) → list_all is_id (map bstr_bytes digits) ≡ true → slice_get digits place ≡ Some text → is_id (bstr_bytes text) ≡ true
id_at digits place text all at =
    let there : slice_get (map bstr_bytes digits) place ≡ Some (bstr_bytes text) = slice_get-map bstr_bytes digits place ∙ ap (option_map bstr_bytes) at in
    ap is_id (sym (get_or_from_slice_get (map bstr_bytes digits) place (bstr_bytes text) [] there))
    ∙ AllPass-from_list_all is_id (map bstr_bytes digits) all place [] (slice_get_within (map bstr_bytes digits) place (bstr_bytes text) there)
