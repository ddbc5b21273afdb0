-- An entry put together from the parts that a reader cut, and the parts that it lacked.
use Rattle.std.proofs.Common.{◌≡◌, ◌∙◌, ap, sym, subst, ℕ, ◌<◌, ◌≤◌, List, ◌∷◌, ◌++◌, length, take, drop, length-append, arith}
use Rattle.std.proofs.lemmas.List.{take-append-drop}
use Rattle.gix_hash.specs.Id.{Id}
use Rattle.gix_hash.specs.Kind.{byte_len}
use Rattle.gix_hash.specs.Views.{IsBytesOf}
use Rattle.gix_hash.specs.declared.kind.Kind.{Kind}
use Rattle.gix_object_lines.specs.Bytes.{Lacks}
use Rattle.gix_object_lines.proofs.Cuts.{cut_once}
use Rattle.gix_object_lines.proofs.CutLemmas.{lacks_it}
use Rattle.gix_object_tree.specs.ModeText.{Mode, SpellsMode, SpellsNoMode}
use Rattle.gix_object_tree.specs.Entry.{SpellsEntry, LacksMode}

pub whole_entry : (ids : Kind) (input text rest name after bytes left : List ℕ) (n : ℕ) (mode : Mode) (id : Id) → input ≡ text ++ 32 ∷ rest → SpellsMode text mode → rest ≡ name ++ 0 ∷ after → Lacks 0 name
    → bytes ≡ take n after → left ≡ drop n after → length bytes ≡ byte_len ids → IsBytesOf bytes id → SpellsEntry ids input (record { mode = mode; name = name; id = id }) left
whole_entry ids input text rest name after bytes left n mode id cut spelled later lacks front behind long is =
    let halves : after ≡ bytes ++ left = sym (take-append-drop n after) ∙ (λ j. sym front j ++ sym behind j) in record {
      text = text;
      bytes = bytes;
      mode = spelled;
      name = lacks;
      id = is;
      whole = long;
      spelled = cut ∙ ap (λ t. text ++ 32 ∷ t) (later ∙ ap (λ t. name ++ 0 ∷ t) halves);
    }

pub shorter : (input text rest name after left : List ℕ) (n : ℕ) → input ≡ text ++ 32 ∷ rest → rest ≡ name ++ 0 ∷ after → length left ≤ length after → length left < length input
shorter input text rest name after left n cut later less =
    let one = ap (λ (t : List ℕ). length t) cut in
    let sum = length-append text (32 ∷ rest) in
    let two = ap (λ (t : List ℕ). length t) later in
    let sum2 = length-append name (0 ∷ after) in
    omega arith

pub no_space : (input : List ℕ) → Lacks 32 input → LacksMode input
no_space input lacks text rest free is = absurd (lacks_it 32 input text rest is lacks)

pub bad_mode : (input text rest : List ℕ) → input ≡ text ++ 32 ∷ rest → Lacks 32 text → SpellsNoMode text → LacksMode input
bad_mode input text rest cut lacks none other behind free is =
    subst SpellsNoMode (cut_once 32 text rest other behind lacks free (sym cut ∙ is)).0 none
