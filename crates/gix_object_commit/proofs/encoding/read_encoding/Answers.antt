use Rattle.std.proofs.Common.{◌≡◌, ◌∙◌, ap, sym, Option, Some, None, List, ℕ, ◌++◌, ◌∷◌, refl}
use Rattle.std.specs.Prelude.{codes, IfSome}
use Rattle.gix_object_lines.specs.Bytes.{IsBeginningOf, Lacks}
use Rattle.gix_object_lines.proofs.Cuts.{cut_once}
use Rattle.gix_object_commit.specs.Commit.{encoding_text}
use Rattle.gix_object_commit.proofs.Lines.{line_shape, behind_same}
use Rattle.gix_object_commit.proofs.encoding.read_encoding.Goals as goal

-- the encoding that a line names is the one
same_name : (input text name rest shown : List ℕ) (encoding : Option (List ℕ)) (after : List ℕ) → input ≡ codes "encoding" ++ 32 ∷ text → text ≡ name ++ 10 ∷ rest → Lacks 10 name → shown ≡ name
    → IfSome encoding (Lacks 10) → (encoding ≡ None → IsBeginningOf (codes "encoding ") after → ⊥) → input ≡ encoding_text encoding ++ after → (Some shown ≡ encoding) × (rest ≡ after)
same_name input text name rest shown None after front cut lacks is in_line other whole = absurd (other refl (text, sym whole ∙ front))
same_name input text name rest shown (Some word) after front cut lacks is in_line other whole =
    let behind = behind_same input (codes "encoding") text (word ++ 10 ∷ after) front (whole ∙ line_shape (codes "encoding") word after) in
    let same = cut_once 10 name rest word after lacks in_line (sym cut ∙ behind) in
    (ap Some (is ∙ same.0), same.1)

pub returns-clause-every : goal.returns-clause-every
returns-clause-every c = λ encoding rest in_line other whole.
    let cut = rw c.in_ok-name.ensures.ok_part at c.split_once.ensures in
    same_name c.args.input.now _ _ _ _ encoding rest c.in-Some.ensures cut.0 cut.1 c.new.ensures in_line other whole
