-- Writing piece by piece.
use Rattle.std.proofs.Common.{◌≡◌, refl, sym, subst, ℕ, List, [], ◌∷◌, ◌++◌, Option, Some, None, Result, Ok, Err}
use Rattle.std.proofs.KnownBytes.{Appends-trans}
use Rattle.std.proofs.lemmas.List.{append-nil}
use Rattle.gix_object_lines.proofs.Fronts.{front_of, front_then}
use Rattle.gix_object_lines.specs.Writes.{Refusal, Writes}
use Rattle.gix_object_lines.specs.declared.write.Error.{Error}
use Rattle.gix_object_lines.specs.declared.write.Error.TheVariants.{Writer, Header, TagName, Filename}
use Rattle.gix_object_tag.specs.Pieces.{Piece, all_text, first_refusal, first_of}

-- the first piece stopped
pub first_stops : (a b : Option (List ℕ)) (text : List ℕ) (refusal : Option Refusal) (rest : List ℕ) (later : Option Refusal) (e : Error)
    → Writes {U = Unit {0}} a b text refusal (Err e) → Writes {U = Unit {0}} a b (text ++ rest) (first_of refusal text later) (Err e)
first_stops a b text None rest None (Writer x) h = front_of a b text rest (text ++ rest) refl h
first_stops a b text None rest (Some r) (Writer x) h = front_of a b text r.before (text ++ r.before) refl h
first_stops a b text None rest later (Header x) h = let e = h.0 in absurd cc
first_stops a b text None rest later (TagName x) h = let e = h.0 in absurd cc
first_stops a b text None rest later (Filename x) h = let e = h.0 in absurd cc
first_stops a b text (Some r) rest later (Writer x) h = h
first_stops a b text (Some r) rest later (Header x) h = h
first_stops a b text (Some r) rest later (TagName x) h = h
first_stops a b text (Some r) rest later (Filename x) h = h

-- the first piece was written
pub then_writes : (a b c : Option (List ℕ)) (text : List ℕ) (refusal : Option Refusal) (rest : List ℕ) (later : Option Refusal) (u : Unit {0}) (result : Result (Unit {0}) Error)
    → Writes {U = Unit {0}} a b text refusal (Ok u) → Writes {U = Unit {0}} b c rest later result → Writes {U = Unit {0}} a c (text ++ rest) (first_of refusal text later) result
then_writes a b c text (Some r) rest later u result h k = let e = h.0 in absurd cc
then_writes a b c text None rest None u (Ok v) h k = (refl, Appends-trans a b c text rest h.1 k.1)
then_writes a b c text None rest (Some r) u (Ok v) h k = let e = k.0 in absurd cc
then_writes a b c text None rest None u (Err (Writer x)) h k = front_then a b c text rest [] (text ++ rest) (sym (append-nil (text ++ rest))) h.1 k
then_writes a b c text None rest (Some r) u (Err (Writer x)) h k = front_then a b c text r.before [] (text ++ r.before) (sym (append-nil (text ++ r.before))) h.1 k
then_writes a b c text None rest None u (Err (Header x)) h k = let e = k.0 in absurd cc
then_writes a b c text None rest (Some r) u (Err (Header x)) h k = (k.0, Appends-trans a b c text r.before h.1 k.1)
then_writes a b c text None rest None u (Err (TagName x)) h k = let e = k.0 in absurd cc
then_writes a b c text None rest (Some r) u (Err (TagName x)) h k = (k.0, Appends-trans a b c text r.before h.1 k.1)
then_writes a b c text None rest None u (Err (Filename x)) h k = let e = k.0 in absurd cc
then_writes a b c text None rest (Some r) u (Err (Filename x)) h k = (k.0, Appends-trans a b c text r.before h.1 k.1)

-- the last piece
alone : (refusal : Option Refusal) (text : List ℕ) → first_of refusal text None ≡ refusal
alone None text = refl
alone (Some refusal) text = refl

-- ---- four pieces

module _ (a b : Option (List ℕ)) (p q r s : Piece) where
  pub stops_first : (e : Error) → Writes {U = Unit {0}} a b p.text p.refusal (Err e)
      → Writes {U = Unit {0}} a b (all_text (p ∷ q ∷ r ∷ s ∷ [])) (first_refusal (p ∷ q ∷ r ∷ s ∷ [])) (Err e)
  stops_first e = first_stops a b p.text p.refusal (all_text (q ∷ r ∷ s ∷ [])) (first_refusal (q ∷ r ∷ s ∷ [])) e

module _ (a b c : Option (List ℕ)) (p q r s : Piece) (u : Unit {0}) where
  pub stops_second : (e : Error) → Writes {U = Unit {0}} a b p.text p.refusal (Ok u) → Writes {U = Unit {0}} b c q.text q.refusal (Err e)
      → Writes {U = Unit {0}} a c (all_text (p ∷ q ∷ r ∷ s ∷ [])) (first_refusal (p ∷ q ∷ r ∷ s ∷ [])) (Err e)
  stops_second e h k =
      then_writes a b c p.text p.refusal (all_text (q ∷ r ∷ s ∷ [])) (first_refusal (q ∷ r ∷ s ∷ [])) u (Err e) h
      (first_stops b c q.text q.refusal (all_text (r ∷ s ∷ [])) (first_refusal (r ∷ s ∷ [])) e k)

module _ (a b c d : Option (List ℕ)) (p q r s : Piece) (u v : Unit {0}) where
  pub stops_third : (e : Error) → Writes {U = Unit {0}} a b p.text p.refusal (Ok u) → Writes {U = Unit {0}} b c q.text q.refusal (Ok v) → Writes {U = Unit {0}} c d r.text r.refusal (Err e)
      → Writes {U = Unit {0}} a d (all_text (p ∷ q ∷ r ∷ s ∷ [])) (first_refusal (p ∷ q ∷ r ∷ s ∷ [])) (Err e)
  stops_third e h k l =
      then_writes a b d p.text p.refusal (all_text (q ∷ r ∷ s ∷ [])) (first_refusal (q ∷ r ∷ s ∷ [])) u (Err e) h
      (then_writes b c d q.text q.refusal (all_text (r ∷ s ∷ [])) (first_refusal (r ∷ s ∷ [])) v (Err e) k
      (first_stops c d r.text r.refusal (all_text (s ∷ [])) (first_refusal (s ∷ [])) e l))

last_of : (a b : Option (List ℕ)) (s : Piece) (result : Result (Unit {0}) Error) → Writes {U = Unit {0}} a b s.text s.refusal result → Writes {U = Unit {0}} a b (all_text (s ∷ [])) (first_refusal (s ∷ [])) result
last_of a b s result h =
    subst (λ o. Writes {U = Unit {0}} a b (s.text ++ []) o result) (sym (alone s.refusal s.text))
    (subst (λ t. Writes {U = Unit {0}} a b t s.refusal result) (sym (append-nil s.text)) h)

module _ (a b c d e : Option (List ℕ)) (p q r s : Piece) (u v w : Unit {0}) where
  pub writes_last : (result : Result (Unit {0}) Error) → Writes {U = Unit {0}} a b p.text p.refusal (Ok u) → Writes {U = Unit {0}} b c q.text q.refusal (Ok v) → Writes {U = Unit {0}} c d r.text r.refusal (Ok w)
      → Writes {U = Unit {0}} d e s.text s.refusal result → Writes {U = Unit {0}} a e (all_text (p ∷ q ∷ r ∷ s ∷ [])) (first_refusal (p ∷ q ∷ r ∷ s ∷ [])) result
  writes_last result h k l m =
      then_writes a b e p.text p.refusal (all_text (q ∷ r ∷ s ∷ [])) (first_refusal (q ∷ r ∷ s ∷ [])) u result h
      (then_writes b c e q.text q.refusal (all_text (r ∷ s ∷ [])) (first_refusal (r ∷ s ∷ [])) v result k
      (then_writes c d e r.text r.refusal (all_text (s ∷ [])) (first_refusal (s ∷ [])) w result l
      (last_of d e s result m)))
