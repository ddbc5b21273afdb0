-- Pieces that are written one after the other.
use Rattle.std.proofs.Common.{◌≡◌, ◌∙◌, ap, refl, sym, subst, ℕ, List, [], ◌∷◌, ◌++◌, ◌<◌, ◌≤◌, ◌+◌, suc, length, map, take, drop, get_or, append_assoc, append-nil, length-append, arith}
use Rattle.std.specs.Prelude.{Option, None, Some, Result, Ok, Err}
use Rattle.std.proofs.KnownBytes.{Appends-trans}
use Rattle.std.proofs.lemmas.Grind.{flat_map-append}
use Rattle.std.specs.Io.KnownBytes.{Appends}
use Rattle.std.proofs.lemmas.List.{map-append}
use Rattle.std.proofs.Math.Seq.{split_at, take-suc}
use Rattle.gix_object_lines.specs.Writes.{Refusal, IsRefused, writable, cause_of}
use Rattle.gix_object_lines.specs.declared.write.Error.{Error}
use Rattle.gix_object_lines.specs.declared.write.Error.TheVariants.{Writer, Header, TagName, Filename}
use Rattle.gix_object_lines.proofs.Fronts.{front_of, front_then}
use Rattle.gix_object_lines.specs.Pieces.{Piece, pieces_text, first_refused, refused_or, WritesPieces}

pub text_more : (ps qs : List Piece) → pieces_text (ps ++ qs) ≡ pieces_text ps ++ pieces_text qs
text_more ps qs = flat_map-append (λ (piece : Piece). piece.text) ps qs

-- what is written of a list of pieces
abbrev pub reach : List ℕ → List Piece → List ℕ
reach before ps = writable (before ++ pieces_text ps) (first_refused before ps)

-- the pieces before the first refused one
reach_from : (before x : List ℕ) (ps : List Piece) → (reach (x ++ before) ps ≡ x ++ reach before ps) × (cause_of (first_refused (x ++ before) ps) ≡ cause_of (first_refused before ps))
reach_from before x [] = (append_assoc x before [], refl)
reach_from before x (piece ∷ ps) = by_cause (reach_from (before ++ piece.text) x ps) piece.cause refl
  where
    by_cause : (reach (x ++ (before ++ piece.text)) ps ≡ x ++ reach (before ++ piece.text) ps) × (cause_of (first_refused (x ++ (before ++ piece.text)) ps) ≡ cause_of (first_refused (before ++ piece.text) ps))
        → (cause : Option Error) → piece.cause ≡ cause
        → (reach (x ++ before) (piece ∷ ps) ≡ x ++ reach before (piece ∷ ps)) × (cause_of (first_refused (x ++ before) (piece ∷ ps)) ≡ cause_of (first_refused before (piece ∷ ps)))
    by_cause later None is =
        let here : (b : List ℕ) → first_refused b (piece ∷ ps) ≡ first_refused (b ++ piece.text) ps = λ b. ap (λ c. refused_or c b (first_refused (b ++ piece.text) ps)) is in
        let same : (x ++ before) ++ piece.text ≡ x ++ (before ++ piece.text) = append_assoc x before piece.text in
        let left : reach (x ++ before) (piece ∷ ps) ≡ reach (x ++ (before ++ piece.text)) ps =
        ap (writable ((x ++ before) ++ (piece.text ++ pieces_text ps))) (here (x ++ before)) ∙ ap (λ b. writable b (first_refused ((x ++ before) ++ piece.text) ps)) (sym (append_assoc (x ++ before) piece.text (pieces_text ps))) ∙ ap (λ b. reach b ps) same in
        let right : reach before (piece ∷ ps) ≡ reach (before ++ piece.text) ps =
        ap (writable (before ++ (piece.text ++ pieces_text ps))) (here before) ∙ ap (λ b. writable b (first_refused (before ++ piece.text) ps)) (sym (append_assoc before piece.text (pieces_text ps))) in
        (left ∙ later.0 ∙ ap (λ t. x ++ t) (sym right), ap cause_of (here (x ++ before)) ∙ ap (λ b. cause_of (first_refused b ps)) same ∙ later.1 ∙ ap cause_of (sym (here before)))
    by_cause later (Some cause) is =
        let here : (b : List ℕ) → first_refused b (piece ∷ ps) ≡ Some (record { before = b; cause = cause }) = λ b. ap (λ c. refused_or c b (first_refused (b ++ piece.text) ps)) is in (
          ap (writable ((x ++ before) ++ (piece.text ++ pieces_text ps))) (here (x ++ before)) ∙ ap (λ t. x ++ t) (sym (ap (writable (before ++ (piece.text ++ pieces_text ps))) (here before))),
          ap cause_of (here (x ++ before)) ∙ ap cause_of (sym (here before)),
        )

-- pieces after those that are all written
after_all : (before : List ℕ) (ps qs : List Piece) → cause_of (first_refused before ps) ≡ None → first_refused before (ps ++ qs) ≡ first_refused (before ++ pieces_text ps) qs
after_all before [] qs none = ap (λ b. first_refused b qs) (sym (append-nil before))
after_all before (piece ∷ ps) qs none = by_cause (after_all (before ++ piece.text) ps qs) piece.cause refl
  where
    by_cause : (cause_of (first_refused (before ++ piece.text) ps) ≡ None → first_refused (before ++ piece.text) (ps ++ qs) ≡ first_refused ((before ++ piece.text) ++ pieces_text ps) qs)
        → (cause : Option Error) → piece.cause ≡ cause → first_refused before ((piece ∷ ps) ++ qs) ≡ first_refused (before ++ pieces_text (piece ∷ ps)) qs
    by_cause later None is =
        let none' : cause_of (first_refused (before ++ piece.text) ps) ≡ None = sym (ap (λ c. cause_of (refused_or c before (first_refused (before ++ piece.text) ps))) is) ∙ none in
        ap (λ c. refused_or c before (first_refused (before ++ piece.text) (ps ++ qs))) is ∙ later none' ∙ ap (λ b. first_refused b qs) (append_assoc before piece.text (pieces_text ps))
    by_cause later (Some cause) is = absurd (let clash : Some cause ≡ None = sym (ap (λ c. cause_of (refused_or c before (first_refused (before ++ piece.text) ps))) is) ∙ none in cc)

-- pieces after a refused one say nothing
after_refused : (before : List ℕ) (ps qs : List Piece) (r : Refusal) → first_refused before ps ≡ Some r → first_refused before (ps ++ qs) ≡ Some r
after_refused before [] qs r is = absurd cc
after_refused before (piece ∷ ps) qs r is = by_cause (after_refused (before ++ piece.text) ps qs r) piece.cause refl
  where
    by_cause : (first_refused (before ++ piece.text) ps ≡ Some r → first_refused (before ++ piece.text) (ps ++ qs) ≡ Some r)
        → (cause : Option Error) → piece.cause ≡ cause → first_refused before ((piece ∷ ps) ++ qs) ≡ Some r
    by_cause later None e =
        ap (λ c. refused_or c before (first_refused (before ++ piece.text) (ps ++ qs))) e
        ∙ later (sym (ap (λ c. refused_or c before (first_refused (before ++ piece.text) ps)) e) ∙ is)
    by_cause later (Some cause) e = ap (λ c. refused_or c before (first_refused (before ++ piece.text) (ps ++ qs))) e ∙ sym (ap (λ c. refused_or c before (first_refused (before ++ piece.text) ps)) e) ∙ is

-- ---- writing on

joined : (ps qs : List Piece) → cause_of (first_refused [] ps) ≡ None
    → (writable (pieces_text (ps ++ qs)) (first_refused [] (ps ++ qs)) ≡ pieces_text ps ++ writable (pieces_text qs) (first_refused [] qs))
    × (cause_of (first_refused [] (ps ++ qs)) ≡ cause_of (first_refused [] qs))
joined ps qs none =
    let on = after_all [] ps qs none in
    let from = reach_from [] (pieces_text ps) qs in
    let end : pieces_text ps ++ [] ≡ pieces_text ps = append-nil (pieces_text ps) in (
      ap (writable (pieces_text (ps ++ qs))) on ∙ ap (λ t. writable t (first_refused (pieces_text ps) qs)) (text_more ps qs) ∙ ap (λ b. reach b qs) (sym end) ∙ from.0,
      ap cause_of on ∙ ap (λ b. cause_of (first_refused b qs)) (sym end) ∙ from.1,
    )

module _ (a b c : Option (List ℕ)) (ps qs : List Piece) where
  pub pieces_then : (r : Result (Unit {0}) Error) → WritesPieces {U = Unit {0}} a b ps (Ok tt) → WritesPieces {U = Unit {0}} b c qs r → WritesPieces {U = Unit {0}} a c (ps ++ qs) r
  pieces_then (Ok y) w v = ((joined ps qs w.0).1 ∙ v.0, subst (Appends a c) (sym (text_more ps qs)) (Appends-trans a b c (pieces_text ps) (pieces_text qs) w.1 v.1))
  pieces_then (Err (Writer error)) w v =
      front_then a b c (pieces_text ps) (writable (pieces_text qs) (first_refused [] qs)) [] _ ((joined ps qs w.0).0 ∙ sym (append-nil _)) w.1 v
  pieces_then (Err (Header error)) w v = ((joined ps qs w.0).1 ∙ v.0, subst (Appends a c) (sym (joined ps qs w.0).0) (Appends-trans a b c (pieces_text ps) _ w.1 v.1))
  pieces_then (Err (TagName error)) w v = ((joined ps qs w.0).1 ∙ v.0, subst (Appends a c) (sym (joined ps qs w.0).0) (Appends-trans a b c (pieces_text ps) _ w.1 v.1))
  pieces_then (Err (Filename error)) w v = ((joined ps qs w.0).1 ∙ v.0, subst (Appends a c) (sym (joined ps qs w.0).0) (Appends-trans a b c (pieces_text ps) _ w.1 v.1))

refused_same : (ps qs : List Piece) (cause : Error) → cause_of (first_refused [] ps) ≡ Some cause → first_refused [] (ps ++ qs) ≡ first_refused [] ps
refused_same ps qs cause is = go (first_refused [] ps) refl
  where
    go : (o : Option Refusal) → first_refused [] ps ≡ o → first_refused [] (ps ++ qs) ≡ first_refused [] ps
    go None e = absurd (let clash : None ≡ Some cause = sym (ap cause_of e) ∙ is in cc)
    go (Some r) e = after_refused [] ps qs r e ∙ sym e

refused_reach : (ps qs : List Piece) (o : Option Refusal) → first_refused [] ps ≡ o → (back : List ℕ) × (writable (pieces_text (ps ++ qs)) (first_refused [] (ps ++ qs)) ≡ writable (pieces_text ps) (first_refused [] ps) ++ back)
refused_reach ps qs None e = (writable (pieces_text qs) (first_refused [] qs), (joined ps qs (ap cause_of e)).0 ∙ ap (λ t. t ++ writable (pieces_text qs) (first_refused [] qs)) (sym (ap (writable (pieces_text ps)) e)))
refused_reach ps qs (Some r) e = ([], ap (writable (pieces_text (ps ++ qs))) (after_refused [] ps qs r e) ∙ sym (ap (writable (pieces_text ps)) e) ∙ sym (append-nil _))

refused_whole : (a b : Option (List ℕ)) (ps qs : List Piece) (cause : Error) → IsRefused a b (pieces_text ps) (first_refused [] ps) cause → IsRefused a b (pieces_text (ps ++ qs)) (first_refused [] (ps ++ qs)) cause
refused_whole a b ps qs cause w = (ap cause_of (refused_same ps qs cause w.0) ∙ w.0, subst (Appends a b) (from (first_refused [] ps) refl) w.1)
  where
    from : (o : Option Refusal) → first_refused [] ps ≡ o → writable (pieces_text ps) (first_refused [] ps) ≡ writable (pieces_text (ps ++ qs)) (first_refused [] (ps ++ qs))
    from None e = absurd (let clash : None ≡ Some cause = sym (ap cause_of e) ∙ w.0 in cc)
    from (Some r) e = ap (writable (pieces_text ps)) e ∙ sym (ap (writable (pieces_text (ps ++ qs))) (after_refused [] ps qs r e))

module _ (a b : Option (List ℕ)) (ps qs : List Piece) where
  pub pieces_stop : (error : Error) → WritesPieces {U = Unit {0}} a b ps (Err error) → WritesPieces {U = Unit {0}} a b (ps ++ qs) (Err error)
  pieces_stop (Writer error) w =
      let reached = refused_reach ps qs (first_refused [] ps) refl in
      front_of a b (writable (pieces_text ps) (first_refused [] ps)) reached.0 _ reached.1 w
  pieces_stop (Header error) w = refused_whole a b ps qs (Header error) w
  pieces_stop (TagName error) w = refused_whole a b ps qs (TagName error) w
  pieces_stop (Filename error) w = refused_whole a b ps qs (Filename error) w

-- ---- pieces in a loop, after those before it

module _ {X Y : Type 0} (first : List Piece) (f : Y → Piece) (h : X → Y) (xs : List X) (i : ℕ) (d : X) (below : i < length xs) where
  abbrev done : List Piece
  done = first ++ map f (map h (take i xs))

  abbrev here : List Piece
  here = f (h (get_or xs i d)) ∷ []

  abbrev behind : List Piece
  behind = map f (map h (drop (suc i) xs))

  cut_here : first ++ map f (map h xs) ≡ done ++ (here ++ behind)
  cut_here =
      ap (λ l. first ++ map f (map h l)) (split_at xs i d below)
      ∙ ap (λ l. first ++ map f l) (map-append h (take i xs) (get_or xs i d ∷ drop (suc i) xs))
      ∙ ap (λ l. first ++ l) (map-append f (map h (take i xs)) (h (get_or xs i d) ∷ map h (drop (suc i) xs)))
      ∙ sym (append_assoc first (map f (map h (take i xs))) (here ++ behind))

  more_here : first ++ map f (map h (take (i + 1) xs)) ≡ done ++ here
  more_here =
      let next : i + 1 ≡ suc i = omega arith in
      ap (λ n. first ++ map f (map h (take n xs))) next
      ∙ ap (λ l. first ++ map f (map h l)) (take-suc xs i d below)
      ∙ ap (λ l. first ++ map f l) (map-append h (take i xs) (get_or xs i d ∷ []))
      ∙ ap (λ l. first ++ l) (map-append f (map h (take i xs)) (h (get_or xs i d) ∷ []))
      ∙ sym (append_assoc first (map f (map h (take i xs))) here)

  pub loop_stop : (a b c : Option (List ℕ)) (error : Error) → WritesPieces {U = Unit {0}} a b done (Ok tt) → WritesPieces {U = Unit {0}} b c here (Err error) → WritesPieces {U = Unit {0}} a c (first ++ map f (map h xs)) (Err error)
  loop_stop a b c error w v =
      subst (λ ps. WritesPieces {U = Unit {0}} a c ps (Err error)) (sym cut_here)
      (pieces_then a b c done (here ++ behind) (Err error) w (pieces_stop b c here behind error v))

  pub loop_more : (a b c : Option (List ℕ)) → WritesPieces {U = Unit {0}} a b done (Ok tt) → WritesPieces {U = Unit {0}} b c here (Ok tt) → WritesPieces {U = Unit {0}} a c (first ++ map f (map h (take (i + 1) xs))) (Ok tt)
  loop_more a b c w v = subst (λ ps. WritesPieces {U = Unit {0}} a c ps (Ok tt)) (sym more_here) (pieces_then a b c done here (Ok tt) w v)

  pub loop_less : length (pieces_text done) + length ((f (h (get_or xs i d))).text) ≤ length (pieces_text (first ++ map f (map h xs)))
  loop_less =
      omega (
        arith,
        ap (λ ps. length (pieces_text ps)) cut_here,
        ap length (text_more done (here ++ behind)),
        length-append (pieces_text done) (pieces_text (here ++ behind)),
        ap length (text_more here behind),
        length-append (pieces_text here) (pieces_text behind),
        ap length (append-nil ((f (h (get_or xs i d))).text)),
      )
