-- Runs of parts that are read one after another.
use Rattle.std.proofs.Common.{◌≡◌, ◌∙◌, ap, refl, sym, ℕ, suc, List, [], ◌∷◌, ◌++◌, append_assoc, append-nil, arith}
use Rattle.std.specs.Prelude.{flat_map, All}
use Rattle.std.proofs.lemmas.Grind.{flat_map-append}
use Rattle.std.proofs.lemmas.List.Elements.{All-nil, All-cons, All-append}

-- ---- all elements are so

pub all_head : {X : Type 0} (P : X → Type 0) (x : X) (xs : List X) → All P (x ∷ xs) → P x
all_head P x xs h = h 0 x (omega arith)

pub all_tail : {X : Type 0} (P : X → Type 0) (x : X) (xs : List X) → All P (x ∷ xs) → All P xs
all_tail P x xs h = λ k d below. h (suc k) d (omega arith)

-- ---- what is read so far, and how every spelling goes on from there

module _ {X : Type 0} (text : X → List ℕ) (Fits : X → Type 0) (Ends : List ℕ → Type 0) where
  pub record GoesOn (done : List X) (rest : List ℕ) (all : List X) (end : List ℕ) : Type 0 where
    pub more : List X
    pub whole : all ≡ done ++ more
    pub remaining : rest ≡ flat_map text more ++ end
    pub fit : All Fits more

  pub record Progress (input : List ℕ) (done : List X) (rest : List ℕ) : Type 0 where
    pub spelled : input ≡ flat_map text done ++ rest
    pub fit : All Fits done
    pub every : (all : List X) (end : List ℕ) → All Fits all → Ends end → input ≡ flat_map text all ++ end → GoesOn done rest all end

  pub progress_none : (input : List ℕ) → Progress input [] input
  progress_none input = record { spelled = refl; fit = All-nil Fits; every = λ all end fits ends is. record { more = all; whole = refl; remaining = is; fit = fits } }

  -- the part that is next is the one that was read
  pub IsNext : List ℕ → X → List ℕ → Type 0
  IsNext rest x after = (y : X) (r : List ℕ) (more : List X) (end : List ℕ) → Fits y → All Fits more → Ends end → r ≡ flat_map text more ++ end → rest ≡ text y ++ r → (x ≡ y) × (after ≡ r)

  pub progress_one : (input : List ℕ) (done : List X) (rest : List ℕ) (x : X) (after : List ℕ) → Progress input done rest → Fits x → rest ≡ text x ++ after
      → ((end : List ℕ) → Ends end → rest ≡ end → ⊥)
      → ((y : X) (r : List ℕ) (more : List X) (end : List ℕ) → Fits y → All Fits more → Ends end → r ≡ flat_map text more ++ end → rest ≡ text y ++ r → (x ≡ y) × (after ≡ r))
      → Progress input (done ++ x ∷ []) after
  progress_one input done rest x after so_far fits is goes_on next = record {
    spelled = so_far.spelled ∙ ap (λ t. flat_map text done ++ t) is ∙ sym (append_assoc (flat_map text done) (text x) after) ∙ ap (λ t. t ++ after) joined;
    fit = All-append Fits done (x ∷ []) so_far.fit (All-cons Fits x [] fits (All-nil Fits));
    every = λ all end all_fit ends whole. step all end ends (so_far.every all end all_fit ends whole);
  }
    where
      joined : flat_map text done ++ text x ≡ flat_map text (done ++ x ∷ [])
      joined = ap (λ t. flat_map text done ++ t) (sym (append-nil (text x))) ∙ sym (flat_map-append text done (x ∷ []))

      step : (all : List X) (end : List ℕ) → Ends end → GoesOn done rest all end → GoesOn (done ++ x ∷ []) after all end
      step all end ends on = from on.more on.whole on.remaining on.fit
        where
          from : (more : List X) → all ≡ done ++ more → rest ≡ flat_map text more ++ end → All Fits more → GoesOn (done ++ x ∷ []) after all end
          from [] whole remaining fit = absurd (goes_on end ends remaining)
          from (y ∷ more) whole remaining fit =
              let same = next y (flat_map text more ++ end) more end (all_head Fits y more fit) (all_tail Fits y more fit) ends refl (remaining ∙ append_assoc (text y) (flat_map text more) end) in
              record {
                more = more;
                whole = whole ∙ ap (λ z. done ++ z ∷ more) (sym same.0) ∙ sym (append_assoc done (x ∷ []) more);
                remaining = same.1;
                fit = all_tail Fits y more fit;
              }

  -- at the end nothing goes on
  pub progress_end : (input : List ℕ) (done : List X) (rest : List ℕ) → Progress input done rest
      → ((y : X) (r : List ℕ) → Fits y → rest ≡ text y ++ r → ⊥)
      → (all : List X) (end : List ℕ) → All Fits all → Ends end → input ≡ flat_map text all ++ end → (done ≡ all) × (rest ≡ end)
  progress_end input done rest so_far none all end fits ends is = from (so_far.every all end fits ends is)
    where
      from : GoesOn done rest all end → (done ≡ all) × (rest ≡ end)
      from on = cases on.more on.whole on.remaining on.fit
        where
          cases : (more : List X) → all ≡ done ++ more → rest ≡ flat_map text more ++ end → All Fits more → (done ≡ all) × (rest ≡ end)
          cases [] whole remaining fit = (sym (whole ∙ append-nil done), remaining)
          cases (y ∷ more) whole remaining fit = absurd (none y (flat_map text more ++ end) (all_head Fits y more fit) (remaining ∙ append_assoc (text y) (flat_map text more) end))

  -- if no part can be read and no end comes, there is no spelling
  pub progress_stuck : (input : List ℕ) (done : List X) (rest : List ℕ) → Progress input done rest
      → ((end : List ℕ) → Ends end → rest ≡ end → ⊥)
      → ((y : X) (more : List X) (end : List ℕ) → Fits y → All Fits more → Ends end → rest ≡ text y ++ (flat_map text more ++ end) → ⊥)
      → (all : List X) (end : List ℕ) → All Fits all → Ends end → input ≡ flat_map text all ++ end → ⊥
  progress_stuck input done rest so_far no_end none all end fits ends is = from (so_far.every all end fits ends is)
    where
      from : GoesOn done rest all end → ⊥
      from on = cases on.more on.remaining on.fit
        where
          cases : (more : List X) → rest ≡ flat_map text more ++ end → All Fits more → ⊥
          cases [] remaining fit = no_end end ends remaining
          cases (y ∷ more) remaining fit = none y more end (all_head Fits y more fit) (all_tail Fits y more fit) ends (remaining ∙ append_assoc (text y) (flat_map text more) end)
