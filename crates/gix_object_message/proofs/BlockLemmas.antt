-- The first block of a body, and what its blocks join to.
use Rattle.std.proofs.Common.{◌≡◌, ◌≢◌, ◌∙◌, ap, refl, sym, subst, ℕ, ◌<◌, true, false, cond, List, [], ◌∷◌, ◌++◌, length, append_assoc, append-nil, inl, inr, arith}
use Rattle.std.specs.List.{concat, flat_map}
use Rattle.std.proofs.lemmas.Bool.{cond-true, cond-false, cases_Bool, false_from_ne_true}
use Rattle.std.proofs.Common.{Bool, zero, suc, ◌≤◌, ◌⊎◌, length-append}
use Rattle.gix_object_message.specs.Blocks.{AreBlocks, Block, onto_message, onto_trailers, trailers_come, blocks_of_paragraphs, blocks_of, block_bytes, AllOfKind, StopsKind}
use Rattle.gix_object_message.specs.Steps.{IsRun}
use Rattle.gix_object_message.specs.Paragraphs.{is_trailer_paragraph, paragraphs_of}
use Rattle.gix_object_message.proofs.BodyLemmas.{concat-paragraphs_of}
use Rattle.gix_object_message.proofs.ParagraphLemmas.{paragraphs_of-nil}

abbrev pub block_from : List ℕ → List ℕ → Block
block_from message trailers = record { message = message; trailers = trailers }

blocks-nil : blocks_of_paragraphs [] ≡ []
unfolding blocks_of_paragraphs
blocks-nil = refl

blocks_last : (t : List ℕ) (ps : List (List ℕ)) → is_trailer_paragraph t ≡ true → trailers_come ps ≡ false → blocks_of_paragraphs (t ∷ ps) ≡ block_from [] t ∷ blocks_of_paragraphs ps
unfolding blocks_of_paragraphs
blocks_last t ps is end =
    cond-true _ _ (onto_message t (blocks_of_paragraphs ps)) is ∙ cond-false _ (onto_trailers t (blocks_of_paragraphs ps)) _ end

blocks_more : (t : List ℕ) (ps : List (List ℕ)) → is_trailer_paragraph t ≡ true → trailers_come ps ≡ true → blocks_of_paragraphs (t ∷ ps) ≡ onto_trailers t (blocks_of_paragraphs ps)
unfolding blocks_of_paragraphs
blocks_more t ps is more =
    cond-true _ _ (onto_message t (blocks_of_paragraphs ps)) is ∙ cond-true _ _ (block_from [] t ∷ blocks_of_paragraphs ps) more

blocks_text : (p : List ℕ) (ps : List (List ℕ)) → is_trailer_paragraph p ≡ false → blocks_of_paragraphs (p ∷ ps) ≡ onto_message p (blocks_of_paragraphs ps)
unfolding blocks_of_paragraphs
blocks_text p ps is =
    cond-false _ (cond (trailers_come ps) (onto_trailers p (blocks_of_paragraphs ps)) (block_from [] p ∷ blocks_of_paragraphs ps)) _ is

come_not : (ps : List (List ℕ)) → StopsKind true ps → trailers_come ps ≡ false
come_not [] stop = refl
come_not (p ∷ ps) stop = false_from_ne_true _ stop

-- ---- the first block

blocks_trailers : (t : List ℕ) (ts ps : List (List ℕ)) → AllOfKind true (t ∷ ts) → StopsKind true ps → blocks_of_paragraphs ((t ∷ ts) ++ ps) ≡ block_from [] (concat (t ∷ ts)) ∷ blocks_of_paragraphs ps
blocks_trailers t [] ps all stop = blocks_last t ps all.0 (come_not ps stop) ∙ ap (λ x. block_from [] x ∷ blocks_of_paragraphs ps) (sym (append-nil t))
blocks_trailers t (u ∷ ts) ps all stop = blocks_more t ((u ∷ ts) ++ ps) all.0 all.1.0 ∙ ap (onto_trailers t) (blocks_trailers u ts ps all.1 stop)

blocks_messages : (ms qs : List (List ℕ)) (trailers : List ℕ) (bs : List Block) → AllOfKind false ms → blocks_of_paragraphs qs ≡ block_from [] trailers ∷ bs → blocks_of_paragraphs (ms ++ qs) ≡ block_from (concat ms) trailers ∷ bs
blocks_messages [] qs trailers bs all is = is
blocks_messages (m ∷ ms) qs trailers bs all is = blocks_text m (ms ++ qs) all.0 ∙ ap (onto_message m) (blocks_messages ms qs trailers bs all.1 is)

blocks_only : (m : List ℕ) (ms : List (List ℕ)) → AllOfKind false (m ∷ ms) → blocks_of_paragraphs (m ∷ ms) ≡ block_from (concat (m ∷ ms)) [] ∷ []
blocks_only m [] all = blocks_text m [] all.0 ∙ ap (onto_message m) blocks-nil ∙ ap (λ x. block_from x [] ∷ []) (sym (append-nil m))
blocks_only m (n ∷ ms) all = blocks_text m (n ∷ ms) all.0 ∙ ap (onto_message m) (blocks_only n ms all.1)

neither : (ps : List (List ℕ)) → StopsKind false ps → StopsKind true ps → ps ≡ []
neither [] f t = refl
neither (p ∷ ps) f t = elim (cases_Bool (is_trailer_paragraph p)) [ inl is ↦ absurd (t is) | inr is ↦ absurd (f is) ]

first_block : (ps qs rs run run' : List (List ℕ)) → ps ≢ [] → ps ≡ run ++ qs → AllOfKind false run → StopsKind false qs → qs ≡ run' ++ rs → AllOfKind true run' → StopsKind true rs → blocks_of_paragraphs ps ≡ block_from (concat run) (concat run') ∷ blocks_of_paragraphs rs
first_block ps qs rs run (t ∷ ts) some is all stop is' all' stop' =
    ap blocks_of_paragraphs is ∙ blocks_messages run qs (concat (t ∷ ts)) (blocks_of_paragraphs rs) all (ap blocks_of_paragraphs is' ∙ blocks_trailers t ts rs all' stop')
first_block ps qs rs [] [] some is all stop is' all' stop' =
    absurd (some (is ∙ is' ∙ neither rs (subst (StopsKind false) is' stop) stop'))
first_block ps qs rs (m ∷ ms) [] some is all stop is' all' stop' =
    let none = neither rs (subst (StopsKind false) is' stop) stop' in
    ap blocks_of_paragraphs (is ∙ ap (λ x. (m ∷ ms) ++ x) (is' ∙ none) ∙ append-nil (m ∷ ms))
    ∙ blocks_only m ms all
    ∙ ap (λ x. block_from (concat (m ∷ ms)) [] ∷ x) (sym (ap blocks_of_paragraphs none ∙ blocks-nil))

some_paragraph : (text : List ℕ) → 0 < length text → paragraphs_of text ≢ []
some_paragraph text some none =
    let empty : [] ≡ text = ap concat (sym none) ∙ concat-paragraphs_of text in
    omega (arith, ap length empty)

pub blocks_of_cut : (text message behind trailers rest : List ℕ) → 0 < length text → IsRun false text message behind → IsRun true behind trailers rest → blocks_of text ≡ block_from message trailers ∷ blocks_of rest
blocks_of_cut text message behind trailers rest some first second =
    first_block (paragraphs_of text) (paragraphs_of behind) (paragraphs_of rest) first.0 second.0 (some_paragraph text some) first.3 first.4 first.5 second.3 second.4 second.5
    ∙ ap (λ m. block_from m (concat second.0) ∷ blocks_of rest) (sym first.1)
    ∙ ap (λ t. block_from message t ∷ blocks_of rest) (sym second.1)

pub blocks_of-nil : blocks_of [] ≡ []
blocks_of-nil = ap blocks_of_paragraphs paragraphs_of-nil ∙ blocks-nil

-- ---- the blocks are the body

abbrev pub all_bytes : List Block → List ℕ
all_bytes blocks = flat_map block_bytes blocks

all_bytes-onto_message : (p : List ℕ) (bs : List Block) → all_bytes (onto_message p bs) ≡ p ++ all_bytes bs
all_bytes-onto_message p [] = append-nil (p ++ [])
all_bytes-onto_message p (b ∷ bs) = regroup p b.message b.trailers (all_bytes bs)
  where
    regroup : (w x y z : List ℕ) → ((w ++ x) ++ y) ++ z ≡ w ++ ((x ++ y) ++ z)
    regroup w x y z = simp append_assoc

-- where a trailer paragraph comes first, the first block has no message
come_shape : (ps : List (List ℕ)) → trailers_come ps ≡ true → (t : List ℕ) × ((bs : List Block) × (blocks_of_paragraphs ps ≡ block_from [] t ∷ bs))
come_shape [] is = absurd cc
come_shape (p ∷ ps) is =
    elim (cases_Bool (trailers_come ps)) [
      | inl more ↦ let later = come_shape ps more in (p ++ later.0, (later.1.0, blocks_more p ps is more ∙ ap (onto_trailers p) later.1.1))
      | inr end ↦ (p, (blocks_of_paragraphs ps, blocks_last p ps is end))
    ]

all_bytes_is : (ps : List (List ℕ)) → all_bytes (blocks_of_paragraphs ps) ≡ concat ps
all_bytes_is [] = ap all_bytes blocks-nil
all_bytes_is (p ∷ ps) =
    let later = all_bytes_is ps in
    elim (cases_Bool (is_trailer_paragraph p)) [
      | inl is ↦ elim (cases_Bool (trailers_come ps)) [
        | inl more ↦
            let shape = come_shape ps more in
            let rest : shape.0 ++ all_bytes shape.1.0 ≡ concat ps = ap all_bytes (sym shape.1.1) ∙ later in
            ap all_bytes (blocks_more p ps is more ∙ ap (onto_trailers p) shape.1.1) ∙ append_assoc p shape.0 (all_bytes shape.1.0) ∙ ap (λ x. p ++ x) rest
        | inr end ↦ ap all_bytes (blocks_last p ps is end) ∙ ap (λ x. p ++ x) later
      ]
      | inr is ↦ ap all_bytes (blocks_text p ps is) ∙ all_bytes-onto_message p (blocks_of_paragraphs ps) ∙ ap (λ x. p ++ x) later
    ]

pub all_bytes-blocks_of : (text : List ℕ) → all_bytes (blocks_of text) ≡ text
all_bytes-blocks_of text = all_bytes_is (paragraphs_of text) ∙ concat-paragraphs_of text

-- ---- the relation

kind_cases : (a b : Bool) → (a ≡ b) ⊎ (a ≢ b)
kind_cases true true = inl refl
kind_cases true false = inr (λ e. absurd cc)
kind_cases false true = inr (λ e. absurd cc)
kind_cases false false = inl refl

-- the run of one kind that comes first
pub record FirstRun (kind : Bool) (ps : List (List ℕ)) : Type 0 where
  run : List (List ℕ)
  rest : List (List ℕ)
  spelled : ps ≡ run ++ rest
  all : AllOfKind kind run
  stop : StopsKind kind rest

first_run : (kind : Bool) (ps : List (List ℕ)) → FirstRun kind ps
first_run kind [] = record { run = []; rest = []; spelled = refl; all = tt; stop = tt }
first_run kind (p ∷ ps) =
    let later = first_run kind ps in
    elim (kind_cases (is_trailer_paragraph p) kind) [
      | inl same ↦ record { run = p ∷ later.run; rest = later.rest; spelled = ap (λ x. p ∷ x) later.spelled; all = (same, later.all); stop = later.stop }
      | inr differs ↦ record { run = []; rest = p ∷ ps; spelled = refl; all = tt; stop = differs }
    ]

some_first : (ps qs rs run run' : List (List ℕ)) → ps ≢ [] → ps ≡ run ++ qs → StopsKind false qs → qs ≡ run' ++ rs → StopsKind true rs → run ++ run' ≢ []
some_first ps qs rs [] [] some is stop is' stop' = λ none. some (is ∙ is' ∙ neither rs (subst (StopsKind false) is' stop) stop')
some_first ps qs rs [] (t ∷ ts) some is stop is' stop' = λ none. absurd cc
some_first ps qs rs (m ∷ ms) run' some is stop is' stop' = λ none. absurd cc

some_length : (run : List (List ℕ)) → run ≢ [] → 0 < length run
some_length [] some = absurd (some refl)
some_length (p ∷ run) some = omega arith

are_blocks : (n : ℕ) (ps : List (List ℕ)) → length ps ≤ n → AreBlocks ps (blocks_of_paragraphs ps)
are_blocks n [] short = subst (AreBlocks []) (sym blocks-nil) refl
are_blocks zero (p ∷ ps) short = absurd (omega arith)
are_blocks (suc n) (p ∷ ps) short =
    let plain = first_run false (p ∷ ps) in
    let trailers = first_run true plain.rest in
    let some : (p ∷ ps) ≢ [] = λ e. absurd cc in
    let first = first_block (p ∷ ps) plain.rest trailers.rest plain.run trailers.run some plain.spelled plain.all plain.stop trailers.spelled trailers.all trailers.stop in
    let filled : plain.run ++ trailers.run ≢ [] = some_first (p ∷ ps) plain.rest trailers.rest plain.run trailers.run some plain.spelled plain.stop trailers.spelled trailers.stop in
    let long : 0 < length (plain.run ++ trailers.run) = some_length _ filled in
    let fewer : length trailers.rest ≤ n =
    omega (arith, ap length plain.spelled, ap length trailers.spelled, length-append plain.run plain.rest, length-append trailers.run trailers.rest, length-append plain.run trailers.run) in
    subst (AreBlocks (p ∷ ps)) (sym first) (
      trailers.rest,
      record {
        plain = plain.run;
        with_trailers = trailers.run;
        spelled = plain.spelled ∙ ap (λ x. plain.run ++ x) trailers.spelled;
        some = filled;
        all_plain = plain.all;
        all_trailers = trailers.all;
        no_trailers_next = trailers.stop;
        last = λ none. neither trailers.rest (subst (StopsKind false) (trailers.spelled ∙ ap (λ x. x ++ trailers.rest) none) plain.stop) trailers.stop;
        message = refl;
        trailers = refl;
      },
      are_blocks n trailers.rest fewer,
    )

pub AreBlocks-blocks_of : (text : List ℕ) → AreBlocks (paragraphs_of text) (blocks_of text)
AreBlocks-blocks_of text = are_blocks (length (paragraphs_of text)) (paragraphs_of text) (omega arith)
