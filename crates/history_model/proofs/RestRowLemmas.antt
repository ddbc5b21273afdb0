-- The rests of a worked row.
use Rattle.std.proofs.Common.{◌≡◌, ℕ, zero, suc, ◌≤◌, ◌<◌, ◌==◌, true, false, not, ◌&&◌, ◌||◌, List, [], ◌∷◌, ◌++◌, length, take, refl, sym, ◌∙◌, ap, inl, arith, codes}
use Rattle.std.specs.Fmt.{digits}
use Rattle.std.specs.List.{list_all, join_with_byte}
use Rattle.history_model.specs.Bytes.{Bytes, line, has_byte}
use Rattle.history_model.specs.Commands.{Command, Commit, Files}
use Rattle.history_model.specs.Spelling.{Part, Line, Field, parts_of, is_word}
use Rattle.history_model.specs.Grammar.{HasRestCause, is_command}
use Rattle.history_model.proofs.Offered.{LineFits, LineStands}
use Rattle.history_model.specs.laws.Rows.{first_command, xs, Gives, Refuses}
use Rattle.history_model.specs.Repository.{fresh}
use Rattle.history_model.specs.Replies.{reply_text, RefusedFor}
use Rattle.history_model.specs.declared.Cause.{Cause}
use Rattle.gix_hash.specs.declared.kind.Kind.TheVariants.{Sha1}
use Rattle.history_model.specs.declared.Cause.TheVariants.{Syntax, Truncated, LineTooLong}
use Rattle.history_model.proofs.PartLemmas.{words_same, split_at, one_line}
use Rattle.history_model.proofs.GrammarLemmas.{words_differ}
use Rattle.history_model.proofs.RestLemmas.{line_part}
use Rattle.history_model.proofs.GrammarLemmas.{is_spelled}
use Rattle.std.proofs.lemmas.Bool.{and_parts}

abbrev word_of : Part → Bytes
word_of (Line []) = []
word_of (Line (word ∷ words)) = word
word_of (Field bytes) = []

abbrev first_word : List Part → Bytes
first_word [] = []
first_word (part ∷ parts) = word_of part

not_hello : (c : Command) → first_word (parts_of c) ≡ codes "hello" → ⊥
not_hello (Commit c) e = words_differ _ _ refl e
not_hello c e = words_differ _ _ refl e

hello_unfit : LineFits [] (codes "hello") → ⊥
hello_unfit (words, e, g) =
    let words_ok = (and_parts (list_all is_word words) _ (line_part is_command is_spelled g)).0 in
    let cut = split_at 10 (codes "hello") (join_with_byte 32 words) [] [] refl (one_line words words_ok) e in
    let same : codes "hello" ∷ [] ≡ words = words_same (codes "hello" ∷ []) words refl words_ok cut.0 in
    not_hello g.command (ap first_word (g.is ∙ ap (λ ws. Line ws ∷ g.more) (sym same)))

pub hello : HasRestCause (line (codes "hello")) Syntax
hello = record {
  some = λ e. cc;
  parts = [];
  tail = line (codes "hello");
  split = refl;
  stops = inl (codes "hello", [], (codes "files" ∷ codes "main" ∷ [], record { command = Files (codes "main"); known = refl; more = []; is = refl }), refl, refl, omega arith, hello_unfit);
}

pub cut_short : HasRestCause (line (codes "commit refs/heads/main new")) Truncated
unfolding digits
cut_short = record {
  some = λ e. cc;
  parts = Line (codes "commit" ∷ codes "refs/heads/main" ∷ codes "new" ∷ []) ∷ [];
  tail = [];
  split = refl;
  stops = inl ((_, record { command = Commit first_command; known = refl; more = _; is = refl }), refl, omega arith);
}

-- ---- lines of one word `x..`

no_byte : (b n : ℕ) → (120 == b) ≡ false → has_byte b (xs n) ≡ false
no_byte b zero e = refl
no_byte b (suc n) e = ap (λ c. c || has_byte b (xs n)) e ∙ no_byte b n e

none_taken : (k n : ℕ) → has_byte 10 (take k (xs n)) ≡ false
none_taken zero n = refl
none_taken (suc k) zero = refl
none_taken (suc k) (suc n) = none_taken k n

so_long : (n : ℕ) → length (xs n) ≡ n
so_long zero = refl
so_long (suc n) = ap suc (so_long n)

append_none : (text : Bytes) → text ++ [] ≡ text
append_none [] = refl
append_none (b ∷ text) = ap (λ t. b ∷ t) (append_none text)

first_byte : Bytes → ℕ
first_byte [] = 0
first_byte (b ∷ text) = b

-- no command begins with an `x`
not_x : (c : Command) → (first_byte (first_word (parts_of c)) == 120) ≡ true → ⊥
unfolding first_byte
not_x (Commit c) e = cc
not_x c e = cc

x_word : (n : ℕ) → is_word (xs (suc n)) ≡ true
x_word n = ap (λ b. not b && not (has_byte 10 (xs (suc n)))) (no_byte 32 (suc n) refl) ∙ ap not (no_byte 10 (suc n) refl)

x_unfit : (n : ℕ) → LineFits [] (xs (suc n)) → ⊥
unfolding first_byte
x_unfit n (words, e, g) =
    let words_ok = (and_parts (list_all is_word words) _ (line_part is_command is_spelled g)).0 in
    let cut = split_at 10 (xs (suc n)) (join_with_byte 32 words) [] [] (no_byte 10 (suc n) refl) (one_line words words_ok) e in
    let same : xs (suc n) ∷ [] ≡ words = words_same (xs (suc n) ∷ []) words (ap (λ b. b && true) (x_word n)) words_ok cut.0 in
    not_x g.command (ap (λ ps. first_byte (first_word ps) == 120) (g.is ∙ ap (λ ws. Line ws ∷ g.more) (sym same)))

some_line : LineStands []
some_line = (codes "files" ∷ codes "main" ∷ [], record { command = Files (codes "main"); known = refl; more = []; is = refl })

long_line : (n : ℕ) → suc n ≤ 4096 → HasRestCause (line (xs (suc n))) Syntax
long_line n short = record {
  some = λ e. cc;
  parts = [];
  tail = line (xs (suc n));
  split = refl;
  stops = inl (xs (suc n), [], some_line, sym (append_none (line (xs (suc n)))), no_byte 10 (suc n) refl, fits, x_unfit n);
}
  where
    fits : length (xs (suc n)) ≤ 4096
    fits = let is = so_long (suc n) in omega arith

no_line : (n : ℕ) → 4096 ≤ n → HasRestCause (xs (suc n)) LineTooLong
no_line n long = record {
  some = λ e. cc;
  parts = [];
  tail = xs (suc n);
  split = refl;
  stops = (some_line, longer, none_taken 4097 (suc n));
}
  where
    longer : 4096 < length (xs (suc n))
    longer = let is = so_long (suc n) in omega arith

pub longest_line : HasRestCause (line (xs 4096)) Syntax
longest_line = long_line 4095 (omega arith)

pub too_long_line : HasRestCause (xs 4097) LineTooLong
too_long_line = no_line 4096 (omega arith)

-- ---- runs over them

refused : (stream : Bytes) (cause : Cause) → HasRestCause stream cause → Refuses stream (reply_text (RefusedFor cause))
refused stream cause h = record {
  rest = stream;
  last = reply_text (RefusedFor cause);
  ran = record {
    splits = record { known = refl; split = refl };
    steps = refl;
    fails = refl;
    written = refl;
    file_faults = tt;
  };
  ends = (cause, record { because = h; at_end = λ e. tt }, refl, refl);
}

pub hello_refused : Refuses (line (codes "hello")) (line (codes "refused Syntax"))
hello_refused = refused (line (codes "hello")) Syntax hello

pub cut_short_refused : Refuses (line (codes "commit refs/heads/main new")) (line (codes "refused Truncated"))
cut_short_refused = refused (line (codes "commit refs/heads/main new")) Truncated cut_short

pub longest_refused : Refuses (line (xs 4096)) (line (codes "refused Syntax"))
longest_refused = refused (line (xs 4096)) Syntax longest_line

pub too_long_refused : Refuses (xs 4097) (line (codes "refused LineTooLong"))
too_long_refused = refused (xs 4097) LineTooLong too_long_line

pub nothing_given : Gives [] []
nothing_given = (
  [],
  [],
  fresh Sha1,
  record {
    rest = [];
    last = [];
    ran = record {
      splits = record { known = refl; split = refl };
      steps = refl;
      fails = refl;
      written = refl;
      file_faults = tt;
    };
    ends = (refl, tt, refl, refl);
  },
  refl,
  refl,
)
