-- A rest has at most one cause, and none if it begins with a command.
use Rattle.std.proofs.Common.{◌≡◌, ℕ, zero, suc, ◌+◌, ◌<◌, ◌≤◌, ◌⊎◌, Bool, true, false, ◌&&◌, ◌||◌, List, [], ◌∷◌, ◌++◌, length, take, refl, sym, ◌∙◌, ap, subst, inl, inr, arith, length-append, ◌==◌, tests}
use Rattle.std.specs.List.{list_all, join_with_byte}
use Rattle.std.proofs.lemmas.Fmt.{decimal_injective}
use Rattle.history_model.specs.Bytes.{Bytes, has_byte, line}
use Rattle.history_model.specs.Commands.{Command}
use Rattle.history_model.specs.Spelling.{Part, Line, Field, parts_text, parts_of, is_part, is_word, max_line, has_spelling}
use Rattle.history_model.specs.Grammar.{GoesOnOf, StopsByOf}
use Rattle.history_model.specs.laws.Grammars.{HasOneRestCause, RestBeginsWithNone}
use Rattle.history_model.specs.declared.Cause.{Cause}
use Rattle.history_model.specs.declared.Cause.TheVariants.{Syntax, Truncated, LineTooLong}
use Rattle.history_model.proofs.PartLemmas.{Agree, split_at, one_is_in, one_line, regrouped, words_same, same_length, below, head_same, tail_same}
use Rattle.history_model.proofs.GrammarLemmas.{agree, spelled_parts}
use Rattle.std.proofs.lemmas.Bool.{and_parts}

-- two fronts of parts that agree, in one text: they are one, or one goes on after the other's end
pub data Compared (C : Type 0) (ps qs : List Part) (m n : List Part) (x y : Bytes) : Type 0 where
  both : ps ≡ qs → x ≡ y → Agree C m n → Compared C ps qs m n x y
  left_stops : (r : Part) (rs : List Part) → qs ≡ ps ++ r ∷ rs → x ≡ parts_text (r ∷ rs) ++ y → Agree C m (r ∷ (rs ++ n)) → Compared C ps qs m n x y
  right_stops : (r : Part) (rs : List Part) → ps ≡ qs ++ r ∷ rs → y ≡ parts_text (r ∷ rs) ++ x → Agree C (r ∷ (rs ++ m)) n → Compared C ps qs m n x y

longer : (C : Type 0) (p : Part) (ps qs m n : List Part) (x y : Bytes) (q : Part) → p ≡ q → Compared C ps qs m n x y → Compared C (p ∷ ps) (q ∷ qs) m n x y
longer C p ps qs m n x y q e (both same texts g) = both (λ i. e i ∷ same i) texts g
longer C p ps qs m n x y q e (left_stops r rs same texts g) = left_stops r rs (λ i. sym e i ∷ same i) texts g
longer C p ps qs m n x y q e (right_stops r rs same texts g) = right_stops r rs (λ i. e i ∷ same i) texts g

compared : (C : Type 0) (ps qs m n : List Part) (x y : Bytes) → list_all is_part ps ≡ true → list_all is_part qs ≡ true → Agree C (ps ++ m) (qs ++ n)
    → parts_text ps ++ x ≡ parts_text qs ++ y → Compared C ps qs m n x y
compared C [] [] m n x y h k g e = both refl e g
compared C [] (q ∷ qs) m n x y h k g e = left_stops q qs refl e g
compared C (p ∷ ps) [] m n x y h k g e = right_stops p ps refl (sym e) g
compared C (Line us ∷ ps) (Field b ∷ qs) m n x y h k g e = absurd g
compared C (Field a ∷ ps) (Line vs ∷ qs) m n x y h k g e = absurd g
compared C (Line us ∷ ps) (Line vs ∷ qs) m n x y h k g e =
    let hs = and_parts (is_part (Line us)) (list_all is_part ps) h in
    let ks = and_parts (is_part (Line vs)) (list_all is_part qs) k in
    let us_words = (and_parts (list_all is_word us) _ hs.0).0 in
    let vs_words = (and_parts (list_all is_word vs) _ ks.0).0 in
    let cut = split_at 10 (join_with_byte 32 us) (join_with_byte 32 vs) (parts_text ps ++ x) (parts_text qs ++ y) (one_line us us_words) (one_line vs vs_words)
    (sym (regrouped (join_with_byte 32 us) (parts_text ps) x) ∙ e ∙ regrouped (join_with_byte 32 vs) (parts_text qs) y) in
    let words : us ≡ vs = words_same us vs us_words vs_words cut.0 in
    longer C (Line us) ps qs m n x y (Line vs) (ap Line words) (compared C ps qs m n x y hs.1 ks.1 (g words) cut.1)
compared C (Field a ∷ ps) (Field b ∷ qs) m n x y h k g e =
    let hs = and_parts (is_part (Field a)) (list_all is_part ps) h in
    let ks = and_parts (is_part (Field b)) (list_all is_part qs) k in
    let lens = decimal_injective (length a) (length b) (below (length a) hs.0) (below (length b) ks.0) g.0 in
    let cut = same_length a b (parts_text ps ++ x) (parts_text qs ++ y) lens (sym (regrouped a (parts_text ps) x) ∙ e ∙ regrouped b (parts_text qs) y) in
    longer C (Field a) ps qs m n x y (Field b) (ap Field cut.0) (compared C ps qs m n x y hs.1 ks.1 (g.1 cut.0) cut.1)

all_front : (xs ys : List Part) → list_all is_part (xs ++ ys) ≡ true → (list_all is_part xs ≡ true) × (list_all is_part ys ≡ true)
all_front [] ys h = (refl, h)
all_front (x ∷ xs) ys h =
    let parts = and_parts (is_part x) (list_all is_part (xs ++ ys)) h in
    let rest = all_front xs ys parts.1 in
    (and_true (is_part x) (list_all is_part xs) parts.0 rest.0, rest.1)
  where
    and_true : (a b : Bool) → a ≡ true → b ≡ true → (a && b) ≡ true
    and_true true b e f = f
    and_true false b e f = cc

-- ---- of each grammar of commands that have a spelling
module _ (is_known : Command → Bool) (spelled : (c : Command) → is_known c ≡ true → has_spelling c ≡ true) where
  -- the parts of a command that goes on
  known_parts : {ps : List Part} {next : Part} (g : GoesOnOf is_known ps next) → list_all is_part (ps ++ next ∷ g.more) ≡ true
  known_parts g = subst (λ parts. list_all is_part parts ≡ true) g.is (spelled_parts g.command (spelled g.command g.known))

  -- ---- what stops doesn't go on

  in_front : (d n : ℕ) (s x : Bytes) → length s < n → has_byte d (take n (s ++ d ∷ x)) ≡ true
  in_front d zero s x h = absurd (omega arith)
  in_front d (suc n) [] x h = one_is_in d [] (take n x)
  in_front d (suc n) (b ∷ s) x h = or_true (b == d) _ (in_front d n s x (omega arith))
    where
      or_true : (a b : Bool) → b ≡ true → (a || b) ≡ true
      or_true true b e = refl
      or_true false b e = e

  same_byte : (a b x y : Bytes) (c d : ℕ) → length a ≡ length b → a ++ c ∷ x ≡ b ++ d ∷ y → c ≡ d
  same_byte [] [] x y c d n e = head_same e
  same_byte [] (v ∷ b) x y c d n e = absurd (omega arith)
  same_byte (u ∷ a) [] x y c d n e = absurd (omega arith)
  same_byte (u ∷ a) (v ∷ b) x y c d n e = same_byte a b x y c d (omega arith) (tail_same e)

  true_false : {A : Type 0} {b : Bool} → b ≡ true → b ≡ false → A
  true_false e f = cc

  strip : (C : Type 0) (ps m n : List Part) → Agree C (ps ++ m) (ps ++ n) → Agree C m n
  strip C [] m n g = g
  strip C (Line us ∷ ps) m n g = strip C ps m n (g refl)
  strip C (Field a ∷ ps) m n g = strip C ps m n (g.1 refl)

  -- two commands that go on after the same parts
  both_go_on : {ps : List Part} {p q : Part} (g : GoesOnOf is_known ps p) (k : GoesOnOf is_known ps q) → Agree (g.command ≡ k.command) (p ∷ g.more) (q ∷ k.more)
  both_go_on {ps = ps} {p = p} {q = q} g k = strip (g.command ≡ k.command) ps (p ∷ g.more) (q ∷ k.more)
      (subst (λ xs. Agree (g.command ≡ k.command) xs (ps ++ q ∷ k.more)) g.is (subst (Agree (g.command ≡ k.command) (parts_of g.command)) k.is (agree g.command k.command)))

  line_or_field : {A : Type 0} {ps : List Part} {us : List Bytes} {b : Bytes} → GoesOnOf is_known ps (Line us) → GoesOnOf is_known ps (Field b) → A
  line_or_field g k = absurd (both_go_on g k)

  field_part : {ps : List Part} {a : Bytes} (g : GoesOnOf is_known ps (Field a)) → is_part (Field a) ≡ true
  field_part {ps = ps} {a = a} g = (and_parts (is_part (Field a)) (list_all is_part g.more) (all_front ps (Field a ∷ g.more) (known_parts g)).1).0

  pub line_part : {ps : List Part} {us : List Bytes} (g : GoesOnOf is_known ps (Line us)) → is_part (Line us) ≡ true
  line_part {ps = ps} {us = us} g = (and_parts (is_part (Line us)) (list_all is_part g.more) (all_front ps (Line us ∷ g.more) (known_parts g)).1).0

  fields_long : {ps : List Part} {a b : Bytes} → GoesOnOf is_known ps (Field a) → GoesOnOf is_known ps (Field b) → length a ≡ length b
  fields_long {a = a} {b = b} g k = decimal_injective (length a) (length b) (below (length a) (field_part g)) (below (length b) (field_part k)) (both_go_on g k).0

  within_line : (us : List Bytes) → is_part (Line us) ≡ true → length (join_with_byte 32 us) ≤ max_line
  within_line us h = let fits = (and_parts (list_all is_word us) _ h).1 in grind (arith, tests)

  line_then : (t x : Bytes) → line t ++ x ≡ t ++ 10 ∷ x
  line_then [] x = refl
  line_then (b ∷ t) x = ap (λ bs. b ∷ bs) (line_then t x)

  -- ---- what stops doesn't go on

  too_short : {A : Type 0} (n : ℕ) (t f z : Bytes) (c : ℕ) → length f ≡ n → length t ≤ n → t ≡ f ++ c ∷ z → A
  too_short n t f z c same le e = let sum = length-append f (c ∷ z) in let len : length t ≡ length (f ++ c ∷ z) = ap length e in absurd (omega arith)

  stops_before : (ps rs : List Part) (r : Part) (t y : Bytes) (cause : Cause) → StopsByOf is_known ps t cause → GoesOnOf is_known ps r → t ≡ parts_text (r ∷ rs) ++ y → ⊥
  stops_before ps rs (Line vs) t y Truncated (inl (here, none, le)) g e =
      true_false (one_is_in 10 (join_with_byte 32 vs) (parts_text rs ++ y)) (subst (λ s. has_byte 10 s ≡ false) (e ∙ regrouped (join_with_byte 32 vs) (parts_text rs) y) none)
  stops_before ps rs (Line vs) t y Truncated (inr (n, field, le)) g e = line_or_field g (field.2)
  stops_before ps rs (Field f) t y Truncated (inl (here, none, le)) g e = line_or_field (here.1) g
  stops_before ps rs (Field f) t y Truncated (inr (n, field, le)) g e =
      too_short n t f (parts_text rs ++ y) 10 (sym (fields_long (field.2) g) ∙ field.1) le (e ∙ regrouped f (parts_text rs) y)
  stops_before ps rs (Line vs) t y LineTooLong (here, more, none) g e =
      let short = within_line vs (line_part g) in
      true_false (in_front 10 (max_line + 1) (join_with_byte 32 vs) (parts_text rs ++ y) (omega arith))
      (subst (λ s. has_byte 10 (take (max_line + 1) s) ≡ false) (e ∙ regrouped (join_with_byte 32 vs) (parts_text rs) y) none)
  stops_before ps rs (Field f) t y LineTooLong (here, more, none) g e = line_or_field (here.1) g
  stops_before ps rs (Line vs) t y Syntax (inl (text, more, here, is, none, le, unfit)) g e =
      let vs_words = (and_parts (list_all is_word vs) _ (line_part g)).0 in
      let cut = split_at 10 text (join_with_byte 32 vs) more (parts_text rs ++ y) none (one_line vs vs_words)
      (sym (line_then text more) ∙ sym is ∙ e ∙ regrouped (join_with_byte 32 vs) (parts_text rs) y) in
      unfit (vs, ap line cut.0, g)
  stops_before ps rs (Field f) t y Syntax (inl (text, more, here, is, none, le, unfit)) g e = line_or_field (here.1) g
  stops_before ps rs (Line vs) t y Syntax (inr (bytes, more, byte, field, is, other)) g e = line_or_field g (field.2)
  stops_before ps rs (Field f) t y Syntax (inr (bytes, more, byte, field, is, other)) g e =
      other (same_byte bytes f more (parts_text rs ++ y) byte 10 (sym field.1 ∙ fields_long (field.2) g) (sym is ∙ e ∙ regrouped f (parts_text rs) y))
  stops_before ps rs r t y cause s g e = absurd s

  next_of : (ps : List Part) (t : Bytes) (cause : Cause) → StopsByOf is_known ps t cause → (p : Part) × GoesOnOf is_known ps p
  next_of ps t Truncated (inl (here, none, le)) = (Line here.0, here.1)
  next_of ps t Truncated (inr (n, field, le)) = (Field field.0, field.2)
  next_of ps t LineTooLong (here, more, none) = (Line here.0, here.1)
  next_of ps t Syntax (inl (text, more, here, is, none, le, unfit)) = (Line here.0, here.1)
  next_of ps t Syntax (inr (bytes, more, byte, field, is, other)) = (Field field.0, field.2)
  next_of ps t cause s = absurd s

  none_left : (C : Type 0) (p : Part) (ps : List Part) → Agree C (p ∷ ps) [] → ⊥
  none_left C (Line us) ps g = g
  none_left C (Field a) ps g = g

  append_none : (xs : List Part) → xs ++ [] ≡ xs
  append_none [] = refl
  append_none (x ∷ xs) = λ i. x ∷ append_none xs i

  regroup : (xs ys zs : List Part) → (xs ++ ys) ++ zs ≡ xs ++ (ys ++ zs)
  regroup [] ys zs = refl
  regroup (x ∷ xs) ys zs = λ i. x ∷ regroup xs ys zs i

  pub rest_begins_with_none : RestBeginsWithNone is_known
  rest_begins_with_none rest more cause b h known e = go (compared (a.command ≡ b) h.parts (parts_of b) (next.0 ∷ a.more) [] h.tail more
      (all_front h.parts (next.0 ∷ a.more) (known_parts a)).0 b_parts agreed (sym h.split ∙ e))
    where
      next : (p : Part) × GoesOnOf is_known h.parts p
      next = next_of h.parts h.tail cause h.stops

      a : GoesOnOf is_known h.parts (next.0)
      a = next.1

      b_parts : list_all is_part (parts_of b) ≡ true
      b_parts = spelled_parts b (spelled b known)

      agreed : Agree (a.command ≡ b) (h.parts ++ next.0 ∷ a.more) (parts_of b ++ [])
      agreed = subst (λ xs. Agree (a.command ≡ b) xs (parts_of b ++ [])) a.is (subst (Agree (a.command ≡ b) (parts_of a.command)) (sym (append_none (parts_of b))) (agree a.command b))

      go : Compared (a.command ≡ b) h.parts (parts_of b) (next.0 ∷ a.more) [] h.tail more → ⊥
      go (both same texts g) = none_left (a.command ≡ b) next.0 a.more g
      go (left_stops r rs same texts g) = stops_before h.parts rs r h.tail more cause h.stops (record { command = b; known = known; more = rs; is = same }) texts
      go (right_stops r rs same texts g) = none_left (a.command ≡ b) r _ g

  -- ---- one cause

  Named : List Part → Bytes → Cause → Type 0
  Named ps t x = ((x ≡ Truncated) × StopsByOf is_known ps t Truncated) ⊎ ((x ≡ LineTooLong) × StopsByOf is_known ps t LineTooLong) ⊎ ((x ≡ Syntax) × StopsByOf is_known ps t Syntax)

  named_so : (ps : List Part) (t : Bytes) (x : Cause) → StopsByOf is_known ps t x → Named ps t x
  unfolding Named
  named_so ps t Truncated s = inl (refl, s)
  named_so ps t LineTooLong s = inr (inl (refl, s))
  named_so ps t Syntax s = inr (inr (refl, s))
  named_so ps t x s = absurd s

  has_feed : {A : Type 0} (t text more : Bytes) → t ≡ line text ++ more → has_byte 10 t ≡ false → A
  has_feed t text more is none = true_false (one_is_in 10 text more) (subst (λ s. has_byte 10 s ≡ false) (is ∙ line_then text more) none)

  cut_long : {A : Type 0} (ps : List Part) (t : Bytes) → StopsByOf is_known ps t Truncated → StopsByOf is_known ps t LineTooLong → A
  cut_long ps t (inl (here, none, le)) (other_line, more, no_feed) = absurd (omega arith)
  cut_long ps t (inr (n, field, le)) (other_line, more, no_feed) = line_or_field (other_line.1) (field.2)

  cut_wrong : {A : Type 0} (ps : List Part) (t : Bytes) → StopsByOf is_known ps t Truncated → StopsByOf is_known ps t Syntax → A
  cut_wrong ps t (inl (here, none, le)) (inl (text, more, other_line, is, no_feed, fits, unfit)) = has_feed t text more is none
  cut_wrong ps t (inl (here, none, le)) (inr (bytes, more, byte, field, is, other)) = line_or_field (here.1) (field.2)
  cut_wrong ps t (inr (n, field, le)) (inl (text, more, other_line, is, no_feed, fits, unfit)) = line_or_field (other_line.1) (field.2)
  cut_wrong ps t (inr (n, field, le)) (inr (bytes, more, byte, other_field, is, other)) =
      too_short n t bytes more byte (sym other_field.1 ∙ fields_long (other_field.2) (field.2) ∙ field.1) le is

  long_wrong : {A : Type 0} (ps : List Part) (t : Bytes) → StopsByOf is_known ps t LineTooLong → StopsByOf is_known ps t Syntax → A
  long_wrong ps t (here, longer_than, none) (inl (text, more, other_line, is, no_feed, fits, unfit)) =
      true_false (in_front 10 (max_line + 1) text more (omega arith)) (subst (λ s. has_byte 10 (take (max_line + 1) s) ≡ false) (is ∙ line_then text more) none)
  long_wrong ps t (here, longer_than, none) (inr (bytes, more, byte, field, is, other)) = line_or_field (here.1) (field.2)

  same_cause : (ps : List Part) (t : Bytes) (x y : Cause) → Named ps t x → Named ps t y → x ≡ y
  unfolding Named
  same_cause ps t x y (inl (e, s)) (inl (f, u)) = e ∙ sym f
  same_cause ps t x y (inr (inl (e, s))) (inr (inl (f, u))) = e ∙ sym f
  same_cause ps t x y (inr (inr (e, s))) (inr (inr (f, u))) = e ∙ sym f
  same_cause ps t x y (inl (e, s)) (inr (inl (f, u))) = cut_long ps t s u
  same_cause ps t x y (inr (inl (e, s))) (inl (f, u)) = cut_long ps t u s
  same_cause ps t x y (inl (e, s)) (inr (inr (f, u))) = cut_wrong ps t s u
  same_cause ps t x y (inr (inr (e, s))) (inl (f, u)) = cut_wrong ps t u s
  same_cause ps t x y (inr (inl (e, s))) (inr (inr (f, u))) = long_wrong ps t s u
  same_cause ps t x y (inr (inr (e, s))) (inr (inl (f, u))) = long_wrong ps t u s

  -- if one front goes on after another, the other doesn't stop
  goes_behind : (ps rs qs : List Part) (r : Part) {q : Part} → qs ≡ ps ++ r ∷ rs → GoesOnOf is_known qs q → GoesOnOf is_known ps r
  goes_behind ps rs qs r {q = q} same g = record {
    command = g.command;
    known = g.known;
    more = rs ++ q ∷ g.more;
    is = g.is ∙ ap (λ xs. xs ++ q ∷ g.more) same ∙ regroup ps (r ∷ rs) (q ∷ g.more);
  }

  pub has_one_rest_cause : HasOneRestCause is_known
  has_one_rest_cause rest x y h k = go (compared (a.command ≡ b.command) h.parts k.parts (next.0 ∷ a.more) (other.0 ∷ b.more) h.tail k.tail
      (all_front h.parts (next.0 ∷ a.more) (known_parts a)).0 (all_front k.parts (other.0 ∷ b.more) (known_parts b)).0 agreed (sym h.split ∙ k.split))
    where
      next : (p : Part) × GoesOnOf is_known h.parts p
      next = next_of h.parts h.tail x h.stops

      other : (p : Part) × GoesOnOf is_known k.parts p
      other = next_of k.parts k.tail y k.stops

      a : GoesOnOf is_known h.parts (next.0)
      a = next.1

      b : GoesOnOf is_known k.parts (other.0)
      b = other.1

      agreed : Agree (a.command ≡ b.command) (h.parts ++ next.0 ∷ a.more) (k.parts ++ other.0 ∷ b.more)
      agreed = subst (λ xs. Agree (a.command ≡ b.command) xs (k.parts ++ other.0 ∷ b.more)) a.is (subst (Agree (a.command ≡ b.command) (parts_of a.command)) b.is (agree a.command b.command))

      go : Compared (a.command ≡ b.command) h.parts k.parts (next.0 ∷ a.more) (other.0 ∷ b.more) h.tail k.tail → x ≡ y
      go (both same texts g) =
          same_cause h.parts h.tail x y (named_so h.parts h.tail x h.stops)
          (named_so h.parts h.tail y (subst (λ ps. StopsByOf is_known ps h.tail y) (sym same) (subst (λ t. StopsByOf is_known k.parts t y) (sym texts) k.stops)))
      go (left_stops r rs same texts g) = absurd (stops_before h.parts rs r h.tail k.tail x h.stops (goes_behind h.parts rs k.parts r same b) texts)
      go (right_stops r rs same texts g) = absurd (stops_before k.parts rs r k.tail h.tail y k.stops (goes_behind k.parts rs h.parts r same a) texts)
