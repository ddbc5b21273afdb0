use Rattle.std.proofs.Common.{inl, inr}
use Rattle.gix_traverse_commit.proofs.Rest.{begun_to, rest_turned}
use Rattle.gix_traverse_commit.proofs.simple.Simple.begin_anew.Goals as goal
use Rattle.std.proofs.lemmas.Bool.{false_from_ne_true}

pub returns-then-not-self-clause-ahead : goal.returns-then-not-self-clause-ahead
returns-then-not-self-clause-ahead g c = λ a m. elim m [
  | inl n ↦ n
  | inr u ↦ (let b = begun_to g.P.Accept.accepts c.args.self.now a u in let f = c.if-not-self.true in let z : ⊥ = cc in absurd z)
]

pub returns-clause-ahead : goal.returns-clause-ahead
returns-clause-ahead g c = λ a m. elim m [
  | inl (inl n) ↦ (let b = n.begun in let f = c.if-not-self.false in let z : ⊥ = cc in absurd z)
  | inl (inr t) ↦ (let b = t.begun in let f = c.if-not-self.false in let z : ⊥ = cc in absurd z)
  | inr u ↦ inr (rest_turned g.P.Accept.accepts a c.args.self.now (record c.args.self.now { tips = c.clear.new.self; begun = c.is_idle-self.result }) u c.clear.ensures.items
      (false_from_ne_true c.is_idle-self.result (λ h. let both = c.is_idle-self.ensures.0 h in u.goes_on (record { begun = begun_to g.P.Accept.accepts c.args.self.now a u; empty = both.0; none_waits = both.1 }))))
]

pub returns-then-not-self-clause-over : goal.returns-then-not-self-clause-over
returns-then-not-self-clause-over g c = λ o. let b = o.begun in let f = c.if-not-self.true in let z : ⊥ = cc in absurd z
