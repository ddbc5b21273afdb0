use Rattle.std.proofs.Common.{◌∙◌, ◌+◌, ◌++◌, ◌∷◌, [], refl, sym, inl, inr, take, drop, length-append, length-take-le, append_assoc, arith}
use Rattle.std.specs.Prelude.{slice_index}
use Rattle.std.proofs.lemmas.Bool.Decides.{Decides-eqb}
use Rattle.gix_object_lines.proofs.Cuts.{cut_at, lacks_from}
use Rattle.gix_object_lines.proofs.CutLemmas.{lacks_behind}
use Rattle.gix_ref_log.proofs.iter.place.line_start.Goals as goal

pub returns-in-Some : goal.returns-in-Some
returns-in-Some c =
    let bytes = c.args.bytes.now in
    let at = c.in-Some.at in
    let last = c.in-Some.ensures.0 in
    let is = (Decides-eqb (slice_index bytes at) 10).0 c.in-Some.ensures.1 in
    record {
      front = take at bytes ++ 10 ∷ [];
      line = drop (at + 1) bytes;
      cut = cut_at 10 bytes at last.high is ∙ sym (append_assoc (take at bytes) (10 ∷ []) (drop (at + 1) bytes));
      sized =
          let a = length-append (take at bytes) (10 ∷ []) in
          let b = length-take-le at bytes (omega (arith, last.high)) in
          omega (arith, a, b);
      unbroken = lacks_behind 10 bytes at (λ k behind below is. last.after k (omega arith) below ((Decides-eqb (slice_index bytes k) 10).1 is));
      begins = inl (take at bytes, refl);
    }

pub returns-in-None : goal.returns-in-None
returns-in-None c =
    let bytes = c.args.bytes.now in
    record {
      front = [];
      line = bytes;
      cut = refl;
      sized = refl;
      unbroken = lacks_from 10 bytes (λ k below is. c.in-None.ensures k (omega arith) below ((Decides-eqb (slice_index bytes k) 10).1 is));
      begins = inr (refl, c.if-is_all.true);
    }

pub returns-in-None-2 : goal.returns-in-None-2
returns-in-None-2 c = (c.if-is_all.false, lacks_from 10 c.args.bytes.now (λ k below is. c.in-None.ensures k (omega arith) below ((Decides-eqb (slice_index c.args.bytes.now k) 10).1 is)))
