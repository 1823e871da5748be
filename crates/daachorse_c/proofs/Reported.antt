-- What was written so far of matches that are written one by one.
use Rattle.std.proofs.Common.{◌≡◌, ℕ, ◌+◌, ◌<◌, ◌≤◌, List, [], ◌∷◌, ◌++◌, map, take, drop, length, get_or, refl, sym, ap, ◌∙◌, arith}
use Rattle.std.specs.Prelude.{slice_set}
use Rattle.std.proofs.lemmas.List.{drop-drop, drop_more, length-drop, length-take, take_more}
use Rattle.daachorse_model.specs.declared.Match.{Match}
use Rattle.daachorse_c.specs.declared.found.CMatch.{CMatch}
use Rattle.daachorse_c.specs.Writes.{Writes, c_match}
use Rattle.daachorse_c.proofs.Heads.{heads}
use Rattle.daachorse_c.proofs.Writing.{one_more}

-- n of all matches were written to what was there, and these are left
pub record Reported (all rest : List (Match ℕ)) (old new : List CMatch) (n : ℕ) : Type 0 where
  pub room : n ≤ length old
  pub there : n ≤ length all
  pub left : drop n all ≡ rest
  pub wrote : new ≡ map c_match (take n all) ++ drop n old

-- nothing is left unless there is no more room
pub Writes-from_reported : {all left : List (Match ℕ)} {old new : List CMatch} {n : ℕ} → Reported all left old new n → (n < length old → left ≡ []) → Writes all old new n
Writes-from_reported {all} {left} {old} {new} {n} t whole = record {
  room = t.room;
  there = t.there;
  whole = λ lt. let long = length-drop n all in let none = ap length (t.left ∙ whole lt) in omega (arith, long, none, t.there);
  wrote = t.wrote;
}

-- nothing was written
pub reported_nothing : (all : List (Match ℕ)) (old : List CMatch) → Reported all all old old 0
reported_nothing all old = record { room = omega arith; there = omega arith; left = refl; wrote = refl }

-- one match more
pub reported-one : {all rest : List (Match ℕ)} {old new : List CMatch} {n : ℕ} (m : Match ℕ) (ms : List (Match ℕ)) → Reported all rest old new n → rest ≡ m ∷ ms → n < length old
    → Reported all ms old (slice_set new n (c_match m)) (n + 1)
reported-one {all} {rest} {old} {new} {n} m ms t next lt =
    let left = t.left ∙ next in
    let there : n < length all = omega (arith, length-drop n all, ap length left) in
    let here : get_or all n m ≡ m = heads (get_or all n m) m (drop (n + 1) all) ms (sym (drop_more all n m there) ∙ left) in
    let front : take n all ++ m ∷ [] ≡ take (n + 1) all = ap (λ x. take n all ++ x ∷ []) (sym here) ∙ sym (take_more all n m there) in
    record {
      room = omega (arith, lt);
      there = omega (arith, there);
      left = sym (drop-drop 1 n all) ∙ ap (drop 1) left;
      wrote = one_more (take n all) m old new n (omega (arith, length-take n all, there)) lt t.wrote ∙ ap (λ l. map c_match l ++ drop (n + 1) old) front;
    }
