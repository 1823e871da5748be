-- Where every run gives a list, so does a whole one.
use Rattle.std.proofs.Common.{◌≡◌, List, map, inl, inr, refl, sym, subst}
use Rattle.std.proofs.lemmas.Iterator.{YieldsList}
use Rattle.std.proofs.lemmas.Iterator.Consumers.{YieldsList-end}
use Rattle.std.specs.Prelude.{◌⊎◌, Option, None, IfErr, IfOk, Result, Ok, Err}
use Rattle.std.specs.Iterator.Runs.{Run, WholeRun, YieldsRun}

module _ {S A B : Type 0} {steps : S → Option A → S → Type 0} where
  whole_is : {P : Run steps → Type 0} {s : S} {v : A → B} {all : List B} → YieldsList steps v s all → WholeRun steps s P
      → (p : Run steps) × (map v p.items ≡ all) × P p
  unfolding YieldsRun
  whole_is {s = s} {v = v} {all = all} road (p, from, whole, holds) =
      let run = p.gave.0 in
      let at : YieldsList steps v p.from all = subst (λ y. YieldsList steps v y all) (sym from) road in
      let ended = run.2 whole in
      (p, (YieldsList-end at p.items run.0 run.1 None ended.0 refl ended.1).0, holds)

  -- of what is made of the iterator that a call began with
  pub listed : {X E : Type 0} (r : Result X E) (Begins : S → Type 0) (P : X → Run steps → Type 0) (Q : X → Type 0)
      → IfOk r (λ x. (it : S) × Begins it × WholeRun steps it (P x)) → (v : A → B) (all : List B)
      → ((it : S) → Begins it → YieldsList steps v it all) → ((x : X) (p : Run steps) → map v p.items ≡ all → P x p → Q x) → IfOk r Q
  listed (Err e) Begins P Q holds v all road so = tt
  listed (Ok x) Begins P Q (it, begins, run) v all road so = let w = whole_is (road it begins) run in so x w.0 w.1 w.2

  pub listed_or : {X E : Type 0} (r : Result X E) (Begins : S → Type 0) (O : E → Type 0) (P : E → Run steps → Type 0) (Q : E → Type 0)
      → IfErr r (λ e. O e ⊎ ((it : S) × Begins it × WholeRun steps it (P e))) → (v : A → B) (all : List B)
      → ((it : S) → Begins it → YieldsList steps v it all) → ((e : E) (p : Run steps) → map v p.items ≡ all → P e p → Q e)
      → IfErr r (λ e. O e ⊎ Q e)
  listed_or (Ok x) Begins O P Q holds v all road so = tt
  listed_or (Err e) Begins O P Q (inl other) v all road so = inl other
  listed_or (Err e) Begins O P Q (inr (it, begins, run)) v all road so = let w = whole_is (road it begins) run in inr (so e w.0 w.1 w.2)
