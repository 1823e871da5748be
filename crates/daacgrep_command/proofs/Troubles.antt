-- Trouble, by the failures that are counted.
use Rattle.std.proofs.Common.{◌≡◌, ℕ, ◌+◌, ◌<◌, ◌&&◌, ◌||◌, inl, inr, Bool, true, false, cond, nat_lt, not, List, None, Some, Result}
use Rattle.std.proofs.Common.{sym, ap, ◌∙◌, subst, arith}
use Rattle.std.proofs.lemmas.Bool.Decides.{nat_tests}
use Rattle.std.proofs.lemmas.Result.{IfOk-weaker}
use Rattle.std.specs.Prelude.{IfOk}
use Rattle.daacgrep_command.specs.declared.error.CommandError.{CommandError}
use Rattle.daacgrep_command.specs.declared.files.Outcome.{Outcome}
use Rattle.daacfind_command.specs.Commands.{Tells}
use Rattle.daacgrep_command.specs.Asked.{status_of_outcome}
use Rattle.daacgrep_command.specs.Causes.{IsNoAutomaton, IsOfOtherOptions, IsUnread}
use Rattle.daacgrep_command.specs.FileSystems.{Disk, IsTrouble, OnlyReads, after_reading}
use Rattle.daacgrep_command.specs.Options.{Asked}

-- ---- reads change nothing but the count

pub reads_same : (a b : Disk) → b ≡ a → OnlyReads a b
reads_same a b same = record {
  given = ap (λ (d : Disk). d.given) same;
  saved = ap (λ (d : Disk). d.saved) same;
  counted = omega (arith, ap (λ (d : Disk). d.failures) same);
}

pub reads_counted : (done : Bool) (a b : Disk) → b ≡ after_reading done a → OnlyReads a b
reads_counted true a b same = reads_same a b same
reads_counted false a b more = record {
  given = ap (λ (d : Disk). d.given) more;
  saved = ap (λ (d : Disk). d.saved) more;
  counted = omega (arith, ap (λ (d : Disk). d.failures) more);
}

pub reads_then : (a b c : Disk) → OnlyReads a b → OnlyReads b c → OnlyReads a c
reads_then a b c p q = record {
  given = q.given ∙ p.given;
  saved = q.saved ∙ p.saved;
  counted = omega (arith, p.counted, q.counted);
}

-- a failure that is counted after reads
pub more_after : {E : Type 0} (a b c : Disk) (r : Result ℕ E) → OnlyReads a b → IfOk r (λ s. s ≡ 2 → b.failures < c.failures)
    → IfOk r (λ s. s ≡ 2 → a.failures < c.failures)
more_after a b c r p is =
    IfOk-weaker r (λ s. s ≡ 2 → b.failures < c.failures) (λ s. s ≡ 2 → a.failures < c.failures)
    (λ s more two. omega (arith, p.counted, more two)) is

-- the cause of a failure after reads
unread_after : (a b c : Disk) (name : List ℕ) → OnlyReads a b → IsUnread b c name → IsUnread a c name
unread_after a b c name p (none, more) = (subst (λ f. Tells f name None) p.given none, omega (arith, p.counted, more))

pub no_automaton_after : (asked : Asked) (a b c : Disk) (rules : List (List ℕ)) (e : CommandError) → OnlyReads a b
    → IsNoAutomaton asked b c rules e → IsNoAutomaton asked a c rules e
no_automaton_after asked a b c rules e p (inl built) = inl built
no_automaton_after asked a b c rules e p (inr (name, last, inl (is, unread))) =
    inr (name, last, inl (is, unread_after a b c name.now p unread))
no_automaton_after asked a b c rules e p (inr (name, last, inr (inl (cause, is, (bytes, has, none))))) =
    inr (name, last, inr (inl (cause, is, (bytes, subst (λ f. Tells f name.now (Some bytes)) p.given has, none))))
no_automaton_after asked a b c rules e p (inr (name, last, inr (inr (is, other)))) =
    let here : IsOfOtherOptions a c asked.flags name.now = record {
      bytes = other.bytes;
      has = subst (λ f. Tells f name.now (Some other.bytes)) p.given other.has;
      automaton = other.automaton;
      rest = other.rest;
      begins = other.begins;
      differs = other.differs;
    } in
    inr (name, last, inr (inr (is, here)))

-- a failed read is counted
pub one_more : (done : Bool) (a b : Disk) → b ≡ after_reading done a → done ≡ false → b.failures ≡ a.failures + 1
one_more done a b is failed = ap (λ (d : Disk). d.failures) (is ∙ ap (λ x. after_reading x a) failed)

-- ---- trouble

-- one failure more is trouble, and none is not
pub trouble_more : (trouble : Bool) (a b : ℕ) → trouble ≡ true → b ≡ a + 1 → IsTrouble trouble a b
trouble_more trouble a b is more = (omega (arith, more), grind (arith, nat_tests, is, more))

pub trouble_same : (trouble : Bool) (a b : ℕ) → trouble ≡ false → b ≡ a → IsTrouble trouble a b
trouble_same trouble a b is same = (omega (arith, same), grind (arith, nat_tests, is, same))

-- trouble in one of two searches, one after the other
pub trouble_then : (t u : Bool) (a b c : ℕ) → IsTrouble t a b → IsTrouble u b c → IsTrouble (t || u) a c
trouble_then true u a b c (p, e) (q, d) = (omega (arith, p, q), grind (arith, nat_tests, e, p, q))
trouble_then false u a b c (p, e) (q, d) = (omega (arith, p, q), grind (arith, nat_tests, e, d, p, q))

-- the status is 2 only where there was trouble
pub trouble_status : (quiet : Bool) (o : Outcome) (n a b : ℕ) → n ≡ status_of_outcome quiet o → IsTrouble o.trouble a b → n ≡ 2 → a < b
trouble_status quiet o n a b is trouble two = by o.trouble o.selected quiet (sym two ∙ is) trouble.1
  where
    by : (t s q : Bool) → ◌≡◌ {A = ℕ} 2 (cond (t && not (q && s)) 2 (cond s 0 1)) → t ≡ nat_lt a b → a < b
    by true s q e t = grind (arith, nat_tests, t)
    by false true q e t = absurd (omega (arith, e))
    by false false q e t = absurd (omega (arith, e))

-- the same, where there is an outcome
module _ {E : Type 0} (r : Result Outcome E) (a b : ℕ) where
  pub more_result : b ≡ a + 1 → IfOk r (λ o. o.trouble ≡ true) → IfOk r (λ o. IsTrouble o.trouble a b)
  more_result more is =
      IfOk-weaker r (λ o. o.trouble ≡ true) (λ o. IsTrouble o.trouble a b) (λ o t. trouble_more o.trouble a b t more) is

  pub same_result : b ≡ a → IfOk r (λ o. o.trouble ≡ false) → IfOk r (λ o. IsTrouble o.trouble a b)
  same_result same is =
      IfOk-weaker r (λ o. o.trouble ≡ false) (λ o. IsTrouble o.trouble a b) (λ o t. trouble_same o.trouble a b t same) is
