-- The next index is kept just where its frequency is above 0.
use Rattle.std.proofs.Common.{◌≡◌, ℕ, ◌+◌, ◌<◌, cond, List, [], ◌∷◌, ◌++◌, length, get_or, take, sym, ap, ◌∙◌, arith}
use Rattle.std.specs.Prelude.{filter, nat_lt}
use Rattle.std.specs.List.{enumerate_from}
use Rattle.std.proofs.lemmas.List.{append-nil, length-take-le, take_more}
use Rattle.std.proofs.lemmas.List.Elements.{filter-append}
use Rattle.std.proofs.lemmas.Bool.{le-ltb, lt-ltb}
use Rattle.std.proofs.lemmas.Result.{IfOk-from_err}
use Rattle.std.proofs.lemmas.Grind.{common_steps}
use Rattle.daachorse_charwise_states.specs.Ranks.{used_in}
use Rattle.daachorse_charwise_states.proofs.mapper.used.Goals as goal
use Rattle.daachorse_charwise_states.proofs.mapper.used.Goals.{then-freq-gt0+in_ok-push, else-freq-gt0}

enumerate-push : (n : ℕ) (xs : List ℕ) (y : ℕ) → enumerate_from n (xs ++ y ∷ []) ≡ enumerate_from n xs ++ (n + length xs, y) ∷ []
enumerate-push n [] y = ap (λ k. (k, y) ∷ []) (omega arith)
enumerate-push n (x ∷ xs) y =
    let count : n + 1 + length xs ≡ n + length (x ∷ xs) = omega arith in
    ap (λ l. (n, x) ∷ l) (enumerate-push (n + 1) xs y ∙ ap (λ k. enumerate_from (n + 1) xs ++ (k, y) ∷ []) count)

used_more : (freqs : List ℕ) (i : ℕ) → i < length freqs
    → used_in (take (i + 1) freqs) ≡ used_in (take i freqs) ++ cond (nat_lt 0 (get_or freqs i 0)) ((i, get_or freqs i 0) ∷ []) []
used_more freqs i inside =
    let count : length (take i freqs) ≡ i = length-take-le i freqs (omega (arith, inside)) in
    ap used_in (take_more freqs i 0 inside)
    ∙ ap (filter (λ p. nat_lt 0 p.1)) (enumerate-push 0 (take i freqs) (get_or freqs i 0) ∙ ap (λ k. enumerate_from 0 (take i freqs) ++ (k, get_or freqs i 0) ∷ []) (omega (arith, count)))
    ∙ filter-append (λ p. nat_lt 0 p.1) (enumerate_from 0 (take i freqs)) ((i, get_or freqs i 0) ∷ [])

pub loop-index-preserved : goal.loop-index-preserved
loop-index-preserved g c =
    let freqs = c.args.freqs.now in let i = c.loop-index.index in let freq : ℕ = get_or freqs i 0 in
    let more = used_more freqs i c.loop-index-test.true in
    let so_far : List (ℕ × ℕ) = used_in (take i freqs) in
    elim c.if-freq-gt0.branch [
      | then-freq-gt0+in_ok-push w ↦
          ap (λ v. v.items) w.used-is ∙ w.in_ok-push.ensures.items ∙ ap (λ l. l ++ (i, freq) ∷ []) c.loop-index.invariant
          ∙ sym (more ∙ ap (λ b. so_far ++ cond b ((i, freq) ∷ []) []) (lt-ltb 0 freq w.if-freq-gt0.true))
      | else-freq-gt0 w ↦
          ap (λ v. v.items) w.used-is ∙ c.loop-index.invariant
          ∙ sym (more ∙ ap (λ b. so_far ++ cond b ((i, freq) ∷ []) []) (le-ltb 0 freq w.if-freq-gt0.false) ∙ append-nil so_far)
    ]

pub returns-in_err-push-clause-used : goal.returns-in_err-push-clause-used
returns-in_err-push-clause-used g c = IfOk-from_err c.from_residual.result _ c.from_residual.ensures.0

pub returns-clause-used : goal.returns-clause-used
returns-clause-used g c = grind (arith, common_steps)
