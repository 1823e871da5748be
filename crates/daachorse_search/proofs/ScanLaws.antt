-- One unit further: in a source and in a haystack the list of what is left is that of what is read later.
use Rattle.std.proofs.Common.{◌≡◌, ℕ, ◌<◌, List, [], ◌∷◌, ◌++◌, map, Option, Some, None, refl, sym, ap, ◌∙◌, append_assoc, append-nil, length-append, arith}
use Rattle.std.proofs.lemmas.List.{map-append}
use Rattle.std.specs.Iterator.{Count, items_left}
use Rattle.std.specs.declared.num.NonZeroU32.{NonZeroU32}
use Rattle.daachorse_core.specs.Outputs.{number}
use Rattle.daachorse_model.specs.declared.Match.{Match}
use Rattle.daachorse_model.specs.Matches.{at_each_end}
use Rattle.daachorse_haystack.proofs.SourceLaws.{Yields_push}
use Rattle.daachorse_search.specs.Scans.{past_each_end, ScansOver}
use Rattle.daachorse_search.specs.Matches.{ReadsTo}
use Rattle.daachorse_search.specs.Stepwise.{StepView}

module _ {A : Type 0} (f : List ℕ → List A) where
  -- what ends with what was read, and what ends past it
  pub at_each_end-split : (t w : List ℕ) → at_each_end f t w ≡ f t ++ past_each_end f t w
  at_each_end-split t [] = sym (append-nil (f t))
  at_each_end-split t (u ∷ w) = refl

  pub past_each_end-append : (t x y : List ℕ) → past_each_end f t (x ++ y) ≡ past_each_end f t x ++ past_each_end f (t ++ x) y
  past_each_end-append t [] y = ap (λ r. past_each_end f r y) (sym (append-nil t))
  past_each_end-append t (u ∷ x) y =
      let t' = t ++ u ∷ [] in
      at_each_end-split t' (x ++ y)
      ∙ ap (λ l. f t' ++ l) (past_each_end-append t' x y)
      ∙ sym (append_assoc (f t') (past_each_end f t' x) (past_each_end f (t' ++ x) y))
      ∙ ap (λ l. l ++ past_each_end f (t' ++ x) y) (sym (at_each_end-split t' x))
      ∙ ap (λ r. at_each_end f t' x ++ past_each_end f r y) (append_assoc t (u ∷ []) x)

-- where there is no output, nothing is found
pub none_found : {X : Type 0} {l : List X} {o : Option NonZeroU32} (given : ℕ → List X) → l ≡ given (number o) → o ≡ None → given 0 ≡ [] → l ≡ []
none_found given is none empty = is ∙ ap (λ p. given (number p)) none ∙ empty

module _ {V A W S U : Type 0} {view : StepView V A W} {steps : S → Option U → S → Type 0} {left : S → Count} {unit : U → ℕ} {from : W} {source : S} {xs : List U} {before : W} {last : S} {x : U} {to : W} {rest : S} where
  -- one more unit at which nothing is found
  pub ScansOver-more : ScansOver view steps left unit from source xs before last → steps last (Some x) rest → items_left left rest < items_left left last
      → view.automaton to ≡ view.automaton before → view.read to ≡ view.read before ++ unit x ∷ [] → view.found (view.automaton to) (view.read to) ≡ [] → ScansOver view steps left unit from source (xs ++ x ∷ []) to rest
  ScansOver-more over step less same read none =
      let more : List ℕ = map unit xs in let u : ℕ = unit x in let f = view.found (view.automaton from) in
      let all : map unit (xs ++ x ∷ []) ≡ more ++ u ∷ [] = map-append unit xs (x ∷ []) in
      let is : view.automaton to ≡ view.automaton from = same ∙ over.same in
      let read' : view.read to ≡ (view.read from ++ more) ++ u ∷ [] = read ∙ ap (λ t. t ++ u ∷ []) over.read in
      let here : f ((view.read from ++ more) ++ u ∷ []) ≡ [] = ap f (sym read') ∙ ap (λ a. view.found a (view.read to)) (sym is) ∙ none in
      let past : past_each_end f (view.read from) (more ++ u ∷ []) ≡ [] =
      past_each_end-append f (view.read from) more (u ∷ []) ∙ ap (λ l. l ++ f ((view.read from ++ more) ++ u ∷ [])) over.none ∙ here in
      record {
        took = Yields_push steps source xs last x rest over.took step;
        fewer = omega (arith, over.fewer, less, length-append xs (x ∷ []));
        same = is;
        read = read' ∙ append_assoc (view.read from) more (u ∷ []) ∙ ap (λ w. view.read from ++ w) (sym all);
        none = ap (past_each_end f (view.read from)) all ∙ past;
      }

module _ {V A W : Type 0} {view : StepView V A W} {from : W} {rest : List ℕ} where
  pub ReadsTo-first : ReadsTo view from rest [] from rest
  ReadsTo-first = record { same = refl; haystack = refl; left = refl }

  module _ {to : W} {later : List ℕ} {u : ℕ} {more : List ℕ} {next : W} {matches : List (Match V)} where
    -- one more unit, at whose end there are these matches
    pub ReadsTo-one : ReadsTo view from rest [] to later → later ≡ u ∷ more → view.automaton next ≡ view.automaton to → view.read next ≡ view.read to ++ u ∷ [] → view.found (view.automaton next) (view.read next) ≡ matches
        → ReadsTo view from rest matches next more
    ReadsTo-one was is same read here =
        let f = view.found (view.automaton to) in
        record {
          same = same ∙ was.same;
          haystack = ap (λ t. t ++ more) read ∙ append_assoc (view.read to) (u ∷ []) more ∙ ap (λ w. view.read to ++ w) (sym is) ∙ was.haystack;
          left =
              was.left
              ∙ ap (past_each_end f (view.read to)) is
              ∙ at_each_end-split f (view.read to ++ u ∷ []) more
              ∙ ap (λ t. f t ++ past_each_end f t more) (sym read)
              ∙ ap (λ (a : A). view.found a (view.read next) ++ past_each_end (view.found a) (view.read next) more) (sym same)
              ∙ ap (λ l. l ++ past_each_end (view.found (view.automaton next)) (view.read next) more) here;
        }
