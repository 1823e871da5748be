-- A scan, one unit further: what its best match is, and whether it is decided.
use Rattle.std.proofs.Common.{◌≡◌, ◌≢◌, ℕ, ◌+◌, ◌<◌, ◌≤◌, inl, inr, Bool, true, false, cond, List, [], ◌∷◌, ◌++◌, length, Option, Some, None, refl, sym, ap, ◌∙◌, subst, append_assoc, length-append, arith}
use Rattle.std.specs.Prelude.{slice_index_or, is_some, not}
use Rattle.std.specs.declared.num.NonZeroU32.{NonZeroU32}
use Rattle.std.proofs.lemmas.Bool.{not-true, not-false}
use Rattle.std.proofs.lemmas.List.{append_cancel_left}
use Rattle.std.proofs.lemmas.Option.{slice_get_within, get_or_from_slice_get}
use Rattle.daachorse_model.specs.Units.{size}
use Rattle.daachorse_model.specs.Outputs.{IsChain}
use Rattle.daachorse_model.specs.Prefixes.{HasChild, IsPrefix}
use Rattle.daachorse_model.specs.Best.{IsBest, IsBestSoFar, IsSteady, LeftSteps}
use Rattle.daachorse_model.proofs.Suffixes.{size-append, size-push}
use Rattle.daachorse_model.proofs.Links.{none_before}
use Rattle.daachorse_model.proofs.BestLaws.{IsSteady-nil, Told-IsSteady, IsBestSoFar-keeps}
use Rattle.daachorse_search.specs.BestScans.{HasNoLongerKey}
use Rattle.daachorse_model.specs.Dictionary.{Dictionary}
use Rattle.daachorse_search.specs.Views.{AutomatonView, HasFirst, HasMarks, IsLeftmostView}
use Rattle.daachorse_search.proofs.BestScanLaws.{IsFound-new, IsFound-none, steady_none, steady_of}
use Rattle.daachorse_search.proofs.LeftmostLaws.{nil_from_size}
use Rattle.daachorse_streams.specs.declared.scan.Pending.{Pending}
use Rattle.daachorse_streams.specs.declared.scan.Scan.{Scan}
use Rattle.daachorse_streams.specs.Scans.{IsPending, IsPendingSoFar, IsScan}
use Rattle.daachorse_streams.proofs.LeftmostCertain.{IsBest-at_leaf}

-- whether the text has no child
abbrev Leaf : {V : Type 0} → Dictionary V → List ℕ → Bool → Type 0
Leaf K t leaf = (leaf ≡ true → ¬ HasChild K t) × (leaf ≡ false → HasChild K t)

module _ {V : Type 0} (view : AutomatonView V) (marks : List Bool) (marked : HasMarks view marks) (state : ℕ) (reached : view.reached state) where
  pub mark_within : state < length marks
  mark_within = let m = marked state reached in slice_get_within marks state m.0 m.1

  -- a state without a mark has no child, and any other has one
  pub mark_tells : Leaf view.content (view.text state) (not (slice_index_or marks state false))
  mark_tells =
      let m = marked state reached in
      let read : slice_index_or marks state false ≡ m.0 = get_or_from_slice_get marks state m.0 false m.1 in (
        λ leaf child. (let bad : m.0 ≡ false = sym read ∙ not-true (slice_index_or marks state false) leaf in let good : m.0 ≡ true = m.2.1 child in cc),
        λ goes_on. m.2.0 (sym read ∙ not-false (slice_index_or marks state false) goes_on),
      )

module _ {V : Type 0} (width : ℕ → ℕ) (wide : (u : ℕ) → 1 ≤ width u) (view : AutomatonView V) (kind : IsLeftmostView view) where
  -- the units behind a best are those that the text has there
  pub rest_is : (w a k x : List ℕ) → (is : IsBest view.content w a k) → w ≡ a ++ (k ++ x) → x ≡ is.rest
  rest_is w a k x is e = append_cancel_left k x is.rest (append_cancel_left a (k ++ x) (k ++ is.rest) (sym e ∙ is.occurs.parts))

  -- a text that begins a key has no more units than the longest key
  short : (t : List ℕ) (m : ℕ) → HasNoLongerKey view.content m → IsPrefix view.content t → length t ≤ m
  short t m bound (inl e) = omega (arith, ap length e)
  short t m bound (inr q) = omega (arith, bound (t ++ q.0) q.1, length-append t q.0)

  -- what a scan read ends no further past its best's start than a key is long
  near_best : (w t a k : List ℕ) (m : ℕ) → HasNoLongerKey view.content m → IsSteady view.content w t → (is : IsBest view.content w a k) → length w ≤ length a + m
  near_best w t a k m bound steady is = omega (arith, none_before view.content w t steady.none a k is.rest is.occurs, short t m bound steady.long.begins)

  -- an output is that of a new best, behind which there is nothing
  pub new_best : (from : ℕ) (w : List ℕ) (state place : ℕ) (p : NonZeroU32) (leaf : Bool) → view.reached state → place ≡ from + size width w → IsSteady view.content w (view.text state) → HasFirst width view state (Some p)
      → Leaf view.content (view.text state) leaf → IsScan width view from w (record { state = state; place = place; best = Some (record { position = p; end = place }); decided = leaf }) []
  new_best from w state place p leaf reached here steady o tells =
      let t = view.text state in
      let found = IsFound-new width view w kind w t p.value 0 steady o.chain o.some o.place (omega arith) in
      let front = found.front in let key = found.key in let best = found.best in
      let cut : w ≡ (front ++ key) ++ best.rest = best.occurs.parts ∙ sym (append_assoc front key best.rest) in
      record {
        reached = reached;
        place = here;
        steady = λ _. steady;
        pending = record {
          front = front;
          key = key;
          best = best;
          rest = sym (nil_from_size width wide best.rest (omega (arith, found.ends, ap (size width) cut, size-append width (front ++ key) best.rest)));
          ends = omega (arith, here, found.ends);
          output = found.output;
          final = λ is_leaf d. IsBest-at_leaf view.content w t front key d steady (tells.0 is_leaf) best;
          child = tells.1;
          near = λ m bound. omega (arith, near_best w t front key m bound steady best);
        };
      }

  -- with no output at the root, nothing is pending
  pub no_best : (from state : ℕ) → view.reached state → view.text state ≡ [] → IsChain width view.content view.dead (view.text state) [] → IsScan width view from [] (record { state = state; place = from; best = None; decided = false }) []
  no_best from state reached empty chain =
      let P : List ℕ → Type 0 = λ x. IsSteady view.content [] x in
      record {
        reached = reached;
        place = omega arith;
        steady = λ _. subst P (sym empty) (IsSteady-nil view.content);
        pending = (IsFound-none width view [] kind (view.text state) empty chain, refl, refl);
      }

  module _ {from : ℕ} {w behind : List ℕ} {scan : Scan} (is : IsScan width view from w scan behind) (open_yet : scan.decided ≡ false) (u state place : ℕ) (reached : view.reached state)
      (steps : (x : List ℕ) → IsSteady view.content x (view.text scan.state) → LeftSteps view.content x u (view.text state)) (moved : place ≡ scan.place + width u) where
    abbrev next : List ℕ
    next = w ++ u ∷ []

    stepped : LeftSteps view.content w u (view.text state)
    stepped = steps w (is.steady open_yet)

    here : place ≡ from + size width next
    here = omega (arith, moved, is.place, size-push width w u)

    -- the unit comes behind a best
    behind_push : {at : Pending} → (pending : IsPending width view from w (view.text scan.state) at scan.decided behind) → next ≡ pending.front ++ (pending.key ++ (behind ++ u ∷ []))
    behind_push pending =
        ap (λ x. x ++ u ∷ []) (pending.best.occurs.parts ∙ ap (λ x. pending.front ++ (pending.key ++ x)) (sym pending.rest))
        ∙ append_assoc pending.front (pending.key ++ behind) (u ∷ [])
        ∙ ap (λ x. pending.front ++ x) (append_assoc pending.key behind (u ∷ []))

    -- at the root a best is decided, and without one the scan goes on
    pub at_root : view.text state ≡ [] → (d : Bool) → d ≡ is_some scan.best
        → IsScan width view from next (record { state = state; place = place; best = scan.best; decided = d }) (cond d (behind ++ u ∷ []) [])
    at_root empty d is_best = by scan.best d is_best is.pending
      where
        by : (best : Option Pending) (d : Bool) → d ≡ is_some best → IsPendingSoFar width view from w (view.text scan.state) best scan.decided behind
            → IsScan width view from next (record { state = state; place = place; best = best; decided = d }) (cond d (behind ++ u ∷ []) [])
        by None true e pending = cc
        by None false e pending =
            let on = steady_none view.content w (view.text state) u stepped empty pending.0 in
            record { reached = reached; place = here; steady = λ _. on.0; pending = (on.1, refl, refl) }
        by (Some at) false e pending = cc
        by (Some at) true e pending =
            let front = pending.front in let key = pending.key in
            let final : (rest : List ℕ) → IsBest view.content (w ++ u ∷ rest) front key = λ rest. elim stepped [ inl on ↦ absurd (on.1 empty) | inr stops ↦ stops.1.best front key rest pending.best ] in
            record {
              reached = reached;
              place = here;
              steady = λ bad. absurd (let e : true ≡ false = bad in cc);
              pending = record {
                front = front;
                key = key;
                best = final [];
                rest = rest_is next front key (behind ++ u ∷ []) (final []) (behind_push pending);
                ends = pending.ends;
                output = pending.output;
                final = λ _ d. (let P : List ℕ → Type 0 = λ x. IsBest view.content x front key in subst P (sym (append_assoc w (u ∷ []) d)) (final d));
                child = λ bad. absurd (let e : true ≡ false = bad in cc);
                near = λ m bound. omega (arith, near_best w (view.text scan.state) front key m bound (is.steady open_yet) pending.best, length-append w (u ∷ []));
              };
            }

    module _ (chain : IsChain width view.content view.dead (view.text state) []) (going : view.text state ≢ []) where
      steady_next : IsSteady view.content next (view.text state)
      steady_next = steady_of view.content w (view.text state) u stepped going

      -- without an output a best stays
      stays : (at : Pending) → IsPending width view from w (view.text scan.state) at scan.decided behind → (leaf : Bool) → Leaf view.content (view.text state) leaf
          → IsScan width view from next (record { state = state; place = place; best = Some at; decided = leaf }) (behind ++ u ∷ [])
      stays at pending leaf tells =
          let front = pending.front in let key = pending.key in
          let best : IsBest view.content next front key = IsBestSoFar-keeps width view.content w u (Some (front, key)) (Told-IsSteady width view.content view.dead kind next (view.text state) [] steady_next chain) pending.best in
          record {
            reached = reached;
            place = here;
            steady = λ _. steady_next;
            pending = record {
              front = front;
              key = key;
              best = best;
              rest = rest_is next front key (behind ++ u ∷ []) best (behind_push pending);
              ends = pending.ends;
              output = pending.output;
              final = λ is_leaf d. IsBest-at_leaf view.content next (view.text state) front key d steady_next (tells.0 is_leaf) best;
              child = tells.1;
              near = λ m bound. omega (arith, near_best next (view.text state) front key m bound steady_next best);
            };
          }

      pub best_stays : is_some scan.best ≡ true → (leaf : Bool) → Leaf view.content (view.text state) leaf
          → IsScan width view from next (record { state = state; place = place; best = scan.best; decided = leaf }) (behind ++ u ∷ [])
      best_stays some leaf tells = by scan.best some is.pending
        where
          by : (best : Option Pending) → is_some best ≡ true → IsPendingSoFar width view from w (view.text scan.state) best scan.decided behind
              → IsScan width view from next (record { state = state; place = place; best = best; decided = leaf }) (behind ++ u ∷ [])
          by None some pending = cc
          by (Some at) some pending = stays at pending leaf tells

      -- and without a best there is none now
      pub none_stays : is_some scan.best ≡ false → IsScan width view from next (record { state = state; place = place; best = scan.best; decided = scan.decided }) []
      none_stays none = by scan.best none is.pending
        where
          by : (best : Option Pending) → is_some best ≡ false → IsPendingSoFar width view from w (view.text scan.state) best scan.decided behind
              → IsScan width view from next (record { state = state; place = place; best = best; decided = scan.decided }) []
          by (Some at) none pending = cc
          by None none pending =
              let nothing : IsBestSoFar view.content next None = IsBestSoFar-keeps width view.content w u None (Told-IsSteady width view.content view.dead kind next (view.text state) [] steady_next chain) pending.0 in
              record { reached = reached; place = here; steady = λ _. steady_next; pending = (nothing, open_yet, refl) }
