-- A scan for the leftmost match, one unit further: the best of what was read, and what is final where the scan stops.
use Rattle.std.proofs.Common.{◌≡◌, ◌≢◌, ℕ, ◌+◌, ◌-◌, ◌*◌, ◌<◌, ◌≤◌, inl, inr, Bool, cond, true, List, [], ◌∷◌, ◌++◌, length, take, Option, Some, None, refl, sym, ap, ◌∙◌, subst, append_assoc, append-nil, length-append, arith}
use Rattle.std.specs.Prelude.{count_by}
use Rattle.std.proofs.lemmas.List.{take_at}
use Rattle.std.proofs.lemmas.List.Sums.{sum_by-append, sum_by_push}
use Rattle.daachorse_model.specs.Units.{size}
use Rattle.daachorse_model.specs.Dictionary.{Dictionary}
use Rattle.daachorse_model.specs.Prefixes.{IsCut, IsPrefix, Occurs}
use Rattle.daachorse_model.specs.Outputs.{IsChain}
use Rattle.daachorse_model.specs.Best.{IsBest, IsBestSoFar, NoneStarts, IsSteady, LeftSteps}
use Rattle.daachorse_model.proofs.Suffixes.{size-append, le_or_lt}
use Rattle.daachorse_model.proofs.Links.{none_before}
use Rattle.daachorse_model.proofs.Steps.{IsLong-same}
use Rattle.daachorse_model.proofs.Occurrences.{split_after}
use Rattle.daachorse_model.proofs.BestLaws.{IsSteady-nil, Told, Told-IsSteady, IsBestSoFar-keeps, IsBest-new}
use Rattle.daachorse_model.proofs.Lists.{nil_of}
use Rattle.daachorse_search.specs.declared.best.Found.{Found}
use Rattle.daachorse_search.specs.BestScans.{HasNoLongerKey, PendsBefore, IsOutputOf, IsTheBest, IsClear, IsFound, IsFoundSoFar, IsScanning}
use Rattle.daachorse_search.specs.Views.{AutomatonView, IsLeftmostView}

module _ {V : Type 0} (K : Dictionary V) where
  IsPrefix-short : (t : List ℕ) (m : ℕ) → HasNoLongerKey K m → IsPrefix K t → length t ≤ m
  IsPrefix-short t m bound (inl e) = omega (arith, ap length e)
  IsPrefix-short t m bound (inr q) = omega (arith, bound (t ++ q.0) q.1, length-append t q.0)

  -- what was read ends no further past an occurrence's start than a key is long
  near_occurrence : (w t : List ℕ) (m : ℕ) → HasNoLongerKey K m → IsSteady K w t → (a k b : List ℕ) → Occurs K w a k b → length w ≤ length a + m
  near_occurrence w t m bound steady a k b o = omega (arith, none_before K w t steady.none a k b o, IsPrefix-short t m bound steady.long.begins)

  -- there is one cut
  not_at_root : (w t : List ℕ) → IsCut K w t → t ≢ [] → ¬ IsCut K w []
  not_at_root w t (inr at) going root = going at.0
  not_at_root w t (inl at) going (inl root) = going (IsLong-same K w t [] at.0 root.0)
  not_at_root w t (inl at) going (inr root) = at.1 (root.1 t at.0)

  -- one more unit, behind which the search is not at the root
  pub PendsBefore-more : (text seen more t : List ℕ) (u : ℕ) → text ≡ (seen ++ u ∷ []) ++ more → IsCut K (seen ++ u ∷ []) t → t ≢ [] → PendsBefore K (1 + (length text - length (u ∷ more))) text
      → PendsBefore K (1 + (length text - length more)) text
  PendsBefore-more text seen more t u parts cut going was k some below root =
      let w = seen ++ u ∷ [] in
      let sized : length text ≡ length w + length more = ap length parts ∙ length-append w more in
      elim (le_or_lt k (length text - length (u ∷ more))) [
        | inl before ↦ was k some (omega (arith, before)) root
        | inr here ↦
            let is : k ≡ length w = omega (arith, here, below, sized, length-append seen (u ∷ [])) in
            let all : take k text ≡ w = ap (take k) parts ∙ take_at w more k (sym is) in
            let P : List ℕ → Type 0 = λ x. IsCut K x [] in
            not_at_root w t cut going (subst P all root)
      ]

  -- a step that does not come to the root goes on
  pub steady_of : (w t : List ℕ) (u : ℕ) → LeftSteps K w u t → t ≢ [] → IsSteady K (w ++ u ∷ []) t
  steady_of w t u (inl on) more = on.0
  steady_of w t u (inr stops) more = absurd (more stops.0)

  -- at the root, where nothing occurs so far, the scan goes on
  pub steady_none : (w t : List ℕ) (u : ℕ) → LeftSteps K w u t → t ≡ [] → IsBestSoFar K w None → IsSteady K (w ++ u ∷ []) t × IsBestSoFar K (w ++ u ∷ []) None
  steady_none w t u (inl on) empty none = absurd (on.1 empty)
  steady_none w t u (inr stops) empty none =
      let next = stops.1.none none in
      let P : List ℕ → Type 0 = λ x. IsSteady K (w ++ u ∷ []) x in
      (subst P (sym empty) next.0, next.1)

  -- so it does wherever nothing occurs so far
  pub steady_so_far : (w t : List ℕ) (u : ℕ) → LeftSteps K w u t → IsBestSoFar K w None → IsSteady K (w ++ u ∷ []) t
  steady_so_far w t u (inl on) none = on.0
  steady_so_far w t u (inr stops) none = (steady_none w t u (inr stops) stops.0 none).0

  -- and where the best is known, it is final
  final : (w t : List ℕ) (u : ℕ) (more a k : List ℕ) → LeftSteps K w u t → t ≡ [] → IsBest K w a k → IsBest K (w ++ u ∷ more) a k
  final w t u more a k (inl on) empty best = absurd (on.1 empty)
  final w t u more a k (inr stops) empty best = stops.1.best a k more best

  -- where nothing occurs in w and no end of w begins a key, nothing starts in w, whatever follows
  pub none_starts : (w more : List ℕ) → IsSteady K w [] → IsBestSoFar K w None → NoneStarts K (length w) (w ++ more)
  none_starts w more steady none a k b o =
      elim (le_or_lt (length w) (length a)) [
        | inl past ↦ past
        | inr less ↦
            let r = split_after a (k ++ b) w more (sym o.parts) (omega (arith, less)) in
            let sized : length w ≡ length a + length r.0 = ap length r.1 ∙ length-append a r.0 in
            elim (le_or_lt (length k) (length r.0)) [
              | inl fits ↦
                  let q = split_after k b r.0 more r.2 fits in
                  absurd (none a k q.0 (record { parts = r.1 ∙ ap (λ x. a ++ x) q.1; key = o.key }))
              | inr over ↦
                  let q = split_after r.0 more k b (sym r.2) (omega (arith, over)) in
                  let begins : IsPrefix K r.0 = inr (q.0, λ e. o.key (ap K q.1 ∙ e)) in
                  let here : length r.0 ≤ length {A = ℕ} [] = steady.long.longest r.0 (a, sym r.1) begins in
                  absurd (omega (arith, here, sized, less))
            ]
      ]

-- The scan of `text` keeps the position of the best's output, and how many bytes are behind it.
module _ {V : Type 0} (width : ℕ → ℕ) (view : AutomatonView V) (text : List ℕ) where
  abbrev K : Dictionary V
  K = view.content

  abbrev Found_in : List ℕ → ℕ × ℕ → Type 0
  Found_in = IsFound width view text

  abbrev Found_so_far : List ℕ → Option (ℕ × ℕ) → Type 0
  Found_so_far = IsFoundSoFar width view text

  abbrev Scanning : List ℕ → List ℕ → Option (ℕ × ℕ) → ℕ → ℕ → Type 0
  Scanning = IsScanning width view text

  -- what is left is behind all that was read
  pub IsBehind-now : (seen left : List ℕ) → text ≡ seen ++ left → size width text ≡ size width seen + size width left
  IsBehind-now seen left parts = omega (arith, ap (size width) parts, size-append width seen left)

  -- an output that a steady state tells of is that of the best
  found_told : (w : List ℕ) (position behind : ℕ) (l : List (V × ℕ)) → size width text ≡ size width w + behind → view.outputs position ≡ l → 0 < length l → view.has_output position → Told width K w l
      → Found_in w (position, behind)
  found_told w position behind [] past is some has tells = absurd (omega arith)
  found_told w position behind (o ∷ l) past is some has tells =
      let k = tells.0 in let ends = tells.1 in let values = tells.4 in
      record {
        front = ends.0;
        key = k;
        best = IsBest-new width K w o l tells;
        ends = past ∙ ap (λ x. size width x + behind) (sym ends.1);
        output = record { place = has; value = o.0; others = values.0; more = l; has = values.1; first = is ∙ ap (λ n. (o.0, n) ∷ l) tells.3 };
      }

  module _ (kind : IsLeftmostView view) where
    pub IsFound-new : (w t : List ℕ) (position behind : ℕ) → IsSteady K w t → IsChain width K view.dead t (view.outputs position) → 0 < length (view.outputs position) → view.has_output position → size width text ≡ size width w + behind
        → Found_in w (position, behind)
    IsFound-new w t position behind steady chain some has past =
        found_told w position behind (view.outputs position) past refl some has (Told-IsSteady width K view.dead kind w t (view.outputs position) steady chain)

    pub IsFound-keeps : (w t : List ℕ) (u : ℕ) (best : Option (ℕ × ℕ)) → IsSteady K (w ++ u ∷ []) t → IsChain width K view.dead t [] → Found_so_far w best → Found_so_far (w ++ u ∷ []) best
    IsFound-keeps w t u None steady chain found = IsBestSoFar-keeps width K w u None (Told-IsSteady width K view.dead kind (w ++ u ∷ []) t [] steady chain) found
    IsFound-keeps w t u (Some m) steady chain found = record {
      front = found.front;
      key = found.key;
      best = IsBestSoFar-keeps width K w u (Some (found.front, found.key)) (Told-IsSteady width K view.dead kind (w ++ u ∷ []) t [] steady chain) found.best;
      ends = found.ends;
      output = found.output;
    }

    -- at the root, where it has no output, nothing occurs
    pub IsFound-none : (t : List ℕ) → t ≡ [] → IsChain width K view.dead t [] → IsBestSoFar K [] None
    IsFound-none t empty chain =
        let P : List ℕ → Type 0 = λ x. IsSteady K [] x in
        let tells : Told width K [] [] = Told-IsSteady width K view.dead kind [] t [] (subst P (sym empty) (IsSteady-nil K)) chain in
        λ a k b o. let here = tells k (a, at_end a k b o) o.key in absurd (omega (arith, here.5))
      where
        at_end : (a k b : List ℕ) → Occurs K [] a k b → a ++ k ≡ []
        at_end [] [] b o = refl
        at_end [] (x ∷ k) b o = absurd (let e : [] ≡ x ∷ (k ++ b) = o.parts in omega (arith, ap length e))
        at_end (x ∷ a) k b o = absurd (let e : [] ≡ x ∷ (a ++ (k ++ b)) = o.parts in omega (arith, ap length e))

  abbrev labelled : List ℕ → ℕ
  labelled w = count_by view.has_label w

  labelled-append : (x y : List ℕ) → labelled (x ++ y) ≡ labelled x + labelled y
  labelled-append x y = sum_by-append (λ u. cond (view.has_label u) 1 0) x y

  labelled-push : (w : List ℕ) (u : ℕ) → labelled (w ++ u ∷ []) ≡ labelled w + cond (view.has_label u) 1 0
  labelled-push w u = sum_by_push (λ x. cond (view.has_label x) 1 0) w u

  -- the first unit of what was read and what is to come
  labelled-first : (w : List ℕ) (u : ℕ) (more : List ℕ) → labelled (take 1 (w ++ u ∷ more)) ≤ labelled (w ++ u ∷ [])
  labelled-first [] u more = omega arith
  labelled-first (x ∷ w) u more = omega (arith, labelled-append (x ∷ []) (w ++ u ∷ []))

  labelled-one : (w : List ℕ) → labelled (take 1 w) ≤ labelled w
  labelled-one [] = omega arith
  labelled-one (x ∷ w) = omega (arith, labelled-append (x ∷ []) w)

  -- a scan begins at the root
  pub IsScanning-first : (left t : List ℕ) (best : Option (ℕ × ℕ)) (turns : ℕ) → left ≡ text → t ≡ [] → Found_so_far [] best → Scanning left t best turns turns
  IsScanning-first left t best turns all empty found =
      let P : List ℕ → Type 0 = λ x. IsSteady K [] x in
      record { seen = []; parts = sym all; steady = subst P (sym empty) (IsSteady-nil K); found = found; counted = omega (arith, ap length empty); least = omega arith }

  -- one more unit
  pub IsScanning-more : (left t : List ℕ) (old : Option (ℕ × ℕ)) (before turns u : ℕ) (more r : List ℕ) (best : Option (ℕ × ℕ)) (later : ℕ)
      → (was : Scanning left t old before turns) → left ≡ u ∷ more
      → later + length r ≤ turns + length t + 2 → turns + cond (view.has_label u) 1 0 ≤ later
      → IsSteady K (was.seen ++ u ∷ []) r → Found_so_far (was.seen ++ u ∷ []) best → Scanning more r best before later
  IsScanning-more left t old before turns u more r best later was next most least steady found = record {
    seen = was.seen ++ u ∷ [];
    parts = was.parts ∙ (ap (λ x. was.seen ++ x) next ∙ sym (append_assoc was.seen (u ∷ []) more));
    steady = steady;
    found = found;
    counted = omega (arith, was.counted, most, length-append was.seen (u ∷ []));
    least = omega (arith, was.least, least, labelled-push was.seen u);
  }

  -- the match that is pending is the best
  pending_best : (left t : List ℕ) (position behind : ℕ) (f : Found) (before turns later : ℕ) (was : Scanning left t (Some (position, behind)) before turns) → f.position.value ≡ position → f.end + behind ≡ size width text
      → IsBest K text was.found.front was.found.key → turns ≤ later → later ≤ turns + length t + 2 → later ≤ before + 2 * length text → before + labelled (take 1 text) ≤ later → IsTheBest width view text f.position.value f.end before later
  pending_best left t position behind f before turns later was same ended best fewer few most first =
      let found = was.found in
      let Q : ℕ → Type 0 = λ p. IsOutputOf width view p found.key in
      let cut : was.seen ≡ (found.front ++ found.key) ++ found.best.rest = found.best.occurs.parts ∙ sym (append_assoc found.front found.key found.best.rest) in
      record {
        front = found.front;
        key = found.key;
        best = best;
        ends = omega (arith, ended, found.ends);
        output = subst Q (sym same) found.output;
        most = most;
        near = λ m bound. omega (arith, was.counted, few, near_occurrence K was.seen t m bound was.steady found.front found.key found.best.rest found.best.occurs);
        least = omega (arith, was.least, fewer, ap labelled cut, labelled-append (found.front ++ found.key) found.best.rest);
        first = first;
      }

  -- the scan comes to the root while a match is pending
  pub IsTheBest-stops : (left t : List ℕ) (position behind : ℕ) (f : Found) (before turns u : ℕ) (more r : List ℕ) (later : ℕ)
      → (was : Scanning left t (Some (position, behind)) before turns) → f.position.value ≡ position → f.end + behind ≡ size width text → left ≡ u ∷ more → LeftSteps K was.seen u r → r ≡ []
      → later + length r ≤ turns + length t + 2 → turns + cond (view.has_label u) 1 0 ≤ later
      → IsTheBest width view text f.position.value f.end before later
  IsTheBest-stops left t position behind f before turns u more r later was same ended next steps empty most least =
      let w = was.seen in
      let whole : text ≡ w ++ u ∷ more = was.parts ∙ ap (λ x. w ++ x) next in
      let P : List ℕ → Type 0 = λ x. IsBest K x was.found.front was.found.key in
      pending_best left t position behind f before turns later was same ended (subst P (sym whole) (final K w r u more was.found.front was.found.key steps empty was.found.best)) (omega (arith, least)) (omega (arith, most))
      (omega (arith, was.counted, most, ap length whole, length-append w (u ∷ more))) (omega (arith, was.least, least, ap (λ x. labelled (take 1 x)) whole, labelled-first w u more, labelled-push w u))

  -- the text ends while a match is pending
  pub IsTheBest-ends : (left t : List ℕ) (position behind : ℕ) (f : Found) (before turns : ℕ) → Scanning left t (Some (position, behind)) before turns → f.position.value ≡ position → f.end + behind ≡ size width text → left ≡ []
      → IsTheBest width view text f.position.value f.end before turns
  IsTheBest-ends left t position behind f before turns was same ended none =
      let whole : text ≡ was.seen = was.parts ∙ (ap (λ x. was.seen ++ x) none ∙ append-nil was.seen) in
      let P : List ℕ → Type 0 = λ x. IsBest K x was.found.front was.found.key in
      pending_best left t position behind f before turns turns was same ended (subst P (sym whole) was.found.best) (omega arith) (omega arith) (omega (arith, was.counted, ap length whole))
      (omega (arith, was.least, ap (λ x. labelled (take 1 x)) whole, labelled-one was.seen))

  -- where none is pending, no key is empty
  no_empty_of : (w : List ℕ) → IsBestSoFar K w None → K [] ≡ []
  no_empty_of w none = nil_of (K []) (λ key. none [] [] w (record { parts = refl; key = key }))

  -- the text ends while none is
  pub IsClear-ends : (left t : List ℕ) (may_stop : Bool) (end before turns : ℕ) → Scanning left t None before turns → end ≡ size width text → left ≡ [] → (may_stop ≡ true → PendsBefore K (1 + (length text - length left)) text) → IsClear width view text may_stop end before turns
  IsClear-ends left t may_stop end before turns was ended none pends =
      let w = was.seen in
      let whole : text ≡ w = was.parts ∙ (ap (λ x. w ++ x) none ∙ append-nil w) in
      record {
        front = w;
        rest = left;
        parts = was.parts;
        none = λ a k b o. absurd (was.found a k b (record { parts = sym whole ∙ o.parts; key = o.key }));
        no_empty = no_empty_of w was.found;
        ends = ended ∙ ap (size width) whole;
        some = λ h. omega (arith, h, ap length whole);
        all = λ _. none;
        first_root = λ may k some below. pends may k some (omega (arith, below, ap length was.parts, length-append w left));
        most = omega (arith, was.counted);
        least = was.least;
      }

  -- the scan comes to the root while none is
  pub IsClear-stops : (left t : List ℕ) (end before turns u : ℕ) (more r : List ℕ) (later : ℕ)
      → (was : Scanning left t None before turns) → end + size width more ≡ size width text → left ≡ u ∷ more → LeftSteps K was.seen u r → r ≡ []
      → later + length r ≤ turns + length t + 2 → turns + cond (view.has_label u) 1 0 ≤ later → PendsBefore K (1 + (length text - length left)) text
      → IsClear width view text true end before later
  IsClear-stops left t end before turns u more r later was ended next steps empty most least pends =
      let w = was.seen ++ u ∷ [] in
      let on = steady_none K was.seen r u steps empty was.found in
      let P : List ℕ → Type 0 = λ x. IsSteady K w x in
      let whole : text ≡ w ++ more = was.parts ∙ (ap (λ x. was.seen ++ x) next ∙ sym (append_assoc was.seen (u ∷ []) more)) in
      record {
        front = w;
        rest = more;
        parts = whole;
        none = λ a k b o. none_starts K w more (subst P empty on.0) on.1 a k b (record { parts = sym whole ∙ o.parts; key = o.key });
        no_empty = no_empty_of w on.1;
        ends = omega (arith, ended, ap (size width) whole, size-append width w more);
        some = λ h. omega (arith, length-append was.seen (u ∷ []));
        all = λ e. absurd (cc);
        first_root = λ may k some below. pends k some (omega (arith, below, ap length was.parts, length-append was.seen left, length-append was.seen (u ∷ [])));
        most = omega (arith, was.counted, most, length-append was.seen (u ∷ []));
        least = omega (arith, was.least, least, labelled-push was.seen u);
      }
