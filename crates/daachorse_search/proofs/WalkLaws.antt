-- One unit further in a walk: the state's text is the longest end of one unit more, and the bounds on the turns grow with the step's own.
use Rattle.std.proofs.Common.{◌≡◌, ℕ, ◌+◌, ◌≤◌, cond, List, [], ◌∷◌, ◌++◌, length, sym, ap, ◌∙◌, subst, append_assoc, append-nil, length-append, arith}
use Rattle.std.specs.Prelude.{count_by, Option}
use Rattle.std.proofs.lemmas.List.Sums.{sum_by_push}
use Rattle.std.specs.declared.num.NonZeroU32.{NonZeroU32}
use Rattle.daachorse_core.specs.Outputs.{number}
use Rattle.daachorse_core.specs.Seen.{SeenUnits, units}
use Rattle.daachorse_model.specs.Prefixes.{IsLong}
use Rattle.daachorse_model.proofs.Chains.{AllWithin-IsChain, ending_at-IsChain}
use Rattle.daachorse_model.proofs.Suffixes.{IsSuffix-append}
use Rattle.daachorse_model.proofs.Steps.{IsLong-nil, IsLong-step}
use Rattle.daachorse_search.specs.Views.{AutomatonView, HasFirst}
use Rattle.daachorse_search.specs.Walks.{HasOutputs, IsWalking, read_on, skip_on}

-- all units, after more were read
pub units-read_on : (s : SeenUnits) (more : List ℕ) → units (read_on s more) ≡ units s ++ more
units-read_on s more = sym (append_assoc s.before s.since more)

module _ {V : Type 0} (view : AutomatonView V) where
  -- a walk after one more unit, which has this code
  pub IsWalking-read : (seen after : SeenUnits) (u code state turns next later : ℕ) → IsWalking view seen state turns
      → after ≡ read_on seen (code ∷ []) → code ≡ u
      → view.reached next → IsLong view.content (view.text state ++ u ∷ []) (view.text next) → later + length (view.text next) ≤ turns + length (view.text state) + 2 → (view.ends_at_once → later ≤ turns + 1) → turns + cond (view.has_label u) 1 0 ≤ later
      → IsWalking view after next later
  IsWalking-read seen after u code state turns next later was read is_code at_next stepped most single least =
      let read' : after ≡ read_on seen (u ∷ []) = read ∙ ap (λ n. read_on seen (n ∷ [])) is_code in
      let all : units after ≡ units seen ++ u ∷ [] = ap units read' ∙ units-read_on seen (u ∷ []) in
      let many : length (units after) ≡ length (units seen) + 1 = omega (arith, ap length all, length-append (units seen) (u ∷ [])) in
      let labelled : count_by view.has_label after.looked ≡ count_by view.has_label seen.looked + cond (view.has_label u) 1 0 =
      ap (λ s. count_by view.has_label s.looked) read' ∙ sum_by_push (λ x. cond (view.has_label x) 1 0) seen.looked u in
      let P : List ℕ → Type 0 = λ w. IsLong view.content w (view.text next) in
      record {
        alive = was.alive;
        at_state = at_next;
        long = subst P (sym (ap (λ s. s.since) read')) (IsLong-step view.content seen.since (view.text state) (view.text next) u was.long stepped);
        most = omega (arith, was.most, most, many);
        single = λ once. omega (arith, was.single once, single once, many);
        least = omega (arith, was.least, least, labelled);
      }

  -- a walk that passed one more unit with no look stands at the root, whose text is empty
  pub IsWalking-skip : (seen after : SeenUnits) (u code state turns root : ℕ) → IsWalking view seen state turns
      → after ≡ record seen { before = units seen ++ code ∷ []; since = [] } → code ≡ u → view.reached root → view.text root ≡ []
      → IsWalking view after root turns
  IsWalking-skip seen after u code state turns root was skipped is_code at_root empty =
      let skipped' : after ≡ skip_on seen u = skipped ∙ ap (skip_on seen) is_code in
      let all : units after ≡ units seen ++ u ∷ [] = ap units skipped' ∙ append-nil (units seen ++ u ∷ []) in
      let many : length (units after) ≡ length (units seen) + 1 = omega (arith, ap length all, length-append (units seen) (u ∷ [])) in
      let since : after.since ≡ [] = ap (λ s. s.since) skipped' in
      let Q : List ℕ → Type 0 = λ t. IsLong view.content [] t in
      let R : List ℕ → Type 0 = λ w. IsLong view.content w (view.text root) in
      record {
        alive = was.alive;
        at_state = at_root;
        long = subst R (sym since) (subst Q (sym empty) (IsLong-nil view.content));
        most = omega (arith, was.most, many, ap length empty);
        single = λ once. omega (arith, was.single once, many);
        least = omega (arith, was.least, ap (λ s. count_by view.has_label s.looked) skipped');
      }

  -- the first output of a walk's state is that of all that was read since the walk last began at the root
  pub HasOutputs-first : (width : ℕ → ℕ) (seen : SeenUnits) (state turns : ℕ) (position : Option NonZeroU32)
      → IsWalking view seen state turns → HasFirst width view state position → HasOutputs width view seen (number position)
  HasOutputs-first width seen state turns position walking first = record {
    place = first.place;
    few = first.few;
    fits = AllWithin-IsChain width view.content view.dead walking.alive (units seen) (view.text state) _ (IsSuffix-append seen.before (view.text state) seen.since walking.long.ends) first.chain;
    matches = ending_at-IsChain width view.content view.dead walking.alive seen.before seen.since (view.text state) _ walking.long first.chain;
  }
