-- The standard search, one unit further: with an empty key each place has its match; without one the walk since the last match finds the next, or none.
use Rattle.std.proofs.Common.{◌≡◌, ◌≢◌, ℕ, ◌+◌, ◌*◌, ◌-◌, ◌<◌, ◌≤◌, Bool, true, false, cond, List, [], ◌∷◌, ◌++◌, map, take, length, Option, Some, None, refl, sym, ap, ◌∙◌, subst, append_assoc, append-nil, arith}
use Rattle.std.specs.Bool.{OnTrue}
use Rattle.std.specs.Prelude.{◌↔◌, count_by, option_to_list, IfSome, IsTrue}
use Rattle.std.proofs.lemmas.List.Sums.{sum_by-append}
use Rattle.std.specs.Option.{is_some}
use Rattle.std.specs.declared.num.NonZeroU32.{NonZeroU32}
use Rattle.daachorse_core.specs.Outputs.{number}
use Rattle.daachorse_core.specs.Seen.{SeenUnits, units, unread}
use Rattle.daachorse_model.specs.declared.Match.{Match}
use Rattle.daachorse_model.specs.Units.{size}
use Rattle.daachorse_model.specs.Dictionary.{Dictionary}
use Rattle.daachorse_model.specs.Matches.{standard_after, IsSinceMatch}
use Rattle.daachorse_model.specs.Outputs.{AllWithin, matches_of_outputs}
use Rattle.daachorse_model.specs.Prefixes.{IsLong, is_key}
use Rattle.daachorse_model.proofs.StandardEnds.{IsResumed-begin, IsResumed-passes, IsResumed-finds, IsResumed-since, IsSinceMatch-empty, standard_after-empty, standard_after-nil}
use Rattle.daachorse_search.specs.Views.{AutomatonView, HasNone}
use Rattle.daachorse_search.specs.Walks.{Walked, read_on, skip_on, begin_on, matches_since, matches_from, HasPlace, HasOutputs}
use Rattle.daachorse_search.specs.Nothing.{HasPlace-none, first_from-none}
use Rattle.daachorse_search.specs.Finds.{IsResuming, IsEverywhere, IsFinding}
use Rattle.daachorse_search.specs.Searches.{standard_found}
use Rattle.daachorse_search.specs.SearchViews.{standard_view}
use Rattle.daachorse_search.specs.Afresh.{GoesOnAfresh}
use Rattle.daachorse_search.specs.Stepwise.{Stops, AreBoundedSince, looks_unless_empty}
use Rattle.daachorse_search.proofs.AfreshLaws.{GoesOnAfresh-standard, GoesOnAfresh-empty}
use Rattle.daachorse_search.proofs.OverlappingLaws.{length-matches, on_true}

-- a list is empty where its map is
map-empty : {X Y : Type 0} (f : X → Y) (xs : List X) → map f xs ≡ [] → xs ≡ []
map-empty f [] e = refl
map-empty f (x ∷ xs) e = absurd (omega (arith, ap length e))

-- outputs that fit at the beginning, and are matches of these values there, are the empty key's
own_at_start : {V : Type 0} (outputs : List (V × ℕ)) (values : List V) → AllWithin 0 outputs → map (λ v. record { start = 0; end = 0; value = v }) values ≡ matches_of_outputs 0 outputs → outputs ≡ map (λ v. (v, 0)) values
own_at_start [] [] fits same = refl
own_at_start [] (v ∷ values) fits same = absurd (omega (arith, ap length same))
own_at_start (o ∷ outputs) [] fits same = absurd (omega (arith, ap length same))
own_at_start {V} (o ∷ outputs) (v ∷ values) fits same =
    let first : Match V = record { start = 0; end = 0; value = v } in
    let given : Match V = record { start = 0 - o.1; end = 0; value = o.0 } in
    let rest : List (Match V) = map (λ x. record { start = 0; end = 0; value = x }) values in
    let others : List (Match V) = matches_of_outputs 0 outputs in
    let heads : first ≡ given = cc in let tails : rest ≡ others = cc in
    let is : o.0 ≡ v = sym (ap (λ (m : Match V). m.value) heads) in let none : o.1 ≡ 0 = omega (arith, fits.0) in
    ap (λ x. (x, o.1) ∷ outputs) is ∙ ap (λ n. (v, n) ∷ outputs) none ∙ ap (λ l. (v, 0) ∷ l) (own_at_start outputs values fits.1 tails)

module _ {V : Type 0} (width : ℕ → ℕ) (view : AutomatonView V) (wide : (u : ℕ) → 1 ≤ width u) where
  abbrev K : Dictionary V
  K = view.content

  -- ---- with an empty key

  pub IsEverywhere-begin : (turns position : ℕ) → turns ≡ 0 → HasOutputs width view unread position → 0 < length (view.outputs position) → IsEverywhere width view unread turns position
  IsEverywhere-begin turns position idle at_root some =
      let own : view.outputs position ≡ map (λ v. (v, 0)) (K []) = own_at_start (view.outputs position) (K []) at_root.fits at_root.matches in
      record {
        keyed = λ none. omega (arith, some, ap length (own ∙ ap (map (λ v. (v, 0))) none));
        stays = refl;
        idle = idle;
        place = at_root.place;
        own = own;
      }

  within-empty : (place : ℕ) (values : List V) → AllWithin place (map (λ v. (v, 0)) values)
  within-empty place [] = tt
  within-empty place (v ∷ values) = (omega arith, within-empty place values)

  -- the empty key's outputs may be given anywhere
  pub IsEverywhere-place : (seen : SeenUnits) (turns position : ℕ) → IsEverywhere width view seen turns position → HasPlace width view seen position
  IsEverywhere-place seen turns position h =
      let P : List (V × ℕ) → Type 0 = λ l. AllWithin (size width (units seen)) l in
      record { place = h.place; fits = subst P (sym h.own) (within-empty (size width (units seen)) (K [])) }

  -- what a place has where the empty key has these values
  first_here : (place : ℕ) (values : List V) → take 1 (matches_of_outputs place (map (λ v. (v, 0)) values)) ≡ take 1 (map (λ v. record { start = place; end = place; value = v }) values)
  first_here place [] = refl
  first_here place (v ∷ values) = ap (λ n. record { start = n; end = place; value = v } ∷ []) (omega arith)

  found_here : (t : List ℕ) (values : List V) → K [] ≡ values → values ≢ [] → option_to_list (standard_after width K t) ≡ take 1 (map (λ v. record { start = size width t; end = size width t; value = v }) values)
  found_here t [] has some = absurd (some refl)
  found_here t (v ∷ values) has some = ap option_to_list (standard_after-empty width K wide v values has t)

  -- the standard search's match at each place is the empty key's first
  pub IsEverywhere-found : (seen : SeenUnits) (turns position : ℕ) → IsEverywhere width view seen turns position → option_to_list (standard_after width K (units seen)) ≡ take 1 (matches_from width view seen position)
  IsEverywhere-found seen turns position h =
      found_here (units seen) (K []) refl h.keyed ∙ sym (first_here (size width (units seen)) (K [])) ∙ ap (λ l. take 1 (matches_of_outputs (size width (units seen)) l)) (sym h.own)

  some_of : (values : List V) (place : ℕ) → values ≢ [] → 0 < length (take 1 (matches_of_outputs place (map (λ v. (v, 0)) values)))
  some_of [] place some = absurd (some refl)
  some_of (v ∷ values) place some = omega arith

  pub IsEverywhere-some : (seen : SeenUnits) (turns position : ℕ) → IsEverywhere width view seen turns position → 0 < length (take 1 (matches_from width view seen position))
  IsEverywhere-some seen turns position h =
      let P : List (V × ℕ) → Type 0 = λ l. 0 < length (take 1 (matches_of_outputs (size width (units seen)) l)) in
      subst P (sym h.own) (some_of (K []) (size width (units seen)) h.keyed)

  -- it stays so, one unit further
  pub IsEverywhere-skip : (before after : SeenUnits) (turns later position : ℕ) (u : ℕ) → IsEverywhere width view before turns position → after ≡ skip_on before u → later ≡ turns → IsEverywhere width view after later position
  IsEverywhere-skip before after turns later position u h skipped same = record { keyed = h.keyed; stays = ap (λ s. s.since) skipped; idle = same ∙ h.idle; place = h.place; own = h.own }

  -- ---- without an empty key

  pub IsResuming-begin : HasOutputs width view unread 0 → view.outputs 0 ≡ [] → IsResuming width view unread
  IsResuming-begin at_root none =
      let empty : K [] ≡ [] = map-empty (λ v. record { start = 0; end = 0; value = v }) (K []) (at_root.matches ∙ ap (matches_of_outputs 0) none) in
      record { resumed = IsResumed-begin width K wide empty; all = refl }

  -- one more unit, and no match ends with it
  pub IsResuming-passes : (before after : SeenUnits) (u : ℕ) → IsResuming width view before → after ≡ read_on before (u ∷ []) → HasOutputs width view after 0 → view.outputs 0 ≡ []
      → IsResuming width view after × (option_to_list (standard_after width K (units after)) ≡ [])
  IsResuming-passes before after u h read here none =
      let P : SeenUnits → Type 0 = λ s. matches_since width K s.before s.since ≡ [] in
      let nothing : matches_since width K before.before (before.since ++ u ∷ []) ≡ [] = subst P read (here.matches ∙ ap (matches_of_outputs (size width (units after))) none) in
      let later = IsResumed-passes width K wide before.before before.since u h.resumed nothing in
      let Q : SeenUnits → Type 0 = λ s. IsResuming width view s × (option_to_list (standard_after width K (units s)) ≡ []) in
      let text : (before.before ++ before.since) ++ u ∷ [] ≡ before.before ++ (before.since ++ u ∷ []) = append_assoc before.before before.since (u ∷ []) in
      subst Q (sym read) (
        record { resumed = later.0; all = ap (λ l. l ++ u ∷ []) h.all ∙ text },
        ap (λ t. option_to_list (standard_after width K t)) (sym text) ∙ ap option_to_list later.1,
      )

  -- one more unit, with which a match ends: the walk begins again behind it
  pub IsResuming-finds : (before after later : SeenUnits) (u position : ℕ) → IsResuming width view before → after ≡ read_on before (u ∷ []) → HasOutputs width view after position → 0 < length (view.outputs position)
      → later ≡ begin_on after → IsResuming width view later × (option_to_list (standard_after width K (units later)) ≡ take 1 (matches_from width view later position))
  IsResuming-finds before after later u position h read here some began = by (matches_of_outputs (size width (units after)) (view.outputs position)) refl
    where
      by : (ms : List (Match V)) → matches_of_outputs (size width (units after)) (view.outputs position) ≡ ms → IsResuming width view later × (option_to_list (standard_after width K (units later)) ≡ take 1 (matches_from width view later position))
      by [] none = absurd (omega (arith, some, ap length (map-empty (λ o. record { start = size width (units after) - o.1; end = size width (units after); value = o.0 }) (view.outputs position) none)))
      by (m ∷ others) is =
          let P : SeenUnits → Type 0 = λ s. matches_since width K s.before s.since ≡ m ∷ others in
          let found = IsResumed-finds width K wide before.before before.since u m others h.resumed (subst P read (here.matches ∙ is)) in
          let text : (before.before ++ before.since) ++ u ∷ [] ≡ before.before ++ (before.since ++ u ∷ []) = append_assoc before.before before.since (u ∷ []) in
          let all : units later ≡ before.before ++ (before.since ++ u ∷ []) = ap units began ∙ append-nil (units after) ∙ ap units read in
          let same : units later ≡ units after = ap units began ∙ append-nil (units after) in
          let Q : SeenUnits → Type 0 = λ s. IsResuming width view s in
          let R : SeenUnits → Type 0 = λ s. IsResuming width view (begin_on s) in
          let again : IsResuming width view (begin_on (read_on before (u ∷ []))) = record {
            resumed = found.0;
            all = ap (λ l. l ++ u ∷ []) h.all ∙ text ∙ sym (append-nil (before.before ++ (before.since ++ u ∷ [])));
          } in (
            subst Q (sym began) (subst R (sym read) again),
            ap (λ t. option_to_list (standard_after width K t)) (all ∙ sym text) ∙ ap option_to_list found.1 ∙ ap (take 1) (sym is) ∙ ap (λ t. take 1 (matches_of_outputs (size width t) (view.outputs position))) (sym same),
          )

-- ---- the walk, as callers see it

module _ {V A : Type 0} (width : ℕ → ℕ) (wide : (u : ℕ) → 1 ≤ width u) (sees : A → AutomatonView V) where
  abbrev finding : A → SeenUnits → ℕ → Option NonZeroU32 → Type 0
  finding a seen turns o = IsFinding width (sees a) seen turns o

  abbrev found_outputs : A → SeenUnits → Option NonZeroU32 → Type 0
  found_outputs a seen o = HasOutputs width (sees a) seen (number o) × IfSome o (λ p. 0 < length ((sees a).outputs p.value)) × HasNone (sees a)

  abbrev stops : Walked A → Option NonZeroU32 → Type 0
  stops s o = Stops (standard_view width sees) s o

  one_at_most : {X : Type 0} (xs : List X) → length (take 1 xs) ≤ 1
  one_at_most [] = omega arith
  one_at_most (x ∷ xs) = omega arith

  -- an output was found, or none
  stops-place : (s : Walked A) (p : NonZeroU32) → HasPlace width (sees s.automaton) s.seen p.value → option_to_list (standard_after width (sees s.automaton).content (units s.seen)) ≡ take 1 (matches_from width (sees s.automaton) s.seen p.value)
      → 0 < length (take 1 (matches_from width (sees s.automaton) s.seen p.value)) → stops s (Some p)
  stops-place s p place matches some = record { place = place; matches = matches; few = one_at_most (matches_from width (sees s.automaton) s.seen p.value); some = some }

  stops-none : (s : Walked A) → HasNone (sees s.automaton) → option_to_list (standard_after width (sees s.automaton).content (units s.seen)) ≡ [] → stops s None
  stops-none s none nothing =
      let given = first_from-none width (sees s.automaton) s.seen none in
      record { place = HasPlace-none width (sees s.automaton) s.seen none; matches = nothing ∙ sym given; few = one_at_most (matches_from width (sees s.automaton) s.seen 0); some = tt }

  stops-everywhere : (s : Walked A) (p : NonZeroU32) → finding s.automaton s.seen s.turns (Some p) → stops s (Some p)
  stops-everywhere s p h =
      let view = sees s.automaton in
      stops-place s p (IsEverywhere-place width view wide s.seen s.turns p.value h) (IsEverywhere-found width view wide s.seen s.turns p.value h) (IsEverywhere-some width view wide s.seen s.turns p.value h)

  -- a walk that has read nothing
  pub finding-begin : (a : A) (seen : SeenUnits) (turns : ℕ) (o : Option NonZeroU32) → seen ≡ unread → turns ≡ 0 → found_outputs a seen o → finding a seen turns o
  finding-begin a seen turns o fresh idle at_root =
      let P : SeenUnits → Type 0 = λ s. found_outputs a s o → finding a s turns o in
      subst P (sym fresh) (by o) at_root
    where
      by : (o : Option NonZeroU32) → found_outputs a unread o → finding a unread turns o
      by None (here, some, none) = IsResuming-begin width (sees a) wide here none.1
      by (Some p) (here, some, none) = IsEverywhere-begin width (sees a) wide turns p.value idle here some

  -- the same for what callers see
  pub finding-at : (s t : Walked A) (o : Option NonZeroU32) → s ≡ t → finding s.automaton s.seen s.turns o → finding t.automaton t.seen t.turns o
  finding-at s t o is h = let P : Walked A → Type 0 = λ x. finding x.automaton x.seen x.turns o in subst P is h

  pub stops-begin : (s : Walked A) (o : Option NonZeroU32) → units s.seen ≡ [] → HasNone (sees s.automaton) → finding s.automaton s.seen s.turns o → stops s o
  stops-begin s None fresh none h =
      stops-none s none (ap (λ t. option_to_list (standard_after width (sees s.automaton).content t)) fresh ∙ ap option_to_list (standard_after-nil width (sees s.automaton).content wide h.resumed.no_empty))
  stops-begin s (Some p) fresh none h = stops-everywhere s p h

  -- a unit was passed with no look
  pub finding-skip : (was now : Walked A) (u : ℕ) (o : Option NonZeroU32) → is_some o ≡ true → finding was.automaton was.seen was.turns o → now.automaton ≡ was.automaton → now.seen ≡ skip_on was.seen u → now.turns ≡ was.turns
      → finding now.automaton now.seen now.turns o × stops now o
  finding-skip was now u None is h same skipped idle = absurd (omega (arith, ap {B = ℕ} (λ b. cond b 1 0) is))
  finding-skip was now u (Some p) is h same skipped idle =
      let P : A → Type 0 = λ a. finding a now.seen now.turns (Some p) in
      let later = subst P (sym same) (IsEverywhere-skip width (sees was.automaton) wide was.seen now.seen was.turns now.turns p.value u h skipped idle) in
      (later, stops-everywhere now p later)

  -- a unit was looked up, and no match ends with it
  pub finding-pass : (was now : Walked A) (u : ℕ) (everywhere o : Option NonZeroU32) → is_some everywhere ≡ false → is_some o ≡ false → finding was.automaton was.seen was.turns everywhere → now.automaton ≡ was.automaton → now.seen ≡ read_on was.seen (u ∷ [])
      → found_outputs now.automaton now.seen o → finding now.automaton now.seen now.turns everywhere × stops now o
  finding-pass was now u (Some p) o is none h same read here = absurd (omega (arith, ap {B = ℕ} (λ b. cond b 1 0) is))
  finding-pass was now u None (Some p) is none h same read here = absurd (omega (arith, ap {B = ℕ} (λ b. cond b 1 0) none))
  finding-pass was now u None None is none h same read (here, some, zero) =
      let P : A → Type 0 = λ a. IsResuming width (sees a) was.seen in
      let later = IsResuming-passes width (sees now.automaton) wide was.seen now.seen u (subst P (sym same) h) read here zero.1 in
      (later.0, stops-none now zero later.1)

  -- a unit was looked up, and a match ends with it
  pub finding-find : (was read now : Walked A) (u : ℕ) (everywhere o : Option NonZeroU32) → is_some everywhere ≡ false → is_some o ≡ true → finding was.automaton was.seen was.turns everywhere → read.automaton ≡ was.automaton → read.seen ≡ read_on was.seen (u ∷ [])
      → found_outputs read.automaton read.seen o → now.automaton ≡ read.automaton → now.seen ≡ begin_on read.seen → finding now.automaton now.seen now.turns everywhere × stops now o
  finding-find was read now u (Some p) o is none h same more here still began = absurd (omega (arith, ap {B = ℕ} (λ b. cond b 1 0) is))
  finding-find was read now u None None is some h same more here still began = absurd (omega (arith, ap {B = ℕ} (λ b. cond b 1 0) some))
  finding-find was read now u None (Some p) is some h same more (here, many, zero) still began =
      let P : A → Type 0 = λ a. IsResuming width (sees a) was.seen in
      let H : A → Type 0 = λ a. HasOutputs width (sees a) read.seen p.value in
      let L : A → Type 0 = λ a. 0 < length ((sees a).outputs p.value) in
      let a = now.automaton in
      let outs : HasOutputs width (sees a) read.seen p.value = subst H (sym still) here in
      let some' : 0 < length ((sees a).outputs p.value) = subst L (sym still) many in
      let later = IsResuming-finds width (sees a) wide was.seen read.seen now.seen u p.value (subst P (sym (still ∙ same)) h) more outs some' began in
      let units' : units now.seen ≡ units read.seen = ap units began ∙ append-nil (units read.seen) in
      let F : List ℕ → Type 0 = λ t. AllWithin (size width t) ((sees a).outputs p.value) in
      let place : HasPlace width (sees a) now.seen p.value = record { place = outs.place; fits = subst F (sym units') outs.fits } in
      (later.0, stops-place now p place later.1 (omega (arith, some', first_of (matches_from width (sees a) now.seen p.value), length-matches (size width (units now.seen)) ((sees a).outputs p.value))))
    where
      first_of : {X : Type 0} (xs : List X) → 0 < length xs → 0 < length (take 1 xs)
      first_of [] some = some
      first_of (x ∷ xs) some = omega arith

  -- a walk that begins again with nothing read
  pub finding-again : (was now : Walked A) (o : Option NonZeroU32) → finding was.automaton was.seen was.turns o → now.automaton ≡ was.automaton → now.seen ≡ unread → now.turns ≡ 0 → finding now.automaton now.seen now.turns o
  finding-again was now o h same began idle =
      let P : A → Type 0 = λ a. finding a now.seen now.turns o in
      let Q : SeenUnits → Type 0 = λ s. finding was.automaton s now.turns o in
      subst P (sym same) (subst Q (sym began) (by o h))
    where
      by : (o : Option NonZeroU32) → finding was.automaton was.seen was.turns o → finding was.automaton unread now.turns o
      by None h = record { resumed = IsResumed-begin width (sees was.automaton).content wide h.resumed.no_empty; all = refl }
      by (Some p) h = record { keyed = h.keyed; stays = refl; idle = idle; place = h.place; own = h.own }

  -- at the root the matches are found as by a walk that begins there
  pub finding-afresh : (s : Walked A) (o : Option NonZeroU32) (b : Bool) → finding s.automaton s.seen s.turns o → (IsTrue b ↔ IsLong (sees s.automaton).content s.seen.since [])
      → OnTrue b (GoesOnAfresh width (sees s.automaton).content (standard_found width sees s.automaton) (units s.seen))
  finding-afresh s o b h at =
      on_true b (GoesOnAfresh width (sees s.automaton).content (standard_found width sees s.automaton) (units s.seen)) (IsLong (sees s.automaton).content s.seen.since []) at (λ long. by o h long)
    where
      keyed : (vs : List V) → (sees s.automaton).content [] ≡ vs → (sees s.automaton).content [] ≢ [] → GoesOnAfresh width (sees s.automaton).content (standard_found width sees s.automaton) (units s.seen)
      keyed [] none some = absurd (some none)
      keyed (v ∷ vs) has some = GoesOnAfresh-empty width (sees s.automaton).content wide v vs has (units s.seen)

      by : (o : Option NonZeroU32) → finding s.automaton s.seen s.turns o → IsLong (sees s.automaton).content s.seen.since [] → GoesOnAfresh width (sees s.automaton).content (standard_found width sees s.automaton) (units s.seen)
      by None h long = GoesOnAfresh-standard width (sees s.automaton).content wide s.seen.before s.seen.since h.resumed long
      by (Some p) h long = keyed ((sees s.automaton).content []) refl h.keyed

  -- what was read since the last match is what the walk read since it last began at the root
  pub finding-since : (s : Walked A) (o : Option NonZeroU32) → finding s.automaton s.seen s.turns o → (since : List ℕ) → IsSinceMatch width (sees s.automaton).content (units s.seen) since → since ≡ s.seen.since
  finding-since s None h since is = IsResumed-since width (sees s.automaton).content wide s.seen.before s.seen.since h.resumed since is
  finding-since s (Some p) h since is = empty (sees s.automaton).content h.keyed (units s.seen) is ∙ sym h.stays
    where
      empty : (K : Dictionary V) → K [] ≢ [] → (t : List ℕ) → IsSinceMatch width K t since → since ≡ []
      empty K keyed t is = by (K []) refl
        where
          by : (values : List V) → K [] ≡ values → since ≡ []
          by [] none = absurd (keyed none)
          by (v ∷ values) has = IsSinceMatch-empty width K wide v values has t since is

  deep_since : (s : Walked A) (o : Option NonZeroU32) → finding s.automaton s.seen s.turns o → ((t : List ℕ) → IsLong (sees s.automaton).content s.seen.since t → s.turns + length t ≤ 2 * length (units s.seen))
      → (since t : List ℕ) → IsSinceMatch width (sees s.automaton).content (units s.seen) since → IsLong (sees s.automaton).content since t → s.turns + length t ≤ 2 * length (units s.seen)
  deep_since s o h deep since t is long = let Q : List ℕ → Type 0 = λ w. IsLong (sees s.automaton).content w t in deep t (subst Q (finding-since s o h since is) long)

  none_counted : (l : List ℕ) → count_by (λ u. false) l ≡ 0
  none_counted [] = refl
  none_counted (u ∷ l) = omega (arith, none_counted l, sum_by-append (λ (x : ℕ). 0) (u ∷ []) l)

  -- at least the units that it looks at
  pub finding-least : (s : Walked A) (o : Option NonZeroU32) → finding s.automaton s.seen s.turns o → count_by (sees s.automaton).has_label s.seen.looked ≤ s.turns
      → count_by (looks_unless_empty (sees s.automaton)) (units s.seen) ≤ s.turns
  finding-least s None h least =
      let P : List ℕ → Type 0 = λ l. count_by (sees s.automaton).has_label l ≤ s.turns in
      let Q : Bool → Type 0 = λ b. count_by (λ u. cond b false ((sees s.automaton).has_label u)) (units s.seen) ≤ s.turns in
      let unkeyed : is_key (sees s.automaton).content [] ≡ false = ap {B = Bool} (λ vs. elim vs [ [] ↦ false | _ ∷ _ ↦ true ]) h.resumed.no_empty in
      subst Q (sym unkeyed) (subst P h.all least)
  finding-least s (Some p) h least = by ((sees s.automaton).content []) refl
    where
      by : (vs : List V) → (sees s.automaton).content [] ≡ vs → count_by (looks_unless_empty (sees s.automaton)) (units s.seen) ≤ s.turns
      by [] none = absurd (h.keyed none)
      by (v ∷ vs) has =
          let Q : Bool → Type 0 = λ b. count_by (λ u. cond b false ((sees s.automaton).has_label u)) (units s.seen) ≤ s.turns in
          let keyed : is_key (sees s.automaton).content [] ≡ true = ap {B = Bool} (λ vs. elim vs [ [] ↦ false | _ ∷ _ ↦ true ]) has in
          subst Q (sym keyed) (omega (arith, none_counted (units s.seen)))

  -- the bounds of the turns, of what was read since the last match
  pub finding-bounded : (s : Walked A) (o : Option NonZeroU32) → finding s.automaton s.seen s.turns o → s.turns ≤ 2 * length (units s.seen)
      → ((t : List ℕ) → IsLong (sees s.automaton).content s.seen.since t → s.turns + length t ≤ 2 * length (units s.seen)) → ((sees s.automaton).ends_at_once → s.turns ≤ length (units s.seen))
      → count_by (sees s.automaton).has_label s.seen.looked ≤ s.turns → AreBoundedSince width (sees s.automaton) (units s.seen) s.turns
  finding-bounded s None h most' deep single least =
      let P : List ℕ → Type 0 = λ l. count_by (sees s.automaton).has_label l ≤ s.turns in
      record {
        most = most';
        deep = deep_since s None h deep;
        single = single;
        least = λ _. subst P h.all least;
        idle = λ keyed. absurd (keyed h.resumed.no_empty);
      }
  finding-bounded s (Some p) h most' deep single least = record {
    most = most';
    deep = deep_since s (Some p) h deep;
    single = single;
    least = λ none. absurd (h.keyed none);
    idle = λ _. h.idle;
  }
