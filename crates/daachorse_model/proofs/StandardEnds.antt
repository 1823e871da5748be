-- The standard search, end by end: what it has found after a text is not touched by what comes later, so each end adds the match that ends there, or none.
use Rattle.std.proofs.Common.{◌≡◌, ℕ, ◌+◌, ◌<◌, ◌≤◌, ◌==◌, Bool, true, false, cond, List, [], ◌∷◌, ◌++◌, map, take, refl, sym, ap, ◌∙◌, subst, append_assoc, append-nil, arith, Some, None}
use Rattle.std.specs.Prelude.{All, Contains, find, option_to_list}
use Rattle.std.proofs.lemmas.Bool.{eq-eqb, eqb-true}
use Rattle.std.proofs.lemmas.List.Elements.{All-append, All-cons, All-nil, All-head, All-tail, All-weaker, All-map, All-contains_itself}
use Rattle.daachorse_model.specs.declared.Match.{Match}
use Rattle.daachorse_model.specs.Units.{size}
use Rattle.daachorse_model.specs.Dictionary.{Dictionary}
use Rattle.daachorse_model.specs.Matches.{matches_of, at_each_end, ending_at, empty_matches, standard_from, standard, standard_after, last_end, IsSinceMatch}
use Rattle.daachorse_model.specs.Resumed.{IsResumed}
use Rattle.daachorse_model.proofs.Suffixes.{size-append, size-push}
use Rattle.daachorse_model.proofs.Searches.{first_or}
use Rattle.daachorse_model.proofs.SameSearches.{standard-is}

-- ---- lists of matches

-- a match that ends elsewhere is passed over
find-other : {V : Type 0} (place : ℕ) (m : Match V) (ms : List (Match V)) → m.end < place → find (λ x. x.end == place) (m ∷ ms) ≡ find (λ x. x.end == place) ms
find-other place m ms less = by (m.end == place) refl
  where
    by : (b : Bool) → (m.end == place) ≡ b → cond b (Some m) (find (λ x. x.end == place) ms) ≡ find (λ x. x.end == place) ms
    by true e = absurd (omega (arith, eqb-true m.end place e))
    by false e = refl

find-earlier : {V : Type 0} (r place : ℕ) (ms more : List (Match V)) → All (λ m. m.end ≤ r) ms → r < place → find (λ x. x.end == place) (ms ++ more) ≡ find (λ x. x.end == place) more
find-earlier r place [] more all less = refl
find-earlier r place (m ∷ ms) more all less =
    let here : m.end ≤ r = All-head (λ m. m.end ≤ r) m ms all in
    find-other place m (ms ++ more) (omega (arith, here, less)) ∙ find-earlier r place ms more (All-tail (λ m. m.end ≤ r) m ms all) less

find-here : {V : Type 0} (place : ℕ) (m : Match V) (ms : List (Match V)) → m.end ≡ place → find (λ x. x.end == place) (m ∷ ms) ≡ Some m
find-here place m ms e = ap (λ b. cond b (Some m) (find (λ x. x.end == place) ms)) (eq-eqb m.end place e)

last_end-append : {V : Type 0} (r : ℕ) (ms more : List (Match V)) → last_end r (ms ++ more) ≡ last_end (last_end r ms) more
last_end-append r [] more = refl
last_end-append r (m ∷ ms) more = last_end-append m.end ms more

-- the matches at one end
map-ends : {V : Type 0} (s e : ℕ) (vs : List V) → All (λ (m : Match V). m.end ≡ e) (map (λ v. record { start = s; end = e; value = v }) vs)
map-ends {V} s e vs =
    All-map (λ (m : Match V). m.end ≡ e) (λ v. record { start = s; end = e; value = v }) vs
    (All-weaker (Contains vs) (λ v. e ≡ e) (λ v has. refl) vs (All-contains_itself vs))

-- two splits of one text at one place
same_split : (width : ℕ → ℕ) → ((u : ℕ) → 1 ≤ width u) → (x y a b : List ℕ) → x ++ a ≡ y ++ b → size width x ≡ size width y → a ≡ b
same_split width wide [] [] a b e same = e
same_split width wide [] (v ∷ y) a b e same = absurd (omega (arith, same, wide v))
same_split width wide (u ∷ x) [] a b e same = absurd (omega (arith, same, wide u))
same_split width wide (u ∷ x) (v ∷ y) a b e same =
    let first : u ≡ v = cc in let rest : x ++ a ≡ y ++ b = cc in
    same_split width wide x y a b rest (omega (arith, same, ap width first))

module _ {V : Type 0} (width : ℕ → ℕ) (K : Dictionary V) where
  ending-ends : (s e : ℕ) (w : List ℕ) → All (λ (m : Match V). m.end ≡ e) (ending_at width K s e w)
  ending-ends s e [] = map-ends s e (K [])
  ending-ends s e (u ∷ w) =
      All-append (λ m. m.end ≡ e) (matches_of K s e (u ∷ w)) (ending_at width K (s + width u) e w) (map-ends s e (K (u ∷ w))) (ending-ends (s + width u) e w)

module _ {V : Type 0} (width : ℕ → ℕ) (K : Dictionary V) (wide : (u : ℕ) → 1 ≤ width u) where
  longer : (w : List ℕ) (u : ℕ) → size width w < size width (w ++ u ∷ [])
  longer w u = omega (arith, size-push width w u, wide u)

  pub IsResumed-begin : K [] ≡ [] → IsResumed width K [] []
  IsResumed-begin e = record {
    no_empty = e;
    ended = subst (All (λ m. m.end ≤ 0)) (sym none) (All-nil (λ m. m.end ≤ 0));
    place = ap (last_end 0) none;
    goes_on = λ w. standard-is width K w e ∙ ap (λ l. l ++ standard_from width K 0 [] w) (sym none);
  }
    where
      none : standard width K [] ≡ []
      none = standard-is width K [] e

  -- one more unit: by what ends there
  unit-read : (before since : List ℕ) (u : ℕ) (here : List (Match V)) → IsResumed width K before since
      → ending_at width K (size width before) (size width (before ++ (since ++ u ∷ []))) (since ++ u ∷ []) ≡ here → (w : List ℕ)
      → standard width K ((before ++ (since ++ u ∷ [])) ++ w)
      ≡ standard width K (before ++ since) ++ first_or here (standard_from width K (size width before) (since ++ u ∷ []) w) (standard_from width K (size width (before ++ (since ++ u ∷ []))) [] w)
  unit-read before since u here r is w =
      let x = since ++ u ∷ [] in
      let text : (before ++ x) ++ w ≡ (before ++ since) ++ (u ∷ w) =
      ap (λ t. t ++ w) (sym (append_assoc before since (u ∷ []))) ∙ append_assoc (before ++ since) (u ∷ []) w in
      ap (standard width K) text
      ∙ r.goes_on (u ∷ w)
      ∙ ap (λ e. standard width K (before ++ since) ++ first_or (ending_at width K (size width before) e x) (standard_from width K (size width before) x w) (standard_from width K e [] w))
      (sym (size-append width before x))
      ∙ ap (λ l. standard width K (before ++ since) ++ first_or l (standard_from width K (size width before) x w) (standard_from width K (size width (before ++ x)) [] w)) is

  -- no match ends with one more unit
  pub IsResumed-passes : (before since : List ℕ) (u : ℕ) → IsResumed width K before since
      → ending_at width K (size width before) (size width (before ++ (since ++ u ∷ []))) (since ++ u ∷ []) ≡ []
      → IsResumed width K before (since ++ u ∷ []) × (standard_after width K ((before ++ since) ++ u ∷ []) ≡ None)
  IsResumed-passes before since u r is =
      let x = since ++ u ∷ [] in
      let step = unit-read before since u [] r is in
      let same : standard width K (before ++ x) ≡ standard width K (before ++ since) =
      ap (standard width K) (sym (append-nil (before ++ x))) ∙ step [] ∙ append-nil (standard width K (before ++ since)) in
      let ended : All (λ m. m.end ≤ size width before) (standard width K (before ++ x)) = subst (All (λ m. m.end ≤ size width before)) (sym same) r.ended in
      let less : size width before < size width (before ++ x) = omega (arith, size-append width before x, size-push width since u, wide u) in (
        record {
          no_empty = r.no_empty;
          ended = ended;
          place = ap (last_end 0) same ∙ r.place;
          goes_on = λ w. step w ∙ ap (λ l. l ++ standard_from width K (size width before) x w) (sym same);
        },
        ap (standard_after width K) (append_assoc before since (u ∷ []))
            ∙ ap (find (λ m. m.end == size width (before ++ x))) (sym (append-nil (standard width K (before ++ x))))
            ∙ find-earlier (size width before) (size width (before ++ x)) (standard width K (before ++ x)) [] ended less,
      )

  -- a match ends with one more unit: the first that is found there
  pub IsResumed-finds : (before since : List ℕ) (u : ℕ) (m : Match V) (others : List (Match V)) → IsResumed width K before since
      → ending_at width K (size width before) (size width (before ++ (since ++ u ∷ []))) (since ++ u ∷ []) ≡ m ∷ others
      → IsResumed width K (before ++ (since ++ u ∷ [])) [] × (standard_after width K ((before ++ since) ++ u ∷ []) ≡ Some m)
  IsResumed-finds before since u m others r is =
      let x = since ++ u ∷ [] in
      let all = before ++ x in
      let step = unit-read before since u (m ∷ others) r is in
      let more : standard width K all ≡ standard width K (before ++ since) ++ m ∷ [] = ap (standard width K) (sym (append-nil all)) ∙ step [] in
      let whole : standard width K (all ++ []) ≡ standard width K all = ap (standard width K) (append-nil all) in
      let end : m.end ≡ size width all =
      All-head (λ m. m.end ≡ size width all) m others (subst (All (λ m. m.end ≡ size width all)) is (ending-ends width K (size width before) (size width all) x)) in
      let less : size width before < size width all = omega (arith, size-append width before x, size-push width since u, wide u) in
      let ended : All (λ m. m.end ≤ size width all) (standard width K (before ++ since) ++ m ∷ []) =
      All-append (λ m. m.end ≤ size width all) (standard width K (before ++ since)) (m ∷ [])
      (All-weaker (λ m. m.end ≤ size width before) (λ m. m.end ≤ size width all) (λ x le. omega (arith, le, less)) (standard width K (before ++ since)) r.ended)
      (All-cons (λ m. m.end ≤ size width all) m [] (omega (arith, end)) (All-nil (λ m. m.end ≤ size width all))) in (
        record {
          no_empty = r.no_empty;
          ended = subst (All (λ m. m.end ≤ size width all)) (sym (whole ∙ more)) ended;
          place = ap (last_end 0) (whole ∙ more) ∙ last_end-append 0 (standard width K (before ++ since)) (m ∷ []) ∙ end;
          goes_on = λ w.
              ap (λ t. standard width K (t ++ w)) (append-nil all)
              ∙ step w
              ∙ sym (append_assoc (standard width K (before ++ since)) (m ∷ []) (standard_from width K (size width all) [] w))
              ∙ ap (λ l. l ++ standard_from width K (size width all) [] w) (sym (whole ∙ more));
        },
        ap (standard_after width K) (append_assoc before since (u ∷ []))
            ∙ ap (find (λ m. m.end == size width all)) more
            ∙ find-earlier (size width before) (size width all) (standard width K (before ++ since)) (m ∷ []) r.ended less
            ∙ find-here (size width all) m [] end,
      )

  pub IsResumed-since : (before since : List ℕ) → IsResumed width K before since → (s : List ℕ) → IsSinceMatch width K (before ++ since) s → s ≡ since
  IsResumed-since before since r s (front, cut, at) = same_split width wide front before s since (sym cut) (at ∙ r.place)

  -- nothing was read yet
  pub standard_after-nil : K [] ≡ [] → standard_after width K [] ≡ None
  standard_after-nil e = ap (find (λ m. m.end == 0)) (standard-is width K [] e)

  -- ---- with an empty key

  -- the empty match after t
  abbrev empty_at : V → List ℕ → Match V
  empty_at v t = record { start = size width t; end = size width t; value = v }

  module _ (v : V) (vs : List V) (has : K [] ≡ v ∷ vs) where
    -- what is looked for at each end
    abbrev one_empty : List ℕ → List (Match V)
    one_empty t = take 1 (matches_of K (size width t) (size width t) [])

    one_empty-is : (t : List ℕ) → one_empty t ≡ empty_at v t ∷ []
    one_empty-is t = ap (λ l. take 1 (map (λ x. record { start = size width t; end = size width t; value = x }) l)) has

    standard-empty : (h : List ℕ) → standard width K h ≡ empty_matches width K h
    standard-empty h = ap {B = List (Match V)} (λ l. elim l [ [] ↦ standard_from width K 0 [] h | _ ∷ _ ↦ empty_matches width K h ]) has

    find-empty : (t w : List ℕ) → find (λ m. m.end == size width (t ++ w)) (at_each_end one_empty t w) ≡ Some (empty_at v (t ++ w))
    find-empty t [] =
        ap (find (λ m. m.end == size width (t ++ []))) (one_empty-is t)
        ∙ find-here (size width (t ++ [])) (empty_at v t) [] (ap (size width) (sym (append-nil t)))
        ∙ ap (λ x. Some (empty_at v x)) (sym (append-nil t))
    find-empty t (u ∷ w) =
        let e : t ++ u ∷ w ≡ (t ++ u ∷ []) ++ w = sym (append_assoc t (u ∷ []) w) in
        ap (λ l. find (λ m. m.end == size width (t ++ u ∷ w)) (l ++ at_each_end one_empty (t ++ u ∷ []) w)) (one_empty-is t)
        ∙ find-other (size width (t ++ u ∷ w)) (empty_at v t) (at_each_end one_empty (t ++ u ∷ []) w) (omega (arith, size-append width t (u ∷ w), wide u))
        ∙ ap (λ x. find (λ m. m.end == size width x) (at_each_end one_empty (t ++ u ∷ []) w)) e
        ∙ find-empty (t ++ u ∷ []) w
        ∙ ap (λ x. Some (empty_at v x)) (sym e)

    last-empty : (r : ℕ) (t w : List ℕ) → last_end r (at_each_end one_empty t w) ≡ size width (t ++ w)
    last-empty r t [] = ap (last_end r) (one_empty-is t) ∙ ap (size width) (sym (append-nil t))
    last-empty r t (u ∷ w) =
        ap (λ l. last_end r (l ++ at_each_end one_empty (t ++ u ∷ []) w)) (one_empty-is t)
        ∙ last-empty (size width t) (t ++ u ∷ []) w
        ∙ ap (size width) (append_assoc t (u ∷ []) w)

    -- one ends wherever the text does
    pub standard_after-empty : (t : List ℕ) → standard_after width K t ≡ Some (record { start = size width t; end = size width t; value = v })
    standard_after-empty t = ap (find (λ m. m.end == size width t)) (standard-empty t) ∙ find-empty [] t

    pub IsSinceMatch-empty : (t s : List ℕ) → IsSinceMatch width K t s → s ≡ []
    IsSinceMatch-empty t s (front, cut, at) =
        same_split width wide front t s [] (sym cut ∙ sym (append-nil t)) (at ∙ ap (last_end 0) (standard-empty t) ∙ last-empty 0 [] t)

    each-empty : (h : List ℕ) → at_each_end (λ t. option_to_list (standard_after width K t)) [] h ≡ standard width K h
    each-empty h =
        let each : (t : List ℕ) → option_to_list (standard_after width K t) ≡ one_empty t = λ t. ap option_to_list (standard_after-empty t) ∙ sym (one_empty-is t) in
        let all : (λ t. option_to_list (standard_after width K t)) ≡ one_empty = λ i t. each t i in
        ap (λ f. at_each_end f [] h) all ∙ sym (standard-empty h)

  -- ---- the whole list

  -- the match of the standard search that ends with t, as a list
  abbrev pub one_after : List ℕ → List (Match V)
  one_after t = option_to_list (standard_after width K t)

  -- what ends where the walk stands, and then what it goes on to find
  pub joined-from : (before since w : List ℕ) → IsResumed width K before since
      → at_each_end one_after (before ++ since) w ≡ one_after (before ++ since) ++ standard_from width K (size width before) since w
  joined-from before since [] r = sym (append-nil (one_after (before ++ since)))
  joined-from before since (u ∷ w) r =
      let x = since ++ u ∷ [] in
      let e = size width (before ++ x) in
      ap (λ l. one_after (before ++ since) ++ l)
      (by_end (λ b s next. joined-from b s w next) (ending_at width K (size width before) e x) refl
      ∙ ap (λ n. first_or (ending_at width K (size width before) n x) (standard_from width K (size width before) x w) (standard_from width K n [] w)) (size-append width before x))
    where
      by_end : ((b s : List ℕ) → IsResumed width K b s → at_each_end one_after (b ++ s) w ≡ one_after (b ++ s) ++ standard_from width K (size width b) s w)
          → (here : List (Match V)) → ending_at width K (size width before) (size width (before ++ (since ++ u ∷ []))) (since ++ u ∷ []) ≡ here
          → at_each_end one_after ((before ++ since) ++ u ∷ []) w
          ≡ first_or (ending_at width K (size width before) (size width (before ++ (since ++ u ∷ []))) (since ++ u ∷ [])) (standard_from width K (size width before) (since ++ u ∷ []) w) (standard_from width K (size width (before ++ (since ++ u ∷ []))) [] w)
      by_end go [] is =
          let x = since ++ u ∷ [] in
          let next = IsResumed-passes before since u r is in
          let text = append_assoc before since (u ∷ []) in
          ap (λ t. at_each_end one_after t w) text
          ∙ go before x next.0
          ∙ ap (λ t. one_after t ++ standard_from width K (size width before) x w) (sym text)
          ∙ ap (λ o. option_to_list o ++ standard_from width K (size width before) x w) next.1
          ∙ ap (λ l. first_or l (standard_from width K (size width before) x w) (standard_from width K (size width (before ++ x)) [] w)) (sym is)
      by_end go (m ∷ others) is =
          let x = since ++ u ∷ [] in
          let all = before ++ x in
          let next = IsResumed-finds before since u m others r is in
          let text : (before ++ since) ++ u ∷ [] ≡ all ++ [] = append_assoc before since (u ∷ []) ∙ sym (append-nil all) in
          ap (λ t. at_each_end one_after t w) text
          ∙ go all [] next.0
          ∙ ap (λ t. one_after t ++ standard_from width K (size width all) [] w) (sym text)
          ∙ ap (λ o. option_to_list o ++ standard_from width K (size width all) [] w) next.1
          ∙ ap (λ l. first_or l (standard_from width K (size width before) x w) (standard_from width K (size width all) [] w)) (sym is)

  -- the standard matches are those of each end
  pub standard-joined : (h : List ℕ) → at_each_end (λ t. option_to_list (standard_after width K t)) [] h ≡ standard width K h
  standard-joined h = by_empty (K []) refl
    where
      by_empty : (vs : List V) → K [] ≡ vs → at_each_end (λ t. option_to_list (standard_after width K t)) [] h ≡ standard width K h
      by_empty [] e =
          joined-from [] [] h (IsResumed-begin e)
          ∙ ap (λ o. option_to_list o ++ standard_from width K 0 [] h) (standard_after-nil e)
          ∙ sym (standard-is width K h e)
      by_empty (v ∷ vs) e = each-empty v vs e h
