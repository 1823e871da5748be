-- What a search that is given its haystack unit by unit gives: its best match, where that is certain, and nothing else.
use Rattle.std.proofs.Common.{◌≡◌, ℕ, zero, suc, ◌+◌, ◌-◌, ◌*◌, ◌<◌, ◌≤◌, ◌⊎◌, inl, inr, Bool, true, false, cond, List, [], ◌∷◌, ◌++◌, length, Option, Some, None, refl, sym, ap, ◌∙◌, subst, append_assoc, append-nil, length-append, arith}
use Rattle.std.proofs.lemmas.List.{nil_from_length, length-map}
use Rattle.daachorse_core.specs.Seen.{SeenUnits}
use Rattle.daachorse_model.specs.declared.Match.{Match}
use Rattle.daachorse_model.specs.Units.{size}
use Rattle.daachorse_model.specs.Best.{IsBest}
use Rattle.daachorse_model.specs.Prefixes.{IsKey}
use Rattle.daachorse_model.specs.Leftmost.{leftmost, leftmost_from}
use Rattle.daachorse_model.proofs.Suffixes.{size-append}
use Rattle.daachorse_search.specs.BestScans.{HasNoLongerKey}
use Rattle.daachorse_search.specs.Views.{AutomatonView}
use Rattle.daachorse_search.proofs.LeftmostLaws.{nil_from_size}
use Rattle.daachorse_streams.specs.declared.scan.Pending.{Pending}
use Rattle.daachorse_streams.specs.declared.scan.Scan.{Scan}
use Rattle.daachorse_streams.specs.declared.search.Search.{Search}
use Rattle.daachorse_streams.specs.Scans.{IsPending, IsPendingSoFar, IsScan, depth}
use Rattle.daachorse_streams.specs.Searching.{IsSearching, Stands, given_of, passed_over}
use Rattle.daachorse_streams.specs.Streamed.{LooksAtKeys}
use Rattle.daachorse_streams.proofs.LeastLaws.{looks-as, looks-first, looks-none}
use Rattle.daachorse_streams.proofs.LeftmostCertain.{empty_front, gives_empty, gives_key, match_of}
use Rattle.daachorse_streams.proofs.ScanLaws.{rest_is}
use Rattle.daachorse_streams.proofs.SearchingLaws.{depth_at_first, given_is}

times_one_more : (m n : ℕ) → m * (n + 1) ≡ m * n + m
times_one_more m n = grind arith

one_over : (w ahead : List ℕ) → 0 < length w → length (passed_over true (w ++ ahead)) ≡ 1
one_over [] ahead some = absurd (omega arith)
one_over (u ∷ w) ahead some = refl

module _ {V : Type 0} (width : ℕ → ℕ) (wide : (u : ℕ) → 1 ≤ width u) (view : AutomatonView V) {U ALLOC : Type 0} (unit : U → ℕ) {s : Search U ALLOC} (is : IsSearching width view unit s) (at : Pending) (best_is : s.scan.best ≡ Some at) where
  abbrev pub from : ℕ
  from = size width is.passed

  pub record IsBestNow : Type 0 where
    pub scans : s.skips ≡ false
    pub pending : IsPending width view from is.w (view.text s.scan.state) at s.scan.decided is.behind

  pub now : IsBestNow
  now = by s.skips refl is.stands
    where
      by : (b : Bool) → s.skips ≡ b → Stands width view b from is.w s.scan is.behind → IsBestNow
      by true e idle = let none : Some at ≡ None = sym best_is ∙ idle.no_best in cc
      by false e scan = let P : Option Pending → Type 0 = λ o. IsPendingSoFar width view from is.w (view.text s.scan.state) o s.scan.decided is.behind in record { scans = e; pending = subst P best_is scan.pending }

  abbrev p : IsPending width view from is.w (view.text s.scan.state) at s.scan.decided is.behind
  p = now.pending

  w_is : is.w ≡ p.front ++ (p.key ++ is.behind)
  w_is = p.best.occurs.parts ∙ ap (λ y. p.front ++ (p.key ++ y)) (sym p.rest)

  -- the output gives the best's value and size
  module _ {v : V} {len : ℕ} {more : List (V × ℕ)} (told : view.outputs at.position.value ≡ (v, len) ∷ more) where
    output_is : (len ≡ size width p.key) × ((others : List V) × (view.content p.key ≡ v ∷ others))
    output_is =
        let of = p.output in
        let found : V × ℕ = (of.value, size width p.key) in
        let given : V × ℕ = (v, len) in
        let same : found ∷ of.more ≡ given ∷ more = sym of.first ∙ told in
        let pair : found ≡ given = cc in
        (sym (ap (λ x. x.1) pair), (of.others, of.has ∙ ap (λ x. x.0 ∷ of.others) pair))

    pub output_within : len ≤ at.end
    output_within = omega (arith, output_is.0, p.ends, size-append width p.front p.key)

    module _ (certain : (s.scan.decided ≡ true) ⊎ ((s.ended ≡ true) × (s.walked ≡ length s.ring.items))) where
      abbrev text : List ℕ → List ℕ
      text d = (is.w ++ is.ahead) ++ d

      -- the best stays the best, however the haystack goes on
      stays : (d : List ℕ) → (s.ended ≡ true → d ≡ []) → IsBest view.content (text d) p.front p.key
      stays d still = elim certain [
        | inl decided ↦ let P : List ℕ → Type 0 = λ y. IsBest view.content y p.front p.key in subst P (sym (append_assoc is.w is.ahead d)) (p.final decided (is.ahead ++ d))
        | inr over ↦
            let none : is.ahead ≡ [] = nil_from_length is.ahead (omega (arith, over.1, is.walked, ap length is.ring, length-map s.ring.items unit, length-append is.behind is.ahead)) in
            let whole : text d ≡ is.w = ap (λ y. (is.w ++ y) ++ d) none ∙ ap (λ y. (is.w ++ []) ++ y) (still over.0) ∙ append-nil (is.w ++ []) ∙ append-nil is.w in
            let P : List ℕ → Type 0 = λ y. IsBest view.content y p.front p.key in subst P (sym whole) p.best
      ]

      left_at : (d : List ℕ) → (s.ended ≡ true → d ≡ []) → leftmost width view.content (s.seen.since ++ d) ≡ is.gave ++ leftmost_from width view.content from 0 s.after (text d)
      left_at d still = is.left d still ∙ ap (λ b. is.gave ++ leftmost_from width view.content from (cond b 1 0) s.after (text d)) now.scans

      module _ {m : Match V} (found : m ≡ record { start = at.end - len; end = at.end; value = v }) (seen : SeenUnits) (read : seen.since ≡ s.seen.since) where
        -- where the search goes on behind the best
        abbrev pub goes_on : Bool → Bool → Scan → Search U ALLOC
        goes_on skips after scan = record { ring = s.ring; walked = 0; scan = scan; skips = skips; after = after; ended = s.ended; turns = s.turns; seen = seen }

        -- the output's match is that of the best
        match_is : m ≡ match_of width view.content from p.front p.key v
        match_is =
            let start : at.end - len ≡ from + size width p.front = omega (arith, output_is.0, p.ends, size-append width p.front p.key) in
            found ∙ (λ i. record { start = start i; end = p.ends i; value = v })

        -- a best that is not empty is given, and a scan begins at its end
        pub gave_key : at.end - len < at.end → seen.given ≡ s.seen.given + 1 → (scan : Scan) → IsScan width view at.end [] scan []
            → IsSearching width view unit (goes_on s.skips true scan) × (given_of width view.content (goes_on s.skips true scan) ≡ given_of width view.content s ++ m ∷ [])
        gave_key some counts scan begins = (searches, given_is width view unit searches ∙ ap (λ y. y ++ m ∷ []) (sym (given_is width view unit is)))
          where
            long : 0 < length p.key
            long = by p.key refl
              where
                by : (k : List ℕ) → p.key ≡ k → 0 < length p.key
                by [] e = absurd (omega (arith, some, output_is.0, ap (size width) e))
                by (u ∷ k) e = omega (arith, ap length e)

            place : at.end ≡ size width (is.passed ++ (p.front ++ p.key))
            place = omega (arith, p.ends, size-append width is.passed (p.front ++ p.key))

            -- what is given, and what is left behind it
            gives : (d : List ℕ) → (s.ended ≡ true → d ≡ []) → leftmost width view.content (s.seen.since ++ d) ≡ (is.gave ++ m ∷ []) ++ leftmost_from width view.content (size width (is.passed ++ (p.front ++ p.key))) 0 true ((is.behind ++ is.ahead) ++ d)
            gives d still =
                let best = stays d still in
                let cut : text d ≡ p.front ++ (p.key ++ ((is.behind ++ is.ahead) ++ d)) = ap (λ y. (y ++ is.ahead) ++ d) w_is ∙ simp append_assoc in
                let behind : (is.behind ++ is.ahead) ++ d ≡ best.rest = rest_is width wide view is.kind (text d) p.front p.key ((is.behind ++ is.ahead) ++ d) best cut in
                left_at d still
                ∙ ap (λ l. is.gave ++ l) (gives_key width view.content from s.after (text d) p.front p.key v output_is.1.0 best long output_is.1.1)
                ∙ ap (λ y. is.gave ++ (y ∷ leftmost_from width view.content (from + size width (p.front ++ p.key)) 0 true best.rest)) (sym match_is)
                ∙ ap (λ y. is.gave ++ (m ∷ leftmost_from width view.content (from + size width (p.front ++ p.key)) 0 true y)) (sym behind)
                ∙ ap (λ n. is.gave ++ (m ∷ leftmost_from width view.content n 0 true ((is.behind ++ is.ahead) ++ d))) (sym (size-append width is.passed (p.front ++ p.key)))
                ∙ sym (append_assoc is.gave (m ∷ []) _)

            searches : IsSearching width view unit (goes_on s.skips true scan)
            searches =
                let S : Bool → Type 0 = λ b. Stands width view b (size width (is.passed ++ (p.front ++ p.key))) [] scan [] in
                let B : ℕ → Type 0 = λ n. IsScan width view n [] scan [] in
                record {
                  kind = is.kind;
                  passed = is.passed ++ (p.front ++ p.key);
                  w = [];
                  behind = [];
                  ahead = is.behind ++ is.ahead;
                  parts = read ∙ is.parts ∙ ap (λ y. is.passed ++ (y ++ is.ahead)) w_is ∙ simp append_assoc;
                  ring = is.ring;
                  walked = refl;
                  stands = subst S (sym now.scans) (subst B place begins);
                  gave = is.gave ++ m ∷ [];
                  counted = omega (arith, length-append is.gave (m ∷ []), is.counted, counts);
                  left = λ d still.
                      ap (λ y. leftmost width view.content (y ++ d)) read
                      ∙ gives d still
                      ∙ ap (λ b. (is.gave ++ m ∷ []) ++ leftmost_from width view.content (size width (is.passed ++ (p.front ++ p.key))) (cond b 1 0) true ((is.behind ++ is.ahead) ++ d)) (sym now.scans);
                  most = λ n bound.
                      omega (
                        arith,
                        is.most n bound,
                        p.near n bound,
                        long,
                        times_one_more n s.seen.given,
                        ap (λ k. n * k) counts,
                        depth_at_first width view at.end scan [] begins,
                        length-append is.passed (p.front ++ p.key),
                        length-append p.front p.key,
                        ap {B = ℕ} (λ b. length (passed_over b is.ahead)) now.scans,
                      );
                  least = λ d still.
                      (let kept : List ℕ = is.passed ++ (p.front ++ p.key) in
                      let none : (ahead : List ℕ) → passed_over s.skips ahead ≡ [] = λ ahead. ap (λ b. passed_over b ahead) now.scans in
                      let before : is.passed ++ (is.w ++ passed_over s.skips (is.ahead ++ d)) ≡ kept ++ is.behind =
                      ap (λ y. is.passed ++ (is.w ++ y)) (none (is.ahead ++ d))
                      ∙ ap (λ y. is.passed ++ (y ++ [])) w_is
                      ∙ simp (append_assoc, append-nil) in
                      looks-as view (ap (λ y. y ++ d) (sym read))
                      (sym (append-nil kept) ∙ ap (λ y. kept ++ y) (sym (none ((is.behind ++ is.ahead) ++ d))))
                      (looks-first view (s.seen.since ++ d) kept is.behind s.turns (looks-as view refl before (is.least d still))));
                  room = is.room;
                  fits = omega (arith, is.fits, ap (size width) read);
                }

        -- an empty one is given unless it comes right after another, and one unit is passed over
        pub gave_empty : at.end ≤ at.end - len → seen.given ≡ cond s.after s.seen.given (s.seen.given + 1) → (root : ℕ) → view.text root ≡ []
            → (idle : Scan) → idle ≡ record { state = root; place = at.end; best = None; decided = false }
            → IsSearching width view unit (goes_on true false idle) × (given_of width view.content (goes_on true false idle) ≡ given_of width view.content s ++ cond s.after [] (m ∷ []))
        gave_empty none counts root empty idle is_idle = (searches, given_is width view unit searches ∙ ap (λ y. y ++ cond s.after [] (m ∷ [])) (sym (given_is width view unit is)))
          where
            no_key : p.key ≡ []
            no_key = nil_from_size width wide p.key (omega (arith, none, output_is.0, output_within))

            no_front : p.front ≡ []
            no_front = let B : List ℕ → Type 0 = λ k. IsBest view.content is.w p.front k in empty_front width view.content is.w p.front (subst B no_key p.best)

            all_behind : is.w ≡ is.behind
            all_behind = w_is ∙ ap (λ y. y ++ (p.key ++ is.behind)) no_front ∙ ap (λ y. y ++ is.behind) no_key

            place : at.end ≡ from
            place = omega (arith, p.ends, size-append width p.front p.key, ap (size width) no_front, ap (size width) no_key)

            match_at_place : m ≡ record { start = from; end = from; value = v }
            match_at_place =
                let start : at.end - len ≡ from = omega (arith, place, output_is.0, ap (size width) no_key) in
                found ∙ (λ i. record { start = start i; end = place i; value = v })

            gives : (d : List ℕ) → (s.ended ≡ true → d ≡ []) → leftmost width view.content (s.seen.since ++ d) ≡ (is.gave ++ cond s.after [] (m ∷ [])) ++ leftmost_from width view.content from 1 false (text d)
            gives d still =
                let B : List ℕ → Type 0 = λ k. IsBest view.content (text d) p.front k in
                let rest : List (Match V) = leftmost_from width view.content from 1 false (text d) in
                left_at d still
                ∙ ap (λ l. is.gave ++ l) (gives_empty width view.content from s.after (text d) p.front v output_is.1.0 (subst B no_key (stays d still)) (ap view.content (sym no_key) ∙ output_is.1.1))
                ∙ ap (λ y. is.gave ++ (cond s.after [] (y ∷ []) ++ rest)) (sym match_at_place)
                ∙ sym (append_assoc is.gave (cond s.after [] (m ∷ [])) rest)

            over_none : length (passed_over s.skips is.ahead) ≡ 0
            over_none = ap (λ b. length (passed_over b is.ahead)) now.scans

            more_given : (b : Bool) → length (is.gave ++ cond b [] (m ∷ [])) ≡ cond b s.seen.given (s.seen.given + 1)
            more_given true = ap length (append-nil is.gave) ∙ is.counted
            more_given false = omega (arith, length-append is.gave (m ∷ []), is.counted)

            within : (n : ℕ) → HasNoLongerKey view.content n → (b : Bool) → s.after ≡ b → (k : ℕ) → length is.w ≡ k → s.turns + 0 + 0 ≤ 2 * (length is.passed + 0 + length (passed_over true (is.w ++ is.ahead))) + 4 * (n * seen.given)
            within n bound true after zero none_read =
                let same : seen.given ≡ s.seen.given = counts ∙ ap (λ b. cond b s.seen.given (s.seen.given + 1)) after in
                omega (arith, is.most n bound, none_read, over_none, ap (λ k. n * k) same)
            within n bound true after (suc k) some_read =
                let same : seen.given ≡ s.seen.given = counts ∙ ap (λ b. cond b s.seen.given (s.seen.given + 1)) after in
                omega (arith, is.most n bound, over_none, p.near n bound, ap length no_front, ap {B = ℕ} (λ b. cond b (2 * n) 0) after, one_over is.w is.ahead (omega (arith, some_read)), ap (λ k. n * k) same)
            within n bound false after zero none_read =
                let one : seen.given ≡ s.seen.given + 1 = counts ∙ ap (λ b. cond b s.seen.given (s.seen.given + 1)) after in
                omega (arith, is.most n bound, none_read, over_none, ap (λ k. n * k) one, times_one_more n s.seen.given)
            within n bound false after (suc k) some_read =
                let one : seen.given ≡ s.seen.given + 1 = counts ∙ ap (λ b. cond b s.seen.given (s.seen.given + 1)) after in
                omega (arith, is.most n bound, over_none, p.near n bound, ap length no_front, one_over is.w is.ahead (omega (arith, some_read)), ap (λ k. n * k) one, times_one_more n s.seen.given)

            -- The unit that is passed over was read, or no key begins at it.
            least : (d : List ℕ) → (s.ended ≡ true → d ≡ [])
                → LooksAtKeys view (s.seen.since ++ d) (is.passed ++ passed_over true ((is.w ++ is.ahead) ++ d)) s.turns
            least d still = by is.w refl
              where
                was : LooksAtKeys view (s.seen.since ++ d) (is.passed ++ is.w) s.turns
                was =
                    looks-as view refl
                    (ap (λ b. is.passed ++ (is.w ++ passed_over b (is.ahead ++ d))) now.scans ∙ ap (λ y. is.passed ++ y) (append-nil is.w))
                    (is.least d still)

                alone : (y : ℕ) (rest : List ℕ) → is.ahead ++ d ≡ y ∷ rest → is.w ≡ []
                    → LooksAtKeys view (s.seen.since ++ d) (is.passed ++ y ∷ []) s.turns
                alone y rest first none_read =
                    let whole : text d ≡ y ∷ rest = ap (λ x. (x ++ is.ahead) ++ d) none_read ∙ first in
                    let B : List ℕ → Type 0 = λ x. IsBest view.content x p.front p.key in
                    let best : IsBest view.content (y ∷ rest) p.front p.key = subst B whole (stays d still) in
                    let none_here : (k r : List ℕ) → IsKey view.content k → 0 < length k → y ∷ rest ≡ k ++ r → ⊥ =
                    λ k r key some cut.
                    (elim (best.least [] k r (record { parts = cut; key = key })) [
                      | inl before ↦ omega (arith, before, ap length no_front)
                      | inr same ↦ omega (arith, same.1, some, ap length no_key)
                    ]) in
                    let at_end : s.seen.since ++ d ≡ is.passed ++ y ∷ rest =
                    ap (λ x. x ++ d) is.parts ∙ append_assoc is.passed (is.w ++ is.ahead) d ∙ ap (λ x. is.passed ++ x) whole in
                    let read_so : is.passed ++ is.w ≡ is.passed = ap (λ x. is.passed ++ x) none_read ∙ append-nil is.passed in
                    looks-as view (sym at_end) refl (looks-none view is.passed y rest s.turns none_here (looks-as view at_end read_so was))

                by : (w : List ℕ) → is.w ≡ w
                    → LooksAtKeys view (s.seen.since ++ d) (is.passed ++ passed_over true ((is.w ++ is.ahead) ++ d)) s.turns
                by (x ∷ w) some =
                    looks-as view refl (ap (λ y. is.passed ++ passed_over true ((y ++ is.ahead) ++ d)) (sym some))
                    (looks-first view (s.seen.since ++ d) (is.passed ++ x ∷ []) w s.turns
                    (looks-as view refl (ap (λ y. is.passed ++ y) some ∙ sym (append_assoc is.passed (x ∷ []) w)) was))
                by [] none_read =
                    looks-as view refl (ap (λ y. is.passed ++ passed_over true ((y ++ is.ahead) ++ d)) (sym none_read))
                    (next (is.ahead ++ d) refl)
                  where
                    next : (x : List ℕ) → is.ahead ++ d ≡ x
                        → LooksAtKeys view (s.seen.since ++ d) (is.passed ++ passed_over true (is.ahead ++ d)) s.turns
                    next [] e =
                        looks-as view refl (ap (λ y. is.passed ++ y) none_read ∙ ap (λ y. is.passed ++ passed_over true y) (sym e)) was
                    next (y ∷ rest) e = looks-as view refl (ap (λ x. is.passed ++ passed_over true x) (sym e)) (alone y rest e none_read)

            searches : IsSearching width view unit (goes_on true false idle)
            searches = record {
              kind = is.kind;
              passed = is.passed;
              w = [];
              behind = [];
              ahead = is.w ++ is.ahead;
              parts = read ∙ is.parts;
              ring = is.ring ∙ ap (λ y. y ++ is.ahead) (sym all_behind);
              walked = refl;
              stands = record {
                none_read = refl;
                none_behind = refl;
                no_best = ap (λ (x : Scan). x.best) is_idle;
                open_yet = ap (λ (x : Scan). x.decided) is_idle;
                place = ap (λ (x : Scan). x.place) is_idle ∙ place;
                root = ap (λ (x : Scan). view.text x.state) is_idle ∙ empty;
              };
              gave = is.gave ++ cond s.after [] (m ∷ []);
              counted = more_given s.after ∙ sym counts;
              left = λ d still. ap (λ y. leftmost width view.content (y ++ d)) read ∙ gives d still;
              most = λ n bound. omega (arith, within n bound s.after refl (length is.w) refl, ap (depth view) is_idle, ap length empty);
              least = λ d still. looks-as view (ap (λ y. y ++ d) (sym read)) refl (least d still);
              room = is.room;
              fits = omega (arith, is.fits, ap (size width) read);
            }
