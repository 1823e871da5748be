-- A search that is given its haystack unit by unit, one step further: what it may still give, and its turns.
use Rattle.std.proofs.Common.{◌≡◌, ℕ, suc, ◌+◌, ◌^◌, ◌<◌, ◌≤◌, Bool, true, false, cond, List, [], ◌∷◌, ◌++◌, length, map, take, drop, refl, sym, ap, ◌∙◌, subst, append_assoc, append-nil, length-append, get_or, arith}
use Rattle.std.specs.VecDeque.{deque_capacity}
use Rattle.std.specs.declared.collections.VecDeque.{VecDeque}
use Rattle.std.proofs.lemmas.List.{length-map, take_at}
use Rattle.daachorse_model.specs.declared.Match.{Match}
use Rattle.daachorse_model.specs.Units.{size}
use Rattle.daachorse_model.specs.Leftmost.{leftmost, leftmost_from}
use Rattle.daachorse_model.proofs.Suffixes.{size-append, size-push, IsSuffix-length}
use Rattle.daachorse_search.specs.Views.{AutomatonView}
use Rattle.daachorse_streams.specs.declared.scan.Scan.{Scan}
use Rattle.daachorse_streams.specs.declared.search.Search.{Search}
use Rattle.daachorse_streams.specs.Scans.{IsScan, depth}
use Rattle.daachorse_streams.specs.Streamed.{IsRoomFor}
use Rattle.daachorse_streams.proofs.LeastLaws.{looks-as, looks-more}
use Rattle.daachorse_streams.specs.Searching.{IsSearching, IsIdle, Stands, given_of, passed_over}

-- the unit that is read next, behind those that were read, and the units behind it
pub record IsNext {U : Type 0} (unit : U → ℕ) (items : List U) (behind ahead : List ℕ) (x : U) : Type 0 where
  pub more : List ℕ
  pub ahead_is : ahead ≡ unit x ∷ more
  pub rest_is : map unit (drop (length behind + 1) items) ≡ more

pub next_of : {U : Type 0} (unit : U → ℕ) (items : List U) (behind ahead : List ℕ) (x : U) → map unit items ≡ behind ++ ahead → length behind < length items → x ≡ get_or items (length behind) x → IsNext unit items behind ahead x
next_of unit [] behind ahead x e within is = absurd (omega arith)
next_of unit (y ∷ items) [] ahead x e within is = record { more = map unit items; ahead_is = sym e ∙ ap (λ z. unit z ∷ map unit items) (sym is); rest_is = refl }
next_of unit (y ∷ items) (b ∷ behind) ahead x e within is =
    let tail : map unit items ≡ behind ++ ahead = cc in
    let next = next_of unit items behind ahead x tail (omega arith) is in
    let count : length (b ∷ behind) + 1 ≡ suc (length behind + 1) = omega arith in
    record { more = next.more; ahead_is = next.ahead_is; rest_is = ap (λ (n : ℕ). map unit (drop n (y ∷ items))) count ∙ next.rest_is }

module _ {V : Type 0} (width : ℕ → ℕ) (view : AutomatonView V) where
  -- a scan that begins has no link to follow
  pub depth_at_first : (from : ℕ) (scan : Scan) (behind : List ℕ) → IsScan width view from [] scan behind → depth view scan ≡ 0
  depth_at_first from scan behind is = by scan.decided refl
    where
      by : (d : Bool) → scan.decided ≡ d → cond scan.decided 0 (length (view.text scan.state)) ≡ 0
      by true e = ap (λ b. cond b 0 (length (view.text scan.state))) e
      by false e =
          let t = view.text scan.state in
          ap (λ b. cond b 0 (length t)) e ∙ omega (arith, IsSuffix-length t [] (is.steady e).long.ends)

  module _ {U ALLOC : Type 0} (unit : U → ℕ) {s : Search U ALLOC} (is : IsSearching width view unit s) where
    -- the matches given are the first of all
    pub given_is : given_of width view.content s ≡ is.gave
    given_is =
        let rest : List (Match V) = leftmost_from width view.content (size width is.passed) (cond s.skips 1 0) s.after ((is.w ++ is.ahead) ++ []) in
        let whole : leftmost width view.content s.seen.since ≡ is.gave ++ rest = ap (leftmost width view.content) (sym (append-nil s.seen.since)) ∙ is.left [] (λ _. refl) in
        ap (take s.seen.given) whole ∙ take_at is.gave rest s.seen.given is.counted

    pub walked_within : s.walked ≤ length s.ring.items
    walked_within = omega (arith, is.walked, ap length is.ring, length-map s.ring.items unit, length-append is.behind is.ahead)

    -- the place of the search is that behind all units read
    pub place_is : s.scan.place ≡ size width is.passed + size width is.w
    place_is = by s.skips is.stands
      where
        by : (b : Bool) → Stands width view b (size width is.passed) is.w s.scan is.behind → s.scan.place ≡ size width is.passed + size width is.w
        by true idle = omega (arith, idle.place, ap (size width) idle.none_read)
        by false on = on.place

    module _ (items_within : s.walked < length s.ring.items) (x : U) (at : x ≡ get_or s.ring.items s.walked x) where
      pub next : IsNext unit s.ring.items is.behind is.ahead x
      next = next_of unit s.ring.items is.behind is.ahead x is.ring (omega (arith, is.walked)) (at ∙ ap (λ n. get_or s.ring.items n x) is.walked)

      more : List ℕ
      more = next.more

      parts_next : s.seen.since ≡ is.passed ++ (is.w ++ unit x ∷ next.more)
      parts_next = is.parts ∙ ap (λ y. is.passed ++ (is.w ++ y)) next.ahead_is

      -- the place behind the unit fits
      pub next_fits : size width is.passed + size width is.w + width (unit x) < 2 ^ 64
      next_fits =
          omega (arith, is.fits, ap (size width) parts_next, size-append width is.passed (is.w ++ unit x ∷ next.more), size-append width is.w (unit x ∷ next.more))

      -- a unit is passed over
      pub over_unit : s.skips ≡ true → (ring : VecDeque U ALLOC) → ring.items ≡ drop 1 s.ring.items → deque_capacity ring ≡ deque_capacity s.ring → (scan : Scan) → IsScan width view (s.scan.place + width (unit x)) [] scan []
          → IsSearching width view unit (record { ring = ring; walked = s.walked; scan = scan; skips = false; after = s.after; ended = s.ended; turns = s.turns; seen = s.seen })
      over_unit skips ring items capacity scan begins =
          let S : Bool → Type 0 = λ b. Stands width view b (size width is.passed) is.w s.scan is.behind in
          let stood : IsIdle width view (size width is.passed) is.w s.scan is.behind = subst S skips is.stands in
          let place : s.scan.place + width (unit x) ≡ size width (is.passed ++ unit x ∷ []) = omega (arith, stood.place, size-push width is.passed (unit x)) in
          let front : map unit ring.items ≡ next.more = ap (map unit) items ∙ ap (λ b. map unit (drop (length b + 1) s.ring.items)) (sym stood.none_behind) ∙ next.rest_is in
          let C : ℕ → Type 0 = λ n. IsRoomFor width view.content n in
          let B : ℕ → Type 0 = λ n. IsScan width view n [] scan [] in
          record {
            kind = is.kind;
            passed = is.passed ++ unit x ∷ [];
            w = [];
            behind = [];
            ahead = next.more;
            parts = parts_next ∙ ap (λ y. is.passed ++ (y ++ unit x ∷ next.more)) stood.none_read ∙ sym (append_assoc is.passed (unit x ∷ []) next.more);
            ring = front;
            walked = is.walked ∙ ap length stood.none_behind;
            stands = subst B place begins;
            gave = is.gave;
            counted = is.counted;
            left = λ d still.
                is.left d still
                ∙ ap (λ b. is.gave ++ leftmost_from width view.content (size width is.passed) (cond b 1 0) s.after ((is.w ++ is.ahead) ++ d)) skips
                ∙ ap (λ y. is.gave ++ leftmost_from width view.content (size width is.passed) 1 s.after ((y ++ is.ahead) ++ d)) stood.none_read
                ∙ ap (λ y. is.gave ++ leftmost_from width view.content (size width is.passed) 1 s.after (y ++ d)) next.ahead_is
                ∙ ap (λ n. is.gave ++ leftmost_from width view.content n 0 s.after (next.more ++ d)) (sym (size-push width is.passed (unit x)));
            most = λ m bound.
                omega (
                  arith,
                  is.most m bound,
                  ap length stood.none_read,
                  ap {B = ℕ} (λ b. length (passed_over b is.ahead)) skips,
                  ap {B = ℕ} (λ y. length (passed_over true y)) next.ahead_is,
                  length-append is.passed (unit x ∷ []),
                  depth_at_first (s.scan.place + width (unit x)) scan [] begins,
                );
            least = λ d still.
                looks-as view refl
                (ap (λ b. is.passed ++ (is.w ++ passed_over b (is.ahead ++ d))) skips
                ∙ ap (λ y. is.passed ++ (y ++ passed_over true (is.ahead ++ d))) stood.none_read
                ∙ ap (λ y. is.passed ++ passed_over true (y ++ d)) next.ahead_is
                ∙ sym (append-nil (is.passed ++ unit x ∷ [])))
                (is.least d still);
            room = subst C (sym capacity) is.room;
            fits = is.fits;
          }

      -- a unit is read
      pub one_read : s.skips ≡ false → (ring : VecDeque U ALLOC) (walked : ℕ) (behind : List ℕ) → map unit ring.items ≡ behind ++ next.more → walked ≡ length behind → deque_capacity ring ≡ deque_capacity s.ring
          → (scan : Scan) → IsScan width view (size width is.passed) (is.w ++ unit x ∷ []) scan behind → (turns : ℕ) → turns + depth view scan ≤ s.turns + depth view s.scan + 2
          → s.turns + cond (view.has_label (unit x)) 1 0 ≤ turns
          → IsSearching width view unit (record { ring = ring; walked = walked; scan = scan; skips = s.skips; after = s.after; ended = s.ended; turns = turns; seen = s.seen })
      one_read scans ring walked behind front counts capacity scan on turns most least =
          let C : ℕ → Type 0 = λ n. IsRoomFor width view.content n in
          let S : Bool → Type 0 = λ b. Stands width view b (size width is.passed) (is.w ++ unit x ∷ []) scan behind in
          let whole : is.w ++ is.ahead ≡ (is.w ++ unit x ∷ []) ++ next.more = ap (λ y. is.w ++ y) next.ahead_is ∙ sym (append_assoc is.w (unit x ∷ []) next.more) in
          record {
            kind = is.kind;
            passed = is.passed;
            w = is.w ++ unit x ∷ [];
            behind = behind;
            ahead = next.more;
            parts = is.parts ∙ ap (λ y. is.passed ++ y) whole;
            ring = front;
            walked = counts;
            stands = subst S (sym scans) on;
            gave = is.gave;
            counted = is.counted;
            left = λ d still. is.left d still ∙ ap (λ y. is.gave ++ leftmost_from width view.content (size width is.passed) (cond s.skips 1 0) s.after (y ++ d)) whole;
            most = λ m bound.
                omega (
                  arith,
                  is.most m bound,
                  most,
                  ap {B = ℕ} (λ b. length (passed_over b is.ahead)) scans,
                  ap {B = ℕ} (λ b. length (passed_over b next.more)) scans,
                  length-append is.w (unit x ∷ []),
                );
            least = λ d still.
                (let u : ℕ = unit x in let read : List ℕ = is.passed ++ is.w in
                let text : s.seen.since ++ d ≡ read ++ u ∷ (next.more ++ d) = ap (λ y. y ++ d) parts_next ∙ simp append_assoc in
                let none : (ahead : List ℕ) → passed_over s.skips ahead ≡ [] = λ ahead. ap (λ b. passed_over b ahead) scans in
                let before : is.passed ++ (is.w ++ passed_over s.skips (is.ahead ++ d)) ≡ read =
                ap (λ y. is.passed ++ (is.w ++ y)) (none (is.ahead ++ d)) ∙ ap (λ y. is.passed ++ y) (append-nil is.w) in
                let after : read ++ u ∷ [] ≡ is.passed ++ ((is.w ++ u ∷ []) ++ passed_over s.skips (next.more ++ d)) =
                append_assoc is.passed is.w (u ∷ [])
                ∙ ap (λ y. is.passed ++ y) (sym (append-nil (is.w ++ u ∷ [])) ∙ ap (λ y. (is.w ++ u ∷ []) ++ y) (sym (none (next.more ++ d)))) in
                looks-as view (sym text) after
                (looks-more view read u (next.more ++ d) s.turns turns least (looks-as view text before (is.least d still))));
            room = subst C (sym capacity) is.room;
            fits = is.fits;
          }
