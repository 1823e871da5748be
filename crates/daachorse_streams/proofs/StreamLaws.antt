-- A stream's search: where it begins, when it has room for a unit, what is certain, and its turns.
use Rattle.std.proofs.Common.{
  ◌≡◌,
  ℕ,
  ◌+◌,
  ◌*◌,
  ◌^◌,
  ◌<◌,
  ◌≤◌,
  ◌⊎◌,
  inl,
  inr,
  Bool,
  true,
  false,
  cond,
  List,
  [],
  ◌∷◌,
  ◌++◌,
  length,
  map,
  drop,
  Option,
  Some,
  None,
  refl,
  sym,
  ap,
  ◌∙◌,
  subst,
  append_assoc,
  append-nil,
  length-append,
  arith,
}
use Rattle.std.specs.VecDeque.{deque_capacity}
use Rattle.std.specs.declared.collections.VecDeque.{VecDeque}
use Rattle.std.proofs.lemmas.Bool.{le-ltb, ltb-false}
use Rattle.std.proofs.lemmas.List.{drop-map, drop_at, length-map, map-append, nil_from_length}
use Rattle.daachorse_core.specs.Seen.{SeenUnits, unread}
use Rattle.daachorse_model.specs.declared.Match.{Match}
use Rattle.daachorse_model.specs.Units.{size}
use Rattle.daachorse_model.specs.Best.{IsSteady}
use Rattle.daachorse_model.specs.Dictionary.{Dictionary}
use Rattle.daachorse_model.specs.Certain.{AreCertain, BeginEach}
use Rattle.daachorse_model.specs.Leftmost.{leftmost, leftmost_from}
use Rattle.daachorse_model.proofs.Links.{none_before}
use Rattle.daachorse_model.proofs.Occurrences.{occurs_length}
use Rattle.daachorse_model.proofs.Suffixes.{size-append, size-push}
use Rattle.daachorse_streams.specs.Streams.{HasNoLonger}
use Rattle.daachorse_search.specs.BestScans.{HasNoLongerKey}
use Rattle.daachorse_search.specs.Views.{AutomatonView, IsLeftmostView}
use Rattle.daachorse_streams.specs.declared.scan.Pending.{Pending}
use Rattle.daachorse_streams.specs.declared.scan.Scan.{Scan}
use Rattle.daachorse_streams.specs.declared.search.Search.{Search}
use Rattle.daachorse_model.specs.Prefixes.{HasChild}
use Rattle.daachorse_streams.specs.Scans.{IsPending, IsPendingSoFar, IsScan}
use Rattle.daachorse_streams.specs.Searching.{IsSearching, Stands, given_of, passed_over, waits}
use Rattle.daachorse_streams.specs.Streamed.{IsRoomFor, LooksAtKeys}
use Rattle.daachorse_streams.proofs.GivingLaws.{now}
use Rattle.daachorse_streams.proofs.LeastLaws.{looks-as}
use Rattle.daachorse_streams.proofs.LeftmostCertain.{begins_both, gives_none, goes_apart, length_size}
use Rattle.daachorse_streams.proofs.SearchingLaws.{depth_at_first, given_is, place_is, walked_within}

over_more : (b : Bool) (ahead : List ℕ) (u : ℕ) → length (passed_over b ahead) ≤ length (passed_over b (ahead ++ u ∷ []))
over_more false ahead u = omega arith
over_more true [] u = omega arith
over_more true (x ∷ ahead) u = omega arith

over_none : (b : Bool) → passed_over b [] ≡ []
over_none true = refl
over_none false = refl

over_few : (b : Bool) (ahead : List ℕ) → length (passed_over b ahead) ≤ length ahead
over_few false ahead = omega arith
over_few true [] = omega arith
over_few true (x ∷ ahead) = omega arith

module _ {V : Type 0} {width : ℕ → ℕ} {K : Dictionary V} {room : ℕ} (is : IsRoomFor width K room) where
  pub room_some : 0 < room
  room_some = omega (arith, is.2)

  -- no key takes more bytes than there is room for units
  pub room_enough : HasNoLonger width K room
  room_enough w key = omega (arith, is.1.none_longer w key, is.2)

module _ (width : ℕ → ℕ) (wide : (u : ℕ) → 1 ≤ width u) where
  -- a key has at most as many units as bytes
  pub units_within : {V : Type 0} {K : Dictionary V} {longest : ℕ} → HasNoLonger width K longest → HasNoLongerKey K longest
  units_within none w key = omega (arith, none w key, length_size width wide w)

module _ {V : Type 0} (width : ℕ → ℕ) (wide : (u : ℕ) → 1 ≤ width u) (view : AutomatonView V) {U ALLOC : Type 0} (unit : U → ℕ) where
  -- nothing was read yet
  pub begun : IsLeftmostView view → (ring : VecDeque U ALLOC) → ring.items ≡ [] → IsRoomFor width view.content (deque_capacity ring)
      → (scan : Scan) → IsScan width view 0 [] scan [] → (turns : ℕ) → turns ≡ 0 → (seen : SeenUnits) → seen ≡ unread
      → IsSearching width view unit
      (record { ring = ring; walked = 0; scan = scan; skips = false; after = false; ended = false; turns = turns; seen = seen })
  begun kind ring none room scan begins turns no_turns seen nothing =
      let read : seen.since ≡ [] = ap (λ (x : SeenUnits). x.since) nothing in
      record {
        kind = kind;
        passed = [];
        w = [];
        behind = [];
        ahead = [];
        parts = read;
        ring = ap (map unit) none;
        walked = refl;
        stands = begins;
        gave = [];
        counted = ap (λ (x : SeenUnits). x.given) (sym nothing);
        left = λ d still. ap (λ y. leftmost width view.content (y ++ d)) read;
        most = λ m bound. omega (arith, no_turns, depth_at_first width view 0 scan [] begins);
        least = λ d still test tells. omega arith;
        room = room;
        fits = omega (arith, ap (size width) read);
      }

  module _ {s : Search U ALLOC} (is : IsSearching width view unit s) where
    abbrev from : ℕ
    from = size width is.passed

    pub none_ahead : s.walked ≡ length s.ring.items → is.ahead ≡ []
    none_ahead all =
        nil_from_length is.ahead (omega
        (arith, all, is.walked, ap length is.ring, length-map s.ring.items unit, length-append is.behind is.ahead))

    -- where nothing waits, all units were read and nothing is decided
    pub none_waits : waits s.scan.decided s.walked (length s.ring.items) ≡ false
        → (s.scan.decided ≡ false) × (s.walked ≡ length s.ring.items)
    none_waits quiet = by s.scan.decided refl quiet
      where
        by : (d : Bool) → s.scan.decided ≡ d → waits d s.walked (length s.ring.items) ≡ false
            → (s.scan.decided ≡ false) × (s.walked ≡ length s.ring.items)
        by true e quiet = cc
        by false e quiet = (e, omega (arith, ltb-false s.walked (length s.ring.items) quiet, walked_within width view unit is))

    -- the units that are left come behind the scan's place
    pub place_before : s.scan.place + size width (map unit (drop s.walked s.ring.items)) ≡ size width s.seen.since
    place_before =
        let left : map unit (drop s.walked s.ring.items) ≡ is.ahead =
        sym (drop-map unit s.walked s.ring.items) ∙ ap (drop s.walked) is.ring ∙ drop_at is.behind is.ahead s.walked (sym is.walked) in
        omega (
          arith,
          place_is width view unit is,
          ap (size width) left,
          ap (size width) is.parts,
          size-append width is.passed (is.w ++ is.ahead),
          size-append width is.w is.ahead,
        )

    -- where all units were read and none is decided, there is room for one more
    pub has_room : s.scan.decided ≡ false → s.walked ≡ length s.ring.items → length s.ring.items < deque_capacity s.ring
    has_room open_yet all = omega (arith, all, is.walked, by s.skips is.stands)
      where
        some_behind : (t : List ℕ) (at : Pending) → IsSteady view.content is.w t → IsPending width view from is.w t at false is.behind
            → length is.behind < deque_capacity s.ring
        some_behind t at steady pending = short (pending.child refl)
          where
            near : length is.behind ≤ length t
            near = omega (
              arith,
              none_before view.content is.w t steady.none pending.front pending.key pending.best.rest pending.best.occurs,
              occurs_length view.content is.w pending.front pending.key pending.best.rest pending.best.occurs,
              ap length pending.rest,
            )

            short : HasChild view.content t → length is.behind < deque_capacity s.ring
            short (u, inl empty) = absurd (omega (arith, ap length empty, length-append t (u ∷ [])))
            short (u, inr (x, key)) = omega (
              arith,
              near,
              units_within width wide (room_enough is.room) ((t ++ u ∷ []) ++ x) key,
              length-append (t ++ u ∷ []) x,
              length-append t (u ∷ []),
            )

        best_behind : (best : Option Pending) → IsSteady view.content is.w (view.text s.scan.state)
            → IsPendingSoFar width view from is.w (view.text s.scan.state) best false is.behind → length is.behind < deque_capacity s.ring
        best_behind None steady pending = omega (arith, room_some is.room, ap length pending.2)
        best_behind (Some at) steady pending = some_behind (view.text s.scan.state) at steady pending

        by : (b : Bool) → Stands width view b from is.w s.scan is.behind → length is.behind < deque_capacity s.ring
        by true idle = omega (arith, room_some is.room, ap length idle.none_behind)
        by false scan =
            let P : Bool → Type 0 = λ d. IsPendingSoFar width view from is.w (view.text s.scan.state) s.scan.best d is.behind in
            best_behind s.scan.best (scan.steady open_yet) (subst P open_yet scan.pending)

    -- one more unit is there to read
    pub pushed : s.ended ≡ false → (x : U) → size width s.seen.since + width (unit x) < 2 ^ 64 → (ring : VecDeque U ALLOC)
        → ring.items ≡ s.ring.items ++ x ∷ [] → deque_capacity ring ≡ deque_capacity s.ring
        → (seen : SeenUnits) → seen.since ≡ s.seen.since ++ unit x ∷ [] → seen.given ≡ s.seen.given
        → let new : Search U ALLOC =
        record {
          ring = ring;
          walked = s.walked;
          scan = s.scan;
          skips = s.skips;
          after = s.after;
          ended = s.ended;
          turns = s.turns;
          seen = seen;
        } in
        IsSearching width view unit new × (given_of width view.content new ≡ given_of width view.content s)
    pushed open_yet x fits ring items capacity seen read counts =
        (searches, given_is width view unit searches ∙ sym (given_is width view unit is))
      where
        searches : IsSearching width view unit
            (record {
              ring = ring;
              walked = s.walked;
              scan = s.scan;
              skips = s.skips;
              after = s.after;
              ended = s.ended;
              turns = s.turns;
              seen = seen;
            })
        searches =
            let u : ℕ = unit x in
            let C : ℕ → Type 0 = λ n. IsRoomFor width view.content n in
            record {
              kind = is.kind;
              passed = is.passed;
              w = is.w;
              behind = is.behind;
              ahead = is.ahead ++ u ∷ [];
              parts = read ∙ ap (λ y. y ++ u ∷ []) is.parts ∙ simp append_assoc;
              ring = ap (map unit) items ∙ map-append unit s.ring.items (x ∷ []) ∙ ap (λ y. y ++ u ∷ []) is.ring
                  ∙ append_assoc is.behind is.ahead (u ∷ []);
              walked = is.walked;
              stands = is.stands;
              gave = is.gave;
              counted = is.counted ∙ sym counts;
              left = λ d still.
                  ap (λ y. leftmost width view.content (y ++ d)) read
                  ∙ ap (leftmost width view.content) (append_assoc s.seen.since (u ∷ []) d)
                  ∙ is.left (u ∷ d) (λ over. absurd (let bad : true ≡ false = sym over ∙ open_yet in cc))
                  ∙ ap (λ y. is.gave ++ leftmost_from width view.content from (cond s.skips 1 0) s.after y)
                  (sym (append_assoc (is.w ++ is.ahead) (u ∷ []) d) ∙ ap (λ y. y ++ d) (append_assoc is.w is.ahead (u ∷ [])));
              most = λ m bound. omega (arith, is.most m bound, over_more s.skips is.ahead u, ap (λ k. m * k) counts);
              least = λ d still.
                  looks-as view (sym (ap (λ y. y ++ d) read ∙ append_assoc s.seen.since (u ∷ []) d))
                  (ap (λ y. is.passed ++ (is.w ++ passed_over s.skips y)) (sym (append_assoc is.ahead (u ∷ []) d)))
                  (is.least (u ∷ d) (λ over. absurd (let bad : true ≡ false = sym over ∙ open_yet in cc)));
              room = subst C (sym capacity) is.room;
              fits = omega (arith, fits, ap (size width) read, size-push width s.seen.since u);
            }

    -- no more units come
    pub ended : IsSearching width view unit
        (record {
          ring = s.ring;
          walked = s.walked;
          scan = s.scan;
          skips = s.skips;
          after = s.after;
          ended = true;
          turns = s.turns;
          seen = s.seen;
        })
    ended = record {
      kind = is.kind;
      passed = is.passed;
      w = is.w;
      behind = is.behind;
      ahead = is.ahead;
      parts = is.parts;
      ring = is.ring;
      walked = is.walked;
      stands = is.stands;
      gave = is.gave;
      counted = is.counted;
      left = λ d still. is.left d (λ _. still refl);
      most = is.most;
      least = λ d still. is.least d (λ _. still refl);
      room = is.room;
      fits = is.fits;
    }

    -- without a best nothing is decided
    pub undecided : (s.scan.best ≡ None) ⊎ ((s.scan.decided ≡ false) × (s.ended ≡ false)) → s.scan.decided ≡ false
    undecided (inr parts) = parts.0
    undecided (inl none) = by s.skips is.stands
      where
        by : (b : Bool) → Stands width view b from is.w s.scan is.behind → s.scan.decided ≡ false
        by true idle = idle.open_yet
        by false scan =
            let P : Option Pending → Type 0 = λ o. IsPendingSoFar width view from is.w (view.text s.scan.state) o s.scan.decided
            is.behind in (subst P none scan.pending).1

    -- what was given begins the matches of each haystack that begins so
    pub begin_each : s.ended ≡ false → BeginEach width view.content s.seen.since (given_of width view.content s)
    begin_each open_yet d = (
      leftmost_from width view.content from (cond s.skips 1 0) s.after ((is.w ++ is.ahead) ++ d),
      is.left d (λ over. absurd (let bad : true ≡ false = sym over ∙ open_yet in cc))
          ∙ ap (λ y. y ++ leftmost_from width view.content from (cond s.skips 1 0) s.after ((is.w ++ is.ahead) ++ d))
          (sym (given_is width view unit is)),
    )

    -- and the matches of what was read
    pub first_given : (rest : List (Match V)) × (leftmost width view.content s.seen.since ≡ given_of width view.content s ++ rest)
    first_given = (
      leftmost_from width view.content from (cond s.skips 1 0) s.after ((is.w ++ is.ahead) ++ []),
      ap (leftmost width view.content) (sym (append-nil s.seen.since))
          ∙ is.left [] (λ _. refl)
          ∙ ap (λ y. y ++ leftmost_from width view.content from (cond s.skips 1 0) s.after ((is.w ++ is.ahead) ++ []))
          (sym (given_is width view unit is)),
    )

    module _ (all : s.walked ≡ length s.ring.items) where
      -- nothing waits where nothing is decided
      pub is_quiet : s.scan.decided ≡ false → waits s.scan.decided s.walked (length s.ring.items) ≡ false
      is_quiet open_yet =
          ap (λ b. waits b s.walked (length s.ring.items)) open_yet ∙ le-ltb s.walked (length s.ring.items) (omega (arith, all))

      -- without a best all matches were given
      none_left : s.scan.best ≡ None → leftmost width view.content s.seen.since ≡ is.gave
      none_left none =
          ap (leftmost width view.content) (sym (append-nil s.seen.since))
          ∙ is.left [] (λ _. refl)
          ∙ ap (λ y. is.gave ++ leftmost_from width view.content from (cond s.skips 1 0) s.after y)
          (append-nil (is.w ++ is.ahead) ∙ ap (λ y. is.w ++ y) (none_ahead all) ∙ append-nil is.w)
          ∙ ap (λ y. is.gave ++ y) (by s.skips is.stands)
          ∙ append-nil is.gave
        where
          by : (b : Bool) → Stands width view b from is.w s.scan is.behind
              → leftmost_from width view.content from (cond b 1 0) s.after is.w ≡ []
          by true idle = ap (λ y. leftmost_from width view.content from 1 s.after y) idle.none_read
          by false scan =
              let P : Option Pending
              → Type 0 = λ o. IsPendingSoFar width view from is.w (view.text s.scan.state) o s.scan.decided is.behind in
              gives_none width view.content from s.after is.w (subst P none scan.pending).0

      pub all_given : s.scan.best ≡ None → given_of width view.content s ≡ leftmost width view.content s.seen.since
      all_given none = given_is width view unit is ∙ sym (none_left none)

      -- no more matches are certain than were given
      no_more : s.scan.decided ≡ false → s.ended ≡ false → (ns : List (Match V)) → BeginEach width view.content s.seen.since ns
          → (rest : List (Match V)) × (is.gave ≡ ns ++ rest)
      no_more undecided open_yet ns each = by s.scan.best refl
        where
          whole : s.skips ≡ false → (d : List ℕ)
              → leftmost width view.content (s.seen.since ++ d) ≡ is.gave ++ leftmost_from width view.content from 0 s.after (is.w ++ d)
          whole scans d =
              is.left d (λ over. absurd (let bad : true ≡ false = sym over ∙ open_yet in cc))
              ∙ ap (λ b. is.gave ++ leftmost_from width view.content from (cond b 1 0) s.after ((is.w ++ is.ahead) ++ d)) scans
              ∙ ap (λ y. is.gave ++ leftmost_from width view.content from 0 s.after (y ++ d))
              (ap (λ y. is.w ++ y) (none_ahead all) ∙ append-nil is.w)

          by : (best : Option Pending) → s.scan.best ≡ best → (rest : List (Match V)) × (is.gave ≡ ns ++ rest)
          by None none =
              let first = each [] in (
                first.0,
                sym (none_left none) ∙ ap (leftmost width view.content) (sym (append-nil s.seen.since)) ∙ first.1,
              )
          by (Some at) some =
              let here = now width wide view unit is at some in
              let t = view.text s.scan.state in
              let S : Bool → Type 0 = λ b. Stands width view b from is.w s.scan is.behind in
              let scan : IsScan width view from is.w s.scan is.behind = subst S here.scans is.stands in
              let apart = goes_apart width wide view.content from s.after is.w t here.pending.front here.pending.key (scan.steady undecided)
              (here.pending.child undecided) here.pending.best in
              let first = each [] in let other = each apart.0 in
              begins_both is.gave ns first.0 other.0 (leftmost_from width view.content from 0 s.after is.w)
              (leftmost_from width view.content from 0 s.after (is.w ++ apart.0))
              (ap (λ y. is.gave ++ leftmost_from width view.content from 0 s.after y) (sym (append-nil is.w)) ∙ sym (whole here.scans [])
              ∙ first.1) (sym (whole here.scans apart.0) ∙ other.1) apart.1

      pub are_certain : s.scan.decided ≡ false → s.ended ≡ false
          → AreCertain width view.content s.seen.since (given_of width view.content s)
      are_certain undecided open_yet = (
        begin_each open_yet,
        λ ns each.
            (let more = no_more undecided open_yet ns each in (more.0, given_is width view unit is ∙ more.1)),
      )

    pub within : (m : ℕ) → HasNoLongerKey view.content m
        → s.turns ≤ 2 * length s.seen.since + 4 * (m * length (given_of width view.content s))
    within m bound =
        let count : length (given_of width view.content s) ≡ s.seen.given = ap length (given_is width view unit is) ∙ is.counted in
        omega (
          arith,
          is.most m bound,
          over_few s.skips is.ahead,
          ap (λ k. m * k) count,
          ap length is.parts,
          length-append is.passed (is.w ++ is.ahead),
          length-append is.w is.ahead,
        )

    -- where nothing waits, all units were looked at
    pub looks : waits s.scan.decided s.walked (length s.ring.items) ≡ false → LooksAtKeys view s.seen.since s.seen.since s.turns
    looks quiet =
        let none = none_ahead (none_waits quiet).1 in
        looks-as view (append-nil s.seen.since)
        (ap (λ y. is.passed ++ (is.w ++ passed_over s.skips (y ++ []))) none
        ∙ ap (λ y. is.passed ++ (is.w ++ y)) (over_none s.skips ∙ sym none) ∙ sym is.parts)
        (is.least [] (λ _. refl))
