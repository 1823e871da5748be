-- Units of a block in which no key begins: the first of them count as read, and the last are left to read.
use Rattle.std.proofs.Common.{◌≡◌, ℕ, ◌+◌, ◌-◌, ◌*◌, ◌^◌, ◌<◌, ◌≤◌, inl, inr, Bool, true, false, cond, List, [], ◌∷◌, ◌++◌, length, map, Option, None, refl, sym, ap, ◌∙◌, subst, append_assoc, append-nil, length-append, add-zero, arith}
use Rattle.std.specs.VecDeque.{deque_capacity}
use Rattle.std.specs.declared.collections.VecDeque.{VecDeque}
use Rattle.std.proofs.lemmas.List.{map-append, nil_from_length}
use Rattle.daachorse_core.specs.Seen.{SeenUnits}
use Rattle.daachorse_model.specs.Units.{size}
use Rattle.daachorse_model.specs.Prefixes.{Occurs}
use Rattle.daachorse_model.specs.Best.{IsBestSoFar, IsSteady, NoneStarts}
use Rattle.daachorse_model.specs.Leftmost.{leftmost, leftmost_from}
use Rattle.daachorse_model.proofs.BestLaws.{IsSteady-nil}
use Rattle.daachorse_model.proofs.BestMatches.{leftmost_from-clear, leftmost_from-none}
use Rattle.daachorse_model.proofs.Lists.{nil_of}
use Rattle.daachorse_model.proofs.Occurrences.{occurs_more, split_after}
use Rattle.daachorse_model.proofs.Suffixes.{le_or_lt, size-append, size-push}
use Rattle.daachorse_search.specs.Views.{AutomatonView}
use Rattle.daachorse_search.proofs.BestScanLaws.{none_starts}
use Rattle.daachorse_search.proofs.LeftmostLaws.{nil_from_size}
use Rattle.daachorse_streams.specs.declared.scan.Pending.{Pending}
use Rattle.daachorse_streams.specs.declared.scan.Scan.{Scan}
use Rattle.daachorse_streams.specs.declared.search.Search.{Search}
use Rattle.daachorse_streams.specs.Scans.{IsPendingSoFar, IsScan}
use Rattle.daachorse_streams.specs.Searching.{IsAtRoot, IsSearching, Keeps, PassesOver, Stands, TakesFront, given_of, passed_over}
use Rattle.daachorse_streams.specs.Streamed.{IsRoomFor}
use Rattle.daachorse_streams.proofs.LeastLaws.{looks-as, looks-over}
use Rattle.daachorse_streams.proofs.LeftmostCertain.{size_shorter}
use Rattle.daachorse_streams.proofs.SearchingLaws.{depth_at_first, given_is}
use Rattle.daachorse_streams.proofs.StreamLaws.{none_ahead, room_enough}

-- of the units in `front`, which come before `back`, those in `done` were taken off a block, and the others, with so many bytes, are the first of what is left
pub record IsTaken (width : ℕ → ℕ) (front back left : List ℕ) (bytes : ℕ) (done : List ℕ) : Type 0 where
  pub todo : List ℕ
  pub parts : front ≡ done ++ todo
  pub first : left ≡ todo ++ back
  pub spans : bytes ≡ size width todo

-- one more unit is taken
pub record TakesOne (width : ℕ → ℕ) (front back left : List ℕ) (bytes : ℕ) (done todo : List ℕ) (u : ℕ) : Type 0 where
  pub next : IsTaken width front back left bytes (done ++ u ∷ [])
  pub was : todo ≡ u ∷ next.todo

module _ {width : ℕ → ℕ} {front back left done : List ℕ} {bytes : ℕ} (taken : IsTaken width front back left bytes done) where
  pub takes-one : 0 < bytes → (u n : ℕ) (next : List ℕ) → n ≡ width u → left ≡ u ∷ next → (n ≤ bytes) × TakesOne width front back next (bytes - n) done taken.todo u
  takes-one some u n next wide is = by taken.todo refl
    where
      by : (x : List ℕ) → taken.todo ≡ x → (n ≤ bytes) × TakesOne width front back next (bytes - n) done taken.todo u
      by [] e = absurd (omega (arith, some, taken.spans, ap (size width) e))
      by (v ∷ x) e =
          let both : v ∷ (x ++ back) ≡ u ∷ next = ap (λ y. y ++ back) (sym e) ∙ sym taken.first ∙ is in
          let here : v ≡ u = cc in
          let was : taken.todo ≡ u ∷ x = e ∙ ap (λ n. n ∷ x) here in (
            omega (arith, wide, taken.spans, ap (size width) was),
            record {
              next = record {
                todo = x;
                parts = taken.parts ∙ ap (λ y. done ++ y) was ∙ sym (append_assoc done (u ∷ []) x);
                first = cc;
                spans = omega (arith, wide, taken.spans, ap (size width) was);
              };
              was = was;
            },
          )

  -- where bytes are left to take, so are units
  pub takes-none : 0 < bytes → left ≡ [] → ⊥
  takes-none some none = by taken.todo refl
    where
      by : (x : List ℕ) → taken.todo ≡ x → ⊥
      by [] e = omega (arith, some, taken.spans, ap (size width) e)
      by (v ∷ x) e = let bad : v ∷ (x ++ back) ≡ [] = ap (λ y. y ++ back) (sym e) ∙ sym taken.first ∙ none in cc

  -- where none are left to take, all were taken
  pub takes-all : ((u : ℕ) → 1 ≤ width u) → bytes ≡ 0 → front ≡ done
  takes-all wide over = taken.parts ∙ ap (λ y. done ++ y) (nil_from_size width wide taken.todo (sym taken.spans ∙ over)) ∙ append-nil done

module _ {U ALLOC : Type 0} {s : Search U ALLOC} where
  pub keeps-none : (unit : U → ℕ) → Keeps unit s [] s
  keeps-none unit = record { ring = sym (append-nil (map unit s.ring.items)); capacity = refl; read = sym (append-nil s.seen.since); given = refl; same = refl }

  -- one more unit is kept
  pub keeps-more : {unit : U → ℕ} {done : List ℕ} {t : Search U ALLOC} → Keeps unit s done t → (x : U) (ring : VecDeque U ALLOC) → ring.items ≡ t.ring.items ++ x ∷ [] → deque_capacity ring ≡ deque_capacity t.ring
      → (seen : SeenUnits) → seen.since ≡ t.seen.since ++ unit x ∷ [] → seen.given ≡ t.seen.given → Keeps unit s (done ++ unit x ∷ []) (record t { ring = ring; seen = seen })
  keeps-more {unit} {done} {t} keeps x ring items capacity seen read given = record {
    ring = ap (map unit) items ∙ map-append unit t.ring.items (x ∷ []) ∙ ap (λ y. y ++ unit x ∷ []) keeps.ring ∙ append_assoc (map unit s.ring.items) done (unit x ∷ []);
    capacity = capacity ∙ keeps.capacity;
    read = read ∙ ap (λ y. y ++ unit x ∷ []) keeps.read ∙ append_assoc s.seen.since done (unit x ∷ []);
    given = given ∙ keeps.given;
    same = ap (λ (y : Search U ALLOC). record y { ring = ring; seen = seen }) keeps.same;
  }

  pub passes-none : (width : ℕ → ℕ) (tail : List ℕ) → PassesOver width s [] tail s
  passes-none width tail = record {
    far = λ a u b cut. absurd (omega (arith, ap length cut, length-append a (u ∷ b)));
    read = sym (append-nil s.seen.since);
    given = refl;
    same = ap (λ n. record s { scan = record s.scan { place = n } }) (sym (add-zero s.scan.place));
  }

  -- one more unit is passed over, from which there are still enough bytes
  pub passes-more : {width : ℕ → ℕ} {done todo : List ℕ} {t : Search U ALLOC} → PassesOver width s done todo t → (u : ℕ) (rest : List ℕ) → todo ≡ u ∷ rest → deque_capacity s.ring ≤ size width todo → (place : ℕ) → place ≡ t.scan.place + width u
      → (seen : SeenUnits) → seen.since ≡ t.seen.since ++ u ∷ [] → seen.given ≡ t.seen.given → PassesOver width s (done ++ u ∷ []) rest (record t { scan = record t.scan { place = place }; seen = seen })
  passes-more {width} {done} {todo} {t} passes u rest first enough place moved seen read given = record {
    far = λ a v b cut.
        (let r = split_after a (v ∷ b) done (u ∷ []) (sym cut) (omega (arith, ap length cut, length-append done (u ∷ []), length-append a (v ∷ b))) in
        omega (arith, enough, ap (size width) first, ap (λ y. size width (y ++ rest)) r.2, ap (size width) (append_assoc r.0 (u ∷ []) rest), size-append width r.0 (u ∷ rest)));
    read = read ∙ ap (λ y. y ++ u ∷ []) passes.read ∙ append_assoc s.seen.since done (u ∷ []);
    given = given ∙ passes.given;
    same =
        ap (λ (y : Search U ALLOC). record y { scan = record y.scan { place = place }; seen = seen }) passes.same
        ∙ ap (λ n. record s { scan = record s.scan { place = n }; seen = seen }) (omega (arith, moved, ap (λ (y : Search U ALLOC). y.scan.place) passes.same, size-push width done u));
  }

-- the search goes on behind the units in `front`, and no match was given
pub record GoesOn {V U ALLOC : Type 0} (width : ℕ → ℕ) (view : AutomatonView V) (unit : U → ℕ) (s : Search U ALLOC) (front : List ℕ) (t : Search U ALLOC) : Type 0 where
  pub searches : IsSearching width view unit t
  pub given : given_of width view.content t ≡ given_of width view.content s
  pub read : t.seen.since ≡ s.seen.since ++ front
  pub ended : t.ended ≡ s.ended
  pub turns : t.turns ≡ s.turns

module _ {V : Type 0} (width : ℕ → ℕ) (wide : (u : ℕ) → 1 ≤ width u) (view : AutomatonView V) {U ALLOC : Type 0} (unit : U → ℕ) {s : Search U ALLOC} (is : IsSearching width view unit s) where
  -- a search that passes over no unit scans
  pub scans : s.skips ≡ false → IsScan width view (size width is.passed) is.w s.scan is.behind
  scans scanning = let S : Bool → Type 0 = λ b. Stands width view b (size width is.passed) is.w s.scan is.behind in subst S scanning is.stands

  module _ (root : IsAtRoot view s) where
    abbrev from : ℕ
    from = size width is.passed

    nothing_pending : IsBestSoFar view.content is.w None × (s.scan.decided ≡ false) × (is.behind ≡ [])
    nothing_pending = let P : Option Pending → Type 0 = λ o. IsPendingSoFar width view from is.w (view.text s.scan.state) o s.scan.decided is.behind in subst P root.1 (scans root.0).pending

    -- no key begins in what the scan read, whatever follows
    none_begun : (d : List ℕ) → NoneStarts view.content (length is.w) (is.w ++ d)
    none_begun d = let P : List ℕ → Type 0 = λ x. IsSteady view.content is.w x in none_starts view.content is.w d (subst P root.2 ((scans root.0).steady nothing_pending.1)) nothing_pending.0

    none_empty : view.content [] ≡ []
    none_empty = nil_of (view.content []) (λ key. nothing_pending.0 [] [] is.w (record { parts = refl; key = key }))

    module _ (all : s.walked ≡ length s.ring.items) where
      -- nothing is left in the ring
      pub none_kept : map unit s.ring.items ≡ []
      none_kept = is.ring ∙ ap (λ y. y ++ is.ahead) nothing_pending.2 ∙ none_ahead width wide view unit is all

      module _ (open_yet : s.ended ≡ false) (front back : List ℕ) (none : NoneStarts view.content (length front) (front ++ back)) where
        -- what is left behind what the scan read
        left_behind : (d : List ℕ) → leftmost width view.content (s.seen.since ++ d) ≡ is.gave ++ leftmost_from width view.content (from + size width is.w) 0 s.after d
        left_behind d =
            is.left d (λ over. absurd (let bad : true ≡ false = sym over ∙ open_yet in cc))
            ∙ ap (λ b. is.gave ++ leftmost_from width view.content from (cond b 1 0) s.after ((is.w ++ is.ahead) ++ d)) root.0
            ∙ ap (λ y. is.gave ++ leftmost_from width view.content from 0 s.after (y ++ d)) (ap (λ y. is.w ++ y) (none_ahead width wide view unit is all) ∙ append-nil is.w)
            ∙ ap (λ l. is.gave ++ l) (leftmost_from-clear width view.content from s.after is.w d (none_begun d))

        -- all matches of what was read and `front` were given
        pub front_clear : leftmost width view.content (s.seen.since ++ front) ≡ given_of width view.content s
        front_clear =
            left_behind front
            ∙ ap (λ y. is.gave ++ leftmost_from width view.content (from + size width is.w) 0 s.after y) (sym (append-nil front))
            ∙ ap (λ l. is.gave ++ l) (leftmost_from-clear width view.content (from + size width is.w) s.after front [] alone)
            ∙ ap (λ l. is.gave ++ l) (leftmost_from-none width view.content ((from + size width is.w) + size width front) s.after none_empty)
            ∙ append-nil is.gave
            ∙ sym (given_is width view unit is)
          where
            alone : NoneStarts view.content (length front) (front ++ [])
            alone a k b o = let O : List ℕ → Type 0 = λ x. Occurs view.content x a k b in none a k (b ++ back) (occurs_more view.content front a k b back (subst O (append-nil front) o))

        -- no key begins in what is passed over, whatever follows the tail
        none_far : {over tail : List ℕ} {t : Search U ALLOC} → front ≡ over ++ tail → PassesOver width s over tail t → (d : List ℕ) → NoneStarts view.content (length over) (over ++ (tail ++ d))
        none_far {over} {tail} parts passes d a k b o = elim (le_or_lt (length over) (length a)) [
          | inl behind ↦ behind
          | inr before ↦
              let r = split_after a (k ++ b) over (tail ++ d) (sym o.parts) (omega (arith, before)) in
              absurd (inside r.0 r.1 r.2 before)
        ]
          where
            inside : (r : List ℕ) → over ≡ a ++ r → k ++ b ≡ r ++ (tail ++ d) → length a < length over → ⊥
            inside [] cut rest before = omega (arith, before, ap length cut, length-append a [])
            inside (u ∷ r) cut rest before =
                let enough = passes.far a u r cut in
                let text : ((u ∷ r) ++ tail) ++ d ≡ k ++ b = append_assoc (u ∷ r) tail d ∙ sym rest in
                elim (le_or_lt (length k) (length ((u ∷ r) ++ tail))) [
                  | inr longer ↦
                      omega (arith, enough, room_enough is.room k o.key, size_shorter width wide ((u ∷ r) ++ tail) d k b text longer)
                  | inl fits ↦
                      let q = split_after k b ((u ∷ r) ++ tail) d (sym text) fits in
                      let whole : front ≡ a ++ (k ++ q.0) = parts ∙ ap (λ y. y ++ tail) cut ∙ append_assoc a (u ∷ r) tail ∙ ap (λ y. a ++ y) q.1 in
                      omega (
                        arith,
                        before,
                        ap length parts,
                        length-append over tail,
                        none a k (q.0 ++ back) (occurs_more view.content front a k q.0 back (record { parts = whole; key = o.key })),
                      )
                ]

        pub goes_on : {t : Search U ALLOC} → TakesFront width unit s front t → size width s.seen.since + size width front < 2 ^ 64 → GoesOn width view unit s front t
        goes_on {t} takes fits = record {
          searches = subst (IsSearching width view unit) (sym shape) searches;
          given = ap (given_of width view.content) shape ∙ given_is width view unit searches ∙ sym (given_is width view unit is);
          read = read;
          ended = ap (λ (x : Search U ALLOC). x.ended) shape;
          turns = ap (λ (x : Search U ALLOC). x.turns) shape;
        }
          where
            over : List ℕ
            over = takes.over

            tail : List ℕ
            tail = takes.tail

            scan : Scan
            scan = record s.scan { place = s.scan.place + size width over }

            shape : t ≡ record { ring = t.ring; walked = s.walked; scan = scan; skips = s.skips; after = s.after; ended = s.ended; turns = s.turns; seen = t.seen }
            shape = takes.keeps.same ∙ ap (λ (x : Search U ALLOC). record x { ring = t.ring; seen = t.seen }) takes.passes.same

            read : t.seen.since ≡ s.seen.since ++ front
            read = takes.keeps.read ∙ ap (λ y. y ++ tail) takes.passes.read ∙ append_assoc s.seen.since over tail ∙ ap (λ y. s.seen.since ++ y) (sym takes.parts)

            counts : t.seen.given ≡ s.seen.given
            counts = takes.keeps.given ∙ takes.passes.given

            capacity : deque_capacity t.ring ≡ deque_capacity s.ring
            capacity = takes.keeps.capacity ∙ ap (λ (x : Search U ALLOC). deque_capacity x.ring) takes.passes.same

            gone : List ℕ
            gone = is.passed ++ (is.w ++ over)

            gone_size : size width gone ≡ (from + size width is.w) + size width over
            gone_size = omega (arith, size-append width is.passed (is.w ++ over), size-append width is.w over)

            begins : IsScan width view (size width gone) [] scan []
            begins =
                let S : List ℕ → Type 0 = λ x. IsSteady view.content [] x in
                let O : Option Pending → Type 0 = λ o. IsPendingSoFar width view (size width gone) [] (view.text s.scan.state) o s.scan.decided [] in
                record {
                  reached = (scans root.0).reached;
                  place = omega (arith, (scans root.0).place, gone_size);
                  steady = λ _. subst S (sym root.2) (IsSteady-nil view.content);
                  pending = subst O (sym root.1) (λ a k b o. nothing_pending.0 [] [] is.w (record { parts = refl; key = λ e. o.key (empty_key a k b o.parts e) }), nothing_pending.1, refl);
                }
              where
                empty_key : (a k b : List ℕ) → [] ≡ a ++ (k ++ b) → view.content [] ≡ [] → view.content k ≡ []
                empty_key a k b cut none_here = ap view.content (nil_from_length k (omega (arith, ap length cut, length-append a (k ++ b), length-append k b))) ∙ none_here

            searches : IsSearching width view unit (record { ring = t.ring; walked = s.walked; scan = scan; skips = s.skips; after = s.after; ended = s.ended; turns = s.turns; seen = t.seen })
            searches =
                let C : ℕ → Type 0 = λ n. IsRoomFor width view.content n in
                let S : Bool → Type 0 = λ b. Stands width view b (size width gone) [] scan [] in
                record {
                  kind = is.kind;
                  passed = gone;
                  w = [];
                  behind = [];
                  ahead = tail;
                  parts = read ∙ ap (λ y. y ++ front) (is.parts ∙ ap (λ y. is.passed ++ (is.w ++ y)) (none_ahead width wide view unit is all)) ∙ ap (λ y. (is.passed ++ (is.w ++ [])) ++ y) takes.parts ∙ simp (append_assoc, append-nil);
                  ring = takes.keeps.ring ∙ ap (λ (x : Search U ALLOC). map unit x.ring.items ++ tail) takes.passes.same ∙ ap (λ y. y ++ tail) none_kept;
                  walked = is.walked ∙ ap length nothing_pending.2;
                  stands = subst S (sym root.0) begins;
                  gave = is.gave;
                  counted = is.counted ∙ sym counts;
                  left = λ d still.
                      ap (λ y. leftmost width view.content (y ++ d)) read
                      ∙ ap (leftmost width view.content) (append_assoc s.seen.since front d ∙ ap (λ y. s.seen.since ++ (y ++ d)) takes.parts ∙ ap (λ y. s.seen.since ++ y) (append_assoc over tail d))
                      ∙ left_behind (over ++ (tail ++ d))
                      ∙ ap (λ l. is.gave ++ l) (leftmost_from-clear width view.content (from + size width is.w) s.after over (tail ++ d) (none_far takes.parts takes.passes d))
                      ∙ ap (λ n. is.gave ++ leftmost_from width view.content n 0 s.after (tail ++ d)) (sym gone_size)
                      ∙ ap (λ b. is.gave ++ leftmost_from width view.content (size width gone) (cond b 1 0) s.after (tail ++ d)) (sym root.0);
                  most = λ m bound.
                      omega (
                        arith,
                        is.most m bound,
                        depth_at_first width view (size width gone) scan [] begins,
                        length-append is.passed (is.w ++ over),
                        length-append is.w over,
                        ap {B = ℕ} (λ b. length (passed_over b is.ahead)) root.0,
                        ap (λ k. m * k) counts,
                      );
                  least = λ d still.
                      (let none : (ahead : List ℕ) → passed_over s.skips ahead ≡ [] = λ ahead. ap (λ b. passed_over b ahead) root.0 in
                      let d0 : List ℕ = over ++ (tail ++ d) in let begun : List ℕ = is.passed ++ is.w in
                      let before : s.seen.since ≡ begun =
                      is.parts
                      ∙ ap (λ y. is.passed ++ (is.w ++ y)) (none_ahead width wide view unit is all)
                      ∙ ap (λ y. is.passed ++ y) (append-nil is.w) in
                      let text : begun ++ d0 ≡ t.seen.since ++ d =
                      sym (ap (λ y. y ++ d) (read ∙ ap (λ y. y ++ front) before ∙ ap (λ y. begun ++ y) takes.parts) ∙ simp append_assoc) in
                      let was =
                      looks-as view (ap (λ y. y ++ d0) before)
                      (ap (λ y. is.passed ++ (is.w ++ y)) (none (is.ahead ++ d0)) ∙ ap (λ y. is.passed ++ y) (append-nil is.w))
                      (is.least d0 (λ ended. absurd (let bad : true ≡ false = sym ended ∙ open_yet in cc))) in
                      looks-as view text
                      (append_assoc is.passed is.w over ∙ sym (append-nil gone) ∙ ap (λ y. gone ++ y) (sym (none (tail ++ d))))
                      (looks-over view begun over (tail ++ d) s.turns (none_far takes.parts takes.passes d) was));
                  room = subst C (sym capacity) is.room;
                  fits = omega (arith, fits, ap (size width) read, size-append width s.seen.since front);
                }
