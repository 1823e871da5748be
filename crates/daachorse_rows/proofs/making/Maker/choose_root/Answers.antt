-- The root alone has a row.
use Rattle.std.proofs.Common.{◌≡◌, ℕ, List, [], ◌∷◌, ◌++◌, ◌<◌, ◌≤◌, length, replicate, sym, ap, ◌∙◌, arith, length-append}
use Rattle.std.specs.Prelude.{slice_index, slice_set}
use Rattle.std.proofs.lemmas.List.{get_or-replicate, length-replicate}
use Rattle.daachorse_rows.specs.Rows.{AreChosen, AreLabelled, Labelled, labelled}
use Rattle.daachorse_rows.proofs.MakingLaws.{AreChosen-more, AreChosen-none, most_fits, read-new}
use Rattle.daachorse_rows.proofs.making.Maker.choose_root.Goals as goal

AreChosen-one : {V : Type 0} (seen : Labelled V) (none order homes : List ℕ) (count s : ℕ) → none ≡ [] → order ≡ none ++ s ∷ [] → homes ≡ replicate count 65535 → ((x : ℕ) → seen.view.reached x → x < count) → count ≤ 4294901760 → AreLabelled seen → seen.view.reached s
    → AreChosen seen order (slice_set homes s 0) × (length order ≡ 1) × (slice_index order 0 ≡ s)
AreChosen-one seen none order homes count s empty is same below small named there =
    let size : length homes ≡ count = ap length same ∙ length-replicate count 65535 in
    let no_homes : (x : ℕ) → x < length homes → slice_index homes x ≡ 65535 = λ x within. ap (λ l. slice_index l x) same ∙ get_or-replicate count x 65535 0 (omega (arith, within, size)) in
    let at_none : length none ≡ 0 = ap length empty in
    let room = most_fits seen named in
    let before : AreChosen seen none homes = AreChosen-none seen none homes empty no_homes room.1 (λ x here. (omega (arith, below x here, size), omega (arith, below x here, small))) in (
      AreChosen-more seen none homes before s order (slice_set homes s 0) is (ap (λ (n : ℕ). slice_set homes s n) (sym at_none)) (no_homes s (omega (arith, below s there, size))) (omega (arith, at_none, room.0)) there,
      omega (arith, ap length is, length-append none (s ∷ []), at_none),
      read-new none order s 0 is (sym at_none),
    )

pub returns : goal.returns
returns g c =
    let seen = labelled g.A.Automaton.sees g.A.Automaton.labels g.A.Label.RowLabel.number c.args.self.now in
    let one = AreChosen-one seen c.new-order.result.items c.push.new.self.items c.in_ok-homes.homes.items c.args.count c.root-root.result c.new-order.ensures.items c.in_ok-push.ensures.items (c.in_ok-homes.ensures.items_if_clones_equal (λ y same. same)) c.requires.count c.requires.fits
    (rw (← c.self.view_is) c.self.invariant) (rw (← c.self.view_is) c.root-root.ensures.reached) in
    (one.0, one.1, ap seen.view.text one.2 ∙ rw (← c.self.view_is) c.root-root.ensures.text)

pub index_mut-requires : goal.index_mut-requires
index_mut-requires g c = omega (arith, c.requires.count c.root-root.result (rw (← c.self.view_is) c.root-root.ensures.reached), c.in_ok-homes.ensures.len)

pub overflow_cast-root : goal.overflow_cast-root
overflow_cast-root g c = omega (arith, c.requires.count c.root-root.result (rw (← c.self.view_is) c.root-root.ensures.reached), c.requires.fits)
