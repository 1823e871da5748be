-- A state with a row has the row's cell, and any other that behind the slots.
use Rattle.std.proofs.Common.{◌≡◌, ◌<◌, ℕ, List, length, get_or, inl, refl, ap, ◌∙◌, arith}
use Rattle.std.specs.Prelude.{slice_index}
use Rattle.std.proofs.lemmas.Nat.{mul-le}
use Rattle.std.proofs.lemmas.List.{get_or_read}
use Rattle.daachorse_rows.specs.Rows.{AreHomes}
use Rattle.daachorse_rows.proofs.making.Chosen.cell.Goals as goal

-- the row that was read is the state's
row_read : (order homes : List ℕ) (s first home : ℕ) → AreHomes order homes → s < length homes → first ≡ get_or homes s first
    → (first ≡ 65535 → ⊥) → home ≡ get_or homes s home → (home < length order) × (slice_index order home ≡ s)
row_read order homes s first home right within is some at =
    let read = get_or_read homes s home within at 0 in
    let row = right s within (λ none. some (get_or_read homes s first within is 0 ∙ none)) in
    (omega (arith, read, row.0), ap (slice_index order) read ∙ row.1)

pub index-requires : goal.index-requires
index-requires g c = omega (arith, c.if-index-len.true, c.len.ensures)

pub index-requires-then-index : goal.index-requires-then-index
index-requires-then-index g c = omega (arith, c.if-index-len.true, c.len.ensures)

pub overflow_mul-result : goal.overflow_mul-result
overflow_mul-result g c =
    let within : c.args.state < length c.args.self.now.homes.items =
    omega (arith, c.if-index-len.true, c.len.ensures, c.args.self.now.homes.ok.0) in
    let row = row_read c.args.self.now.order.items c.args.self.now.homes.items c.args.state c.index.result.now c.index-then-index.result.now
    c.requires.rows.homes within c.index.ensures c.if-index.true c.index-then-index.ensures in
    omega (
      arith,
      mul-le c.index-then-index.result.now c.args.width (length c.args.self.now.order.items) c.args.width (omega (arith, row.0))
          (omega arith),
      c.requires.rows.few,
    )

pub returns-then-index : goal.returns-then-index
returns-then-index g c =
    let within : c.args.state < length c.args.self.now.homes.items =
    omega (arith, c.if-index-len.true, c.len.ensures, c.args.self.now.homes.ok.0) in
    let row = row_read c.args.self.now.order.items c.args.self.now.homes.items c.args.state c.index.result.now c.index-then-index.result.now
    c.requires.rows.homes within c.index.ensures c.if-index.true c.index-then-index.ensures in
    inl (c.index-then-index.result.now, row.0, refl, row.1)
