-- What was written one after another holds the trie.
use Rattle.std.proofs.Common.{◌≡◌, ℕ, ◌<◌, List, length, ◌∙◌, ap, subst, sym, arith}
use Rattle.std.proofs.lemmas.List.{length-map}
use Rattle.std.proofs.lemmas.Result.{err_from_is_err_and}
use Rattle.daachorse_build.specs.Tables.{edge_map, edges_of, fails_of, positions_of}
use Rattle.daachorse_patterns.specs.Settled.{HavePlaces}
use Rattle.daachorse_bytewise_states.specs.declared.state.State.{State}
use Rattle.daachorse_bytewise_states.specs.Packing.{ElementsHoldTrie}
use Rattle.daachorse_bytewise_states.specs.Writing.{HasWritten}
use Rattle.daachorse_patterns.proofs.Written.{written_back}
use Rattle.daachorse_bytewise_states.proofs.WrittenLaws.{written-held}
use Rattle.daachorse_bytewise_states.proofs.packing.write_states.Goals as goal

pub labels-requires : goal.labels-requires
labels-requires g c = c.requires.trie

pub vacant_elements-requires : goal.vacant_elements-requires
vacant_elements-requires g c = record { block = c.requires.sizes.block; sizes = c.requires.sizes.elements }

pub place_states-requires : goal.place_states-requires
place_states-requires g c =
    let states = c.args.states.now in let l = c.args.helper.now in
    let P : ℕ → Type 0 = λ n. HavePlaces l.idx (length states) n in
    let I : List ℕ → Type 0 = λ is. HavePlaces is (length states) (length c.deref_mut.result.now) in
    record {
      labels = ap length c.deref.ensures.value ∙ (c.in_ok-labels.ensures.ok.size ∙ length-map states edge_map);
      bases = ap length c.bases.ensures ∙ c.requires.sizes.bases;
      places = subst I (sym c.idx_map.ensures) (subst P (sym (ap length c.deref_mut.ensures.value ∙ c.in_ok-elements.ensures.ok.size)) c.requires.places);
      links = c.requires.links;
      outputs = c.requires.outputs;
    }

pub returns-in_err-labels : goal.returns-in_err-labels
returns-in_err-labels g c =
    let p = err_from_is_err_and c.from_residual.result c.from_residual.ensures.1 in
    rw (p.1, p.2) (record { ok = tt; few = tt; err = c.in_err-labels.ensures.err })

pub returns-in_err-elements : goal.returns-in_err-elements
returns-in_err-elements g c =
    let p = err_from_is_err_and c.from_residual-in_err-elements.result c.from_residual-in_err-elements.ensures.1 in
    rw (p.1, p.2) (record { ok = tt; few = tt; err = c.in_err-elements.ensures.err })

pub returns : goal.returns
returns g c =
    let old = c.in_ok-elements.elements.items in let new = c.place_states.new.elements in
    record {
      ok =
          let states = c.args.states.now in let l = c.args.helper.now in
          let count : length states ≡ length (edges_of states) = sym (length-map states edge_map) in
          let two : 1 < length (edges_of states) = c.requires.trie.trie.two in
          let vacant = c.in_ok-elements.ensures.ok in
          let labelled = c.in_ok-labels.ensures.ok in
          let L : List ℕ → Type 0 = λ ls. HasWritten (length states) c.idx_map.result.now c.bases.result.now ls (fails_of states) (positions_of states) c.deref_mut.result.now new in
          let I : List ℕ → Type 0 = λ is. HasWritten (length states) is c.bases.result.now c.in_ok-labels.labels.items (fails_of states) (positions_of states) c.deref_mut.result.now new in
          let B : List ℕ → Type 0 = λ bs. HasWritten (length states) l.idx bs c.in_ok-labels.labels.items (fails_of states) (positions_of states) c.deref_mut.result.now new in
          let O : List (State ℕ) → Type 0 = λ es. HasWritten (length states) l.idx l.bases c.in_ok-labels.labels.items (fails_of states) (positions_of states) es new in
          let N : ℕ → Type 0 = λ n. HasWritten n l.idx l.bases c.in_ok-labels.labels.items (fails_of states) (positions_of states) old new in
          let placed = subst N count (subst O c.deref_mut.ensures.value (subst B c.bases.ensures (subst I c.idx_map.ensures (subst L c.deref.ensures.value c.place_states.ensures)))) in
          let held = written-held l (edges_of states) c.in_ok-labels.labels.items (fails_of states) (positions_of states) old new (omega (arith, two)) labelled vacant placed in
          let H : List (State ℕ) → Type 0 = λ es. ElementsHoldTrie l (edges_of states) (fails_of states) (positions_of states) es in
          let len : c.in_ok-elements.elements.len ≡ length new = omega (arith, placed.size, c.in_ok-elements.elements.ok.0) in
          subst H (sym (written_back new old c.in_ok-elements.elements.len len)) held;
      few =
          let P : List (State ℕ) → Type 0 = λ es. length es < 4294967296 in
          let same : length new ≡ length old = c.place_states.ensures.size ∙ ap length c.deref_mut.ensures.value in
          let small : length old < 4294967296 = c.in_ok-elements.ensures.few in
          let len : c.in_ok-elements.elements.len ≡ length new = omega (arith, same, c.in_ok-elements.elements.ok.0) in
          subst P (sym (written_back new old c.in_ok-elements.elements.len len)) (omega (arith, same, small));
      err = tt;
    }
