-- The pattern was added to the trie, so it is registered; where no id was free, there are too many prefixes. A pattern that extends a key is registered where nothing changes.
use Rattle.std.proofs.Common.{rules, ◌≡◌, ◌≤◌, ◌+◌, ◌⊎◌, true, false, List, length, map, sym, ap, ◌∙◌, inl, inr, arith, ◌++◌, ◌∷◌, [], ℕ}
use Rattle.std.proofs.lemmas.List.{length_push}
use Rattle.std.proofs.lemmas.Result.{err_from_is_err_and}
use Rattle.std.specs.declared.cmp.Ordering.{Ordering}
use Rattle.daachorse_model.specs.declared.MatchKind.{MatchKind}
use Rattle.daachorse_model.specs.Units.{size}
use Rattle.daachorse_model.specs.Kinds.{is_leftmost_first}
use Rattle.daachorse_model.specs.Dictionary.{kept_registrations}
use Rattle.daachorse_core.specs.declared.errors.Limit.TheVariants.{StateId}
use Rattle.daachorse_build.specs.declared.nfa_builder.NfaBuilderState.{NfaBuilderState}
use Rattle.daachorse_build.specs.Tables.{child_of, stops_of}
use Rattle.daachorse_build.specs.Left.{meets_early}
use Rattle.daachorse_build.specs.Holds.{in_units, Holds}
use Rattle.daachorse_core.proofs.Refusals.{IsRefusal-weaker}
use Rattle.daachorse_build.proofs.Registrations.{holds_more}
use Rattle.daachorse_build.proofs.Dropped.{kept_one, kept_same}
use Rattle.daachorse_build.proofs.Keys.{key_before, no_key_before, holds_same}
use Rattle.daachorse_build.proofs.Full.{too_many}
use Rattle.daachorse_build.proofs.nfa_builder.NfaBuilder.add.Goals as goal
use Rattle.daachorse_build.proofs.nfa_builder.NfaBuilder.add.Goals.{else-is_leftmost_first-via-then-is_leftmost_first+else-extends_key, else-is_leftmost_first-via-else-is_leftmost_first}

module _ {L V A : Type 0} (cmp : L → L → Ordering) (unit : L → ℕ) (width : ℕ → ℕ) (kind : MatchKind) (states : List (NfaBuilderState L V A)) (rs : List (List L × V)) (holds : Holds cmp unit width kind states rs) (p : List L) (v : V) where
  -- a pattern that no key begins, or of another kind, counts
  counts : (is_leftmost_first kind ≡ false) ⊎ (meets_early (child_of cmp states) (stops_of true states) 0 p ≡ false) → kept_registrations kind (in_units unit (rs ++ (p, v) ∷ [])) ≡ kept_registrations kind (in_units unit rs) ++ (map unit p, v) ∷ []
  counts (inl other) = kept_one unit kind rs p v (inl other)
  counts (inr none) = kept_one unit kind rs p v (inr (no_key_before cmp unit width kind states rs holds p none))

  -- a pattern that a key begins is left out
  drops : is_leftmost_first kind ≡ true → meets_early (child_of cmp states) (stops_of true states) 0 p ≡ true → kept_registrations kind (in_units unit (rs ++ (p, v) ∷ [])) ≡ kept_registrations kind (in_units unit rs)
  drops first early =
      let key = key_before cmp unit width kind states rs holds p early in
      kept_same unit kind rs p v first key.0 key.1 key.2

pub returns-in_err-add_pattern-clause-err : goal.returns-in_err-add_pattern-clause-err
returns-in_err-add_pattern-clause-err g c =
    let p = err_from_is_err_and c.from_residual-in_err-add_pattern.result c.from_residual-in_err-add_pattern.ensures.1 in
    let b = c.self.inside in
    let cmp = g.L.Ord.cmp in
    let unit = g.L.EdgeLabel.unit in
    let width = g.L.EdgeLabel.width in
    let pattern = c.args.pattern.now in
    let early = meets_early (child_of cmp b.states.items) (stops_of true b.states.items) 0 pattern in
    let why : (is_leftmost_first b.kind ≡ false) ⊎ (early ≡ false) =
    elim c.else-is_leftmost_first.branch [ else-is_leftmost_first-via-then-is_leftmost_first+else-extends_key w ↦ inr (ap (λ (ss : List (NfaBuilderState g.row.L.Denot g.row.V.Denot g.row.A.Denot)). meets_early (child_of cmp ss) (stops_of true ss) 0 c.args.pattern.now) (sym w.deref.ensures.value) ∙ sym w.extends_key.ensures ∙ w.if-extends_key.false) | else-is_leftmost_first-via-else-is_leftmost_first w ↦ inl (sym c.is_leftmost_first.ensures ∙ w.if-is_leftmost_first.false) ] in
    let short : size width (map unit pattern) ≤ 4294967295 = rw (← c.in_ok-size.ensures.size) (search rules) in
    rw (← c.self.view_is, p.1, p.2) (IsRefusal-weaker ⊥ _ StateId _ _ (λ none. absurd none)
    (λ over. record { short = short; more = λ rs reg. too_many cmp unit g.met.L.EdgeLabel.exact width b.kind b.states.items rs pattern c.args.value (counts cmp unit width b.kind b.states.items rs reg.holds pattern c.args.value why) reg.holds 4294967295 over })
    _ c.in_err-add_pattern.ensures.err)

pub returns-clause-added : goal.returns-clause-added
returns-clause-added g c = rw (← c.self.view_is) (
    let b = c.self.inside in
    let cmp = g.L.Ord.cmp in
    let unit = g.L.EdgeLabel.unit in
    let width = g.L.EdgeLabel.width in
    let p = c.args.pattern.now in
    let early = meets_early (child_of cmp b.states.items) (stops_of true b.states.items) 0 p in
    let why : (is_leftmost_first b.kind ≡ false) ⊎ (early ≡ false) =
    elim c.else-is_leftmost_first.branch [ else-is_leftmost_first-via-then-is_leftmost_first+else-extends_key w ↦ inr (ap (λ (ss : List (NfaBuilderState g.row.L.Denot g.row.V.Denot g.row.A.Denot)). meets_early (child_of cmp ss) (stops_of true ss) 0 c.args.pattern.now) (sym w.deref.ensures.value) ∙ sym w.extends_key.ensures ∙ w.if-extends_key.false) | else-is_leftmost_first-via-else-is_leftmost_first w ↦ inl (sym c.is_leftmost_first.ensures ∙ w.if-is_leftmost_first.false) ] in
    let added = rw c.in_ok-size.ensures.size at c.in_ok-add_pattern.ensures.ok in
    let len : c.in-Some.len ≡ b.len + 1 = search rules in
    record {
      trie = c.add_pattern.ensures.trie;
      registered = λ rs reg.
          let more = counts cmp unit width b.kind b.states.items rs reg.holds p c.args.value why in
          record {
            holds = holds_more unit g.met.L.EdgeLabel.exact b.kind rs p c.args.value more cmp width b.states.items c.add_pattern.new.states.items reg.holds added;
            count = omega (arith, len, reg.count, ap length more, length_push (kept_registrations b.kind (in_units unit rs)) (map unit p, c.args.value));
          };
      short = rw (← c.in_ok-size.ensures.size) (search rules);
      fits = λ few. omega (arith, c.in_ok-add_pattern.ensures.fits (omega (arith, few)));
    })

pub returns-then-extends_key-clause-added : goal.returns-then-extends_key-clause-added
returns-then-extends_key-clause-added g c = rw (← c.self.view_is) (
    let b = c.self.inside in
    let cmp = g.L.Ord.cmp in
    let unit = g.L.EdgeLabel.unit in
    let width = g.L.EdgeLabel.width in
    let p = c.args.pattern.now in
    let early : meets_early (child_of cmp b.states.items) (stops_of true b.states.items) 0 p ≡ true =
    ap (λ (ss : List (NfaBuilderState g.row.L.Denot g.row.V.Denot g.row.A.Denot)). meets_early (child_of cmp ss) (stops_of true ss) 0 p) (sym c.deref.ensures.value) ∙ sym c.extends_key.ensures ∙ c.if-extends_key.true in
    record {
      trie = c.self.invariant;
      registered = λ rs reg.
          let same = drops cmp unit width b.kind b.states.items rs reg.holds p c.args.value (sym c.is_leftmost_first.ensures ∙ c.if-is_leftmost_first.true) early in
          record {
            holds = holds_same cmp unit width b.kind b.states.items rs (rs ++ (p, c.args.value) ∷ []) reg.holds same;
            count = reg.count ∙ ap length (sym same);
          };
      short = rw (← c.in_ok-size.ensures.size) (search rules);
      fits = λ few. few;
    })
