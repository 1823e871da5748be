-- A byte more of the window, if it is not whole.
use Rattle.std.proofs.Common.{◌≡◌, ◌+◌, ◌-◌, ◌*◌, ◌<◌, ◌≤◌, ◌&&◌, [], ◌∷◌, get_or, sym, ap, ◌∙◌, arith}
use Rattle.daachorse_model.specs.Filter.{is_clear}
use Rattle.daachorse_prefilter.specs.Filters.{entry_of}
use Rattle.daachorse_prefilter.proofs.PairTables.{entry_at}
use Rattle.daachorse_prefilter.proofs.WindowLaws.{first_read, next_read, whole_read}
use Rattle.daachorse_prefilter.proofs.prefilter.Prefilter.read_byte.Goals as goal
use Rattle.daachorse_prefilter.proofs.prefilter.Prefilter.read_byte.Goals.{then-window-gt0+then-passes, then-window-gt0+else-passes, else-window-gt0}

pub returns-then-window-self : goal.returns-then-window-self
returns-then-window-self g c text read =
    let size : c.self.inside.window_len ≡ c.args.self.now.window = ap (λ f. f.window) c.self.view_is in
    let whole : c.args.self.now.window ≤ c.args.window.len = omega (arith, size, c.if-window-self.true) in
    let wide : 2 ≤ c.args.self.now.window = omega (arith, size, c.self.invariant.low) in
    whole_read c.args.self.now text c.args.window wide read (c.args.byte ∷ []) whole

pub returns : goal.returns
returns g c text read =
    let f = c.args.self.now in
    let s = c.args.window in
    let size : c.self.inside.window_len ≡ f.window = ap (λ f. f.window) c.self.view_is in
    let less : s.len < f.window = omega (arith, size, c.if-window-self.false) in
    let wide : 2 ≤ f.window = omega (arith, size, c.self.invariant.low) in
    elim c.if-window-gt0.branch [
      | then-window-gt0+then-passes w ↦
          let entry : w.entry-entry.result ≡ entry_of f (s.last * 256 + c.args.byte) =
          w.entry-entry.ensures
          ∙ entry_at c.self.inside.table s.last c.args.byte w.pair_of.result (omega arith) w.pair_of.ensures
          ∙ ap (λ f. get_or f.entries (s.last * 256 + c.args.byte) 0) c.self.view_is in
          next_read f text s wide read c.args.byte c.if-window-gt0.passes w.if-window-gt0.true less
          (w.passes-is ∙ ap (λ n. is_clear n (s.len - 1)) entry ∙ ap (λ b. b && is_clear (entry_of f (s.last * 256 + c.args.byte)) (s.len - 1)) (sym w.if-passes.true))
      | then-window-gt0+else-passes w ↦
          next_read f text s wide read c.args.byte c.if-window-gt0.passes w.if-window-gt0.true less
          (w.passes-is ∙ w.if-passes.false ∙ ap (λ b. b && is_clear (entry_of f (s.last * 256 + c.args.byte)) (s.len - 1)) (sym w.if-passes.false))
      | else-window-gt0 w ↦ rw w.passes-is (first_read f text s wide read c.args.byte (omega (arith, w.if-window-gt0.false)))
    ]
