use Rattle.std.proofs.Common.{◌≡◌, ◌≤◌, ◌+◌, ◌-◌, ◌++◌, sym, ap, ◌∙◌, subst, arith, length, drop, take, List, ℕ}
use Rattle.std.proofs.lemmas.List.{length-drop, length-take-le, take_rest}
use Rattle.dp_auditor.specs.Comparing.{Compared, Fails, PassesPiece, line_behind, shared}
use Rattle.dp_auditor.proofs.LineLemmas.{fails, passes, shared_within}
use Rattle.dp_auditor.proofs.comparing.Comparing.take.Goals as goal

within : (log piece : List ℕ) (place same : ℕ) → place ≤ length log → same ≡ shared piece (drop place log) → place + same ≤ length log
within log piece place same h is = let s = shared_within piece (drop place log) in let most = s.1 in
    let size : length (drop place log) ≡ length log - place = length-drop place log in omega (arith, h, is, most, size)

-- the rest of the log is what a piece is compared with
rest_is : (log piece : List ℕ) (place same : ℕ) → same ≡ shared piece (take (length log - place) (drop place log)) → same ≡ shared piece (drop place log)
rest_is log piece place same e = e ∙ ap (shared piece) (take_rest log place)

pub invariant_of-self : goal.invariant_of-self
invariant_of-self c = (
  within c.self.inside.log.now c.args.piece.now c.self.inside.place c.shared-same.result c.self.invariant.0 (rest_is c.self.inside.log.now c.args.piece.now
      c.self.inside.place c.shared-same.result c.shared-same.ensures),
  c.self.invariant.1,
)

pub returns-then-same-piece-clause-passes : goal.returns-then-same-piece-clause-passes
returns-then-same-piece-clause-passes c =
    subst (λ (old : Compared). PassesPiece old record { log = c.self.inside.log.now; place = c.self.inside.place + c.shared-same.result }
    c.args.piece.now) c.self.view_is
    (passes c.self.inside.log.now c.args.piece.now c.self.inside.place c.shared-same.result (rest_is c.self.inside.log.now c.args.piece.now c.self.inside.place
    c.shared-same.result c.shared-same.ensures) c.if-same-piece.true)

pub overflow_add-self-inside : goal.overflow_add-self-inside
overflow_add-self-inside c =
    let h = within c.self.inside.log.now c.args.piece.now c.self.inside.place c.shared-same.result c.self.invariant.0
    (rest_is c.self.inside.log.now c.args.piece.now c.self.inside.place c.shared-same.result c.shared-same.ensures) in
    let few = c.self.invariant.1 in
    omega (arith, h, few)

pub slice_bounds-line_behind-end : goal.slice_bounds-line_behind-end
slice_bounds-line_behind-end c =
    sym (length-take-le (c.self.inside.place + c.shared-same.result) c.self.inside.log.now (within c.self.inside.log.now c.args.piece.now c.self.inside.place
    c.shared-same.result c.self.invariant.0 (rest_is c.self.inside.log.now c.args.piece.now c.self.inside.place c.shared-same.result c.shared-same.ensures)))

pub returns-clause-fails : goal.returns-clause-fails
returns-clause-fails c later =
    subst (λ (line : ℕ). Fails c.args.self.now (c.args.piece.now ++ later) line) (sym c.line_behind.ensures)
    (subst (λ (old : Compared). Fails old (c.args.piece.now ++ later) (line_behind (take (c.self.inside.place + c.shared-same.result) c.self.inside.log.now)))
    c.self.view_is
    (fails c.self.inside.log.now c.args.piece.now later c.self.inside.place c.shared-same.result
    (rest_is c.self.inside.log.now c.args.piece.now c.self.inside.place c.shared-same.result c.shared-same.ensures) c.if-same-piece.false))
