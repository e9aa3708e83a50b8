use Rattle.std.proofs.Common.{inl, inr, sym, subst, List, ℕ}
use Rattle.dp_units.specs.steps.Entries.{Has}
use Rattle.dp_units.proofs.FreeLemmas.{insert_from, insert_kept, insert_added}
use Rattle.dp_units.proofs.free.offer.Goals as goal

pub returns-in_ok-insert-clause-from : goal.returns-in_ok-insert-clause-from
returns-in_ok-insert-clause-from c =
    λ other has. elim (insert_from c.args.free.now.keys c.args.node other (subst (λ (ks : List ℕ). Has ks other) c.in_ok-insert.ensures.keys has)) [
      | inl old ↦ inl old
      | inr same ↦ inr (same, c.if-waits-eq0.true)
    ]

pub returns-in_ok-insert-clause-kept : goal.returns-in_ok-insert-clause-kept
returns-in_ok-insert-clause-kept c =
    λ other has. subst (λ (ks : List ℕ). Has ks other) (sym c.in_ok-insert.ensures.keys) (insert_kept c.args.free.now.keys c.args.node other has)

pub returns-in_ok-insert-clause-added : goal.returns-in_ok-insert-clause-added
returns-in_ok-insert-clause-added c =
    λ none. subst (λ (ks : List ℕ). Has ks c.args.node) (sym c.in_ok-insert.ensures.keys) (insert_added c.args.free.now.keys c.args.node)
