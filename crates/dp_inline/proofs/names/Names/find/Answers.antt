use Rattle.std.proofs.Common.{◌≡◌, ◌<◌, ◌+◌, ◌-◌, ℕ, List, Option, Some, sym, ap, ◌∙◌, length, take, get_or, arith}
use Rattle.dp_calls.specs.Renaming.{named_in}
use Rattle.dp_inline.specs.declared.names.Named.{Named}
use Rattle.dp_inline.specs.Named.{renamed_names}
use Rattle.dp_inline.proofs.NamesLemmas.{found_before, found_here, found_not}
use Rattle.dp_inline.proofs.names.Names.find.Goals as goal

abbrev none : Named
none = record { source = 0; target = 0 }

abbrev among : List Named → ℕ → Option ℕ
among rows x = named_in (renamed_names rows) x

pub returns-then-named-source : goal.returns-then-named-source
returns-then-named-source c =
    let rows = c.as_slice-rows.result.now in let k = c.loop-left.left - 1 in let x = c.args.source in
    let on : c.loop-left.left ≡ k + 1 = omega arith in let below : k < length rows = omega arith in
    sym (ap (λ names. named_in names x) (sym c.self.view_is) ∙ ap (λ l. among l x) (sym c.as_slice-rows.ensures)
    ∙ c.loop-left.invariant.1 ∙ ap (λ n. among (take n rows) x) on ∙ found_before rows k none x below
    ∙ found_here (get_or rows k none).source x (Some (get_or rows k none).target) (among (take k rows) x) c.if-named-source.true)

pub loop-left-preserved : goal.loop-left-preserved
loop-left-preserved c =
    let rows = c.as_slice-rows.result.now in let k = c.loop-left.left - 1 in let x = c.args.source in
    let on : c.loop-left.left ≡ k + 1 = omega arith in
    let below : k < length rows = omega arith in (
      omega arith,
      c.loop-left.invariant.1 ∙ ap (λ n. among (take n rows) x) on ∙ found_before rows k none x below
          ∙ found_not (get_or rows k none).source x (Some (get_or rows k none).target) (among (take k rows) x) c.if-named-source.false,
    )
