use Rattle.std.proofs.Common.{◌≡◌, sym, ap, ◌∙◌, ◌&&◌, Bool, true, false, List, drop}
use Rattle.std.specs.List.{list_all}
use Rattle.dp_judge.specs.Told.{goes_on_behind}
use Rattle.dp_judge.specs.Decided.{end_verdicts}
use Rattle.dp_judge.specs.steps.Adding.{none_closing}
use Rattle.dp_judge.specs.declared.told.Part.{Part}
use Rattle.dp_judge.proofs.Giving.{goes_on_so}
use Rattle.dp_judge.proofs.told.ToldBatch.goes_on.Goals as goal

pub returns-then-stays : goal.returns-then-stays
returns-then-stays c =
    let t = c.args.self.now in
    let stays = c.none_closes-stays.ensures ∙ ap none_closing (c.left_from.ensures ∙ ap (λ (ps : List Part). drop t.given ps) c.as_slice.ensures) in
    let all : none_closing (drop t.given t.parts) ≡ true = sym stays ∙ c.if-stays.true in
    c.is_over-over.ensures ∙ ap (λ (test : Bool). test && list_all goes_on_behind (end_verdicts t.end)) (sym all) ∙ goes_on_so t

pub returns-else-stays : goal.returns-else-stays
returns-else-stays c =
    let t = c.args.self.now in
    let stays = c.none_closes-stays.ensures ∙ ap none_closing (c.left_from.ensures ∙ ap (λ (ps : List Part). drop t.given ps) c.as_slice.ensures) in
    let one : none_closing (drop t.given t.parts) ≡ false = sym stays ∙ c.if-stays.false in
    c.if-stays.false ∙ ap (λ (test : Bool). test && list_all goes_on_behind (end_verdicts t.end)) (sym one) ∙ goes_on_so t
