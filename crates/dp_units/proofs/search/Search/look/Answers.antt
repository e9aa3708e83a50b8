use Rattle.std.proofs.Common.{◌≡◌, ◌<◌, ◌-◌, ◌∙◌, ℕ, List, Vec, length, take, refl, sym, subst, ap}
use Rattle.std.specs.declared.alloc.Global.{Global}
use Rattle.std.proofs.lemmas.Option.{slice_get_read}
use Rattle.std.proofs.lemmas.Result.{on_ok_weaker}
use Rattle.dp_units.specs.steps.Entries.{At}
use Rattle.dp_units.specs.declared.mark.Mark.{Mark}
use Rattle.dp_units.specs.declared.mark.Mark.TheVariants.{Unseen}
use Rattle.dp_units.specs.declared.search.Search.{Search}
use Rattle.dp_units.specs.steps.Steps.{HasEntered}
use Rattle.dp_units.proofs.GoneLemmas.{target_within, entered_on, reach_target, settled_on}
use Rattle.dp_units.proofs.search.Search.look.Goals as goal

pub index-mark-requires : goal.index-mark-requires
index-mark-requires c =
    let low = target_within c.args.graph.edges.now c.args.graph.rows.now c.requires.graph c.args.self.now c.requires.going c.args.target c.requires.last in
    subst (λ k. c.args.target < k) (sym c.requires.going.each ∙ sym c.args.self.now.marks.ok.0) low

pub bounds-graph-target : goal.bounds-graph-target
bounds-graph-target c =
    target_within c.args.graph.edges.now c.args.graph.rows.now c.requires.graph c.args.self.now c.requires.going c.args.target c.requires.last

pub enter-requires : goal.enter-requires
enter-requires c =
    let low = target_within c.args.graph.edges.now c.args.graph.rows.now c.requires.graph c.args.self.now c.requires.going c.args.target c.requires.last in
    subst (λ k. c.args.target < k) (sym c.requires.going.each) low

pub returns-in-Unseen : goal.returns-in-Unseen
returns-in-Unseen c =
    let s : Search = c.args.self.now in
    let rows : List (Vec ℕ Global) = c.args.graph.rows.now in
    let target : ℕ = c.args.target in
    let row : Vec ℕ Global = c.index-graph-target.result in
    let low : target < length rows = target_within c.args.graph.edges.now rows c.requires.graph s c.requires.going target c.requires.last in
    let there : At rows target row = slice_get_read rows (length rows) target row refl low c.index-graph-target.is in
    let long : target < length s.marks.items = subst (λ k. target < k) (sym c.requires.going.each) low in
    let mark : At s.marks.items target c.index-mark.result.now = slice_get_read s.marks.items (length s.marks.items) target c.index-mark.result.now refl long
    c.index-mark.ensures in
    let unseen : At s.marks.items target Unseen = subst (λ (m : Mark). At s.marks.items target m) c.in-Unseen.is mark in
    let items : c.as_slice.result.now ≡ row.items = c.as_slice.ensures.value ∙ ap (λ (r : Vec ℕ Global). r.items) (sym c.index-graph-target.is) in
    on_ok_weaker c.enter.result (λ is. entered_on c.args.graph.edges.now rows c.requires.graph s c.requires.going target row c.enter.new.self
    (reach_target c.args.graph.edges.now rows c.requires.graph s c.requires.going target c.requires.last) there unseen
    (subst (λ (xs : List ℕ). HasEntered target xs s c.enter.new.self) items is)) c.enter.ensures

pub returns : goal.returns
returns c =
    let s : Search = c.args.self.now in
    let rows : List (Vec ℕ Global) = c.args.graph.rows.now in
    let target : ℕ = c.args.target in
    let low : target < length rows = target_within c.args.graph.edges.now rows c.requires.graph s c.requires.going target c.requires.last in
    let long : target < length s.marks.items = subst (λ k. target < k) (sym c.requires.going.each) low in
    let mark : At s.marks.items target c.index-mark.result.now = slice_get_read s.marks.items (length s.marks.items) target c.index-mark.result.now refl long
    c.index-mark.ensures in
    let rest : c.pop.new.self.items ≡ take (length s.waiting.items - 1) s.waiting.items = c.pop.ensures.rest
    ∙ ap (λ k. take (k - 1) s.waiting.items) s.waiting.ok.0 in
    settled_on _ rows c.requires.graph s c.requires.going target c.index-mark.result.now _ c.requires.last mark c.in_default.not-Unseen refl refl
    c.join.ensures rest refl
