-- Each step of a search keeps what it knows, and leaves less to do.
use Rattle.std.proofs.Common.{◌≡◌, ◌≢◌, inl, inr, refl, sym, subst, ◌∙◌, ap, arith, ℕ, ◌<◌, ◌≤◌, ◌+◌, ◌-◌, List, [], ◌∷◌, ◌++◌, length, take, drop, Vec}
use Rattle.std.proofs.Common.{slice_index_or}
use Rattle.std.proofs.Math.ListN.{set}
use Rattle.std.specs.declared.alloc.Global.{Global}
use Rattle.std.proofs.lemmas.Bool.{cases_eq}
use Rattle.std.proofs.lemmas.List.{length_push, length-append, length-map, length-take-le}
use Rattle.std.proofs.lemmas.Option.{slice_get_read}
use Rattle.dp_units.specs.steps.Entries.{At, Has}
use Rattle.dp_units.specs.declared.mark.Mark.{Mark}
use Rattle.dp_units.specs.declared.mark.Mark.TheVariants.{Unseen, OnPath, Closed}
use Rattle.dp_units.specs.declared.search.Search.{Search}
use Rattle.dp_units.specs.Graph.{Walk, HasEdge}
use Rattle.dp_units.specs.Graph.Walk.{along}
use Rattle.dp_units.specs.steps.Rows.{targets, IsGraph}
use Rattle.dp_units.specs.steps.Search.{IsSearch, IsSettled, IsUnseen, IsMarked}
use Rattle.dp_units.specs.steps.Steps.{edges_from, rows_left, IsGoing, IsLastGroup, LeadsOn, IsDone, HasEntered, HasJoined, HasGone}
use Rattle.dp_units.proofs.AtLemmas.{at_within, at_one, at_none, at_push, at_last, some_at}
use Rattle.dp_units.proofs.PathLemmas.{to_last}
use Rattle.dp_units.proofs.EnterLemmas.{entered, unseen_before, regrouped, grown, settled, unseen_on_path}
use Rattle.dp_units.proofs.CloseLemmas.{closed_group, unseen_still, closing_of, least_of, member_of}
use Rattle.dp_units.proofs.TakeLemmas.{edge_within}
use Rattle.dp_units.proofs.RowLemmas.{in_row, edge_in_row, rows_fewer, rows_no_more}
use Rattle.dp_room.proofs.ListLemmas.{get_set_same}

module _ (edges : List (ℕ × ℕ)) (rows : List (Vec ℕ Global)) (graph : IsGraph edges rows) (s : Search) (is : IsGoing edges rows s) where
  -- the search is that of these lists
  going_by : (s' : Search) (ms : List Mark) (path bs : List ℕ) (ws : List (ℕ × ℕ)) (ls : List ℕ) → IsSearch (length rows) edges ms path bs ws ls →
      s'.marks.items ≡ ms → s'.path.items ≡ path → s'.bottoms.items ≡ bs → s'.waiting.items ≡ ws → s'.leaders.items ≡ ls → IsGoing edges rows s'
  going_by s' ms path bs ws ls is' e1 e2 e3 e4 e5 =
      subst (λ (x : List Mark). IsSearch (length rows) edges x s'.path.items s'.bottoms.items s'.waiting.items s'.leaders.items) (sym e1)
      (subst (λ (x : List ℕ). IsSearch (length rows) edges ms x s'.bottoms.items s'.waiting.items s'.leaders.items) (sym e2)
      (subst (λ (x : List ℕ). IsSearch (length rows) edges ms path x s'.waiting.items s'.leaders.items) (sym e3)
      (subst (λ (x : List (ℕ × ℕ)). IsSearch (length rows) edges ms path bs x s'.leaders.items) (sym e4)
      (subst (λ (x : List ℕ). IsSearch (length rows) edges ms path bs ws x) (sym e5) is'))))

  top : (bottom : ℕ) → IsLastGroup s bottom → (b : ℕ) → Has s.bottoms.items b → b ≤ bottom
  top bottom last b (k, at) =
      let front : List ℕ = take (length s.bottoms.items - 1) s.bottoms.items in
      elim (at_push front bottom k b (subst (λ (xs : List ℕ). At xs k b) last at)) [
        | inl old ↦
            let h = at_within front k b old in
            let low = is.way.rising k (length front) b bottom h at (subst (λ (xs : List ℕ). At xs (length front) bottom) (sym last) (at_last front bottom)) in
            omega (arith, low)
        | inr new ↦ omega (arith, new.1)
      ]

  -- the last edge waits
  last_waits : (place target : ℕ) → s.waiting.items ≡ take (length s.waiting.items - 1) s.waiting.items ++ (place, target) ∷ [] →
      Has s.waiting.items (place, target)
  last_waits place target e =
      let front : List (ℕ × ℕ) = take (length s.waiting.items - 1) s.waiting.items in
      (length front, subst (λ (xs : List (ℕ × ℕ)). At xs (length front) (place, target)) (sym e) (at_last front (place, target)))

  pub target_within : (target : ℕ) → LeadsOn s target → target < length rows
  target_within target (bottom, last, place, low, wait) =
      let from = is.waits place target (last_waits place target wait) in
      (edge_within (length rows) edges graph.within from.0 target from.2).1

  -- the search goes onto a node that the last group leads to, or begins with one
  pub entered_on : (target : ℕ) (row : Vec ℕ Global) (s' : Search) → ((i a : ℕ) → At s.path.items i a → Walk edges a target) → At rows target row →
      IsUnseen s.marks.items target →
      HasEntered target row.items s s' → HasGone edges rows s s'
  entered_on target row s' reach at unseen is' =
      let ms : List Mark = s.marks.items in
      let path : List ℕ = s.path.items in
      let h : target < length rows = at_within rows target row at in
      let items : row.items ≡ targets edges target = graph.targets target row at in
      let there : (w : ℕ) → Has row.items w → HasEdge edges target w = λ w has. in_row edges target w (subst (λ (xs : List ℕ). Has xs w) items has) in
      let all : (w : ℕ) → HasEdge edges target w → Has row.items w = λ w edge. subst (λ (xs : List ℕ). Has xs w) (sym items)
      (edge_in_row edges target w edge) in
      let fewer : rows_left rows (set ms target (OnPath (length path))) + (length row.items + 2) ≡ rows_left rows ms = rows_fewer rows ms target
      (length path) row at unseen in
      let left : rows_left rows s'.marks.items ≡ rows_left rows (set ms target (OnPath (length path))) = ap (λ (x : List Mark). rows_left rows x) is'.marks in
      let longer : length s'.path.items ≡ length path + 1 = ap (λ (x : List ℕ). length x) is'.path ∙ length_push path target in
      let waits : length s'.waiting.items ≡ length s.waiting.items + length row.items =
      ap (λ (x : List (ℕ × ℕ)). length x) is'.waiting ∙ length-append s.waiting.items (edges_from (length path) row.items)
      ∙ ap (λ k. length s.waiting.items + k) (length-map row.items (λ w. (length path, w))) in
      record {
        going = going_by s' (set ms target (OnPath (length path))) (path ++ target ∷ []) (s.bottoms.items ++ length path ∷ [])
            (s.waiting.items ++ edges_from (length path) row.items) s.leaders.items
            (entered (length rows) edges ms path s.bottoms.items s.waiting.items s.leaders.items is target row.items h unseen reach there all)
            is'.marks is'.path is'.bottoms is'.waiting is'.leaders;
        met = λ v un. unseen_before (length rows) edges ms path s.bottoms.items s.waiting.items s.leaders.items is target row.items h unseen reach there all v
            (subst (λ (x : List Mark). IsUnseen x v) is'.marks un);
        less = omega (arith, fewer, left, longer, waits);
      }

  -- each node of the path reaches what the last group leads to
  pub reach_target : (target : ℕ) → LeadsOn s target → (i a : ℕ) → At s.path.items i a → Walk edges a target
  reach_target target (bottom, last, place, low, wait) i a at =
      let from = is.waits place target (last_waits place target wait) in
      along (to_last edges s.path.items s.bottoms.items is.way bottom (top bottom last) i place a from.0 low at from.1) from.2

  -- the last edge leads to a node that was met
  pub settled_on : (target : ℕ) (m : Mark) (s' : Search) → LeadsOn s target → At s.marks.items target m → m ≢ Unseen → s'.marks.items ≡ s.marks.items →
      s'.path.items ≡ s.path.items →
      HasJoined m s.bottoms.items s'.bottoms.items → s'.waiting.items ≡ take (length s.waiting.items - 1) s.waiting.items → s'.leaders.items ≡ s.leaders.items →
      HasGone edges rows s s'
  settled_on target m s' (bottom, last, place, low, wait) at met e1 e2 joined e4 e5 =
      let front : List (ℕ × ℕ) = take (length s.waiting.items - 1) s.waiting.items in
      let from = is.waits place target (last_waits place target wait) in
      let long : length s.waiting.items ≡ length front + 1 = ap (λ (x : List (ℕ × ℕ)). length x) wait ∙ length_push front (place, target) in
      let waits : length s'.waiting.items ≡ length front = ap (λ (x : List (ℕ × ℕ)). length x) e4 in
      let left : rows_left rows s'.marks.items ≡ rows_left rows s.marks.items = ap (λ (x : List Mark). rows_left rows x) e1 in
      let same : length s'.path.items ≡ length s.path.items = ap (λ (x : List ℕ). length x) e2 in
      let by = cases m at met joined in
      record {
        going = going_by s' s.marks.items s.path.items s'.bottoms.items front s.leaders.items
            (settled (length rows) edges s.marks.items s.path.items s'.bottoms.items front s.leaders.items place target
            (subst (λ (x : List (ℕ × ℕ)). IsSearch (length rows) edges s.marks.items s.path.items s'.bottoms.items x s.leaders.items) wait by.0) by.1)
            e1 e2 refl e4 e5;
        met = λ v un. subst (λ (x : List Mark). IsUnseen x v) e1 un;
        less = omega (arith, long, waits, left, same);
      }
    where
      cases : (m : Mark) → At s.marks.items target m → m ≢ Unseen → HasJoined m s.bottoms.items s'.bottoms.items →
          IsSearch (length rows) edges s.marks.items s.path.items s'.bottoms.items s.waiting.items s.leaders.items
          × IsSettled s.marks.items s'.bottoms.items place target
      cases Unseen at met joined = absurd (met refl)
      cases (OnPath j) at met joined = (
        grown (length rows) edges s.marks.items s.path.items s.bottoms.items s.waiting.items s.leaders.items is bottom (top bottom last) place j target low
            (last_waits place target wait) at s'.bottoms.items joined.rising joined.kept
            (λ b has le. joined.all b has (λ k e. let k_is : j ≡ k = cc e in omega (arith, k_is, le))),
        inr (j, at, λ b has le. joined.low b j has refl),
      )
      cases (Closed c) at met joined = (
        grown_none joined,
        inl (c, at),
      )
        where
          grown_none : HasJoined (Closed c) s.bottoms.items s'.bottoms.items → IsSearch (length rows) edges s.marks.items s.path.items s'.bottoms.items
              s.waiting.items s.leaders.items
          grown_none joined = regrouped (length rows) edges s.marks.items s.path.items s.bottoms.items s.waiting.items s.leaders.items is
              s'.bottoms.items (record {
                onward = is.way.onward;
                back = λ i a b ati atb. elim (is.way.back i a b ati atb) [
                  | inl has ↦
                      inl (joined.all (i + 1) has (λ k e. absurd (cc e)))
                  | inr walk ↦ inr walk
                ];
                rising = joined.rising;
                low = λ b has. is.way.low b (joined.kept b has);
                first = λ h. joined.all 0 (is.way.first h) (λ k e. absurd (cc e));
              }) joined.kept

  pub group_inside : (bottom : ℕ) → IsLastGroup s bottom → bottom < length s.path.items
  group_inside bottom last =
      let front : List ℕ = take (length s.bottoms.items - 1) s.bottoms.items in
      is.way.low bottom (length front, subst (λ (xs : List ℕ). At xs (length front) bottom) (sym last) (at_last front bottom))

  pub path_within : (i v : ℕ) → At s.path.items i v → v < length s.marks.items
  path_within i v at = at_within s.marks.items v (OnPath i) (is.marked i v at)

  -- no edge of the last group waits
  none_waits : (bottom : ℕ) → IsDone s bottom → (i w : ℕ) → Has s.waiting.items (i, w) → i < bottom
  none_waits bottom done i w (k, at) =
      let h : k < length s.waiting.items = at_within s.waiting.items k (i, w) at in
      let end = length s.waiting.items - 1 in
      let last = some_at s.waiting.items end (omega (arith, h)) in
      let low = done last.0.0 last.0.1 last.1 in
      elim (cases_eq k end) [
        | inl same ↦ done i w (subst (λ j. At s.waiting.items j (i, w)) same at)
        | inr ne ↦ let le = is.sorted k end i last.0.0 w last.0.1 (omega (arith, h, ne)) at last.1 in omega (arith, le, low)
      ]

  -- the last group is closed
  pub closed_on : (bottom l : ℕ) (s' : Search) → IsLastGroup s bottom → IsDone s bottom → IsMarked s.marks.items s'.marks.items (drop bottom s.path.items)
      (length s.leaders.items) →
      Has (drop bottom s.path.items) l → ((i v : ℕ) → At (drop bottom s.path.items) i v → l ≤ v) → s'.path.items ≡ take bottom s.path.items →
      s'.bottoms.items ≡ take (length s.bottoms.items - 1) s.bottoms.items → s'.waiting.items ≡ s.waiting.items → s'.leaders.items ≡ s.leaders.items ++ l ∷ [] →
      HasGone edges rows s s'
  closed_on bottom l s' last done marked has least e2 e3 e4 e5 =
      let front : List ℕ = take (length s.bottoms.items - 1) s.bottoms.items in
      let closing = closing_of s.marks.items s'.marks.items s.path.items bottom (length s.leaders.items) marked in
      let is' = subst (λ (x : List ℕ). IsSearch (length rows) edges s.marks.items s.path.items x s.waiting.items s.leaders.items) last is in
      let low = least_of s.path.items bottom l least in
      let member = member_of s.path.items bottom l has in
      let inside = group_inside bottom last in
      let short : length s'.path.items ≡ bottom = ap (λ (x : List ℕ). length x) e2 ∙ length-take-le bottom s.path.items (omega (arith, inside)) in
      let waits : length s'.waiting.items ≡ length s.waiting.items = ap (λ (x : List (ℕ × ℕ)). length x) e4 in
      let met : (v : ℕ) → IsUnseen s'.marks.items v → IsUnseen s.marks.items v =
      unseen_still (length rows) edges s.marks.items s'.marks.items s.path.items front bottom s.waiting.items s.leaders.items l is' (none_waits bottom done)
      closing low member in
      let left = rows_no_more rows s.marks.items s'.marks.items met in
      record {
        going = going_by s' s'.marks.items (take bottom s.path.items) front s.waiting.items (s.leaders.items ++ l ∷ [])
            (closed_group (length rows) edges s.marks.items s'.marks.items s.path.items front bottom s.waiting.items s.leaders.items l is'
            (none_waits bottom done) closing low member)
            refl e2 e3 e4 e5;
        met = met;
        less = omega (arith, short, inside, waits, left);
      }

-- a node that went onto the path was met
pub not_unseen : (node : ℕ) (row : List ℕ) (s s' : Search) → node < length s.marks.items → HasEntered node row s s' → IsUnseen s'.marks.items node → ⊥
not_unseen node row s s' h is un =
    let place : ℕ = length s.path.items in
    let here : At s'.marks.items node (OnPath place) = subst (λ (ms : List Mark). At ms node (OnPath place)) (sym is.marks)
    (get_set_same s.marks.items node (OnPath place) h) in
    unseen_on_path place (at_one s'.marks.items node Unseen (OnPath place) un here)

-- the search goes onto a node as its first
pub started : (edges : List (ℕ × ℕ)) (rows : List (Vec ℕ Global)) (s s' : Search) (node : ℕ) (row : Vec ℕ Global) (mark : Mark) (targets : List ℕ) →
    IsGraph edges rows → IsGoing edges rows s →
    s.path.items ≡ [] → node < length rows → row ≡ slice_index_or rows node row → mark ≡ slice_index_or s.marks.items node mark → mark ≡ Unseen →
    targets ≡ (slice_index_or rows node row).items → HasEntered node targets s s' → HasGone edges rows s s'
started edges rows s s' node row mark targets graph is none h read seen unseen same entered =
    let there : At rows node row = slice_get_read rows (length rows) node row refl h read in
    let long : node < length s.marks.items = subst (λ k. node < k) (sym is.each) h in
    let at : At s.marks.items node mark = slice_get_read s.marks.items (length s.marks.items) node mark refl long seen in
    let items : targets ≡ row.items = same ∙ ap (λ (r : Vec ℕ Global). r.items) (sym read) in
    entered_on edges rows graph s is node row s' (λ i a on. absurd (at_none i a (subst (λ (xs : List ℕ). At xs i a) none on))) there
    (subst (λ (m : Mark). At s.marks.items node m) unseen at) (subst (λ (xs : List ℕ). HasEntered node xs s s') items entered)
