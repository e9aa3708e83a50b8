-- Of which sites a stage's columns keep what they told, and in which form.
use Rattle.std.specs.Prelude.{ℕ, if◌then◌else◌, ◌+◌, ◌-◌, ◌==◌, Bool, ◌&&◌, List, [], ◌∷◌, map}
use Rattle.std.specs.List.{list_any, flat_map}
use Rattle.dp_tree.specs.declared.Stmt.{Stmt}
use Rattle.dp_tree.specs.declared.Stmt.TheVariants.{Assign, Store, Print, If', While', Region', Break, Call}
use Rattle.dp_tree.specs.declared.Program.{Program}
use Rattle.dp_tree.specs.Eval.{first_cell, cell_count}
use Rattle.dp_tree.specs.Numbering.{numbers_from}
use Rattle.dp_tree.specs.Statements.{asked}
use Rattle.dp_plan.specs.declared.Plan.{Plan}
use Rattle.dp_plan.specs.Access.{stage_of, region_statement}
use Rattle.dp_plan.specs.Checked.{is_checked}
use Rattle.dp_semantics.specs.Judge.{last}
use Rattle.dp_net.specs.NetItems.{Marks, begins}
use Rattle.dp_lean.specs.Laws.{is_read}
use Rattle.dp_columns.specs.declared.ColumnKind.{ColumnKind}
use Rattle.dp_columns.specs.declared.ColumnKind.TheVariants as kind
use Rattle.dp_lean_kinds.specs.declared.form.SiteForm.{SiteForm}
use Rattle.dp_lean_kinds.specs.declared.form.SiteForm.TheVariants as form
use Rattle.dp_lean_kinds.specs.declared.form.FormedSite.{FormedSite}

-- the statement's own site, with the form of its values
unfoldable pub formed_at : Stmt → List FormedSite
formed_at (Assign site x e) = record { site = site; form = form.Stored x } ∷ []
formed_at (Store site x index e) = record { site = site; form = form.Stored x } ∷ []
formed_at (Print site e) = record { site = site; form = form.Single } ∷ []
formed_at (If' site cond _ then_part _ else_part) = record { site = site; form = form.Single } ∷ []
formed_at (While' site cond _ body) = record { site = site; form = form.Single } ∷ []
formed_at (Region' r site cond _ body) = record { site = site; form = form.Single } ∷ []
formed_at (Break site cond) = record { site = site; form = form.Single } ∷ []
formed_at (Call f line args) = []

module _ (p : Program) (plan : Plan) where
  -- the sites of the plan's region, in text order
  abbrev pub formed_sites : List FormedSite
  formed_sites = flat_map (asked formed_at) (region_statement p plan)

  -- values of this form: values alone where a store is to the variable's one cell, or where nothing is stored, and else cells with values
  abbrev pub values_of : SiteForm → ColumnKind
  values_of (form.Stored x) = if cell_count p x == 1 then kind.Value (first_cell p x) else kind.Element
  values_of form.Single = kind.Value 0

  module _ (m : Marks) where
    -- a stage later than t, or the judge, reads the site
    abbrev pub is_needed : ℕ → ℕ → Bool
    is_needed t y = list_any (λ (s : ℕ). is_read p plan m s y) (numbers_from (t + 1) (last plan - t))

    -- the judge compares what the site loaded
    abbrev pub is_compared : ℕ → Bool
    is_compared y = is_checked p plan y && is_read p plan m (last plan) y

    -- what stage t keeps of the site: nothing, unless the site is its own and needed; and of a block its net stores
    abbrev pub kind_of : ℕ → FormedSite → ColumnKind
    kind_of t a =
        if (stage_of p plan a.site.0 == t) && is_needed t a.site.0
        then (if begins m a.site.0 then kind.Block else values_of a.form)
        else kind.Nothing

    -- .. of each site of the region
    abbrev pub region_kinds : ℕ → List ColumnKind
    region_kinds t = map (kind_of t) formed_sites
