-- A checked program with call frames and its expansion do the same.
use Rattle.std.proofs.Common.{◌≡◌, inl, refl, sym, ap, ◌∙◌, subst, ℕ, true, ◌+◌, ◌<◌, ◌≤◌, List, [], ◌∷◌, ◌++◌, ℤ, length, append-nil, Some, slice_get, arith}
use Rattle.std.proofs.lemmas.Option.{slice_get_within}
use Rattle.dp_base.specs.declared.VarId.{VarId}
use Rattle.dp_room.proofs.ListLemmas.{at_index}
use Rattle.dp_tree.specs.declared.Stmt.{Stmt}
use Rattle.dp_tree.specs.declared.VarInfo.{VarInfo}
use Rattle.dp_tree.specs.declared.Program.{Program}
use Rattle.dp_tree.specs.Checked.{IsChecked}
use Rattle.dp_tree.specs.Globals.{globals_in}
use Rattle.dp_tree.specs.Scoping.{sees, global_numbers}
use Rattle.dp_tree.specs.Step.{standing}
use Rattle.dp_tree.specs.Trace.{start_cells, begin}
use Rattle.dp_calls.specs.Frame.{global_count, fresh_frame, new_frame, frames_settled}
use Rattle.dp_calls.specs.Frames.{start_state}
use Rattle.dp_calls.specs.Tables.{first_tables}
use Rattle.dp_calls.specs.Expand.{Piece, expand_list, calls_within, expand}
use Rattle.dp_calls.specs.Meaning.{SameMeaning}
use Rattle.dp_tree.proofs.Heads.{standing_to_do}
use Rattle.dp_calls.proofs.Relation.{Env, PlaceOf, file_count, Laid, IsEnv, Block}
use Rattle.dp_calls.proofs.SameValues.{numbers_below}
use Rattle.dp_calls.proofs.Stacks.{Suits, bottom, Sim, Alike}
use Rattle.dp_calls.proofs.Settles.{file_agree, block_todo, settles_running}
use Rattle.dp_calls.proofs.Simulation.{outcomes_alike}
use Rattle.dp_calls.proofs.Tabled.{Lies}
use Rattle.dp_calls.proofs.Named.{names_none, steps_not}
use Rattle.dp_calls.proofs.Made.{Closes}
use Rattle.dp_calls.proofs.Layouts.{places_of, file_before, files_within, locals_long, files_again}
use Rattle.dp_calls.proofs.CheckedTexts.{main_listed, main_scoped, text_of}
use Rattle.dp_calls.proofs.Whole.{Linked, MainMade, main_made}

module _ (p : Program) (checked : IsChecked p) where
  abbrev pub places : (x : ℕ) (info : VarInfo) → slice_get p.vars x ≡ Some info → PlaceOf (file_count p) (global_count p) x info
  places = places_of p checked.globals checked.cells

  abbrev pub there : file_count p ≤ length p.vars
  there = files_within p checked.globals checked.cells

  abbrev pub whole : Piece
  whole = expand_list p (calls_within p (length p.functions)) 0 p.main [] (first_tables p)

  pub first_lies : Lies p (first_tables p)
  first_lies = record {
    place = λ k info at.
        (let less : k < file_count p = slice_get_within (globals_in p.vars) k info at in places k info (sym (file_before p checked.globals checked.cells k less)
        ∙ at));
    cells = refl;
    above = omega arith;
    own = [];
    start = sym (append-nil (start_cells (globals_in p.vars)));
    room = omega arith;
  }

  pub files_below : (x : VarId) → sees (global_numbers p) x ≡ true → x.0 < file_count p
  files_below x at = let below : x.0 < 0 + file_count p = numbers_below 0 (file_count p) x at in omega (arith, below)

  pub made : MainMade p (expand p) places there (text_of p checked) (global_numbers p) [] (first_tables p) p.main whole
  made =
      main_made p (expand p) places there (text_of p checked) 1 p.main (global_numbers p) [] (first_tables p) (main_scoped p checked) checked.regions
      (main_listed p checked)
      (names_none p Linked (file_count p) (first_tables p) (omega arith), first_lies, (λ x at. inl (files_below x at)), (λ x at. inl (files_below x at)))

  abbrev pub main_env : Env
  main_env = record { low = file_count p; high = length whole.tables.vars; names = whole.names; calls = length p.functions }

  pub ends_there : Closes p (expand p) (file_count p) (length p.functions) whole.names whole.tables main_env
  ends_there = record {
    begins = refl;
    may_call = refl;
    high = omega arith;
    ends = steps_not whole.names (length whole.tables.vars);
    into = record { vars = λ k info at. at; sites = λ k info at. at; long = omega arith; files = refl };
    files = λ x y at. (made.named.source x y at).0;
  }

  pub block : Block p (expand p) main_env (global_numbers p) p.main whole.code
  block = made.becomes main_env ends_there

  same_file : (x : ℕ) → x < file_count p → slice_get (expand p).vars x ≡ slice_get p.vars x
  same_file x less =
      let found = at_index (globals_in p.vars) x less in
      made.grows.vars x found.0 found.1 ∙ sym found.1 ∙ file_before p checked.globals checked.cells x less

  laid : Laid p (expand p)
  laid = record {
    before = places;
    after = made.lies.place;
    same = same_file;
    there = there;
    locals = locals_long p checked.globals checked.cells;
  }

  pub main_is_env : IsEnv p (expand p) main_env
  main_is_env = record {
    source = made.named.source;
    target = made.named.target;
    apart = made.named.apart;
    above = omega arith;
    within = omega arith;
    earlier = omega arith;
  }

  suits : Suits p (expand p) main_env (global_numbers p) (new_frame p p.main) whole.code made.lies.own
  suits = record {
    env = main_is_env;
    todo = block_todo p (expand p) laid block;
    agree = file_agree p (expand p) laid main_env (fresh_frame p) made.lies.own;
    room = (laid.locals, made.lies.room);
    callee = refl;
  }

  same_count : global_count (expand p) ≡ global_count p
  same_count = ap (λ (vs : List VarInfo). length (start_cells vs)) (made.grows.files ∙ files_again p.vars)

  starts_alike : Alike p (expand p) (start_state p) (begin (expand p))
  starts_alike =
      let s = settles_running p (expand p) laid suits bottom in let same : whole.code ++ [] ≡ whole.code = append-nil whole.code in
      record {
        own = s.own;
        whole = refl;
        cells = ap (λ (m : List ℤ). (standing (expand p) whole.code m).cells) made.lies.start
            ∙ sym (ap (λ (xs : List Stmt). (standing (expand p) xs (start_cells (globals_in p.vars) ++ made.lies.own)).cells) same)
            ∙ s.stands (start_cells (globals_in p.vars)) refl;
        sim = subst (λ (xs : List Stmt). Sim p (expand p) s.own (frames_settled p (new_frame p p.main ∷ [])) xs) (same
            ∙ sym (standing_to_do (expand p) whole.code (start_cells (expand p).vars))) s.sim;
      }

  pub same_meaning : SameMeaning p
  same_meaning input fuel = outcomes_alike p (expand p) laid input same_count fuel (start_state p) (begin (expand p)) starts_alike

  -- the place of each variable of the expanded program, and its file-scope ones
  pub expanded_place : (y : ℕ) (info : VarInfo) → slice_get (expand p).vars y ≡ Some info → PlaceOf (file_count p) (global_count p) y info
  expanded_place = made.lies.place

  pub expanded_files : (x : ℕ) (info : VarInfo) → slice_get (globals_in p.vars) x ≡ Some info → slice_get (expand p).vars x ≡ Some info
  expanded_files = made.grows.vars
