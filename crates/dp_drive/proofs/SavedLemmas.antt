-- The checkpoint that a run of a program that is read leaves is read back.
use Rattle.std.proofs.Common.{◌≡◌, refl, ap, subst, List, ℕ, Option, Result, Ok}
use Rattle.dp_tree.specs.declared.Program.{Program}
use Rattle.dp_calls.specs.Expand.{expand}
use Rattle.dp_report.specs.Generator.{made_text}
use Rattle.dp_refusal.specs.declared.refusal.Refusal.{Refusal}
use Rattle.dp_run.specs.RunText.{source_run}
use Rattle.dp_resume.specs.Saved.{text_before}
use Rattle.dp_resume.proofs.SavedFits.{checkpoint_is_read}
use Rattle.dp_load.specs.Program.{Reads, ReadsAs}
use Rattle.dp_load.specs.Roles.{Contents, MadeProgram, NamedProgram, ProgramOf}
use Rattle.dp_load.proofs.accepted.Accepted.{inlined_read}
use Rattle.dp_load.proofs.accepted.AtHome.{input_fits, programs_at_home}
use Rattle.dp_load.proofs.accepted.Given.{few_words}
use Rattle.dp_load.proofs.accepted.ReadStarts.{run_starts_clear}
use Rattle.dp_drive.specs.Pieces.{saved_at_place}
use Rattle.dp_drive.specs.SavedText.{SavedTextsAreRead}

-- the text that the program is read from
program_text : {contents : Contents} {name : Option (List ℕ)} {o : Result Program Refusal} (p : Program) → ProgramOf contents name o → o ≡ Ok p →
    (text : List ℕ) × Reads text (Ok p)
program_text p (MadeProgram read r) e = (made_text, subst (Reads made_text) e r)
program_text p (NamedProgram name text read held r) e = (text, subst (Reads text) e r)

-- what is run for it
run_for : (text : List ℕ) (p : Program) → Reads text (Ok p) → ReadsAs text (Ok (expand p))
run_for text p reads = record { source = Ok p; reads = reads; is = refl }

pub saved_read : (contents : Contents) → SavedTextsAreRead contents
saved_read contents program input p numbers plans fuel k place h l given most reached =
    let t = program_text p h refl in
    let home = programs_at_home t.0 (expand p) (run_for t.0 p t.1) in
    record {
      before = text_before (source_run (expand p) numbers fuel) k;
      is = ap (saved_at_place p plans numbers fuel place) reached;
      read = checkpoint_is_read (expand p) plans (record { inlined = inlined_read t.0 p t.1; plans_are = given }) home.0
          (run_starts_clear t.0 (expand p) (run_for t.0 p t.1)) home.1
          numbers fuel place.region place.after k (few_words numbers l refl) (input_fits contents input numbers l) most reached;
    }
