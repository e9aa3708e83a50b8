-- Lists of words that a command takes, and what they name.
use Rattle.std.proofs.Common.{◌≡◌, refl, List, [], ◌∷◌, Some, None, true, false, codes}
use Rattle.clap.specs.Words.{Text}
use Rattle.clap.proofs.OnLiterals.{clap_on_literals}
use Rattle.dp_words.specs.Commands.{CommandTakes, audit_app, batch_app, check_app, explain_app, gen_app, log_app, plan_app, profile_app, resume_app, run_app}
use Rattle.dp_words.specs.Commands.{save_app, tree_app, value_given}
use Rattle.dp_words.specs.Words.{Names}
use Rattle.dp_words.specs.Run.{Least, Named, ShowsNamed, ShowsRun, source_of}
use Rattle.dp_words.specs.Planning.{ShowsPlanning}
use Rattle.dp_words.specs.Sites.{ShowsSites}
use Rattle.dp_words.specs.Profiling.{ShowsProfiling}
use Rattle.dp_words.specs.Made.{ShowsMade}
use Rattle.dp_words.specs.Saving.{ShowsSaving}

-- ---- the names alone

abbrev short_words : List Text
short_words = codes "p" ∷ []

short_run : Names run_app ShowsRun short_words
    (record {
      program = codes "p";
      input = None;
      source = Least None;
      options = record { rate = 10; stages = 4; workers = 2 };
      lane = 16;
      fuel = 10000000;
      why = false;
    })
unfolding clap_on_literals
short_run = record { taken = refl; shows = record { program = refl; input = refl; source = refl; options = refl; lane = refl; fuel = refl; why = refl } }

-- ---- every option, behind both names

abbrev full_words : List Text
full_words =
    codes "p" ∷ codes "i" ∷ codes "--plan" ∷ codes "f" ∷ codes "--workers" ∷ codes "8" ∷ codes "--lane" ∷ codes "1" ∷ codes "--fuel" ∷ codes "0"
    ∷ codes "--rate" ∷ codes "0" ∷ codes "--stages" ∷ codes "1" ∷ codes "--why" ∷ []

full_run : Names run_app ShowsRun full_words
    (record {
      program = codes "p";
      input = Some (codes "i");
      source = Named (codes "f");
      options = record { rate = 0; stages = 1; workers = 8 };
      lane = 1;
      fuel = 0;
      why = true;
    })
unfolding clap_on_literals
full_run = record { taken = refl; shows = record { program = refl; input = refl; source = refl; options = refl; lane = refl; fuel = refl; why = refl } }

-- ---- options in front of the names and between them, with `=`, with a plus and with zeros in front

abbrev mixed_words : List Text
mixed_words = codes "--lane=64" ∷ codes "p" ∷ codes "--fuel=+1000000000" ∷ codes "--workers" ∷ codes "01" ∷ codes "--profile=--why" ∷ codes "--"
    ∷ codes "--plan" ∷ []

mixed_run : Names run_app ShowsRun mixed_words
    (record {
      program = codes "p";
      input = Some (codes "--plan");
      source = Least (Some
          (codes "--why"));
      options = record { rate = 10; stages = 4; workers = 1 };
      lane = 64;
      fuel = 1000000000;
      why = false;
    })
unfolding clap_on_literals
mixed_run = record { taken = refl; shows = record { program = refl; input = refl; source = refl; options = refl; lane = refl; fuel = refl; why = refl } }

-- ---- both a text of plans and a profile: the command takes the words, and they name no run

abbrev both_words : List Text
both_words = codes "p" ∷ codes "--plan" ∷ codes "f" ∷ codes "--profile" ∷ codes "g" ∷ []

both_taken : CommandTakes run_app both_words
unfolding clap_on_literals
both_taken = refl

no_source : source_of (value_given run_app both_words (codes "plan")) (value_given run_app both_words (codes "profile")) ≡ None
unfolding clap_on_literals
no_source = refl

-- ---- the automatic plans, and the list of sites

short_plan : Names plan_app ShowsPlanning short_words (record { program = codes "p"; profile = None; options = record { rate = 10; stages = 4; workers = 2 } })
unfolding clap_on_literals
short_plan = record { taken = refl; shows = record { program = refl; profile = refl; options = refl } }

abbrev plan_words : List Text
plan_words = codes "--rate" ∷ codes "1000" ∷ codes "--profile" ∷ codes "f" ∷ codes "--stages=8" ∷ codes "p" ∷ codes "--workers" ∷ codes "3" ∷ []

full_plan : Names plan_app ShowsPlanning plan_words
    (record { program = codes "p"; profile = Some (codes "f"); options = record { rate = 1000; stages = 8; workers = 3 } })
unfolding clap_on_literals
full_plan = record { taken = refl; shows = record { program = refl; profile = refl; options = refl } }

one_program : Names check_app ShowsSites short_words (codes "p")
unfolding clap_on_literals
one_program = record { taken = refl; shows = refl }

-- ---- what the plans rest on, and a program as a tree

full_explanation : Names explain_app ShowsPlanning plan_words
    (record { program = codes "p"; profile = Some (codes "f"); options = record { rate = 1000; stages = 8; workers = 3 } })
unfolding clap_on_literals
full_explanation = record { taken = refl; shows = record { program = refl; profile = refl; options = refl } }

one_tree : Names tree_app ShowsSites short_words (codes "p")
unfolding clap_on_literals
one_tree = record { taken = refl; shows = refl }

-- ---- a profile

short_profile : Names profile_app ShowsProfiling short_words (record { program = codes "p"; input = None; fuel = 10000000 })
unfolding clap_on_literals
short_profile = record { taken = refl; shows = record { program = refl; input = refl; fuel = refl } }

abbrev profile_words : List Text
profile_words = codes "--fuel=1000000000" ∷ codes "p" ∷ codes "i" ∷ []

full_profile : Names profile_app ShowsProfiling profile_words (record { program = codes "p"; input = Some (codes "i"); fuel = 1000000000 })
unfolding clap_on_literals
full_profile = record { taken = refl; shows = record { program = refl; input = refl; fuel = refl } }

-- ---- the made program

abbrev least_words : List Text
least_words = codes "0" ∷ codes "1" ∷ []

least_made : Names gen_app ShowsMade least_words
    (record { seed = 0; size = 1; options = record { rate = 10; stages = 4; workers = 2 }; lane = 16; fuel = 10000000 })
unfolding clap_on_literals
least_made = record { taken = refl; shows = record { seed = refl; size = refl; options = refl; lane = refl; fuel = refl } }

abbrev most_words : List Text
most_words = codes "--lane=64" ∷ codes "2147483647" ∷ codes "--workers" ∷ codes "8" ∷ codes "+065536" ∷ []

most_made : Names gen_app ShowsMade most_words
    (record { seed = 2147483647; size = 65536; options = record { rate = 10; stages = 4; workers = 8 }; lane = 64; fuel = 10000000 })
unfolding clap_on_literals
most_made = record { taken = refl; shows = record { seed = refl; size = refl; options = refl; lane = refl; fuel = refl } }

-- ---- the log of a run, and the audit of one: by the options of a run without `--why`

short_log : Names log_app ShowsRun short_words
    (record {
      program = codes "p";
      input = None;
      source = Least None;
      options = record { rate = 10; stages = 4; workers = 2 };
      lane = 16;
      fuel = 10000000;
      why = false;
    })
unfolding clap_on_literals
short_log = record { taken = refl; shows = record { program = refl; input = refl; source = refl; options = refl; lane = refl; fuel = refl; why = refl } }

abbrev audit_words : List Text
audit_words =
    codes "p" ∷ codes "l" ∷ codes "i" ∷ codes "--plan" ∷ codes "f" ∷ codes "--workers" ∷ codes "8" ∷ codes "--lane" ∷ codes "1" ∷ codes "--fuel" ∷ codes "0"
    ∷ codes "--rate" ∷ codes "0" ∷ codes "--stages" ∷ codes "1" ∷ []

full_audit : Names audit_app (ShowsNamed (codes "log")) audit_words (
  (record {
    program = codes "p";
    input = Some (codes "i");
    source = Named (codes "f");
    options = record { rate = 0; stages = 1; workers = 8 };
    lane = 1;
    fuel = 0;
    why = false;
  }),
  codes "l",
)
unfolding clap_on_literals
full_audit = record {
  taken = refl;
  shows = record {
    run = record {
      program = refl;
      input = refl;
      source = refl;
      options = refl;
      lane = refl;
      fuel = refl;
      why = refl;
    };
    name = refl;
  };
}

-- ---- a run that is saved, and one that goes on: its fuel is the default, whatever the checkpoint says

abbrev save_words : List Text
save_words = codes "--after" ∷ codes "1000000000" ∷ codes "p" ∷ codes "--profile=g" ∷ codes "i" ∷ codes "--region=4294967295" ∷ codes "--fuel" ∷ codes "7" ∷ []

full_save : Names save_app ShowsSaving save_words (
  (record {
    program = codes "p";
    input = Some (codes "i");
    source = Least (Some (codes "g"));
    options = record { rate = 10; stages = 4; workers = 2 };
    lane = 16;
    fuel = 7;
    why = false;
  }),
  record { region = 4294967295; after = 1000000000 },
)
unfolding clap_on_literals
full_save = record {
  taken = refl;
  shows = record {
    run = record {
      program = refl;
      input = refl;
      source = refl;
      options = refl;
      lane = refl;
      fuel = refl;
      why = refl;
    };
    region = refl;
    after = refl;
  };
}

abbrev resume_words : List Text
resume_words = codes "p" ∷ codes "c" ∷ codes "--lane" ∷ codes "3" ∷ []

short_resume : Names resume_app (ShowsNamed (codes "checkpoint")) resume_words (
  (record {
    program = codes "p";
    input = None;
    source = Least None;
    options = record { rate = 10; stages = 4; workers = 2 };
    lane = 3;
    fuel = 10000000;
    why = false;
  }),
  codes "c",
)
unfolding clap_on_literals
short_resume = record {
  taken = refl;
  shows = record {
    run = record {
      program = refl;
      input = refl;
      source = refl;
      options = refl;
      lane = refl;
      fuel = refl;
      why = refl;
    };
    name = refl;
  };
}

-- ---- a run for each input of a list

abbrev batch_words : List Text
batch_words = codes "p" ∷ codes "l" ∷ codes "--stages" ∷ codes "3" ∷ []

short_batch : Names batch_app (ShowsNamed (codes "list")) batch_words (
  (record {
    program = codes "p";
    input = None;
    source = Least None;
    options = record { rate = 10; stages = 3; workers = 2 };
    lane = 16;
    fuel = 10000000;
    why = false;
  }),
  codes "l",
)
unfolding clap_on_literals
short_batch = record {
  taken = refl;
  shows = record {
    run = record {
      program = refl;
      input = refl;
      source = refl;
      options = refl;
      lane = refl;
      fuel = refl;
      why = refl;
    };
    name = refl;
  };
}
