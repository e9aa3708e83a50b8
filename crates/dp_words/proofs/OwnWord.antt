-- A verb has its own word.
use Rattle.std.proofs.Common.{◌≡◌, ◌∙◌, ap, sym, refl, Option, Some, None, codes, if◌then◌else◌}
use Rattle.std.specs.Str.{bytes_eq}
use Rattle.clap.specs.Words.{Text}
use Rattle.dp_words.specs.declared.verb.Verb.{Verb}
use Rattle.dp_words.specs.declared.verb.Verb.TheVariants as verb
use Rattle.dp_words.specs.steps.Verbs.{verb_name}

-- the verb with this word
verb_with : Text → Option Verb
verb_with text =
    if bytes_eq text (codes "run") then Some verb.Run else (if bytes_eq text (codes "plan") then Some verb.Plan
    else (if bytes_eq text (codes "check") then Some verb.Check else (if bytes_eq text (codes "profile") then Some verb.Profile
    else (if bytes_eq text (codes "gen") then Some verb.Gen else (if bytes_eq text (codes "log") then Some verb.Log
    else (if bytes_eq text (codes "audit") then Some verb.Audit else (if bytes_eq text (codes "save") then Some verb.Save
    else (if bytes_eq text (codes "resume") then Some verb.Resume else (if bytes_eq text (codes "batch") then Some verb.Batch
    else (if bytes_eq text (codes "explain") then Some verb.Explain else (if bytes_eq text (codes "tree") then Some verb.Tree else None)))))))))))

with_name : (v : Verb) → verb_with (verb_name v) ≡ Some v
unfolding verb_with
with_name verb.Run = refl
with_name v = refl

pub same_verb : (v w : Verb) → verb_name v ≡ verb_name w → v ≡ w
same_verb v w e =
    let both : Some v ≡ Some w = sym (with_name v) ∙ ap verb_with e ∙ with_name w in
    cc both
