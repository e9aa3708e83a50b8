-- The report counts the iteration; what is kept for causes begins a new epoch, or goes where no further one is listed.
use Rattle.std.proofs.Common.{refl, sym, ap, subst, ◌<◌, ◌≤◌, Bool, if◌then◌else◌, length, lt-ltb, le-ltb, Option, None, rules}
use Rattle.std.specs.Option.{option_map}
use Rattle.dp_base.specs.declared.Cause.{Cause}
use Rattle.dp_view.specs.Viewed.{Viewed}
use Rattle.dp_epoch.specs.Accounts.{CountsAgain, Explains, seen_again}
use Rattle.dp_epoch.proofs.account.Account.count_again.Goals as goal

pub returns-then-len-lt-LISTED-clause-ok : goal.returns-then-len-lt-LISTED-clause-ok
returns-then-len-lt-LISTED-clause-ok c =
    let few : length c.count_recovered.new.report.recovered < 1000 = search rules in
    let behind : Option Viewed = option_map seen_again c.args.self.now.views in
    subst (CountsAgain c.args.number c.args.end c.args.self.now) (sym c.begin_epoch.ensures)
    (record {
      report = λ region n again f e w.
          (c.in_ok-count_recovered.ensures.counted c.args.self.now.why region n again f e
          (subst (λ (told : Option Cause). Explains c.args.self.now.why again told (f c.args.number)) (sym c.cause_of-cause.ensures) w));
      why = refl;
      views = ap (λ (t : Bool). if t then behind else None) (sym (lt-ltb (length c.count_recovered.new.report.recovered) 1000 few));
    })

pub returns-else-len-lt-LISTED-clause-ok : goal.returns-else-len-lt-LISTED-clause-ok
returns-else-len-lt-LISTED-clause-ok c =
    let many : 1000 ≤ length c.count_recovered.new.report.recovered = search rules in
    let behind : Option Viewed = option_map seen_again c.args.self.now.views in
    record {
      report = λ region n again f e w.
          (c.in_ok-count_recovered.ensures.counted c.args.self.now.why region n again f e
          (subst (λ (told : Option Cause). Explains c.args.self.now.why again told (f c.args.number)) (sym c.cause_of-cause.ensures) w));
      why = refl;
      views = ap (λ (t : Bool). if t then behind else None) (sym (le-ltb (length c.count_recovered.new.report.recovered) 1000 many));
    }
