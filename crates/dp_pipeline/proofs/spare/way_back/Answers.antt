use denote.Param.Send.{sendable}
use Rattle.dp_pipeline.proofs.Crossing.{spare_send}
use Rattle.std.proofs.Common.{false, sym, ap, ◌∙◌, subst, refl}
use Rattle.dp_lane.specs.Ends.{End}
use Rattle.dp_lean_region.specs.Line.{IsLineOf}
use Rattle.dp_lean_region.specs.declared.line.Line.{Line}
use Rattle.dp_pipeline.specs.declared.keys.LaneKey.{LaneKey}
use Rattle.dp_pipeline.specs.Carried.{lean_of}
use Rattle.dp_pipeline.specs.Keys.{key_of}
use Rattle.dp_pipeline.proofs.Supplied.{last_line}
use Rattle.dp_pipeline.proofs.spare.way_back.Goals as goal

pub lane-requires-send-T : goal.lane-requires-send-T
lane-requires-send-T c κs within = search (spare_send, sendable) depth 60 fits 20000

pub returns-clause-back : goal.returns-clause-back
returns-clause-back c = (
  c.args.key.now.stage,
  0,
  record { lane = c.args.key.now; ended = false; view_is = ap (λ (e : End LaneKey). e.view) c.in_ok-end.ensures.sender; epoch = refl; stage = refl },
)

pub returns-clause-supply : goal.returns-clause-supply
returns-clause-supply c =
    let key = key_of c.args.key.now.epoch in record {
      epoch = c.requires.lean;
      line = subst (λ (l : Line). IsLineOf (lean_of key) l) (sym c.in_ok-supply.ensures.line) c.requires.line;
      spares = (
        c.args.key.now.stage,
        0,
        record {
          lane = c.args.key.now;
          view_is = ap (λ (e : End LaneKey). e.view) (c.in_ok-supply.ensures.spares
              ∙ c.in_ok-end.ensures.taker);
          epoch = refl;
          stage = refl;
        },
      );
      last = last_line key c.args.line c.in_ok-supply.supply.last c.requires.line c.in_ok-supply.ensures.last;
    }
