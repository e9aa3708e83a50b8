use Rattle.std.proofs.Common.{refl}
use Rattle.dp_words.proofs.verb.verb_line.Goals as goal

pub find-requires : goal.find-requires
find-requires c = (
  record { named = refl; rules = refl },
  (
    record { named = refl; rules = refl },
    (
      record { named = refl; rules = refl },
      (
        record { named = refl; rules = refl },
        (
          record { named = refl; rules = refl },
          (
            record { named = refl; rules = refl },
            (
              record { named = refl; rules = refl },
              (
                record { named = refl; rules = refl },
                (
                  record { named = refl; rules = refl },
                  (record { named = refl; rules = refl }, (record { named = refl; rules = refl }, (record { named = refl; rules = refl }, tt))),
                ),
              ),
            ),
          ),
        ),
      ),
    ),
  ),
)
