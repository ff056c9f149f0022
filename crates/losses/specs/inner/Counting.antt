-- The counts as they grow set by set.
use Rattle.std.specs.Prelude.{◌+◌}
use Rattle.bank.specs.declared.bank.Bank.{Bank}
use Rattle.losses.specs.Losses.{nobody_runs, ends_with, one_if, losses}
use Rattle.losses.specs.declared.count.Losses.{Losses}

-- one set more, which ended in bank b
abbrev pub with_ended : Losses → Bank → Losses
with_ended l b =
    losses (l.kept + one_if (ends_with 1 b)) (l.lost + one_if (ends_with 0 b)) (l.none + one_if (nobody_runs b))
