-- A column that is kept as a block goes through the calls as the core's column goes through its steps: the block that a call leaves is again one of the same
-- column and means what the step leaves, so that calls one after the other are steps one after the other. Assumes nothing.
use Rattle.std.specs.Prelude.{ℕ, ◌^◌, ◌<◌, ◌≡◌, refl, true, List, [], ◌∷◌, length}
use Rattle.std.proofs.Common.{sym, arith, eq-eqb}
use Rattle.column.specs.Refusals.{given}
use Rattle.column.specs.Packets.{Part, wide, doors_size, low_value, read}
use Rattle.column.specs.laws.PacketLaws.{write_read}
use Rattle.column.specs.laws.NumberLaws.{Bytes, low_value_lt}
use Rattle.column.specs.Steps as core
use Rattle.column.specs.declared.state.Column.{Column}
use Rattle.firmware.specs.declared.lone.QuietStep.{QuietStep}
use Rattle.firmware.specs.declared.lone.QuietStep.TheVariants.{Order, Rejoin}
use Rattle.firmware.specs.declared.lone.PuttingStep.{PuttingStep}
use Rattle.firmware.specs.declared.lone.PuttingStep.TheVariants.{Take}
use Rattle.firmware.specs.Blocks.{tree_in, is_column, own_in, column_in, column_bytes}
use Rattle.firmware.proofs.laws.BlockLaws.{ColumnFits, column_read_back, column_block, block_column_fits}
use Rattle.firmware.specs.LoneSteps.{rejoin}
use Rattle.firmware.specs.Calls.{quiet_left, quiet_call, doors_over, order_call, rejoin_call, step_left, step_call, take_call}
use Rattle.firmware.specs.inner.StepCalls.{quiet_of, putting_of}
use Rattle.firmware.specs.laws.CallLaws.{Blocks, StepBlocks, take_one, column_of}
use Rattle.firmware.proofs.laws.FitLaws.{after, QuietFits, quiet_fits, PuttingFits, putting_fits}

-- a block of column `own` that means c
pub record Means (s : List ℕ) (own : ℕ) (c : Column) : Type 0 where
  pub block : is_column s ≡ true
  pub own_number : own_in s ≡ own
  pub column : column_in s ≡ c

means : (own : ℕ) (c : Column) → ColumnFits c → Means (column_bytes own c) own c
means own c f = record { block = column_block own c; own_number = refl; column = column_read_back c f own }

module _ (tree column : List ℕ) (bytes : Bytes column) where
  quiet_left_lem : (r : core.Result) → is_column column ≡ true → ColumnFits (after (column_in column) r)
      → Means (quiet_left (own_in column) r column).buffer (own_in column) (after (column_in column) r)
  quiet_left_lem (core.accepted c ps left) b f = means (own_in column) c f
  quiet_left_lem (core.refused n c) b f = record { block = b; own_number = refl; column = refl }

  module _ (blocks : Blocks tree column) where
    pub quiet_steps : (x : QuietStep) → QuietFits x
        → Means (quiet_call (quiet_of x) tree column).buffer (own_in column) (after (column_in column) (quiet_of x (tree_in tree) (own_in column) (column_in column)))
    unfolding quiet_call
    quiet_steps x h =
        rw blocks.tested
        (quiet_left_lem (quiet_of x (tree_in tree) (own_in column) (column_in column)) (column_of tree column blocks.tested)
        (quiet_fits x (tree_in tree) (own_in column) (column_in column) (block_column_fits column bytes) h))

    module _ (doors : List ℕ) (door-bytes : Bytes doors) (l : length doors ≡ doors_size) where
      doors_fit : low_value doors < 256 ^ doors_size
      doors_fit = low_value_lt doors_size doors door-bytes (omega (arith, l))

      pub order_steps : Means (order_call tree column doors).buffer (own_in column)
          (after (column_in column) (core.order (tree_in tree) (own_in column) (column_in column) (low_value doors)))
      unfolding doors_over
      order_steps = rw (eq-eqb (length doors) doors_size l) (quiet_steps (Order (low_value doors)) doors_fit)

      pub rejoin_steps : (copied number halted : ℕ) → number < 256 ^ 4
          → Means (rejoin_call tree column copied number doors halted).buffer (own_in column)
          (after (column_in column) (rejoin (tree_in tree) (own_in column) (column_in column) copied number (low_value doors) halted))
      unfolding doors_over
      rejoin_steps copied number halted h =
          rw (eq-eqb (length doors) doors_size l) (quiet_steps (Rejoin (record { copied = copied; number = number; doors = low_value doors; halted = halted })) (h, doors_fit))

  module _ (put : List ℕ) (blocks : StepBlocks tree column put) where
    step_left_lem : (r : core.Result) → is_column column ≡ true → ColumnFits (after (column_in column) r)
        → Means (step_left (own_in column) r column put).column (own_in column) (after (column_in column) r)
    step_left_lem (core.accepted c [] left) b f = means (own_in column) c f
    step_left_lem (core.accepted c (p ∷ ps) left) b f = means (own_in column) c f
    step_left_lem (core.refused n c) b f = record { block = b; own_number = refl; column = refl }

    pub call_steps : (x : PuttingStep) → PuttingFits x
        → Means (step_call (putting_of x) tree column put).column (own_in column) (after (column_in column) (putting_of x (tree_in tree) (own_in column) (column_in column)))
    unfolding step_call
    call_steps x h =
        rw blocks.tested
        (step_left_lem (putting_of x (tree_in tree) (own_in column) (column_in column)) (column_of tree column blocks.blocks.tested)
        (putting_fits x (tree_in tree) (own_in column) (column_in column) (block_column_fits column bytes) h))

    pub take_steps : (packet : List ℕ) → Bytes packet → (q : Part) → read packet ≡ given q
        → Means (take_call tree column packet put).column (own_in column) (after (column_in column) (core.take (tree_in tree) (own_in column) (column_in column) q.packet))
    take_steps packet h q e =
        rw (← take_one tree column put packet q (sym e)) (call_steps (Take q.packet) (write_read wide packet h q e).fits)
