-- What each way through a call answers and leaves, for the proofs of the calls. Assumes nothing.
use Rattle.std.specs.Prelude.{ℕ, ◌<◌, ◌≤◌, ◌≡◌, refl, Bool, true, false, cond, List, eqb, length, get_or}
use Rattle.std.proofs.Math.Path.{ap, ap₂}
use Rattle.std.proofs.Common.{◌∙◌, arith, eqb-true}
use Rattle.column.specs.laws.Cases.{and_left, and_right}
use Rattle.column.specs.Refusals.{given, refused}
use Rattle.column.specs.Trees.{column_refusal}
use Rattle.column.specs.laws.TreeLaws.{column_accepted}
use Rattle.column.specs.Columns.{fresh, fresh_given, validity_refusal, with_registers}
use Rattle.column.specs.Packets.{Part, read}
use Rattle.column.specs.Pages as page
use Rattle.column.specs.Steps as core
use Rattle.column.specs.Sets.{minus}
use Rattle.column.specs.laws.PageExact.{read_above, read_within, write_elsewhere, write_mask, write_clear}
use Rattle.column.specs.declared.tree.Tree.{Tree}
use Rattle.column.specs.declared.state.Column.{Column}
use Rattle.firmware.specs.declared.lone.PuttingStep.TheVariants.{Take}
use Rattle.firmware.specs.Blocks.{is_block, tree_size, tree_layout, is_tree, tree_in, column_size, column_layout, is_column, own_in, column_in, are_blocks, column_bytes}
use Rattle.firmware.specs.Calls.{other_block, packet_size, Filled, unfilled, quiet_left, quiet_call, Called, uncalled, step_left, step_blocks, step_call, take_call, byte_call, filled_meant, write_call}
use Rattle.firmware.specs.inner.StepCalls.{putting_of}

-- ---- blocks

block_size : (size layout : ℕ) (s : List ℕ) → is_block size layout s ≡ true → length s ≡ size
block_size size layout s e = eqb-true (length s) size (and_left (eqb (length s) size) (eqb (get_or s 0 0) layout) e)

block_layout : (size layout : ℕ) (s : List ℕ) → is_block size layout s ≡ true → get_or s 0 0 ≡ layout
block_layout size layout s e = eqb-true (get_or s 0 0) layout (and_right (eqb (length s) size) (eqb (get_or s 0 0) layout) e)

pub tree_layout_lem : (s : List ℕ) → is_tree s ≡ true → get_or s 0 0 ≡ tree_layout
tree_layout_lem s e = block_layout tree_size tree_layout s e

pub column_layout_lem : (s : List ℕ) → is_column s ≡ true → get_or s 0 0 ≡ column_layout
column_layout_lem s e = block_layout column_size column_layout s e

pub tree_size_lem : (s : List ℕ) → is_tree s ≡ true → length s ≡ tree_size
tree_size_lem s e = block_size tree_size tree_layout s e

pub column_size_lem : (s : List ℕ) → is_column s ≡ true → length s ≡ column_size
column_size_lem s e = block_size column_size column_layout s e

-- bytes are the blocks of a tree and of a column
pub record Blocks (tree column : List ℕ) : Type 0 where
  pub tested : are_blocks tree column ≡ true
  pub tree_size_lem : length tree ≡ tree_size
  pub column_size_lem : length column ≡ column_size

pub blocks : (tree column : List ℕ) → are_blocks tree column ≡ true → Blocks tree column
blocks tree column e = record {
  tested = e;
  tree_size_lem = tree_size_lem tree (and_left (is_tree tree) (is_column column) e);
  column_size_lem = column_size_lem column (and_right (is_tree tree) (is_column column) e);
}

pub column_of : (tree column : List ℕ) → are_blocks tree column ≡ true → is_column column ≡ true
column_of tree column e = and_right (is_tree tree) (is_column column) e

-- ---- steps that put nothing

module _ (tree column : List ℕ) (step : Tree → ℕ → Column → core.Result) where
  -- bytes that are no blocks
  pub quiet_unfit : are_blocks tree column ≡ false → unfilled other_block column ≡ quiet_call step tree column
  unfolding quiet_call
  quiet_unfit e = rw e

  -- the step on what the blocks mean
  pub quiet_fit : {after : Filled} {o : core.Result} {t : Tree} {i : ℕ} {c : Column} → are_blocks tree column ≡ true → after ≡ quiet_left i o column → o ≡ step t i c
      → t ≡ tree_in tree → i ≡ own_in column → c ≡ column_in column → after ≡ quiet_call step tree column
  unfolding quiet_call
  quiet_fit {after} {o} {t} {i} {c} f left is tree_is own_is column_is =
      rw f
      (left ∙ ap₂ (λ (k : ℕ) (x : core.Result). quiet_left k x column) own_is
      (is ∙ ap₂ (λ (x : Tree) (y : Column). step x i y) tree_is column_is ∙ ap (λ (k : ℕ). step (tree_in tree) k (column_in column)) own_is))

-- ---- steps that may put a packet

-- the bytes of a step are the blocks that it asks for
pub record StepBlocks (tree column put : List ℕ) : Type 0 where
  pub tested : step_blocks tree column (length put) ≡ true
  pub blocks : Blocks tree column
  pub put_size : length put ≡ packet_size

pub step_blocks_lem : (tree column put : List ℕ) → step_blocks tree column (length put) ≡ true → StepBlocks tree column put
step_blocks_lem tree column put e =
    let both = are_blocks tree column in
    record {
      tested = e;
      blocks = blocks tree column (and_left both (eqb (length put) packet_size) e);
      put_size = eqb-true (length put) packet_size (and_right both (eqb (length put) packet_size) e);
    }

module _ (tree column put : List ℕ) where
  abbrev fit : Bool
  fit = step_blocks tree column (length put)

  module _ (step : Tree → ℕ → Column → core.Result) where
    pub step_unfit : fit ≡ false → uncalled other_block column put ≡ step_call step tree column put
    unfolding step_call
    step_unfit e = rw e

    pub step_fit : {after : Called} {o : core.Result} {t : Tree} {i : ℕ} {c : Column} → fit ≡ true → after ≡ step_left i o column put → o ≡ step t i c
        → t ≡ tree_in tree → i ≡ own_in column → c ≡ column_in column → after ≡ step_call step tree column put
    unfolding step_call
    step_fit {after} {o} {t} {i} {c} f left is tree_is own_is column_is =
        rw f
        (left ∙ ap₂ (λ (k : ℕ) (x : core.Result). step_left k x column put) own_is
        (is ∙ ap₂ (λ (x : Tree) (y : Column). step x i y) tree_is column_is ∙ ap (λ (k : ℕ). step (tree_in tree) k (column_in column)) own_is))

  -- a packet is read before the step is looked at
  module _ (packet : List ℕ) where
    pub take_unfit : fit ≡ false → uncalled other_block column put ≡ take_call tree column packet put
    unfolding take_call
    take_unfit e = rw e

    pub take_none : (n : ℕ) → fit ≡ true → refused n ≡ read packet → uncalled n column put ≡ take_call tree column packet put
    unfolding take_call
    take_none n e r = rw (e, ← r)

    pub take_one : (q : Part) → given q ≡ read packet → step_call (putting_of (Take q.packet)) tree column put ≡ take_call tree column packet put
    unfolding step_call take_call
    take_one q r = rw (← r)

-- ---- a column as it begins

-- its own number is one of sixteen
pub fresh_column : (t : Tree) (i : ℕ) (c : Column) → given c ≡ fresh_given t i → i < 16
fresh_column t i c = go (eqb (column_refusal t i) 0) refl
  where
    go : (b : Bool) → eqb (column_refusal t i) 0 ≡ b → given c ≡ cond b (given (fresh t i)) (refused (column_refusal t i)) → i < 16
    go true z e = let q = column_accepted t i (eqb-true (column_refusal t i) 0 z) in omega (arith, q.0, q.1)
    go false z e = let w : ◌≡◌ {A = ℕ} 0 1 = cc in absurd (omega arith)

module _ (tree column : List ℕ) (blocks : are_blocks tree column ≡ true) where
  abbrev here : Column
  here = column_in column

  module _ (good : validity_refusal (tree_in tree) (own_in column) (column_in column) ≡ 0) where
    -- "22 for an offset above 7", and for no other
    pub byte_above : (offset : ℕ) → 7 < offset → byte_call tree column offset ≡ 1022
    unfolding byte_call
    byte_above offset h = rw (blocks, read_above (tree_in tree) (own_in column) here good offset h)

    pub byte_within : (offset : ℕ) → offset ≤ 7 → byte_call tree column offset ≡ page.byte_of (own_in column) here offset
    unfolding byte_call
    byte_within offset h = rw (blocks, read_within (tree_in tree) (own_in column) here good offset h)

    -- "or a write elsewhere": every lent byte is as it was
    pub elsewhere_called : (offset value : ℕ) → (offset ≡ 5 → ⊥) → (offset ≡ 7 → ⊥) → write_call tree column offset value ≡ filled_meant 1022 column
    unfolding quiet_call
    elsewhere_called offset value h k = rw (blocks, write_elsewhere (tree_in tree) (own_in column) here good offset value h k)

    -- "Byte 5 keeps all eight bits written"
    pub mask_called : (value : ℕ) → write_call tree column 5 value ≡ filled_meant 0 (column_bytes (own_in column) (with_registers here value here.pending))
    unfolding quiet_call
    mask_called value = rw (blocks, write_mask (tree_in tree) (own_in column) here good value)

    -- "a write there clears the pending bits that are 1 in it"
    pub clear_called : (value : ℕ)
        → write_call tree column 7 value ≡ filled_meant 0 (column_bytes (own_in column) (with_registers here here.mask (minus here.pending value)))
    unfolding quiet_call
    clear_called value = rw (blocks, write_clear (tree_in tree) (own_in column) here good value)
