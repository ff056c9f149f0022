-- Worked examples of blocks: memory that was never written is none, a tree is no column and a column no tree, nor is a block of the layout before this one.
use Rattle.std.specs.Prelude.{◌≡◌, refl, true, false, [], ◌∷◌, ◌++◌, replicate}
use Rattle.column.specs.Packets.{low_first}
use Rattle.column.specs.Trees.{ascending, tree_by}
use Rattle.column.specs.declared.tree.Tree.{Tree}
use Rattle.column.specs.declared.state.Column.{Column}
use Rattle.firmware.specs.Blocks.{is_tree, tree_bytes, is_column, column_bytes}

pub no_tree_of_zeros : is_tree (replicate 35 0) ≡ false
no_tree_of_zeros = refl

pub no_tree_of_ones : is_tree (replicate 35 255) ≡ false
no_tree_of_ones = refl

pub no_column_of_zeros : is_column (replicate 25 0) ≡ false
no_column_of_zeros = refl

pub no_column_of_ones : is_column (replicate 25 255) ≡ false
no_column_of_ones = refl

-- three columns, senders watched
abbrev tree : Tree
tree = tree_by 3 0 (0 ∷ 0 ∷ 1 ∷ replicate 13 0) ascending true

-- column 2 with every field apart
abbrev column : Column
column =
    record {
      doors = 513;
      number = 16909060;
      send = 1;
      awaited = 2;
      owed = 772;
      noted = 5;
      running = true;
      whole = false;
      sender = 1;
      mask = 7;
      pending = 9;
    }

pub tree_of_three : tree_bytes tree ≡ 18 ∷ 131 ∷ 0 ∷ (0 ∷ 0 ∷ 1 ∷ replicate 13 0) ++ ascending
tree_of_three = refl

pub column_of_two : column_bytes 2 column
    ≡ 34 ∷ 2 ∷ 1 ∷ 2 ∷ 0 ∷ 0 ∷ 0 ∷ 0 ∷ 0 ∷ 0 ∷ 1 ∷ 2 ∷ 3 ∷ 4 ∷ 0 ∷ 1 ∷ 0 ∷ 2 ∷ 3 ∷ 4 ∷ 0 ∷ 5 ∷ 5 ∷ 7 ∷ 9 ∷ []
unfolding low_first
column_of_two = refl

-- as many bytes as the other kind has, and with its layout
pub tree_no_column : is_column (tree_bytes tree) ≡ false
tree_no_column = refl

pub column_no_tree : is_tree (column_bytes 2 column ++ replicate 10 0) ≡ false
unfolding low_first
column_no_tree = refl

-- the layout before this one has the doors first
pub older_no_column : is_column (low_first 8 513 ++ replicate 17 0) ≡ false
unfolding low_first
older_no_column = refl
