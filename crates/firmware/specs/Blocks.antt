-- Blocks of bytes in which a caller in C keeps a tree and a column, field by field: no paper names them. Numbers of several bytes have the
-- highest first, doors byte 0 first, as in packets. Bytes of the size and the layout of a block always mean a tree or a column.
use Rattle.std.specs.Prelude.{ℕ, ◌+◌, ◌*◌, ◌/◌, ◌%◌, Bool, ◌&&◌, cond, List, [], ◌∷◌, ◌++◌, eqb, leb, length, take, drop, get_or}
use Rattle.column.specs.Packets.{low_first, low_value, high_first, high_value, number_size, doors_size}
use Rattle.column.specs.declared.tree.Tree.{Tree}
use Rattle.column.specs.declared.state.Column.{Column}

abbrev pub bit : Bool → ℕ
bit b = cond b 1 0

-- a block has its size, and its layout in byte 0
abbrev pub is_block : ℕ → ℕ → List ℕ → Bool
is_block size layout s = eqb (length s) size && eqb (get_or s 0 0) layout

-- ---- a tree: layout, columns with the watch, root, sixteen parents, the sequence of sixteen

abbrev pub tree_size : ℕ
tree_size = 35

-- 0x12
abbrev pub tree_layout : ℕ
tree_layout = 18

abbrev pub is_tree : List ℕ → Bool
is_tree s = is_block tree_size tree_layout s

-- byte 1: bits 0 to 6 the count of columns, bit 7 whether a column watches the one that sent its record
abbrev pub tree_in : List ℕ → Tree
tree_in s =
    record {
      columns = get_or s 1 0 % 128;
      root = get_or s 2 0;
      up = take 16 (drop 3 s);
      first = take 16 (drop 19 s);
      watch = leb 128 (get_or s 1 0);
    }

abbrev pub tree_bytes : Tree → List ℕ
tree_bytes t = tree_layout ∷ (t.columns % 128 + bit t.watch * 128) ∷ t.root % 256 ∷ (t.up ++ t.first)

-- ---- a column: layout, its own number, doors, number, four sets, status, and the page's mask and what is pending

abbrev pub column_size : ℕ
column_size = 25

-- 0x22
abbrev pub column_layout : ℕ
column_layout = 34

abbrev pub is_column : List ℕ → Bool
is_column s = is_block column_size column_layout s

abbrev pub set_size : ℕ
set_size = 2

-- the status: bit 0 whether it runs, bit 1 whether its goal is the whole bank, bits 2 to 7 who sent its record
abbrev pub status_of : Column → ℕ
status_of c = bit c.running + (bit c.whole * 2 + c.sender % 64 * 4)

-- the bytes of a number from a place on
abbrev pub field_in : List ℕ → ℕ → ℕ → ℕ
field_in s at size = high_value (take size (drop at s))

-- which column of the bank it is
abbrev pub own_in : List ℕ → ℕ
own_in s = get_or s 1 0

abbrev pub column_in : List ℕ → Column
column_in s =
    record {
      doors = low_value (take doors_size (drop 2 s));
      number = field_in s 10 number_size;
      send = field_in s 14 set_size;
      awaited = field_in s 16 set_size;
      owed = field_in s 18 set_size;
      noted = field_in s 20 set_size;
      running = eqb (get_or s 22 0 % 2) 1;
      whole = eqb (get_or s 22 0 / 2 % 2) 1;
      sender = get_or s 22 0 / 4;
      mask = get_or s 23 0;
      pending = get_or s 24 0;
    }

abbrev pub column_bytes : ℕ → Column → List ℕ
column_bytes own c =
    column_layout
    ∷ own
    ∷ (low_first doors_size c.doors
    ++ (high_first number_size c.number
    ++ (high_first set_size c.send
    ++ (high_first set_size c.awaited
    ++ (high_first set_size c.owed
    ++ (high_first set_size c.noted
    ++ (status_of c ∷ c.mask ∷ c.pending ∷ [])))))))

-- the blocks of a tree and of one of its columns
abbrev pub are_blocks : List ℕ → List ℕ → Bool
are_blocks tree column = is_tree tree && is_column column
