-- Blocks written and read back are the same, both ways: every block of its size and layout is that of the tree or column that it means, and a tree or column
-- whose fields its block can hold is the one that its block means. Assumes nothing.
use Rattle.std.specs.Prelude.{ℕ, zero, suc, ◌+◌, ◌*◌, ◌/◌, ◌%◌, ◌^◌, ◌≤◌, ◌<◌, ◌≡◌, refl, Bool, true, false, List, [], ◌∷◌, ◌++◌, eqb, leb, length, take, drop, get_or}
use Rattle.std.proofs.Common.{sym, ap, ◌∙◌, arith, length-append, length-take, length-drop, take-append-drop, drop_of_length-le, shr-shr, drop-drop, drop-cons, take_at, take_all, length-take-le, eq-eqb, ne_eqb, le-leb, leb-true, leb-false}
use Rattle.std.proofs.Math.Path.{ap₂}
use Rattle.std.proofs.Math.Seq.{drop-append_seam}
use Rattle.std.proofs.lemmas.Bool.{lt-leb}
use Rattle.column.specs.Packets.{low_first, low_value, high_first, high_value}
use Rattle.column.specs.laws.NumberLaws.{Bytes, part_length, part_bytes, low_value_lt, low_value_first, low_first_value, high_value_lt, high_value_first, high_first_value}
use Rattle.column.specs.declared.tree.Tree.{Tree}
use Rattle.column.specs.declared.state.Column.{Column}
use Rattle.firmware.specs.Blocks.{bit, tree_size, tree_layout, is_tree, tree_in, tree_bytes, column_size, column_layout, is_column, own_in, column_in, column_bytes, status_of}
use Rattle.firmware.specs.laws.CallLaws.{tree_size_lem, column_size_lem, tree_layout_lem, column_layout_lem}

-- a part and what follows it
chunk : (s : List ℕ) (at n : ℕ) → take n (drop at s) ++ drop (at + n) s ≡ drop at s
chunk s at n = rw (← drop-drop n at s) (take-append-drop n (drop at s))

-- ---- a tree

pub record TreeFits (t : Tree) : Type 0 where
  pub columns : t.columns < 128
  pub root : t.root < 256
  pub up : length t.up ≡ 16
  pub first : length t.first ≡ 16

-- every block means such a tree
pub block_tree_fits : (s : List ℕ) → Bytes s → is_tree s ≡ true → TreeFits (tree_in s)
block_tree_fits s h e =
    let l = tree_size_lem s e in
    record {
      columns = omega arith;
      root = h 2;
      up = length-take-le 16 (drop 3 s) (simp length-drop (omega (arith, l)));
      first = length-take-le 16 (drop 19 s) (simp length-drop (omega (arith, l)));
    }

-- and what is written of such a tree is a block
pub tree_block : (t : Tree) → TreeFits t → is_tree (tree_bytes t) ≡ true
tree_block t f = rw (eq-eqb (length (tree_bytes t)) tree_size (omega (arith, length-append t.up t.first, f.up, f.first)))

watch_back : (n : ℕ) (w : Bool) → n < 128 → leb 128 (n % 128 + bit w * 128) ≡ w
watch_back n true h = le-leb 128 (n % 128 + 1 * 128) (omega arith)
watch_back n false h = lt-leb 128 (n % 128 + 0 * 128) (omega arith)

columns_back : (n : ℕ) (w : Bool) → n < 128 → (n % 128 + bit w * 128) % 128 ≡ n
columns_back n true h = omega arith
columns_back n false h = omega arith

pub tree_read_back : (t : Tree) → TreeFits t → tree_in (tree_bytes t) ≡ t
tree_read_back t f =
    let made : ℕ → ℕ → List ℕ → List ℕ → Bool → Tree = λ n r u v w. record { columns = n; root = r; up = u; first = v; watch = w } in
    let both = t.up ++ t.first in
    let kept : t.root % 256 ≡ t.root = omega (arith, f.root) in
    let seam : drop 16 both ≡ t.first = ap (λ (k : ℕ). drop k both) (sym f.up) ∙ drop-append_seam t.up t.first in
    ap₂ (λ (n : ℕ) (w : Bool). made n (t.root % 256) (take 16 both) (take 16 (drop 16 both)) w) (columns_back t.columns t.watch f.columns) (watch_back t.columns t.watch f.columns)
    ∙ ap (λ (r : ℕ). made t.columns r (take 16 both) (take 16 (drop 16 both)) t.watch) kept
    ∙ ap₂ (λ (u v : List ℕ). made t.columns t.root u v t.watch) (take_at t.up t.first 16 f.up)
    (ap (λ (l : List ℕ). take 16 l) seam ∙ take_all 16 t.first (omega (arith, f.first)))

head_back : (b : ℕ) → b < 256 → b % 128 % 128 + bit (leb 128 b) * 128 ≡ b
head_back b h = go (leb 128 b) refl
  where
    go : (w : Bool) → leb 128 b ≡ w → b % 128 % 128 + bit w * 128 ≡ b
    go true e = omega (arith, leb-true 128 b e)
    go false e = omega (arith, leb-false 128 b e)

pub tree_written_back : (s : List ℕ) → Bytes s → is_tree s ≡ true → tree_bytes (tree_in s) ≡ s
tree_written_back s h e =
    let l = tree_size_lem s e in
    let all : take 16 (drop 19 s) ≡ drop 19 s = take_all 16 (drop 19 s) (simp length-drop (omega (arith, l))) in
    let kept : get_or s 2 0 % 256 ≡ get_or s 2 0 = omega (arith, h 2) in
    let third : get_or s 2 0 ∷ drop 3 s ≡ drop 2 s = sym (drop-cons s 2 0 (omega (arith, l))) in
    let second : get_or s 1 0 ∷ drop 2 s ≡ drop 1 s = sym (drop-cons s 1 0 (omega (arith, l))) in
    ap₂ (λ (b : ℕ) (r : List ℕ). tree_layout ∷ b ∷ r) (head_back (get_or s 1 0) (h 1))
    (ap₂ (λ (b : ℕ) (r : List ℕ). b ∷ r) kept (ap (λ (r : List ℕ). take 16 (drop 3 s) ++ r) all ∙ chunk s 3 16) ∙ third)
    ∙ ap₂ (λ (b : ℕ) (r : List ℕ). b ∷ r) (sym (tree_layout_lem s e)) second
    ∙ sym (drop-cons s 0 0 (omega (arith, l)))

-- ---- a column

pub record ColumnFits (c : Column) : Type 0 where
  pub doors : c.doors < 256 ^ 8
  pub number : c.number < 256 ^ 4
  pub send : c.send < 256 ^ 2
  pub awaited : c.awaited < 256 ^ 2
  pub owed : c.owed < 256 ^ 2
  pub noted : c.noted < 256 ^ 2
  pub sender : c.sender < 64

abbrev made : ℕ → ℕ → ℕ → ℕ → ℕ → ℕ → ℕ → ℕ → ℕ → Column
made d n s a o h mask pending status =
    record {
      doors = d;
      number = n;
      send = s;
      awaited = a;
      owed = o;
      noted = h;
      running = eqb (status % 2) 1;
      whole = eqb (status / 2 % 2) 1;
      sender = status / 4;
      mask = mask;
      pending = pending;
    }

module _ (c : Column) (f : ColumnFits c) where
  abbrev with_status : Bool → Bool → ℕ → Column
  with_status r w n =
      record {
        doors = c.doors;
        number = c.number;
        send = c.send;
        awaited = c.awaited;
        owed = c.owed;
        noted = c.noted;
        running = r;
        whole = w;
        sender = n;
        mask = c.mask;
        pending = c.pending;
      }

  abbrev coded : Bool → Bool → ℕ
  coded r w = bit r + (bit w * 2 + c.sender % 64 * 4)

  low : (r w : Bool) → eqb (coded r w % 2) 1 ≡ r
  low true true = eq-eqb (coded true true % 2) 1 (omega arith)
  low true false = eq-eqb (coded true false % 2) 1 (omega arith)
  low false true = ne_eqb (coded false true % 2) 1 (λ e. omega (arith, e))
  low false false = ne_eqb (coded false false % 2) 1 (λ e. omega (arith, e))

  next : (r w : Bool) → eqb (coded r w / 2 % 2) 1 ≡ w
  next true true = eq-eqb (coded true true / 2 % 2) 1 (omega arith)
  next false true = eq-eqb (coded false true / 2 % 2) 1 (omega arith)
  next true false = ne_eqb (coded true false / 2 % 2) 1 (λ e. omega (arith, e))
  next false false = ne_eqb (coded false false / 2 % 2) 1 (λ e. omega (arith, e))

  rest : (r w : Bool) → coded r w / 4 ≡ c.sender
  rest true true = omega (arith, f.sender)
  rest false true = omega (arith, f.sender)
  rest true false = omega (arith, f.sender)
  rest false false = omega (arith, f.sender)

  status_back : made c.doors c.number c.send c.awaited c.owed c.noted c.mask c.pending (status_of c) ≡ c
  status_back =
      let r = c.running in
      let w = c.whole in
      ap₂ (λ (x y : Bool). with_status x y (coded r w / 4)) (low r w) (next r w) ∙ ap (λ (n : ℕ). with_status r w n) (rest r w)

  pub column_read_back : (own : ℕ) → column_in (column_bytes own c) ≡ c
  unfolding low_first
  column_read_back own =
      let d = low_value (low_first 8 c.doors) in
      let n = high_value (high_first 4 c.number) in
      let s = high_value (high_first 2 c.send) in
      let a = high_value (high_first 2 c.awaited) in
      let o = high_value (high_first 2 c.owed) in
      let h = high_value (high_first 2 c.noted) in
      let st = status_of c in
      ap₂ (λ (x y : ℕ). made x y s a o h c.mask c.pending st) (low_value_first 8 c.doors f.doors) (high_value_first 4 c.number f.number)
      ∙ ap₂ (λ (x y : ℕ). made c.doors c.number x y o h c.mask c.pending st) (high_value_first 2 c.send f.send) (high_value_first 2 c.awaited f.awaited)
      ∙ ap₂ (λ (x y : ℕ). made c.doors c.number c.send c.awaited x y c.mask c.pending st) (high_value_first 2 c.owed f.owed) (high_value_first 2 c.noted f.noted)
      ∙ status_back

-- what is written of a column is a block of its own number
pub column_block : (own : ℕ) (c : Column) → is_column (column_bytes own c) ≡ true
unfolding low_first
column_block own c = refl

-- every block means such a column
pub block_column_fits : (s : List ℕ) → Bytes s → ColumnFits (column_in s)
block_column_fits s h = record {
  doors = low_value_lt 8 (take 8 (drop 2 s)) (part_bytes s h 2 8) (simp length-take (omega arith));
  number = high_value_lt 4 (take 4 (drop 10 s)) (part_bytes s h 10 4) (simp length-take (omega arith));
  send = set 14;
  awaited = set 16;
  owed = set 18;
  noted = set 20;
  sender = omega (arith, h 22);
}
  where
    set : (at : ℕ) → high_value (take 2 (drop at s)) < 256 ^ 2
    set at = high_value_lt 2 (take 2 (drop at s)) (part_bytes s h at 2) (simp length-take (omega arith))

module _ (s : List ℕ) (h : Bytes s) (e : is_column s ≡ true) where
  l : length s ≡ column_size
  l = column_size_lem s e

  field_back : (at n : ℕ) → at + n ≤ length s → high_first n (high_value (take n (drop at s))) ≡ take n (drop at s)
  field_back at n fits =
      let part = take n (drop at s) in
      ap (λ (k : ℕ). high_first k (high_value part)) (sym (part_length s h at n fits)) ∙ high_first_value part (part_bytes s h at n)

  doors_back : low_first 8 (low_value (take 8 (drop 2 s))) ≡ take 8 (drop 2 s)
  doors_back =
      let part = take 8 (drop 2 s) in
      ap (λ (k : ℕ). low_first k (low_value part)) (sym (part_length s h 2 8 (omega (arith, l)))) ∙ low_first_value part (part_bytes s h 2 8)

  bit_back : (n : ℕ) → n < 2 → bit (eqb n 1) ≡ n
  bit_back zero e = refl
  bit_back (suc zero) e = refl
  bit_back (suc (suc n)) e = absurd (omega arith)

  -- a byte by its lowest bit, its next, and the rest
  split : (b half rest : ℕ) → rest < 64 → b ≡ b % 2 + half * 2 → half ≡ half % 2 + rest * 2 → b % 2 + (half % 2 * 2 + rest % 64 * 4) ≡ b
  split b half rest g d k =
      let small : rest % 64 ≡ rest = omega (arith, g) in
      rw small (omega (arith, d, k))

  status_written : status_of (column_in s) ≡ get_or s 22 0
  status_written =
      let b = get_or s 22 0 in
      let halved : b / 2 / 2 ≡ b / 4 = shr-shr b 1 1 in
      rw (bit_back (b % 2) (omega arith), bit_back (b / 2 % 2) (omega arith)) (split b (b / 2) (b / 4) (omega (arith, h 22)) (omega arith) (omega (arith, halved)))

  pub column_written_back : column_bytes (own_in s) (column_in s) ≡ s
  column_written_back =
      let none : drop 25 s ≡ [] = drop_of_length-le s {i = 25} (omega (arith, l)) in
      let page : get_or s 23 0 ∷ get_or s 24 0 ∷ [] ≡ drop 23 s =
      ap (λ (r : List ℕ). get_or s 23 0 ∷ get_or s 24 0 ∷ r) (sym none) ∙ ap (λ (r : List ℕ). get_or s 23 0 ∷ r) (sym (drop-cons s 24 0 (omega (arith, l))))
      ∙ sym (drop-cons s 23 0 (omega (arith, l))) in
      let end : status_of (column_in s) ∷ get_or s 23 0 ∷ get_or s 24 0 ∷ [] ≡ drop 22 s =
      ap₂ (λ (b : ℕ) (r : List ℕ). b ∷ r) status_written page ∙ sym (drop-cons s 22 0 (omega (arith, l))) in
      let from-noted = ap₂ (λ (x y : List ℕ). x ++ y) (field_back 20 2 (omega (arith, l))) end ∙ chunk s 20 2 in
      let from-owed = ap₂ (λ (x y : List ℕ). x ++ y) (field_back 18 2 (omega (arith, l))) from-noted ∙ chunk s 18 2 in
      let from-awaited = ap₂ (λ (x y : List ℕ). x ++ y) (field_back 16 2 (omega (arith, l))) from-owed ∙ chunk s 16 2 in
      let from-send = ap₂ (λ (x y : List ℕ). x ++ y) (field_back 14 2 (omega (arith, l))) from-awaited ∙ chunk s 14 2 in
      let from-number = ap₂ (λ (x y : List ℕ). x ++ y) (field_back 10 4 (omega (arith, l))) from-send ∙ chunk s 10 4 in
      let from-doors = ap₂ (λ (x y : List ℕ). x ++ y) doors_back from-number ∙ chunk s 2 8 in
      let from_own : get_or s 1 0 ∷ drop 2 s ≡ drop 1 s = sym (drop-cons s 1 0 (omega (arith, l))) in
      ap (λ (r : List ℕ). column_layout ∷ get_or s 1 0 ∷ r) from-doors
      ∙ ap₂ (λ (b : ℕ) (r : List ℕ). b ∷ r) (sym (column_layout_lem s e)) from_own
      ∙ sym (drop-cons s 0 0 (omega (arith, l)))
