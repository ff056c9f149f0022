-- What the functions of the network leave of its words.
use Rattle.std.specs.Prelude.{ℕ, List, ◌++◌, Bool, ◌≡◌, length, take, drop, set}
use Rattle.column.specs.Packets.{doors_of}
use Rattle.column.specs.declared.packet.Packet.{Packet}
use Rattle.bank.specs.Networks.{keeping, closed_up, elsewhere, counting, vanished}
use Rattle.bank.specs.Words.{head_of}
use Rattle.bank.specs.Banks.{state}
use Rattle.bank.specs.declared.bank.Bank.{Bank}

-- The filter loop at place j: what is kept of the first j, then what was there.
unfoldable pub partly : {B A : Type 0} → (B → Bool) → List B → List A → ℕ → List A
partly f hs xs j = keeping f (take j hs) (take j xs) ++ drop (length (keeping f (take j hs) (take j xs))) xs

pub record Appended (p : Packet) (count : ℕ) (heads doors heads' doors' : List ℕ) : Type 0 where
  pub heads_are : heads' ≡ set heads count (head_of p)
  pub doors_are : doors' ≡ set doors count (doors_of p)

pub record ClosedUp (place count : ℕ) (heads doors heads' doors' : List ℕ) : Type 0 where
  pub heads_are : heads' ≡ closed_up heads place count 0
  pub doors_are : doors' ≡ closed_up doors place count 0

-- the first k words of both arrays are those of the packets that are addressed to no member; words from k on are as they were
pub record Kept (member : ℕ → Bool) (count k : ℕ) (heads doors heads' doors' : List ℕ) : Type 0 where
  pub many : k ≡ length (keeping (elsewhere member) (take count heads) (take count heads))
  pub heads_are : heads' ≡ partly (elsewhere member) heads heads count
  pub doors_are : doors' ≡ partly (elsewhere member) heads doors count

-- of `count` packets so many are left: said of every bank of which these are the words
abbrev pub Vanishes : (ℕ → Bool) → ℕ → ℕ → List ℕ → List ℕ → List ℕ → List ℕ → Type 0
Vanishes member count kept heads doors heads' doors' =
    (b : Bank) → state (counting b kept) heads' doors' ≡ vanished (state (counting b count) heads doors) member
