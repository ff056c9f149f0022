-- The packets of a bank's network in their words, after document 01, "Packets" and "Steps": put at the end, taken off, and vanished.
use Rattle.std.specs.Prelude.{ℕ, ◌+◌, ◌-◌, Bool, not, cond, List, [], ◌∷◌, ◌++◌, eqb, length, set, take, drop, replicate}
use Rattle.column.specs.Packets.{receiver, doors_of}
use Rattle.column.specs.declared.packet.Packet.{Packet}
use Rattle.bank.specs.Words.{head_of, receiver_in}
use Rattle.bank.specs.Banks.{State, state, runs}
use Rattle.bank.specs.declared.bank.Bank.{Bank}

abbrev pub counting : Bank → ℕ → Bank
counting b count = record { tree = b.tree; columns = b.columns; count = count }

abbrev pub with_packet : State → Packet → State
with_packet s p =
    state (counting s.bank (s.bank.count + 1))
    (set s.heads s.bank.count (head_of p))
    (set s.doors s.bank.count (doors_of p))

-- "A packet to a halted column is never put; the step counts as done."
unfoldable pub put : State → Packet → State
put s p = cond (runs s.bank (receiver p)) (with_packet s p) s

unfoldable pub puts : State → List Packet → State
puts s [] = s
puts s (p ∷ l) = puts (put s p) l

-- the first `count` of s without place p; the last of these places, which is free now, holds v
unfoldable pub closed_up : {A : Type 0} → List A → ℕ → ℕ → A → List A
closed_up s p count v = (take p s ++ take (count - 1 - p) (drop (p + 1) s)) ++ (v ∷ drop count s)

-- "the packet is gone and later ones move up"; the place that is free now holds words 0 and 0
abbrev pub removed : State → ℕ → State
removed s place =
    state (counting s.bank (s.bank.count - 1))
    (closed_up s.heads place s.bank.count 0)
    (closed_up s.doors place s.bank.count 0)

-- a set of columns with one member, by its test
abbrev pub only : ℕ → ℕ → Bool
only i j = eqb j i

-- the heads of packets that are addressed to no member
abbrev pub elsewhere : (ℕ → Bool) → ℕ → Bool
elsewhere member head = not (member (receiver_in head))

-- Those of `xs` whose place in `hs` passes the test
unfoldable pub keeping : {B A : Type 0} → (B → Bool) → List B → List A → List A
keeping f [] xs = []
keeping f (h ∷ hs) [] = []
keeping f (h ∷ hs) (x ∷ xs) = cond (f h) (x ∷ keeping f hs xs) (keeping f hs xs)

-- the first `count` places of `old` hold w and then v, the others are as they were
unfoldable pub padded : {A : Type 0} → List A → ℕ → A → List A → List A
padded w count v old = w ++ (replicate (count - length w) v ++ drop count old)

-- "packets to it vanish, packets from it remain", of every member at once: the words of the others move up, and places that are free now
-- hold words 0 and 0
unfoldable pub vanished : State → (ℕ → Bool) → State
vanished s member =
    let heads = take s.bank.count s.heads in
    let doors = take s.bank.count s.doors in
    state (counting s.bank (length (keeping (elsewhere member) heads heads)))
    (padded (keeping (elsewhere member) heads heads) s.bank.count 0 s.heads)
    (padded (keeping (elsewhere member) heads doors) s.bank.count 0 s.doors)
