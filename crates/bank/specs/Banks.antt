-- The bank: its tree, sixteen columns, and the network's packets in two lent arrays; after document 01, "The bank and its table",
-- "What a column holds" and "Packets".
use Rattle.std.specs.Prelude.{ℕ, zero, suc, Bool, false, not, ◌&&◌, cond, List, [], ◌∷◌, ◌++◌, ◌≡◌, eqb, leb, ltb, get_or, replicate, length}
use Rattle.column.specs.Refusals.{first, earlier}
use Rattle.column.specs.Sets.{selected}
use Rattle.column.specs.Trees.{every, tree_refusal, column_refusal}
use Rattle.column.specs.Columns.{fresh, state_refusal}
use Rattle.column.specs.Packets.{receiver}
use Rattle.column.specs.Steps.{packet_refusal}
use Rattle.column.specs.declared.tree.Tree.{Tree}
use Rattle.column.specs.declared.state.Column.{Column}
use Rattle.column.specs.declared.packet.Packet.{Packet}
use Rattle.bank.specs.Words.{packet_of}
use Rattle.bank.specs.declared.bank.Bank.{Bank}

-- a bank with the words of its network: packet k is word k of `heads` and word k of `doors`
pub record State : Type 0 where
  pub bank : Bank
  pub heads : List ℕ
  pub doors : List ℕ

abbrev pub state : Bank → List ℕ → List ℕ → State
state b heads doors = record { bank = b; heads = heads; doors = doors }

-- what is in an unused place of a fresh bank, and past the sixteen places
abbrev pub no_column : Column
no_column = record { running = false; number = 0; doors = 0; send = 0; awaited = 0; owed = 0; noted = 0; whole = false; sender = 0; mask = 0; pending = 0 }

abbrev pub column_at : Bank → ℕ → Column
column_at b i = get_or b.columns i no_column

abbrev pub runs : Bank → ℕ → Bool
runs b i = (column_at b i).running

-- the columns that run
abbrev pub running_of : Bank → ℕ
running_of b = selected (runs b) b.tree.columns

-- the columns that do not run
abbrev pub halted_of : Bank → ℕ
halted_of b = selected (λ j. not (runs b j)) b.tree.columns

-- "oldest first, place 0 the oldest"
abbrev pub packet_at : State → ℕ → Packet
packet_at s k = packet_of (get_or s.heads k 0) (get_or s.doors k 0)

-- "The network holds at most 512 packets"
abbrev pub capacity : ℕ
capacity = 512

-- ---- fresh

-- the values of a function at 0, 1, .., in order
unfoldable pub places : {A : Type 0} → (ℕ → A) → ℕ → List A
places f zero = []
places f (suc k) = places f k ++ (f k ∷ [])

-- "All sixteen places are held, whatever the count"
unfoldable pub fresh_place : Tree → ℕ → Column
fresh_place t i = cond (eqb (column_refusal t i) 0) (fresh t i) no_column

abbrev pub fresh_columns : Tree → List Column
fresh_columns t = places (fresh_place t) 16

abbrev pub fresh_bank : Tree → Bank
fresh_bank t = record { tree = t; columns = fresh_columns t; count = 0 }

-- the bank beside a refusal of its tree: nobody runs
abbrev pub no_bank : Tree → Bank
no_bank t = record { tree = t; columns = replicate 16 no_column; count = 0 }

-- ---- what every step tests first

-- "4 meets a .. set member not below columns, a column owing itself, a root with a goal other than the whole bank"
abbrev pub column_valid : Bank → ℕ → Bool
column_valid b i = eqb (state_refusal b.tree i (column_at b i)) 0

-- "any packet with an end not below columns, equal ends, a halted receiver in a bank, .. or a message to the root"
abbrev pub packet_valid : Bank → Packet → Bool
packet_valid b p = eqb (packet_refusal b.tree p) 0 && runs b (receiver p)

abbrev pub columns_valid : Bank → Bool
columns_valid b = every (column_valid b) b.tree.columns

abbrev pub packets_valid : State → Bool
packets_valid s = every (λ k. packet_valid s.bank (packet_at s k)) s.bank.count

-- "more than 512 packets"
abbrev pub bank_conditions : State → List (ℕ × Bool)
bank_conditions s =
    (4, not (columns_valid s.bank))
    ∷ (4, ltb capacity s.bank.count)
    ∷ (4, not (packets_valid s))
    ∷ []

-- "Before all else a tree that breaks row 2 or 3 gives that number. Next, 4"
unfoldable pub bank_refusal : State → ℕ
bank_refusal s = earlier (tree_refusal s.bank.tree) (first (bank_conditions s))

-- row 4: "column not below columns"
abbrev pub acting_refusal : State → ℕ → ℕ
acting_refusal s i = earlier (bank_refusal s) (first ((4, leb s.bank.tree.columns i) ∷ []))

-- every place of the network has its words
pub record Whole (s : State) : Type 0 where
  pub heads_length : length s.heads ≡ capacity
  pub doors_length : length s.doors ≡ capacity

-- n is the refusal of the bank, whatever the doors
abbrev pub RefusesBank : ℕ → Bank → List ℕ → Type 0
RefusesBank n b heads = (doors : List ℕ) → n ≡ bank_refusal (state b heads doors)

-- a bank whose parts are handed over
abbrev pub joined : Tree → List Column → ℕ → Bank
joined t columns count = record { tree = t; columns = columns; count = count }

abbrev pub RefusesActing : ℕ → Bank → List ℕ → ℕ → Type 0
RefusesActing n b heads i = (doors : List ℕ) → n ≡ acting_refusal (state b heads doors) i
