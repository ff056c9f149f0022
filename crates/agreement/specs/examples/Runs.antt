-- Lists of steps, computed: agreement is about banks that do their work.
use Rattle.std.specs.Prelude.{ℕ, ◌≡◌, refl, Bool, true, false, not, ◌&&◌, ◌||◌, List, [], ◌∷◌, ◌++◌, eqb, replicate}
use Rattle.std.specs.Int.Count.{count_trailing_zeros}
use Rattle.column.specs.Sets.{single, selected}
use Rattle.column.specs.Trees.{ascending, tree_by, tree_of, every, climbs_in, tree_refusal}
use Rattle.column.specs.Columns.{state_refusal}
use Rattle.column.specs.Steps as core
use Rattle.column.specs.Pages.{written}
use Rattle.column.specs.declared.tree.Tree.{Tree}
use Rattle.bank.specs.Words.{packet_of}
use Rattle.bank.specs.Networks.{closed_up, keeping, padded, put, puts, vanished}
use Rattle.bank.specs.Banks.{State, column_at, runs, capacity, places, fresh_place, bank_refusal}
use Rattle.bank.specs.Steps as bank
use Rattle.bank.specs.Steps.{Result, fitting, acted, delivered, rewriting, halted, halt_refusal}
use Rattle.bank.specs.Returns.{back_refusal, returned}
use Rattle.bank.specs.Performs.{perform}
use Rattle.bank.specs.Rest.{is_at_rest}
use Rattle.bank.specs.Pages.{write_refusal}
use Rattle.bank.specs.declared.bank.Step.{Step}
use Rattle.bank.specs.declared.bank.Step.TheVariants.{Order, Send, Take, Ack, All, Note, Halt, Back, Write}
use Rattle.agreement.specs.History.{given, World, root_of, told, run}
use Rattle.agreement.specs.Agreement.{begin}

-- what a row has of the root after a list: the set of columns that it awaits, and the number by which a send of it and an order are
-- refused then, none where they are not
pub record Root : Type 0 where
  pub awaits : ℕ
  pub send : List ℕ
  pub order : List ℕ

-- a list of steps from the fresh bank of a tree, and what is so after it
pub record Row : Type 0 where
  pub tree : Tree
  pub steps : List Step
  -- the numbers of its refused steps, in their order
  pub refusals : List ℕ
  -- the doors of its accepted orders, the newest first; what each column has received
  pub orders : List ℕ
  pub received : List ℕ
  -- the set of columns that run, and the number that each of them holds, with the doors given under it
  pub running : ℕ
  pub number : ℕ
  -- how many packets are under way, and whether the bank is at rest
  pub packets : ℕ
  pub rest : Bool
  pub root : Root

abbrev pub row_of : Tree → List Step → List ℕ → List ℕ → List ℕ → ℕ → ℕ → ℕ → Bool → Root → Row
row_of tree steps refusals orders received running number packets rest root =
    record {
      tree = tree;
      steps = steps;
      refusals = refusals;
      orders = orders;
      received = received;
      running = running;
      number = number;
      packets = packets;
      rest = rest;
      root = root;
    }

abbrev pub from_fresh : Tree → World
from_fresh t = begin t (replicate capacity 0) (replicate capacity 0)

abbrev pub after : Row → World
after r = run (from_fresh r.tree) r.steps

-- ---- a row is what is computed

abbrev pub refusal : Result State → List ℕ
refusal (bank.accepted s) = []
refusal (bank.refused n s) = n ∷ []

unfoldable pub refusals : World → List Step → List ℕ
refusals w [] = []
refusals w (x ∷ xs) = let o = perform w.state x in refusal o ++ refusals (told w x o) xs

-- `awaits` is looked at up to 16, the lowest of an empty set
abbrev pub root_in : World → Root
root_in w =
    record {
      awaits = selected w.awaits 17;
      send = refusals w (Send (root_of w.state) ∷ []);
      order = refusals w (Order 0 ∷ []);
    }

-- a world read as a row of these steps, refusals and number
abbrev pub row_in : World → List Step → List ℕ → ℕ → Row
row_in w steps refused number =
    let b = w.state.bank in
    let n = b.tree.columns in
    row_of b.tree steps refused w.orders (places w.received n) (selected (runs b) n) number b.count (is_at_rest w.state) (root_in w)

-- column i has a number, with the doors given under it
abbrev pub record_is : World → ℕ → ℕ → Bool
record_is w number i =
    let c = column_at w.state.bank i in
    eqb c.number number && eqb c.doors (given w.orders number)

abbrev pub holds : World → ℕ → ℕ → Bool
holds w number i = not (runs w.state.bank i) || record_is w number i

-- the row of what a list leads to, the refusals of its tree and of the bank after it, and whether every running column holds the number
abbrev pub computed : Row → Row × ℕ × ℕ × Bool
computed r =
    let w = after r in (
      row_in w r.steps (refusals (from_fresh r.tree) r.steps) r.number,
      tree_refusal r.tree,
      bank_refusal w.state,
      every (holds w r.number) r.tree.columns,
    )

-- ---- the rows

-- columns=3, root=0, up=0,0,1
abbrev pub chain : Tree
chain = tree_of 3 0 (0 ∷ 0 ∷ 1 ∷ replicate 13 0)

-- the same with watch=sender
abbrev pub watching : Tree
watching = tree_by 3 0 (0 ∷ 0 ∷ 1 ∷ replicate 13 0) ascending true

-- columns=5, root=2, up=2,0,2,2,3
abbrev pub fork : Tree
fork = tree_of 5 2 (2 ∷ 0 ∷ 2 ∷ 2 ∷ 3 ∷ replicate 11 0)

pub data Case : Type 0 where
  no_step : Case
  served_by_root : Case
  second_order : Case
  taken_over : Case
  never_received : Case
  left_in_place : Case
  left_then_received : Case
  besides_aHalted : Case
  around_the_halted : Case
  everyone_halted : Case
  strip_gone : Case
  strip_refused : Case
  strip_of_gone : Case
  note_refused : Case
  back_then_order : Case
  back_then_taken_over : Case
  back_after_taken_over : Case
  back_at_lower : Case
  back_refused : Case
  sender_halted : Case
  sender_runs : Case
  pages_written : Case

-- the halt of one column
abbrev halting : ℕ → Step
halting i = Halt (single i)

-- an order that reaches everybody of the chain
abbrev serving : List Step
serving = Send 0 ∷ Take 0 ∷ Send 1 ∷ Take 0 ∷ Ack 2 ∷ Take 0 ∷ Ack 1 ∷ Take 0 ∷ []

-- The root halts when its message is under way to column 1. Column 2 takes over at number 0, and column 1 owes it when it takes the
-- root's message, which is left.
abbrev leaving : List Step
leaving = Order 3 ∷ Send 0 ∷ halting 0 ∷ Note 2 0 ∷ All 2 ∷ Send 2 ∷ Send 2 ∷ Take 1 ∷ Take 0 ∷ []

-- the root halts half way, and the two that run take over
abbrev taking_over : List Step
taking_over =
    Order 513 ∷ Send 0 ∷ Take 0 ∷ halting 0 ∷ Send 1 ∷ Take 0 ∷ Ack 2 ∷ Take 0 ∷ Ack 1 ∷ Note 1 0 ∷ All 1 ∷ Send 1 ∷ Send 1
    ∷ Note 2 0 ∷ All 2 ∷ Send 2 ∷ Send 2 ∷ Take 0 ∷ Ack 1 ∷ Take 0 ∷ []

-- an order for everybody; then column 2 halts, is noted and comes back
abbrev away_and_back : List Step
away_and_back = Order 3 ∷ (serving ++ (halting 2 ∷ Note 0 2 ∷ Note 1 2 ∷ Back 2 ∷ []))

abbrev idle_root : Root
idle_root = record { awaits = 0; send = 6 ∷ []; order = [] }

-- halted while it awaited these
abbrev halted_root : ℕ → Root
halted_root awaits = record { awaits = awaits; send = 5 ∷ []; order = 5 ∷ [] }

-- each by its tree and steps; refusals, orders, received; running, number, packets, rest, root
abbrev pub row : Case → Row
-- "the empty list too"
row no_step = row_of chain [] [] [] (0 ∷ 0 ∷ 0 ∷ []) 7 0 0 true idle_root
-- everybody runs, and the order reaches everybody
row served_by_root = row_of chain (Order 3 ∷ serving) [] (3 ∷ []) (1 ∷ 1 ∷ 1 ∷ []) 7 1 0 true idle_root
-- a second order after that, and steps that are refused
row second_order =
    row_of chain (Order 3 ∷ (serving ++ (Send 0 ∷ Order 5 ∷ Order 6 ∷ Send 3 ∷ Note 0 1 ∷ Take 0 ∷ serving)))
    (6 ∷ 7 ∷ 4 ∷ 6 ∷ 10 ∷ []) (5 ∷ 3 ∷ []) (2 ∷ 2 ∷ 2 ∷ []) 7 2 0 true idle_root
-- number 1 everywhere
row taken_over = row_of chain taking_over [] (513 ∷ []) (1 ∷ 1 ∷ 1 ∷ []) 6 1 0 true (halted_root 2)
-- nobody that runs has received the order: number 0 everywhere
row never_received =
    row_of chain
    (Order 1 ∷ halting 0 ∷ Note 1 0 ∷ All 1 ∷ Send 1 ∷ Send 1 ∷ Note 2 0 ∷ All 2 ∷ Send 2 ∷ Send 2 ∷ Take 0 ∷ Ack 1 ∷ Take 0 ∷ [])
    [] (1 ∷ []) (1 ∷ 0 ∷ 0 ∷ []) 6 0 0 true (halted_root 0)
-- column 1 has not received the message that it left
row left_in_place = row_of chain leaving [] (3 ∷ []) (1 ∷ 0 ∷ 0 ∷ []) 6 0 2 false (halted_root 2)
-- taken again, it is received, and goes on to column 2
row left_then_received =
    row_of chain
    (leaving ++ (Take 0 ∷ Take 0 ∷ Send 1 ∷ Take 0 ∷ Ack 2 ∷ Take 0 ∷ Ack 1 ∷ Note 1 0 ∷ All 1 ∷ Send 1 ∷ Send 1
    ∷ All 2 ∷ Send 2 ∷ Send 2 ∷ Take 0 ∷ Ack 1 ∷ Take 0 ∷ []))
    [] (3 ∷ []) (1 ∷ 1 ∷ 1 ∷ []) 6 1 0 true (halted_root 2)
-- column 1 halts after it has sent. The root notes it and serves its child; the halted one's message is still under way
row besides_aHalted =
    row_of chain (Order 3 ∷ Send 0 ∷ Take 0 ∷ Send 1 ∷ halting 1 ∷ Note 0 1 ∷ Send 0 ∷ Take 1 ∷ Ack 2 ∷ Take 1 ∷ [])
    [] (3 ∷ []) (1 ∷ 1 ∷ 1 ∷ []) 5 1 1 false idle_root
-- column 0 is awaited when the root notes it, column 3 is noted when it is served: the root sends to their children
row around_the_halted =
    row_of fork
    (Order 6 ∷ Send 2 ∷ halting 0 ∷ Note 2 0 ∷ halting 3 ∷ Note 2 3 ∷ Send 2 ∷ Send 2 ∷ Send 2 ∷ Take 0 ∷ Take 0 ∷ Ack 1 ∷ Ack 4
    ∷ Take 0 ∷ Take 0 ∷ Note 1 0 ∷ Note 1 3 ∷ Note 4 0 ∷ Note 4 3 ∷ [])
    [] (6 ∷ []) (0 ∷ 1 ∷ 1 ∷ 0 ∷ 1 ∷ []) 22 1 0 true idle_root
row everyone_halted =
    row_of chain (Order 3 ∷ Send 0 ∷ halting 1 ∷ halting 0 ∷ halting 2 ∷ []) [] (3 ∷ []) (1 ∷ 0 ∷ 0 ∷ []) 0 0 0 true (halted_root 2)
-- a strip of the root and column 1 goes half way, with the message from column 1 under way; the one that runs takes it and takes over alone
row strip_gone =
    row_of chain
    (Order 513 ∷ Send 0 ∷ Take 0 ∷ Send 1 ∷ Halt 3 ∷ Take 0 ∷ Ack 2 ∷ Note 2 0 ∷ Note 2 1 ∷ All 2 ∷ Send 2 ∷ Send 2 ∷ Send 2 ∷ [])
    [] (513 ∷ []) (1 ∷ 1 ∷ 1 ∷ []) 4 1 0 true (halted_root 2)
-- "If any is 4 or 5, none halts": columns 1 and 3, and columns 0 and 2 after 2
row strip_refused =
    row_of chain (Halt 10 ∷ halting 2 ∷ Halt 5 ∷ Note 0 2 ∷ Note 1 2 ∷ []) (4 ∷ 5 ∷ []) [] (0 ∷ 0 ∷ 0 ∷ []) 3 0 0 true idle_root
-- column 1 is halted: a strip of it and of one that the bank has not, which is 4 before 5; of it and of one that runs; and of it alone
row strip_of_gone =
    row_of chain (halting 1 ∷ Halt 10 ∷ Halt 6 ∷ halting 1 ∷ Note 0 1 ∷ Note 2 1 ∷ []) (4 ∷ 5 ∷ 5 ∷ []) [] (0 ∷ 0 ∷ 0 ∷ []) 5 0 0 true idle_root
-- column 1 is halted, and notes one that runs, itself, and one that the bank has not, which is 4 before 5; the root notes one that runs, itself, and one that
-- the bank has not; one that it has not notes column 1; and the root notes it twice
row note_refused =
    row_of chain
    (halting 1 ∷ Note 1 0 ∷ Note 1 1 ∷ Note 1 3 ∷ Note 0 2 ∷ Note 0 0 ∷ Note 0 3 ∷ Note 3 1 ∷ Note 0 1 ∷ Note 0 1 ∷ Note 2 1 ∷ [])
    (5 ∷ 5 ∷ 4 ∷ 6 ∷ 6 ∷ 4 ∷ 4 ∷ 6 ∷ []) [] (0 ∷ 0 ∷ 0 ∷ []) 5 0 0 true idle_root
-- a new order reaches the column that came back too
row back_then_order = row_of chain (away_and_back ++ (Order 5 ∷ serving)) [] (5 ∷ 3 ∷ []) (2 ∷ 2 ∷ 2 ∷ []) 7 2 0 true idle_root
-- the root halts in the middle of a new order, and the column that came back takes over as the other does
row back_then_taken_over = row_of chain (away_and_back ++ taking_over) [] (513 ∷ 3 ∷ []) (2 ∷ 2 ∷ 2 ∷ []) 6 2 0 true (halted_root 2)
-- after a takeover the goal of the column that comes back is the whole bank: it neither takes over nor sends
row back_after_taken_over =
    row_of chain (taking_over ++ (halting 2 ∷ Note 1 2 ∷ Back 2 ∷ All 2 ∷ Send 2 ∷ []))
    (6 ∷ 6 ∷ []) (513 ∷ []) (1 ∷ 1 ∷ 1 ∷ []) 6 1 0 true (halted_root 2)
-- column 1 alone received the order, and comes back at number 0: "what the column received before its halt counts no longer"
row back_at_lower =
    row_of chain
    (Order 3 ∷ Send 0 ∷ Take 0 ∷ Halt 3 ∷ Note 2 0 ∷ Note 2 1 ∷ All 2 ∷ Send 2 ∷ Send 2 ∷ Send 2 ∷ Back 1 ∷ [])
    [] (3 ∷ []) (1 ∷ 0 ∷ 0 ∷ []) 6 0 0 true (halted_root 2)
-- a column that the bank has not, one that runs, the root where the bank is not at rest, another there, one where nobody runs, the root there
row back_refused =
    row_of chain (Back 3 ∷ Back 1 ∷ Halt 5 ∷ Back 0 ∷ Back 2 ∷ halting 1 ∷ Back 2 ∷ Back 0 ∷ [])
    (4 ∷ 6 ∷ 15 ∷ 14 ∷ 16 ∷ 15 ∷ []) [] (0 ∷ 0 ∷ 0 ∷ []) 0 0 0 true (halted_root 0)
-- under sender, column 1 halts after it served column 2, which takes over and sends to the running root. While the root awaits it does not
-- acknowledge, nor is it given an order while it sends, or owes. Then column 1 comes back
row sender_halted =
    row_of watching
    (Order 513 ∷ Send 0 ∷ Take 0 ∷ Send 1 ∷ Take 0 ∷ halting 1 ∷ Note 2 1 ∷ All 2 ∷ Send 2 ∷ Take 0 ∷ Ack 0 ∷ Note 0 1 ∷ Order 9 ∷ Send 0 ∷ Take 0
    ∷ Ack 2 ∷ Take 0 ∷ Order 9 ∷ Ack 0 ∷ Take 0 ∷ Ack 2 ∷ Back 1 ∷ [])
    (6 ∷ 7 ∷ 7 ∷ []) (513 ∷ []) (1 ∷ 1 ∷ 1 ∷ []) 7 1 0 true idle_root
-- under sender the root halts: column 2, whose sender runs, does not take over, and column 1 does
row sender_runs =
    row_of watching (Order 3 ∷ (serving ++ (halting 0 ∷ Note 2 0 ∷ All 2 ∷ Note 1 0 ∷ All 1 ∷ Send 1 ∷ Send 1 ∷ [])))
    (6 ∷ []) (3 ∷ []) (1 ∷ 1 ∷ 1 ∷ []) 6 1 0 true (halted_root 0)
-- an order goes down the tree while a host writes to the pages: one of these writes is elsewhere, and one is to no column
row pages_written =
    row_of chain (Write 1 5 255 ∷ Order 3 ∷ Write 0 7 1 ∷ Write 2 6 1 ∷ Write 3 5 0 ∷ serving) (22 ∷ 4 ∷ []) (3 ∷ []) (1 ∷ 1 ∷ 1 ∷ []) 7 1 0 true idle_root

pub runs_pass : (c : Case) → computed (row c) ≡ (row c, 0, 0, true)
unfolding refusals given run told perform is_at_rest every closed_up keeping padded places fresh_place bank_refusal packet_of put puts vanished fitting acted delivered rewriting halted halt_refusal back_refusal returned write_refusal written climbs_in tree_refusal state_refusal selected count_trailing_zeros core.order_refusal core.send_refusal core.packet_refusal core.take_refusal core.ack_refusal core.all_refusal core.note_refusal core.order_effect core.send_effect core.acknowledgement_effect core.receive_effect core.message_effect core.ack_effect core.all_effect core.note_effect
runs_pass no_step = refl
runs_pass served_by_root = refl
runs_pass second_order = refl
runs_pass taken_over = refl
runs_pass never_received = refl
runs_pass left_in_place = refl
runs_pass left_then_received = refl
runs_pass besides_aHalted = refl
runs_pass around_the_halted = refl
runs_pass everyone_halted = refl
runs_pass strip_gone = refl
runs_pass strip_refused = refl
runs_pass strip_of_gone = refl
runs_pass note_refused = refl
runs_pass back_then_order = refl
runs_pass back_then_taken_over = refl
runs_pass back_after_taken_over = refl
runs_pass back_at_lower = refl
runs_pass back_refused = refl
runs_pass sender_halted = refl
runs_pass sender_runs = refl
runs_pass pages_written = refl
