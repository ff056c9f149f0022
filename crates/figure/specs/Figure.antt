-- Figure 3.2 of Cornell TR 82-519, "Reliable Broadcast Protocol", written from its text: the variables of processor i, and a guard
-- and a body for each guarded command. No definition of a step is used here.
use Rattle.std.specs.Prelude.{ℕ, zero, suc, ◌+◌, Bool, not, ◌&&◌, ◌||◌, cond, List, [], ◌∷◌, ◌++◌, map, eqb, ltb}
use Rattle.std.specs.Int.Bits.{bit_and, bit_xor}
use Rattle.column.specs.Sets.{has, single, join, selected}
use Rattle.column.specs.Trees.{parent, choose}
use Rattle.column.specs.declared.tree.Tree.{Tree}
use Rattle.column.specs.declared.packet.Packet.{Packet}
use Rattle.column.specs.declared.packet.Packet.TheVariants.{Message, Acknowledgement}

-- "m", by its sequence number and its information, the doors; "sendto: the set of processors to which m must be sent; ackfrom: the
-- set of processors from which acknowledgements for m are awaited; ackto: the set of processors that sent m to i for which
-- acknowledgements must be returned"; "r .. contains either i or b"
pub record Variables : Type 0 where
  pub seqno : ℕ
  pub info : ℕ
  pub sendto : ℕ
  pub ackfrom : ℕ
  pub ackto : ℕ
  pub r : ℕ

-- what a command makes: the variables after it, and what it sends, in the order of sending
pub record Made : Type 0 where
  pub variables : Variables
  pub sent : List Packet

-- a guarded `if` of which no guard is true aborts
pub data Ends : Type 0 where
  makes : Made → Ends
  aborts : Ends

-- ---- sets

abbrev pub is_empty : ℕ → Bool
is_empty s = eqb s 0

abbrev pub meet : ℕ → ℕ → ℕ
meet a b = bit_and a b

-- the members of a that are not in b
abbrev pub less : ℕ → ℕ → ℕ
less a b = bit_xor (join a b) b

-- SUCC: the processors whose father in the tree is in the set
abbrev pub SUCC : Tree → ℕ → ℕ
SUCC t s = selected (λ q. has s (parent t q) && not (eqb q t.root)) t.columns

-- the members below k, lowest first: the order of service
unfoldable pub members_below : ℕ → ℕ → List ℕ
members_below s zero = []
members_below s (suc k) = members_below s k ++ cond (has s k) (k ∷ []) []

-- ---- messages

-- dest!!msg(m)
abbrev pub msg : ℕ → ℕ → Variables → Packet
msg i dest v = Message i dest v.seqno v.info

-- (∀p: p ∈ ackto: p!!ack(m))
abbrev pub ack_all : ℕ → Variables → List Packet
ack_all i v = map (λ p. Acknowledgement i p v.seqno) (members_below v.ackto 16)

abbrev pub with_sets : Variables → ℕ → ℕ → ℕ → Variables
with_sets v s a o = record { seqno = v.seqno; info = v.info; sendto = s; ackfrom = a; ackto = o; r = v.r }

-- ---- m := (sender: b, info: ' ', seqno: 0); ackto, sendto, ackfrom := Φ, Φ, Φ; r := i

abbrev pub initially : ℕ → Variables
initially i = record { seqno = 0; info = 0; sendto = 0; ackfrom = 0; ackto = 0; r = i }

-- ---- do sendto ≠ Φ → choose(sendto, dest); sendto := sendto − {dest};
--         if dest = i → skip
--         [] dest ≠ i ∧ failed(dest) → sendto := sendto ∪ SUCC({dest})
--         [] dest ≠ i ∧ ¬ failed(dest) → ackfrom := ackfrom ∪ {dest}; dest!!msg(m)
--         fi

abbrev pub send_guard : Variables → Bool
send_guard v = not (is_empty v.sendto)

unfoldable pub send_command : Tree → ℕ → ℕ → Variables → Made
send_command t i FAILED v =
    let dest = choose t v.sendto in
    let sendto = less v.sendto (single dest) in
    cond (eqb dest i)
    (record { variables = with_sets v sendto v.ackfrom v.ackto; sent = [] })
    (cond (has FAILED dest)
    (record { variables = with_sets v (join sendto (SUCC t (single dest))) v.ackfrom v.ackto; sent = [] })
    (record { variables = with_sets v sendto (join v.ackfrom (single dest)) v.ackto; sent = msg i dest v ∷ [] }))

-- ---- [] ackfrom ∩ FAILED ≠ Φ → t := ackfrom ∩ FAILED; sendto := sendto ∪ SUCC(t); ackfrom := ackfrom − t

abbrev pub failed_guard : ℕ → Variables → Bool
failed_guard FAILED v = not (is_empty (meet v.ackfrom FAILED))

unfoldable pub failed_command : Tree → ℕ → Variables → Made
failed_command t FAILED v =
    let failed = meet v.ackfrom FAILED in
    record { variables = with_sets v (join v.sendto (SUCC t failed)) (less v.ackfrom failed) v.ackto; sent = [] }

-- ---- [] ??ack(a) → if a.seqno = m.seqno → ackfrom := ackfrom − {a.sender}
--                    [] a.seqno < m.seqno → skip
--                    fi

unfoldable pub acknowledgement_command : ℕ → ℕ → Variables → Ends
acknowledgement_command sender seqno v =
    cond (eqb seqno v.seqno)
    (makes (record { variables = with_sets v v.sendto (less v.ackfrom (single sender)) v.ackto; sent = [] }))
    (cond (ltb seqno v.seqno)
    (makes (record { variables = v; sent = [] }))
    aborts)

-- ---- [] failed(b) ∧ r ≠ b ∧ ackfrom = Φ ∧ sendto = Φ → r, sendto := b, {b}
-- "For processor b, the guarded command beginning with failed(b) is replaced": b has no such command

abbrev pub takeover_guard : Tree → ℕ → ℕ → Variables → Bool
takeover_guard t i FAILED v =
    let b = t.root in
    not (eqb i b) && (has FAILED b && (not (eqb v.r b) && (is_empty v.ackfrom && is_empty v.sendto)))

unfoldable pub takeover_command : Tree → Variables → Made
takeover_command t v =
    let b = t.root in
    record {
      variables = record { seqno = v.seqno; info = v.info; sendto = single b; ackfrom = v.ackfrom; ackto = v.ackto; r = b };
      sent = [];
    }

-- ---- [] ??msg(new) → if new.seqno = m.seqno → ackto := ackto ∪ {new.sender}
--                      [] new.seqno < m.seqno → new.sender!!ack(new)
--                      [] new.seqno > m.seqno → (∀p: p ∈ ackto: p!!ack(m));
--                           m, r := new, i; ackto := {m.sender}; sendto := SUCC({i}); ackfrom := Φ
--                      fi

unfoldable pub message_command : Tree → ℕ → ℕ → ℕ → ℕ → Variables → Made
message_command t i sender seqno info v =
    cond (eqb seqno v.seqno)
    (record { variables = with_sets v v.sendto v.ackfrom (join v.ackto (single sender)); sent = [] })
    (cond (ltb seqno v.seqno)
    (record { variables = v; sent = Acknowledgement i sender seqno ∷ [] })
    (record {
      variables = record { seqno = seqno; info = info; sendto = SUCC t (single i); ackfrom = 0; ackto = single sender; r = i };
      sent = ack_all i v;
    }))

-- ---- [] ackto ≠ Φ ∧ (r = b ∨ (sendto = Φ ∧ ackfrom = Φ)) → (∀p: p ∈ ackto: p!!ack(m)); ackto := Φ

abbrev pub ack_guard : Tree → Variables → Bool
ack_guard t v = not (is_empty v.ackto) && (eqb v.r t.root || (is_empty v.sendto && is_empty v.ackfrom))

unfoldable pub ack_command : ℕ → Variables → Made
ack_command i v = record { variables = with_sets v v.sendto v.ackfrom 0; sent = ack_all i v }

-- ---- For processor b: ackfrom = Φ ∧ sendto = Φ → Delay until a new message is ready to be broadcast;
--      m := (sender: b, seqno: next sequence number, info: new message); sendto := SUCC({b})

abbrev pub broadcast_guard : Variables → Bool
broadcast_guard v = is_empty v.ackfrom && is_empty v.sendto

unfoldable pub broadcast_command : Tree → ℕ → Variables → Made
broadcast_command t info v =
    record {
      variables = record { seqno = v.seqno + 1; info = info; sendto = SUCC t (single t.root); ackfrom = v.ackfrom; ackto = v.ackto; r = v.r };
      sent = [];
    }

-- ---- watching the sender, the optimisation at the end of section 3.2, with what document 02, Point 9, asks of b: three guards change, and no body

-- "This allows "failed(b)" to be replaced by "failed(m.sender)" in the protocol"
abbrev pub sender_takeover_guard : Tree → ℕ → ℕ → ℕ → Variables → Bool
sender_takeover_guard t i FAILED sender v =
    let b = t.root in
    not (eqb i b) && (has FAILED sender && (not (eqb v.r b) && (is_empty v.ackfrom && is_empty v.sendto)))

-- of b: "its `ack` is 6 while it sends or awaits"
abbrev pub sender_root_ack_guard : Variables → Bool
sender_root_ack_guard v = not (is_empty v.ackto) && (is_empty v.sendto && is_empty v.ackfrom)

-- of b: "an order is 7 while it owes anyone"
abbrev pub sender_broadcast_guard : Variables → Bool
sender_broadcast_guard v = (is_empty v.ackfrom && is_empty v.sendto) && is_empty v.ackto
