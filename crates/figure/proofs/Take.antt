-- The step take and the commands `??ack(a)` and `??msg(new)`.
-- Assumes nothing.
use Prim.Native.Nat.{ℕ, suc, ◌<◌, ◌≤◌}
use mathlib.Core.Path.{◌≡◌, refl, sym, ap₂, subst, ◌∙◌}
use mathlib.Core.Bool.{Bool, true, false, cond}
use mathlib.Core.List.{[]}
use native.Mathlib.Omega.{arith}
use lib.Dec.{eqb, ltb}
use borrow.Author.Tests.{eqb-false, ltb-false, eq-eqb, ne_eqb, le-ltb}
use Rattle.column.specs.Sets.{single, without}
use Rattle.column.specs.Columns.{with_sets}
use Rattle.column.specs.Packets.{receiver}
use Rattle.column.specs.Steps as steps
use Rattle.column.specs.Steps.{Result, accepted, packet_refusal, take_refusal, acknowledge_lowest, acknowledgement_effect, message_effect, receive_effect}
use Rattle.column.specs.declared.tree.Tree.{Tree}
use Rattle.column.specs.declared.state.Column.{Column}
use Rattle.column.specs.declared.packet.Packet.{Packet}
use Rattle.column.specs.declared.packet.Packet.TheVariants.{Message, Acknowledgement}
use Rattle.figure.specs.Figure.{Variables, Made, makes, aborts, SUCC, ack_all, acknowledgement_command, message_command}
use Rattle.figure.specs.Comparison.{variables_of, Ready, Makes, Passes, AcknowledgementCompares, MessageCompares, repeat_take, RepeatMakes}
use Rattle.figure.proofs.Refusals.{goes}
use Rattle.figure.proofs.Commands.{successors, own_goal, makes_of, makes_either, makes_goes}
use Rattle.figure.proofs.Owed.{struck, none_acknowledged, lowest_acknowledged, serve_all, served}

take_refusal_lem : (t : Tree) (i : ℕ) (c : Column) → Ready t i c → (p : Packet) → Passes t i c p → take_refusal t i c p ≡ 0
unfolding take_refusal
take_refusal_lem t i c ready p passes = simp (ready.good, passes.0, eq-eqb (receiver p) i passes.1, ready.runs)

-- a number above one is neither equal to it nor lower
cond_higher : {A : Type 0} (m n : ℕ) (x y z : A) → m < n → cond (eqb n m) x (cond (ltb n m) y z) ≡ z
cond_higher m n x y z h = simp (ne_eqb n m (λ e. omega arith), le-ltb n m (omega arith))

-- ---- an acknowledgement

module _ (t : Tree) (i : ℕ) (c : Column) (ready : Ready t i c) (from number : ℕ) where
  ended : {result : Result} {made : Made} → Makes t i c.noted result made
      → (other : Made) → makes made ≡ makes other → Makes t i c.noted result other
  ended {result} {made} m other e =
      let same : made ≡ other = cc in
      subst (λ (x : Made). Makes t i c.noted result x) same m

  acknowledgement_effect_lem : (made : Made) → acknowledgement_command from number (variables_of t i c) ≡ makes made
      → Makes t i c.noted (acknowledgement_effect c from number) made
  unfolding acknowledgement_command acknowledgement_effect
  acknowledgement_effect_lem = go (eqb number c.number) (ltb number c.number)
    where
      waits : Column
      waits = with_sets c c.send (without c.awaited from) c.owed

      go : (equal lower : Bool) (made : Made)
          → cond equal
          (makes (record { variables = variables_of t i waits; sent = [] }))
          (cond lower (makes (record { variables = variables_of t i c; sent = [] })) aborts)
          ≡ makes made
          → Makes t i c.noted (cond equal (accepted waits [] false) (accepted c [] false)) made
      go true lower made e = ended (makes_of refl ready.runs) made e
      go false true made e = ended (makes_of refl ready.runs) made e
      go false false made e = let z : ◌≡◌ {A = ℕ} 0 1 = cc in absurd (omega arith)

  pub acknowledgement_compares : Passes t i c (Acknowledgement from i number) → AcknowledgementCompares t i c from number
  unfolding acknowledgement_command acknowledgement_effect
  acknowledgement_compares passes =
      let taken = take_refusal_lem t i c ready (Acknowledgement from i number) passes in
      record {
        does = λ made e. makes_goes c taken (acknowledgement_effect_lem made e);
        higher = λ h. cond_higher c.number number _ _ _ h;
        nothing = λ h. goes c (acknowledgement_effect c from number) taken ∙ rw (ne_eqb number c.number (λ e. omega arith));
      }

-- ---- a message

module _ (t : Tree) (i from number doors : ℕ) where
  abbrev packet : Packet
  packet = Message from i number doors

  message_effect_lem : (c : Column) → Ready t i c → number ≤ c.number
      → Makes t i c.noted (message_effect t i c from number doors) (message_command t i from number doors (variables_of t i c))
  unfolding message_effect message_command
  message_effect_lem c ready le =
      makes_either (eqb number c.number)
      (λ e. makes_of refl ready.runs)
      (λ ne. makes_either (ltb number c.number)
      (λ e. makes_of refl ready.runs)
      (λ nl. absurd (eqb-false number c.number ne (omega (arith, ltb-false number c.number nl)))))

  -- a higher number received: those owed are acknowledged, and the message is new
  abbrev renewed : ℕ → Variables
  renewed s = record { seqno = number; info = doors; sendto = s; ackfrom = 0; ackto = single from; r = i }

  abbrev received : Column → Made
  received c = record { variables = renewed (SUCC t (single i)); sent = ack_all i (variables_of t i c) }

  command_is : (c : Column) → c.number < number → message_command t i from number doors (variables_of t i c) ≡ received c
  unfolding message_command
  command_is c higher = cond_higher c.number number _ _ _ higher

  module _ (passes : packet_refusal t packet ≡ 0) where
    takes : (c : Column) → Ready t i c → c.number < number
        → steps.take t i c packet ≡ cond (eqb c.owed 0) (receive_effect t i c from number doors) (acknowledge_lowest i c true)
    unfolding message_effect
    takes c ready higher =
        goes c (message_effect t i c from number doors) (take_refusal_lem t i c ready packet (passes, refl))
        ∙ cond_higher c.number number _ _ _ higher

    abbrev Served : ℕ → Column → Type 0
    Served n c = c.number < number → RepeatMakes t i c.noted (repeat_take (suc n) t i c packet) (received c)

    nobody_owed : (n : ℕ) (c : Column) → Ready t i c → c.owed ≡ 0 → Served n c
    unfolding repeat_take receive_effect
    nobody_owed n c ready none higher = rw (takes c ready higher, eq-eqb c.owed 0 none) (record {
      through = refl;
      put = sym (none_acknowledged i (variables_of t i c) none);
      variables = ap₂ (λ (s r : ℕ). record { seqno = number; info = doors; sendto = s; ackfrom = 0; ackto = single from; r = r }) (sym (successors t i)) (own_goal t i);
      keeps_noted = refl;
      keeps_running = ready.runs;
    })

    one_owed : (n : ℕ) (c : Column) → Ready t i c → eqb c.owed 0 ≡ false → Served n (struck c) → Served (suc n) c
    unfolding repeat_take
    one_owed n c ready some rest higher =
        rw (takes c ready higher, some) (served _ (rest higher) refl (lowest_acknowledged t i c ready some))

    pub message_compares : (c : Column) → Ready t i c → MessageCompares t i c from number doors
    message_compares c ready = record {
      does = λ le. makes_goes c (take_refusal_lem t i c ready packet (passes, refl)) (message_effect_lem c ready le);
      higher = λ higher. rw (command_is c higher) (serve_all t i Served nobody_owed one_owed c ready higher);
    }
