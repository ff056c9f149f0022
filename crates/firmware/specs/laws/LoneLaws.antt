-- How the code finds the next step, rest and a return: by the own conditions of the steps, once the tree and the state are valid. Assumes nothing.
use Rattle.std.specs.Prelude.{ℕ, ◌^◌, ◌≤◌, ◌<◌, ◌≡◌, Bool, ◌&&◌, ◌||◌}
use Rattle.std.proofs.Math.Path.{refl, sym, ap, ap₂}
use Rattle.std.proofs.Common.{◌∙◌, true≢false, arith, eqb-true}
use Rattle.std.proofs.Math.Bool.{true, false, not, cond}
use mathlib.Core.List.{List, [], ◌∷◌}
use Rattle.std.proofs.Math.Dec.{eqb, leb}
use Rattle.std.proofs.Math.Pow.{pow_mono}
use Rattle.std.proofs.lemmas.Bool.{not-false}
use Rattle.column.specs.Refusals.{first, earlier}
use Rattle.column.specs.laws.RefusalLaws.{passed, earlier_none}
use Rattle.column.specs.Sets.{has}
use Rattle.column.specs.laws.SetLaws.{within_lt}
use Rattle.column.specs.laws.StateLaws.{validity_refusal_sixteen}
use Rattle.column.specs.Trees.{choose}
use Rattle.column.specs.Columns.{validity_refusal, watched, may_acknowledge}
use Rattle.column.specs.Steps as core
use Rattle.column.specs.Steps.{send_conditions, send_refusal, send_effect, ack_conditions, ack_refusal, ack_effect, all_conditions, all_refusal, all_effect}
use Rattle.column.specs.declared.tree.Tree.{Tree}
use Rattle.column.specs.declared.state.Column.{Column}
use Rattle.column.specs.declared.packet.Packet.{Packet}
use Rattle.firmware.specs.LoneSteps.{or_else, next, is_refused, rests, rejoin_conditions, rejoin_refusal, strike_refusal}
use Rattle.firmware.specs.inner.StepCalls.{refuses, own_rests, acknowledges}

-- a step by its own conditions, where those before them refuse by n
abbrev step_by : ℕ → List (ℕ × Bool) → Column → core.Result → core.Result
step_by n conditions c effect = core.unless (earlier n (first conditions)) c effect

accepts : (effect : core.Result) → is_refused effect ≡ false → (r : core.Result) → or_else effect r ≡ effect
unfolding is_refused or_else
accepts (core.accepted c ps left) e r = refl
accepts (core.refused n c) e r = absurd (true≢false e)

-- the conditions of send, ack and all by their tests: running, nobody to send to, nobody owed, may acknowledge, the root, noted, whole, nobody awaited
ladder : (b z o m r h w a : Bool)
    → (not (eqb (cond (not b) 5 (cond z 6 0)) 0)
    && (not (eqb (cond (not b) 5 (cond o 6 (cond (not m) 6 0))) 0)
    && not (eqb (cond (not b) 5 (cond r 6 (cond (not h) 6 (cond w 6 (cond (not (z && a)) 6 0))))) 0)))
    ≡ cond (not b) true (cond (not z) false (cond (not o && m) false (cond r true (cond (not h) true (w || not a)))))
ladder false z o m r h w a = refl
ladder true false o m r h w a = refl
ladder true true false true r h w a = refl
ladder true true false false true h w a = refl
ladder true true false false false false w a = refl
ladder true true false false false true true a = refl
ladder true true false false false true false true = refl
ladder true true false false false true false false = refl
ladder true true true m true h w a = refl
ladder true true true m false false w a = refl
ladder true true true m false true true a = refl
ladder true true true m false true false true = refl
ladder true true true m false true false false = refl

-- the same step whatever is asked
either : (z x : Bool) (r : core.Result) → cond (not z) r (cond x r r) ≡ r
either true true r = refl
either true false r = refl
either false x r = refl

choice : (c : Column) (n : ℕ) (a : Bool) → eqb n 0 ≡ a → (b z o m : Bool) (rest : ℕ) (sent acked taken : core.Result)
    → ((r : core.Result) → or_else sent r ≡ sent) → ((r : core.Result) → or_else acked r ≡ acked)
    → cond (not z)
    (core.unless (cond a (cond (not b) 5 (cond z 6 0)) n) c sent)
    (cond (not o && m)
    (core.unless (cond a (cond (not b) 5 (cond o 6 (cond (not m) 6 0))) n) c acked)
    (core.unless (cond a (cond (not b) 5 rest) n) c taken))
    ≡ or_else (core.unless (cond a (cond (not b) 5 (cond z 6 0)) n) c sent)
    (or_else (core.unless (cond a (cond (not b) 5 (cond o 6 (cond (not m) 6 0))) n) c acked)
    (core.unless (cond a (cond (not b) 5 rest) n) c taken))
unfolding or_else
choice c n false e b z o m rest sent acked taken s k = rw e (either z (not o && m) (core.refused n c))
choice c n true e false z o m rest sent acked taken s k = either z (not o && m) (core.refused 5 c)
choice c n true e true false o m rest sent acked taken s k = sym (s _)
choice c n true e true true true m rest sent acked taken s k = refl
choice c n true e true true false true rest sent acked taken s k = sym (k _)
choice c n true e true true false false rest sent acked taken s k = refl

module _ (t : Tree) (i : ℕ) (c : Column) where
  abbrev n : ℕ
  n = validity_refusal t i c

  -- ---- effects are accepted

  send_accepts : is_refused (send_effect t i c) ≡ false
  unfolding send_effect is_refused
  send_accepts = go _ _ _ _ (eqb (choose t c.send) i) (has c.noted (choose t c.send))
    where
      go : (x y z : Column) (p : List Packet) (a b : Bool) → is_refused (cond a (core.accepted x [] false) (cond b (core.accepted y [] false) (core.accepted z p false))) ≡ false
      go x y z p true b = refl
      go x y z p false true = refl
      go x y z p false false = refl

  -- whether a step is refused, where the tree and the state are valid
  refused_by : (conditions : List (ℕ × Bool)) (effect : core.Result) → is_refused effect ≡ false → n ≡ 0 → is_refused (step_by n conditions c effect) ≡ refuses conditions
  unfolding is_refused
  refused_by conditions effect a e = rw e (go (eqb (first conditions) 0))
    where
      go : (b : Bool) → is_refused (cond b effect (core.refused (first conditions) c)) ≡ not b
      go true = a
      go false = refl

  -- the own conditions of rest one after the other
  rests_ladder : own_rests t i c
      ≡ cond (not c.running) true
      (cond (not (eqb c.send 0)) false
      (cond (acknowledges t i c) false
      (cond (eqb i t.root) true (cond (not (has c.noted (watched t c))) true (c.whole || not (eqb c.awaited 0))))))
  unfolding acknowledges
  rests_ladder =
      ladder c.running (eqb c.send 0) (eqb c.owed 0) (may_acknowledge t i c) (eqb i t.root) (has c.noted (watched t c)) c.whole (eqb c.awaited 0)

  pub rest_halted : c.running ≡ false → own_rests t i c ≡ true
  rest_halted r = rests_ladder ∙ rw r

  module _ (r : c.running ≡ true) where
    pub rest_sends : eqb c.send 0 ≡ false → own_rests t i c ≡ false
    rest_sends s = rests_ladder ∙ rw (r, s)

    module _ (s : eqb c.send 0 ≡ true) where
      pub rest_acknowledges : acknowledges t i c ≡ true → own_rests t i c ≡ false
      rest_acknowledges a = rests_ladder ∙ rw (a, r, s)

      module _ (a : acknowledges t i c ≡ false) where
        pub rest_root : eqb i t.root ≡ true → own_rests t i c ≡ true
        rest_root k = rests_ladder ∙ rw (a, r, s, k)

        module _ (k : eqb i t.root ≡ false) where
          pub rest_watched : has c.noted (watched t c) ≡ false → own_rests t i c ≡ true
          rest_watched w = rests_ladder ∙ rw (a, r, s, k, w)

          pub rest_noted : has c.noted (watched t c) ≡ true → own_rests t i c ≡ (c.whole || not (eqb c.awaited 0))
          rest_noted w = rests_ladder ∙ rw (a, r, s, k, w)

  pub rests_by : n ≡ 0 → rests t i c ≡ own_rests t i c
  unfolding send_refusal ack_refusal all_refusal ack_effect all_effect is_refused
  rests_by e =
      let s = refused_by (send_conditions t i c) (send_effect t i c) send_accepts e in
      let a = refused_by (ack_conditions t i c) (ack_effect i c) refl e in
      let l = refused_by (all_conditions t i c) (all_effect t c) refl e in
      ap₂ (λ (x y : Bool). not c.running || (x && y)) s (ap₂ (λ (x y : Bool). x && y) a l) ∙ go c.running refl
    where
      go : (b : Bool) → c.running ≡ b → (not b || own_rests t i c) ≡ own_rests t i c
      go true h = refl
      go false h = sym (rests_ladder ∙ rw h)

  -- ---- the next step, chosen by the own conditions

  chosen_next : cond (not (eqb c.send 0)) (core.send t i c) (cond (acknowledges t i c) (core.ack t i c) (core.all t i c)) ≡ next t i c
  unfolding send_refusal ack_refusal all_refusal ack_effect or_else acknowledges
  chosen_next =
      choice c n (eqb n 0) refl c.running (eqb c.send 0) (eqb c.owed 0) (may_acknowledge t i c) _ (send_effect t i c) (ack_effect i c) (all_effect t c)
      (accepts (send_effect t i c) send_accepts) (λ r. refl)

  pub next_sends : eqb c.send 0 ≡ false → core.send t i c ≡ next t i c
  next_sends s = rw s at chosen_next

  module _ (s : eqb c.send 0 ≡ true) where
    pub next_acknowledges : acknowledges t i c ≡ true → core.ack t i c ≡ next t i c
    next_acknowledges a = rw (s, a) at chosen_next

    pub next_takes_over : acknowledges t i c ≡ false → core.all t i c ≡ next t i c
    next_takes_over a = rw (s, a) at chosen_next

  -- ---- a column that strikes another: its refusal with rest by the own conditions

  pub strike_by : (back : ℕ) → earlier n (first ((4, leb t.columns back) ∷ (4, eqb back i) ∷ (14, not (own_rests t i c)) ∷ [])) ≡ strike_refusal t i c back
  unfolding strike_refusal
  strike_by back = go (eqb n 0) refl
    where
      go : (b : Bool) → eqb n 0 ≡ b
          → cond b (first ((4, leb t.columns back) ∷ (4, eqb back i) ∷ (14, not (own_rests t i c)) ∷ [])) n
          ≡ cond b (first ((4, leb t.columns back) ∷ (4, eqb back i) ∷ (14, not (rests t i c)) ∷ [])) n
      go true e = ap (λ (r : Bool). first ((4, leb t.columns back) ∷ (4, eqb back i) ∷ (14, not r) ∷ [])) (sym (rests_by (eqb-true n 0 e)))
      go false e = refl

  -- ---- a column that comes back: those that remain halted are a mask of sixteen

  pub rejoin_halted : (copied halted : ℕ) → rejoin_refusal t i c copied halted ≡ 0 → halted < 2 ^ 16
  unfolding rejoin_refusal
  rejoin_halted copied halted e =
      let q = earlier_none n (first (rejoin_conditions t i c copied halted)) e in
      let below : halted < 2 ^ t.columns = within_lt halted t.columns (not-false _ (passed (rejoin_conditions t i c copied halted) tt q.1).0) in
      let small : 2 ^ t.columns ≤ 2 ^ 16 = pow_mono (validity_refusal_sixteen t i c q.0) in
      omega (arith, below, small)
