-- Those owed, served lowest first: a column that has struck out the lowest is as ready as before and owes one less.
-- Assumes nothing.
use Prim.Native.Nat.{ℕ, zero, suc, ◌+◌, ◌^◌, ◌<◌, ◌≤◌}
use mathlib.Core.Path.{◌≡◌, refl, sym, ap, ◌∙◌}
use mathlib.Core.Bool.{Bool, true, false, not, ◌&&◌}
use mathlib.Core.List.{List, [], ◌∷◌, map}
use native.Mathlib.Omega.{arith}
use lib.Count.{ones, ones-le}
use lib.Dec.{eqb}
use borrow.Author.Tests.{eqb-true, eqb-false}
use Rattle.column.specs.Sets.{has, without, lowest, within}
use Rattle.column.specs.laws.SetLaws.{has_without, without_lt, within_lt, lt_within, member_lt, ones_without}
use Rattle.column.specs.laws.Digits.{lowest_member}
use Rattle.column.specs.Columns.{with_sets}
use Rattle.column.specs.declared.tree.Tree.{Tree}
use Rattle.column.specs.declared.state.Column.{Column}
use Rattle.column.specs.declared.packet.Packet.{Packet}
use Rattle.column.specs.declared.packet.Packet.TheVariants.{Acknowledgement}
use Rattle.figure.specs.Figure.{Made, Variables, ack_all}
use Rattle.figure.specs.Comparison.{variables_of, Ready, Repeated, after, RepeatMakes}
use Rattle.figure.proofs.Refusals.{Valid, valid, validity_refusal_of, set_lt}
use Rattle.figure.proofs.Members.{members_empty, members_lowest}

abbrev pub struck : Column → Column
struck c = with_sets c c.send c.awaited (without c.owed (lowest c.owed))

pub none_acknowledged : (i : ℕ) (v : Variables) → v.ackto ≡ 0 → ack_all i v ≡ []
none_acknowledged i v e = rw (e, members_empty 16)

module _ (t : Tree) (i : ℕ) (c : Column) (ready : Ready t i c) where
  rows : Valid t i c
  rows = valid t i c ready.good

  owed_lt : c.owed < 2 ^ 16
  owed_lt = set_lt t c.owed rows.tree rows.owed

  module _ (some : eqb c.owed 0 ≡ false) where
    abbrev next : ℕ
    next = lowest c.owed

    owed_some : 0 < c.owed
    owed_some = go c.owed (eqb-false c.owed 0 some)
      where
        go : (m : ℕ) → (m ≡ 0 → ⊥) → 0 < m
        go zero h = absurd (h refl)
        go (suc m) h = omega arith

    is_owed : has c.owed next ≡ true
    is_owed = lowest_member 16 c.owed owed_lt owed_some

    struck_within : within (without c.owed next) t.columns ≡ true
    struck_within =
        let lt = within_lt c.owed t.columns rows.owed in
        let below = member_lt t.columns c.owed next lt is_owed in
        lt_within (without c.owed next) t.columns (without_lt t.columns c.owed next lt below)

    struck_ready : Ready t i (struck c)
    struck_ready = record {
      good = validity_refusal_of t i (struck c) (record {
        tree = rows.tree;
        below = rows.below;
        send = rows.send;
        awaited = rows.awaited;
        owed = struck_within;
        noted = rows.noted;
        not_itself = has_without c.owed next i ∙ ap (λ (b : Bool). b && not (eqb i next)) rows.not_itself;
        root_whole = rows.root_whole;
        sender = rows.sender;
      });
      runs = ready.runs;
    }

    one_less : ones (struck c).owed + 1 ≡ ones c.owed
    one_less = ones_without next c.owed is_owed

    pub lowest_acknowledged : ack_all i (variables_of t i c) ≡ Acknowledgement i next c.number ∷ ack_all i (variables_of t i (struck c))
    lowest_acknowledged = ap (map (λ p. Acknowledgement i p c.number)) (members_lowest c.owed owed_lt owed_some)

-- what holds of a column that owes nobody, and of one where it holds of the column that has struck out the lowest, with one step
-- less, holds with as many steps as are owed
module _ (t : Tree) (i : ℕ) (P : ℕ → Column → Type 0)
    (none : (n : ℕ) (c : Column) → Ready t i c → c.owed ≡ 0 → P n c)
    (some : (n : ℕ) (c : Column) → Ready t i c → eqb c.owed 0 ≡ false → P n (struck c) → P (suc n) c) where
  serve : (n : ℕ) (c : Column) → Ready t i c → ones c.owed ≤ n → P n c
  serve zero c ready few = go (eqb c.owed 0) refl
    where
      go : (b : Bool) → eqb c.owed 0 ≡ b → P 0 c
      go true e = none 0 c ready (eqb-true c.owed 0 e)
      go false e = absurd (omega (arith, one_less t i c ready e))
  serve (suc n) c ready few = go (eqb c.owed 0) refl (serve n (struck c))
    where
      go : (b : Bool) → eqb c.owed 0 ≡ b → (Ready t i (struck c) → ones (struck c).owed ≤ n → P n (struck c)) → P (suc n) c
      go true e rest = none (suc n) c ready (eqb-true c.owed 0 e)
      go false e rest = some n c ready e (rest (struck_ready t i c ready e) (omega (arith, one_less t i c ready e)))

  -- at most sixteen are owed
  pub serve_all : (c : Column) → Ready t i c → P 16 c
  serve_all c ready = serve 16 c ready (ones-le 16 c.owed (owed_lt t i c ready))

-- one packet put before a repeated step that makes what a command makes
pub served : {t : Tree} {i noted : ℕ} {repeated : Repeated} {made later : Made} (p : Packet)
    → RepeatMakes t i noted repeated later → later.variables ≡ made.variables → made.sent ≡ p ∷ later.sent
    → RepeatMakes t i noted (after (p ∷ []) repeated) made
served p makes same sent = record {
  through = makes.through;
  put = ap (λ (l : List Packet). p ∷ l) makes.put ∙ sym sent;
  variables = makes.variables ∙ same;
  keeps_noted = makes.keeps_noted;
  keeps_running = makes.keeps_running;
}
